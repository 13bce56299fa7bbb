-- What each list is of the history.
use Rattle.std.specs.Prelude.{ℕ, All, Bool, true, false, not, List, [], ◌∷◌, ◌≡◌, ◌≢◌, ◌==◌, ◌+◌, ◌++◌, ◌<◌, ◌≤◌, Option, None, Some, drop, length, map, reverse, slice_index_or, take, unwrap_or, ⊤, if◌then◌else◌}
use Rattle.std.specs.Option.{option_map, option_map_or, option_to_list}
use Rattle.page_ids.specs.Chunks.{chunks_of}
use Rattle.page_ids.specs.Midpoint.{numbers_of, count_of, under, read_in, touch}
use Rattle.page_ids.specs.declared.ids.PageId.{PageId}
use Rattle.page_ids.specs.declared.config.Config.{Config}
use Rattle.midpoint_lru.specs.View.{View}
use Rattle.flush_list.specs.View.{Node, View as Flush, without}
use Rattle.trail.specs.declared.event.Dirty.{Dirty}
use Rattle.trail.specs.declared.event.Entry.{Entry}
use Rattle.trail.specs.declared.event.Hand.{Hand}
use Rattle.trail.specs.declared.event.Kind.{Kind}
use Rattle.trail.specs.declared.event.Kind.TheVariants as kind
use Rattle.trail.specs.Trails.{mark}
use Rattle.trail.specs.History.{home}
use Rattle.trail.specs.Book.{Book, book, is_holder, is_late}
use Rattle.trail.specs.Dirt.{dirty, dirt_of, is_dirty, log_end}
use Rattle.trail.specs.Order.{order}
use Rattle.instance_lists.specs.Ledger.{IsVacant}
use Rattle.instance_lists.specs.Walk.{is_in_frame}

-- whether the entry leaves all lists
abbrev pub is_quiet : Kind → Bool
is_quiet (kind.Load p f) = false
is_quiet (kind.Fix p f clock now) = false
is_quiet (kind.Create p f start end now) = false
is_quiet (kind.Put p at bytes start end) = false
is_quiet (kind.Evict p f passed) = false
is_quiet (kind.Write p lsn upto) = false
is_quiet (kind.Move p from to) = false
is_quiet (kind.Withdraw from) = false
is_quiet (kind.Undo from) = false
is_quiet (kind.Shrink chunks) = false
is_quiet (kind.Grow chunks) = false
is_quiet (kind.Resize bytes chunks) = true
is_quiet (kind.Clean written skipped) = true
is_quiet (kind.Check lsn) = true
is_quiet (kind.WatchSet p) = true
is_quiet (kind.WatchAt p f) = true
is_quiet (kind.Occurred p arrived) = true
is_quiet (kind.Unwatch p) = true
is_quiet (kind.Dump pct ids) = true
is_quiet (kind.Refused asked why) = not (is_late asked why)

-- such a number is not in the list
abbrev pub Absent : ℕ → List ℕ → Type 0
Absent f [] = ⊤
Absent f (g ∷ gs) = (f ≢ g) × Absent f gs

-- no number is in the list twice, and each is below the bound
abbrev pub AreOnceBelow : ℕ → List ℕ → Type 0
AreOnceBelow n [] = ⊤
AreOnceBelow n (f ∷ fs) = (f < n) × Absent f fs × AreOnceBelow n fs

-- the frames in the order in which they are taken: the one in hand, then the free ones
abbrev pub in_turn : Option Hand → List ℕ → List ℕ
in_turn hand free = option_map_or (λ (x : Hand). x.frame ∷ free) hand free

-- the first of these at their back
abbrev pub turned : List ℕ → List ℕ
turned fs = drop 1 fs ++ take 1 fs

-- what is in the hand of this call, and what is in another's
abbrev pub own_hand : ℕ → ℕ → Option Hand → Option Hand
own_hand c n hand = option_map_or (λ (x : Hand). if is_holder c n x then Some x else None) hand None

abbrev pub others_hand : ℕ → ℕ → Option Hand → Option Hand
others_hand c n hand = option_map_or (λ (x : Hand). if is_holder c n x then None else Some x) hand None

-- the book of one chunk, and nothing withdrawn
abbrev pub plain_book : Config → List ℕ → List Hand → Book
plain_book c free hands = record { chunks = chunks_of c; area = None; free = free; withdrawn = []; hands = hands }

-- the page that the frame had last
abbrev pub tenant_in : List PageId → ℕ → PageId
tenant_in tenants f = slice_index_or tenants f (record { space = 0; page = 0 })

-- a frame of the chunk that is not among these is the home of the page that it had last
abbrev pub AreOthersUsed : Config → List Entry → List PageId → List ℕ → Type 0
AreOthersUsed c h tenants fs = (f : ℕ) → f < c.frames → Absent f fs → home h (tenant_in tenants f) ≡ Some f

-- the map of homes is that of the history, and each resident page is the one that its frame had last
pub record KeepsHomes (c : Config) (h : List Entry) (homes : PageId → Option ℕ) (tenants : List PageId) : Type 0 where
  pub homes_are : (p : PageId) → homes p ≡ home h p
  pub housed : (p : PageId) (f : ℕ) → home h p ≡ Some f → f < c.frames
  pub tenants_are : (p : PageId) (f : ℕ) → home h p ≡ Some f → tenant_in tenants f ≡ p
  pub tenant_count : length tenants ≡ c.frames

-- the free frames and the one in hand are those of the history, and no page's home
pub record KeepsBook (c : Config) (h : List Entry) (free : List ℕ) (hand : Option Hand) : Type 0 where
  pub book_is : book c h ≡ plain_book c free (option_to_list hand)
  pub distinct : AreOnceBelow c.frames (in_turn hand free)
  pub taken : (p : PageId) (f : ℕ) → home h p ≡ Some f → Absent f (in_turn hand free)

-- a dirty page as the flush list has it: by its home
abbrev pub node_of : List Entry → Dirty → Node
node_of h d = record { frame = unwrap_or (home h d.page) 0; oldest = d.oldest }

-- the LSN behind the last change of a dirty page; none of a clean one
abbrev pub dirty_lsn : List Entry → PageId → Option ℕ
dirty_lsn h p = option_map (λ (d : Dirty). d.newest) (dirt_of (dirty h) p)

-- and as it is kept of a frame
abbrev pub newest_in : List (Option ℕ) → ℕ → Option ℕ
newest_in newest f = slice_index_or newest f None

-- no change of these pages lies behind the LSN
abbrev pub AreLogged : ℕ → List Dirty → Type 0
AreLogged end ds = All (λ d. (d.oldest ≤ end) × (d.newest ≤ end)) ds

-- The flush list from its head is the history's list of dirty pages read backwards, each by its home, which it has. A home's newest LSN is
-- its page's, and a vacant frame has none. No change of a dirty page lies behind the log's end.
pub record KeepsDirty (c : Config) (h : List Entry) (newest : List (Option ℕ)) (flush : Flush) : Type 0 where
  pub listed_are : flush.listed ≡ map (node_of h) (reverse (dirty h))
  pub room_is : flush.room ≡ c.frames
  pub clean : (p : PageId) → home h p ≡ None → is_dirty h p ≡ false
  pub newest_are : (p : PageId) (f : ℕ) → home h p ≡ Some f → newest_in newest f ≡ dirty_lsn h p
  pub vacant : (f : ℕ) → IsVacant h f → newest_in newest f ≡ None
  pub newest_count : length newest ≡ c.frames
  pub logged : AreLogged (log_end h) (dirty h)

-- the flush list behind a change of the page in a frame: one that has a newest LSN stays, another one comes to the head
abbrev pub after_change : ℕ → ℕ → Option ℕ → Flush → Flush
after_change f start None v = record v { listed = record { frame = f; oldest = start } ∷ v.listed }
after_change f start (Some n) v = v

-- and behind its write
abbrev pub after_write : ℕ → Option ℕ → Flush → Flush
after_write f None v = v
after_write f (Some n) v = record v { listed = without f v.listed }

-- the LRU list behind a page that was made in a frame: it was read in, and touched at this moment
abbrev pub after_making : ℕ → ℕ → View → View
after_making f now v = record v { order = touch ◌==◌ v.numbers f now (read_in v.numbers f v.order) }

-- the list of frames is the history's list of pages under other names, and has each page's home once
pub record KeepsOrder (c : Config) (h : List Entry) (tenants : List PageId) (lru : View) : Type 0 where
  pub numbers_are : lru.numbers ≡ numbers_of c
  pub room_is : lru.room ≡ c.frames
  pub order_is : order c h ≡ under (tenant_in tenants) lru.order
  pub counted : (f : ℕ) → count_of (λ g. g == f) lru.order.listed ≡ (if is_in_frame h f (tenant_in tenants f) then 1 else 0)
  pub evicts : lru.order.evicts ≤ length h

-- all lists, where so many frames have room in the free list
pub record AreKept (c : Config) (h : List Entry) (homes : PageId → Option ℕ) (tenants : List PageId) (free : List ℕ) (hand : Option Hand) (newest : List (Option ℕ)) (flush : Flush) (lru : View) (seats : ℕ) : Type 0 where
  pub one : chunks_of c ≡ 1
  pub places : mark c.first h ≡ c.first + length h
  pub homed : KeepsHomes c h homes tenants
  pub booked : KeepsBook c h free hand
  pub used : AreOthersUsed c h tenants (in_turn hand free)
  pub soiled : KeepsDirty c h newest flush
  pub ordered : KeepsOrder c h tenants lru
  pub frames : c.frames ≤ seats
  pub seated : length (in_turn hand free) ≤ seats
