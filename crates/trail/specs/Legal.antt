-- Which events are legal: where they stand, which call they belong to, and what they say of pages. An entry is judged by the history before it and
-- its caller's own events, a receipt by the history at its place and its caller's own events. The newest stands first.
use Rattle.std.specs.Prelude.{ℕ, Bool, true, false, not, List, [], ◌∷◌, ◌++◌, ◌≡◌, ◌+◌, ◌*◌, ◌/◌, ◌<◌, ◌≤◌, ◌⊎◌, Option, None, Some, IfSome, IsSome, IsSomeAnd, IsTrue, Contains, filter, slice_range, length, map, take, ⊤}
use Rattle.std.specs.List.{AllByRecursion}
use Rattle.std.specs.Option.{option_map, option_map_or, option_to_list}
use Rattle.page_ids.specs.Chunks.{unit_of}
use Rattle.page_ids.specs.Content.{Content, IsRange}
use Rattle.page_ids.specs.FrameWord.{is_latched}
use Rattle.page_ids.specs.Midpoint.{Listed}
use Rattle.page_ids.specs.Size.{page_bytes}
use Rattle.page_ids.specs.declared.ids.PageId.{PageId}
use Rattle.page_ids.specs.declared.config.Config.{Config}
use Rattle.page_ids.specs.declared.frame_word.Word.{Word}
use Rattle.page_ids.specs.declared.limits.TheConstants.{RECORD_BYTES}
use Rattle.trail.specs.declared.event.Dirty.{Dirty}
use Rattle.trail.specs.declared.event.Kind.{Kind}
use Rattle.trail.specs.declared.event.Kind.TheVariants as kind
use Rattle.trail.specs.declared.event.Note.{Note}
use Rattle.trail.specs.declared.event.Note.TheVariants as note
use Rattle.trail.specs.declared.event.Entry.{Entry}
use Rattle.trail.specs.declared.event.Receipt.{Receipt}
use Rattle.trail.specs.declared.event.Event.{Event}
use Rattle.trail.specs.declared.event.Event.TheVariants as event
use Rattle.trail.specs.Trails.{Opening, mark}
use Rattle.trail.specs.Kinds.{Writing, write_in}
use Rattle.trail.specs.History.{home, change, value}
use Rattle.trail.specs.Book.{Book, book, next_frame, is_in}
use Rattle.trail.specs.Dirt.{dirty, log_end, pages_of}
use Rattle.trail.specs.Order.{order}
use Rattle.trail.specs.Watches.{Watch, watch_of}
use Rattle.trail.specs.Words.{frames_told}
use Rattle.trail.specs.Calls.{calls_of, made, is_answered, first_made, before_call, open_fixes, newest_fix}
use Rattle.trail.specs.Preceding.{MayPrecede, MayPrecedeNote}

-- a fact of the page's value, where values are told
abbrev pub OnValue : Opening → List Entry → PageId → (Option Content → Type 0) → Type 0
OnValue o h p P = IfSome o.base (λ base. P (value (page_bytes o.config.page) base h p))

-- an earlier call that has no answer yet
pub record IsOpen (mine : List Event) (n : ℕ) : Type 0 where
  pub first : 1 ≤ n
  pub begun : n ≤ calls_of mine
  pub unanswered : is_answered n mine ≡ false

-- an event belongs to the caller's next call, or to one that has no answer yet
abbrev pub IsNumbered : List Event → ℕ → Type 0
IsNumbered mine n = (n ≡ calls_of mine + 1) ⊎ IsOpen mine n

abbrev pub begins_resize : Kind → Bool
begins_resize (kind.Withdraw from) = true
begins_resize (kind.Grow chunks) = true
begins_resize _ = false

-- whether the call that made these entries is a resize
abbrev pub is_resize : List Entry → Bool
is_resize made = option_map_or (λ (e : Entry). begins_resize e.kind) (first_made made) false

-- The entries of one call follow each other, but those of a resize.
abbrev pub IsTogether : ℕ → List Entry → Type 0
IsTogether place [] = ⊤
IsTogether place (e ∷ made) = (place ≡ e.place + 1) ⊎ IsTrue (is_resize (e ∷ made))

-- a page that has no home and has a value is read into the frame that the call takes
pub record IsLoad (o : Opening) (h : List Entry) (c n : ℕ) (p : PageId) (f : ℕ) : Type 0 where
  pub absent : home h p ≡ None
  pub next : next_frame (book o.config h) c n ≡ Some f
  pub sound : OnValue o h p (λ v. IsSome v)

-- a fix is granted where the page is, at the frame's clock
pub record IsFix (h : List Entry) (p : PageId) (f clock : ℕ) : Type 0 where
  pub resident : home h p ≡ Some f
  pub unchanged : clock ≡ change h f

-- a page that has no home is made in the frame that the call takes, and the record of that stands in the log behind that of every earlier change
pub record IsCreate (o : Opening) (h : List Entry) (c n : ℕ) (p : PageId) (f start end : ℕ) : Type 0 where
  pub absent : home h p ≡ None
  pub next : next_frame (book o.config h) c n ≡ Some f
  pub behind : log_end h ≤ start
  pub record_is : end ≡ start + RECORD_BYTES

-- bytes of a page that the caller has fixed were changed, and the record of the change stands in the log behind that of every earlier one
pub record IsPut (o : Opening) (h : List Entry) (mine : List Event) (p : PageId) (at : ℕ) (bytes : List ℕ) (start end : ℕ) : Type 0 where
  pub held : IsSome (newest_fix (open_fixes mine) p)
  pub range : IsRange (page_bytes o.config.page) at (length bytes)
  pub behind : log_end h ≤ start
  pub record_is : end ≡ start + RECORD_BYTES + length bytes

-- the pages that were written, the first one first
abbrev pub written_pages : List Entry → List PageId
written_pages [] = []
written_pages (e ∷ made) = written_pages made ++ option_to_list (option_map (λ (w : Writing). w.page) (write_in e.kind))

-- whether the page's frame was skipped
abbrev pub is_skipped : List Entry → List (ℕ × Word) → PageId → Bool
is_skipped h skipped p = option_map_or (λ f. is_in f (frames_told skipped)) (home h p) false

-- the pages that a clean came to: the first of those that were dirty before it
abbrev pub cleaned_first : List Entry → List Entry → List (ℕ × Word) → List PageId
cleaned_first h made skipped = take (length made + length skipped) (pages_of (dirty (before_call made h)))

-- The first of the pages that were dirty before the call were written, in their order, but those that were skipped: their frames were found latched.
pub record IsClean (h : List Entry) (made : List Entry) (written : ℕ) (skipped : List (ℕ × Word)) : Type 0 where
  pub count : written ≡ length made
  pub oldest : written_pages made ≡ filter (λ p. not (is_skipped h skipped p)) (cleaned_first h made skipped)
  pub passed : length skipped ≡ length (filter (is_skipped h skipped) (cleaned_first h made skipped))
  pub latched : AllByRecursion (λ (x : ℕ × Word). is_latched x.1 ≡ true) skipped

-- where a redo would have to begin: at the oldest change that isn't on the disk, or where there is none at an end that is behind every change
abbrev pub IsCheckpoint : List Dirty → ℕ → ℕ → Type 0
IsCheckpoint [] end lsn = end ≤ lsn
IsCheckpoint (d ∷ ds) end lsn = lsn ≡ d.oldest

-- the chunks that are there, and their bytes in all instances
pub record IsResized (config : Config) (b : Book) (bytes chunks : ℕ) : Type 0 where
  pub chunks_are : chunks ≡ b.chunks
  pub bytes_are : bytes ≡ chunks * unit_of config

-- the first so many percent of the LRU list
abbrev pub dumped : Config → List Entry → ℕ → List PageId
dumped config h pct = let pages = map (λ (x : Listed PageId). x.key) (order config h).listed in take (length pages * pct / 100) pages

-- What a write, an evict and the steps of a resize need stands beside (`IsCovered`, `IsVictim`, `IsWithdrawal`).
abbrev pub IsLegalKind : Opening → List Entry → List Event → ℕ → ℕ → Kind → Type 0
IsLegalKind o h mine c n (kind.Load p f) = IsLoad o h c n p f
IsLegalKind o h mine c n (kind.Fix p f clock now) = IsFix h p f clock
IsLegalKind o h mine c n (kind.Create p f start end now) = IsCreate o h c n p f start end
IsLegalKind o h mine c n (kind.Put p at bytes start end) = IsPut o h mine p at bytes start end
IsLegalKind o h mine c n (kind.Evict p f passed) = ⊤
IsLegalKind o h mine c n (kind.Write p lsn upto) = ⊤
IsLegalKind o h mine c n (kind.Move p from to) = ⊤
IsLegalKind o h mine c n (kind.Withdraw from) = ⊤
IsLegalKind o h mine c n (kind.Undo from) = ⊤
IsLegalKind o h mine c n (kind.Shrink chunks) = ⊤
IsLegalKind o h mine c n (kind.Grow chunks) = ⊤
IsLegalKind o h mine c n (kind.Resize bytes chunks) = IsResized o.config (book o.config h) bytes chunks
IsLegalKind o h mine c n (kind.Clean written skipped) = IsClean h (made n mine) written skipped
IsLegalKind o h mine c n (kind.Check lsn) = IsCheckpoint (dirty h) (log_end h) lsn
IsLegalKind o h mine c n (kind.WatchSet p) = home h p ≡ None
IsLegalKind o h mine c n (kind.WatchAt p f) = home h p ≡ Some f
IsLegalKind o h mine c n (kind.Occurred p arrived) = option_map (λ (w : Watch). w.occurred) (watch_of h c p) ≡ Some arrived
IsLegalKind o h mine c n (kind.Unwatch p) = IsSome (watch_of h c p)
IsLegalKind o h mine c n (kind.Dump pct ids) = ids ≡ dumped o.config h pct
IsLegalKind o h mine c n (kind.Refused asked why) = ⊤

-- bytes were copied from a page that the caller has fixed, at the clock of its frame
pub record IsReadOf (o : Opening) (h : List Entry) (mine : List Event) (p : PageId) (at : ℕ) (bytes : List ℕ) (clock : ℕ) : Type 0 where
  pub held : IsSome (newest_fix (open_fixes mine) p)
  pub read : OnValue o h p (λ v. IsSomeAnd v (λ content. bytes ≡ slice_range content.bytes at (at + length bytes)))
  pub unchanged : IsSomeAnd (home h p) (λ f. clock ≡ change h f)

-- a guess is granted where the page is, at the frame's clock
abbrev pub IsLegalNote : Opening → List Entry → List Event → Note → Type 0
IsLegalNote o h mine (note.Granted p f clock) = IsFix h p f clock
IsLegalNote o h mine (note.Copied p at bytes clock) = IsReadOf o h mine p at bytes clock
IsLegalNote o h mine (note.Unfixed p f fix) = Contains (open_fixes mine) (record { page = p; frame = f; number = fix })
IsLegalNote o h mine (note.Refused asked why) = ⊤

pub record IsLegalEntry (o : Opening) (h : List Entry) (mine : List Event) (e : Entry) : Type 0 where
  pub place : e.place ≡ mark o.first h + 1
  pub number : IsNumbered mine e.number
  pub together : IsTogether e.place (made e.number mine)
  pub before : MayPrecede h (made e.number mine) e.kind
  pub kind : IsLegalKind o h mine e.caller e.number e.kind

-- a receipt is the answer of its call
pub record IsLegalReceipt (o : Opening) (h : List Entry) (mine : List Event) (r : Receipt) : Type 0 where
  pub place : r.place ≡ mark o.first h
  pub number : IsNumbered mine r.number
  pub before : MayPrecedeNote h (made r.number mine) r.note
  pub note : IsLegalNote o h mine r.note

abbrev pub IsLegal : Opening → List Entry → List Event → Event → Type 0
IsLegal o h mine (event.Entry e) = IsLegalEntry o h mine e
IsLegal o h mine (event.Receipt r) = IsLegalReceipt o h mine r

-- Receipts of one place rise by caller, then number. It is the one law that reads the event before.
abbrev pub IsInOrder : List Event → Event → Type 0
IsInOrder past (event.Entry e) = ⊤
IsInOrder [] (event.Receipt r) = ⊤
IsInOrder (event.Entry e ∷ past) (event.Receipt r) = ⊤
IsInOrder (event.Receipt q ∷ past) (event.Receipt r) = (q.caller < r.caller) ⊎ ((q.caller ≡ r.caller) × (q.number < r.number))
