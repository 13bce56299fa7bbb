-- How chunks come and go: growth, and a withdrawal with its moves, its end and its undoing.
use Rattle.std.specs.Prelude.{ℕ, Bool, true, false, List, [], ◌∷◌, ◌≡◌, ◌==◌, ◌&&◌, ◌<◌, ◌≤◌, ◌⊎◌, Option, None, Some, IsSomeAnd, IsTrue, ⊤}
use Rattle.std.specs.List.{AllByRecursion}
use Rattle.std.specs.Option.{option_map}
use Rattle.page_ids.specs.declared.ids.PageId.{PageId}
use Rattle.page_ids.specs.declared.config.Config.{Config}
use Rattle.trail.specs.declared.event.Call.TheVariants as call
use Rattle.trail.specs.declared.event.Kind.{Kind}
use Rattle.trail.specs.declared.event.Kind.TheVariants as kind
use Rattle.trail.specs.declared.event.Entry.{Entry}
use Rattle.trail.specs.declared.event.Event.{Event}
use Rattle.trail.specs.declared.event.Event.TheVariants as event
use Rattle.trail.specs.Trails.{Opening, own}
use Rattle.trail.specs.History.{home}
use Rattle.page_ids.specs.FrameLists.{front}
use Rattle.trail.specs.Book.{Area, Book, book, is_in, is_in_area, is_owner, area_frames}
use Rattle.trail.specs.Calls.{is_answered}

-- a withdrawal begins where none is open, and leaves a chunk at least
pub record IsWithdraw (b : Book) (from : ℕ) : Type 0 where
  pub none_open : b.area ≡ None
  pub some_left : 1 ≤ from
  pub some_go : from < b.chunks

-- the call that withdraws relocates a page from its home in the area to the first free frame
pub record IsMove (config : Config) (h : List Entry) (c n : ℕ) (p : PageId) (from to : ℕ) : Type 0 where
  pub owner : IsTrue (is_owner (book config h) c n)
  pub housed : home h p ≡ Some from
  pub inside : IsTrue (is_in_area config.frames (book config h) from)
  pub free : front (book config h).free ≡ Some to

-- all frames of the area are withdrawn, and its chunks go
pub record IsShrink (config : Config) (b : Book) (c n chunks : ℕ) : Type 0 where
  pub owner : IsTrue (is_owner b c n)
  pub withdrawn : AllByRecursion (λ f. IsTrue (is_in f b.withdrawn)) (area_frames config.frames b)
  pub left : option_map (λ (a : Area). a.from) b.area ≡ Some chunks

-- the call that withdraws gives it up
pub record IsUndo (b : Book) (c n from : ℕ) : Type 0 where
  pub owner : IsTrue (is_owner b c n)
  pub area : option_map (λ (a : Area). a.from) b.area ≡ Some from

-- chunks come while none are withdrawn, as many as there may be
pub record IsGrow (config : Config) (b : Book) (chunks : ℕ) : Type 0 where
  pub none_open : b.area ≡ None
  pub more : b.chunks < chunks
  pub most : chunks ≤ config.max

abbrev pub IsWithdrawalKind : Config → List Entry → ℕ → ℕ → Kind → Type 0
IsWithdrawalKind config h c n (kind.Withdraw from) = IsWithdraw (book config h) from
IsWithdrawalKind config h c n (kind.Move p from to) = IsMove config h c n p from to
IsWithdrawalKind config h c n (kind.Shrink chunks) = IsShrink config (book config h) c n chunks
IsWithdrawalKind config h c n (kind.Undo from) = IsUndo (book config h) c n from
IsWithdrawalKind config h c n (kind.Grow chunks) = IsGrow config (book config h) chunks
IsWithdrawalKind config h c n _ = ⊤

abbrev pub IsWithdrawal : Opening → List Entry → Event → Type 0
IsWithdrawal o h (event.Entry e) = IsWithdrawalKind o.config h e.caller e.number e.kind
IsWithdrawal o h (event.Receipt r) = ⊤

abbrev pub is_resized : Kind → Bool
is_resized (kind.Resize bytes chunks) = true
is_resized _ = false

abbrev pub refuses_resize : Kind → Bool
refuses_resize (kind.Refused (call.Resize bytes rounds) why) = true
refuses_resize _ = false

-- the entry is this call's, and of such a kind
abbrev pub is_next_of : ℕ → ℕ → (Kind → Bool) → Entry → Bool
is_next_of c n test e = (e.caller == c) && (e.number == n) && test e.kind

-- What stands next in the history behind such an entry: the answer of its call. A withdrawal that was undone for want of memory has none.
abbrev pub IsFollowed : List Event → Option Entry → Entry → Kind → Type 0
IsFollowed past next e (kind.Shrink chunks) = IsSomeAnd next (λ d. IsTrue (is_next_of e.caller e.number is_resized d))
IsFollowed past next e (kind.Grow chunks) = IsSomeAnd next (λ d. IsTrue (is_next_of e.caller e.number is_resized d))
IsFollowed past next e (kind.Undo from) = IsSomeAnd next (λ d. IsTrue (is_next_of e.caller e.number refuses_resize d)) ⊎ (is_answered e.number (own e.caller past) ≡ false)
IsFollowed past next e _ = ⊤

-- and so of each entry; the whole trail's events tell which calls are answered
abbrev pub AreFollowed : List Event → Option Entry → List Entry → Type 0
AreFollowed past next [] = ⊤
AreFollowed past next (e ∷ h) = IsFollowed past next e e.kind × AreFollowed past (Some e) h
