-- The own events of each caller, `accounts`, beside the history: most callers have none. The newest stands first.
use Rattle.std.specs.Prelude.{ℕ, List, [], ◌∷◌, ◌≡◌, ◌==◌, ◌+◌, ◌<◌, ◌≤◌, ⊤, filter, nat_lt, if◌then◌else◌}
use Rattle.std.specs.List.{AllByRecursion}
use Rattle.trail.specs.declared.event.Entry.{Entry}
use Rattle.trail.specs.declared.event.Receipt.{Receipt}
use Rattle.trail.specs.declared.event.Event.{Event}
use Rattle.trail.specs.declared.event.Event.TheVariants as event
use Rattle.trail.specs.Trails.{AreNumbered, before, caller_of, entries, mark, receipts}

abbrev pub event_place : Event → ℕ
event_place (event.Entry e) = e.place
event_place (event.Receipt r) = r.place

-- what an event saw of the history: an entry what stands before it, a receipt the history at its place
abbrev pub seen_by : Event → List Entry → List Entry
seen_by (event.Entry e) h = before e.place h
seen_by (event.Receipt r) h = before (r.place + 1) h

-- a caller's events before the entry of this place
abbrev pub earlier : ℕ → List Event → List Event
earlier n [] = []
earlier n (e ∷ mine) = if nat_lt (event_place e) n then e ∷ mine else earlier n mine

-- a fact of each of a caller's events, over the history that it saw and the caller's events before it
abbrev pub AreEach : (List Entry → List Event → Event → Type 0) → List Entry → List Event → Type 0
AreEach Q h [] = ⊤
AreEach Q h (e ∷ mine) = Q (seen_by e h) mine e × AreEach Q h mine

-- the accounts with one event more
abbrev pub with_event : Event → (ℕ → List Event) → ℕ → List Event
with_event e accounts c = if c == caller_of e then e ∷ accounts c else accounts c

-- the entries of one caller
abbrev pub entries_of : ℕ → List Entry → List Entry
entries_of c h = filter (λ (e : Entry). e.caller == c) h

-- A caller's events have places up to this one, which fall; what stands before an entry has a lower place than it.
abbrev pub PlacesFall : ℕ → List Event → Type 0
PlacesFall n [] = ⊤
PlacesFall n (event.Entry e ∷ mine) = (e.place ≤ n) × AllByRecursion (λ d. event_place d < e.place) mine × PlacesFall e.place mine
PlacesFall n (event.Receipt r ∷ mine) = (r.place ≤ n) × PlacesFall r.place mine

-- each receipt's call came after those of the receipts before it
abbrev pub AreInTurn : List Receipt → Type 0
AreInTurn [] = ⊤
AreInTurn (r ∷ rs) = AllByRecursion (λ (q : Receipt). q.number < r.number) rs × AreInTurn rs

-- A caller's account beside the history: its events are its own, its entries are those of the history with its number, and its places fall from the mark.
pub record IsAccount (first : ℕ) (h : List Entry) (c : ℕ) (mine : List Event) : Type 0 where
  pub own : AllByRecursion (λ e. caller_of e ≡ c) mine
  pub kept : entries mine ≡ entries_of c h
  pub falling : PlacesFall (mark first h) mine
  pub turns : AreInTurn (receipts mine)

-- Places: the entries are numbered by theirs, and each caller has its account.
pub record ArePlaced (first : ℕ) (h : List Entry) (accounts : ℕ → List Event) : Type 0 where
  pub numbered : AreNumbered first h
  pub each : (c : ℕ) → IsAccount first h c (accounts c)
