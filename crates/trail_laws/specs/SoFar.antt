-- What stands of a history and of the accounts of its callers, between any two events: each event is lawful over the history that it saw, and over its own
-- caller's events before it. A later event changes neither.
use Rattle.std.specs.Prelude.{ℕ, List, ◌≡◌, ◌≢◌, ◌⊎◌, ◌||◌, Bool, true, Option, None, IfSome, is_some}
use Rattle.std.specs.List.{AllByRecursion}
use Rattle.page_ids.specs.declared.ids.PageId.{PageId}
use Rattle.trail.specs.declared.event.Entry.{Entry}
use Rattle.trail.specs.declared.event.Event.{Event}
use Rattle.trail.specs.declared.event.Event.TheVariants as event
use Rattle.trail.specs.declared.event.Held.{Held}
use Rattle.trail.specs.Trails.{Opening, caller_of}
use Rattle.trail.specs.Kinds.{departure_in, refusal_of, write_in}
use Rattle.trail.specs.Calls.{newest_fix, open_fixes}
use Rattle.trail.specs.Legal.{IsLegal}
use Rattle.trail.specs.Covered.{IsCovered}
use Rattle.trail.specs.Causes.{IsCaused}
use Rattle.trail.specs.Victim.{IsVictim}
use Rattle.trail.specs.Withdrawal.{IsWithdrawal}
use Rattle.trail.specs.Spaces.{page_told}
use Rattle.trail.specs.Promises.{IsPromised, IsTold}
use Rattle.trail.specs.Alone.{IsTrueOf, ends_clean, is_of_flush, notes_clean}
use Rattle.trail.proofs.Judging.{IsSpaceOf}
use Rattle.trail_laws.specs.Accounts.{AreEach, ArePlaced, earlier}

-- these events tell of each space that it has so many pages
abbrev pub TellSpaces : (ℕ → ℕ) → List Event → Type 0
TellSpaces pages past = (s : ℕ) → IsSpaceOf pages past s

-- The laws that read the history which an event saw and its caller's events before it. Of all others the causes read what spaces have alone.
pub record IsLawfulOf (o : Opening) (pages : ℕ → ℕ) (h : List Entry) (mine : List Event) (e : Event) : Type 0 where
  pub legal : IsLegal o h mine e
  pub covered : IsCovered h e
  pub causes : (past : List Event) → TellSpaces pages past → IsCaused o past h mine e
  pub victim : IsVictim o h e
  pub withdrawal : IsWithdrawal o h e
  pub spaces : IsTold pages (page_told e) (refusal_of e)

-- and so of each event of one caller
abbrev pub AreLawfulOf : Opening → (ℕ → ℕ) → List Entry → List Event → Type 0
AreLawfulOf o pages h mine = AreEach (IsLawfulOf o pages) h mine

-- nobody has an open fix of the page
abbrev pub IsFixedByNone : (ℕ → List Event) → PageId → Type 0
IsFixedByNone accounts p = (c : ℕ) → newest_fix (open_fixes (accounts c)) p ≡ None

-- a page that left or moved was fixed by nobody before that entry
abbrev pub AreStill : (ℕ → List Event) → List Entry → Type 0
AreStill accounts h = AllByRecursion (λ (e : Entry). IfSome (departure_in e.kind) (λ d. IsFixedByNone (λ c. earlier e.place (accounts c)) d.page)) h

-- What stands between any two events.
pub record IsLawfulSoFar (o : Opening) (pages : ℕ → ℕ) (h : List Entry) (accounts : ℕ → List Event) : Type 0 where
  pub places : ArePlaced o.first h accounts
  pub laws : (c : ℕ) → AreLawfulOf o pages h (accounts c)
  pub still : AreStill accounts h

-- Words, where caller c alone is there. Its own events tell just what its open fixes say; those of a flush of the runner's tell no words.
pub record IsTrueBy (c : ℕ) (h : List Entry) (mine : List Event) (e : Event) : Type 0 where
  pub own : caller_of e ≡ c → IsTrueOf h (open_fixes mine) e
  pub other : caller_of e ≢ c → (held : List Held) → IsTrueOf h held e

abbrev pub AreTrueBy : ℕ → List Entry → List Event → Type 0
AreTrueBy c h mine = AreEach (IsTrueBy c) h mine

-- an event as a clean has it: a write, or the answer of one that began
abbrev pub is_of_clean : Event → Bool
is_of_clean (event.Entry e) = is_some (write_in e.kind) || ends_clean e.kind
is_of_clean (event.Receipt r) = notes_clean r.note

-- each event is caller c's, but those of the runner's clean with the number `flush`
abbrev pub AreAlone : ℕ → Option ℕ → (ℕ → List Event) → Type 0
AreAlone c flush accounts = (d : ℕ) → AllByRecursion (λ e. ((is_of_flush flush e ≡ true) × (is_of_clean e ≡ true)) ⊎ (caller_of e ≡ c)) (accounts d)

-- Words are true wherever a caller is alone.
abbrev pub AreTrueAlone : List Entry → (ℕ → List Event) → Type 0
AreTrueAlone h accounts = (c : ℕ) (flush : Option ℕ) → AreAlone c flush accounts → (d : ℕ) → AreTrueBy c h (accounts d)

-- What the calls promise beside the laws, of each event of each caller: it reads the same.
abbrev pub ArePromisedSoFar : Opening → (ℕ → ℕ) → List Entry → (ℕ → List Event) → Type 0
ArePromisedSoFar o pages h accounts = (c : ℕ) → AreEach (IsPromised o pages) h (accounts c)
