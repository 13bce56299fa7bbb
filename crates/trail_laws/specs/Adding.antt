-- What an entry or a note of a caller's call has to meet, where it comes next: its call's number, and what the answers of the desk say.
use Rattle.std.specs.Prelude.{⊤, ℕ, List, [], ◌∷◌, ◌≡◌, ◌++◌, ◌+◌, ◌≤◌, ◌<◌, ◌⊎◌, true, false, Option, Some, IfSome, IsTrue}
use Rattle.trail.specs.declared.event.Entry.{Entry}
use Rattle.trail.specs.declared.event.Receipt.{Receipt}
use Rattle.trail.specs.declared.event.Event.{Event}
use Rattle.trail.specs.declared.event.Call.{Call}
use Rattle.trail.specs.declared.event.Cause.{Cause}
use Rattle.trail.specs.declared.event.Dirty.{Dirty}
use Rattle.trail.specs.declared.event.Kind.{Kind}
use Rattle.trail.specs.declared.event.Kind.TheVariants as kind
use Rattle.trail.specs.declared.event.Note.{Note}
use Rattle.trail.specs.Trails.{Opening, caller_of, mark}
use Rattle.trail.specs.Kinds.{departure_in, write_in}
use Rattle.trail.specs.Dirt.{dirty}
use Rattle.trail.specs.Calls.{calls_of, is_answered, made}
use Rattle.trail.specs.Preceding.{MayPrecede, MayPrecedeNote}
use Rattle.trail.specs.Legal.{IsLegalKind, IsLegalNote, IsNumbered, IsTogether, is_resize}
use Rattle.trail.specs.Covered.{IsCoveredWrite}
use Rattle.trail.specs.Causes.{IsCausedKind, IsCausedNote, IsRefused}
use Rattle.trail.specs.Needs.{HasPlaces}
use Rattle.trail.specs.Spaces.{page_shown_by, sought_page}
use Rattle.trail.specs.Victim.{IsVictimKind}
use Rattle.trail.specs.Withdrawal.{IsWithdrawalKind}
use Rattle.trail.specs.Promises.{IsNoteOfSpaces, IsOfSpaces, IsTold}
use Rattle.trail_laws.specs.Accounts.{with_event}
use Rattle.trail_laws.specs.SoFar.{AreAlone, IsFixedByNone, IsTrueBy, TellSpaces}

-- the call under way has made its first entry, or not
abbrev pub not_begun : List Entry → ℕ
not_begun [] = 1
not_begun (e ∷ made) = 0

-- a call has its answer, or is a resize, which may go on in a later round or be cut short
abbrev pub IsClosed : List Event → ℕ → Type 0
IsClosed mine n = (is_answered n mine ≡ true) ⊎ IsTrue (is_resize (made n mine))

-- What a caller's own events say of its call with this number, which has made these entries: each earlier one is closed.
pub record IsCalling (mine : List Event) (n : ℕ) (pending : List Entry) : Type 0 where
  pub first : 1 ≤ n
  pub made_are : made n mine ≡ pending
  pub count : calls_of mine + not_begun pending ≡ n
  pub unanswered : is_answered n mine ≡ false
  pub closed : (k : ℕ) → 1 ≤ k → k < n → IsClosed mine k

-- A call began at the history `base`, and its entries since are the newest of the history.
pub record HasBegun (h base : List Entry) (mine : List Event) (n : ℕ) (pending : List Entry) : Type 0 where
  pub calling : IsCalling mine n pending
  pub grown : h ≡ pending ++ base

-- A call that may have a further event, and its entries so far: the caller's next call, or one without an answer yet.
pub record IsUnderWay (mine : List Event) (n : ℕ) (pending : List Entry) : Type 0 where
  pub numbered : IsNumbered mine n
  pub made_are : made n mine ≡ pending

-- a resize is under way, whose entries may have others between them
pub record IsResizing (mine : List Event) (n : ℕ) (pending : List Entry) : Type 0 where
  pub under_way : IsUnderWay mine n pending
  pub begun : IsTrue (is_resize pending)

-- what a call asks for where it began: its places were left, and the page that it asks the disk for is in its space
pub record MayAsk (o : Opening) (pages : ℕ → ℕ) (base : List Entry) (c n : ℕ) (asked : Call) : Type 0 where
  pub places : HasPlaces o.first o.config base c n asked
  pub inside : IfSome (sought_page asked) (λ p. p.page < pages p.space)

-- a call may be refused with this cause, be its answer an entry or a note
pub record MayRefuse (o : Opening) (pages : ℕ → ℕ) (h : List Entry) (mine : List Event) (c n : ℕ) (asked : Call) (why : Cause) : Type 0 where
  pub causes : (past : List Event) → TellSpaces pages past → IsRefused o past h mine c n asked why
  pub spaces : IsTold pages (page_shown_by asked why) (Some (record { call = asked; cause = why }))

-- the next entry of a caller's call, and the next note
abbrev pub next_entry : ℕ → List Entry → ℕ → ℕ → Kind → Entry
next_entry first h c n k = record { place = mark first h + 1; caller = c; number = n; kind = k }

abbrev pub next_note : ℕ → List Entry → ℕ → ℕ → Note → Receipt
next_note first h c n k = record { place = mark first h; caller = c; number = n; note = k }

-- What an entry has to meet beside its place and number.
pub record MayAdd (o : Opening) (pages : ℕ → ℕ) (h : List Entry) (accounts : ℕ → List Event) (c n : ℕ) (k : Kind) : Type 0 where
  pub together : IsTogether (mark o.first h + 1) (made n (accounts c))
  pub before : MayPrecede h (made n (accounts c)) k
  pub kind : IsLegalKind o h (accounts c) c n k
  pub still : IfSome (departure_in k) (λ d. IsFixedByNone accounts d.page)
  pub covered : IfSome (write_in k) (λ w. IsCoveredWrite h w.page w.lsn w.upto)
  pub causes : (past : List Event) → TellSpaces pages past → IsCausedKind o past h (accounts c) c n k
  pub victim : IsVictimKind o.config h c n k
  pub withdrawal : IsWithdrawalKind o.config h c n k
  pub spaces : IsOfSpaces pages k

-- What a note has to meet.
pub record MayNote (o : Opening) (pages : ℕ → ℕ) (h : List Entry) (mine : List Event) (c n : ℕ) (k : Note) : Type 0 where
  pub before : MayPrecedeNote h (made n mine) k
  pub note : IsLegalNote o h mine k
  pub causes : (past : List Event) → TellSpaces pages past → IsCausedNote o past h mine c n k
  pub spaces : IsNoteOfSpaces pages k

-- the words that an event tells are true, wherever a caller is alone with it
abbrev pub MayTell : List Entry → (ℕ → List Event) → Event → Type 0
MayTell h accounts e = (c : ℕ) (flush : Option ℕ) → AreAlone c flush (with_event e accounts) → IsTrueBy c h (accounts (caller_of e)) e

-- an entry writes the page that is dirty first, with its newest LSN
pub record IsOldest (h : List Entry) (k : Kind) : Type 0 where
  pub dirt : Dirty
  pub rest : List Dirty
  pub upto : ℕ
  pub first_is : dirty h ≡ dirt ∷ rest
  pub kind_is : k ≡ kind.Write dirt.page dirt.newest upto

-- and so each of these entries behind the history `base`
abbrev pub AreOldest : List Entry → List Entry → Type 0
AreOldest [] base = ⊤
AreOldest (e ∷ made) base = IsOldest (made ++ base) e.kind × AreOldest made base
