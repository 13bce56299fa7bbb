-- What is known once one pass has taken in all others.
use Rattle.std.specs.Prelude.{◌≡◌, ◌⊎◌, ℕ, false, List, [], ◌∷◌, ◌==◌, None, Some, IsTrue, if◌then◌else◌}
use Rattle.std.specs.List.{AllByRecursion}
use mathlib.Core.Option.{some}
use lib.ListN.{get_elem?}
use Rattle.trail.specs.declared.event.Entry.{Entry}
use Rattle.trail.specs.declared.event.Event.{Event}
use Rattle.trail.specs.Book.{book, is_owner}
use Rattle.trail.specs.Calls.{is_answered, made}
use Rattle.trail.specs.Legal.{is_resize}
use Rattle.trail.specs.Preceding.{AreEndedBy, AreRounds, is_undo}
use Rattle.trail.specs.Trails.{Opening}
use Rattle.trail_laws.specs.Ending.{AreCallers, AreEnded}
use Rattle.trail_laws.specs.SoFar.{AreTrueAlone, IsLawfulSoFar}
use Rattle.pool_table.specs.declared.view.Account.{Account}
use Rattle.pool_table.specs.declared.view.View.{View}
use Rattle.pool_table.specs.Seen.{DeskSeen}
use Rattle.pool_table.specs.Views.{accounts_of, numbers_of}
use Rattle.pool_table.specs.Kept.{AreClosed, HasNoCall, IsAtHome, IsLoggedEvent}
use Rattle.pool_table.specs.Ours.{AreOurs}

-- the events of the caller with this number among the accounts
abbrev pub account_at : List Account → ℕ → List Event
account_at [] c = []
account_at (a ∷ accounts) c = if a.number == c then a.mine else account_at accounts c

-- each resize without an answer was cut short: undone, or still withdrawing chunks
abbrev pub AreCutShort : Opening → List Entry → (ℕ → List Event) → Type 0
AreCutShort o h accounts = (c k : ℕ) → IsTrue (is_resize (made k (accounts c))) → is_answered k (accounts c) ≡ false
    → AreEndedBy is_undo (made k (accounts c)) ⊎ (AreRounds (made k (accounts c)) × IsTrue (is_owner (book o.config h) c k))

-- The desk's history and the accounts of the view are all that the table had: they are lawful and of this instance, their words are true wherever a caller is alone, and the log has
-- what they need of it.
pub record KnowsAll (start d : DeskSeen) (v : View) : Type 0 where
  pub home : IsAtHome start d d.history d.frames d.known
  pub lawful : IsLawfulSoFar start.opening start.pages d.history (account_at (accounts_of v))
  pub callers : AreCallers (account_at (accounts_of v)) (numbers_of (accounts_of v))
  pub ended : AreEnded (account_at (accounts_of v)) None d.history
  pub closed : AreClosed (account_at (accounts_of v))
  pub over : (c : ℕ) → HasNoCall v.mine → HasNoCall (account_at (accounts_of v) c)
  pub ours : AreOurs start d.history (account_at (accounts_of v))
  pub words : AreTrueAlone d.history (account_at (accounts_of v))
  pub log : d.known.log ≡ start.known.log
  pub logged : (i : ℕ) (a : Account) → get_elem? (accounts_of v) i ≡ some a → AllByRecursion (IsLoggedEvent (Some d.known)) a.mine
