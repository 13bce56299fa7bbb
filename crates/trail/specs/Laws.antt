-- What a trail must obey, law by law. Each event is judged by what stands before it; the newest event stands first.
use Rattle.std.specs.Prelude.{ℕ, List, [], ◌∷◌, ◌≡◌, ◌⊎◌, None, IsTrue, true, reverse, ⊤, Option}
use Rattle.std.specs.List.{AllByRecursion}
use Rattle.trail.specs.declared.event.Event.{Event}
use Rattle.trail.specs.Trails.{Events, Opening, caller_of, number_of, entries, own}
use Rattle.trail.specs.Book.{book, is_owner}
use Rattle.trail.specs.Calls.{made, is_answered}
use Rattle.trail.specs.Preceding.{AreRounds, AreEndedBy, is_undo}
use Rattle.trail.specs.Legal.{IsLegal, IsInOrder}
use Rattle.trail.specs.Still.{IsStill}
use Rattle.trail.specs.Covered.{IsCovered}
use Rattle.trail.specs.Causes.{IsCaused}
use Rattle.trail.specs.Victim.{IsVictim}
use Rattle.trail.specs.Withdrawal.{IsWithdrawal, AreFollowed}
use Rattle.trail.specs.Alone.{sole_of, IsTrueEvent}

-- The laws, in their order. `sole` is the one caller that made all calls of the whole trail but the closing flush, where there is one; that its words are true
-- belongs to the law on causes.
pub record IsLawful (o : Opening) (sole : Option ℕ) (past : List Event) (e : Event) : Type 0 where
  pub legal : IsLegal o (entries past) (own (caller_of e) past) e
  pub order : IsInOrder past e
  pub still : IsStill past e
  pub covered : IsCovered (entries past) e
  pub causes : IsCaused o past (entries past) (own (caller_of e) past) e
  pub words : IsTrueEvent sole past e
  pub victim : IsVictim o (entries past) e
  pub withdrawal : IsWithdrawal o (entries past) e

-- each event was lawful where it came
abbrev pub AreLawful : Opening → Option ℕ → List Event → Type 0
AreLawful o sole [] = ⊤
AreLawful o sole (e ∷ past) = IsLawful o sole past e × AreLawful o sole past

-- A resize without an answer: it found no memory behind its withdrawal, which it took back; or its area is still open.
abbrev pub IsCutShort : Opening → List Event → ℕ → ℕ → Type 0
IsCutShort o past c n = AreEndedBy is_undo (made n (own c past)) ⊎ (AreRounds (made n (own c past)) × IsTrue (is_owner (book o.config (entries past)) c n))

-- the event's call has its answer, or is such a resize
abbrev pub IsSettled : Opening → List Event → Event → Type 0
IsSettled o past e = (is_answered (number_of e) (own (caller_of e) past) ≡ true) ⊎ IsCutShort o past (caller_of e) (number_of e)

-- A whole trail: each event is lawful, each call has its answer, and what is followed by its call's answer is so.
pub record IsLawfulTrail (o : Opening) (trail : Events) : Type 0 where
  pub first : trail.first ≡ o.first
  pub each : AreLawful o (sole_of (reverse trail.events)) (reverse trail.events)
  pub answered : AllByRecursion (IsSettled o (reverse trail.events)) (reverse trail.events)
  pub followed : AreFollowed (reverse trail.events) None (entries (reverse trail.events))
