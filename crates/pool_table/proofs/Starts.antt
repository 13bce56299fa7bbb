-- The rule can be met: a table with its desk, and with a first pass.
use Rattle.std.proofs.Common.{◌≡◌, inl, ℕ, zero, suc, ◌<◌, [], ◌∷◌, Option, None, Some, refl, sym, ap, ◌∙◌, subst, arith}
use mathlib.Core.Option.{some, some-injective, some-ne-none}
use lib.ListN.{get_elem?}
use Rattle.atomic_table.specs.Table.{State, opening}
use Rattle.trail_laws.proofs.Adding.{nothing_yet}
use Rattle.frame_words.specs.Seen.{visits_of}
use Rattle.pool_table.specs.declared.view.Slot.{Slot}
use Rattle.pool_table.specs.declared.view.Slot.TheVariants as slot
use Rattle.pool_table.specs.declared.view.View.{View}
use Rattle.pool_table.specs.Seen.{DeskSeen}
use Rattle.pool_table.specs.Views.{first_view, made_pass, maker_after}
use Rattle.pool_table.specs.Frames.{AreNewFrames}
use Rattle.pool_table.specs.Kept.{Fits, Kept}
use Rattle.pool_table.proofs.Events.{off}
use Rattle.pool_table.proofs.Seats.{makes_pass}

nowhere : {B : Type 0} (f : ℕ) → None ≡ Some f → B
nowhere f e = absurd (cc)

module _ (D : Type 0) (seen : D → DeskSeen) where
  -- a table whose desk has no entry yet
  abbrev pub first_state : D → State (Slot D) View
  first_state d = opening ((seen d).opening.first ∷ 0 ∷ []) (slot.Desk d ∷ []) first_view

  pub starts : (d : D) → (seen d).history ≡ [] → AreNewFrames (seen d).opening.config (seen d).frames → Kept seen (seen d) (first_state d)
  starts d empty new = record {
    h = [];
    frames = (seen d).frames;
    known = (seen d).known;
    next = 0;
    maker = 0;
    accounts = λ c. [];
    seat = λ k. k;
    turns = record {
      wide = omega arith;
      deep = omega arith;
      mark_is = refl;
      free = λ _. (d, refl, record { history = empty; frames_are = refl; opening = refl; instance = refl; pages = refl; known_is = refl; rest = new.rest; settled = record { housed = λ p f is. nowhere f is; clocks = λ f below away. new.unchanged f }; sized = new.sized });
      held = λ k is. absurd (omega (arith, is));
    };
    of_log = refl;
    laws = record { so_far = nothing_yet (seen d).opening (seen d).pages; ended = tt; closed = λ c k least less. let none : k < 0 = less in absurd (omega (arith, least, none)); ours = record { entries = tt; events = λ c. tt }; later = λ k le. refl; owned = λ k lt. absurd (omega (arith, lt)) };
    framed = record {
      sums = λ f. let held = new.unheld f in let owed : visits_of (seen d).frames.owed f ≡ 0 = ap (λ (o : Option ℕ). visits_of o f) new.rest.owed in omega (arith, held, owed);
      homes = λ f. record { home_is = λ a. off (sym (new.away f) ∙ a); clock_is = λ a _. off (sym (new.away f) ∙ a); value_is = λ a _. off (sym (new.away f) ∙ a) };
    };
    rested = inl tt;
    words = λ c flush alone numbers k. tt;
    each = λ j v e. one j v e;
    whole = refl;
  }
    where
      one : (j : ℕ) (v : View) → get_elem? (first_view ∷ []) j ≡ some v → Fits (seen d).known [] (seen d).frames 0 0 0 (λ c. []) (λ k. k) j v
      one zero v e = subst (Fits (seen d).known [] (seen d).frames 0 0 0 (λ c. []) (λ k. k) 0) (some-injective first_view v e) record {
        knows = record { seen = ([], refl); turn = λ a. off a };
        keeps = record { makes = λ _. (refl, refl, refl, refl); passes = λ a. off a; unnamed = λ _. refl; others = λ i a e. absurd (some-ne-none a (sym e)); idle = λ _. refl; apart = tt };
        fixes = tt;
        bare = record { found = refl; numbers = refl; visits = refl; latches = refl; lifted = refl; claimed = refl; unpublished = refl };
      }
      one (suc j) v e = absurd (some-ne-none v (sym e))

  -- and with its first pass
  pub starts_with_one : (d : D) → (seen d).history ≡ [] → AreNewFrames (seen d).opening.config (seen d).frames
      → Kept seen (seen d) record { words = (seen d).opening.first ∷ 0 ∷ []; homes = some (slot.Desk d) ∷ []; views = maker_after first_view ∷ made_pass first_view ∷ [] }
  starts_with_one d empty new = makes_pass D seen (seen d) 0 first_view refl (omega arith) (first_state d) (starts d empty new) refl
