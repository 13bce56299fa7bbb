-- Each step of a lock keeps its rule.
use Rattle.std.proofs.Common.{◌≡◌, ℕ, List, ◌∷◌, get_or, sym, refl, ◌∙◌, subst, arith, Option, Some, length-set, get_or-set_same}
use mathlib.Core.Logic.{dite}
use mathlib.Core.Option.{some}
use native.Mathlib.Decide.{ℕ_discrete}
use Rattle.atomic_table.specs.Table.{Me, keeps, takes, gives, Allows, Arrives}
use Rattle.atomic_table.proofs.Lists.{set_here}
use Rattle.keyed_lock.specs.Lock.{IsGuarded, IsSeized}

module _ {T V : Type 0} (fits : T → Type 0) where
  -- who gives the value back frees the lock
  pub releases : (id : ℕ) (m : Me (Option T) V) (v : V) (value : T) (more : List (ℕ × Option T)) → m ≡ (v, (0, Some value) ∷ more) → fits value
      → Allows (IsGuarded fits) 1 id m 0 (λ _. 0) (λ _ _. Unit {0})
  releases id m v value more is ok = subst (λ (x : Me (Option T) V). Allows (IsGuarded fits) 1 id x 0 (λ _. 0) (λ _ _. Unit {0})) (sym is)
      (λ s kept wide at _. (v, gives, tt, (length-set s.words 0 0 ∙ kept.0, λ _. (value, set_here s.homes 0 (some (Some value)) (omega arith), ok)), tt))

  -- who finds the lock free takes the value
  pub seizes : (slots : ℕ) (v : V) → Arrives (IsGuarded fits) slots 0 (λ _. 1) (λ found after. found ≡ 0 → IsSeized {V = V} fits after)
  seizes slots v s kept wide _ = let long = kept.0 in let one = get_or-set_same s.words 0 1 0 (omega arith) in
      dite (ℕ_discrete (get_or s.words 0 0) 0)
      (λ free. let home = kept.1 free in (v, takes 0 (Some home.0), home.1, (length-set s.words 0 1 ∙ long, λ e. absurd (omega arith)), λ _. (home.0, refl, home.2)))
      (λ taken. (v, keeps, tt, (length-set s.words 0 1 ∙ long, λ e. absurd (omega arith)), λ free. absurd (taken free)))
