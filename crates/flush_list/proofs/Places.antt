-- The definitions of the list, by the places of its frames.
use Rattle.std.proofs.Common.{◌≡◌, ◌≢◌, ◌+◌, ℕ, suc, zero, not, cond, List, [], ◌∷◌, inl, inr, length, get_or, Option, Some, refl, ap, arith}
use Rattle.std.proofs.lemmas.Bool.{ne_eqb, eq-eqb, cases_eq}
use Rattle.flush_list.specs.View.{Node, place_of, moved, last_or}

module _ (frame : ℕ) (x : Node) (xs : List Node) where
  pub place_here : x.frame ≡ frame → place_of frame (x ∷ xs) ≡ 0
  place_here e = ap {B = ℕ} (λ b. cond (not b) (1 + place_of frame xs) 0) (eq-eqb _ _ e)

  pub place_next : x.frame ≢ frame → place_of frame (x ∷ xs) ≡ suc (place_of frame xs)
  place_next ne =
      let here : place_of frame (x ∷ xs) ≡ 1 + place_of frame xs = ap {B = ℕ} (λ b. cond (not b) (1 + place_of frame xs) 0) (ne_eqb _ _ ne) in
      omega (arith, here)

-- a node behind a move
module _ (old new : ℕ) (x : Node) where
  pub moved_here : x.frame ≡ old → ◌≡◌ {A = Node} (moved old new x) (record { frame = new; oldest = x.oldest })
  moved_here e = ap {B = Node} (λ b. cond b (record { frame = new; oldest = x.oldest }) x) (eq-eqb _ _ e)

  pub moved_else : x.frame ≢ old → moved old new x ≡ x
  moved_else ne = ap {B = Node} (λ b. cond b (record { frame = new; oldest = x.oldest }) x) (ne_eqb _ _ ne)

  pub moved_oldest : (moved old new x).oldest ≡ x.oldest
  moved_oldest = elim (cases_eq x.frame old) [
    | inl e ↦ ap (λ (y : Node). y.oldest) (moved_here e)
    | inr ne ↦ ap (λ (y : Node). y.oldest) (moved_else ne)
  ]

-- the last node
pub last_at : (before : Option Node) (xs : List Node) (i : ℕ) (d : Node) → length xs ≡ suc i → last_or before xs ≡ Some (get_or xs i d)
last_at before [] i d e = absurd (omega (arith, e))
last_at before (x ∷ []) zero d e = refl
last_at before (x ∷ []) (suc i) d e = absurd (omega (arith, e))
last_at before (x ∷ y ∷ ys) zero d e = absurd (omega (arith, e))
last_at before (x ∷ y ∷ ys) (suc i) d e = last_at (Some x) (y ∷ ys) i d (omega (arith, e))
