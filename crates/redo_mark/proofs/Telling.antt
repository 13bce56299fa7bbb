-- Steps of what a device tells, one after the other.
use Rattle.std.proofs.Common.{◌≡◌, ℕ, List, [], ◌++◌, ◌+◌, ◌≤◌, length, take, drop, max, slice_range, ◌-◌, Some, None, Option, IfSome, refl, ap, ◌∙◌, sym, arith, append_assoc}
use Rattle.std.proofs.lemmas.List.{append-nil, length-append, length-take, length-take-le, length-drop, take-append-drop}
use Rattle.std.proofs.lemmas.List.Folds.{drop_split}
use Rattle.redo_mark.specs.Device.{Told, Tells, IsTorn, put_at}

pub known : (told : Option Told) → IfSome told (λ s. Unit {0})
known None = tt
known (Some t) = tt

pub some_is_not_none : (t : Told) → Some t ≡ None → ⊥
some_is_not_none t e = absurd (cc)

-- it has so many bytes, and fewer
pub farther : (near far : ℕ) (told : Option Told) → near ≤ far → IfSome told (λ t. far ≤ length t.written) → IfSome told (λ t. near ≤ length t.written)
farther near far None le inside = tt
farther near far (Some t) le inside = omega (arith, le, inside)

-- the second step may rest on what is known of the device between the two
pub tells_then : (P Q R : Told → Told → Type 0) (A B : Told → Type 0) (first old new : Option Told) → IfSome first A → IfSome old B
    → ((s t u : Told) → A s → B t → P s t → Q t u → R s u) → Tells first old P → Tells old new Q → Tells first new R
tells_then P Q R A B None None None a b step p q = refl
tells_then P Q R A B None None (Some u) a b step p q = q
tells_then P Q R A B None (Some t) new a b step p q = absurd (some_is_not_none t p)
tells_then P Q R A B (Some s) None new a b step p q = absurd p
tells_then P Q R A B (Some s) (Some t) None a b step p q = absurd q
tells_then P Q R A B (Some s) (Some t) (Some u) a b step p q = step s t u a b p q

-- so far the records were written but for the rest
pub record IsWriting (from at : ℕ) (rest records : List ℕ) (old new : Told) : Type 0 where
  pub there : take at new.written ++ rest ≡ take from old.written ++ records
  pub front : take from new.written ≡ take from old.written
  pub short : length new.written ≤ max (length old.written) at
  pub kept : new.kept ≡ old.kept

-- anything may stand in the range of a write that failed: a front of its piece too
pub torn_by_part : (at count : ℕ) (piece : List ℕ) (old new : Told) → at ≤ length old.written → length piece ≤ count → new.written ≡ put_at at piece old.written
    → new.kept ≡ old.kept → IsTorn at count old new
torn_by_part at count piece old new inside le is kept =
    let len = length piece in
    let between = slice_range old.written (at + len) (at + count) in
    let rest = drop (at + count) old.written in
    let split : new.written ≡ take at old.written ++ (piece ++ between) ++ rest =
    is ∙ ap (λ l. take at old.written ++ piece ++ l) (drop_split old.written (at + len) (at + count) (omega (arith, le)))
    ∙ sym (append_assoc (take at old.written ++ piece) between rest) ∙ ap (λ l. l ++ rest) (append_assoc (take at old.written) piece between) in
    let few : length between ≤ count - len = (let l = length-take (at + count - (at + len)) (drop (at + len) old.written) in omega (arith, l)) in
    let sum = length-append piece between in
    record {
      written = (piece ++ between, omega (arith, sum, few, le), split);
      whole = (let l = ap length is in let a = length-append (take at old.written ++ piece) (drop (at + len) old.written) in
          let b = length-append (take at old.written) piece in let c = length-take-le at old.written inside in let d = length-drop (at + len) old.written in
          omega (arith, l, a, b, c, d));
      kept = kept;
    }

pub torn_same : (at count : ℕ) (old new : Told) → at ≤ length old.written → new.written ≡ old.written → new.kept ≡ old.kept → IsTorn at count old new
torn_same at count old new inside is kept = torn_by_part at count [] old new inside (omega arith) (is ∙ nothing_put) kept
  where
    nothing_put : old.written ≡ put_at at [] old.written
    nothing_put = sym (ap (λ l. l ++ drop (at + 0) old.written) (append-nil (take at old.written)) ∙ ap (λ k. take at old.written ++ drop k old.written) (omega arith) ∙ take-append-drop at old.written)
