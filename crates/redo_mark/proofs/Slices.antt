-- Pieces of lists.
use Rattle.std.proofs.Common.{◌≡◌, ℕ, List, ◌++◌, ◌+◌, ◌-◌, ◌≤◌, length, take, drop, ap, ◌∙◌, sym, arith, append_assoc, slice_range}
use Rattle.std.proofs.lemmas.List.{take-take, take_at, drop-take, drop-append-le, length-take-le, length-append, take-append-drop, length-drop}
use Rattle.std.proofs.lemmas.List.Folds.{drop_split}
use Rattle.std.proofs.Math.Seq.{take-append-add}

module _ {A : Type 0} where
  pub slice_is : (from to : ℕ) (xs : List A) → from ≤ to → slice_range xs from to ≡ drop from (take to xs)
  slice_is from to xs le =
      let sum : from + (to - from) ≡ to = omega (arith, le) in
      sym (drop-take from (to - from) xs) ∙ ap (λ k. drop from (take k xs)) sum

  pub same_slice : (from to : ℕ) (xs ys : List A) → from ≤ to → take to xs ≡ take to ys → slice_range xs from to ≡ slice_range ys from to
  same_slice from to xs ys le same = slice_is from to xs le ∙ ap (drop from) same ∙ sym (slice_is from to ys le)

  pub length-slice : (from to : ℕ) (xs : List A) → to ≤ length xs → length (slice_range xs from to) ≡ to - from
  length-slice from to xs le = length-take-le (to - from) (drop from xs) (let l = length-drop from xs in omega (arith, l, le))

  -- a list begins with another, and goes on with more
  pub slice_more : (from to : ℕ) (xs ys more : List A) → from ≤ to → to ≤ length ys → take (to + length more) xs ≡ take to ys ++ more
      → slice_range xs from (to + length more) ≡ slice_range ys from to ++ more
  slice_more from to xs ys more le inside is =
      let len : from ≤ length (take to ys) = (let l = length-take-le to ys inside in omega (arith, l, le)) in
      slice_is from (to + length more) xs (omega (arith, le)) ∙ ap (drop from) is ∙ drop-append-le from (take to ys) more len
      ∙ ap (λ l. l ++ more) (sym (slice_is from to ys le))

  -- a shorter front of equal fronts
  pub take_within : (n m : ℕ) (xs ys : List A) → n ≤ m → take m xs ≡ take m ys → take n xs ≡ take n ys
  take_within n m xs ys le same = sym (take-take n m xs le) ∙ ap (take n) same ∙ take-take n m ys le

  -- the front stays where more is put behind it
  pub front_of_more : (n m : ℕ) (xs ys more : List A) → n ≤ length ys → take (n + m) xs ≡ take n ys ++ more → take n xs ≡ take n ys
  front_of_more n m xs ys more inside is =
      sym (take-take n (n + m) xs (omega arith)) ∙ ap (take n) is ∙ take_at (take n ys) more n (length-take-le n ys inside)

  -- a list in three parts
  pub three_parts : (from to : ℕ) (xs : List A) → from ≤ to → xs ≡ take from xs ++ slice_range xs from to ++ drop to xs
  three_parts from to xs le = sym (take-append-drop from xs) ∙ ap (λ l. take from xs ++ l) (drop_split xs from to le)
      ∙ sym (append_assoc (take from xs) (slice_range xs from to) (drop to xs))

  -- a piece within a front
  pub front_with : (n : ℕ) (before piece after : List A) → length before + length piece ≤ n
      → take n (before ++ piece ++ after) ≡ before ++ piece ++ take (n - (length before + length piece)) after
  front_with n before piece after le =
      let sum : n ≡ length (before ++ piece) + (n - (length before + length piece)) = (let l = length-append before piece in omega (arith, l, le)) in
      ap (λ k. take k (before ++ piece ++ after)) sum ∙ take-append-add (before ++ piece) after (n - (length before + length piece))
