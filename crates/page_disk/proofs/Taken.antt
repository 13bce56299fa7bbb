-- What is taken from a list.
use Rattle.std.proofs.Common.{◌≡◌, ◌≤◌, ◌+◌, ℕ, List, [], ◌++◌, length, take, drop, ap, refl, sym, ◌∙◌}
use Rattle.std.specs.Prelude.{Some}
use Rattle.std.proofs.lemmas.List.{take-append-drop, drop-drop}
use Rattle.std.proofs.Math.Seq.{take-append_seam}
use Rattle.std.proofs.Math.ListN.{drop_of_length-le}
use Rattle.page_disk.specs.Streams.{ComesFrom}

-- n bytes from a place on went to the front of a buffer
pub taken : (left items : List ℕ) (at n : ℕ) (copied behind : List ℕ) → drop at items ≡ left → copied ≡ take n (drop at items) → length copied ≡ n → (n ≡ 0 → length items ≤ at)
    → n ≤ length (copied ++ behind) → ComesFrom (Some left) (Some (drop (at + n) items)) n (copied ++ behind)
taken left items at n copied behind left_is is long none within = record { within = within; bytes = λ bytes told. (drop (at + n) items, refl, same bytes told, λ zero_is. bare bytes told (none zero_is)) }
  where
    front : take n (copied ++ behind) ≡ copied
    front = ap (λ k. take k (copied ++ behind)) (sym long) ∙ take-append_seam copied behind

    same : (bytes : List ℕ) → Some left ≡ Some bytes → bytes ≡ take n (copied ++ behind) ++ drop (at + n) items
    same bytes told = let is_left : left ≡ bytes = cc in
        sym (left_is ∙ is_left) ∙ sym (take-append-drop n (drop at items)) ∙ ap (λ xs. xs ++ drop n (drop at items)) (sym is ∙ sym front)
        ∙ ap (λ xs. take n (copied ++ behind) ++ xs) (drop-drop n at items)

    bare : (bytes : List ℕ) → Some left ≡ Some bytes → length items ≤ at → bytes ≡ []
    bare bytes told past = let is_left : left ≡ bytes = cc in sym (left_is ∙ is_left) ∙ drop_of_length-le items past
