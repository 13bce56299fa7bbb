-- A record by its fields is a record as a whole.
use Rattle.std.proofs.Common.{◌≡◌, ◌≤◌, ◌<◌, ◌+◌, ◌++◌, ◌^◌, ℕ, List, [], ◌∷◌, length, take, drop, refl, ap, sym, ◌∙◌, arith, slice_index, append_assoc, All, inl, inr}
use Rattle.std.specs.Int.{w16, w32, w64, to_be_bytes, from_be_bytes}
use Rattle.std.proofs.lemmas.Bool.{cases_lt}
use Rattle.std.proofs.lemmas.List.{drop_at, take_at, drop-drop, length-append, get_or_past}
use Rattle.std.proofs.lemmas.List.Folds.{drop_split}
use Rattle.std.proofs.lemmas.Nat.{from_be_bytes-to_be_bytes_2, from_be_bytes-to_be_bytes_4, from_be_bytes-to_be_bytes_8}
use Rattle.page_ids.specs.Layout.{u64_at}
use Rattle.redo_mark.specs.Records.{FitsRecord, kind_byte, head_of, record_of}
use Rattle.redo_mark.specs.Reading.{IsRecord, BeginsWith}
use Rattle.redo_mark.specs.declared.record.Change.{Change}
use Rattle.redo_mark.proofs.Fields.{AreBytes, field_2, field_4, field_8, number_8}

-- the record with its parts one behind the other
parts_are : (c : Change) (start : ℕ) (rest : List ℕ)
    → kind_byte c.kind ∷ (to_be_bytes w32 c.page.space ++ (to_be_bytes w32 c.page.page ++ (to_be_bytes w16 c.at ++ (to_be_bytes w16 (length c.bytes)
    ++ (c.bytes ++ (to_be_bytes w64 (start + length (head_of c) + 8) ++ rest))))))
    ≡ record_of c start ++ rest
parts_are c start rest = ap (λ l. kind_byte c.kind ∷ (to_be_bytes w32 c.page.space ++ (to_be_bytes w32 c.page.page ++ (to_be_bytes w16 c.at ++ (to_be_bytes w16 (length c.bytes) ++ l)))))
    (sym (append_assoc c.bytes (to_be_bytes w64 (start + length (head_of c) + 8)) rest))

pub whole_record : (bytes : List ℕ) (start : ℕ) (c : Change) → AreBytes bytes → IsRecord bytes start c → BeginsWith bytes (record_of c start)
whole_record bytes start c small r =
    let n = length c.bytes in
    let rest = drop (13 + n + 8) bytes in
    let end : u64_at bytes (13 + n) ≡ start + length (head_of c) + 8 = r.end ∙ omega arith in
    let tail : drop (13 + n) bytes ≡ to_be_bytes w64 (start + length (head_of c) + 8) ++ rest =
    field_8 bytes (13 + n) small (omega (arith, r.long)) ∙ ap (λ k. to_be_bytes w64 k ++ rest) end in
    let body : drop 13 bytes ≡ c.bytes ++ (to_be_bytes w64 (start + length (head_of c) + 8) ++ rest) =
    drop_split bytes 13 (13 + n) (omega arith) ∙ ap (λ l. l ++ drop (13 + n) bytes) r.body ∙ ap (λ l. c.bytes ++ l) tail in
    let count = field_2 bytes 11 small (omega (arith, r.long)) ∙ ap (λ k. to_be_bytes w16 k ++ drop 13 bytes) r.count ∙ ap (λ l. to_be_bytes w16 n ++ l) body in
    let at = field_2 bytes 9 small (omega (arith, r.long)) ∙ ap (λ k. to_be_bytes w16 k ++ drop 11 bytes) r.at ∙ ap (λ l. to_be_bytes w16 c.at ++ l) count in
    let page = field_4 bytes 5 small (omega (arith, r.long)) ∙ ap (λ k. to_be_bytes w32 k ++ drop 9 bytes) r.page ∙ ap (λ l. to_be_bytes w32 c.page.page ++ l) at in
    let space = field_4 bytes 1 small (omega (arith, r.long)) ∙ ap (λ k. to_be_bytes w32 k ++ drop 5 bytes) r.space ∙ ap (λ l. to_be_bytes w32 c.page.space ++ l) page in
    (rest, first bytes (omega (arith, r.long)) ∙ ap (λ k. k ∷ drop 1 bytes) r.kind ∙ ap (λ l. kind_byte c.kind ∷ l) space ∙ parts_are c start rest)
  where
    first : (bytes : List ℕ) → 0 < length bytes → bytes ≡ slice_index bytes 0 ∷ drop 1 bytes
    first [] some = absurd (omega (arith, some))
    first (b ∷ bs) some = refl

field_fits_2 : (a b : ℕ) → a < 256 → b < 256 → from_be_bytes w16 (a ∷ b ∷ []) < 2 ^ 16
field_fits_2 a b x y = omega (arith, x, y)

field_fits_4 : (a b c d : ℕ) → a < 256 → b < 256 → c < 256 → d < 256 → from_be_bytes w32 (a ∷ b ∷ c ∷ d ∷ []) < 2 ^ 32
field_fits_4 a b c d x y z w = omega (arith, x, y, z, w)

pub record_fits : (bytes : List ℕ) (start : ℕ) (c : Change) → AreBytes bytes → IsRecord bytes start c → FitsRecord c
record_fits bytes start c small r = record {
  space = rw (← r.space) (field_fits_4 _ _ _ _ (small 1) (small 2) (small 3) (small 4));
  page = rw (← r.page) (field_fits_4 _ _ _ _ (small 5) (small 6) (small 7) (small 8));
  at = rw (← r.at) (field_fits_2 _ _ (small 9) (small 10));
  count = rw (← r.count) (field_fits_2 _ _ (small 11) (small 12));
}

pub fields_of_whole : (start : ℕ) (c : Change) (rest : List ℕ) → FitsRecord c → start ≤ 2 ^ 63 → IsRecord (record_of c start ++ rest) start c
fields_of_whole start c rest fits limit =
    let n = length c.bytes in
    let end = to_be_bytes w64 (start + length (head_of c) + 8) in
    let whole = record_of c start ++ rest in
    let behind : drop 13 whole ≡ c.bytes ++ (end ++ rest) = append_assoc c.bytes end rest in
    let tail : drop (13 + n) whole ≡ end ++ rest = sym (drop-drop n 13 whole) ∙ ap (drop n) behind ∙ drop_at c.bytes (end ++ rest) n refl in
    let ends : start + length (head_of c) + 8 ≡ start + 21 + n = omega arith in
    record {
      long = (let l = length-append (c.bytes ++ end) rest in let k = length-append c.bytes end in omega (arith, l, k));
      kind = refl;
      space = from_be_bytes-to_be_bytes_4 c.page.space fits.space;
      page = from_be_bytes-to_be_bytes_4 c.page.page fits.page;
      at = from_be_bytes-to_be_bytes_2 c.at fits.at;
      count = from_be_bytes-to_be_bytes_2 n fits.count;
      body = ap (λ k. take k (drop 13 whole)) (omega arith) ∙ ap (take n) behind ∙ take_at c.bytes (end ++ rest) n refl;
      end = number_8 whole (13 + n) _ _ _ _ _ _ _ _ rest tail ∙ from_be_bytes-to_be_bytes_8 (start + length (head_of c) + 8) (omega (arith, fits.count, limit)) ∙ ends;
    }

pub fields_of : (bytes : List ℕ) (start : ℕ) (c : Change) → FitsRecord c → start ≤ 2 ^ 63 → BeginsWith bytes (record_of c start) → IsRecord bytes start c
fields_of bytes start c fits limit whole = rw whole.1 (fields_of_whole start c whole.0 fits limit)

pub bytes_of_all : (bytes : List ℕ) → All (λ b. b < 256) bytes → AreBytes bytes
bytes_of_all bytes all i = elim (cases_lt i (length bytes)) [
  | inl inside ↦ all i 0 inside
  | inr past ↦ rw (get_or_past bytes i 0 past) (omega arith)
]
