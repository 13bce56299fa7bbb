-- The line of an id, and the lines of a text.
use Rattle.std.proofs.Common.{◌≡◌, ◌≢◌, ◌∙◌, ◌+◌, ◌<◌, ◌^◌, ℕ, Bool, true, false, List, [], ◌∷◌, ◌++◌, inl, length, take, get_or, Some, append_assoc, refl, sym, ap, subst, arith}
use Rattle.std.specs.Prelude.{◌==◌}
use Rattle.std.specs.Fmt.{decimal}
use Rattle.std.specs.List.{AllByRecursion}
use Rattle.std.proofs.lemmas.Option.{option_and_then_some}
use Rattle.std.proofs.lemmas.List.{take_more, length-append}
use Rattle.std.proofs.lemmas.List.Elements.{recursion_from_All}
use Rattle.page_ids.specs.Numerals.{number_of, cut_at}
use Rattle.page_ids.specs.declared.ids.PageId.{PageId}
use Rattle.page_ids.proofs.Numbers.{number_of-decimal, number_is}
use Rattle.page_ids.proofs.Cuts.{decimal_lacks, cut_here, cut_is}
use Rattle.page_ids.specs.Typed.{FitsId, ArePages}
use Rattle.dump_load.specs.Text.{id_line, dump_text, ended}
use Rattle.dump_load.specs.Reading.{id_of}

-- no newline in it
abbrev pub IsWhole : List ℕ → Type 0
IsWhole xs = AllByRecursion (λ b. (b == 10) ≡ false) xs

whole_append : (xs ys : List ℕ) → IsWhole xs → IsWhole ys → IsWhole (xs ++ ys)
whole_append [] ys h k = k
whole_append (x ∷ xs) ys h k = (h.0, whole_append xs ys h.1 k)

pub line_whole : (p : PageId) → FitsId p → IsWhole (id_line p)
line_whole p typed =
    let digits = λ (n : ℕ) (fits : n < 2 ^ 64). recursion_from_All (λ x. (x == 10) ≡ false) (decimal n) (decimal_lacks 10 n (inl (omega arith)) fits) in
    whole_append (decimal p.space) (44 ∷ decimal p.page) (digits p.space (omega (arith, typed.0))) (refl, digits p.page (omega (arith, typed.1)))

-- an id's own line is read
pub line_read : (p : PageId) → FitsId p → id_of (id_line p) ≡ Some p
line_read p typed =
    let found = cut_here 44 (decimal p.space) (decimal p.page) (decimal_lacks 44 p.space (inl (omega arith)) (omega (arith, typed.0))) in
    let space = number_of-decimal (2 ^ 32) p.space (omega (arith, typed.0)) typed.0 in
    let page = number_of-decimal (2 ^ 32) p.page (omega (arith, typed.1)) typed.1 in
    rw found (rw space (rw page refl))

-- a line that is read is an id's own
pub line_is : (line : List ℕ) (p : PageId) → id_of line ≡ Some p → (line ≡ id_line p) × FitsId p
line_is line p e = option_and_then_some _ (cut_at 44 line) p e (λ r cut e1.
    option_and_then_some _ (number_of (2 ^ 32) r.0) p e1 (λ space first e2.
    option_and_then_some _ (number_of (2 ^ 32) r.1) p e2 (λ page second e3.
    (let s = number_is (2 ^ 32) space r.0 (omega arith) first in
    let n = number_is (2 ^ 32) page r.1 (omega arith) second in
    let id : PageId = record { space = space; page = page } in
    let same : id ≡ p = cc in
    let text : line ≡ id_line id = cut_is 44 line r.0 r.1 cut ∙ ap (λ xs. xs ++ 44 ∷ r.1) s.0 ∙ ap (λ xs. decimal space ++ 44 ∷ xs) n.0 in
    subst (λ q. (line ≡ id_line q) × FitsId q) same (text, (s.1, n.1))))))

pub one_id : (p q : PageId) → FitsId p → FitsId q → id_line p ≡ id_line q → p ≡ q
one_id p q typed other e = let same : Some p ≡ Some q = sym (line_read p typed) ∙ ap id_of e ∙ line_read q other in cc

-- texts that begin with a line begin with the same one
pub cut_one : (xs ys r s : List ℕ) → IsWhole xs → IsWhole ys → xs ++ 10 ∷ r ≡ ys ++ 10 ∷ s → (xs ≡ ys) × (r ≡ s)
cut_one [] [] r s h k e = (refl, cc)
cut_one [] (y ∷ ys) r s h k e = let same : 10 ≡ y = cc in let bad : true ≡ false = ap (λ b. b == 10) same ∙ k.0 in absurd (cc)
cut_one (x ∷ xs) [] r s h k e = let same : x ≡ 10 = cc in let bad : true ≡ false = sym (ap (λ b. b == 10) same) ∙ h.0 in absurd (cc)
cut_one (x ∷ xs) (y ∷ ys) r s h k e =
    let first : x ≡ y = cc in
    let others : xs ++ 10 ∷ r ≡ ys ++ 10 ∷ s = cc in
    let next = cut_one xs ys r s h.1 k.1 others in
    (ap (λ z. z ∷ xs) first ∙ ap (λ zs. y ∷ zs) next.0, next.1)

pub ended_at : (xs ys : List ℕ) → ended (xs ++ 10 ∷ ys) ≡ xs ++ 10 ∷ ended ys
ended_at [] [] = refl
ended_at [] (y ∷ ys) = refl
ended_at (x ∷ []) ys = ap (λ zs. x ∷ zs) (ended_at [] ys)
ended_at (x ∷ z ∷ zs) ys = ap (λ ws. x ∷ ws) (ended_at (z ∷ zs) ys)

pub ended_last : (xs : List ℕ) → 0 < length xs → IsWhole xs → ended xs ≡ xs ++ 10 ∷ []
ended_last [] some h = absurd (omega (arith, some))
ended_last (x ∷ []) some h = rw h.0 refl
ended_last (x ∷ z ∷ zs) some h = ap (λ ws. x ∷ ws) (ended_last (z ∷ zs) (omega arith) h.1)

pub ended_text : (ids : List PageId) → ended (dump_text ids) ≡ dump_text ids
ended_text [] = refl
ended_text (p ∷ ps) = ended_at (id_line p) (dump_text ps) ∙ ap (λ ws. id_line p ++ 10 ∷ ws) (ended_text ps)

pub text_append : (ps qs : List PageId) → dump_text (ps ++ qs) ≡ dump_text ps ++ dump_text qs
text_append [] qs = refl
text_append (p ∷ ps) qs = ap (λ ws. id_line p ++ 10 ∷ ws) (text_append ps qs) ∙ sym (append_assoc (id_line p) (10 ∷ dump_text ps) (dump_text qs))

pub text_push : (ps : List PageId) (p : PageId) (behind : List ℕ) → dump_text ps ++ (id_line p ++ 10 ∷ behind) ≡ dump_text (ps ++ p ∷ []) ++ behind
text_push ps p behind =
    ap (λ ws. dump_text ps ++ ws) (sym (append_assoc (id_line p) (10 ∷ []) behind))
    ∙ sym (append_assoc (dump_text ps) (id_line p ++ 10 ∷ []) behind)
    ∙ ap (λ ws. ws ++ behind) (sym (text_append ps (p ∷ [])))

pub typed_push : (ps : List PageId) (p : PageId) → ArePages ps → FitsId p → ArePages (ps ++ p ∷ [])
typed_push [] p h k = (k, tt)
typed_push (q ∷ qs) p h k = (h.0, typed_push qs p h.1 k)

pub text_more : (ids : List PageId) (i : ℕ) (d : PageId) → i < length ids → dump_text (take (i + 1) ids) ≡ dump_text (take i ids) ++ (id_line (get_or ids i d) ++ 10 ∷ [])
text_more ids i d inside = ap dump_text (take_more ids i d inside) ∙ text_append (take i ids) (get_or ids i d ∷ [])

-- the last line without its newline
pub ended_cut : (ids : List PageId) (last : PageId) → FitsId last → ended (dump_text ids ++ id_line last) ≡ dump_text (ids ++ last ∷ [])
ended_cut [] last typed = ended_last (id_line last) (omega (arith, length-append (decimal last.space) (44 ∷ decimal last.page))) (line_whole last typed)
ended_cut (p ∷ ps) last typed =
    ap ended (append_assoc (id_line p) (10 ∷ dump_text ps) (id_line last))
    ∙ ended_at (id_line p) (dump_text ps ++ id_line last)
    ∙ ap (λ ws. id_line p ++ 10 ∷ ws) (ended_cut ps last typed)

pub typed_last : (ids : List PageId) (last : PageId) → ArePages (ids ++ last ∷ []) → FitsId last
typed_last [] last h = h.0
typed_last (p ∷ ps) last h = typed_last ps last h.1

pub ended_some : (xs : List ℕ) → 0 < length xs → ended xs ≢ []
ended_some [] some = absurd (omega (arith, some))
ended_some (x ∷ []) some = λ e. cases (x == 10) refl e
  where
    cases : (b : Bool) → (x == 10) ≡ b → ended (x ∷ []) ≡ [] → ⊥
    cases true t e = let bad : x ∷ [] ≡ [] = rw t at e in absurd (omega (arith, ap length bad))
    cases false t e = let bad : x ∷ 10 ∷ [] ≡ [] = rw t at e in absurd (omega (arith, ap length bad))
ended_some (x ∷ y ∷ ys) some = λ e. absurd (omega (arith, ap length e))
