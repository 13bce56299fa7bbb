-- No record that stands there is refused, and there is one.
use Rattle.std.proofs.Common.{◌≡◌, ◌≢◌, ◌+◌, ℕ, List, length, refl, ap, sym, ◌∙◌, arith, slice_range, inl, inr}
use Rattle.page_ids.specs.Layout.{u64_at}
use Rattle.redo_mark.specs.Records.{kind_byte}
use Rattle.redo_mark.specs.Reading.{IsRecord, IsNoRecord, HasEnd}
use Rattle.redo_mark.specs.declared.record.Change.{Change}
use Rattle.redo_mark.specs.declared.record.ChangeKind.{ChangeKind}
use Rattle.redo_mark.specs.declared.record.ChangeKind.TheVariants.{Put, Create}
use Rattle.redo_mark.specs.declared.reading.ChangeErr.{ChangeErr}
use Rattle.redo_mark.specs.declared.reading.ChangeErr.TheVariants.{OutOfMemory, Short, Kind, Lsn}

pub end_of_record : (bytes : List ℕ) (start : ℕ) (c : Change) → IsRecord bytes start c → HasEnd bytes start c.kind (length c.bytes)
end_of_record bytes start c r = record { long = r.long; kind_is = r.kind; count_is = r.count; end = r.end }

kind_is_known : (kind : ChangeKind) (found : ℕ) → found ≡ kind_byte kind → found ≢ 1 → found ≢ 2 → ⊥
kind_is_known Put found is one two = one is
kind_is_known Create found is one two = two is

-- where a record has its end, none is refused
pub not_refused : (bytes : List ℕ) (start : ℕ) (kind : ChangeKind) (count : ℕ) (e : ChangeErr) → HasEnd bytes start kind count → IsNoRecord bytes start e → ⊥
not_refused bytes start kind count OutOfMemory h bad = bad
not_refused bytes start kind count (Short need have) h bad = elim bad.2 [
  | inl first ↦ omega (arith, bad.0, bad.1, first, h.long)
  | inr later ↦ omega (arith, bad.0, bad.1, later.2, h.long, h.count_is)
]
not_refused bytes start kind count (Kind found) h bad = kind_is_known kind found (bad.1 ∙ h.kind_is) bad.2 bad.3
not_refused bytes start kind count (Lsn found want) h bad =
    bad.4 (bad.2 ∙ ap (λ k. u64_at bytes (13 + k)) h.count_is ∙ h.end ∙ ap (λ k. start + 21 + k) (sym h.count_is) ∙ sym bad.3)

kind_of_byte : (a b : ChangeKind) → kind_byte a ≡ kind_byte b → a ≡ b
kind_of_byte Put Put e = refl
kind_of_byte Put Create e = absurd (omega (arith, e))
kind_of_byte Create Put e = absurd (omega (arith, e))
kind_of_byte Create Create e = refl

-- one change stands there
pub one_change : (bytes : List ℕ) (start : ℕ) (c d : Change) → IsRecord bytes start c → IsRecord bytes start d → c ≡ d
one_change bytes start c d r s =
    let space : c.page.space ≡ d.page.space = sym r.space ∙ s.space in
    let page : c.page.page ≡ d.page.page = sym r.page ∙ s.page in
    let kind : c.kind ≡ d.kind = kind_of_byte c.kind d.kind (sym r.kind ∙ s.kind) in
    let at : c.at ≡ d.at = sym r.at ∙ s.at in
    let count : length c.bytes ≡ length d.bytes = sym r.count ∙ s.count in
    let body : c.bytes ≡ d.bytes = sym r.body ∙ ap (λ k. slice_range bytes 13 (13 + k)) count ∙ s.body in
    λ i. record { page = record { space = space i; page = page i }; kind = kind i; at = at i; bytes = body i }
