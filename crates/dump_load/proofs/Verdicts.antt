-- A text has one verdict: a dump's ids, the first bad line, or the first line too many.
use Rattle.std.proofs.Common.{◌≡◌, ◌∙◌, ◌≤◌, ℕ, List, [], ◌∷◌, ◌++◌, inl, inr, length, append_assoc, append-nil, refl, sym, ap, arith}
use Rattle.std.proofs.lemmas.Bool.{cases_lt}
use Rattle.std.proofs.lemmas.List.{length-append}
use Rattle.page_ids.specs.declared.ids.PageId.{PageId}
use Rattle.dump_load.specs.declared.text.DumpErr.{DumpErr}
use Rattle.dump_load.specs.declared.text.DumpErr.TheVariants.{BadLine, TooMany, OutOfMemory}
use Rattle.page_ids.specs.Typed.{ArePages}
use Rattle.dump_load.specs.Text.{id_line, dump_text, ended, IsNoId, IsDump, IsBadIdLine, IsTooMany, IsRefusedDump}
use Rattle.dump_load.proofs.Lines.{IsWhole, line_whole, one_id, cut_one}

-- the shorter of two beginnings begins the longer one
along : (ids more : List PageId) (r s : List ℕ) → ArePages ids → ArePages more → dump_text ids ++ r ≡ dump_text more ++ s → length ids ≤ length more
    → (later : List PageId) × (more ≡ ids ++ later) × (r ≡ dump_text later ++ s) × ArePages later
along [] more r s typed other e le = (more, refl, e, other)
along (p ∷ ps) [] r s typed other e le = absurd (omega (arith, le))
along (p ∷ ps) (q ∷ qs) r s typed other e le = next (along ps qs r s typed.1 other.1 first.1 (omega (arith, le)))
  where
    first : (id_line p ≡ id_line q) × (dump_text ps ++ r ≡ dump_text qs ++ s)
    first = cut_one (id_line p) (id_line q) (dump_text ps ++ r) (dump_text qs ++ s) (line_whole p typed.0) (line_whole q other.0)
        (sym (append_assoc (id_line p) (10 ∷ dump_text ps) r) ∙ e ∙ append_assoc (id_line q) (10 ∷ dump_text qs) s)

    next : (later : List PageId) × (qs ≡ ps ++ later) × (r ≡ dump_text later ++ s) × ArePages later
        → (later : List PageId) × (q ∷ qs ≡ (p ∷ ps) ++ later) × (r ≡ dump_text later ++ s) × ArePages later
    next t = (t.0, ap (λ x. x ∷ qs) (sym (one_id p q typed.0 other.0 first.0)) ∙ ap (λ xs. p ∷ xs) t.1, t.2, t.3)

-- a line stands nowhere at the end of a text
no_line : (xs ys : List ℕ) → [] ≡ xs ++ 10 ∷ ys → ⊥
no_line xs ys e = absurd (omega (arith, ap length e, length-append xs (10 ∷ ys)))

none_later : (later : List PageId) (s : List ℕ) → [] ≡ dump_text later ++ s → (later ≡ []) × (s ≡ [])
none_later [] s e = (refl, sym e)
none_later (p ∷ ps) s e = absurd (no_line (id_line p) (dump_text ps ++ s) (e ∙ append_assoc (id_line p) (10 ∷ dump_text ps) s))

-- a bad line is no id's, so nothing that begins with ids goes on behind it
bad_first : (line behind : List ℕ) (later : List PageId) (s : List ℕ) → IsWhole line → IsNoId line → ArePages later → line ++ 10 ∷ behind ≡ dump_text later ++ s → later ≡ []
bad_first line behind [] s whole bad typed e = refl
bad_first line behind (p ∷ ps) s whole bad typed e =
    absurd (bad p typed.0 (cut_one line (id_line p) behind (dump_text ps ++ s) whole (line_whole p typed.0) (e ∙ append_assoc (id_line p) (10 ∷ dump_text ps) s)).0)

same_length : (ids more later : List PageId) → more ≡ ids ++ later → later ≡ [] → length more ≡ length ids
same_length ids more later e none = ap length e ∙ ap (λ xs. length (ids ++ xs)) none ∙ ap length (append-nil ids)

whole_text : (bytes : List ℕ) (ids : List PageId) → IsDump bytes ids → ended bytes ≡ dump_text ids ++ []
whole_text bytes ids d = d.text ∙ sym (append-nil (dump_text ids))

dumps_same : (bytes : List ℕ) (ids more : List PageId) → IsDump bytes ids → IsDump bytes more → length ids ≤ length more → more ≡ ids
dumps_same bytes ids more d k le =
    let t = along ids more [] [] d.typed k.typed (sym (whole_text bytes ids d) ∙ whole_text bytes more k) le in
    t.1 ∙ ap (λ xs. ids ++ xs) (none_later t.0 [] t.2).0 ∙ append-nil ids

pub one_dump : (bytes : List ℕ) (ids more : List PageId) → IsDump bytes ids → IsDump bytes more → ids ≡ more
one_dump bytes ids more d k = elim (cases_lt (length more) (length ids)) [
  | inl l ↦ dumps_same bytes more ids k d (omega (arith, l))
  | inr ge ↦ sym (dumps_same bytes ids more d k (omega (arith, ge)))
]

dump_not_bad : (bytes : List ℕ) (ids : List PageId) (n : ℕ) → IsDump bytes ids → IsBadIdLine bytes n → ⊥
dump_not_bad bytes ids n d b = elim (cases_lt (length b.before) (length ids)) [
  | inl l ↦
      let t = along b.before ids (b.line ++ 10 ∷ b.behind) [] b.typed d.typed (sym b.text ∙ whole_text bytes ids d) (omega (arith, l)) in
      let none = bad_first b.line b.behind t.0 [] b.whole b.bad t.3 t.2 in
      absurd (omega (arith, l, same_length b.before ids t.0 t.1 none))
  | inr ge ↦
      let t = along ids b.before [] (b.line ++ 10 ∷ b.behind) d.typed b.typed (sym (whole_text bytes ids d) ∙ b.text) (omega (arith, ge)) in
      no_line b.line b.behind (sym (none_later t.0 (b.line ++ 10 ∷ b.behind) t.2).1)
]

dump_not_many : (bytes : List ℕ) (ids : List PageId) (n : ℕ) → IsDump bytes ids → IsTooMany bytes n → ⊥
dump_not_many bytes ids n d m =
    elim (cases_lt (length m.before) (length ids)) [
      | inl l ↦ absurd (omega (arith, l, d.few, m.full))
      | inr ge ↦
          let t = along ids m.before [] m.behind d.typed m.typed (sym (whole_text bytes ids d) ∙ m.text) (omega (arith, ge)) in
          m.more (none_later t.0 m.behind t.2).1
    ]

bad_same : (bytes : List ℕ) (n k : ℕ) (b : IsBadIdLine bytes n) (c : IsBadIdLine bytes k) → length b.before ≤ length c.before → k ≡ n
bad_same bytes n k b c le =
    let t = along b.before c.before (b.line ++ 10 ∷ b.behind) (c.line ++ 10 ∷ c.behind) b.typed c.typed (sym b.text ∙ c.text) le in
    let none = bad_first b.line b.behind t.0 (c.line ++ 10 ∷ c.behind) b.whole b.bad t.3 t.2 in
    omega (arith, same_length b.before c.before t.0 t.1 none, b.place, c.place)

one_bad : (bytes : List ℕ) (n k : ℕ) → IsBadIdLine bytes n → IsBadIdLine bytes k → n ≡ k
one_bad bytes n k b c = elim (cases_lt (length c.before) (length b.before)) [
  | inl l ↦ bad_same bytes k n c b (omega (arith, l))
  | inr ge ↦ sym (bad_same bytes n k b c (omega (arith, ge)))
]

bad_not_many : (bytes : List ℕ) (n k : ℕ) → IsBadIdLine bytes n → IsTooMany bytes k → ⊥
bad_not_many bytes n k b m =
    let t = along b.before m.before (b.line ++ 10 ∷ b.behind) m.behind b.typed m.typed (sym b.text ∙ m.text) (omega (arith, b.few, m.full)) in
    let none = bad_first b.line b.behind t.0 m.behind b.whole b.bad t.3 t.2 in
    absurd (omega (arith, same_length b.before m.before t.0 t.1 none, b.few, m.full))

pub dump_not_refused : (bytes : List ℕ) (ids : List PageId) (e : DumpErr) → IsDump bytes ids → IsRefusedDump bytes e → ⊥
dump_not_refused bytes ids (BadLine n) d r = dump_not_bad bytes ids n d r
dump_not_refused bytes ids (TooMany n) d r = dump_not_many bytes ids n d r
dump_not_refused bytes ids OutOfMemory d r = r

pub one_refusal : (bytes : List ℕ) (e f : DumpErr) → IsRefusedDump bytes e → IsRefusedDump bytes f → e ≡ f
one_refusal bytes (BadLine n) (BadLine k) r s = ap BadLine (one_bad bytes n k r s)
one_refusal bytes (BadLine n) (TooMany k) r s = absurd (bad_not_many bytes n k r s)
one_refusal bytes (BadLine n) OutOfMemory r s = absurd s
one_refusal bytes (TooMany n) (BadLine k) r s = absurd (bad_not_many bytes k n s r)
one_refusal bytes (TooMany n) (TooMany k) r s = ap TooMany (omega (arith, r.place, r.full, s.place, s.full))
one_refusal bytes (TooMany n) OutOfMemory r s = absurd s
one_refusal bytes OutOfMemory f r s = absurd r
