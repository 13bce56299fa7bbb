-- The two sublists behind each change of the list.
use Rattle.std.proofs.Common.{◌≡◌, ◌≢◌, ◌∙◌, ◌+◌, ◌-◌, ◌<◌, ◌≤◌, ◌==◌, ℕ, Bool, true, false, not, cond, List, [], ◌∷◌, ◌++◌, ◌⊎◌, inl, inr, length, set, Option, Some, None, refl, sym, ap, subst, append_assoc, arith, nat_lt}
use Rattle.std.specs.Prelude.{map, remove, insert, slice_set}
use Rattle.std.proofs.lemmas.List.{length-map, length-append, length-set, map-append, get_or-set_same, get_or-set_other}
use Rattle.std.proofs.lemmas.Bool.{cases_eq, cases_lt, ne_eqb, eq-eqb, lt-ltb, le-ltb}
use Rattle.link_lists.specs.Grid.{times}
use Rattle.link_lists.specs.Chains.{first, last}
use Rattle.link_lists.specs.IndexLists.{IndexList, IsInOrder}
use Rattle.link_lists.proofs.Times.{times-cons, times-append, times_at, times_past, none_before, none_behind, placed}
use Rattle.page_ids.specs.Midpoint.{Listed, place_of}
use Rattle.midpoint_lru.specs.declared.sublists.Member.{Member}
use Rattle.midpoint_lru.specs.Parts.{instead}
use Rattle.midpoint_lru.specs.Sublists.{listed_as, member_of, listed_of, IsList, AreSublists}
use Rattle.midpoint_lru.proofs.Listed.{never, listed_agree, removed, set_to, place_is, insert_there}

abbrev pub blank : Member
blank = record { first = None; since = 0; is_old = false }

-- what a call leaves: the sublists, with the list and the old length that they come to
pub record Leaves (c : IndexList) (ms : List Member) (first_old : Option ℕ) (listed : List (Listed ℕ)) (old_len : ℕ) : Type 0 where
  pub young : List ℕ
  pub old : List ℕ
  pub are : AreSublists c ms first_old young old
  pub listed_is : map (listed_of ms) (young ++ old) ≡ listed
  pub share_is : old_len ≡ length old

-- the first one where one is left out, or another stands for it
pub instead_out : (x : ℕ) (front back : List ℕ) → times x front ≡ 0 → instead (first (front ++ x ∷ back)) x (first back) ≡ first (front ++ back)
instead_out x [] back none = ap (λ b. cond b (first back) (Some x)) (eq-eqb x x refl)
instead_out x (z ∷ zs) back none = elim (cases_eq z x) [
  | inl e ↦ absurd (omega (arith, none, times_at z zs, ap (λ i. times i (z ∷ zs)) e))
  | inr ne ↦ ap (λ b. cond b (first back) (Some z)) (ne_eqb z x ne)
]

pub instead_new : (x n : ℕ) (front back : List ℕ) → times x front ≡ 0 → instead (first (front ++ x ∷ back)) x (Some n) ≡ first (front ++ n ∷ back)
instead_new x n [] back none = ap (λ b. cond b (Some n) (Some x)) (eq-eqb x x refl)
instead_new x n (z ∷ zs) back none = elim (cases_eq z x) [
  | inl e ↦ absurd (omega (arith, none, times_at z zs, ap (λ i. times i (z ∷ zs)) e))
  | inr ne ↦ ap (λ b. cond b (Some n) (Some z)) (ne_eqb z x ne)
]

pub instead_none : (x : ℕ) (xs : List ℕ) (other : Option ℕ) → times x xs ≡ 0 → instead (first xs) x other ≡ first xs
instead_none x [] other none = refl
instead_none x (z ∷ zs) other none = elim (cases_eq z x) [
  | inl e ↦ absurd (omega (arith, none, times_at z zs, ap (λ i. times i (z ∷ zs)) e))
  | inr ne ↦ ap (λ b. cond b other (Some z)) (ne_eqb z x ne)
]

-- a list in order, by its frames
pub in_list : (l : IndexList) (xs : List ℕ) → IsInOrder l → l.items ≡ xs → IsList l xs
in_list l xs order e = record { is = e; once = subst (λ ys. (x : ℕ) → times x ys ≤ 1) e order.once }

pub none_last : (xs : List ℕ) → last xs ≡ None → xs ≡ []
none_last [] e = refl
none_last (x ∷ xs) e = absurd (never x xs e)

-- what is kept of a frame, behind a write
module _ (ms : List Member) (x : ℕ) (m : Member) where
  here : x < length ms → member_of (set ms x m) x ≡ m
  here l = get_or-set_same ms x m blank l

  other : (f : ℕ) → x ≢ f → member_of (set ms x m) f ≡ member_of ms f
  other f ne = get_or-set_other ms x f m blank (λ e. ne (sym e))

  -- the marks of a list without it stay
  marks_stay : (b : Bool) (xs : List ℕ) → times x xs ≡ 0 → ((f : ℕ) → 1 ≤ times f xs → (member_of ms f).is_old ≡ b) → (f : ℕ) → 1 ≤ times f xs → (member_of (set ms x m) f).is_old ≡ b
  marks_stay b xs none marks f there = elim (cases_eq x f) [
    | inl e ↦ absurd (omega (arith, none, there, ap (λ i. times i xs) e))
    | inr ne ↦ ap (λ (k : Member). k.is_old) (other f ne) ∙ marks f there
  ]

  -- and those of a list with it are all its own mark, where that is the others'
  marks_with : (b : Bool) (xs ys : List ℕ) → x < length ms → m.is_old ≡ b → ((f : ℕ) → x ≢ f → 1 ≤ times f ys → 1 ≤ times f xs)
      → ((f : ℕ) → 1 ≤ times f xs → (member_of ms f).is_old ≡ b) → (f : ℕ) → 1 ≤ times f ys → (member_of (set ms x m) f).is_old ≡ b
  marks_with b xs ys l mark few marks f there = elim (cases_eq x f) [
    | inl e ↦ ap (λ i. (member_of (set ms x m) i).is_old) (sym e) ∙ ap (λ (k : Member). k.is_old) (here l) ∙ mark
    | inr ne ↦ ap (λ (k : Member). k.is_old) (other f ne) ∙ marks f (few f ne there)
  ]

  listed_stays : (xs : List ℕ) → times x xs ≡ 0 → map (listed_of (set ms x m)) xs ≡ map (listed_of ms) xs
  listed_stays xs none = listed_agree ms (set ms x m) xs (λ f there. elim (cases_eq x f) [
    | inl e ↦ absurd (omega (arith, none, there, ap (λ i. times i xs) e))
    | inr ne ↦ ap (listed_as f) (other f ne)
  ])

  listed_here : x < length ms → listed_of (set ms x m) x ≡ listed_as x m
  listed_here l = ap (listed_as x) (here l)

-- a mark alone changes nothing of the list
listed_marked : (ms : List Member) (x : ℕ) (m : Member) (xs : List ℕ) → x < length ms → m.first ≡ (member_of ms x).first → m.since ≡ (member_of ms x).since
    → map (listed_of (set ms x m)) xs ≡ map (listed_of ms) xs
listed_marked ms x m xs l first since = listed_agree ms (set ms x m) xs (λ f there. elim (cases_eq x f) [
  | inl e ↦ subst (λ i. listed_of (set ms x m) i ≡ listed_of ms i) e
      (listed_here ms x m l ∙ ap (λ a. let y : Listed ℕ = record { key = x; first = a; since = m.since } in y) first ∙ ap (λ b. let y : Listed ℕ = record { key = x; first = (member_of ms x).first; since = b } in y) since)
  | inr ne ↦ ap (listed_as f) (other ms x m f ne)
])

module _ (c c' : IndexList) (ms : List Member) (fo : Option ℕ) (young old : List ℕ) (s : AreSublists c ms fo young old) where
  once : (x : ℕ) → times x (young ++ old) ≤ 1
  once = s.whole.once

  -- a frame comes in at the head
  pub with_first : (x : ℕ) (m : Member) (old_len : ℕ) → x < length ms → times x (young ++ old) ≡ 0 → m.is_old ≡ false → old_len ≡ length old
      → IsList c' (x ∷ young ++ old)
      → Leaves c' (set ms x m) fo (listed_as x m ∷ map (listed_of ms) (young ++ old)) old_len
  with_first x m old_len l none mark share chain =
      let parts = times-append x young old in record {
        young = x ∷ young;
        old = old;
        are = record {
          whole = chain;
          first = s.first;
          young_marks = marks_with ms x m false young (x ∷ young) l mark (λ f ne there. omega (arith, there, times_past f x young ne)) s.young_marks;
          old_marks = marks_stay ms x m true old (omega (arith, none, parts)) s.old_marks;
          there = λ f there. elim (cases_eq x f) [
            | inl e ↦ omega (arith, l, e, length-set ms x m)
            | inr ne ↦ omega (arith, s.there f (omega (arith, there, times_past f x (young ++ old) ne)), length-set ms x m)
          ];
        };
        listed_is = ap (λ y. y ∷ map (listed_of (set ms x m)) (young ++ old)) (listed_here ms x m l)
            ∙ ap (λ ys. listed_as x m ∷ ys) (listed_stays ms x m (young ++ old) none);
        share_is = share;
      }

  -- or before the first old one
  pub with_between : (x : ℕ) (m : Member) (old_len : ℕ) → x < length ms → times x (young ++ old) ≡ 0 → m.is_old ≡ false → old_len ≡ length old
      → IsList c' (young ++ x ∷ old)
      → Leaves c' (set ms x m) fo (insert (map (listed_of ms) (young ++ old)) (length (map (listed_of ms) (young ++ old)) - old_len) (listed_as x m)) old_len
  with_between x m old_len l none mark share chain =
      let parts = times-append x young old in
      let young_none : times x young ≡ 0 = omega (arith, none, parts) in
      let old_none : times x old ≡ 0 = omega (arith, none, parts) in
      let ms' = set ms x m in
      let y = listed_as x m in
      let whole : (young ++ x ∷ []) ++ old ≡ young ++ x ∷ old = append_assoc young (x ∷ []) old in
      let at : length (map (listed_of ms) (young ++ old)) - old_len ≡ length (map (listed_of ms) young) = omega (arith, share, length-map (young ++ old) (listed_of ms), length-map young (listed_of ms), length-append young old) in record {
        young = young ++ x ∷ [];
        old = old;
        are = record {
          whole = subst (λ ys. IsList c' ys) (sym whole) chain;
          first = s.first;
          young_marks = marks_with ms x m false young (young ++ x ∷ []) l mark (λ f ne there. omega (arith, there, times-append f young (x ∷ []), times_past f x [] ne)) s.young_marks;
          old_marks = marks_stay ms x m true old old_none s.old_marks;
          there = λ f there. elim (cases_eq x f) [
            | inl e ↦ omega (arith, l, e, length-set ms x m)
            | inr ne ↦ omega (arith, s.there f (omega (arith, there, ap (times f) whole, times-append f young (x ∷ old), times-append f young old, times_past f x old ne)), length-set ms x m)
          ];
        };
        listed_is = ap (map (listed_of ms')) whole ∙ map-append (listed_of ms') young (x ∷ old)
            ∙ ap (λ ys. ys ++ listed_of ms' x ∷ map (listed_of ms') old) (listed_stays ms x m young young_none)
            ∙ ap (λ z. map (listed_of ms) young ++ z ∷ map (listed_of ms') old) (listed_here ms x m l)
            ∙ ap (λ ys. map (listed_of ms) young ++ y ∷ ys) (listed_stays ms x m old old_none)
            ∙ sym (insert_there (map (listed_of ms) young) (map (listed_of ms) old) y)
            ∙ ap (λ ys. insert ys (length (map (listed_of ms) young)) y) (sym (map-append (listed_of ms) young old))
            ∙ ap (λ i. insert (map (listed_of ms) (young ++ old)) i y) (sym at);
        share_is = share;
      }

  -- in which sublist a frame stands
  pub sides : (x : ℕ) → 1 ≤ times x (young ++ old) → ((front back : List ℕ) × (young ≡ front ++ x ∷ back)) ⊎ ((front back : List ℕ) × (old ≡ front ++ x ∷ back))
  sides x there = elim (cases_lt 0 (times x young)) [
    | inl l ↦ inl (placed x young (omega (arith, l)))
    | inr none ↦ inr (placed x old (omega (arith, none, there, times-append x young old)))
  ]

  module _ (x : ℕ) (front back : List ℕ) where
    left : young ≡ front ++ x ∷ back → young ++ old ≡ front ++ x ∷ (back ++ old)
    left e = ap (λ ys. ys ++ old) e ∙ append_assoc front (x ∷ back) old

    right : old ≡ front ++ x ∷ back → young ++ old ≡ (young ++ front) ++ x ∷ back
    right e = ap (λ ys. young ++ ys) e ∙ sym (append_assoc young front (x ∷ back))

  -- what the mark of a frame says of its place
  pub marked : (x : ℕ) → 1 ≤ times x (young ++ old) → (old_len : ℕ) → old_len ≡ length old
      → (member_of ms x).is_old ≡ not (nat_lt (place_of ◌==◌ x (map (listed_of ms) (young ++ old))) (length (map (listed_of ms) (young ++ old)) - old_len))
  marked x there old_len share = elim (sides x there) [
    | inl t ↦
        let e = left x t.0 t.1 t.2 in
        let at = ap (λ ys. place_of ◌==◌ x (map (listed_of ms) ys)) e ∙ place_is ms x t.0 (t.1 ++ old) (none_before x t.0 (t.1 ++ old) (subst (λ ys. times x ys ≤ 1) e (once x))) in
        let less = lt-ltb (place_of ◌==◌ x (map (listed_of ms) (young ++ old))) (length (map (listed_of ms) (young ++ old)) - old_len)
        (omega (arith, at, share, length-map (young ++ old) (listed_of ms), length-append young old, ap length t.2, length-append t.0 (x ∷ t.1))) in
        let inside : 1 ≤ times x young = omega (arith, ap (times x) t.2, times-append x t.0 (x ∷ t.1), times_at x t.1) in
        s.young_marks x inside ∙ sym (ap not less)
    | inr t ↦
        let e = right x t.0 t.1 t.2 in
        let at = ap (λ ys. place_of ◌==◌ x (map (listed_of ms) ys)) e ∙ place_is ms x (young ++ t.0) t.1 (none_before x (young ++ t.0) t.1 (subst (λ ys. times x ys ≤ 1) e (once x))) in
        let past = le-ltb (place_of ◌==◌ x (map (listed_of ms) (young ++ old))) (length (map (listed_of ms) (young ++ old)) - old_len)
        (omega (arith, at, share, length-map (young ++ old) (listed_of ms), length-append young old, length-append young t.0)) in
        let inside : 1 ≤ times x old = omega (arith, ap (times x) t.2, times-append x t.0 (x ∷ t.1), times_at x t.1) in
        s.old_marks x inside ∙ sym (ap not past)
  ]

  -- and that somebody is old where the frame is
  pub old_counted : (x : ℕ) → 1 ≤ times x (young ++ old) → cond (member_of ms x).is_old 1 0 ≤ length old
  old_counted x there = elim (sides x there) [
    | inl t ↦
        let inside : 1 ≤ times x young = omega (arith, ap (times x) t.2, times-append x t.0 (x ∷ t.1), times_at x t.1) in
        omega (arith, ap {B = ℕ} (λ b. cond b 1 0) (s.young_marks x inside))
    | inr t ↦
        let inside : 1 ≤ times x old = omega (arith, ap (times x) t.2, times-append x t.0 (x ∷ t.1), times_at x t.1) in
        omega (arith, ap {B = ℕ} (λ b. cond b 1 0) (s.old_marks x inside), ap length t.2, length-append t.0 (x ∷ t.1))
  ]

  -- more nodes, where the same is kept of the listed frames
  pub with_more : (ms' : List Member) (old_len : ℕ) → old_len ≡ length old → length ms ≤ length ms'
      → ((f : ℕ) → 1 ≤ times f (young ++ old) → member_of ms' f ≡ member_of ms f) → IsList c' (young ++ old)
      → Leaves c' ms' fo (map (listed_of ms) (young ++ old)) old_len
  with_more ms' old_len share more same whole = record {
    young = young;
    old = old;
    are = record {
      whole = whole;
      first = s.first;
      young_marks = λ f there. ap (λ (m : Member). m.is_old) (same f (omega (arith, there, times-append f young old))) ∙ s.young_marks f there;
      old_marks = λ f there. ap (λ (m : Member). m.is_old) (same f (omega (arith, there, times-append f young old))) ∙ s.old_marks f there;
      there = λ f there. omega (arith, s.there f there, more);
    };
    listed_is = listed_agree ms ms' (young ++ old) (λ f there. ap (listed_as f) (same f there));
    share_is = share;
  }

  -- a frame goes out
  module _ (x : ℕ) (fo' next : Option ℕ) (old_len : ℕ) (share : old_len ≡ length old)
      (follows : (front back : List ℕ) → IsList c (front ++ x ∷ back) → next ≡ first back) (is : fo' ≡ instead fo x next)
      (out : (front back : List ℕ) → IsList c (front ++ x ∷ back) → IsList c' (front ++ back)) where
    without_young : (front back : List ℕ) → young ≡ front ++ x ∷ back
        → Leaves c' ms fo' (remove (map (listed_of ms) (young ++ old)) (place_of ◌==◌ x (map (listed_of ms) (young ++ old)))) old_len
    without_young front back e =
        let w = left x front back e in
        let whole : IsList c (front ++ x ∷ (back ++ old)) = subst (λ ys. IsList c ys) w s.whole in
        let before = none_before x front (back ++ old) (whole.once x) in
        let behind = none_behind x front (back ++ old) (whole.once x) in
        let same : (front ++ back) ++ old ≡ front ++ (back ++ old) = append_assoc front back old in
        let old_none : times x old ≡ 0 = omega (arith, behind, times-append x back old) in record {
          young = front ++ back;
          old = old;
          are = record {
            whole = subst (λ ys. IsList c' ys) (sym same) (out front (back ++ old) whole);
            first = is ∙ ap (λ o. instead o x next) s.first ∙ instead_none x old next old_none;
            young_marks = λ f there. s.young_marks f (omega (arith, there, ap (times f) e, times-append f front back, times-append f front (x ∷ back), times-cons f x back));
            old_marks = s.old_marks;
            there = λ f there. s.there f (omega (arith, there, ap (times f) w, ap (times f) same, times-append f front (back ++ old), times-append f front (x ∷ (back ++ old)), times-cons f x (back ++ old)));
          };
          listed_is = ap (map (listed_of ms)) same ∙ removed ms x front (back ++ old) before ∙ ap (λ ys. remove (map (listed_of ms) ys) (place_of ◌==◌ x (map (listed_of ms) ys))) (sym w);
          share_is = share;
        }

    without_old : (front back : List ℕ) → old ≡ front ++ x ∷ back
        → Leaves c' ms fo' (remove (map (listed_of ms) (young ++ old)) (place_of ◌==◌ x (map (listed_of ms) (young ++ old)))) (old_len - 1)
    without_old front back e =
        let w = right x front back e in
        let whole : IsList c ((young ++ front) ++ x ∷ back) = subst (λ ys. IsList c ys) w s.whole in
        let before = none_before x (young ++ front) back (whole.once x) in
        let same : young ++ (front ++ back) ≡ (young ++ front) ++ back = sym (append_assoc young front back) in
        let front_none : times x front ≡ 0 = omega (arith, before, times-append x young front) in record {
          young = young;
          old = front ++ back;
          are = record {
            whole = subst (λ ys. IsList c' ys) (sym same) (out (young ++ front) back whole);
            first = is ∙ ap (λ o. instead o x next) (s.first ∙ ap first e) ∙ ap (instead (first (front ++ x ∷ back)) x) (follows (young ++ front) back whole) ∙ instead_out x front back front_none;
            young_marks = s.young_marks;
            old_marks = λ f there. s.old_marks f (omega (arith, there, ap (times f) e, times-append f front back, times-append f front (x ∷ back), times-cons f x back));
            there = λ f there. s.there f (omega (arith, there, ap (times f) w, ap (times f) same, times-append f (young ++ front) back, times-append f (young ++ front) (x ∷ back), times-cons f x back));
          };
          listed_is = ap (map (listed_of ms)) same ∙ removed ms x (young ++ front) back before ∙ ap (λ ys. remove (map (listed_of ms) ys) (place_of ◌==◌ x (map (listed_of ms) ys))) (sym w);
          share_is = omega (arith, share, ap length e, length-append front (x ∷ back), length-append front back);
        }

    pub without : 1 ≤ times x (young ++ old) → (left_old : ℕ) → left_old ≡ old_len - cond (member_of ms x).is_old 1 0
        → Leaves c' ms fo' (remove (map (listed_of ms) (young ++ old)) (place_of ◌==◌ x (map (listed_of ms) (young ++ old)))) left_old
    without there left_old less = elim (sides x there) [
      | inl t ↦
          let inside : 1 ≤ times x young = omega (arith, ap (times x) t.2, times-append x t.0 (x ∷ t.1), times_at x t.1) in
          let mark = ap {B = ℕ} (λ b. cond b 1 0) (s.young_marks x inside) in
          subst (λ n. Leaves c' ms fo' (remove (map (listed_of ms) (young ++ old)) (place_of ◌==◌ x (map (listed_of ms) (young ++ old)))) n) (omega (arith, less, mark)) (without_young t.0 t.1 t.2)
      | inr t ↦
          let inside : 1 ≤ times x old = omega (arith, ap (times x) t.2, times-append x t.0 (x ∷ t.1), times_at x t.1) in
          let mark = ap {B = ℕ} (λ b. cond b 1 0) (s.old_marks x inside) in
          subst (λ n. Leaves c' ms fo' (remove (map (listed_of ms) (young ++ old)) (place_of ◌==◌ x (map (listed_of ms) (young ++ old)))) n) (omega (arith, less, mark)) (without_old t.0 t.1 t.2)
    ]

-- the list where another frame stands for one, or the same with a new first access
written_split : (ms : List Member) (o n : ℕ) (m : Member) (front back : List ℕ) → times n front ≡ 0 → times n back ≡ 0 → times o front ≡ 0 → n < length ms
    → map (listed_of (set ms n m)) (front ++ n ∷ back)
    ≡ slice_set (map (listed_of ms) (front ++ o ∷ back)) (place_of ◌==◌ o (map (listed_of ms) (front ++ o ∷ back))) (listed_as n m)
written_split ms o n m front back before behind own l =
    let ms' = set ms n m in
    let y = listed_as n m in
    map-append (listed_of ms') front (n ∷ back)
    ∙ ap (λ ys. ys ++ listed_of ms' n ∷ map (listed_of ms') back) (listed_stays ms n m front before)
    ∙ ap (λ z. map (listed_of ms) front ++ z ∷ map (listed_of ms') back) (listed_here ms n m l)
    ∙ ap (λ ys. map (listed_of ms) front ++ y ∷ ys) (listed_stays ms n m back behind)
    ∙ set_to ms o front back own y

module _ (c : IndexList) (ms : List Member) (fo : Option ℕ) (young old : List ℕ) (s : AreSublists c ms fo young old)
    (x : ℕ) (m : Member) (old_len : ℕ) (l : x < length ms) (share : old_len ≡ length old) where
  there_still : (f : ℕ) → 1 ≤ times f (young ++ old) → f < length (set ms x m)
  there_still f there = omega (arith, s.there f there, length-set ms x m)

  -- a listed frame has another first access
  pub with_access : 1 ≤ times x (young ++ old) → m.is_old ≡ (member_of ms x).is_old
      → Leaves c (set ms x m) fo (slice_set (map (listed_of ms) (young ++ old)) (place_of ◌==◌ x (map (listed_of ms) (young ++ old))) (listed_as x m)) old_len
  with_access there mark = record {
    young = young;
    old = old;
    are = record {
      whole = s.whole;
      first = s.first;
      young_marks = λ f inside. same_mark f ∙ s.young_marks f inside;
      old_marks = λ f inside. same_mark f ∙ s.old_marks f inside;
      there = there_still;
    };
    listed_is = by_split (placed x (young ++ old) there);
    share_is = share;
  }
    where
      same_mark : (f : ℕ) → (member_of (set ms x m) f).is_old ≡ (member_of ms f).is_old
      same_mark f = elim (cases_eq x f) [
        | inl e ↦ ap (λ i. (member_of (set ms x m) i).is_old) (sym e) ∙ ap (λ (k : Member). k.is_old) (here ms x m l) ∙ mark ∙ ap (λ i. (member_of ms i).is_old) e
        | inr ne ↦ ap (λ (k : Member). k.is_old) (other ms x m f ne)
      ]

      by_split : (front back : List ℕ) × (young ++ old ≡ front ++ x ∷ back)
          → map (listed_of (set ms x m)) (young ++ old) ≡ slice_set (map (listed_of ms) (young ++ old)) (place_of ◌==◌ x (map (listed_of ms) (young ++ old))) (listed_as x m)
      by_split t =
          let own = subst (λ ys. times x ys ≤ 1) t.2 (s.whole.once x) in
          let before = none_before x t.0 t.1 own in
          let y = listed_as x m in
          ap (map (listed_of (set ms x m))) t.2 ∙ written_split ms x x m t.0 t.1 before (none_behind x t.0 t.1 own) before l
          ∙ ap (λ ys. slice_set (map (listed_of ms) ys) (place_of ◌==◌ x (map (listed_of ms) ys)) y) (sym t.2)

  -- the last young frame is old
  pub wider : (front : List ℕ) → young ≡ front ++ x ∷ [] → m.first ≡ (member_of ms x).first → m.since ≡ (member_of ms x).since → m.is_old ≡ true
      → Leaves c (set ms x m) (Some x) (map (listed_of ms) (young ++ old)) (old_len + 1)
  wider front e first since mark =
      let same : front ++ x ∷ old ≡ young ++ old = sym (ap (λ ys. ys ++ old) e ∙ append_assoc front (x ∷ []) old) in
      let own : times x (front ++ x ∷ old) ≤ 1 = subst (λ ys. times x ys ≤ 1) (sym same) (s.whole.once x) in record {
        young = front;
        old = x ∷ old;
        are = record {
          whole = subst (λ ys. IsList c ys) (sym same) s.whole;
          first = refl;
          young_marks = marks_stay ms x m false front (none_before x front old own) (λ f inside. s.young_marks f (omega (arith, inside, ap (times f) e, times-append f front (x ∷ []))));
          old_marks = marks_with ms x m true old (x ∷ old) l mark (λ f ne inside. omega (arith, inside, times_past f x old ne)) s.old_marks;
          there = λ f there. there_still f (omega (arith, there, ap (times f) same));
        };
        listed_is = ap (map (listed_of (set ms x m))) same ∙ listed_marked ms x m (young ++ old) l first since;
        share_is = omega (arith, share);
      }

  -- the first old frame is young
  pub narrower : (rest : List ℕ) (fo' : Option ℕ) → old ≡ x ∷ rest → fo' ≡ first rest → m.first ≡ (member_of ms x).first → m.since ≡ (member_of ms x).since → m.is_old ≡ false
      → Leaves c (set ms x m) fo' (map (listed_of ms) (young ++ old)) (old_len - 1)
  narrower rest fo' e is first since mark =
      let same : (young ++ x ∷ []) ++ rest ≡ young ++ old = append_assoc young (x ∷ []) rest ∙ ap (λ ys. young ++ ys) (sym e) in
      let own : times x (young ++ x ∷ rest) ≤ 1 = subst (λ ys. times x (young ++ ys) ≤ 1) e (s.whole.once x) in record {
        young = young ++ x ∷ [];
        old = rest;
        are = record {
          whole = subst (λ ys. IsList c ys) (sym same) s.whole;
          first = is;
          young_marks = marks_with ms x m false young (young ++ x ∷ []) l mark (λ f ne inside. omega (arith, inside, times-append f young (x ∷ []), times_past f x [] ne)) s.young_marks;
          old_marks = marks_stay ms x m true rest (none_behind x young rest own) (λ f inside. s.old_marks f (omega (arith, inside, ap (times f) e, times-cons f x rest)));
          there = λ f there. there_still f (omega (arith, there, ap (times f) same));
        };
        listed_is = ap (map (listed_of (set ms x m))) same ∙ listed_marked ms x m (young ++ old) l first since;
        share_is = omega (arith, share, ap length e);
      }

module _ (c c' : IndexList) (ms : List Member) (fo fo' : Option ℕ) (young old : List ℕ) (s : AreSublists c ms fo young old)
    (x n : ℕ) (m : Member) (old_len : ℕ) (l : n < length ms) (share : old_len ≡ length old)
    (none : times n (young ++ old) ≡ 0) (kept : m ≡ member_of ms x) (is : fo' ≡ instead fo x (Some n))
    (swap : (front back : List ℕ) → IsList c (front ++ x ∷ back) → IsList c' (front ++ n ∷ back)) where
  abbrev pub list_then : List (Listed ℕ)
  list_then = slice_set (map (listed_of ms) (young ++ old)) (place_of ◌==◌ x (map (listed_of ms) (young ++ old))) (listed_as n m)

  there_then : (front back : List ℕ) → young ++ old ≡ front ++ x ∷ back → (f : ℕ) → 1 ≤ times f (front ++ n ∷ back) → f < length (set ms n m)
  there_then front back w f there = elim (cases_eq n f) [
    | inl e ↦ omega (arith, l, e, length-set ms n m)
    | inr ne ↦ omega (arith, s.there f (omega (arith, there, ap (times f) w, times-append f front (n ∷ back), times-append f front (x ∷ back), times_past f n back ne, times-cons f x back)), length-set ms n m)
  ]

  listed_then : (front back : List ℕ) → young ++ old ≡ front ++ x ∷ back → map (listed_of (set ms n m)) (front ++ n ∷ back) ≡ list_then
  listed_then front back w =
      let y = listed_as n m in
      let parts = times-append n front (x ∷ back) in
      let all = ap (times n) (sym w) ∙ none in
      let own = subst (λ ys. times x ys ≤ 1) w (s.whole.once x) in
      written_split ms x n m front back (omega (arith, all, parts)) (omega (arith, all, parts, times-cons n x back)) (none_before x front back own) l
      ∙ ap (λ ys. slice_set (map (listed_of ms) ys) (place_of ◌==◌ x (map (listed_of ms) ys)) y) (sym w)

  mark_of : (b : Bool) → (member_of ms x).is_old ≡ b → m.is_old ≡ b
  mark_of b e = ap (λ (k : Member). k.is_old) kept ∙ e

  few : (front back xs : List ℕ) → xs ≡ front ++ x ∷ back → (f : ℕ) → n ≢ f → 1 ≤ times f (front ++ n ∷ back) → 1 ≤ times f xs
  few front back xs e f ne there = omega (arith, there, ap (times f) e, times-append f front (n ∷ back), times-append f front (x ∷ back), times_past f n back ne, times-cons f x back)

  swapped_young : (front back : List ℕ) → young ≡ front ++ x ∷ back → Leaves c' (set ms n m) fo' list_then old_len
  swapped_young front back e =
      let w : young ++ old ≡ front ++ x ∷ (back ++ old) = ap (λ ys. ys ++ old) e ∙ append_assoc front (x ∷ back) old in
      let same : (front ++ n ∷ back) ++ old ≡ front ++ n ∷ (back ++ old) = append_assoc front (n ∷ back) old in
      let whole : IsList c (front ++ x ∷ (back ++ old)) = subst (λ ys. IsList c ys) w s.whole in
      let inside : 1 ≤ times x young = omega (arith, ap (times x) e, times-append x front (x ∷ back), times_at x back) in
      let behind = none_behind x front (back ++ old) (whole.once x) in record {
        young = front ++ n ∷ back;
        old = old;
        are = record {
          whole = subst (λ ys. IsList c' ys) (sym same) (swap front (back ++ old) whole);
          first = is ∙ ap (λ o. instead o x (Some n)) s.first ∙ instead_none x old (Some n) (omega (arith, behind, times-append x back old));
          young_marks = marks_with ms n m false young (front ++ n ∷ back) l (mark_of false (s.young_marks x inside)) (few front back young e) s.young_marks;
          old_marks = marks_stay ms n m true old (omega (arith, none, times-append n young old)) s.old_marks;
          there = λ f there. there_then front (back ++ old) w f (omega (arith, there, ap (times f) same));
        };
        listed_is = ap (map (listed_of (set ms n m))) same ∙ listed_then front (back ++ old) w;
        share_is = share;
      }

  swapped_old : (front back : List ℕ) → old ≡ front ++ x ∷ back → Leaves c' (set ms n m) fo' list_then old_len
  swapped_old front back e =
      let w : young ++ old ≡ (young ++ front) ++ x ∷ back = ap (λ ys. young ++ ys) e ∙ sym (append_assoc young front (x ∷ back)) in
      let same : young ++ (front ++ n ∷ back) ≡ (young ++ front) ++ n ∷ back = sym (append_assoc young front (n ∷ back)) in
      let whole : IsList c ((young ++ front) ++ x ∷ back) = subst (λ ys. IsList c ys) w s.whole in
      let inside : 1 ≤ times x old = omega (arith, ap (times x) e, times-append x front (x ∷ back), times_at x back) in
      let before = none_before x (young ++ front) back (whole.once x) in record {
        young = young;
        old = front ++ n ∷ back;
        are = record {
          whole = subst (λ ys. IsList c' ys) (sym same) (swap (young ++ front) back whole);
          first = is ∙ ap (λ o. instead o x (Some n)) (s.first ∙ ap first e) ∙ instead_new x n front back (omega (arith, before, times-append x young front));
          young_marks = marks_stay ms n m false young (omega (arith, none, times-append n young old)) s.young_marks;
          old_marks = marks_with ms n m true old (front ++ n ∷ back) l (mark_of true (s.old_marks x inside)) (few front back old e) s.old_marks;
          there = λ f there. there_then (young ++ front) back w f (omega (arith, there, ap (times f) same));
        };
        listed_is = ap (map (listed_of (set ms n m))) same ∙ listed_then (young ++ front) back w;
        share_is = omega (arith, share, ap length e, length-append front (x ∷ back), length-append front (n ∷ back));
      }

  pub swapped : 1 ≤ times x (young ++ old) → Leaves c' (set ms n m) fo' list_then old_len
  swapped there = elim (cases_lt 0 (times x young)) [
    | inl more ↦ let t = placed x young (omega (arith, more)) in swapped_young t.0 t.1 t.2
    | inr away ↦ let t = placed x old (omega (arith, away, there, times-append x young old)) in swapped_old t.0 t.1 t.2
  ]
