-- The steps of the loops over both lists.
use Rattle.std.proofs.Common.{◌≡◌, ◌∙◌, ◌+◌, ◌<◌, ℕ, suc, zero, Bool, true, false, not, cond, List, [], ◌∷◌, ◌++◌, inl, inr, length, take, drop, get_or, Some, refl, sym, ap, subst, arith, nat_le}
use Rattle.std.specs.Prelude.{filter}
use Rattle.std.proofs.lemmas.List.{append_assoc, append-nil, drop_more, take_more, take_all, drop_all}
use Rattle.std.proofs.lemmas.List.Elements.{filter_more}
use Rattle.std.proofs.lemmas.Bool.{cases_eq}
use Rattle.link_lists.specs.Grid.{times}
use Rattle.link_lists.specs.Chains.{first}
use Rattle.link_lists.specs.IndexLists.{IndexList, Has, IsNew}
use Rattle.link_lists.proofs.Times.{first_is, times_at, times_past, times-append}
use Rattle.page_ids.specs.Chunks.{rising}
use Rattle.page_ids.specs.FrameLists as rule
use Rattle.page_ids.specs.FrameLists.{FrameLists}
use Rattle.frame_book.specs.Moves.{CanMove}
use Rattle.frame_book.proofs.Times.{times-rest}

rising_push : (from n : ℕ) → rising from (suc n) ≡ rising from n ++ (from + n) ∷ []
rising_push from zero = let same : from ≡ from + 0 = omega arith in ap (λ (f : ℕ). f ∷ []) same
rising_push from (suc n) =
    let same : from + 1 + n ≡ from + suc n = omega arith in
    ap (λ (l : List ℕ). from ∷ l) (rising_push (from + 1) n) ∙ ap (λ m. from ∷ (rising (from + 1) n ++ m ∷ [])) same

-- one more at the end of a list that rises behind others
pub rising_more : (old xs ys : List ℕ) (from n : ℕ) → xs ≡ old ++ rising from n → ys ≡ xs ++ (from + n) ∷ [] → ys ≡ old ++ rising from (n + 1)
rising_more old xs ys from n is pushed =
    let one : n + 1 ≡ suc n = omega arith in
    pushed
    ∙ ap (λ (l : List ℕ). l ++ (from + n) ∷ []) is
    ∙ append_assoc old (rising from n) ((from + n) ∷ [])
    ∙ ap (λ (l : List ℕ). old ++ l) (sym (ap (λ m. rising from m) one ∙ rising_push from n))

pub lists_as : (fs fs' ws ws' : List ℕ) → fs ≡ fs' → ws ≡ ws' → ◌≡◌ {A = FrameLists} (record { free = fs; withdrawn = ws }) (record { free = fs'; withdrawn = ws' })
lists_as fs fs' ws ws' e d =
    ap (λ x. let l : FrameLists = record { free = x; withdrawn = ws } in l) e
    ∙ ap (λ x. let l : FrameLists = record { free = fs'; withdrawn = x } in l) d

-- the lists behind so many turns
abbrev pub behind : ℕ → ℕ → FrameLists → FrameLists
behind first i l = record {
  free = drop i l.free ++ filter (λ f. not (nat_le first f)) (take i l.free);
  withdrawn = l.withdrawn ++ filter (λ f. nat_le first f) (take i l.free);
}

-- one frame is put where it belongs, behind those that were passed
moved : (b : Bool) (x : ℕ) (come kept old gone : List ℕ) → ◌≡◌ {A = FrameLists} (rule.given b x (record { free = come ++ kept; withdrawn = old ++ gone }))
    (record { free = come ++ (kept ++ cond (not b) (x ∷ []) []); withdrawn = old ++ (gone ++ cond b (x ∷ []) []) })
moved true x come kept old gone = lists_as _ _ _ _ (ap (λ ys. come ++ ys) (sym (append-nil kept))) (append_assoc old gone (x ∷ []))
moved false x come kept old gone = lists_as _ _ _ _ (append_assoc come kept (x ∷ [])) (ap (λ ys. old ++ ys) (sym (append-nil gone)))

pub turn_more : (first i : ℕ) (l next : FrameLists) → i < length l.free
    → ((x : ℕ) (rest : List ℕ) → (behind first i l).free ≡ x ∷ rest
    → next ≡ rule.given (nat_le first x) x (record { free = rest; withdrawn = (behind first i l).withdrawn }))
    → next ≡ behind first (i + 1) l
turn_more first i l next less step =
    let x = get_or l.free i 0 in
    let outside : ℕ → Bool = λ f. not (nat_le first f) in
    let inside : ℕ → Bool = λ f. nat_le first f in
    let come = drop (i + 1) l.free in
    step x (come ++ filter outside (take i l.free)) (ap (λ ys. ys ++ filter outside (take i l.free)) (drop_more l.free i 0 less))
    ∙ moved (nat_le first x) x come (filter outside (take i l.free)) l.withdrawn (filter inside (take i l.free))
    ∙ lists_as _ _ _ _ (ap (λ ys. come ++ ys) (sym (filter_more outside l.free i 0 less))) (ap (λ ys. l.withdrawn ++ ys) (sym (filter_more inside l.free i 0 less)))

pub turned_all : (first n : ℕ) (l : FrameLists) → n ≡ length l.free → behind first n l ≡ rule.withdrawing first l
turned_all first n l e =
    let all = take_all n l.free (omega (arith, e)) in
    let none = drop_all n l.free (omega (arith, e)) in
    lists_as _ _ _ _ (ap (λ ys. ys ++ filter (λ f. not (nat_le first f)) (take n l.free)) none ∙ ap (filter (λ f. not (nat_le first f))) all)
    (ap (λ ys. l.withdrawn ++ filter (λ f. nat_le first f) ys) all)

-- the lists behind so many that were freed again
abbrev pub freed : ℕ → FrameLists → FrameLists
freed i l = record { free = l.free ++ take i l.withdrawn; withdrawn = drop i l.withdrawn }

pub free_more : (i : ℕ) (l next : FrameLists) → i < length l.withdrawn
    → ((x : ℕ) (rest : List ℕ) → (freed i l).withdrawn ≡ x ∷ rest → next ≡ record { free = (freed i l).free ++ x ∷ []; withdrawn = rest })
    → next ≡ freed (i + 1) l
free_more i l next less step =
    let x = get_or l.withdrawn i 0 in
    step x (drop (i + 1) l.withdrawn) (drop_more l.withdrawn i 0 less)
    ∙ lists_as _ _ _ _ (append_assoc l.free (take i l.withdrawn) (x ∷ []) ∙ ap (λ ys. l.free ++ ys) (sym (take_more l.withdrawn i 0 less))) refl

pub freed_all : (n : ℕ) (l : FrameLists) → n ≡ length l.withdrawn → freed n l ≡ rule.undone l
freed_all n l e = lists_as _ _ _ _ (ap (λ ys. l.free ++ ys) (take_all n l.withdrawn (omega (arith, e)))) (drop_all n l.withdrawn (omega (arith, e)))

-- a frame goes from the front of one list to the back of the other, or of its own
module _ (from to : IndexList) (x : ℕ) (front : first from.items ≡ Some x) (can : CanMove from to) where
  pub listed : Has from x
  listed = omega (arith, ap (times x) (first_is from.items x front), times_at x (drop 1 from.items))

  pub can_go : times x (drop 1 from.items) ≡ 0 → CanMove (record from { items = drop 1 from.items }) (record to { items = to.items ++ x ∷ [] })
  can_go none = λ f there. let new = can f (omega (arith, there, times-rest f from.items)) in record {
    room = new.room;
    away = elim (cases_eq x f) [
      | inl same ↦ absurd (omega (arith, there, none, ap (λ g. times g (drop 1 from.items)) same))
      | inr ne ↦ omega (arith, new.away, times-append f to.items (x ∷ []), times_past f x [] ne)
    ];
  }

  pub can_stay : CanMove (record from { items = drop 1 from.items ++ x ∷ [] }) to
  can_stay = λ f there. elim (cases_eq x f) [
    | inl same ↦ subst (λ g. IsNew to g) same (can x listed)
    | inr ne ↦ can f (omega (arith, there, times-rest f from.items, times-append f (drop 1 from.items) (x ∷ []), times_past f x [] ne))
  ]
