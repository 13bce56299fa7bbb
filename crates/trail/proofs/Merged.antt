-- What a merged trail is: its entries are the history, each receipt stands behind the entry of its place, and those of one place by caller, then number.
use Rattle.std.proofs.Common.{◌≡◌, ◌==◌, ◌&&◌, ◌+◌, ◌<◌, ◌≤◌, ◌++◌, ℕ, Bool, true, false, cond, List, [], ◌∷◌, reverse, Less, Equal, Greater, refl, ap, ap₂, ◌∙◌, sym, subst, inl, inr, arith, eq-eqb}
use Rattle.std.specs.Prelude.{⊤, ◌⊎◌}
use Rattle.std.specs.Cmp.{IsTotalOrder, ranks}
use Rattle.std.specs.List.{AllByRecursion, sum_by}
use Rattle.std.specs.Ordering.{MatchOrdering, is_lt, nat_cmp}
use Rattle.std.specs.declared.cmp.Ordering.{Ordering}
use Rattle.std.proofs.Math.Nat.{eq-or-lt_of_le}
use Rattle.std.proofs.lemmas.Cmp.{nat_cmp_total, on_total}
use Rattle.std.proofs.lemmas.List.{append-nil, reverse-reverse}
use Rattle.std.proofs.lemmas.List.Elements.{All-from_recursion, recursion_from_All}
use Rattle.std.proofs.lemmas.List.Sorted.{All-permutation, IsPermutation-reverse, sum_by-IsPermutation}
use Rattle.std.proofs.lemmas.List.Sums.{sum_by-cons}
use Rattle.trail.specs.declared.event.Entry.{Entry}
use Rattle.trail.specs.declared.event.Receipt.{Receipt}
use Rattle.trail.specs.declared.event.Event.{Event}
use Rattle.trail.specs.declared.event.Event.TheVariants as event
use Rattle.trail.specs.Trails.{mark, AreNumbered, entries, receipts}
use Rattle.trail.specs.Legal.{IsInOrder}
use Rattle.trail.specs.Merging.{entries_told, told, event_cmp, IsMerged, HavePlaces, HasOneEach, AreInOrder, IsPlaced}
use Rattle.trail.proofs.Ranked.{Climbs, Rises, reverse-cons, all_to, all_last, all_turned, IsOneOf, at_rank, event_total, lower, level, climbs_last, each_one, one_by_one, rises_of}

-- What an order of numbers says of them.
means : (m n : ℕ) (r : Ordering) → nat_cmp m n ≡ r → MatchOrdering r (m < n) (m ≡ n) (n < m)
means m n r is = subst (λ o. MatchOrdering o (m < n) (m ≡ n) (n < m)) is (ranks m n)

not_less : (m n : ℕ) (r : Ordering) → nat_cmp m n ≡ r → is_lt r ≡ false → n ≤ m
not_less m n Less is above = absurd (let bad : true ≡ false = above in cc)
not_less m n Equal is above = omega (arith, means m n Equal is)
not_less m n Greater is above = omega (arith, means m n Greater is)

-- one event stands behind another
abbrev Behind : Event → Event → Type 0
Behind (event.Entry d) (event.Entry e) = d.place ≤ e.place
Behind (event.Entry d) (event.Receipt r) = d.place ≤ r.place
Behind (event.Receipt q) (event.Entry e) = q.place < e.place
Behind (event.Receipt q) (event.Receipt r) = (q.place ≤ r.place) × (q.place ≡ r.place → (q.caller < r.caller) ⊎ ((q.caller ≡ r.caller) × (q.number ≤ r.number)))

first_above : (a b c d : Ordering) → is_lt (at_rank a b c d) ≡ false → is_lt a ≡ false
first_above Less b c d above = above
first_above Equal b c d above = refl
first_above Greater b c d above = refl

truly_above : (a c d : Ordering) → is_lt (at_rank a Less c d) ≡ false → a ≡ Greater
truly_above Less c d above = absurd (let bad : true ≡ false = above in cc)
truly_above Equal c d above = absurd (let bad : true ≡ false = above in cc)
truly_above Greater c d above = refl

later_call : (q r : Receipt) (c d : Ordering) → nat_cmp r.caller q.caller ≡ c → nat_cmp r.number q.number ≡ d → is_lt (at_rank Equal Equal c d) ≡ false → (q.caller < r.caller) ⊎ ((q.caller ≡ r.caller) × (q.number ≤ r.number))
later_call q r Less d is number_is above = absurd (let bad : true ≡ false = above in cc)
later_call q r Equal d is number_is above = inr (sym (means r.caller q.caller Equal is), not_less r.number q.number d number_is above)
later_call q r Greater d is number_is above = inl (means r.caller q.caller Greater is)

behind_is : (x y : Event) → is_lt (event_cmp y x) ≡ false → Behind x y
behind_is (event.Entry d) (event.Entry e) above = not_less e.place d.place _ refl (first_above (nat_cmp e.place d.place) Equal Equal Equal above)
behind_is (event.Entry d) (event.Receipt r) above = not_less r.place d.place _ refl (first_above (nat_cmp r.place d.place) Greater (nat_cmp r.caller 0) (nat_cmp r.number 0) above)
behind_is (event.Receipt q) (event.Entry e) above = means e.place q.place Greater (truly_above (nat_cmp e.place q.place) (nat_cmp 0 q.caller) (nat_cmp 0 q.number) above)
behind_is (event.Receipt q) (event.Receipt r) above =
    let c = nat_cmp r.caller q.caller in
    let d = nat_cmp r.number q.number in (
      not_less r.place q.place _ refl (first_above (nat_cmp r.place q.place) Equal c d above),
      λ same. later_call q r c d refl refl (subst (λ o. is_lt (at_rank o Equal c d) ≡ false) (level r.place q.place (sym same)) above),
    )

-- events, the newest first: each stands behind all before it
abbrev AreRanked : List Event → Type 0
AreRanked [] = ⊤
AreRanked (e ∷ past) = AllByRecursion (λ d. Behind d e) past × AreRanked past

ranked_last : (xs : List Event) (x : Event) → AreRanked xs → AllByRecursion (λ y. Behind x y) xs → AreRanked (xs ++ x ∷ [])
ranked_last [] x ranked behind = (tt, tt)
ranked_last (y ∷ xs) x ranked behind = (all_last (λ d. Behind d y) xs x ranked.0 behind.0, ranked_last xs x ranked.1 behind.1)

ranked_back : (events : List Event) → Rises event_cmp events → AreRanked (reverse events)
ranked_back [] rises = tt
ranked_back (x ∷ events) rises =
    let behind : AllByRecursion (λ y. Behind x y) events = all_to (λ y. is_lt (event_cmp y x) ≡ false) (λ y. Behind x y) events (λ y above. behind_is x y above) rises.0 in
    subst AreRanked (sym (reverse-cons x events)) (ranked_last (reverse events) x (ranked_back events rises.1) (all_turned (λ y. Behind x y) events behind))

-- Of entries and of receipts.
abbrev each : {T : Type 1} → (Entry → T) → (Receipt → T) → Event → T
each f g (event.Entry e) = f e
each f g (event.Receipt r) = g r

abbrev weigh : (Entry → ℕ) → (Receipt → ℕ) → Event → ℕ
weigh f g (event.Entry e) = f e
weigh f g (event.Receipt r) = g r

all_parts : (P : Entry → Type 0) (Q : Receipt → Type 0) (events : List Event) → AllByRecursion (each P Q) events → AllByRecursion P (entries events) × AllByRecursion Q (receipts events)
all_parts P Q [] all = (tt, tt)
all_parts P Q (event.Entry e ∷ events) all = let rest = all_parts P Q events all.1 in ((all.0, rest.0), rest.1)
all_parts P Q (event.Receipt r ∷ events) all = let rest = all_parts P Q events all.1 in (rest.0, (all.0, rest.1))

all_told : (P : Entry → Type 0) (Q : Receipt → Type 0) (es : List Entry) (rs : List Receipt) → AllByRecursion P es → AllByRecursion Q rs → AllByRecursion (each P Q) (entries_told es ++ told rs)
all_told P Q [] [] p q = tt
all_told P Q [] (r ∷ rs) p q = (q.0, all_told P Q [] rs tt q.1)
all_told P Q (e ∷ es) rs p q = (p.0, all_told P Q es rs p.1 q)

sum_parts : (f : Entry → ℕ) (g : Receipt → ℕ) (events : List Event) → sum_by (weigh f g) events ≡ sum_by f (entries events) + sum_by g (receipts events)
sum_parts f g [] = refl
sum_parts f g (event.Entry e ∷ events) = omega (arith, sum_by-cons (weigh f g) (event.Entry e) events, sum_by-cons f e (entries events), sum_parts f g events)
sum_parts f g (event.Receipt r ∷ events) = omega (arith, sum_by-cons (weigh f g) (event.Receipt r) events, sum_by-cons g r (receipts events), sum_parts f g events)

parts_told : (es : List Entry) (rs : List Receipt) → (entries (entries_told es ++ told rs) ≡ es) × (receipts (entries_told es ++ told rs) ≡ rs)
parts_told [] [] = (refl, refl)
parts_told [] (r ∷ rs) = let rest = parts_told [] rs in (rest.0, ap (λ l. r ∷ l) rest.1)
parts_told (e ∷ es) rs = let rest = parts_told es rs in (ap (λ l. e ∷ l) rest.0, rest.1)

entries_both : (xs ys : List Event) → entries (xs ++ ys) ≡ entries xs ++ entries ys
entries_both [] ys = refl
entries_both (event.Entry e ∷ xs) ys = ap (λ l. e ∷ l) (entries_both xs ys)
entries_both (event.Receipt r ∷ xs) ys = entries_both xs ys

entries_back : (events : List Event) → entries (reverse events) ≡ reverse (entries events)
entries_back [] = refl
entries_back (event.Entry e ∷ events) =
    ap entries (reverse-cons (event.Entry e) events) ∙ entries_both (reverse events) (event.Entry e ∷ []) ∙ ap (λ l. l ++ e ∷ []) (entries_back events) ∙ sym (reverse-cons e (entries events))
entries_back (event.Receipt r ∷ events) = ap entries (reverse-cons (event.Receipt r) events) ∙ entries_both (reverse events) (event.Receipt r ∷ []) ∙ append-nil (entries (reverse events)) ∙ entries_back events

-- What is in a merged trail.
all_kept : (P : Entry → Type 0) (Q : Receipt → Type 0) (es : List Entry) (rs : List Receipt) (events : List Event) → IsMerged es rs events → AllByRecursion P es → AllByRecursion Q rs → AllByRecursion (each P Q) events
all_kept P Q es rs events merged p q =
    let all = entries_told es ++ told rs in
    recursion_from_All (each P Q) events (All-permutation (each P Q) all events merged.kept (All-from_recursion (each P Q) all (all_told P Q es rs p q)))

sums_kept : (f : Entry → ℕ) (g : Receipt → ℕ) (es : List Entry) (rs : List Receipt) (events : List Event) → IsMerged es rs events → sum_by f (entries events) + sum_by g (receipts events) ≡ sum_by f es + sum_by g rs
sums_kept f g es rs events merged =
    let all = entries_told es ++ told rs in
    sym (sum_parts f g events) ∙ sum_by-IsPermutation (weigh f g) all events merged.kept ∙ sum_parts f g all
    ∙ ap₂ (λ (m n : ℕ). m + n) (ap (sum_by f) (parts_told es rs).0) (ap (sum_by g) (parts_told es rs).1)

-- Entries.
abbrev place_cmp : Entry → Entry → Ordering
place_cmp d e = nat_cmp d.place e.place

place_total : IsTotalOrder place_cmp
place_total = on_total (λ (e : Entry). e.place) nat_cmp_total

entries_rise : (events : List Event) → Rises event_cmp events → Rises place_cmp (entries events)
entries_rise [] rises = tt
entries_rise (event.Entry e ∷ events) rises =
    let P : Entry → Type 0 = λ d. is_lt (place_cmp d e) ≡ false in
    ((all_parts P (λ r. ⊤) events (all_to (λ y. is_lt (event_cmp y (event.Entry e)) ≡ false) (each P (λ r. ⊤)) events above_entry rises.0)).0, entries_rise events rises.1)
  where
    above_entry : (y : Event) → is_lt (event_cmp y (event.Entry e)) ≡ false → each (λ d. is_lt (place_cmp d e) ≡ false) (λ r. ⊤) y
    above_entry (event.Entry d) above = first_above (nat_cmp d.place e.place) Equal Equal Equal above
    above_entry (event.Receipt r) above = tt
entries_rise (event.Receipt r ∷ events) rises = entries_rise events rises.1

none_later : (first : ℕ) (h : List Entry) → AreNumbered first h → AllByRecursion (λ (d : Entry). d.place ≤ mark first h) h
none_later first [] numbered = tt
none_later first (e ∷ h) numbered =
    (omega arith, all_to (λ (d : Entry). d.place ≤ mark first h) (λ (d : Entry). d.place ≤ e.place) h (λ d le. omega (arith, le, numbered.0)) (none_later first h numbered.1))

climbs : (first : ℕ) (h : List Entry) → AreNumbered first h → Climbs place_cmp (reverse h)
climbs first [] numbered = tt
climbs first (e ∷ h) numbered =
    let below : AllByRecursion (λ d. place_cmp d e ≡ Less) h =
    all_to (λ (d : Entry). d.place ≤ mark first h) (λ d. place_cmp d e ≡ Less) h (λ d le. lower d.place e.place (omega (arith, le, numbered.0))) (none_later first h numbered.1) in
    subst (Climbs place_cmp) (sym (reverse-cons e h)) (climbs_last place_cmp place_total (reverse h) e (climbs first h numbered.1) (all_turned (λ d. place_cmp d e ≡ Less) h below))

same_entries : (first : ℕ) (es : List Entry) (rs : List Receipt) (events : List Event) → IsMerged es rs events → AreNumbered first (reverse es) → entries events ≡ es
same_entries first es rs events merged numbered =
    let strict : Climbs place_cmp es = subst (Climbs place_cmp) (reverse-reverse es) (climbs first (reverse es) numbered) in
    let sums : (f : Entry → ℕ) → sum_by f (entries events) ≡ sum_by f es = λ f. omega (arith, sums_kept f (λ r. 0) es rs events merged, none (receipts events), none rs) in
    let P = IsOneOf place_cmp place_total es in
    one_by_one place_cmp place_total es (entries events) strict (entries_rise events (rises_of event_cmp event_total events merged.ranked)) sums
    (all_parts P (λ r. ⊤) events (all_kept P (λ r. ⊤) es rs events merged (each_one place_cmp place_total es strict) (no_claim rs))).0
  where
    none : (l : List Receipt) → sum_by (λ (r : Receipt). 0) l ≡ 0
    none [] = refl
    none (r ∷ l) = omega (arith, sum_by-cons (λ (x : Receipt). 0) r l, none l)

    no_claim : (l : List Receipt) → AllByRecursion (λ (r : Receipt). ⊤) l
    no_claim [] = tt
    no_claim (r ∷ l) = (tt, no_claim l)

pub entries_are : (first : ℕ) (es : List Entry) (rs : List Receipt) (events : List Event) → IsMerged es rs events → AreNumbered first (reverse es) → entries (reverse events) ≡ reverse es
entries_are first es rs events merged numbered = entries_back events ∙ ap reverse (same_entries first es rs events merged numbered)

-- Places.
mark_low : (first : ℕ) (past : List Event) (r : Receipt) → AllByRecursion (λ d. Behind d (event.Receipt r)) past → first ≤ r.place → mark first (entries past) ≤ r.place
mark_low first [] r behind low = low
mark_low first (event.Entry e ∷ past) r behind low = behind.0
mark_low first (event.Receipt q ∷ past) r behind low = mark_low first past r behind.1 low

placed_back : (first : ℕ) (past : List Event) → AreNumbered first (entries past) → AreRanked past → AllByRecursion (λ (r : Receipt). (first ≤ r.place) × (r.place ≤ mark first (entries past))) (receipts past) → IsPlaced first past
placed_back first [] numbered ranked within = tt
placed_back first (event.Receipt r ∷ past) numbered ranked within = (omega (arith, mark_low first past r ranked.0 within.0.0, within.0.1), placed_back first past numbered ranked.1 within.1)
placed_back first (event.Entry e ∷ past) numbered ranked within = (numbered.0, placed_back first past numbered.1 ranked.1 (earlier past ranked.0 within))
  where
    earlier : (l : List Event) → AllByRecursion (λ d. Behind d (event.Entry e)) l → AllByRecursion (λ (r : Receipt). (first ≤ r.place) × (r.place ≤ e.place)) (receipts l)
        → AllByRecursion (λ (r : Receipt). (first ≤ r.place) × (r.place ≤ mark first (entries past))) (receipts l)
    earlier [] behind all = tt
    earlier (event.Entry d ∷ l) behind all = earlier l behind.1 all
    earlier (event.Receipt r ∷ l) behind all = ((all.0.0, omega (arith, behind.0, numbered.0)), earlier l behind.1 all.1)

pub places_are : (first : ℕ) (es : List Entry) (rs : List Receipt) (events : List Event) → IsMerged es rs events → HavePlaces first (reverse es) rs → IsPlaced first (reverse events)
places_are first es rs events merged places =
    let W : List Entry → Receipt → Type 0 = λ h r. (first ≤ r.place) × (r.place ≤ mark first h) in
    let same = entries_are first es rs events merged places.numbered in
    let all = all_kept (λ e. ⊤) (W (reverse es)) es rs events merged (no_claim es) places.within in
    let within = (all_parts (λ e. ⊤) (W (reverse es)) (reverse events) (all_turned (each (λ e. ⊤) (W (reverse es))) events all)).1 in
    placed_back first (reverse events) (subst (AreNumbered first) (sym same) places.numbered) (ranked_back events (rises_of event_cmp event_total events merged.ranked)) (subst (λ h. AllByRecursion (W h) (receipts (reverse events))) (sym same) within)
  where
    no_claim : (l : List Entry) → AllByRecursion (λ (e : Entry). ⊤) l
    no_claim [] = tt
    no_claim (e ∷ l) = (tt, no_claim l)

-- Order.
abbrev weight : ℕ → ℕ → Receipt → ℕ
weight c n r = cond ((r.caller == c) && (r.number == n)) 1 0

weight_own : (r : Receipt) (c n : ℕ) → r.caller ≡ c → r.number ≡ n → weight c n r ≡ 1
weight_own r c n caller number = ap₂ (λ (a b : Bool). cond (a && b) 1 0) (eq-eqb r.caller c caller) (eq-eqb r.number n number)

in_order : (first : ℕ) (past : List Event) → IsPlaced first past → AreRanked past → ((c n : ℕ) → sum_by (weight c n) (receipts past) ≤ 1) → AreInOrder past
in_order first [] placed ranked once = tt
in_order first (event.Entry e ∷ past) placed ranked once = (tt, in_order first past placed.1 ranked.1 once)
in_order first (event.Receipt r ∷ past) placed ranked once =
    (next past placed ranked.0 once, in_order first past placed.1 ranked.1 (λ c n. omega (arith, once c n, sum_by-cons (weight c n) r (receipts past))))
  where
    next : (l : List Event) → IsPlaced first (event.Receipt r ∷ l) → AllByRecursion (λ d. Behind d (event.Receipt r)) l → ((c n : ℕ) → sum_by (weight c n) (r ∷ receipts l) ≤ 1) → IsInOrder l (event.Receipt r)
    next [] placed behind once = tt
    next (event.Entry e ∷ l) placed behind once = tt
    next (event.Receipt q ∷ l) placed behind once = strict (behind.0.1 (placed.1.0 ∙ sym placed.0))
      where
        strict : (q.caller < r.caller) ⊎ ((q.caller ≡ r.caller) × (q.number ≤ r.number)) → (q.caller < r.caller) ⊎ ((q.caller ≡ r.caller) × (q.number < r.number))
        strict (inl less) = inl less
        strict (inr (same, le)) = apart (eq-or-lt_of_le le)
          where
            apart : (q.number ≡ r.number) ⊎ (q.number < r.number) → (q.caller < r.caller) ⊎ ((q.caller ≡ r.caller) × (q.number < r.number))
            apart (inr less) = inr (same, less)
            apart (inl twice) =
                let w = weight r.caller r.number in
                absurd (omega (arith, once r.caller r.number, sum_by-cons w r (q ∷ receipts l), sum_by-cons w q (receipts l), weight_own r r.caller r.number refl refl, weight_own q r.caller r.number same twice))

pub order_is : (first : ℕ) (es : List Entry) (rs : List Receipt) (events : List Event) → IsMerged es rs events → HavePlaces first (reverse es) rs → HasOneEach rs → AreInOrder (reverse events)
order_is first es rs events merged places one =
    in_order first (reverse events) (places_are first es rs events merged places) (ranked_back events (rises_of event_cmp event_total events merged.ranked)) (λ c n. once c n)
  where
    none : (l : List Entry) → sum_by (λ (e : Entry). 0) l ≡ 0
    none [] = refl
    none (e ∷ l) = omega (arith, sum_by-cons (λ (x : Entry). 0) e l, none l)

    turned : (f : Receipt → ℕ) (l : List Event) → sum_by (weigh (λ e. 0) f) (reverse l) ≡ sum_by (weigh (λ e. 0) f) l
    turned f l = sum_by-IsPermutation (weigh (λ e. 0) f) l (reverse l) (IsPermutation-reverse l)

    once : (c n : ℕ) → sum_by (weight c n) (receipts (reverse events)) ≤ 1
    once c n =
        let f = weight c n in
        omega (arith, one c n, sums_kept (λ e. 0) f es rs events merged, sum_parts (λ e. 0) f events, sum_parts (λ e. 0) f (reverse events), turned f events, none es, none (entries events), none (entries (reverse events)))
