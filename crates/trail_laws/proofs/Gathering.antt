-- A trail that is merged from the history and the receipts of all accounts has each caller's receipts in the order of its account.
use Rattle.std.proofs.Common.{◌≡◌, ◌<◌, ◌≤◌, ℕ, Bool, true, false, cond, List, [], ◌∷◌, ◌++◌, ◌+◌, ◌&&◌, ◌||◌, ◌⊎◌, inl, inr, refl, ap, ◌∙◌, sym, subst, eq-eqb, nat_eq, nat_lt, reverse, arith}
use Rattle.std.proofs.lemmas.Bool.Decides.{nat_tests}
use Rattle.std.proofs.lemmas.List.{reverse-reverse}
use Rattle.std.proofs.lemmas.List.Elements.{All-from_recursion, recursion_from_All}
use Rattle.std.proofs.lemmas.List.Sorted.{All-permutation, IsPermutation-reverse, IsPermutation-sym, sum_by-IsPermutation}
use Rattle.std.proofs.lemmas.List.Sums.{sum_by-append, sum_by-cons}
use Rattle.std.specs.Prelude.{IsPermutation, count_by}
use Rattle.std.specs.List.{AllByRecursion}
use Rattle.trail.specs.declared.event.Entry.{Entry}
use Rattle.trail.specs.declared.event.Receipt.{Receipt}
use Rattle.trail.specs.declared.event.Event.{Event}
use Rattle.trail.specs.declared.event.Event.TheVariants as event
use Rattle.trail.specs.Trails.{AreNumbered, Opening, before, caller_of, entries, mark, own, receipts}
use Rattle.trail.specs.Book.{is_in}
use Rattle.trail.specs.Legal.{IsInOrder}
use Rattle.trail.specs.Laws.{IsLawfulTrail}
use Rattle.trail.specs.Merging.{AreInOrder, HasOneEach, HavePlaces, IsMerged, IsPlaced, entries_told, told}
use Rattle.trail.proofs.Merged.{entries_are, order_is, places_are}
use Rattle.trail.proofs.Ranked.{all_to, all_turned}
use Rattle.trail_laws.specs.Accounts.{PlacesFall, AreInTurn, IsAccount}
use Rattle.trail_laws.specs.SoFar.{AreLawfulOf, AreTrueAlone, IsLawfulSoFar}
use Rattle.trail_laws.specs.Ending.{AreCallers, AreDistinct, AreDone, IsTrailOf, gathered}
use Rattle.trail_laws.proofs.Owning.{own_by, placed_falls}
use Rattle.trail_laws.proofs.Whole.{merged_lawful}
use Rattle.trail_laws.proofs.Tests.{number_is, or_parts, other_number}

-- the receipt is one of these
abbrev pub IsIn : Receipt → List Receipt → Type 0
IsIn x [] = ⊥
IsIn x (y ∷ ys) = (x ≡ y) ⊎ IsIn x ys

in_all : (P : Receipt → Type 0) (x : Receipt) (ys : List Receipt) → IsIn x ys → AllByRecursion P ys → P x
in_all P x [] here all = absurd here
in_all P x (y ∷ ys) (inl is) all = subst P (sym is) all.0
in_all P x (y ∷ ys) (inr more) all = in_all P x ys more all.1

in_itself : (xs : List Receipt) → AllByRecursion (λ x. IsIn x xs) xs
in_itself [] = tt
in_itself (x ∷ xs) = (inl refl, all_to (λ y. IsIn y xs) (λ y. IsIn y (x ∷ xs)) xs (λ y there. inr there) (in_itself xs))

in_left : (x : Receipt) (xs ys : List Receipt) → IsIn x xs → IsIn x (xs ++ ys)
in_left x [] ys here = absurd here
in_left x (y ∷ xs) ys (inl is) = inl is
in_left x (y ∷ xs) ys (inr more) = inr (in_left x xs ys more)

in_right : (x : Receipt) (xs ys : List Receipt) → IsIn x ys → IsIn x (xs ++ ys)
in_right x [] ys there = there
in_right x (y ∷ xs) ys there = inr (in_right x xs ys there)

all_both : (P : Receipt → Type 0) (xs ys : List Receipt) → AllByRecursion P xs → AllByRecursion P ys → AllByRecursion P (xs ++ ys)
all_both P [] ys all more = more
all_both P (x ∷ xs) ys all more = (all.0, all_both P xs ys all.1 more)

-- Receipts that fall by place, then number, are known by which they are.
abbrev pub IsBefore : Receipt → Receipt → Type 0
IsBefore q r = (q.place < r.place) ⊎ ((q.place ≡ r.place) × (q.number < r.number))

abbrev pub Fall : List Receipt → Type 0
Fall [] = Unit {0}
Fall (r ∷ rs) = AllByRecursion (λ q. IsBefore q r) rs × Fall rs

not_both : (q r : Receipt) → IsBefore q r → IsBefore r q → ⊥
not_both q r (inl a) (inl b) = absurd (omega (arith, a, b))
not_both q r (inl a) (inr b) = absurd (omega (arith, a, b.0))
not_both q r (inr a) (inl b) = absurd (omega (arith, a.0, b))
not_both q r (inr a) (inr b) = absurd (omega (arith, a.1, b.1))

not_itself : (q : Receipt) → IsBefore q q → ⊥
not_itself q before = not_both q q before before

first_is : (x y : Receipt) (xs ys : List Receipt) → Fall (x ∷ xs) → Fall (y ∷ ys) → IsIn x (y ∷ ys) → IsIn y (x ∷ xs) → x ≡ y
first_is x y xs ys fx fy (inl is) there = is
first_is x y xs ys fx fy (inr a) (inl is) = sym is
first_is x y xs ys fx fy (inr a) (inr b) = absurd (not_both x y (in_all (λ q. IsBefore q y) x ys a fy.0) (in_all (λ q. IsBefore q x) y xs b fx.0))

-- what is behind the first ones
rest_in : (x y : Receipt) (xs ys : List Receipt) → x ≡ y → AllByRecursion (λ q. IsBefore q x) xs → AllByRecursion (λ q. IsIn q (y ∷ ys)) xs → AllByRecursion (λ q. IsIn q ys) xs
rest_in x y [] ys is before all = tt
rest_in x y (z ∷ xs) ys is before all = (at all.0, rest_in x y xs ys is before.1 all.1)
  where
    at : IsIn z (y ∷ ys) → IsIn z ys
    at (inl same) = let B : Receipt → Type 0 = λ q. IsBefore q x in absurd (not_itself x (subst B (same ∙ sym is) before.0))
    at (inr there) = there

pub same_receipts : (xs ys : List Receipt) → Fall xs → Fall ys → AllByRecursion (λ x. IsIn x ys) xs → AllByRecursion (λ y. IsIn y xs) ys → xs ≡ ys
same_receipts [] [] fx fy a b = refl
same_receipts [] (y ∷ ys) fx fy a b = absurd b.0
same_receipts (x ∷ xs) [] fx fy a b = absurd a.0
same_receipts (x ∷ xs) (y ∷ ys) fx fy a b =
    let is = first_is x y xs ys fx fy a.0 b.0 in
    ap (λ r. r ∷ xs) is ∙ ap (λ rs. y ∷ rs) (same_receipts xs ys fx.1 fy.1 (rest_in x y xs ys is fx.0 a.1) (rest_in y x ys xs (sym is) fy.0 b.1))

-- The receipts of an account fall.
places_to : (n : ℕ) (mine : List Event) → PlacesFall n mine → AllByRecursion (λ (q : Receipt). q.place ≤ n) (receipts mine)
places_to n [] falling = tt
places_to n (event.Entry e ∷ mine) falling = all_to (λ (q : Receipt). q.place ≤ e.place) (λ (q : Receipt). q.place ≤ n) (receipts mine) (λ q le. omega (arith, le, falling.0)) (places_to e.place mine falling.2)
places_to n (event.Receipt r ∷ mine) falling = (falling.0, all_to (λ (q : Receipt). q.place ≤ r.place) (λ (q : Receipt). q.place ≤ n) (receipts mine) (λ q le. omega (arith, le, falling.0)) (places_to r.place mine falling.1))

both_to : (P Q R : Receipt → Type 0) (xs : List Receipt) → ((x : Receipt) → P x → Q x → R x) → AllByRecursion P xs → AllByRecursion Q xs → AllByRecursion R xs
both_to P Q R [] f ps qs = tt
both_to P Q R (x ∷ xs) f ps qs = (f x ps.0 qs.0, both_to P Q R xs f ps.1 qs.1)

less_or_same : (m n : ℕ) (A : Type 0) → m ≤ n → (m ≡ n → A) → (m < n) ⊎ A
less_or_same m n A le same = cases (nat_lt m n) refl
  where
    lt_is : nat_lt m n ≡ true → m < n
    lt_is t = grind (arith, nat_tests)

    eq_is : nat_lt m n ≡ false → m ≡ n
    eq_is t = grind (arith, nat_tests)

    cases : (b : Bool) → nat_lt m n ≡ b → (m < n) ⊎ A
    cases true t = inl (lt_is t)
    cases false t = inr (same (eq_is t))

account_falls : (n : ℕ) (mine : List Event) → PlacesFall n mine → AreInTurn (receipts mine) → Fall (receipts mine)
account_falls n [] falling turns = tt
account_falls n (event.Entry e ∷ mine) falling turns = account_falls e.place mine falling.2 turns
account_falls n (event.Receipt r ∷ mine) falling turns = (
  both_to (λ (q : Receipt). q.place ≤ r.place) (λ (q : Receipt). q.number < r.number) (λ q. IsBefore q r) (receipts mine)
      (λ q le less. less_or_same q.place r.place _ le (λ is. (is, less))) (places_to r.place mine falling.1) turns.0,
  account_falls r.place mine falling.1 turns.1,
)

-- Those of one caller in a trail that is placed and in order fall too.
abbrev IsEarlier : Receipt → Receipt → Type 0
IsEarlier q r = (q.caller < r.caller) ⊎ ((q.caller ≡ r.caller) × (q.number < r.number))

earlier_on : (p q r : Receipt) → IsEarlier p q → IsEarlier q r → IsEarlier p r
earlier_on p q r (inl a) (inl b) = inl (omega (arith, a, b))
earlier_on p q r (inl a) (inr b) = inl (omega (arith, a, b.0))
earlier_on p q r (inr a) (inl b) = inl (omega (arith, a.0, b))
earlier_on p q r (inr a) (inr b) = inr (a.0 ∙ b.0, omega (arith, a.1, b.1))

of_place : (first : ℕ) (past : List Event) (r : Receipt) → IsPlaced first past → AreInOrder past → r.place ≡ mark first (entries past) → IsInOrder past (event.Receipt r) → AllByRecursion (λ (q : Receipt). q.place ≡ r.place → IsEarlier q r) (receipts past)
of_place first [] r placed ordered at order = tt
of_place first (event.Entry e ∷ past) r placed ordered at order =
    all_to (λ (q : Receipt). q.place ≤ mark first (entries past)) (λ (q : Receipt). q.place ≡ r.place → IsEarlier q r) (receipts past)
    (λ q le is. absurd (omega (arith, le, is, at, placed.0))) (places_to (mark first (entries past)) past (placed_falls first past placed.1))
of_place first (event.Receipt q ∷ past) r placed ordered at order = (
  (λ is. order),
  all_to (λ (p : Receipt). p.place ≡ q.place → IsEarlier p q) (λ (p : Receipt). p.place ≡ r.place → IsEarlier p r) (receipts past)
      (λ p earlier is. earlier_on p q r (earlier (is ∙ at ∙ sym placed.0)) order) (of_place first past q placed.1 ordered.1 placed.0 ordered.0),
)

-- a caller's own of all receipts
own_all : (P : Receipt → Type 0) (c : ℕ) (past : List Event) → AllByRecursion P (receipts past) → AllByRecursion (λ q. P q × (q.caller ≡ c)) (receipts (own c past))
own_all P c [] all = tt
own_all P c (event.Entry e ∷ past) all =
    own_by (λ l. AllByRecursion (λ q. P q × (q.caller ≡ c)) (receipts l)) c (event.Entry e) past (λ is. own_all P c past all) (λ other. own_all P c past all)
own_all P c (event.Receipt r ∷ past) all =
    own_by (λ l. AllByRecursion (λ q. P q × (q.caller ≡ c)) (receipts l)) c (event.Receipt r) past (λ is. ((all.0, is), own_all P c past all.1)) (λ other. own_all P c past all.1)

own_falls : (first c : ℕ) (past : List Event) → IsPlaced first past → AreInOrder past → Fall (receipts (own c past))
own_falls first c [] placed ordered = tt
own_falls first c (event.Entry e ∷ past) placed ordered =
    own_by (λ l. Fall (receipts l)) c (event.Entry e) past (λ is. own_falls first c past placed.1 ordered.1) (λ other. own_falls first c past placed.1 ordered.1)
own_falls first c (event.Receipt r ∷ past) placed ordered =
    own_by (λ l. Fall (receipts l)) c (event.Receipt r) past (λ is. (
      both_to (λ q. (q.place ≤ r.place) × (q.caller ≡ c)) (λ q. (q.place ≡ r.place → IsEarlier q r) × (q.caller ≡ c)) (λ q. IsBefore q r) (receipts (own c past))
          (λ q low order. less_or_same q.place r.place _ low.0 (λ here. (here, later q is low.1 (order.0 here))))
          (own_all (λ (q : Receipt). q.place ≤ r.place) c past (all_to (λ (q : Receipt). q.place ≤ mark first (entries past)) (λ (q : Receipt). q.place ≤ r.place) (receipts past) (λ q le. omega (arith, le, placed.0)) (places_to (mark first (entries past)) past (placed_falls first past placed.1))))
          (own_all (λ (q : Receipt). q.place ≡ r.place → IsEarlier q r) c past (of_place first past r placed.1 ordered.1 placed.0 ordered.0)),
      own_falls first c past placed.1 ordered.1,
    )) (λ other. own_falls first c past placed.1 ordered.1)
  where
    later : (q : Receipt) → r.caller ≡ c → q.caller ≡ c → IsEarlier q r → q.number < r.number
    later q here there (inl less) = absurd (omega (arith, less, here, there))
    later q here there (inr same) = same.1

-- Which receipts a merged trail has.
abbrev IfReceipt : (Receipt → Type 0) → Event → Type 0
IfReceipt P (event.Entry e) = Unit {0}
IfReceipt P (event.Receipt r) = P r

told_all : (P : Receipt → Type 0) (es : List Entry) (rs : List Receipt) → AllByRecursion P rs → AllByRecursion (IfReceipt P) (entries_told es ++ told rs)
told_all P [] [] all = tt
told_all P [] (r ∷ rs) all = (all.0, told_all P [] rs all.1)
told_all P (e ∷ es) rs all = (tt, told_all P es rs all)

told_back : (P : Receipt → Type 0) (es : List Entry) (rs : List Receipt) → AllByRecursion (IfReceipt P) (entries_told es ++ told rs) → AllByRecursion P rs
told_back P [] [] all = tt
told_back P [] (r ∷ rs) all = (all.0, told_back P [] rs all.1)
told_back P (e ∷ es) rs all = told_back P es rs all.1

events_all : (P : Receipt → Type 0) (past : List Event) → AllByRecursion P (receipts past) → AllByRecursion (IfReceipt P) past
events_all P [] all = tt
events_all P (event.Entry e ∷ past) all = (tt, events_all P past all)
events_all P (event.Receipt r ∷ past) all = (all.0, events_all P past all.1)

events_back : (P : Receipt → Type 0) (past : List Event) → AllByRecursion (IfReceipt P) past → AllByRecursion P (receipts past)
events_back P [] all = tt
events_back P (event.Entry e ∷ past) all = events_back P past all.1
events_back P (event.Receipt r ∷ past) all = (all.0, events_back P past all.1)

moved : (P : Event → Type 0) (xs ys : List Event) → IsPermutation xs ys → AllByRecursion P xs → AllByRecursion P ys
moved P xs ys same all = recursion_from_All P ys (All-permutation P xs ys same (All-from_recursion P xs all))

-- each receipt of the trail is one of those that were merged, and each of these is in it
all_merged : (es : List Entry) (rs : List Receipt) (events : List Event) → IsMerged es rs events → AllByRecursion (λ x. IsIn x rs) (receipts (reverse events))
all_merged es rs events merged =
    events_back (λ x. IsIn x rs) (reverse events) (all_turned (IfReceipt (λ x. IsIn x rs)) events
    (moved (IfReceipt (λ x. IsIn x rs)) (entries_told es ++ told rs) events merged.kept (told_all (λ x. IsIn x rs) es rs (in_itself rs))))

none_lost : (es : List Entry) (rs : List Receipt) (events : List Event) → IsMerged es rs events → AllByRecursion (λ x. IsIn x (receipts (reverse events))) rs
none_lost es rs events merged =
    let P : Receipt → Type 0 = λ x. IsIn x (receipts (reverse events)) in
    let back : AllByRecursion (IfReceipt P) events =
    subst (AllByRecursion (IfReceipt P)) (reverse-reverse events) (all_turned (IfReceipt P) (reverse events) (events_all P (reverse events) (in_itself (receipts (reverse events))))) in
    told_back P es rs (moved (IfReceipt P) events (entries_told es ++ told rs) (IsPermutation-sym (entries_told es ++ told rs) events merged.kept) back)

-- What is gathered of the accounts.
in_gathered : (accounts : ℕ → List Event) (cs : List ℕ) (c : ℕ) → is_in c cs ≡ true → AllByRecursion (λ x. IsIn x (gathered accounts cs)) (receipts (accounts c))
in_gathered accounts [] c here = absurd (cc)
in_gathered accounts (d ∷ cs) c here = cases (nat_eq d c) refl here (in_gathered accounts cs c)
  where
    mine : List Receipt
    mine = receipts (accounts d)

    turned : AllByRecursion (λ x. IsIn x (reverse mine)) mine
    turned = let A : List Receipt → Type 0 = λ l. AllByRecursion (λ x. IsIn x (reverse mine)) l in
        subst A (reverse-reverse mine) (all_turned (λ x. IsIn x (reverse mine)) (reverse mine) (in_itself (reverse mine)))

    cases : (b : Bool) → nat_eq d c ≡ b → (nat_eq d c || is_in c cs) ≡ true → (is_in c cs ≡ true → AllByRecursion (λ x. IsIn x (gathered accounts cs)) (receipts (accounts c)))
        → AllByRecursion (λ x. IsIn x (gathered accounts (d ∷ cs))) (receipts (accounts c))
    cases true t here next =
        let A : ℕ → Type 0 = λ n. AllByRecursion (λ x. IsIn x (gathered accounts (d ∷ cs))) (receipts (accounts n)) in
        subst A (number_is d c t) (all_to (λ x. IsIn x (reverse mine)) (λ x. IsIn x (gathered accounts (d ∷ cs))) mine (λ x there. in_left x (reverse mine) (gathered accounts cs) there) turned)
    cases false f here next =
        all_to (λ x. IsIn x (gathered accounts cs)) (λ x. IsIn x (gathered accounts (d ∷ cs))) (receipts (accounts c)) (λ x there. in_right x (reverse mine) (gathered accounts cs) there)
        (next (ap (λ (b : Bool). b || is_in c cs) (sym f) ∙ here))

pub all_gathered : (P : Receipt → Type 0) (accounts : ℕ → List Event) (cs : List ℕ) → ((c : ℕ) → AllByRecursion P (receipts (accounts c))) → AllByRecursion P (gathered accounts cs)
all_gathered P accounts [] each = tt
all_gathered P accounts (c ∷ cs) each = all_both P (reverse (receipts (accounts c))) (gathered accounts cs) (all_turned P (receipts (accounts c)) (each c)) (all_gathered P accounts cs each)

own_callers : (c : ℕ) (mine : List Event) → AllByRecursion (λ e. caller_of e ≡ c) mine → AllByRecursion (λ (r : Receipt). r.caller ≡ c) (receipts mine)
own_callers c [] own = tt
own_callers c (event.Entry e ∷ mine) own = own_callers c mine own.1
own_callers c (event.Receipt r ∷ mine) own = (own.0, own_callers c mine own.1)

-- each receipt that was gathered is in the account of its caller
gathered_own : (first : ℕ) (h : List Entry) (accounts : ℕ → List Event) (cs : List ℕ) → ((c : ℕ) → IsAccount first h c (accounts c)) → AllByRecursion (λ (r : Receipt). IsIn r (receipts (accounts r.caller))) (gathered accounts cs)
gathered_own first h accounts cs each = all_gathered (λ (r : Receipt). IsIn r (receipts (accounts r.caller))) accounts cs (λ c.
    both_to (λ x. IsIn x (receipts (accounts c))) (λ (r : Receipt). r.caller ≡ c) (λ (r : Receipt). IsIn r (receipts (accounts r.caller))) (receipts (accounts c))
    (λ x there is. let I : ℕ → Type 0 = λ n. IsIn x (receipts (accounts n)) in subst I (sym is) there) (in_itself (receipts (accounts c))) (own_callers c (accounts c) (each c).own))

-- No call has two receipts.
abbrev of_call : ℕ → ℕ → Receipt → Bool
of_call c n r = nat_eq r.caller c && nat_eq r.number n

count_none : (p : Receipt → Bool) (xs : List Receipt) → AllByRecursion (λ x. p x ≡ false) xs → count_by p xs ≡ 0
count_none p [] none = refl
count_none p (x ∷ xs) none =
    let split = sum_by-cons (λ y. cond (p y) 1 0) x xs in
    let one : Bool → ℕ = λ b. cond b 1 0 in
    let here : one (p x) ≡ 0 = ap one none.0 in
    let rest = count_none p xs none.1 in omega (arith, split, here, rest)

and_false : (a b : Bool) → b ≡ false → (a && b) ≡ false
and_false true b f = f
and_false false b f = refl

count_turns : (c n : ℕ) (xs : List Receipt) → AreInTurn xs → count_by (of_call c n) xs ≤ 1
count_turns c n [] turns = omega arith
count_turns c n (x ∷ xs) turns =
    let split = sum_by-cons (λ y. cond (of_call c n y) 1 0) x xs in
    let L : ℕ → Type 0 = λ m. m ≤ 1 in
    subst L (sym split) (cases (nat_eq x.caller c) (nat_eq x.number n) refl (count_turns c n xs turns.1))
  where
    none : x.number ≡ n → count_by (of_call c n) xs ≡ 0
    none is = count_none (of_call c n) xs (all_to (λ (q : Receipt). q.number < x.number) (λ (q : Receipt). of_call c n q ≡ false) xs
        (λ q less. and_false (nat_eq q.caller c) (nat_eq q.number n) (other_number q.number n (omega (arith, less, is)))) turns.0)

    cases : (a b : Bool) → nat_eq x.number n ≡ b → count_by (of_call c n) xs ≤ 1 → cond (a && b) 1 0 + count_by (of_call c n) xs ≤ 1
    cases true true t le = let zero_more = none (number_is x.number n t) in omega (arith, zero_more)
    cases true false t le = omega (arith, le)
    cases false b t le = omega (arith, le)

-- of another caller
count_other : (d n c : ℕ) (xs : List Receipt) → nat_eq c d ≡ false → AllByRecursion (λ (r : Receipt). r.caller ≡ c) xs → count_by (of_call d n) xs ≡ 0
count_other d n c xs other own = count_none (of_call d n) xs (all_to (λ (r : Receipt). r.caller ≡ c) (λ (r : Receipt). of_call d n r ≡ false) xs
    (λ r is. ap (λ (b : Bool). b && nat_eq r.number n) (ap (λ m. nat_eq m d) is ∙ other)) own)

turned_count : (p : Receipt → Bool) (xs : List Receipt) → count_by p (reverse xs) ≡ count_by p xs
turned_count p xs = sum_by-IsPermutation (λ x. cond (p x) 1 0) xs (reverse xs) (IsPermutation-reverse xs)

none_of_others : (first : ℕ) (h : List Entry) (accounts : ℕ → List Event) (cs : List ℕ) (d n : ℕ) → ((c : ℕ) → IsAccount first h c (accounts c)) → is_in d cs ≡ false → count_by (of_call d n) (gathered accounts cs) ≡ 0
none_of_others first h accounts [] d n each none = refl
none_of_others first h accounts (c ∷ cs) d n each none =
    let parts = or_parts (nat_eq c d) (is_in d cs) none in
    let here = turned_count (of_call d n) (receipts (accounts c)) ∙ count_other d n c (receipts (accounts c)) parts.0 (own_callers c (accounts c) (each c).own) in
    let rest = none_of_others first h accounts cs d n each parts.1 in
    let split = sum_by-append (λ y. cond (of_call d n y) 1 0) (reverse (receipts (accounts c))) (gathered accounts cs) in omega (arith, split, here, rest)

one_each : (first : ℕ) (h : List Entry) (accounts : ℕ → List Event) (cs : List ℕ) → ((c : ℕ) → IsAccount first h c (accounts c)) → AreDistinct cs → HasOneEach (gathered accounts cs)
one_each first h accounts [] each apart d n = omega arith
one_each first h accounts (c ∷ cs) each apart d n =
    let split = sum_by-append (λ y. cond (of_call d n y) 1 0) (reverse (receipts (accounts c))) (gathered accounts cs) in
    let turned = turned_count (of_call d n) (receipts (accounts c)) in
    let most = cases (nat_eq c d) refl (one_each first h accounts cs each apart.1 d n) in
    let L : ℕ → Type 0 = λ m. m ≤ 1 in subst L (sym split) (omega (arith, turned, most))
  where
    cases : (b : Bool) → nat_eq c d ≡ b → count_by (of_call d n) (gathered accounts cs) ≤ 1 → count_by (of_call d n) (receipts (accounts c)) + count_by (of_call d n) (gathered accounts cs) ≤ 1
    cases true t le =
        let I : ℕ → Type 0 = λ m. is_in m cs ≡ false in
        let rest = none_of_others first h accounts cs d n each (subst I (number_is c d t) apart.0) in
        let here = count_turns d n (receipts (accounts c)) (each c).turns in omega (arith, rest, here)
    cases false f le = let here = count_other d n c (receipts (accounts c)) f (own_callers c (accounts c) (each c).own) in omega (arith, here, le)

-- Places of receipts are from the first one on, up to the mark.
marks_from : (first : ℕ) (h : List Entry) → AreNumbered first h → first ≤ mark first h
marks_from first [] numbered = omega arith
marks_from first (e ∷ h) numbered = let rest = marks_from first h numbered.1 in omega (arith, rest, numbered.0)

numbered_before : (first n : ℕ) (h : List Entry) → AreNumbered first h → AreNumbered first (before n h)
numbered_before first n [] numbered = tt
numbered_before first n (e ∷ h) numbered = cases (nat_lt e.place n) (numbered_before first n h numbered.1)
  where
    cases : (b : Bool) → AreNumbered first (before n h) → AreNumbered first (cond b (e ∷ h) (before n h))
    cases true rest = numbered
    cases false rest = rest

from_first : (o : Opening) (pages : ℕ → ℕ) (h : List Entry) (mine : List Event) → AreNumbered o.first h → AreLawfulOf o pages h mine → AllByRecursion (λ (r : Receipt). o.first ≤ r.place) (receipts mine)
from_first o pages h [] numbered laws = tt
from_first o pages h (event.Entry e ∷ mine) numbered laws = from_first o pages h mine numbered laws.1
from_first o pages h (event.Receipt r ∷ mine) numbered laws =
    let low = marks_from o.first (before (r.place + 1) h) (numbered_before o.first (r.place + 1) h numbered) in
    (omega (arith, low, laws.0.legal.place), from_first o pages h mine numbered laws.1)

within : (o : Opening) (pages : ℕ → ℕ) (h : List Entry) (accounts : ℕ → List Event) (cs : List ℕ) → IsLawfulSoFar o pages h accounts → HavePlaces o.first h (gathered accounts cs)
within o pages h accounts cs so = record {
  numbered = so.places.numbered;
  within = all_gathered (λ (r : Receipt). (o.first ≤ r.place) × (r.place ≤ mark o.first h)) accounts cs (λ c.
      both_to (λ (r : Receipt). o.first ≤ r.place) (λ (r : Receipt). r.place ≤ mark o.first h) (λ (r : Receipt). (o.first ≤ r.place) × (r.place ≤ mark o.first h)) (receipts (accounts c)) (λ r low high. (low, high))
      (from_first o pages h (accounts c) so.places.numbered (so.laws c)) (places_to (mark o.first h) (accounts c) (so.places.each c).falling));
}

-- each caller's receipts in a merged trail are those of its account
own_receipts : (o : Opening) (h : List Entry) (accounts : ℕ → List Event) (cs : List ℕ) (es : List Entry) (events : List Event) → ((c : ℕ) → IsAccount o.first h c (accounts c)) → AreCallers accounts cs → IsMerged es (gathered accounts cs) events
    → IsPlaced o.first (reverse events) → AreInOrder (reverse events) → (c : ℕ) → receipts (own c (reverse events)) ≡ receipts (accounts c)
own_receipts o h accounts cs es events each callers merged placed ordered c =
    same_receipts (receipts (own c past)) (receipts (accounts c)) (own_falls o.first c past placed ordered) (account_falls (mark o.first h) (accounts c) (each c).falling (each c).turns) there back
  where
    past : List Event
    past = reverse events

    rs : List Receipt
    rs = gathered accounts cs

    there : AllByRecursion (λ x. IsIn x (receipts (accounts c))) (receipts (own c past))
    there = all_to (λ x. IsIn x rs × (x.caller ≡ c)) (λ x. IsIn x (receipts (accounts c))) (receipts (own c past))
        (λ x at. let I : ℕ → Type 0 = λ n. IsIn x (receipts (accounts n)) in subst I at.1 (in_all (λ (r : Receipt). IsIn r (receipts (accounts r.caller))) x rs at.0 (gathered_own o.first h accounts cs each)))
        (own_all (λ x. IsIn x rs) c past (all_merged es rs events merged))

    in_own : (x : Receipt) (l : List Event) → x.caller ≡ c → IsIn x (receipts l) → IsIn x (receipts (own c l))
    in_own x [] is here = here
    in_own x (event.Entry e ∷ l) is here = own_by (λ m. IsIn x (receipts m)) c (event.Entry e) l (λ own. in_own x l is here) (λ other. in_own x l is here)
    in_own x (event.Receipt r ∷ l) is (inl same) = own_by (λ m. IsIn x (receipts m)) c (event.Receipt r) l (λ own. inl same)
        (λ other. absurd (let t : nat_eq r.caller c ≡ true = eq-eqb r.caller c (ap (λ (q : Receipt). q.caller) (sym same) ∙ is) in let bad : true ≡ false = sym t ∙ other in cc))
    in_own x (event.Receipt r ∷ l) is (inr more) = own_by (λ m. IsIn x (receipts m)) c (event.Receipt r) l (λ own. inr (in_own x l is more)) (λ other. in_own x l is more)

    listed : (b : Bool) → is_in c cs ≡ b → AllByRecursion (λ x. IsIn x rs) (receipts (accounts c))
    listed true t = in_gathered accounts cs c t
    listed false f = let A : List Event → Type 0 = λ l. AllByRecursion (λ x. IsIn x rs) (receipts l) in subst A (sym (callers.others c f)) tt

    back : AllByRecursion (λ x. IsIn x (receipts (own c past))) (receipts (accounts c))
    back = both_to (λ x. IsIn x rs) (λ (r : Receipt). r.caller ≡ c) (λ x. IsIn x (receipts (own c past))) (receipts (accounts c))
        (λ x at is. in_own x past is (in_all (λ y. IsIn y (receipts past)) x rs at (none_lost es rs events merged))) (listed (is_in c cs) refl) (own_callers c (accounts c) (each c).own)

-- A trail that is merged from a history and the receipts of all its callers is that of the history and the accounts ..
pub merged_trail : (o : Opening) (pages : ℕ → ℕ) (h : List Entry) (accounts : ℕ → List Event) (cs : List ℕ) (es : List Entry) (events : List Event) → IsLawfulSoFar o pages h accounts → AreCallers accounts cs → reverse es ≡ h
    → IsMerged es (gathered accounts cs) events → IsTrailOf o.first h accounts (reverse events)
merged_trail o pages h accounts cs es events so callers is merged =
    let N : List Entry → Type 0 = λ l. AreNumbered o.first l in
    let H : List Entry → Type 0 = λ l. HavePlaces o.first l (gathered accounts cs) in
    let have : HavePlaces o.first (reverse es) (gathered accounts cs) = subst H (sym is) (within o pages h accounts cs so) in
    let placed = places_are o.first es (gathered accounts cs) events merged have in
    let ordered = order_is o.first es (gathered accounts cs) events merged have (one_each o.first h accounts cs so.places.each callers.apart) in
    record {
      entries_are = entries_are o.first es (gathered accounts cs) events merged have.numbered ∙ is;
      receipts_are = own_receipts o h accounts cs es events so.places.each callers merged placed ordered;
      placed = placed;
      ordered = ordered;
    }

-- .. and so a lawful one.
pub merged_of_all : (o : Opening) (pages : ℕ → ℕ) (h : List Entry) (accounts : ℕ → List Event) (cs : List ℕ) (es : List Entry) (events : List Event) → IsLawfulSoFar o pages h accounts → AreTrueAlone h accounts → AreDone o h accounts
    → AreCallers accounts cs → reverse es ≡ h → IsMerged es (gathered accounts cs) events → IsLawfulTrail o (record { first = o.first; events = events })
merged_of_all o pages h accounts cs es events so words done callers is merged =
    let T : List Event → Type 0 = λ l. IsLawfulTrail o (record { first = o.first; events = l }) in
    subst T (reverse-reverse events) (merged_lawful o pages h accounts (reverse events) (merged_trail o pages h accounts cs es events so callers is merged) so words done)

-- two callers, and nobody else
pub merged_of_two : (o : Opening) (pages : ℕ → ℕ) (h : List Entry) (accounts : ℕ → List Event) (c d : ℕ) (es : List Entry) (events : List Event) → IsLawfulSoFar o pages h accounts → AreTrueAlone h accounts → AreDone o h accounts
    → nat_eq d c ≡ false → ((b : ℕ) → nat_eq c b ≡ false → nat_eq d b ≡ false → accounts b ≡ []) → reverse es ≡ h
    → IsMerged es (reverse (receipts (accounts c)) ++ (reverse (receipts (accounts d)) ++ [])) events → IsLawfulTrail o (record { first = o.first; events = events })
merged_of_two o pages h accounts c d es events so words done apart others is merged =
    merged_of_all o pages h accounts (c ∷ d ∷ []) es events so words done (record {
      apart = (ap (λ (b : Bool). b || false) apart, (refl, tt));
      others = λ b none. let first = or_parts (nat_eq c b) (is_in b (d ∷ [])) none in let second = or_parts (nat_eq d b) false first.1 in others b first.0 second.0;
    }) is merged
