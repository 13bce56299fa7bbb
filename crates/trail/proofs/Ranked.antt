-- A list that is sorted strictly is the only sorted one of its elements; the events of a trail are sorted so.
use Rattle.std.proofs.Common.{◌≡◌, ◌<◌, ◌≤◌, ◌++◌, ℕ, suc, true, false, List, [], ◌∷◌, length, reverse, Less, Equal, Greater, refl, ap, ◌∙◌, sym, subst, inl, inr, map, get_or, append_assoc, arith}
use Rattle.std.specs.Prelude.{⊤, Vec}
use Rattle.std.specs.declared.alloc.Global.{Global}
use Rattle.std.specs.Cmp.{IsTotalOrder, nat_cmp_is}
use Rattle.std.specs.List.{AllByRecursion, sum_by}
use Rattle.std.specs.List.Sorted.{IsPermutation, IsSorted}
use Rattle.std.specs.Ordering.{is_lt, nat_cmp, ordering_reverse, ordering_then}
use Rattle.std.specs.declared.cmp.Ordering.{Ordering}
use Rattle.std.proofs.lemmas.Cmp.{nat_cmp_total, on_total, then_total}
use Rattle.std.proofs.lemmas.List.Elements.{All-from_recursion, recursion_from_All}
use Rattle.std.proofs.lemmas.List.MinMax.{ranks_by}
use Rattle.std.proofs.lemmas.List.Sorted.{All-permutation, IsPermutation-append_comm, IsPermutation-append_left, IsPermutation-append_right, IsPermutation-cons, IsPermutation-map, IsPermutation-middle, IsPermutation-refl, IsPermutation-reverse, IsPermutation-sym, IsPermutation-to_front, IsPermutation-trans, sorted_far, sum_by-IsPermutation}
use Rattle.std.proofs.lemmas.List.Sums.{sum_by-cons}
use Rattle.trail.specs.declared.event.Entry.{Entry}
use Rattle.trail.specs.declared.event.Receipt.{Receipt}
use Rattle.trail.specs.declared.event.Event.{Event}
use Rattle.trail.specs.declared.event.Event.TheVariants as event
use Rattle.trail.specs.Trails.{entries, receipts}
use Rattle.trail.specs.Legal.{IsInOrder}
use Rattle.trail.specs.Merging.{entries_told, told, together, rank, event_cmp, IsMerged, AreInOrder, IsPlaced}
use Rattle.std.proofs.lemmas.List.{append-nil, reverse-append}

pub reverse-cons : {A : Type 0} → (x : A) (xs : List A) → reverse (x ∷ xs) ≡ reverse xs ++ x ∷ []
reverse-cons x xs = reverse-append (x ∷ []) xs

pub all_to : {X : Type 0} → (P Q : X → Type 0) (xs : List X) → ((x : X) → P x → Q x) → AllByRecursion P xs → AllByRecursion Q xs
all_to P Q [] to all = tt
all_to P Q (x ∷ xs) to all = (to x all.0, all_to P Q xs to all.1)

all_at : {X : Type 0} → (P : X → Type 0) (xs : List X) → ((k : ℕ) (d : X) → k < length xs → P (get_or xs k d)) → AllByRecursion P xs
all_at P [] all = tt
all_at P (x ∷ xs) all = (all 0 x (omega arith), all_at P xs (λ k d less. all (suc k) d (omega (arith, less))))

pub all_last : {X : Type 0} → (P : X → Type 0) (xs : List X) (y : X) → AllByRecursion P xs → P y → AllByRecursion P (xs ++ y ∷ [])
all_last P [] y all last = (last, tt)
all_last P (x ∷ xs) y all last = (all.0, all_last P xs y all.1 last)

pub all_turned : {X : Type 0} → (P : X → Type 0) (xs : List X) → AllByRecursion P xs → AllByRecursion P (reverse xs)
all_turned P [] all = tt
all_turned P (x ∷ xs) all = subst (λ l. AllByRecursion P l) (sym (reverse-cons x xs)) (all_last P (reverse xs) x (all_turned P xs all.1) all.0)

sum_none : {X : Type 0} → (f : X → ℕ) (xs : List X) → AllByRecursion (λ x. f x ≡ 0) xs → sum_by f xs ≡ 0
sum_none f [] all = refl
sum_none f (x ∷ xs) all = omega (arith, sum_by-cons f x xs, all.0, sum_none f xs all.1)

abbrev ties : Ordering → ℕ
ties Less = 0
ties Equal = 1
ties Greater = 0

abbrev behind : Ordering → ℕ
behind Less = 0
behind Equal = 0
behind Greater = 1

-- each is below those behind it
abbrev pub Climbs : {X : Type 0} → (X → X → Ordering) → List X → Type 0
Climbs R [] = ⊤
Climbs R (x ∷ xs) = AllByRecursion (λ y. R x y ≡ Less) xs × Climbs R xs

-- none is below one before it
abbrev pub Rises : {X : Type 0} → (X → X → Ordering) → List X → Type 0
Rises R [] = ⊤
Rises R (x ∷ xs) = AllByRecursion (λ y. is_lt (R y x) ≡ false) xs × Rises R xs

module _ {X : Type 0} (R : X → X → Ordering) (o : IsTotalOrder R) where
  self_is : (x : X) → R x x ≡ Equal
  self_is x = cases (R x x) (o.antisymm x x)
    where
      cases : (r : Ordering) → r ≡ ordering_reverse r → r ≡ Equal
      cases Less bad = absurd (cc)
      cases Equal same = refl
      cases Greater bad = absurd (cc)

  less_through : (x y z : X) → R x y ≡ Less → is_lt (R z y) ≡ false → R x z ≡ Less
  less_through x y z less above = cases (R y z) refl
    where
      cases : (r : Ordering) → R y z ≡ r → R x z ≡ Less
      cases Less is = o.trans x y z less is
      cases Equal is = o.antisymm x z ∙ ap ordering_reverse (sym (o.congr y z x is)) ∙ sym (o.antisymm x y) ∙ less
      cases Greater is = let bad : true ≡ false = sym (ap is_lt (o.antisymm z y ∙ ap ordering_reverse is)) ∙ above in absurd (cc)

  rises_at : (xs : List X) → ((i j : ℕ) (d : X) → i ≤ j → j < length xs → is_lt (R (get_or xs j d) (get_or xs i d)) ≡ false) → Rises R xs
  rises_at [] up = tt
  rises_at (x ∷ xs) up = (
    all_at (λ y. is_lt (R y x) ≡ false) xs (λ k d less. up 0 (suc k) d (omega arith) (omega (arith, less))),
    rises_at xs (λ i j d le less. up (suc i) (suc j) d (omega (arith, le)) (omega (arith, less))),
  )

  pub rises_of : (xs : List X) → IsSorted R xs → Rises R xs
  rises_of xs sorted = rises_at xs (sorted_far (λ x y. is_lt (R x y)) (ranks_by o (λ x. x)) xs sorted)

  -- the first ones of two such lists with the same elements tie
  first_tied : (x y : X) (xs ys : List X) → AllByRecursion (λ z. R x z ≡ Less) xs → Rises R (y ∷ ys) → ((f : X → ℕ) → sum_by f (y ∷ ys) ≡ sum_by f (x ∷ xs)) → R x y ≡ Equal
  first_tied x y xs ys below rises sums = cases (R x y) refl
    where
      cases : (r : Ordering) → R x y ≡ r → R x y ≡ Equal
      cases Equal is = is
      cases Greater is =
          let f : X → ℕ = λ z. behind (R x z) in
          let own : f x ≡ 0 = ap behind (self_is x) in
          let others : sum_by f xs ≡ 0 = sum_none f xs (all_to (λ z. R x z ≡ Less) (λ z. f z ≡ 0) xs (λ z less. ap behind less) below) in
          let here : f y ≡ 1 = ap behind is in
          absurd (omega (arith, sums f, sum_by-cons f x xs, own, others, sum_by-cons f y ys, here))
      cases Less is =
          let f : X → ℕ = λ z. ties (R x z) in
          let own : f x ≡ 1 = ap ties (self_is x) in
          let others : sum_by f xs ≡ 0 = sum_none f xs (all_to (λ z. R x z ≡ Less) (λ z. f z ≡ 0) xs (λ z less. ap ties less) below) in
          let here : f y ≡ 0 = ap ties is in
          let rest : sum_by f ys ≡ 0 = sum_none f ys (all_to (λ z. is_lt (R z y) ≡ false) (λ z. f z ≡ 0) ys (λ z above. ap ties (less_through x y z is above)) rises.0) in
          absurd (omega (arith, sums f, sum_by-cons f x xs, own, others, sum_by-cons f y ys, here, rest))

  -- an element that ties with one of these is that one
  abbrev pub IsOneOf : List X → X → Type 0
  IsOneOf xs y = AllByRecursion (λ x. R x y ≡ Equal → y ≡ x) xs

  pub one_by_one : (xs ys : List X) → Climbs R xs → Rises R ys → ((f : X → ℕ) → sum_by f ys ≡ sum_by f xs) → AllByRecursion (IsOneOf xs) ys → ys ≡ xs
  one_by_one [] [] strict rises sums each = refl
  one_by_one [] (y ∷ ys) strict rises sums each =
      let f : X → ℕ = λ z. 1 in let none : sum_by f (y ∷ ys) ≡ 0 = sums f in absurd (omega (arith, none, sum_by-cons f y ys))
  one_by_one (x ∷ xs) [] strict rises sums each =
      let f : X → ℕ = λ z. 1 in let none : 0 ≡ sum_by f (x ∷ xs) = sums f in absurd (omega (arith, none, sum_by-cons f x xs))
  one_by_one (x ∷ xs) (y ∷ ys) strict rises sums each =
      let same : y ≡ x = each.0.0 (first_tied x y xs ys strict.0 rises sums) in
      let rest : ys ≡ xs = one_by_one xs ys strict.1 rises.1 (λ f. let same_f : f y ≡ f x = ap f same in omega (arith, sums f, sum_by-cons f x xs, sum_by-cons f y ys, same_f))
      (all_to (IsOneOf (x ∷ xs)) (IsOneOf xs) ys (λ z one. one.1) each.1) in
      ap (λ z. z ∷ ys) same ∙ ap (λ l. x ∷ l) rest

  pub each_one : (xs : List X) → Climbs R xs → AllByRecursion (IsOneOf xs) xs
  each_one [] strict = tt
  each_one (x ∷ xs) strict = (
    ((λ e. refl), all_to (λ z. R x z ≡ Less) (λ z. R z x ≡ Equal → x ≡ z) xs (λ z less e. absurd (let bad : Less ≡ Equal = sym less ∙ o.antisymm x z ∙ ap ordering_reverse e in cc)) strict.0),
    both xs strict.0 (each_one xs strict.1),
  )
    where
      both : (zs : List X) → AllByRecursion (λ z. R x z ≡ Less) zs → AllByRecursion (IsOneOf xs) zs → AllByRecursion (IsOneOf (x ∷ xs)) zs
      both [] below one = tt
      both (z ∷ zs) below one = (((λ e. absurd (let bad : Less ≡ Equal = sym below.0 ∙ e in cc)), one.0), both zs below.1 one.1)

  one_sorted : (xs ys : List X) → Climbs R xs → IsSorted R ys → IsPermutation xs ys → ys ≡ xs
  one_sorted xs ys strict sorted moved =
      one_by_one xs ys strict (rises_of ys sorted) (λ f. sum_by-IsPermutation f xs ys moved)
      (recursion_from_All (IsOneOf xs) ys (All-permutation (IsOneOf xs) xs ys moved (All-from_recursion (IsOneOf xs) xs (each_one xs strict))))

  pub climbs_last : (xs : List X) (y : X) → Climbs R xs → AllByRecursion (λ x. R x y ≡ Less) xs → Climbs R (xs ++ y ∷ [])
  climbs_last [] y strict below = (tt, tt)
  climbs_last (x ∷ xs) y strict below = (all_last (λ z. R x z ≡ Less) xs y strict.0 below.0, climbs_last xs y strict.1 below.1)

pub event_total : IsTotalOrder event_cmp
event_total = on_total rank (then_total (then_total (then_total (on_total (λ (t : ℕ × ℕ × ℕ × ℕ). t.0) nat_cmp_total) (on_total (λ t. t.1) nat_cmp_total)) (on_total (λ t. t.2) nat_cmp_total)) (on_total (λ t. t.3) nat_cmp_total))

pub lower : (m n : ℕ) → m < n → nat_cmp m n ≡ Less
lower m n less = sym (nat_cmp_is m n Less less)

pub level : (m n : ℕ) → m ≡ n → nat_cmp m n ≡ Equal
level m n same = sym (nat_cmp_is m n Equal same)

abbrev pub at_rank : Ordering → Ordering → Ordering → Ordering → Ordering
at_rank a b c d = ordering_then (ordering_then (ordering_then a b) c) d

-- an event stands behind the one before it
next_behind : (first : ℕ) (past : List Event) (d e : Event) → IsPlaced first (e ∷ d ∷ past) → IsInOrder (d ∷ past) e → event_cmp d e ≡ Less
next_behind first past (event.Entry d) (event.Entry e) placed order = ap (λ r. at_rank r Equal Equal Equal) (lower d.place e.place (omega (arith, placed.0)))
next_behind first past (event.Receipt q) (event.Entry e) placed order =
    ap (λ r. at_rank r (nat_cmp 1 0) (nat_cmp q.caller 0) (nat_cmp q.number 0)) (lower q.place e.place (omega (arith, placed.0, placed.1.0)))
next_behind first past (event.Entry d) (event.Receipt r) placed order =
    ap (λ x. at_rank x Less (nat_cmp 0 r.caller) (nat_cmp 0 r.number)) (level d.place r.place (sym placed.0))
next_behind first past (event.Receipt q) (event.Receipt r) placed order = ap (λ x. at_rank x Equal (nat_cmp q.caller r.caller) (nat_cmp q.number r.number)) (level q.place r.place (placed.1.0 ∙ sym placed.0)) ∙ by_caller order
  where
    by_caller : IsInOrder (event.Receipt q ∷ past) (event.Receipt r) → at_rank Equal Equal (nat_cmp q.caller r.caller) (nat_cmp q.number r.number) ≡ Less
    by_caller (inl less) = ap (λ x. at_rank Equal Equal x (nat_cmp q.number r.number)) (lower q.caller r.caller less)
    by_caller (inr (same, less)) =
        ap (λ x. at_rank Equal Equal x (nat_cmp q.number r.number)) (level q.caller r.caller same) ∙ ap (at_rank Equal Equal Equal) (lower q.number r.number less)

all_before : (first : ℕ) (past : List Event) (e : Event) → IsPlaced first (e ∷ past) → AreInOrder (e ∷ past) → AllByRecursion (λ d. event_cmp d e ≡ Less) past
all_before first [] e placed order = tt
all_before first (d ∷ past) e placed order =
    let next = next_behind first past d e placed order.0 in
    (next, all_to (λ z. event_cmp z d ≡ Less) (λ z. event_cmp z e ≡ Less) past (λ z less. event_total.trans z d e less next) (all_before first past d (rest_placed e placed) order.1))
  where
    rest_placed : (e : Event) → IsPlaced first (e ∷ d ∷ past) → IsPlaced first (d ∷ past)
    rest_placed (event.Entry e) placed = placed.1
    rest_placed (event.Receipt r) placed = placed.1

strictly : (first : ℕ) (past : List Event) → IsPlaced first past → AreInOrder past → Climbs event_cmp (reverse past)
strictly first [] placed order = tt
strictly first (e ∷ past) placed order =
    subst (λ l. Climbs event_cmp l) (sym (reverse-cons e past))
    (climbs_last event_cmp event_total (reverse past) e (strictly first past (rest_placed e placed) order.1) (all_turned (λ d. event_cmp d e ≡ Less) past (all_before first past e placed order)))
  where
    rest_placed : (e : Event) → IsPlaced first (e ∷ past) → IsPlaced first past
    rest_placed (event.Entry e) placed = placed.1
    rest_placed (event.Receipt r) placed = placed.1

-- the elements of a trail
parted : (past : List Event) → IsPermutation (entries_told (entries past) ++ told (receipts past)) past
parted [] = IsPermutation-refl []
parted (event.Entry e ∷ past) = IsPermutation-cons (event.Entry e) (entries_told (entries past) ++ told (receipts past)) past (parted past)
parted (event.Receipt r ∷ past) =
    IsPermutation-trans _ (event.Receipt r ∷ entries_told (entries past) ++ told (receipts past)) _ (IsPermutation-middle (entries_told (entries past)) (event.Receipt r) (told (receipts past)))
    (IsPermutation-cons (event.Receipt r) (entries_told (entries past) ++ told (receipts past)) past (parted past))

turned_map : {A : Type 0} → (f : A → Event) (xs ys : List A) → xs ≡ reverse ys → IsPermutation (map f ys) (map f xs)
turned_map f xs ys is = IsPermutation-map f ys xs (subst (λ l. IsPermutation ys l) (sym is) (IsPermutation-reverse ys))

pub only_merged : (first : ℕ) (past : List Event) (es : List Entry) (rs : List Receipt) (events : List Event) → IsPlaced first past → AreInOrder past → entries past ≡ reverse es → receipts past ≡ reverse rs
    → IsMerged es rs events → events ≡ reverse past
only_merged first past es rs events placed order es_are rs_are merged =
    let E = entries_told es in
    let F = entries_told (entries past) in
    let more = IsPermutation-append_left (told rs) E F (turned_map (λ (e : Entry). event.Entry e) (entries past) es es_are) in
    let all = IsPermutation-append_right F (told rs) (told (receipts past)) (turned_map (λ (r : Receipt). event.Receipt r) (receipts past) rs rs_are) in
    let given : IsPermutation (E ++ told rs) past = IsPermutation-trans (E ++ told rs) (F ++ told rs) past more (IsPermutation-trans (F ++ told rs) (F ++ told (receipts past)) past all (parted past)) in
    let back : IsPermutation (reverse past) (E ++ told rs) =
    IsPermutation-trans (reverse past) past (E ++ told rs) (IsPermutation-sym past (reverse past) (IsPermutation-reverse past)) (IsPermutation-sym (E ++ told rs) past given) in
    one_sorted event_cmp event_total (reverse past) events (strictly first past placed order) merged.ranked (IsPermutation-trans (reverse past) (E ++ told rs) events back merged.kept)

-- one event more was moved
pub moved_last : (xs ys : List Event) (e : Event) → IsPermutation (xs ++ (ys ++ e ∷ [])) ((xs ++ e ∷ []) ++ ys)
moved_last xs ys e =
    subst (λ l. IsPermutation (xs ++ (ys ++ e ∷ [])) l) (sym (append_assoc xs (e ∷ []) ys)) (IsPermutation-append_right xs (ys ++ e ∷ []) (e ∷ ys) (IsPermutation-to_front ys e))

told_last : {A : Type 0} → (f : A → Event) (xs : List A) (x : A) → map f (xs ++ x ∷ []) ≡ map f xs ++ f x ∷ []
told_last f [] x = refl
told_last f (y ∷ xs) x = ap (λ l. f y ∷ l) (told_last f xs x)

-- so what was moved and what is left are still all events
pub still_all : {A : Type 0} → (f : A → Event) (all room more : List Event) (old rest : List A) (x : A) → IsPermutation all (room ++ map f old) → old ≡ rest ++ x ∷ [] → more ≡ room ++ f x ∷ []
    → IsPermutation all (more ++ map f rest)
still_all f all room more old rest x kept popped pushed =
    let was : IsPermutation all (room ++ (map f rest ++ f x ∷ [])) = subst (λ l. IsPermutation all (room ++ l)) (ap (map f) popped ∙ told_last f rest x) kept in
    subst (λ l. IsPermutation all (l ++ map f rest)) (sym pushed) (IsPermutation-trans all (room ++ (map f rest ++ f x ∷ [])) ((room ++ f x ∷ []) ++ map f rest) was (moved_last room (map f rest) (f x)))

pub all_moved : {A : Type 0} → (f : A → Event) (all room : List Event) (old : List A) → IsPermutation all (room ++ map f old) → old ≡ [] → IsPermutation all room
all_moved f all room old kept none = subst (λ l. IsPermutation all l) (ap (λ xs. room ++ map f xs) none ∙ append-nil room) kept

together_last : (accounts : List (Vec Receipt Global)) (a : Vec Receipt Global) → together (accounts ++ a ∷ []) ≡ together accounts ++ a.items
together_last [] a = append-nil a.items
together_last (x ∷ accounts) a = ap (λ l. x.items ++ l) (together_last accounts a) ∙ sym (append_assoc x.items (together accounts) a.items)

told_both : (xs ys : List Receipt) → told (xs ++ ys) ≡ told xs ++ told ys
told_both [] ys = refl
told_both (x ∷ xs) ys = ap (λ l. event.Receipt x ∷ l) (told_both xs ys)

-- and of whole accounts
pub still_every : (all room more : List Event) (old rest : List (Vec Receipt Global)) (a : Vec Receipt Global) → IsPermutation all (room ++ told (together old)) → old ≡ rest ++ a ∷ []
    → IsPermutation (room ++ told a.items) more → IsPermutation all (more ++ told (together rest))
still_every all room more old rest a kept popped moved =
    let left = told (together rest) in
    let mine = told a.items in
    let parts : told (together old) ≡ left ++ mine = ap (λ l. told (together l)) popped ∙ ap told (together_last rest a) ∙ told_both (together rest) a.items in
    let was : IsPermutation all (room ++ (left ++ mine)) = subst (λ l. IsPermutation all (room ++ l)) parts kept in
    let turned : IsPermutation (room ++ (left ++ mine)) ((room ++ mine) ++ left) =
    subst (λ l. IsPermutation (room ++ (left ++ mine)) l) (sym (append_assoc room mine left)) (IsPermutation-append_right room (left ++ mine) (mine ++ left) (IsPermutation-append_comm left mine)) in
    IsPermutation-trans all (room ++ (left ++ mine)) (more ++ left) was
    (IsPermutation-trans (room ++ (left ++ mine)) ((room ++ mine) ++ left) (more ++ left) turned (IsPermutation-append_left left (room ++ mine) more moved))
