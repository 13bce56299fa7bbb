-- The LRU list, walked from the tail.
use mathlib.Core.Bool.{beq}
use Rattle.std.proofs.Common.{◌≡◌, ◌<◌, ◌≤◌, ◌+◌, ◌++◌, ◌==◌, ◌&&◌, ◌⊎◌, inl, inr, ℕ, zero, suc, Bool, true, false, not, cond, List, [], ◌∷◌, Option, None, Some, length, refl, ap, ◌∙◌, sym, subst, arith, if◌then◌else◌, eq-eqb, nat_eq}
use Rattle.std.specs.Prelude.{is_some, filter, map, reverse, Contains}
use Rattle.std.specs.List.{AllByRecursion}
use Rattle.std.specs.Option.{option_map_or}
use Rattle.std.proofs.lemmas.Bool.{eqb-true}
use Rattle.std.proofs.lemmas.List.{reverse-append}
use Rattle.std.proofs.lemmas.List.Sums.{sum_by-cons}
use Rattle.page_ids.specs.Midpoint.{Listed, count_of}
use Rattle.page_ids.specs.Same.{same_page}
use Rattle.page_ids.specs.declared.ids.PageId.{PageId}
use Rattle.page_ids.specs.declared.config.Config.{Config}
use Rattle.trail.specs.declared.event.Entry.{Entry}
use Rattle.trail.specs.History.{home}
use Rattle.trail.specs.declared.event.Dirty.{Dirty}
use Rattle.trail.specs.Dirt.{dirty, dirt_of, is_dirty}
use Rattle.trail.specs.Order.{order}
use Rattle.trail.specs.Victim.{from_the_tail, walk}
use Rattle.instance_lists.specs.Walk.{is_in_frame, first_home, next_home, test_of, part_of, start_of, first_tried, AreOrderly}
use Rattle.instance_lists.proofs.Dirt.{no_way, same_self, same_is, other_way, AreApart, dirty_apart}

abbrev pub one : Bool → ℕ
one b = if b then 1 else 0

-- how often the page stands in a list
abbrev pub times : PageId → List PageId → ℕ
times p [] = 0
times p (q ∷ qs) = one (same_page q p) + times p qs

pub times-append : (p : PageId) (xs ys : List PageId) → times p (xs ++ ys) ≡ times p xs + times p ys
times-append p [] ys = omega arith
times-append p (x ∷ xs) ys = let rest = times-append p xs ys in omega (arith, rest)

pub times_listed : (p : PageId) (xs : List (Listed PageId)) → times p (reverse (map (λ (x : Listed PageId). x.key) xs)) ≡ count_of (λ q. same_page q p) xs
times_listed p [] = refl
times_listed p (x ∷ xs) =
    let keys = map (λ (y : Listed PageId). y.key) xs in
    let turned : reverse (x.key ∷ keys) ≡ reverse keys ++ x.key ∷ [] = reverse-append (x.key ∷ []) keys in
    let rest = times_listed p xs in
    let sum = times-append p (reverse keys) (x.key ∷ []) in
    let first = sum_by-cons (λ (y : Listed PageId). one (same_page y.key p)) x xs in
    ap (times p) turned ∙ omega (arith, rest, sum, first)

-- each resident page stands there once, and no other
pub tail_counts : (c : Config) (h : List Entry) (p : PageId) → AreOrderly c h → times p (from_the_tail c h) ≡ one (is_some (home h p))
tail_counts c h p orderly = times_listed p (order c h).listed ∙ orderly.listed p

one_most : (b : Bool) → one b ≤ 1
one_most true = omega arith
one_most false = omega arith

pub once_there : (c : Config) (h : List Entry) (p : PageId) → AreOrderly c h → times p (from_the_tail c h) ≤ 1
once_there c h p orderly = omega (arith, tail_counts c h p orderly, one_most (is_some (home h p)))

pub itself : (p : PageId) (ps : List PageId) → times p (p ∷ ps) ≡ 1 + times p ps
itself p ps = ap (λ (b : Bool). one b + times p ps) (same_self p)

some_one : (o : Option ℕ) → 0 < one (is_some o) → (f : ℕ) × (o ≡ Some f)
some_one None l = absurd (omega arith)
some_one (Some f) l = (f, refl)

-- a page that is listed has a home
pub listed_housed : (c : Config) (h : List Entry) (p : PageId) → AreOrderly c h → 0 < times p (from_the_tail c h) → (f : ℕ) × (home h p ≡ Some f)
listed_housed c h p orderly l = some_one (home h p) (omega (arith, l, tail_counts c h p orderly))

-- the page is not among those before it
pub apart_before : (c : Config) (h : List Entry) (p : PageId) (done rest : List PageId) → AreOrderly c h → from_the_tail c h ≡ done ++ p ∷ rest → times p done ≡ 0
apart_before c h p done rest orderly split =
    let most = once_there c h p orderly in
    let all = ap (times p) split in
    let sum = times-append p done (p ∷ rest) in
    let here = itself p rest in
    omega (arith, most, all, sum, here)

-- what the walk knows of where it stands
pub record Stands (h : List Entry) (f : ℕ) (p : PageId) (done : List PageId) : Type 0 where
  pub housed : home h p ≡ Some f
  pub alone : (q : PageId) → home h q ≡ Some f → q ≡ p
  pub apart : times p done ≡ 0

pub in_frame : (o : Option ℕ) (f : ℕ) → option_map_or (λ g. g == f) o false ≡ true → o ≡ Some f
in_frame None f is = absurd (no_way (sym is))
in_frame (Some g) f is = ap (λ (n : ℕ). Some n) (eqb-true g f is)

pub here_is : (h : List Entry) (f : ℕ) (p : PageId) → home h p ≡ Some f → is_in_frame h f p ≡ true
here_is h f p housed = ap (λ (o : Option ℕ). option_map_or (λ g. g == f) o false) housed ∙ eq-eqb f f refl

other_fails : (h : List Entry) (f : ℕ) (p q : PageId) (qs : List PageId) → Stands h f p (q ∷ qs) → is_in_frame h f q ≡ false
other_fails h f p q qs s = go (is_in_frame h f q) refl
  where
    go : (b : Bool) → is_in_frame h f q ≡ b → is_in_frame h f q ≡ false
    go false is = is
    go true is =
        let same : q ≡ p = s.alone q (in_frame (home h q) f is) in
        let met : same_page q p ≡ true = ap (λ (r : PageId). same_page r p) same ∙ same_self p in
        let count : times p (q ∷ qs) ≡ 1 + times p qs = ap (λ (b : Bool). one b + times p qs) met in
        absurd (omega (arith, count, s.apart))

stands_less : (h : List Entry) (f : ℕ) (p q : PageId) (qs : List PageId) → Stands h f p (q ∷ qs) → Stands h f p qs
stands_less h f p q qs s = let none = s.apart in record { housed = s.housed; alone = s.alone; apart = omega (arith, none) }

-- the walk goes on behind its page
pub next_there : (h : List Entry) (f : ℕ) (p : PageId) (done rest : List PageId) → Stands h f p done → next_home h (Some f) (done ++ p ∷ rest) ≡ first_home h rest
next_there h f p [] rest s = ap (λ (b : Bool). if b then first_home h rest else next_home h (Some f) rest) (here_is h f p s.housed)
next_there h f p (q ∷ qs) rest s =
    ap (λ (b : Bool). if b then first_home h (qs ++ p ∷ rest) else next_home h (Some f) (qs ++ p ∷ rest)) (other_fails h f p q qs s)
    ∙ next_there h f p qs rest (stands_less h f p q qs s)

-- how many pages the walk has before it
abbrev pub left_at : List Entry → Option ℕ → List PageId → ℕ
left_at h None ps = 0
left_at h (Some f) [] = 0
left_at h (Some f) (p ∷ ps) = if is_in_frame h f p then 1 + length ps else left_at h (Some f) ps

pub left_there : (h : List Entry) (f : ℕ) (p : PageId) (done rest : List PageId) → Stands h f p done → left_at h (Some f) (done ++ p ∷ rest) ≡ 1 + length rest
left_there h f p [] rest s = ap (λ (b : Bool). if b then 1 + length rest else left_at h (Some f) rest) (here_is h f p s.housed)
left_there h f p (q ∷ qs) rest s =
    ap (λ (b : Bool). if b then 1 + length (qs ++ p ∷ rest) else left_at h (Some f) (qs ++ p ∷ rest)) (other_fails h f p q qs s)
    ∙ left_there h f p qs rest (stands_less h f p q qs s)

pub stands_at : (c : Config) (h : List Entry) (f : ℕ) (p : PageId) (done rest : List PageId) → AreOrderly c h → from_the_tail c h ≡ done ++ p ∷ rest → home h p ≡ Some f → Stands h f p done
stands_at c h f p done rest orderly split housed = record {
  housed = housed;
  alone = λ q is. orderly.alone p q f housed is;
  apart = apart_before c h p done rest orderly split;
}

-- the walk has the frame of a first page
pub first_there : (h : List Entry) (f : ℕ) (rest : List PageId) → first_home h rest ≡ Some f → (p : PageId) × (more : List PageId) × (rest ≡ p ∷ more) × (home h p ≡ Some f)
first_there h f [] is = absurd (cc)
first_there h f (p ∷ more) is = (p, more, refl, is)

-- and it ends where no page is left
pub all_walked : (c : Config) (h : List Entry) (done rest : List PageId) → AreOrderly c h → from_the_tail c h ≡ done ++ rest → first_home h rest ≡ None → rest ≡ []
all_walked c h done [] orderly split is = refl
all_walked c h done (p ∷ more) orderly split is =
    let all = ap (times p) split in
    let sum = times-append p done (p ∷ more) in
    let here = itself p more in
    let housed = listed_housed c h p orderly (omega (arith, all, sum, here)) in
    let bad : None ≡ Some housed.0 = sym is ∙ housed.1 in
    absurd (cc)

-- the steps of a walk fall
pub left_less : (c : Config) (h : List Entry) (done rest : List PageId) → AreOrderly c h → from_the_tail c h ≡ done ++ rest → left_at h (first_home h rest) (from_the_tail c h) ≤ length rest
left_less c h done [] orderly split = omega arith
left_less c h done (p ∷ more) orderly split = go (home h p) refl
  where
    go : (o : Option ℕ) → home h p ≡ o → left_at h o (from_the_tail c h) ≤ length (p ∷ more)
    go None is = omega arith
    go (Some f) is =
        let count : left_at h (Some f) (from_the_tail c h) ≡ 1 + length more = ap (left_at h (Some f)) split ∙ left_there h f p done more (stands_at c h f p done more orderly split is) in
        omega (arith, count)

one_split : (b : Bool) (n : ℕ) (p : PageId) (q : PageId) (xs ys : List PageId) → times p xs + times p ys ≡ n
    → times p (cond (not b) (q ∷ xs) xs) + times p (cond b (q ∷ ys) ys) ≡ one (same_page q p) + n
one_split true n p q xs ys is = omega (arith, is)
one_split false n p q xs ys is = omega (arith, is)

pub times-parts : (test : PageId → Bool) (p : PageId) (ps : List PageId) → times p (filter (λ q. not (test q)) ps) + times p (filter (λ q. test q) ps) ≡ times p ps
times-parts test p [] = refl
times-parts test p (q ∷ qs) = one_split (test q) (times p qs) p q (filter (λ r. not (test r)) qs) (filter (λ r. test r) qs) (times-parts test p qs)

-- the order of the search has the same pages
pub walk_counts : (c : Config) (h : List Entry) (p : PageId) → times p (walk c h) ≡ times p (from_the_tail c h)
walk_counts c h p =
    times-append p (filter (λ q. not (is_dirty h q)) (from_the_tail c h)) (filter (λ q. is_dirty h q) (from_the_tail c h))
    ∙ times-parts (is_dirty h) p (from_the_tail c h)

-- no page stands twice in front of another one
pub before_once : (c : Config) (h : List Entry) (q p : PageId) (before after : List PageId) → AreOrderly c h → walk c h ≡ before ++ p ∷ after → times q before ≤ 1
before_once c h q p before after orderly split =
    let all = ap (times q) split in
    let sum = times-append q before (p ∷ after) in
    omega (arith, all, sum, walk_counts c h q, once_there c h q orderly)

pub walk_once : (c : Config) (h : List Entry) (q : PageId) → AreOrderly c h → times q (walk c h) ≤ 1
walk_once c h q orderly = omega (arith, walk_counts c h q, once_there c h q orderly)

pub contains_cases : {A : Type 0} (x y : A) (xs : List A) → Contains (x ∷ xs) y → (x ≡ y) ⊎ Contains xs y
contains_cases x y xs c = go c.0 c.1 c.2
  where
    go : (k : ℕ) → k < length (x ∷ xs) → Rattle.std.specs.Prelude.slice_index_or (x ∷ xs) k y ≡ y → (x ≡ y) ⊎ Contains xs y
    go zero l e = inl e
    go (suc k) l e = inr (k, omega (arith, l), e)

pub contains_more : {A : Type 0} (x y : A) (xs : List A) → Contains xs y → Contains (x ∷ xs) y
contains_more x y xs c = let l = c.1 in (suc c.0, omega (arith, l), c.2)

pub contains_first : {A : Type 0} (x : A) (xs : List A) → Contains (x ∷ xs) x
contains_first x xs = (0, omega arith, refl)

-- a page that is counted is there
pub counted_there : (p : PageId) (ps : List PageId) → 0 < times p ps → Contains ps p
counted_there p [] l = absurd (omega arith)
counted_there p (q ∷ qs) l = go (same_page q p) refl (counted_there p qs)
  where
    go : (b : Bool) → same_page q p ≡ b → (0 < times p qs → Contains qs p) → Contains (q ∷ qs) p
    go true is more = subst (λ (r : PageId). Contains (q ∷ qs) r) (same_is q p is) (contains_first q qs)
    go false is more =
        let count : times p (q ∷ qs) ≡ 0 + times p qs = ap (λ (b : Bool). one b + times p qs) is in
        contains_more q p qs (more (omega (arith, l, count)))

-- a resident page is met
pub housed_walked : (c : Config) (h : List Entry) (p : PageId) (f : ℕ) → AreOrderly c h → home h p ≡ Some f → Contains (walk c h) p
housed_walked c h p f orderly housed =
    let one_there : one (is_some (home h p)) ≡ 1 = ap (λ (o : Option ℕ). one (is_some o)) housed in
    counted_there p (walk c h) (omega (arith, walk_counts c h p, tail_counts c h p orderly, one_there))

-- the pages that were met, with one more
pub part_more : (test : PageId → Bool) (p : PageId) (done : List PageId) → filter test (done ++ p ∷ []) ≡ filter test done ++ filter test (p ∷ [])
part_more test p done = Rattle.std.proofs.lemmas.List.Elements.filter-append test done (p ∷ [])

pub test_passes : (test : PageId → Bool) (p : PageId) (ps : List PageId) → test p ≡ true → filter test (p ∷ ps) ≡ p ∷ filter test ps
test_passes test p ps is = ap (λ (b : Bool). cond b (p ∷ filter test ps) (filter test ps)) is

same_kind : (b soiled : Bool) → not (beq b soiled) ≡ false → b ≡ soiled
same_kind true true is = refl
same_kind true false is = absurd (no_way is)
same_kind false true is = absurd (no_way is)
same_kind false false is = refl

-- the page is of the kind that is sought
pub tested : (soiled : Bool) (h : List Entry) (p : PageId) → not (beq (is_dirty h p) soiled) ≡ false → test_of h soiled p ≡ true
tested true h p is = same_kind (is_dirty h p) true is
tested false h p is = ap not (same_kind (is_dirty h p) false is)

others_in : (p : PageId) (qs : List PageId) → times p qs ≡ 0 → AllByRecursion (λ q. same_page q p ≡ false) qs
others_in p [] none = tt
others_in p (q ∷ qs) none = (cases (same_page q p) (omega (arith, none)), others_in p qs (omega (arith, none)))
  where
    cases : (b : Bool) → one b ≤ 0 → b ≡ false
    cases true le = absurd (omega (arith, le))
    cases false le = refl

-- the pages in front of one in the walk are others
pub before_other : (c : Config) (h : List Entry) (p : PageId) (before after : List PageId) → AreOrderly c h → walk c h ≡ before ++ p ∷ after → AllByRecursion (λ q. same_page q p ≡ false) before
before_other c h p before after orderly split =
    let all = ap (times p) split in
    let sum = times-append p before (p ∷ after) in
    let most = walk_once c h p orderly in
    let here : one (same_page p p) ≡ 1 = ap one (ap (λ (b : Bool). b && nat_eq p.page p.page) (eq-eqb p.space p.space refl) ∙ eq-eqb p.page p.page refl) in
    others_in p before (omega (arith, all, sum, most, here))

-- Whether the page is among these dirty ones.
abbrev among : List Dirty → PageId → Bool
among ds q = is_some (dirt_of ds q)

abbrev counted : List Dirty → List PageId → ℕ
counted ds ps = length (filter (among ds) ps)

none_among : (ps : List PageId) → counted [] ps ≡ 0
none_among [] = refl
none_among (p ∷ ps) = none_among ps

-- one dirty page more is met as often as it stands there
one_more : (d : Dirty) (ds : List Dirty) (ps : List PageId) → dirt_of ds d.page ≡ None → counted (d ∷ ds) ps ≡ times d.page ps + counted ds ps
one_more d ds [] none = refl
one_more d ds (q ∷ qs) none = by_test (same_page d.page q) refl (one_more d ds qs none)
  where
    alike : (b : Bool) (xs ys : List PageId) (n : ℕ) → length xs ≡ n + length ys → length (cond b (q ∷ xs) xs) ≡ n + length (cond b (q ∷ ys) ys)
    alike true xs ys n same = omega (arith, same)
    alike false xs ys n same = same

    by_test : (b : Bool) → same_page d.page q ≡ b → counted (d ∷ ds) qs ≡ times d.page qs + counted ds qs
        → length (cond (is_some (cond b (Some d) (dirt_of ds q))) (q ∷ filter (among (d ∷ ds)) qs) (filter (among (d ∷ ds)) qs))
        ≡ (one (same_page q d.page) + times d.page qs) + length (cond (among ds q) (q ∷ filter (among ds) qs) (filter (among ds) qs))
    by_test true is next =
        let here : one (same_page q d.page) ≡ 1 = ap one (ap (same_page q) (same_is d.page q is) ∙ same_self q) in
        let away : length (cond (among ds q) (q ∷ filter (among ds) qs) (filter (among ds) qs)) ≡ counted ds qs =
        ap (λ (o : Option Dirty). length (cond (is_some o) (q ∷ filter (among ds) qs) (filter (among ds) qs))) (ap (dirt_of ds) (sym (same_is d.page q is)) ∙ none) in
        omega (arith, here, away, next)
    by_test false is next =
        let here : one (same_page q d.page) ≡ 0 = ap one (other_way d.page q is) in
        let rest = alike (among ds q) (filter (among (d ∷ ds)) qs) (filter (among ds) qs) (times d.page qs) next in
        omega (arith, here, rest)

all_counted : (ps : List PageId) (ds : List Dirty) → AreApart ds → ((q : PageId) → among ds q ≡ true → times q ps ≡ 1) → counted ds ps ≡ length ds
all_counted ps [] apart once = none_among ps
all_counted ps (d ∷ ds) apart once =
    let first = once d.page (ap (λ (b : Bool). is_some (cond b (Some d) (dirt_of ds d.page))) (same_self d.page)) in
    let rest = all_counted ps ds apart.1 (λ q is. once q (more (same_page d.page q) q is)) in
    omega (arith, one_more d ds ps apart.0, first, rest)
  where
    more : (b : Bool) (q : PageId) → among ds q ≡ true → is_some (cond b (Some d) (dirt_of ds q)) ≡ true
    more true q is = refl
    more false q is = is

-- As many pages are walked in the dirty part as are dirty, where each of these has a home.
pub dirty_part : (c : Config) (h : List Entry) → AreOrderly c h → ((p : PageId) → home h p ≡ None → is_dirty h p ≡ false) → length (part_of c h true) ≡ length (dirty h)
dirty_part c h orderly homed = all_counted (from_the_tail c h) (dirty h) (dirty_apart h) (λ q is. tail_counts c h q orderly ∙ by_home q (home h q) refl is)
  where
    by_home : (q : PageId) (o : Option ℕ) → home h q ≡ o → is_dirty h q ≡ true → one (is_some (home h q)) ≡ 1
    by_home q None here is = absurd (no_way (sym is ∙ homed q here))
    by_home q (Some f) here is = ap (λ (o : Option ℕ). one (is_some o)) here

-- the two parts are the whole list
both_parts : (test : PageId → Bool) (ps : List PageId) → length (filter (λ q. not (test q)) ps) + length (filter test ps) ≡ length ps
both_parts test [] = refl
both_parts test (q ∷ qs) = by_test (test q) (both_parts test qs)
  where
    by_test : (b : Bool) → length (filter (λ r. not (test r)) qs) + length (filter test qs) ≡ length qs
        → length (cond (not b) (q ∷ filter (λ r. not (test r)) qs) (filter (λ r. not (test r)) qs)) + length (cond b (q ∷ filter test qs) (filter test qs)) ≡ suc (length qs)
    by_test true next = omega (arith, next)
    by_test false next = omega (arith, next)

pub clean_part : (c : Config) (h : List Entry) → length (part_of c h false) + length (part_of c h true) ≡ length (from_the_tail c h)
clean_part c h = both_parts (is_dirty h) (from_the_tail c h)

-- where a search begins
pub begins : (c : Config) (h : List Entry) (soiled : Bool) (tail : Option ℕ) → 0 < length (part_of c h soiled) → tail ≡ first_home h (from_the_tail c h) → tail ≡ first_tried c h soiled
begins c h soiled tail some is = go (part_of c h soiled) some
  where
    go : (part : List PageId) → 0 < length part → tail ≡ start_of part (first_home h (from_the_tail c h))
    go [] none = absurd (omega (arith, none))
    go (p ∷ ps) there = is

pub begins_nowhere : (c : Config) (h : List Entry) (soiled : Bool) → length (part_of c h soiled) ≡ 0 → None ≡ first_tried c h soiled
begins_nowhere c h soiled none = go (part_of c h soiled) none
  where
    go : (part : List PageId) → length part ≡ 0 → None ≡ start_of part (first_home h (from_the_tail c h))
    go [] is = refl
    go (p ∷ ps) is = absurd (omega (arith, is))
