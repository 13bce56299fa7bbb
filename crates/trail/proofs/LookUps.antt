-- What the look-ups of a history come to. These are lemmas about the definitions, which crates above may cite.
use Rattle.std.proofs.Common.{◌≡◌, ◌<◌, ◌≤◌, ℕ, zero, suc, Bool, true, false, not, cond, List, [], ◌∷◌, ◌++◌, ◌+◌, ◌||◌, Option, None, Some, length, refl, ap, ◌∙◌, sym, subst, eq-eqb, nat_eq, nat_lt, IsTrue, IfSome, IsSomeAnd, arith}
use Rattle.std.proofs.lemmas.Bool.Decides.{nat_tests}
use Rattle.std.specs.Prelude.{Contains, filter, slice_index_or}
use Rattle.std.specs.List.{AllByRecursion, find, list_any}
use Rattle.std.specs.Option.{option_map, option_map_or}
use Rattle.page_ids.specs.Same.{same_page}
use Rattle.page_ids.specs.declared.frame_word.Word.{Word}
use Rattle.page_ids.specs.declared.ids.PageId.{PageId}
use Rattle.trail.specs.declared.event.Entry.{Entry}
use Rattle.trail.specs.declared.event.Kind.{Kind}
use Rattle.trail.specs.declared.event.Kind.TheVariants as kind
use Rattle.trail.specs.Trails.{AreNumbered, before, mark}
use Rattle.trail.specs.Kinds.{Placing, arrival_in}
use Rattle.trail.specs.History.{home, home_after, arrived, tenant}
use Rattle.trail.specs.Book.{is_in}
use Rattle.trail.specs.Words.{frames_told, AreFixedWords}
use Rattle.trail.specs.Calls.{before_call, first_made}
use Rattle.trail.specs.Legal.{is_skipped}
use Rattle.trail.specs.Victim.{before_of, ArePassed, AreJust}
use Rattle.page_ids.proofs.Basics.{one_page, same_self}

-- an option by cases, and a list by its elements
pub on_some : {A : Type 0} (o : Option A) (P : A → Type 0) → ((x : A) → o ≡ Some x → P x) → IfSome o P
on_some None P each = tt
on_some (Some x) P each = each x refl

pub is_some_and : {A : Type 0} (o : Option A) (P : A → Type 0) (x : A) → o ≡ Some x → P x → IsSomeAnd o P
is_some_and {A} o P x is holds = let Q : Option A → Type 0 = λ y. IsSomeAnd y P in subst Q (sym is) holds

contains_here : {X : Type 0} (x : X) (xs : List X) → Contains (x ∷ xs) x
contains_here x xs = (0, omega arith, refl)

contains_there : {X : Type 0} (y x : X) (xs : List X) → Contains xs x → Contains (y ∷ xs) x
contains_there y x xs here = let k = here.1 in (suc here.0, omega (arith, k), here.2)

pub by_elements : {X : Type 0} (P : X → Type 0) (xs : List X) → ((x : X) → Contains xs x → P x) → AllByRecursion P xs
by_elements P [] each = tt
by_elements P (x ∷ xs) each = (each x (contains_here x xs), by_elements P xs (λ y there. each y (contains_there x y xs there)))

or_right : (a b : Bool) → b ≡ true → (a || b) ≡ true
or_right true b t = refl
or_right false b t = t

any_at : {X : Type 0} (test : X → Bool) (xs : List X) (x : X) (k : ℕ) → k < length xs → slice_index_or xs k x ≡ x → test x ≡ true → list_any test xs ≡ true
any_at test [] x k below is t = absurd (omega (arith, below))
any_at test (y ∷ ys) x zero below is t = let here : test y ≡ true = ap test is ∙ t in ap (λ (b : Bool). b || list_any test ys) here
any_at test (y ∷ ys) x (suc k) below is t = or_right (test y) (list_any test ys) (any_at test ys x k (omega (arith, below)) is t)

pub any_of : {X : Type 0} (test : X → Bool) (xs : List X) (x : X) → Contains xs x → test x ≡ true → list_any test xs ≡ true
any_of test xs x here t = any_at test xs x here.0 here.1 here.2 t

-- a frame of the list is in it
pub in_of : (f : ℕ) (fs : List ℕ) → Contains fs f → IsTrue (is_in f fs)
in_of f fs here = any_of (λ g. nat_eq g f) fs f here (eq-eqb f f refl)

-- The history before a call is what its entries stand on.
abbrev AreFrom : ℕ → List Entry → Type 0
AreFrom n made = AllByRecursion (λ (e : Entry). n ≤ e.place) made

lt_false : (m n : ℕ) → n ≤ m → nat_lt m n ≡ false
lt_false m n le = grind (arith, nat_tests)

lt_true : (m n : ℕ) → m < n → nat_lt m n ≡ true
lt_true m n less = grind (arith, nat_tests)

drop_from : (n : ℕ) (made h : List Entry) → AreFrom n made → before n (made ++ h) ≡ before n h
drop_from n [] h from = refl
drop_from n (e ∷ made) h from = ap (λ (b : Bool). cond b (e ∷ made ++ h) (before n (made ++ h))) (lt_false e.place n from.0) ∙ drop_from n made h from.1

keep_all : (first n : ℕ) (h : List Entry) → mark first h < n → before n h ≡ h
keep_all first n [] less = refl
keep_all first n (e ∷ h) less = ap (λ (b : Bool). cond b (e ∷ h) (before n h)) (lt_true e.place n less)

marks_rise : (first : ℕ) (made h : List Entry) → AreNumbered first (made ++ h) → mark first h ≤ mark first (made ++ h)
marks_rise first [] h numbered = omega arith
marks_rise first (e ∷ made) h numbered = let less = marks_rise first made h numbered.1 in omega (arith, numbered.0, less)

all_from : (first : ℕ) (made h : List Entry) → AreNumbered first (made ++ h) → AreFrom (mark first h + 1) made
all_from first [] h numbered = tt
all_from first (e ∷ made) h numbered = let less = marks_rise first made h numbered.1 in (omega (arith, numbered.0, less), all_from first made h numbered.1)

oldest_made : (first : ℕ) (e : Entry) (made h : List Entry) → AreNumbered first (e ∷ made ++ h) → (d : Entry) × (first_made (e ∷ made) ≡ Some d) × (d.place ≡ mark first h + 1)
oldest_made first e [] h numbered = (e, refl, numbered.0)
oldest_made first e (d ∷ made) h numbered = oldest_made first d made h numbered.1

pub before_made : (first : ℕ) (made h : List Entry) → AreNumbered first (made ++ h) → before_call made (made ++ h) ≡ h
before_made first [] h numbered = refl
before_made first (e ∷ made) h numbered =
    let d = oldest_made first e made h numbered in
    ap (λ (o : Option Entry). option_map_or (λ (x : Entry). before x.place (e ∷ made ++ h)) o (e ∷ made ++ h)) d.1
    ∙ ap (λ n. before n (e ∷ made ++ h)) d.2
    ∙ drop_from (mark first h + 1) (e ∷ made) h (all_from first (e ∷ made) h numbered)
    ∙ keep_all first (mark first h + 1) h (omega arith)

-- the pages before one that stands at a place of its own
pub before_split : (p : PageId) (ahead behind : List PageId) → AllByRecursion (λ q. same_page q p ≡ false) ahead → before_of p (ahead ++ p ∷ behind) ≡ Some ahead
before_split p [] behind other = ap (λ (b : Bool). cond b (Some []) (option_map (λ more. p ∷ more) (before_of p behind))) (same_self p)
before_split p (q ∷ ahead) behind other =
    ap (λ (b : Bool). cond b (Some []) (option_map (λ more. q ∷ more) (before_of p (ahead ++ p ∷ behind)))) other.0
    ∙ ap (option_map (λ more. q ∷ more)) (before_split p ahead behind other.1)

-- words of just these pages
pub passed_of : (h : List Entry) (pages : List PageId) (passed : List (ℕ × Word))
    → ((q : PageId) → Contains pages q → (f : ℕ) × (home h q ≡ Some f) × Contains (frames_told passed) f)
    → ((f : ℕ) → Contains (frames_told passed) f → (q : PageId) × Contains pages q × (home h q ≡ Some f))
    → AreFixedWords h passed → ArePassed h pages passed
passed_of h pages passed each only fixed = record {
  each = by_elements _ pages (λ q here. let f = each q here in is_some_and (home h q) (λ g. IsTrue (is_in g (frames_told passed))) f.0 f.1 (in_of f.0 (frames_told passed) f.2));
  only = by_elements _ (frames_told passed) (λ f here.
      let q = only f here in
      any_of (λ r. option_map_or (λ g. nat_eq g f) (home h r) false) pages q.0 q.1
      (ap (λ (o : Option ℕ). option_map_or (λ g. nat_eq g f) o false) q.2 ∙ eq-eqb f f refl));
  fixed = fixed;
}

-- a list is just its own frames
pub just_itself : (fs told : List ℕ) → fs ≡ told → AreJust fs told
just_itself fs told same = let J : List ℕ → Type 0 = λ l. AreJust fs l in
    subst J same (record { each = by_elements _ fs (λ f here. in_of f fs here); count = refl })

-- the page at home in a frame came there
abbrev HasCome : PageId → List Entry → Type 0
HasCome p h = list_any (λ q. same_page q p) (arrived h) ≡ true

came_more : (p q : PageId) (f : ℕ) (h : List Entry) (g : ℕ) → (home h p ≡ Some f → HasCome p h) → cond (same_page q p) (Some g) (home h p) ≡ Some f
    → (same_page q p || list_any (λ r. same_page r p) (arrived h)) ≡ true
came_more p q f h g was is = cases (same_page q p) is
  where
    cases : (b : Bool) → cond b (Some g) (home h p) ≡ Some f → (b || list_any (λ r. same_page r p) (arrived h)) ≡ true
    cases true e = refl
    cases false e = was e

came_on : (p q : PageId) (f : ℕ) (h : List Entry) → (home h p ≡ Some f → HasCome p h) → cond (same_page q p) None (home h p) ≡ Some f → HasCome p h
came_on p q f h was is = cases (same_page q p) is
  where
    cases : (b : Bool) → cond b None (home h p) ≡ Some f → HasCome p h
    cases true e = let bad : None ≡ Some f = e in absurd (cc)
    cases false e = was e

came_after : (p : PageId) (f : ℕ) (h : List Entry) (k : Kind) → (home h p ≡ Some f → HasCome p h) → home_after k p (home h p) ≡ Some f
    → list_any (λ q. same_page q p) (option_map_or (λ (a : Placing). a.page ∷ arrived h) (arrival_in k) (arrived h)) ≡ true
came_after p f h (kind.Load q g) was is = came_more p q f h g was is
came_after p f h (kind.Fix q g clock now) was is = was is
came_after p f h (kind.Create q g start end now) was is = came_more p q f h g was is
came_after p f h (kind.Put q at bytes start end) was is = was is
came_after p f h (kind.Evict q g passed) was is = came_on p q f h was is
came_after p f h (kind.Write q lsn upto) was is = was is
came_after p f h (kind.Move q from to) was is = came_more p q f h to was is
came_after p f h (kind.Withdraw from) was is = was is
came_after p f h (kind.Undo from) was is = was is
came_after p f h (kind.Shrink chunks) was is = was is
came_after p f h (kind.Grow chunks) was is = was is
came_after p f h (kind.Resize bytes chunks) was is = was is
came_after p f h (kind.Clean written skipped) was is = was is
came_after p f h (kind.Check lsn) was is = was is
came_after p f h (kind.WatchSet q) was is = was is
came_after p f h (kind.WatchAt q g) was is = was is
came_after p f h (kind.Occurred q has) was is = was is
came_after p f h (kind.Unwatch q) was is = was is
came_after p f h (kind.Dump pct ids) was is = was is
came_after p f h (kind.Refused asked why) was is = was is

has_come : (p : PageId) (f : ℕ) (h : List Entry) → home h p ≡ Some f → HasCome p h
has_come p f [] is = let bad : None ≡ Some f = is in absurd (cc)
has_come p f (e ∷ h) is = came_after p f h e.kind (λ was. has_come p f h was) is

-- whether the page has the frame as its home
abbrev pub is_there : List Entry → ℕ → PageId → Bool
is_there h f p = option_map_or (λ g. nat_eq g f) (home h p) false

there_is : (h : List Entry) (f : ℕ) (p : PageId) → is_there h f p ≡ true → home h p ≡ Some f
there_is h f p t = cases (home h p) refl t
  where
    same : (g : ℕ) → nat_eq g f ≡ true → g ≡ f
    same g e = grind (arith, nat_tests)

    cases : (o : Option ℕ) → home h p ≡ o → option_map_or (λ g. nat_eq g f) o false ≡ true → home h p ≡ Some f
    cases None is e = absurd (cc)
    cases (Some g) is e = is ∙ ap Some (same g e)

find_one : (test : PageId → Bool) (p : PageId) (ps : List PageId) → test p ≡ true → ((q : PageId) → test q ≡ true → q ≡ p) → list_any (λ q. same_page q p) ps ≡ true → find test ps ≡ Some p
find_one test p [] t only come = absurd (cc)
find_one test p (q ∷ ps) t only come = cases (test q) refl (λ more. find_one test p ps t only more)
  where
    other : (b : Bool) → same_page q p ≡ b → test q ≡ false → (b || list_any (λ r. same_page r p) ps) ≡ true → list_any (λ r. same_page r p) ps ≡ true
    other true is fails any = let same : true ≡ false = sym t ∙ ap test (sym (one_page q p is)) ∙ fails in absurd (cc)
    other false is fails any = any

    cases : (b : Bool) → test q ≡ b → (list_any (λ r. same_page r p) ps ≡ true → find test ps ≡ Some p) → cond (test q) (Some q) (find test ps) ≡ Some p
    cases true is next = ap (λ (b : Bool). cond b (Some q) (find test ps)) is ∙ ap Some (only q is)
    cases false is next = ap (λ (b : Bool). cond b (Some q) (find test ps)) is ∙ next (other (same_page q p) refl is come)

find_no : (test : PageId → Bool) (ps : List PageId) → ((q : PageId) → test q ≡ false) → find test ps ≡ None
find_no test [] none = refl
find_no test (q ∷ ps) none = ap (λ (b : Bool). cond b (Some q) (find test ps)) (none q) ∙ find_no test ps none

-- the one page that has the frame as its home is its tenant
pub tenant_is : (h : List Entry) (f : ℕ) (p : PageId) → home h p ≡ Some f → ((q : PageId) → home h q ≡ Some f → q ≡ p) → tenant h f ≡ Some p
tenant_is h f p is alone = find_one (is_there h f) p (arrived h) (ap (λ (o : Option ℕ). option_map_or (λ g. nat_eq g f) o false) is ∙ eq-eqb f f refl) (λ q t. alone q (there_is h f q t)) (has_come p f h is)

-- a frame that is no page's home has none
pub tenant_none : (h : List Entry) (f : ℕ) → ((q : PageId) → home h q ≡ Some f → ⊥) → tenant h f ≡ None
tenant_none h f none = find_no (is_there h f) (arrived h) (λ q. cases q (is_there h f q) refl)
  where
    cases : (q : PageId) (b : Bool) → is_there h f q ≡ b → is_there h f q ≡ false
    cases q true t = absurd (none q (there_is h f q t))
    cases q false t = t

-- where no frame was skipped, no page was
pub none_skipped : (h : List Entry) (p : PageId) → is_skipped h [] p ≡ false
none_skipped h p = cases (home h p)
  where
    cases : (o : Option ℕ) → option_map_or (λ f. is_in f (frames_told [])) o false ≡ false
    cases None = refl
    cases (Some f) = refl

pub all_came : (h : List Entry) (ps : List PageId) → filter (λ p. not (is_skipped h [] p)) ps ≡ ps
all_came h [] = refl
all_came h (p ∷ ps) = ap (λ (b : Bool). cond (not b) (p ∷ filter (λ q. not (is_skipped h [] q)) ps) (filter (λ q. not (is_skipped h [] q)) ps)) (none_skipped h p) ∙ ap (λ l. p ∷ l) (all_came h ps)

pub none_passed : (h : List Entry) (ps : List PageId) → filter (is_skipped h []) ps ≡ []
none_passed h [] = refl
none_passed h (p ∷ ps) = ap (λ (b : Bool). cond b (p ∷ filter (is_skipped h []) ps) (filter (is_skipped h []) ps)) (none_skipped h p) ∙ none_passed h ps
