-- Words stay true wherever a caller is alone, where views keep the numbers of who changed a frame's word.
use Rattle.std.proofs.Common.{◌≡◌, ◌≢◌, ◌⊎◌, ℕ, true, List, [], ◌∷◌, ◌++◌, Option, set, sym, ap, ◌∙◌, subst}
use Rattle.std.specs.List.{AllByRecursion}
use mathlib.Core.Option.{some, some-injective}
use mathlib.Core.Logic.{dite}
use native.Mathlib.Decide.{ℕ_discrete}
use lib.ListN.{get_elem?}
use Rattle.atomic_table.proofs.Lists.{at_longer, set_else}
use Rattle.trail.specs.declared.event.Entry.{Entry}
use Rattle.trail.specs.declared.event.Event.{Event}
use Rattle.trail.specs.Trails.{caller_of}
use Rattle.trail.specs.Alone.{is_of_flush}
use Rattle.trail_laws.specs.Accounts.{seen_by, with_event}
use Rattle.trail_laws.specs.SoFar.{AreAlone, AreTrueBy, IsTrueBy, is_of_clean}
use Rattle.trail_laws.proofs.Places.{with_each}
use Rattle.pool_table.specs.declared.view.View.{View}
use Rattle.pool_table.specs.Kept.{AreNumbersOf, AreTrueSoFar}
use Rattle.pool_table.proofs.Lists.{set_at}
use Rattle.pool_table.proofs.Events.{tail_all}

all_first : {A : Type 0} (P : A → Type 0) (xs ys : List A) → AllByRecursion P (xs ++ ys) → AllByRecursion P xs
all_first P [] ys all = tt
all_first P (x ∷ xs) ys all = (all.0, all_first P xs ys all.1)

all_second : {A : Type 0} (P : A → Type 0) (xs ys : List A) → AllByRecursion P (xs ++ ys) → AllByRecursion P ys
all_second P [] ys all = all
all_second P (x ∷ xs) ys all = all_second P xs ys all.1

-- the numbers that a view has in another list of views
of_view : (c : ℕ) (views : List View) (j : ℕ) (w u : View) → AreNumbersOf c views → get_elem? views j ≡ some w → w.numbers ≡ u.numbers → AllByRecursion (λ (n : ℕ). n ≡ c) u.numbers
of_view c views j w u all there same = subst (AllByRecursion (λ (n : ℕ). n ≡ c)) same (all j w there)

-- one view became another with the same numbers
pub numbers_set : (c : ℕ) (views : List View) (id : ℕ) (v w : View) → get_elem? views id ≡ some v → w.numbers ≡ v.numbers → AreNumbersOf c (set views id w) → AreNumbersOf c views
numbers_set c views id v w at same all j u there = dite (ℕ_discrete j id)
    (λ e. let here : v ≡ u = some-injective v u (sym at ∙ (ap (get_elem? views) (sym e) ∙ there)) in
    of_view c (set views id w) id w u all (set_at views id v w at) (same ∙ ap (λ (x : View). x.numbers) here))
    (λ n. all j u (set_else views id j w n ∙ there))

-- a view is new
pub numbers_new : (c : ℕ) (views : List View) (w : View) → AreNumbersOf c (views ++ w ∷ []) → AreNumbersOf c views
numbers_new c views w all j u there = all j u (at_longer views (w ∷ []) j u there)

-- one view has the numbers of two, and the other none
pub numbers_joined : (c : ℕ) (views : List View) (id other : ℕ) (v w both none : View) → get_elem? views id ≡ some v → get_elem? views other ≡ some w → id ≢ other → both.numbers ≡ v.numbers ++ w.numbers
    → AreNumbersOf c (set (set views id both) other none) → AreNumbersOf c views
numbers_joined c views id other v w both none at there apart same all j u is =
    let at_id : get_elem? (set (set views id both) other none) id ≡ some both = set_else (set views id both) other id none apart ∙ set_at views id v both at in
    let P : ℕ → Type 0 = λ n. n ≡ c in
    let two : AllByRecursion P (v.numbers ++ w.numbers) = subst (AllByRecursion P) same (all id both at_id) in dite (ℕ_discrete j id)
    (λ e. let here : v ≡ u = some-injective v u (sym at ∙ (ap (get_elem? views) (sym e) ∙ is)) in subst (λ (x : View). AllByRecursion P x.numbers) here (all_first P v.numbers w.numbers two))
    (λ n. dite (ℕ_discrete j other)
    (λ e. let here : w ≡ u = some-injective w u (sym there ∙ (ap (get_elem? views) (sym e) ∙ is)) in subst (λ (x : View). AllByRecursion P x.numbers) here (all_second P v.numbers w.numbers two))
    (λ m. all j u (set_else (set views id both) other j none m ∙ (set_else views id j both n ∙ is))))

-- Where the views before have no other numbers the words stay true.
pub words_of : (h : List Entry) (accounts : ℕ → List Event) (was now : List View) → ((c : ℕ) → AreNumbersOf c now → AreNumbersOf c was) → AreTrueSoFar h accounts was → AreTrueSoFar h accounts now
words_of h accounts was now back words c flush alone numbers = words c flush alone (back c numbers)

pub words_set : (h : List Entry) (accounts : ℕ → List Event) (views : List View) (id : ℕ) (v w : View) → get_elem? views id ≡ some v → w.numbers ≡ v.numbers → AreTrueSoFar h accounts views → AreTrueSoFar h accounts (set views id w)
words_set h accounts views id v w at same words = words_of h accounts views (set views id w) (λ c. numbers_set c views id v w at same) words

-- Words stay true behind an event that tells true ones.
pub words_added : (h h' : List Entry) (accounts : ℕ → List Event) (views : List View) (x : Event) → ((c d : ℕ) → AreTrueBy c h (accounts d) → AreTrueBy c h' (accounts d))
    → ((c : ℕ) (flush : Option ℕ) → AreAlone c flush (with_event x accounts) → AreNumbersOf c views → IsTrueBy c (seen_by x h') (accounts (caller_of x)) x) → AreTrueSoFar h accounts views → AreTrueSoFar h' (with_event x accounts) views
words_added h h' accounts views x stay tell words c flush alone numbers =
    let P : Event → Type 0 = λ e. ((is_of_flush flush e ≡ true) × (is_of_clean e ≡ true)) ⊎ (caller_of e ≡ c) in
    let was : (d : ℕ) → AreTrueBy c h (accounts d) = words c flush (λ d. tail_all P x accounts d (alone d)) numbers in
    with_each (λ d mine. AreTrueBy c h' mine) x accounts (tell c flush alone numbers, stay c (caller_of x) (was (caller_of x))) (λ d other. stay c d (was d))
