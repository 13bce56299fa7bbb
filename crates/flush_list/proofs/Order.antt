-- The list stays in order.
use Rattle.std.proofs.Common.{◌≡◌, ◌≢◌, ◌∙◌, ◌<◌, ◌≤◌, ◌==◌, ℕ, suc, zero, not, List, [], ◌∷◌, inl, inr, length, get_or, Some, None, refl, sym, ap, subst, arith}
use Rattle.std.specs.Prelude.{map, All, AllPairs}
use Rattle.std.proofs.lemmas.Bool.{cases_lt}
use Rattle.std.proofs.lemmas.List.{length-map, get_or-map, get_or_default}
use Rattle.std.proofs.lemmas.List.Elements.{All-cons}
use Rattle.std.proofs.lemmas.List.Kept.{AllPairs-cons, AllPairs-filter}
use Rattle.link_lists.specs.Grid.{times}
use Rattle.link_lists.proofs.Times.{times-cons, times_at}
use Rattle.flush_list.specs.View.{Node, IsNewest, without, moved, relocated, tail_of}
use Rattle.flush_list.specs.Inside.{node_of}
use Rattle.flush_list.proofs.Places.{moved_oldest, last_at}

-- frames that are listed once stand apart, and those below a room are so as nodes
away_all : (os : List ℕ) (f : ℕ) (xs : List ℕ) → times f xs ≡ 0 → All (λ x. f ≢ x.frame) (map (node_of os) xs)
away_all os f [] none = λ k d l. absurd (omega arith)
away_all os f (x ∷ xs) none =
    All-cons (λ y. f ≢ y.frame) (node_of os x) (map (node_of os) xs) (λ e. absurd (omega (arith, none, times_at x xs, ap (λ i. times i (x ∷ xs)) e)))
    (away_all os f xs (omega (arith, none, times-cons f x xs)))

pub apart_all : (os xs : List ℕ) → ((x : ℕ) → times x xs ≤ 1) → AllPairs (λ x y. x.frame ≢ y.frame) (map (node_of os) xs)
apart_all os [] once = λ i j d less l. absurd (omega arith)
apart_all os (x ∷ xs) once =
    AllPairs-cons (λ x y. x.frame ≢ y.frame) (node_of os x) (map (node_of os) xs) (away_all os x xs (omega (arith, once x, times_at x xs)))
    (apart_all os xs (λ y. omega (arith, once y, times-cons y x xs)))

pub below_all : (os : List ℕ) (room : ℕ) (xs : List ℕ) → ((f : ℕ) → 1 ≤ times f xs → f < room) → All (λ x. x.frame < room) (map (node_of os) xs)
below_all os room [] below = λ k d l. absurd (omega arith)
below_all os room (x ∷ xs) below =
    All-cons (λ y. y.frame < room) (node_of os x) (map (node_of os) xs) (below x (omega (arith, times_at x xs)))
    (below_all os room xs (λ f there. below f (omega (arith, there, times-cons f x xs))))

abbrev IsFalling : List Node → Type 0
IsFalling xs = AllPairs (λ x y. y.oldest ≤ x.oldest) xs

newest_of_all : (oldest : ℕ) (xs : List Node) → AllPairs (λ x y. y.oldest ≤ x.oldest) xs → IsNewest oldest xs → All (λ x. x.oldest ≤ oldest) xs
newest_of_all oldest [] falling newest = λ k d l. absurd (omega arith)
newest_of_all oldest (x ∷ xs) falling newest = λ k d l. at k d l
  where
    at : (k : ℕ) (d : Node) → k < length (x ∷ xs) → (get_or (x ∷ xs) k d).oldest ≤ oldest
    at zero d l = newest
    at (suc k) d l = omega (arith, newest, falling 0 (suc k) d (omega arith) l)

pub falling-add : (frame oldest : ℕ) (xs : List Node) → IsFalling xs → IsNewest oldest xs → IsFalling (record { frame = frame; oldest = oldest } ∷ xs)
falling-add frame oldest xs falling newest =
    AllPairs-cons (λ x y. y.oldest ≤ x.oldest) (record { frame = frame; oldest = oldest }) xs (newest_of_all oldest xs falling newest) falling

pub falling-remove : (frame : ℕ) (xs : List Node) → IsFalling xs → IsFalling (without frame xs)
falling-remove frame xs falling = AllPairs-filter (λ x y. y.oldest ≤ x.oldest) (λ (x : Node). not (x.frame == frame)) xs falling

pub falling-relocate : (old new : ℕ) (xs : List Node) → IsFalling xs → IsFalling (relocated old new xs)
falling-relocate old new xs falling = λ i j d less l.
    let second : j < length xs = omega (arith, l, length-map xs (moved old new)) in
    let first : i < length xs = omega (arith, less, second) in
    let one = ap (λ (z : Node). z.oldest) (get_or-map (moved old new) xs i d d first) ∙ moved_oldest old new (get_or xs i d) in
    let two = ap (λ (z : Node). z.oldest) (get_or-map (moved old new) xs j d d second) ∙ moved_oldest old new (get_or xs j d) in
    omega (arith, one, two, falling i j d less second)

-- no oldest LSN is below the last node's
least_at : (xs : List Node) (i : ℕ) (d : Node) → AllPairs (λ x y. y.oldest ≤ x.oldest) xs → length xs ≡ suc i → All (λ x. (get_or xs i d).oldest ≤ x.oldest) xs
least_at xs i d falling len = λ k e l.
    let same : get_or xs i d ≡ get_or xs i e = get_or_default xs i d e (omega (arith, len)) in
    elim (cases_lt k i) [
      | inl less ↦ omega (arith, ap (λ (z : Node). z.oldest) same, falling k i e less (omega (arith, len)))
      | inr past ↦
          let at : k ≡ i = omega (arith, past, l, len) in
          omega (arith, ap (λ (z : Node). z.oldest) same, ap (λ j. (get_or xs j e).oldest) at)
    ]

pub tail_least : (xs : List Node) (y : Node) → AllPairs (λ x y. y.oldest ≤ x.oldest) xs → tail_of xs ≡ Some y → All (λ x. y.oldest ≤ x.oldest) xs
tail_least [] y falling e = λ k d l. absurd (omega arith)
tail_least (x ∷ xs) y falling e =
    let same : Some y ≡ Some (get_or (x ∷ xs) (length xs) y) = sym e ∙ last_at None (x ∷ xs) (length xs) y refl in
    let is : y ≡ get_or (x ∷ xs) (length xs) y = cc in
    subst (λ (z : Node). All (λ x. z.oldest ≤ x.oldest) (x ∷ xs)) (sym is) (least_at (x ∷ xs) (length xs) y falling refl)
