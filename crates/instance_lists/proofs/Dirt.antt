-- The list of dirty pages as a history grows.
use Rattle.std.proofs.Common.{◌≡◌, ◌≤◌, ◌+◌, ℕ, Bool, true, false, not, List, [], ◌∷◌, Option, None, Some, IsSomeAnd, length, refl, ap, ◌∙◌, sym, subst, arith, eq-eqb, nat_eq, ◌&&◌, ◌||◌, if◌then◌else◌}
use Rattle.std.specs.Prelude.{is_some, ⊤}
use Rattle.std.proofs.lemmas.Bool.Decides.{nat_tests}
use Rattle.page_ids.specs.Same.{same_page}
use Rattle.page_ids.specs.declared.ids.PageId.{PageId}
use Rattle.trail.specs.declared.event.Dirty.{Dirty}
use Rattle.trail.specs.declared.event.Entry.{Entry}
use Rattle.trail.specs.declared.event.Kind.{Kind}
use Rattle.trail.specs.declared.event.Kind.TheVariants as kind
use Rattle.trail.specs.Dirt.{dirtied, cleaned, dirty_after, dirty, dirt_of}

pub no_way : true ≡ false → ⊥
no_way e = cc

pub same_self : (p : PageId) → same_page p p ≡ true
same_self p = ap (λ (b : Bool). b && nat_eq p.page p.page) (eq-eqb p.space p.space refl) ∙ eq-eqb p.page p.page refl

pub same_is : (q p : PageId) → same_page q p ≡ true → q ≡ p
same_is q p is =
    let s : q.space ≡ p.space = grind (arith, nat_tests) in
    let n : q.page ≡ p.page = grind (arith, nat_tests) in
    rw (s, n) refl

pub other_way : (p q : PageId) → same_page p q ≡ false → same_page q p ≡ false
other_way p q other = grind (arith, nat_tests)

pub same_turned : (p q : PageId) → same_page p q ≡ same_page q p
same_turned p q = cases (same_page p q) refl
  where
    cases : (b : Bool) → same_page p q ≡ b → same_page p q ≡ same_page q p
    cases true t = t ∙ sym (ap (λ (r : PageId). same_page r p) (sym (same_is p q t)) ∙ same_self p)
    cases false t = t ∙ sym (other_way p q t)

-- what holds of the list before, and after a change and after a write, holds after each entry
pub dirt_cases : (P : List Dirty → Type 0) (k : Kind) (ds : List Dirty) → P ds → ((q : PageId) (start end : ℕ) → P (dirtied q start end ds)) → ((q : PageId) → P (cleaned q ds)) → P (dirty_after k ds)
dirt_cases P (kind.Load q f) ds was put written = was
dirt_cases P (kind.Fix q f clock now) ds was put written = was
dirt_cases P (kind.Create q f start end now) ds was put written = put q start end
dirt_cases P (kind.Put q at bytes start end) ds was put written = put q start end
dirt_cases P (kind.Evict q f passed) ds was put written = was
dirt_cases P (kind.Write q lsn upto) ds was put written = written q
dirt_cases P (kind.Move q from to) ds was put written = was
dirt_cases P (kind.Withdraw from) ds was put written = was
dirt_cases P (kind.Undo from) ds was put written = was
dirt_cases P (kind.Shrink chunks) ds was put written = was
dirt_cases P (kind.Grow chunks) ds was put written = was
dirt_cases P (kind.Resize bytes chunks) ds was put written = was
dirt_cases P (kind.Clean pages skipped) ds was put written = was
dirt_cases P (kind.Check lsn) ds was put written = was
dirt_cases P (kind.WatchSet q) ds was put written = was
dirt_cases P (kind.WatchAt q f) ds was put written = was
dirt_cases P (kind.Occurred q arrived) ds was put written = was
dirt_cases P (kind.Unwatch q) ds was put written = was
dirt_cases P (kind.Dump pct ids) ds was put written = was
dirt_cases P (kind.Refused asked why) ds was put written = was

-- what holds of no dirty pages, and goes on over changes and writes, holds of each history's
pub dirt_always : (P : List Dirty → Type 0) → P [] → ((ds : List Dirty) (q : PageId) (start end : ℕ) → P ds → P (dirtied q start end ds)) → ((ds : List Dirty) (q : PageId) → P ds → P (cleaned q ds)) → (h : List Entry) → P (dirty h)
dirt_always P none put written [] = none
dirt_always P none put written (e ∷ h) =
    let was : P (dirty h) = dirt_always P none put written h in
    dirt_cases P e.kind (dirty h) was (λ q start end. put (dirty h) q start end was) (λ q. written (dirty h) q was)

-- a page that was changed is dirty, and is last changed at the change's end; every other one is as it was
pub dirtied_here : (ds : List Dirty) (q : PageId) (start end : ℕ) → IsSomeAnd (dirt_of (dirtied q start end ds) q) (λ d. (d.page ≡ q) × (d.newest ≡ end))
dirtied_here [] q start end = rw (same_self q) (refl, refl)
dirtied_here (d ∷ ds) q start end = cases (same_page d.page q) refl (dirtied_here ds q start end)
  where
    cases : (b : Bool) → same_page d.page q ≡ b → IsSomeAnd (dirt_of (dirtied q start end ds) q) (λ d. (d.page ≡ q) × (d.newest ≡ end))
        → IsSomeAnd (dirt_of (if b then record d { newest = end } ∷ ds else d ∷ dirtied q start end ds) q) (λ d. (d.page ≡ q) × (d.newest ≡ end))
    cases true t next = rw t (same_is d.page q t, refl)
    cases false t next = rw t next

pub dirtied_other : (ds : List Dirty) (q p : PageId) (start end : ℕ) → same_page q p ≡ false → dirt_of (dirtied q start end ds) p ≡ dirt_of ds p
dirtied_other [] q p start end other = rw other refl
dirtied_other (d ∷ ds) q p start end other = cases (same_page d.page q) refl (dirtied_other ds q p start end other)
  where
    cases : (b : Bool) → same_page d.page q ≡ b → dirt_of (dirtied q start end ds) p ≡ dirt_of ds p
        → dirt_of (if b then record d { newest = end } ∷ ds else d ∷ dirtied q start end ds) p ≡ dirt_of (d ∷ ds) p
    cases true t next =
        let apart : same_page d.page p ≡ false = subst (λ (r : PageId). same_page r p ≡ false) (sym (same_is d.page q t)) other in
        rw apart refl
    cases false t next = ap (λ (o : Option Dirty). if same_page d.page p then Some d else o) next

is_there : (o : Option Dirty) (P : Dirty → Type 0) → IsSomeAnd o P → is_some o ≡ true
is_there None P is = absurd is
is_there (Some d) P is = refl

pub dirtied_is : (ds : List Dirty) (q p : PageId) (start end : ℕ) → is_some (dirt_of (dirtied q start end ds) p) ≡ (same_page q p || is_some (dirt_of ds p))
dirtied_is ds q p start end = cases (same_page q p) refl
  where
    cases : (b : Bool) → same_page q p ≡ b → is_some (dirt_of (dirtied q start end ds) p) ≡ (b || is_some (dirt_of ds p))
    cases true t = subst (λ (r : PageId). is_some (dirt_of (dirtied q start end ds) r) ≡ true) (same_is q p t) (is_there (dirt_of (dirtied q start end ds) q) (λ d. (d.page ≡ q) × (d.newest ≡ end)) (dirtied_here ds q start end))
    cases false t = ap (is_some {T = Dirty}) (dirtied_other ds q p start end t)

-- a page that was written is clean; every other one is as it was
pub cleaned_of : (ds : List Dirty) (q p : PageId) → dirt_of (cleaned q ds) p ≡ (if same_page q p then None else dirt_of ds p)
cleaned_of [] q p = cases (same_page q p)
  where
    cases : (b : Bool) → dirt_of [] p ≡ (if b then None else dirt_of [] p)
    cases true = refl
    cases false = refl
cleaned_of (d ∷ ds) q p = cases (same_page d.page q) refl (same_page q p) refl (cleaned_of ds q p)
  where
    cases : (b : Bool) → same_page d.page q ≡ b → (a : Bool) → same_page q p ≡ a → dirt_of (cleaned q ds) p ≡ (if same_page q p then None else dirt_of ds p)
        → dirt_of (if not b then d ∷ cleaned q ds else cleaned q ds) p ≡ (if a then None else (if same_page d.page p then Some d else dirt_of ds p))
    cases true t true s next = rw s at next
    cases true t false s next =
        let apart : same_page d.page p ≡ false = subst (λ (r : PageId). same_page r p ≡ false) (sym (same_is d.page q t)) s in
        rw apart (rw s at next)
    cases false t true s next =
        let apart : same_page d.page p ≡ false = subst (λ (r : PageId). same_page d.page r ≡ false) (same_is q p s) t in
        rw apart (rw s at next)
    cases false t false s next = ap (λ (o : Option Dirty). if same_page d.page p then Some d else o) (rw s at next)

-- no page stands twice
abbrev pub AreApart : List Dirty → Type 0
AreApart [] = ⊤
AreApart (d ∷ ds) = (dirt_of ds d.page ≡ None) × AreApart ds

pub apart_dirtied : (ds : List Dirty) (q : PageId) (start end : ℕ) → AreApart ds → AreApart (dirtied q start end ds)
apart_dirtied [] q start end apart = (refl, tt)
apart_dirtied (d ∷ ds) q start end apart = cases (same_page d.page q) refl (apart_dirtied ds q start end apart.1)
  where
    cases : (b : Bool) → same_page d.page q ≡ b → AreApart (dirtied q start end ds) → AreApart (if b then record d { newest = end } ∷ ds else d ∷ dirtied q start end ds)
    cases true t next = apart
    cases false t next = (dirtied_other ds q d.page start end (other_way d.page q t) ∙ apart.0, next)

pub apart_cleaned : (ds : List Dirty) (q : PageId) → AreApart ds → AreApart (cleaned q ds)
apart_cleaned [] q apart = tt
apart_cleaned (d ∷ ds) q apart = cases (same_page d.page q) (apart_cleaned ds q apart.1)
  where
    none : (o : Option Dirty) → o ≡ None → (b : Bool) → (if b then None else o) ≡ None
    none o is true = refl
    none o is false = is

    cases : (b : Bool) → AreApart (cleaned q ds) → AreApart (if not b then d ∷ cleaned q ds else cleaned q ds)
    cases true next = next
    cases false next = (cleaned_of ds q d.page ∙ none (dirt_of ds d.page) apart.0 (same_page q d.page), next)

pub dirty_apart : (h : List Entry) → AreApart (dirty h)
dirty_apart h = dirt_always AreApart tt apart_dirtied apart_cleaned h

-- a page that is not dirty has nothing to clean
pub cleaned_absent : (ds : List Dirty) (p : PageId) → dirt_of ds p ≡ None → cleaned p ds ≡ ds
cleaned_absent [] p absent = refl
cleaned_absent (d ∷ ds) p absent = cases (same_page d.page p) absent (cleaned_absent ds p)
  where
    cases : (b : Bool) → (if b then Some d else dirt_of ds p) ≡ None → (dirt_of ds p ≡ None → cleaned p ds ≡ ds) → (if not b then d ∷ cleaned p ds else cleaned p ds) ≡ d ∷ ds
    cases true is next = absurd (cc)
    cases false is next = ap (λ (l : List Dirty). d ∷ l) (next is)

-- the first one leaves by its write, and no other
pub cleaned_front : (d : Dirty) (rest : List Dirty) → AreApart (d ∷ rest) → cleaned d.page (d ∷ rest) ≡ rest
cleaned_front d rest apart = rw (same_self d.page) (cleaned_absent rest d.page apart.0)

pub length-dirtied : (ds : List Dirty) (q : PageId) (start end : ℕ) → length (dirtied q start end ds) ≤ length ds + 1
length-dirtied [] q start end = omega arith
length-dirtied (d ∷ ds) q start end = cases (same_page d.page q) (length-dirtied ds q start end)
  where
    cases : (b : Bool) → length (dirtied q start end ds) ≤ length ds + 1 → length (if b then record d { newest = end } ∷ ds else d ∷ dirtied q start end ds) ≤ length (d ∷ ds) + 1
    cases true next = omega arith
    cases false next = omega (arith, next)

pub length-cleaned : (ds : List Dirty) (q : PageId) → length (cleaned q ds) ≤ length ds
length-cleaned [] q = omega arith
length-cleaned (d ∷ ds) q = cases (same_page d.page q) (length-cleaned ds q)
  where
    cases : (b : Bool) → length (cleaned q ds) ≤ length ds → length (if not b then d ∷ cleaned q ds else cleaned q ds) ≤ length (d ∷ ds)
    cases true next = omega (arith, next)
    cases false next = omega (arith, next)

-- no more pages are dirty than there are entries
pub length-dirty : (h : List Entry) → length (dirty h) ≤ length h
length-dirty [] = omega arith
length-dirty (e ∷ h) =
    let was = length-dirty h in
    dirt_cases (λ ds. length ds ≤ length (e ∷ h)) e.kind (dirty h) (omega (arith, was)) (λ q start end. omega (arith, was, length-dirtied (dirty h) q start end)) (λ q. omega (arith, was, length-cleaned (dirty h) q))
