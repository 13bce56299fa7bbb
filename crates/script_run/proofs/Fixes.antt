-- Lists of open fixes: the newest of a page, and a fix that is given back.
use Rattle.std.proofs.Common.{◌≡◌, ℕ, zero, suc, Bool, true, false, cond, List, [], ◌∷◌, ◌++◌, ◌+◌, ◌<◌, ◌≤◌, ◌&&◌, Some, length, slice_get, refl, ap, ◌∙◌, sym, subst, eq-eqb, nat_eq, take, drop, reverse, append_assoc, get_or, arith}
use Rattle.std.proofs.lemmas.Bool.Decides.{nat_tests}
use Rattle.std.proofs.lemmas.List.{take_more, reverse-append}
use Rattle.std.specs.Prelude.{Contains}
use Rattle.page_ids.specs.Same.{same_page}
use Rattle.page_ids.specs.declared.ids.PageId.{PageId}
use Rattle.trail.specs.declared.event.Held.{Held}
use Rattle.trail.specs.declared.event.Note.{Note}
use Rattle.trail.specs.declared.event.Note.TheVariants as note
use Rattle.trail.specs.Calls.{held_after_note, given_back, newest_fix}
use Rattle.script_run.specs.Work.{FixesFall}

pub reverse-push : {A : Type 0} → (xs : List A) (x : A) → reverse (xs ++ x ∷ []) ≡ x ∷ reverse xs
reverse-push xs x = reverse-append xs (x ∷ [])

pub same_self : (p : PageId) → same_page p p ≡ true
same_self p = ap (λ (b : Bool). b && nat_eq p.page p.page) (eq-eqb p.space p.space refl) ∙ eq-eqb p.page p.page refl

both : (a b : Bool) → (a && b) ≡ true → (a ≡ true) × (b ≡ true)
both true b h = (refl, h)
both false b h = absurd (cc)

pub number_is : (m n : ℕ) → nat_eq m n ≡ true → m ≡ n
number_is m n h = grind (arith, nat_tests)

pub one_page : (p q : PageId) → same_page p q ≡ true → p ≡ q
one_page p q h =
    let tests = both (nat_eq p.space q.space) (nat_eq p.page q.page) h in
    let make = λ (s n : ℕ). let id : PageId = record { space = s; page = n } in id in
    ap (λ s. make s p.page) (number_is p.space q.space tests.0) ∙ ap (λ n. make q.space n) (number_is p.page q.page tests.1)

-- with a later bound
pub falling_up : (n m : ℕ) (held : List Held) → n ≤ m → FixesFall n held → FixesFall m held
falling_up n m [] le f = tt
falling_up n m (h ∷ held) le f = (omega (arith, f.0), f.1)

falling_test : (b : Bool) (n : ℕ) (h : Held) (held more : List Held) → h.number < n → FixesFall h.number held → FixesFall h.number more → FixesFall n (cond b held (h ∷ more))
falling_test true n h held more lt f g = falling_up h.number n held (omega arith) f
falling_test false n h held more lt f g = (lt, g)

falling_back : (n x : ℕ) (held : List Held) → FixesFall n held → FixesFall n (given_back x held)
falling_back n x [] falls = tt
falling_back n x (h ∷ held) falls = falling_test (nat_eq h.number x) n h held (given_back x held) falls.0 falls.1 (falling_back h.number x held falls.1)

pub falling_note : (n : ℕ) (k : Note) (held : List Held) → FixesFall n held → FixesFall (n + 1) (held_after_note n k held)
falling_note n (note.Granted p f clock) held falls = (omega arith, falls)
falling_note n (note.Copied p at bytes clock) held falls = falling_up n (n + 1) held (omega arith) falls
falling_note n (note.Unfixed p f fix) held falls = falling_up n (n + 1) (given_back fix held) (omega arith) (falling_back n fix held falls)
falling_note n (note.Refused c why) held falls = falling_up n (n + 1) held (omega arith) falls

-- looking for the newest fix of a page from the end
pub newest_step : (items : List Held) (i : ℕ) (h : Held) (p : PageId) → i < length items → h ≡ get_or items i h → newest_fix (reverse (take (i + 1) items)) p ≡ cond (same_page h.page p) (Some h) (newest_fix (reverse (take i items)) p)
newest_step items i h p inside here =
    ap (λ xs. newest_fix (reverse xs) p) (take_more items i h inside) ∙ ap (λ xs. newest_fix xs p) (reverse-push (take i items) (get_or items i h))
    ∙ ap (λ (x : Held). cond (same_page x.page p) (Some x) (newest_fix (reverse (take i items)) p)) (sym here)

-- the fix that was given back is the one at its place
given_front : (xs : List Held) (h : Held) (ys : List Held) (n : ℕ) → FixesFall n (xs ++ h ∷ ys) → given_back h.number (xs ++ h ∷ ys) ≡ xs ++ ys
given_front [] h ys n falls = ap (λ (b : Bool). cond b ys (h ∷ given_back h.number ys)) (eq-eqb h.number h.number refl)
given_front (x ∷ xs) h ys n falls =
    ap (λ (b : Bool). cond b (xs ++ h ∷ ys) (x ∷ given_back h.number (xs ++ h ∷ ys))) (other_number x.number h.number (above xs h ys x.number falls.1)) ∙ ap (λ t. x ∷ t) (given_front xs h ys x.number falls.1)
  where
    above : (zs : List Held) (g : Held) (us : List Held) (m : ℕ) → FixesFall m (zs ++ g ∷ us) → g.number < m
    above [] g us m f = f.0
    above (z ∷ zs) g us m f = let deep = above zs g us z.number f.1 in omega (arith, f.0, deep)

    other_number : (m k : ℕ) → k < m → nat_eq m k ≡ false
    other_number m k lt = grind (arith, nat_tests)

pub split_at : (items : List Held) (i : ℕ) (h : Held) → slice_get items i ≡ Some h → items ≡ take i items ++ h ∷ drop (suc i) items
split_at [] i h e = absurd (cc)
split_at (x ∷ items) zero h e = let same : x ≡ h = cc in ap (λ (y : Held). y ∷ items) same
split_at (x ∷ items) (suc i) h e = ap (λ t. x ∷ t) (split_at items i h e)

pub reverse_around : (xs : List Held) (h : Held) (ys : List Held) → reverse (xs ++ h ∷ ys) ≡ reverse ys ++ h ∷ reverse xs
reverse_around xs h ys = reverse-append xs (h ∷ ys) ∙ ap (λ t. t ++ reverse xs) (reverse-append (h ∷ []) ys) ∙ append_assoc (reverse ys) (h ∷ []) (reverse xs)

pub given_remove : (items : List Held) (i : ℕ) (h : Held) (n : ℕ) → slice_get items i ≡ Some h → FixesFall n (reverse items) → given_back h.number (reverse items) ≡ reverse (take i items ++ drop (suc i) items)
given_remove items i h n here falls =
    let parts : reverse items ≡ reverse (drop (suc i) items) ++ h ∷ reverse (take i items) = ap reverse (split_at items i h here) ∙ reverse_around (take i items) h (drop (suc i) items) in
    let F : List Held → Type 0 = λ held. FixesFall n held in
    ap (given_back h.number) parts ∙ given_front (reverse (drop (suc i) items)) h (reverse (take i items)) n (subst F parts falls) ∙ sym (reverse-append (take i items) (drop (suc i) items))

newest_test : (b : Bool) (x : Held) (held : List Held) (p : PageId) (h : Held) → same_page x.page p ≡ b → cond b (Some x) (newest_fix held p) ≡ Some h
    → (newest_fix held p ≡ Some h → Contains held h × (h.page ≡ p)) → Contains (x ∷ held) h × (h.page ≡ p)
newest_test true x held p h test e more = let same : x ≡ h = cc in ((0, omega arith, same), ap (λ (y : Held). y.page) (sym same) ∙ one_page x.page p test)
newest_test false x held p h test e more = let found = more e in ((suc found.0.0, omega (arith, found.0.1), found.0.2), found.1)

-- the newest fix of a page is held, and is of that page
pub newest_held : (held : List Held) (p : PageId) (h : Held) → newest_fix held p ≡ Some h → Contains held h × (h.page ≡ p)
newest_held [] p h e = absurd (cc)
newest_held (x ∷ held) p h e = newest_test (same_page x.page p) x held p h refl e (newest_held held p h)
