-- Open fixes, by frame and by page.
use Rattle.std.proofs.Common.{◌≡◌, ℕ, ◌+◌, ◌<◌, ◌≤◌, Bool, true, false, cond, List, [], ◌∷◌, None, Some, refl, sym, ap, ◌∙◌, subst, arith, nat_eq, eq-eqb}
use Rattle.page_ids.specs.Same.{same_page}
use Rattle.page_ids.specs.declared.ids.PageId.{PageId}
use Rattle.trail.specs.declared.event.Entry.{Entry}
use Rattle.trail.specs.declared.event.Held.{Held}
use Rattle.trail.specs.History.{home}
use Rattle.trail.specs.Calls.{newest_fix}
use Rattle.page_ids.proofs.Basics.{one_page}
use Rattle.frame_words.specs.Plain.{Plain}
use Rattle.pool_table.specs.Frames.{AreOpen, IsThere, fixes_in}

here_counts : (x : Held) (held : List Held) → 0 < fixes_in (x ∷ held) x.frame
here_counts x held = let on : nat_eq x.frame x.frame ≡ true = eq-eqb x.frame x.frame refl in
    let one : fixes_in (x ∷ held) x.frame ≡ 1 + fixes_in held x.frame = ap (λ (b : Bool). cond b 1 0 + fixes_in held x.frame) on in omega (arith, one)

rest_counts : (x : Held) (held : List Held) (f : ℕ) → fixes_in held f ≤ fixes_in (x ∷ held) f
rest_counts x held f = omega arith

-- Open fixes stay open where what holds of each page with a fix in its frame stays.
pub open_on : (h h' : List Entry) (old new : Plain) (held : List Held) → ((p : PageId) (f : ℕ) → home h p ≡ Some f → 0 < fixes_in held f → IsThere old f → (home h' p ≡ Some f) × IsThere new f)
    → AreOpen h old held → AreOpen h' new held
open_on h h' old new [] stays opened = tt
open_on h h' old new (x ∷ held) stays opened =
    let at = stays x.page x.frame opened.0.home_is (here_counts x held) opened.0.there in
    (record { home_is = at.0; there = at.1 }, open_on h h' old new held (λ p f is some. stays p f is (let le = rest_counts x held f in omega (arith, some, le))) opened.1)

-- In a frame without a fix no fix of its page is open.
pub unheld : (h : List Entry) (frames : Plain) (held : List Held) (p : PageId) (f : ℕ) → AreOpen h frames held → fixes_in held f ≡ 0 → home h p ≡ Some f → newest_fix held p ≡ None
unheld h frames [] p f opened none is = refl
unheld h frames (x ∷ held) p f opened none is = cases (unheld h frames held p f opened.1 (let le = rest_counts x held f in omega (arith, le, none)) is) (same_page x.page p) refl
  where
    cases : newest_fix held p ≡ None → (b : Bool) → same_page x.page p ≡ b → cond b (Some x) (newest_fix held p) ≡ None
    cases rest true t =
        let there : Some x.frame ≡ Some f = sym opened.0.home_is ∙ (ap (λ q. home h q) (one_page x.page p t) ∙ is) in
        let same : x.frame ≡ f = cc in
        let one : 0 < fixes_in (x ∷ held) f = subst (λ (g : ℕ). 0 < fixes_in (x ∷ held) g) same (here_counts x held) in absurd (omega (arith, one, none))
    cases rest false t = rest
