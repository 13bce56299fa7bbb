-- The words that a worker finds are exactly what its trail says.
use Rattle.std.proofs.Common.{◌≡◌, ℕ, Bool, true, false, cond, List, [], ◌∷◌, ◌+◌, ◌<◌, ◌≤◌, Option, Some, None, IfSome, length, refl, ap, ◌∙◌, sym, subst, nat_eq, nat_le, eq-eqb, arith}
use Rattle.std.proofs.lemmas.Bool.Decides.{nat_tests}
use Rattle.std.specs.Prelude.{is_some}
use Rattle.std.specs.Option.{option_map_or}
use Rattle.std.proofs.lemmas.List.{get_or_past}
use Rattle.std.proofs.lemmas.List.Sums.{sum_by-cons}
use Rattle.page_ids.specs.FrameWord.{fixes_of, is_latched}
use Rattle.page_ids.specs.Same.{same_page}
use Rattle.page_ids.specs.Size.{page_bytes}
use Rattle.page_ids.specs.declared.frame_word.Word.{Word}
use Rattle.page_ids.specs.declared.ids.PageId.{PageId}
use Rattle.page_disk.specs.Disks.{DiskSeen}
use Rattle.trail.specs.declared.event.Entry.{Entry}
use Rattle.trail.specs.declared.event.Held.{Held}
use Rattle.trail.specs.Words.{IsTrueWord, AreTrueWords, fixes_on}
use Rattle.trail.specs.Calls.{newest_fix}
use Rattle.trail.specs.History.{home, change, tenant}
use Rattle.trail.proofs.LookUps.{tenant_is}
use Rattle.frame_words.specs.Plain.{Plain}
use Rattle.frame_words.specs.Rows.{Row, IsFound, new_row}
use Rattle.desk.specs.State.{State}
use Rattle.desk.specs.Steps.{row_in}
use Rattle.desk.specs.Tied.{IsTied}
use Rattle.desk.specs.Victims.{AreFoundOn}
use Rattle.script_run.specs.Work.{IsWorkerReady, AreHomesApart, AreHoused, fixes_of_frame}
use Rattle.script_run.proofs.Fixes.{one_page, same_self, number_is}

one_frame : (h : List Entry) (p : PageId) (f g : ℕ) → home h p ≡ Some f → home h p ≡ Some g → f ≡ g
one_frame h p f g a b = let same : Some f ≡ Some g = sym a ∙ b in cc

counted : (x : Held) (fixed : List Held) (p : PageId) → fixes_on (x ∷ fixed) p ≡ cond (same_page x.page p) 1 0 + fixes_on fixed p
counted x fixed p = sum_by-cons (λ (y : Held). cond (same_page y.page p) 1 0) x fixed

-- a fix of the frame is one of its page
alike : (h : List Entry) (x : Held) (p : PageId) (f : ℕ) → AreHomesApart h → home h x.page ≡ Some x.frame → home h p ≡ Some f → same_page x.page p ≡ nat_eq x.frame f
alike h x p f apart there here = cases (same_page x.page p) refl (nat_eq x.frame f) refl
  where
    frame_is : same_page x.page p ≡ true → x.frame ≡ f
    frame_is same = one_frame h p x.frame f (ap (home h) (sym (one_page x.page p same)) ∙ there) here

    page_is : x.frame ≡ f → same_page x.page p ≡ true
    page_is same = ap (λ q. same_page q p) (apart x.page p f (there ∙ ap Some same) here) ∙ same_self p

    cases : (a : Bool) → same_page x.page p ≡ a → (b : Bool) → nat_eq x.frame f ≡ b → a ≡ b
    cases true s true t = refl
    cases false s false t = refl
    cases true s false t = let bad : true ≡ false = sym (eq-eqb x.frame f (frame_is s)) ∙ t in absurd (cc)
    cases false s true t = let bad : true ≡ false = sym (page_is (number_is x.frame f t)) ∙ s in absurd (cc)

-- the fixes of a frame are those of the page that is at home there
same_fixes : (h : List Entry) (fixed : List Held) (p : PageId) (f : ℕ) → AreHomesApart h → AreHoused h fixed → home h p ≡ Some f → fixes_of_frame f fixed ≡ fixes_on fixed p
same_fixes h [] p f apart housed here = refl
same_fixes h (x ∷ fixed) p f apart housed here =
    more (nat_eq x.frame f) (fixes_of_frame f fixed) (fixes_on fixed p) (same_fixes h fixed p f apart housed.1 here)
    ∙ ap (λ (b : Bool). cond b 1 0 + fixes_on fixed p) (sym (alike h x p f apart housed.0 here)) ∙ sym (counted x fixed p)
  where
    more : (b : Bool) (m n : ℕ) → m ≡ n → cond b (m + 1) m ≡ cond b 1 0 + n
    more true m n same = omega (arith, same)
    more false m n same = omega (arith, same)

-- a page whose frame has no fix is not held
pub none_newest : (h : List Entry) (fixed : List Held) (p : PageId) (f : ℕ) → AreHoused h fixed → home h p ≡ Some f → fixes_of_frame f fixed ≡ 0 → newest_fix fixed p ≡ None
none_newest h [] p f housed here none = refl
none_newest h (x ∷ fixed) p f housed here none = cases (none_newest h fixed p f housed.1 here other.1) (same_page x.page p) refl
  where
    free : (b : Bool) (n : ℕ) → cond b (n + 1) n ≡ 0 → (b ≡ false) × (n ≡ 0)
    free true n e = absurd (omega (arith, e))
    free false n e = (refl, e)

    other : (nat_eq x.frame f ≡ false) × (fixes_of_frame f fixed ≡ 0)
    other = free (nat_eq x.frame f) (fixes_of_frame f fixed) none

    cases : newest_fix fixed p ≡ None → (b : Bool) → same_page x.page p ≡ b → cond b (Some x) (newest_fix fixed p) ≡ None
    cases rest true s =
        let at : x.frame ≡ f = one_frame h p x.frame f (ap (home h) (sym (one_page x.page p s)) ∙ housed.0) here in
        let bad : true ≡ false = sym (eq-eqb x.frame f at) ∙ other.0 in absurd (cc)
    cases rest false s = rest

told_fixes : (held : Option ℕ) (n : ℕ) (w : Word) (latched : Bool) → held ≡ Some n → IfSome held (λ k. (fixes_of w ≡ k + 0) × (is_latched w ≡ latched)) → (fixes_of w ≡ n) × (is_latched w ≡ latched)
told_fixes None n w latched is told = absurd (cc)
told_fixes (Some k) n w latched is told = let same : k ≡ n = cc in (omega (arith, told.0, same), told.1)

resident_at : (h : List Entry) (f : ℕ) (b : Bool) (p : PageId) → (b ≡ false → (q : PageId) → home h q ≡ Some f → ⊥) → home h p ≡ Some f → b ≡ true
resident_at h f true p vacant here = refl
resident_at h f false p vacant here = absurd (vacant refl p here)

-- a fix of a frame is of a page that is at home there
held_there : (h : List Entry) (f : ℕ) (fixed : List Held) → AreHoused h fixed → 0 < fixes_of_frame f fixed → (p : PageId) × (home h p ≡ Some f)
held_there h f [] housed some = absurd (omega (arith, some))
held_there h f (x ∷ fixed) housed some = cases (held_there h f fixed housed.1) (nat_eq x.frame f) refl some
  where
    cases : (0 < fixes_of_frame f fixed → (p : PageId) × (home h p ≡ Some f)) → (b : Bool) → nat_eq x.frame f ≡ b → 0 < cond b (fixes_of_frame f fixed + 1) (fixes_of_frame f fixed) → (p : PageId) × (home h p ≡ Some f)
    cases rest true t more = (x.page, housed.0 ∙ ap Some (number_is x.frame f t))
    cases rest false t more = rest more

-- a word that was found on a frame, at a history that leaves homes and changes
exact_inside : (size frames : ℕ) (h mid : List Entry) (r : Row) (f : ℕ) (fixed : List Held) (w : Word)
    → ((p : PageId) → home mid p ≡ home h p) → ((g : ℕ) → change mid g ≡ change h g)
    → IsTied size frames h r f → r.held ≡ Some (fixes_of_frame f fixed) → AreHomesApart h → AreHoused h fixed → 0 < fixes_of w → IsFound r 0 w → IsTrueWord mid fixed f w
exact_inside size frames h mid r f fixed w homes changes tied held apart housed some found =
    let told = told_fixes r.held (fixes_of_frame f fixed) w r.latched held found.exact in
    let page = held_there h f fixed housed (omega (arith, some, told.0)) in
    let one : tenant mid f ≡ Some page.0 = tenant_is mid f page.0 (homes page.0 ∙ page.1) (λ q there. apart q page.0 f (sym (homes q) ∙ there) page.1) in
    record {
      resident = found.resident ∙ resident_at h f r.resident page.0 tied.vacant page.1 ∙ ap is_some (sym one);
      fixes = told.0 ∙ same_fixes h fixed page.0 f apart housed page.1 ∙ ap (λ (o : Option PageId). option_map_or (λ p. fixes_on fixed p) o 0) (sym one);
      clock = found.clock ∙ tied.clock ∙ sym (changes f);
      unlatched = told.1 ∙ tied.unlatched;
    }

-- a word with a fix was found on a frame that is there
is_there : (rows : List Row) (f : ℕ) (w : Word) → 0 < fixes_of w → IsFound (row_in rows f) 0 w → f < length rows
is_there rows f w some found = cases (nat_le (length rows) f) refl
  where
    past : length rows ≤ f → ⊥
    past le =
        let is : row_in rows f ≡ new_row = get_or_past rows f new_row le in
        let R : Row → Type 0 = λ r. IsFound r 0 w in
        let told = (subst R is found).exact in absurd (omega (arith, some, told.0))

    le_of : (m n : ℕ) → nat_le m n ≡ true → m ≤ n
    le_of m n e = grind (arith, nat_tests)

    lt_of : (m n : ℕ) → nat_le m n ≡ false → n < m
    lt_of m n e = grind (arith, nat_tests)

    cases : (b : Bool) → nat_le (length rows) f ≡ b → f < length rows
    cases true e = absurd (past (le_of (length rows) f e))
    cases false e = lt_of (length rows) f e

pub exact_words : {D : Type 0} (seen : D → DiskSeen) (desk : State D) (frames : Plain) (fixed : List Held) (mid : List Entry) (words : List (ℕ × Word))
    → ((p : PageId) → home mid p ≡ home desk.history p) → ((g : ℕ) → change mid g ≡ change desk.history g)
    → IsWorkerReady seen desk frames fixed → AreFoundOn frames.rows words → AreTrueWords mid fixed words
exact_words seen desk frames fixed mid [] homes changes ready found = tt
exact_words seen desk frames fixed mid (x ∷ words) homes changes ready found =
    let inside = is_there frames.rows x.0 x.1 found.1 found.0 in (
      exact_inside (page_bytes desk.config.page) desk.config.frames desk.history mid (row_in frames.rows x.0) x.0 fixed x.1 homes changes
          (ready.tied.rows x.0 inside) (ready.held x.0 inside) ready.apart ready.housed found.1 found.0,
      exact_words seen desk frames fixed mid words homes changes ready found.2,
    )
