-- Which pages are dirty behind a change and behind a write, and what the disk has of a clean page.
use Rattle.std.proofs.Common.{◌≡◌, ℕ, zero, suc, Bool, true, false, not, cond, List, [], ◌∷◌, ◌&&◌, ◌||◌, Option, None, Some, slice_get, refl, ap, ◌∙◌, sym, subst, replicate}
use Rattle.std.specs.Prelude.{is_some, if◌then◌else◌, ⊤}
use Rattle.std.specs.Option.{option_map}
use Rattle.page_ids.specs.Content.{Content, patched}
use Rattle.page_ids.specs.Same.{same_page}
use Rattle.page_ids.specs.declared.ids.PageId.{PageId}
use Rattle.trail.specs.declared.event.Dirty.{Dirty}
use Rattle.trail.specs.declared.event.Entry.{Entry}
use Rattle.trail.specs.declared.event.Kind.{Kind}
use Rattle.trail.specs.declared.event.Kind.TheVariants as kind
use Rattle.trail.specs.History.{value, value_after}
use Rattle.trail.specs.Dirt.{dirtied, cleaned, dirty, dirty_after, dirt_of, is_dirty}
use Rattle.trail.specs.Saved.{saved, saved_after, is_written, written_after}
use Rattle.page_ids.proofs.Basics.{same_self, one_page}

other_way : (p q : PageId) → same_page p q ≡ false → same_page q p ≡ false
other_way p q other = cases (same_page q p) refl
  where
    cases : (b : Bool) → same_page q p ≡ b → same_page q p ≡ false
    cases false t = t
    cases true t = let same : true ≡ false = sym (same_self p) ∙ ap (λ x. same_page p x) (sym (one_page q p t)) ∙ other in absurd (cc)

-- what a change makes of the page, dirty or not
abbrev pub changed : PageId → ℕ → ℕ → Option Dirty → Dirty
changed q start end None = record { page = q; oldest = start; newest = end }
changed q start end (Some d) = record d { newest = end }

-- the page that was changed
pub dirtied_same : (q : PageId) (start end : ℕ) (ds : List Dirty) → dirt_of (dirtied q start end ds) q ≡ Some (changed q start end (dirt_of ds q))
dirtied_same q start end [] = rw (same_self q) refl
dirtied_same q start end (d ∷ ds) = cases (dirtied_same q start end ds) (same_page d.page q) refl
  where
    cases : dirt_of (dirtied q start end ds) q ≡ Some (changed q start end (dirt_of ds q))
        → (b : Bool) → same_page d.page q ≡ b → dirt_of (dirtied q start end (d ∷ ds)) q ≡ Some (changed q start end (dirt_of (d ∷ ds) q))
    cases next true t = simp (t)
    cases next false t = simp (t, next)

-- another page
dirtied_other : (q p : PageId) (start end : ℕ) (ds : List Dirty) → same_page q p ≡ false → dirt_of (dirtied q start end ds) p ≡ dirt_of ds p
dirtied_other q p start end [] other = rw other refl
dirtied_other q p start end (d ∷ ds) other = cases (dirtied_other q p start end ds other) (same_page d.page q) refl
  where
    cases : dirt_of (dirtied q start end ds) p ≡ dirt_of ds p → (b : Bool) → same_page d.page q ≡ b → dirt_of (dirtied q start end (d ∷ ds)) p ≡ dirt_of (d ∷ ds) p
    cases next true t = let away : same_page d.page p ≡ false = ap (λ x. same_page x p) (one_page d.page q t) ∙ other in simp (t, away)
    cases next false t = rw t (ap (λ found. cond (same_page d.page p) (Some d) found) next)

-- the page that was written
cleaned_same : (q : PageId) (ds : List Dirty) → dirt_of (cleaned q ds) q ≡ None
cleaned_same q [] = refl
cleaned_same q (d ∷ ds) = cases (cleaned_same q ds) (same_page d.page q) refl
  where
    cases : dirt_of (cleaned q ds) q ≡ None → (b : Bool) → same_page d.page q ≡ b → dirt_of (cleaned q (d ∷ ds)) q ≡ None
    cases next true t = rw t next
    cases next false t = simp (t, next)

-- another page
pub cleaned_other : (q p : PageId) (ds : List Dirty) → same_page q p ≡ false → dirt_of (cleaned q ds) p ≡ dirt_of ds p
cleaned_other q p [] other = refl
cleaned_other q p (d ∷ ds) other = cases (cleaned_other q p ds other) (same_page d.page q) refl
  where
    cases : dirt_of (cleaned q ds) p ≡ dirt_of ds p → (b : Bool) → same_page d.page q ≡ b → dirt_of (cleaned q (d ∷ ds)) p ≡ dirt_of (d ∷ ds) p
    cases next true t = let away : same_page d.page p ≡ false = ap (λ x. same_page x p) (one_page d.page q t) ∙ other in simp (t, away, next)
    cases next false t = rw t (ap (λ found. cond (same_page d.page p) (Some d) found) next)

-- a clean page stays clean where another one is written, or itself
none_cleaned : (q p : PageId) (ds : List Dirty) → dirt_of ds p ≡ None → dirt_of (cleaned q ds) p ≡ None
none_cleaned q p ds none = cases (same_page q p) refl
  where
    cases : (b : Bool) → same_page q p ≡ b → dirt_of (cleaned q ds) p ≡ None
    cases true t = ap (λ x. dirt_of (cleaned q ds) x) (sym (one_page q p t)) ∙ cleaned_same q ds
    cases false t = cleaned_other q p ds t ∙ none

-- no page stands twice
abbrev pub AreApart : List Dirty → Type 0
AreApart [] = ⊤
AreApart (d ∷ ds) = (dirt_of ds d.page ≡ None) × AreApart ds

apart_cond : (b : Bool) (xs ys : List Dirty) → (b ≡ true → AreApart xs) → (b ≡ false → AreApart ys) → AreApart (cond b xs ys)
apart_cond true xs ys left right = left refl
apart_cond false xs ys left right = right refl

apart_dirtied : (q : PageId) (start end : ℕ) (ds : List Dirty) → AreApart ds → AreApart (dirtied q start end ds)
apart_dirtied q start end [] apart = (refl, tt)
apart_dirtied q start end (d ∷ ds) apart =
    apart_cond (same_page d.page q) (record d { newest = end } ∷ ds) (d ∷ dirtied q start end ds) (λ t. apart)
    (λ t. (dirtied_other q d.page start end ds (other_way d.page q t) ∙ apart.0, apart_dirtied q start end ds apart.1))

apart_cleaned : (q : PageId) (ds : List Dirty) → AreApart ds → AreApart (cleaned q ds)
apart_cleaned q [] apart = tt
apart_cleaned q (d ∷ ds) apart =
    apart_cond (not (same_page d.page q)) (d ∷ cleaned q ds) (cleaned q ds) (λ t. (none_cleaned q d.page ds apart.0, apart_cleaned q ds apart.1)) (λ t. apart_cleaned q ds apart.1)

-- then each one is found under its page
found_apart : (ds : List Dirty) (n : ℕ) (x : Dirty) → AreApart ds → slice_get ds n ≡ Some x → dirt_of ds x.page ≡ Some x
found_apart [] n x apart there = absurd (cc)
found_apart (d ∷ ds) zero x apart there = let e : d ≡ x = cc in subst (λ (y : Dirty). dirt_of (d ∷ ds) y.page ≡ Some y) e (rw (same_self d.page) refl)
found_apart (d ∷ ds) (suc n) x apart there = cases (found_apart ds n x apart.1 there) (same_page d.page x.page) refl
  where
    cases : dirt_of ds x.page ≡ Some x → (b : Bool) → same_page d.page x.page ≡ b → dirt_of (d ∷ ds) x.page ≡ Some x
    cases next false t = rw t next
    cases next true t = let none : None ≡ Some x = sym apart.0 ∙ ap (λ p. dirt_of ds p) (one_page d.page x.page t) ∙ next in absurd (cc)

-- a page is dirty where it was changed, or was before
pub is_dirtied : (q p : PageId) (start end : ℕ) (ds : List Dirty) → is_some (dirt_of (dirtied q start end ds) p) ≡ (same_page q p || is_some (dirt_of ds p))
is_dirtied q p start end ds = cases (same_page q p) refl
  where
    cases : (b : Bool) → same_page q p ≡ b → is_some (dirt_of (dirtied q start end ds) p) ≡ (same_page q p || is_some (dirt_of ds p))
    cases true t = rw t (ap (λ x. is_some (dirt_of (dirtied q start end ds) x)) (sym (one_page q p t)) ∙ ap is_some (dirtied_same q start end ds))
    cases false t = rw t (ap is_some (dirtied_other q p start end ds t))

-- and where it was before and was not written
pub is_cleaned : (q p : PageId) (ds : List Dirty) → is_some (dirt_of (cleaned q ds) p) ≡ (not (same_page q p) && is_some (dirt_of ds p))
is_cleaned q p ds = cases (same_page q p) refl
  where
    cases : (b : Bool) → same_page q p ≡ b → is_some (dirt_of (cleaned q ds) p) ≡ (not (same_page q p) && is_some (dirt_of ds p))
    cases true t = rw t (ap (λ x. is_some (dirt_of (cleaned q ds) x)) (sym (one_page q p t)) ∙ ap is_some (cleaned_same q ds))
    cases false t = rw t (ap is_some (cleaned_other q p ds t))

-- What dirty pages, a page's value and what the disk has of it say of each other, and of the page's first value.
record Agrees (base : Option Content) (p : PageId) (ds : List Dirty) (now disk : Option Content) (written : Bool) : Type 0 where
  apart : AreApart ds
  newest : (d : Dirty) (v : Content) → dirt_of ds p ≡ Some d → now ≡ Some v → v.lsn ≡ d.newest
  clean : is_some (dirt_of ds p) ≡ false → disk ≡ now
  first : written ≡ false → disk ≡ base

-- behind a change of any page
agrees_changed : (base : Option Content) (p q : PageId) (start end : ℕ) (ds : List Dirty) (now later disk : Option Content) (written : Bool)
    → (same_page q p ≡ false → later ≡ now) → (same_page q p ≡ true → (v : Content) → later ≡ Some v → v.lsn ≡ end)
    → Agrees base p ds now disk written → Agrees base p (dirtied q start end ds) later disk written
agrees_changed base p q start end ds now later disk written leaves ends agrees = cases (same_page q p) refl
  where
    cases : (b : Bool) → same_page q p ≡ b → Agrees base p (dirtied q start end ds) later disk written
    cases true t = record {
      apart = apart_dirtied q start end ds agrees.apart;
      newest = λ d v found valued.
          let there : dirt_of (dirtied q start end ds) p ≡ Some (changed q start end (dirt_of ds q)) = ap (λ x. dirt_of (dirtied q start end ds) x) (sym (one_page q p t)) ∙ dirtied_same q start end ds in
          let same : changed q start end (dirt_of ds q) ≡ d = cc in
          ends t v valued ∙ sym (newest_is (dirt_of ds q)) ∙ ap (λ (d : Dirty). d.newest) same;
      clean = λ none. let dirt : true ≡ false = sym (ap (λ b. b || is_some (dirt_of ds p)) t) ∙ sym (is_dirtied q p start end ds) ∙ none in absurd (cc);
      first = agrees.first;
    }
      where
        newest_is : (o : Option Dirty) → (changed q start end o).newest ≡ end
        newest_is None = refl
        newest_is (Some d) = refl
    cases false t = record {
      apart = apart_dirtied q start end ds agrees.apart;
      newest = λ d v found valued. agrees.newest d v (sym (dirtied_other q p start end ds t) ∙ found) (sym (leaves t) ∙ valued);
      clean = λ none. agrees.clean (ap is_some (sym (dirtied_other q p start end ds t)) ∙ none) ∙ sym (leaves t);
      first = agrees.first;
    }

-- behind a write of any page
agrees_written : (base : Option Content) (p q : PageId) (ds : List Dirty) (now disk : Option Content) (written : Bool)
    → Agrees base p ds now disk written → Agrees base p (cleaned q ds) now (if same_page q p then now else disk) (if same_page q p then true else written)
agrees_written base p q ds now disk written agrees = cases (same_page q p) refl
  where
    cases : (b : Bool) → same_page q p ≡ b → Agrees base p (cleaned q ds) now (cond (same_page q p) now disk) (cond (same_page q p) true written)
    cases true t = rw t (record {
      apart = apart_cleaned q ds agrees.apart;
      newest = λ d v found valued. let none : None ≡ Some d = sym (cleaned_same q ds) ∙ ap (λ x. dirt_of (cleaned q ds) x) (one_page q p t) ∙ found in absurd (cc);
      clean = λ none. refl;
      first = λ not_written. absurd (cc);
    })
    cases false t = rw t (record {
      apart = apart_cleaned q ds agrees.apart;
      newest = λ d v found valued. agrees.newest d v (sym (cleaned_other q p ds t) ∙ found) valued;
      clean = λ none. agrees.clean (ap is_some (sym (cleaned_other q p ds t)) ∙ none);
      first = agrees.first;
    })

-- a value that was put has the LSN of its record's end
put_ends : (at : ℕ) (bytes : List ℕ) (end : ℕ) (now : Option Content) (v : Content) → option_map (λ c. patched c at bytes end) now ≡ Some v → v.lsn ≡ end
put_ends at bytes end None v same = absurd (cc)
put_ends at bytes end (Some c) v same = let e : patched c at bytes end ≡ v = cc in sym (ap (λ (v : Content). v.lsn) e)

-- a blank one too
blank_ends : (blank v : Content) → Some blank ≡ Some v → v.lsn ≡ blank.lsn
blank_ends blank v same = let e : blank ≡ v = cc in sym (ap (λ (v : Content). v.lsn) e)

agrees_after : (size : ℕ) (base : Option Content) (p : PageId) (k : Kind) (ds : List Dirty) (now disk : Option Content) (written : Bool)
    → Agrees base p ds now disk written → Agrees base p (dirty_after k ds) (value_after size k p now) (saved_after k p now disk) (written_after k p written)
agrees_after size base p (kind.Load q f) ds now disk written agrees = agrees
agrees_after size base p (kind.Fix q f clock moment) ds now disk written agrees = agrees
agrees_after size base p (kind.Create q f start end moment) ds now disk written agrees =
    agrees_changed base p q start end ds now (cond (same_page q p) (Some (record { lsn = end; bytes = replicate size 0 })) now) disk written
    (λ t. rw t refl) (λ t v valued. blank_ends (record { lsn = end; bytes = replicate size 0 }) v (rw t at valued)) agrees
agrees_after size base p (kind.Put q at bytes start end) ds now disk written agrees =
    agrees_changed base p q start end ds now (cond (same_page q p) (option_map (λ c. patched c at bytes end) now) now) disk written
    (λ t. rw t refl) (λ t v valued. put_ends at bytes end now v (rw t at valued)) agrees
agrees_after size base p (kind.Evict q f passed) ds now disk written agrees = agrees
agrees_after size base p (kind.Write q lsn upto) ds now disk written agrees = agrees_written base p q ds now disk written agrees
agrees_after size base p (kind.Move q from to) ds now disk written agrees = agrees
agrees_after size base p (kind.Withdraw from) ds now disk written agrees = agrees
agrees_after size base p (kind.Undo from) ds now disk written agrees = agrees
agrees_after size base p (kind.Shrink chunks) ds now disk written agrees = agrees
agrees_after size base p (kind.Grow chunks) ds now disk written agrees = agrees
agrees_after size base p (kind.Resize bytes chunks) ds now disk written agrees = agrees
agrees_after size base p (kind.Clean count skipped) ds now disk written agrees = agrees
agrees_after size base p (kind.Check lsn) ds now disk written agrees = agrees
agrees_after size base p (kind.WatchSet q) ds now disk written agrees = agrees
agrees_after size base p (kind.WatchAt q f) ds now disk written agrees = agrees
agrees_after size base p (kind.Occurred q arrived) ds now disk written agrees = agrees
agrees_after size base p (kind.Unwatch q) ds now disk written agrees = agrees
agrees_after size base p (kind.Dump pct ids) ds now disk written agrees = agrees
agrees_after size base p (kind.Refused asked why) ds now disk written agrees = agrees

-- behind every history
agrees : (size : ℕ) (base : PageId → Option Content) (h : List Entry) (p : PageId) → Agrees (base p) p (dirty h) (value size base h p) (saved size base h p) (is_written h p)
agrees size base [] p = record { apart = tt; newest = λ d v none valued. absurd (cc); clean = λ none. refl; first = λ none. refl }
agrees size base (e ∷ h) p = agrees_after size (base p) p e.kind (dirty h) (value size base h p) (saved size base h p) (is_written h p) (agrees size base h p)

-- the disk has the value of a page that isn't dirty
pub clean_saved : (size : ℕ) (base : PageId → Option Content) (h : List Entry) (p : PageId) → is_dirty h p ≡ false → saved size base h p ≡ value size base h p
clean_saved size base h p = (agrees size base h p).clean

-- and of a page that was never written what it gave
pub first_saved : (size : ℕ) (base : PageId → Option Content) (h : List Entry) (p : PageId) → is_written h p ≡ false → saved size base h p ≡ base p
first_saved size base h p = (agrees size base h p).first

-- a dirty page's newest LSN is that of its value
pub newest_value : (size : ℕ) (base : PageId → Option Content) (h : List Entry) (p : PageId) (d : Dirty) (v : Content)
    → dirt_of (dirty h) p ≡ Some d → value size base h p ≡ Some v → v.lsn ≡ d.newest
newest_value size base h p = (agrees size base h p).newest

-- each dirty page is found under its id
pub found_dirty : (h : List Entry) (n : ℕ) (d : Dirty) → slice_get (dirty h) n ≡ Some d → dirt_of (dirty h) d.page ≡ Some d
found_dirty h n d there = found_apart (dirty h) n d (agrees 0 (λ p. None) h d.page).apart there

-- the front one leaves by its write
front_cleaned : (p : PageId) (ds : List Dirty) → dirt_of ds p ≡ None → cleaned p ds ≡ ds
front_cleaned p [] none = refl
front_cleaned p (d ∷ ds) none = cases (same_page d.page p) refl (front_cleaned p ds)
  where
    cases : (b : Bool) → same_page d.page p ≡ b → (dirt_of ds p ≡ None → cleaned p ds ≡ ds) → cleaned p (d ∷ ds) ≡ d ∷ ds
    cases true t next = let bad : Some d ≡ None = sym (ap (λ (b : Bool). cond b (Some d) (dirt_of ds p)) t) ∙ none in absurd (cc)
    cases false t next =
        let rest : dirt_of ds p ≡ None = sym (ap (λ (b : Bool). cond b (Some d) (dirt_of ds p)) t) ∙ none in
        ap (λ (b : Bool). cond (not b) (d ∷ cleaned p ds) (cleaned p ds)) t ∙ ap (λ xs. d ∷ xs) (next rest)

pub front_written : (ds : List Dirty) (d : Dirty) (rest : List Dirty) → AreApart ds → ds ≡ d ∷ rest → cleaned d.page ds ≡ rest
front_written ds d rest apart is =
    let A : List Dirty → Type 0 = λ l. AreApart l in
    let one : AreApart (d ∷ rest) = subst A is apart in
    ap (cleaned d.page) is ∙ ap (λ (b : Bool). cond (not b) (d ∷ cleaned d.page rest) (cleaned d.page rest)) (same_self d.page) ∙ front_cleaned d.page rest one.0

pub front_leaves : (h : List Entry) (e : Entry) (d : Dirty) (rest : List Dirty) (lsn upto : ℕ) → dirty h ≡ d ∷ rest → e.kind ≡ kind.Write d.page lsn upto → dirty (e ∷ h) ≡ rest
front_leaves h e d rest lsn upto first is = ap (λ (k : Kind). dirty_after k (dirty h)) is ∙ front_written (dirty h) d rest (agrees 0 (λ p. None) h d.page).apart first
