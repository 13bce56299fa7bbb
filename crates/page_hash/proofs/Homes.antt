-- The frame of each page behind a change of a frame's page.
use Rattle.std.proofs.Common.{◌≡◌, ◌≢◌, ◌∙◌, ◌+◌, ◌<◌, ◌≤◌, ℕ, Bool, true, false, cond, List, [], ◌∷◌, ◌++◌, inl, inr, length, set, take, Option, None, Some, refl, sym, ap, subst, arith}
use Rattle.std.proofs.lemmas.Bool.{cases_eq, cases_lt, ne_eqb, eq-eqb, lt-ltb}
use Rattle.std.proofs.lemmas.List.{length-set, length-take, get_or-set_other, get_or_past, get_or_push, get_or_append_left, take_more, length-append}
use Rattle.std.specs.List.{position_or_len}
use Rattle.std.proofs.lemmas.Option.{none-some}
use Rattle.std.proofs.lemmas.List.Sums.{fails_before_first}
use Rattle.std.proofs.lemmas.List.Quantifiers.{position-Some}
use Rattle.std.proofs.lemmas.Grind.{get_or-set_at}
use Rattle.page_ids.proofs.Basics.{some_same, same_self, one_page}
use Rattle.page_ids.specs.declared.ids.PageId.{PageId}
use Rattle.page_ids.specs.Same.{same_page}
use Rattle.page_hash.specs.Cells.{with_page}
use Rattle.page_hash.specs.View.{page_in, is_page, home, IsUnused, IsRehomed, IsRoomChanged, IsInOrder}
use Rattle.page_hash.specs.Inside.{AreFramesApart}

abbrev pub Pages : Type 0
Pages = List (Option PageId)

pub is_its_page : (p : PageId) (o : Option PageId) → is_page p o ≡ true → o ≡ Some p
is_its_page p None h = absurd (cc)
is_its_page p (Some q) h = ap Some (one_page q p h)

-- who has a page is there
pub inside : (pages : Pages) (f : ℕ) (p : PageId) → page_in pages f ≡ Some p → f < length pages
inside pages f p e = elim (cases_lt f (length pages)) [
  | inl l ↦ omega (arith, l)
  | inr past ↦ let bad : ◌≡◌ {A = Option PageId} None (Some p) = sym (get_or_past pages f None (omega (arith, past))) ∙ e in absurd (cc)
]

pub at_home : (pages : Pages) (p : PageId) (f : ℕ) → home pages p ≡ Some f → page_in pages f ≡ Some p
at_home pages p f e = is_its_page p (page_in pages f) (position-Some (is_page p) pages f None e).1

pub is_this : (p : PageId) (o : Option PageId) → o ≡ Some p → is_page p o ≡ true
is_this p o e = ap (is_page p) e ∙ same_self p

-- a page that no frame has
no_home : (pages : Pages) (p : PageId) (f : ℕ) → home pages p ≡ None → page_in pages f ≡ Some p → ⊥
no_home pages p f none e = elim (cases_lt f (position_or_len (is_page p) pages)) [
  | inl before ↦ let bad : true ≡ false = sym (is_this p (page_in pages f) e) ∙ fails_before_first (is_page p) pages f None before in absurd (cc)
  | inr behind ↦
      let found : position_or_len (is_page p) pages < length pages = omega (arith, behind, inside pages f p e) in
      let bad : ◌≡◌ {A = Option ℕ} None (Some (position_or_len (is_page p) pages)) = sym none ∙ ap (λ b. cond b (Some (position_or_len (is_page p) pages)) None) (lt-ltb _ _ found) in
      absurd (cc)
]

pub home_is : (pages : Pages) (p : PageId) (f : ℕ) → AreFramesApart pages → page_in pages f ≡ Some p → home pages p ≡ Some f
home_is pages p f apart e = cases (home pages p) refl
  where
    cases : (o : Option ℕ) → home pages p ≡ o → home pages p ≡ Some f
    cases None t = absurd (no_home pages p f t e)
    cases (Some g) t = t ∙ ap Some (apart g f p (at_home pages p g t) e)

pub none_home : (pages : Pages) (p : PageId) → ((f : ℕ) → page_in pages f ≡ Some p → ⊥) → home pages p ≡ None
none_home pages p away = cases (home pages p) refl
  where
    cases : (o : Option ℕ) → home pages p ≡ o → home pages p ≡ None
    cases None t = t
    cases (Some g) t = absurd (away g (at_home pages p g t))

-- a page that the same frames have before and behind
pub home_same : (old new : Pages) (p : PageId) → AreFramesApart new → ((f : ℕ) → page_in old f ≡ Some p → page_in new f ≡ Some p)
    → ((f : ℕ) → page_in new f ≡ Some p → page_in old f ≡ Some p) → home new p ≡ home old p
home_same old new p apart there back = cases (home old p) refl
  where
    cases : (o : Option ℕ) → home old p ≡ o → home new p ≡ home old p
    cases None t = none_home new p (λ f e. no_home old p f t (back f e)) ∙ sym t
    cases (Some g) t = home_is new p g apart (there g (at_home old p g t)) ∙ sym t

-- a frame that is no page's home has none
pub unused : (pages : Pages) (f : ℕ) → AreFramesApart pages → IsUnused pages f → page_in pages f ≡ None
unused pages f apart away = cases (page_in pages f) refl
  where
    cases : (o : Option PageId) → page_in pages f ≡ o → page_in pages f ≡ None
    cases None t = t
    cases (Some q) t = absurd (away q (home_is pages q f apart t))

set_here : (pages : Pages) (frame : ℕ) (o : Option PageId) → frame < length pages → page_in (set pages frame o) frame ≡ o
set_here pages frame o l = get_or-set_at pages frame frame o None refl l

set_else : (pages : Pages) (frame f : ℕ) (o : Option PageId) → f ≢ frame → page_in (set pages frame o) f ≡ page_in pages f
set_else pages frame f o ne = get_or-set_other pages frame f o None ne

-- the tags behind a write are those of the list behind it
pub tags_set : (pages : Pages) (frame : ℕ) (o : Option PageId) → frame < length pages → (f : ℕ) → with_page frame o (page_in pages) f ≡ page_in (set pages frame o) f
tags_set pages frame o l f = elim (cases_eq f frame) [
  | inl e ↦ ap (λ b. cond b o (page_in pages f)) (eq-eqb f frame e) ∙ sym (ap (page_in (set pages frame o)) e ∙ set_here pages frame o l)
  | inr ne ↦ ap (λ b. cond b o (page_in pages f)) (ne_eqb f frame ne) ∙ sym (set_else pages frame f o ne)
]

-- the first frames and one more
pub tags_next : (pages : Pages) (i : ℕ) → i < length pages → (f : ℕ) → with_page i (page_in pages i) (page_in (take i pages)) f ≡ page_in (take (i + 1) pages) f
tags_next pages i l f =
    let o = page_in pages i in
    let front = take i pages in
    let long : length front ≡ i = omega (arith, length-take i pages, l) in
    let all : take (i + 1) pages ≡ front ++ o ∷ [] = take_more pages i None l in
    subst (λ xs. with_page i o (page_in front) f ≡ page_in xs f) (sym all) (elim (cases_eq f i) [
      | inl e ↦ ap (λ b. cond b o (page_in front f)) (eq-eqb f i e) ∙ sym (get_or_push front o None f (long ∙ sym e))
      | inr ne ↦ ap (λ b. cond b o (page_in front f)) (ne_eqb f i ne) ∙ elim (cases_lt f i) [
        | inl before ↦ sym (get_or_append_left front (o ∷ []) None f (omega (arith, before, long)))
        | inr behind ↦
            let past : length (front ++ o ∷ []) ≤ f = omega (arith, behind, ne, long, length-append front (o ∷ [])) in
            get_or_past front f None (omega (arith, behind, long)) ∙ sym (get_or_past (front ++ o ∷ []) f None past)
      ]
    ])

pub record Rehomed (old new : Pages) (page : PageId) (to : Option ℕ) : Type 0 where
  pub apart : AreFramesApart new
  pub map_is : IsRehomed old new page to

homes_from : (old new : Pages) (page : PageId) (to : Option ℕ) → home new page ≡ to → ((p : PageId) → same_page p page ≡ false → home new p ≡ home old p)
    → (p : PageId) → home new p ≡ cond (same_page p page) to (home old p)
homes_from old new page to own others p = cases (same_page p page) refl
  where
    cases : (b : Bool) → same_page p page ≡ b → home new p ≡ cond (same_page p page) to (home old p)
    cases true t = ap (home new) (one_page p page t) ∙ own ∙ sym (ap (λ b. cond b to (home old p)) t)
    cases false t = others p t ∙ sym (ap (λ b. cond b to (home old p)) t)

-- a page is another than one from which the test tells it
differ : (p q : PageId) → same_page p q ≡ false → p ≡ q → ⊥
differ p q t e = let bad : true ≡ false = sym (same_self q) ∙ ap (λ x. same_page x q) (sym e) ∙ t in absurd (cc)

pub inserted : (pages : Pages) (page : PageId) (frame : ℕ) → frame < length pages → AreFramesApart pages → home pages page ≡ None → page_in pages frame ≡ None
    → Rehomed pages (set pages frame (Some page)) page (Some frame)
inserted pages page frame l apart away free =
    let new = set pages frame (Some page) in
    let here = set_here pages frame (Some page) l in
    record {
      apart = still;
      map_is = record {
        homes = homes_from pages new page (Some frame) (home_is new page frame still here) (λ p t. home_same pages new p still
            (λ f e. set_else pages frame f (Some page) (λ own. none-some p (sym free ∙ ap (page_in pages) (sym own) ∙ e)) ∙ e)
            (λ f e. elim (cases_eq f frame) [
              | inl own ↦ absurd (differ p page t (some_same (sym e ∙ ap (page_in new) own ∙ here)))
              | inr ne ↦ sym (set_else pages frame f (Some page) ne) ∙ e
            ]));
        room_is = length-set pages frame (Some page);
      };
    }
  where
    still : AreFramesApart (set pages frame (Some page))
    still f g p e h =
        let here = set_here pages frame (Some page) l in
        elim (cases_eq f frame) [
          | inl own ↦ elim (cases_eq g frame) [
            | inl too ↦ own ∙ sym too
            | inr ne ↦
                let is : page ≡ p = some_same (sym here ∙ ap (page_in (set pages frame (Some page))) (sym own) ∙ e) in
                absurd (no_home pages page g away (sym (set_else pages frame g (Some page) ne) ∙ h ∙ ap Some (sym is)))
          ]
          | inr ne ↦ elim (cases_eq g frame) [
            | inl own ↦
                let is : page ≡ p = some_same (sym here ∙ ap (page_in (set pages frame (Some page))) (sym own) ∙ h) in
                absurd (no_home pages page f away (sym (set_else pages frame f (Some page) ne) ∙ e ∙ ap Some (sym is)))
            | inr other ↦ apart f g p (sym (set_else pages frame f (Some page) ne) ∙ e) (sym (set_else pages frame g (Some page) other) ∙ h)
          ]
        ]

pub removed : (pages : Pages) (page : PageId) (frame : ℕ) → AreFramesApart pages → home pages page ≡ Some frame → Rehomed pages (set pages frame None) page None
removed pages page frame apart there =
    let new = set pages frame None in
    record {
      apart = still;
      map_is = record {
        homes = homes_from pages new page None
            (none_home new page (λ f e. other f page e (apart f frame page (left f page e) was)))
            (λ p t. home_same pages new p still
            (λ f e. set_else pages frame f None (λ own. differ p page t (some_same (sym e ∙ ap (page_in pages) own ∙ was))) ∙ e)
            (λ f e. left f p e));
        room_is = length-set pages frame None;
      };
    }
  where
    was : page_in pages frame ≡ Some page
    was = at_home pages page frame there

    other : (f : ℕ) (p : PageId) → page_in (set pages frame None) f ≡ Some p → f ≡ frame → ⊥
    other f p e own = none-some p (sym (set_here pages frame None (inside pages frame page (at_home pages page frame there))) ∙ ap (page_in (set pages frame None)) (sym own) ∙ e)

    left : (f : ℕ) (p : PageId) → page_in (set pages frame None) f ≡ Some p → page_in pages f ≡ Some p
    left f p e = sym (set_else pages frame f None (λ own.
        none-some p (sym (set_here pages frame None (inside pages frame page (at_home pages page frame there))) ∙ ap (page_in (set pages frame None)) (sym own) ∙ e))) ∙ e

    still : AreFramesApart (set pages frame None)
    still f g p e h =
        let back = λ (i : ℕ) (k : page_in (set pages frame None) i ≡ Some p). sym (set_else pages frame i None (λ own.
        none-some p (sym (set_here pages frame None (inside pages frame page (at_home pages page frame there))) ∙ ap (page_in (set pages frame None)) (sym own) ∙ k))) ∙ k in
        apart f g p (back f e) (back g h)

-- out of one frame and into another
pub moved : (old mid new : Pages) (page : PageId) (to : ℕ) → IsRehomed old mid page None → IsRehomed mid new page (Some to) → IsRehomed old new page (Some to)
moved old mid new page to out into = record {
  homes = λ p. into.homes p ∙ cases p (same_page p page) refl;
  room_is = into.room_is ∙ out.room_is;
}
  where
    cases : (p : PageId) (b : Bool) → same_page p page ≡ b → cond (same_page p page) (Some to) (home mid p) ≡ cond (same_page p page) (Some to) (home old p)
    cases p true t = rw t refl
    cases p false t = rw t (out.homes p ∙ rw t refl)

pub out_of_map : (old mid : Pages) (page : PageId) → IsRehomed old mid page None → home mid page ≡ None
out_of_map old mid page out = out.homes page ∙ ap (λ b. cond b None (home old page)) (same_self page)

pub in_order : (pages : Pages) → AreFramesApart pages → IsInOrder pages
in_order pages apart = record {
  once = λ p q f e h. some_same (sym (at_home pages p f e) ∙ at_home pages q f h);
  below = λ p f e. (position-Some (is_page p) pages f None e).0;
}

-- a page goes from one frame to another, which had none
pub record Moved (pages : Pages) (page : PageId) (from to : ℕ) : Type 0 where
  pub out : page_in pages from ≡ Some page
  pub free : page_in pages to ≡ None
  pub apart : AreFramesApart (set (set pages from None) to (Some page))
  pub map_is : IsRehomed pages (set (set pages from None) to (Some page)) page (Some to)
  pub tags : (f : ℕ) → with_page to (Some page) (with_page from None (page_in pages)) f ≡ page_in (set (set pages from None) to (Some page)) f
  pub long : length (set (set pages from None) to (Some page)) ≡ length pages

replaced : (pages : Pages) (page : PageId) (from to : ℕ) → to < length pages → AreFramesApart pages → home pages page ≡ Some from → IsUnused pages to → Moved pages page from to
replaced pages page from to l apart there away =
    let mid = set pages from None in
    let was = at_home pages page from there in
    let free = unused pages to apart away in
    let out = removed pages page from apart there in
    let long = length-set pages from None in
    let two : to ≢ from = λ e. none-some page (sym free ∙ ap (page_in pages) e ∙ was) in
    let still : page_in mid to ≡ None = set_else pages from to None two ∙ free in
    let room : to < length mid = omega (arith, l, long) in
    let into = inserted mid page to room out.apart (out_of_map pages mid page out.map_is) still in
    record {
      out = was;
      free = free;
      apart = into.apart;
      map_is = moved pages mid (set mid to (Some page)) page to out.map_is into.map_is;
      tags = λ f. ap (λ (at : ℕ → Option PageId). with_page to (Some page) at f) (λ i g. tags_set pages from None (inside pages from page was) g i) ∙ tags_set mid to (Some page) room f;
      long = length-set mid to (Some page) ∙ long;
    }

-- the same of a map as it is seen, where the look-up found the frame
pub replaced_seen : (pages now : Pages) (page : PageId) (from to : ℕ) (r : Option ℕ) → pages ≡ now → AreFramesApart pages → r ≡ home now page → r ≡ Some from → to < length now → IsUnused now to
    → Moved pages page from to
replaced_seen pages now page from to r is apart found some room away =
    replaced pages page from to (omega (arith, room, ap length is)) apart (ap (λ xs. home xs page) is ∙ sym found ∙ some) (subst (λ xs. IsUnused xs to) (sym is) away)

-- the pages of the frames that were there, and more frames without any
pub resized : (old new : Pages) (m n : ℕ) → m ≡ length old → length new ≡ n → m ≤ n → AreFramesApart old → ((f : ℕ) → f < n → f < m → page_in new f ≡ page_in old f)
    → ((f : ℕ) → m ≤ f → f < n → page_in new f ≡ None) → AreFramesApart new × IsRoomChanged old new n
resized old new m n was long le apart kept more =
    let still : AreFramesApart new = λ f g p e h. apart f g p (same f ∙ e) (same g ∙ h) in
    (still, record { homes = λ p. home_same old new p still (λ f e. sym (same f) ∙ e) (λ f e. same f ∙ e); room_is = long })
  where
    same : (f : ℕ) → page_in old f ≡ page_in new f
    same f = elim (cases_lt f m) [
      | inl before ↦ sym (kept f (omega (arith, before, le)) before)
      | inr behind ↦ get_or_past old f None (omega (arith, behind, was)) ∙ sym (elim (cases_lt f n) [
        | inl inside ↦ more f (omega (arith, behind)) inside
        | inr past ↦ get_or_past new f None (omega (arith, past, long))
      ])
    ]
