-- Each cell keeps just its frames when one is put in, taken out or replaced.
use Rattle.std.proofs.Common.{◌≡◌, ◌≢◌, ◌∙◌, ◌<◌, ◌≤◌, ℕ, Bool, true, false, cond, List, [], ◌∷◌, ◌++◌, inl, inr, length, set, get_or, Option, None, Some, slice_get, refl, sym, ap, subst, arith}
use Rattle.std.proofs.lemmas.Bool.{cases_eq, cases_lt, ne_eqb, eq-eqb, eqb-true}
use Rattle.std.proofs.lemmas.List.{length-set, length-append, get_or-set_other, get_or_append_left, get_or_push}
use Rattle.std.proofs.lemmas.Grind.{get_or-set_at}
use Rattle.std.proofs.lemmas.Option.{slice_get_within, slice_get_read, get_or_from_slice_get}
use Rattle.page_ids.specs.declared.ids.PageId.{PageId}
use Rattle.link_lists.specs.Grid.{Grid, times}
use Rattle.link_lists.specs.Chains.{Ends, IsChain, KeepsOthers}
use Rattle.page_hash.specs.Cells.{cell_of, falls_into, with_page, IsCell, AreFiled}
use Rattle.link_lists.proofs.Times.{times-append, times_at, times_past, placed}

abbrev pub Tags : Type 0
Tags = ℕ → Option PageId

page_here : (f : ℕ) (page : Option PageId) (at : Tags) → with_page f page at f ≡ page
page_here f page at = ap (λ b. cond b page (at f)) (eq-eqb f f refl)

page_else : (frame f : ℕ) (page : Option PageId) (at : Tags) → f ≢ frame → with_page frame page at f ≡ at f
page_else frame f page at ne = ap (λ b. cond b page (at f)) (ne_eqb f frame ne)

-- nothing is changed where there is no page before and behind
pub page_none : (frame : ℕ) (at : Tags) → at frame ≡ None → (f : ℕ) → at f ≡ with_page frame None at f
page_none frame at none f = elim (cases_eq f frame) [
  | inl e ↦ ap at e ∙ none ∙ sym (ap (λ b. cond b None (at f)) (eq-eqb f frame e))
  | inr ne ↦ sym (page_else frame f None at ne)
]

-- the cells of frames that have these pages, told in another way
pub filed_as : (g : Grid) (cells : List Ends) (at then : Tags) → ((f : ℕ) → at f ≡ then f) → AreFiled g cells at → AreFiled g cells then
filed_as g cells at then same filed = subst (λ (t : Tags). AreFiled g cells t) (λ i f. same f i) filed

-- a page falls into one cell
pub own_cell : (n : ℕ) (p : PageId) (c : ℕ) → c ≡ cell_of n p → falls_into n c (Some p) ≡ true
own_cell n p c e = eq-eqb (cell_of n p) c (sym e)

pub one_cell : (n c d : ℕ) (o : Option PageId) → falls_into n c o ≡ true → d ≢ c → falls_into n d o ≡ false
one_cell n c d None e ne = refl
one_cell n c d (Some p) e ne = ne_eqb (cell_of n p) d (λ same. ne (sym same ∙ eqb-true (cell_of n p) c e))

-- the list has each frame that falls into the cell, once
abbrev pub Counts : ℕ → ℕ → Tags → List ℕ → Type 0
Counts n c at xs = (f : ℕ) → times f xs ≡ cond (falls_into n c (at f)) 1 0

module _ (n c : ℕ) (at : Tags) where
  pub stands : (xs : List ℕ) (f : ℕ) → Counts n c at xs → falls_into n c (at f) ≡ true → times f xs ≡ 1
  stands xs f k t = k f ∙ ap {B = ℕ} (λ b. cond b 1 0) t

  pub lacks : (xs : List ℕ) (f : ℕ) → Counts n c at xs → falls_into n c (at f) ≡ false → times f xs ≡ 0
  lacks xs f k t = k f ∙ ap {B = ℕ} (λ b. cond b 1 0) t

  pub falls_from : (xs : List ℕ) (f : ℕ) → Counts n c at xs → 1 ≤ times f xs → falls_into n c (at f) ≡ true
  falls_from xs f k there = cases (falls_into n c (at f)) refl
    where
      cases : (b : Bool) → falls_into n c (at f) ≡ b → falls_into n c (at f) ≡ true
      cases true t = t
      cases false t = absurd (omega (arith, lacks xs f k t, there))

  -- one that has no page gets one of this cell
  pub counts_with : (frame : ℕ) (page : PageId) (front back : List ℕ) → falls_into n c (Some page) ≡ true → at frame ≡ None → Counts n c at (front ++ back)
      → Counts n c (with_page frame (Some page) at) (front ++ frame ∷ back)
  counts_with frame page front back falls none k f = elim (cases_eq f frame) [
    | inl e ↦
        subst (λ i. times i (front ++ frame ∷ back) ≡ cond (falls_into n c (with_page frame (Some page) at i)) 1 0) (sym e)
        (let away = lacks (front ++ back) frame k (ap (falls_into n c) none) in
        let one : times frame (front ++ frame ∷ back) ≡ 1 = omega (arith, away, times-append frame front back, times-append frame front (frame ∷ back), times_at frame back) in
        one ∙ sym (ap {B = ℕ} (λ o. cond (falls_into n c o) 1 0) (page_here frame (Some page) at) ∙ ap {B = ℕ} (λ b. cond b 1 0) falls))
    | inr ne ↦
        let same : times f (front ++ frame ∷ back) ≡ times f (front ++ back) =
        omega (arith, times-append f front back, times-append f front (frame ∷ back), times_past f frame back (λ e. ne (sym e))) in
        same ∙ k f ∙ ap {B = ℕ} (λ o. cond (falls_into n c o) 1 0) (sym (page_else frame f (Some page) at ne))
  ]

  -- one of this cell loses its page
  pub counts_without : (frame : ℕ) (front back : List ℕ) → falls_into n c (at frame) ≡ true → Counts n c at (front ++ frame ∷ back)
      → Counts n c (with_page frame None at) (front ++ back)
  counts_without frame front back falls k f = elim (cases_eq f frame) [
    | inl e ↦
        subst (λ i. times i (front ++ back) ≡ cond (falls_into n c (with_page frame None at i)) 1 0) (sym e)
        (let one = stands (front ++ frame ∷ back) frame k falls in
        let none : times frame (front ++ back) ≡ 0 = omega (arith, one, times-append frame front back, times-append frame front (frame ∷ back), times_at frame back) in
        none ∙ sym (ap {B = ℕ} (λ o. cond (falls_into n c o) 1 0) (page_here frame None at)))
    | inr ne ↦
        let same : times f (front ++ back) ≡ times f (front ++ frame ∷ back) =
        omega (arith, times-append f front back, times-append f front (frame ∷ back), times_past f frame back (λ e. ne (sym e))) in
        same ∙ k f ∙ ap {B = ℕ} (λ o. cond (falls_into n c o) 1 0) (sym (page_else frame f None at ne))
  ]

-- what a frame has doesn't matter to a cell into which neither its page nor its new one falls
pub same_else : (n d frame : ℕ) (page : Option PageId) (at : Tags) → falls_into n d page ≡ false → falls_into n d (at frame) ≡ false
    → (f : ℕ) → falls_into n d (with_page frame page at f) ≡ falls_into n d (at f)
same_else n d frame page at new old f = elim (cases_eq f frame) [
  | inl e ↦ subst (λ i. falls_into n d (with_page frame page at i) ≡ falls_into n d (at i)) (sym e) (ap (falls_into n d) (page_here frame page at) ∙ new ∙ sym old)
  | inr ne ↦ ap (falls_into n d) (page_else frame f page at ne)
]

-- the cell of a page, as it is read: at its place stands this chain
pub record IsRead (cells : List Ends) (page : PageId) (c : ℕ) (chain : Ends) : Type 0 where
  pub own : c ≡ cell_of (length cells) page
  pub there : slice_get cells c ≡ Some chain

pub read_of : (cells : List Ends) (page : PageId) (n c : ℕ) (chain : Ends) → n ≡ length cells → c ≡ cell_of n page → c < n → chain ≡ get_or cells c chain
    → IsRead cells page c chain
read_of cells page n c chain all own inside is = record {
  own = own ∙ ap (λ m. cell_of m page) all;
  there = slice_get_read cells (length cells) c chain refl (omega (arith, inside, all)) is;
}

-- one cell changed, and of the others neither the frames nor the nodes
pub filed_after : (old new : Grid) (cells : List Ends) (at then : Tags) (c : ℕ) (chain : Ends) (touched : List ℕ)
    → AreFiled old cells at → IsCell new chain then (length cells) c → KeepsOthers 0 old new touched
    → ((d f : ℕ) → d ≢ c → falls_into (length cells) d (at f) ≡ true → times f touched ≡ 0)
    → ((d f : ℕ) → d ≢ c → falls_into (length cells) d (then f) ≡ falls_into (length cells) d (at f))
    → AreFiled new (set cells c chain) then
filed_after old new cells at then c chain touched filed k keeps apart same d e is =
    let long = length-set cells c chain in
    let inside : d < length cells = omega (arith, slice_get_within (set cells c chain) d e is, long) in
    let found = get_or_from_slice_get (set cells c chain) d e chain is in
    subst (λ m. IsCell new e then m d) (sym long) (elim (cases_eq d c) [
      | inl own ↦
          let here : chain ≡ e = sym (get_or-set_at cells c d chain chain own (omega (arith, own, inside))) ∙ found in
          subst (λ (t : Ends × ℕ). IsCell new t.0 then (length cells) t.1) (λ i. (here i, sym own i)) k
      | inr ne ↦ other ne (slice_get_read cells (length cells) d e refl inside (sym (get_or_from_slice_get (set cells c chain) d e e is) ∙ get_or-set_other cells c d chain e ne))
    ])
  where
    other : d ≢ c → slice_get cells d ≡ Some e → IsCell new e then (length cells) d
    other ne there =
        let o = filed d e there in
        record {
          pair = o.pair;
          frames = o.frames;
          chain_is = keeps.chains e o.frames o.chain_is (inr (λ x stands. apart d x ne (falls_from (length cells) d at o.frames x o.counted stands)));
          counted = λ f. o.counted f ∙ ap {B = ℕ} (λ b. cond b 1 0) (sym (same d f ne));
        }

-- a frame that had no page is put at the front of the cell of its page
pub filed_with : (old new : Grid) (cells : List Ends) (at : Tags) (c frame : ℕ) (page : PageId) (was chain : Ends)
    → IsRead cells page c was → at frame ≡ None → AreFiled old cells at
    → chain.pair ≡ was.pair
    → ((xs : List ℕ) → IsChain old was xs → IsChain new chain (frame ∷ xs))
    → ((xs : List ℕ) → IsChain old was xs → KeepsOthers was.pair old new (frame ∷ xs))
    → AreFiled new (set cells c chain) (with_page frame (Some page) at)
filed_with old new cells at c frame page was chain read none filed pair list others =
    let n = length cells in
    let k = filed c was read.there in
    let falls = own_cell n page c read.own in
    filed_after old new cells at (with_page frame (Some page) at) c chain (frame ∷ k.frames) filed
    (record {
      pair = pair ∙ k.pair;
      frames = frame ∷ k.frames;
      chain_is = list k.frames k.chain_is;
      counted = counts_with n c at frame page [] k.frames falls none k.counted;
    })
    (subst (λ q. KeepsOthers q old new (frame ∷ k.frames)) k.pair (others k.frames k.chain_is))
    (λ d f ne t.
    let ne_frame : frame ≢ f = λ e. (let bad : false ≡ true = ap (falls_into n d) (sym none ∙ ap at e) ∙ t in absurd (cc)) in
    times_past f frame k.frames ne_frame ∙ lacks n c at k.frames f k.counted (one_cell n d c (at f) t (λ e. ne (sym e))))
    (λ d f ne. same_else n d frame (Some page) at (one_cell n c d (Some page) falls ne) (ap (falls_into n d) none) f)

-- the frame of a page is taken out of the page's cell
pub filed_without : (old new : Grid) (cells : List Ends) (at : Tags) (c frame : ℕ) (page : PageId) (was chain : Ends)
    → IsRead cells page c was → at frame ≡ Some page → AreFiled old cells at
    → chain.pair ≡ was.pair
    → ((front back : List ℕ) → IsChain old was (front ++ frame ∷ back) → IsChain new chain (front ++ back))
    → ((xs : List ℕ) → IsChain old was xs → KeepsOthers was.pair old new xs)
    → AreFiled new (set cells c chain) (with_page frame None at)
filed_without old new cells at c frame page was chain read some filed pair list others =
    let n = length cells in
    let k = filed c was read.there in
    let falls : falls_into n c (at frame) ≡ true = ap (falls_into n c) some ∙ own_cell n page c read.own in
    let p = placed frame k.frames (omega (arith, stands n c at k.frames frame k.counted falls)) in
    filed_after old new cells at (with_page frame None at) c chain k.frames filed
    (record {
      pair = pair ∙ k.pair;
      frames = p.0 ++ p.1;
      chain_is = list p.0 p.1 (subst (λ xs. IsChain old was xs) p.2 k.chain_is);
      counted = counts_without n c at frame p.0 p.1 falls (subst (λ xs. Counts n c at xs) p.2 k.counted);
    })
    (subst (λ q. KeepsOthers q old new k.frames) k.pair (others k.frames k.chain_is))
    (λ d f ne t. lacks n c at k.frames f k.counted (one_cell n d c (at f) t (λ e. ne (sym e))))
    (λ d f ne. same_else n d frame None at refl (one_cell n c d (at frame) falls ne) f)

-- another frame takes the place of the page's frame
pub filed_moved : (old new : Grid) (cells : List Ends) (at : Tags) (c from to : ℕ) (page : PageId) (was chain : Ends)
    → IsRead cells page c was → at from ≡ Some page → at to ≡ None → AreFiled old cells at
    → chain.pair ≡ was.pair
    → ((front back : List ℕ) → IsChain old was (front ++ from ∷ back) → IsChain new chain (front ++ to ∷ back))
    → ((xs : List ℕ) → IsChain old was xs → KeepsOthers was.pair old new (to ∷ xs))
    → AreFiled new (set cells c chain) (with_page to (Some page) (with_page from None at))
filed_moved old new cells at c from to page was chain read some none filed pair list others =
    let n = length cells in
    let k = filed c was read.there in
    let own_falls = own_cell n page c read.own in
    let falls : falls_into n c (at from) ≡ true = ap (falls_into n c) some ∙ own_falls in
    let p = placed from k.frames (omega (arith, stands n c at k.frames from k.counted falls)) in
    let left = with_page from None at in
    let two : to ≢ from = λ e. (let bad : ◌≡◌ {A = Option PageId} None (Some page) = sym none ∙ ap at e ∙ some in absurd (cc)) in
    let away : left to ≡ None = page_else from to None at two ∙ none in
    filed_after old new cells at (with_page to (Some page) left) c chain (to ∷ k.frames) filed
    (record {
      pair = pair ∙ k.pair;
      frames = p.0 ++ to ∷ p.1;
      chain_is = list p.0 p.1 (subst (λ xs. IsChain old was xs) p.2 k.chain_is);
      counted = counts_with n c left to page p.0 p.1 own_falls away (counts_without n c at from p.0 p.1 falls (subst (λ xs. Counts n c at xs) p.2 k.counted));
    })
    (subst (λ q. KeepsOthers q old new (to ∷ k.frames)) k.pair (others k.frames k.chain_is))
    (λ d f ne t.
    let ne_frame : to ≢ f = λ e. (let bad : false ≡ true = ap (falls_into n d) (sym none ∙ ap at e) ∙ t in absurd (cc)) in
    times_past f to k.frames ne_frame ∙ lacks n c at k.frames f k.counted (one_cell n d c (at f) t (λ e. ne (sym e))))
    (λ d f ne.
    same_else n d to (Some page) left (one_cell n c d (Some page) own_falls ne) (ap (falls_into n d) away) f
    ∙ same_else n d from None at refl (one_cell n c d (at from) falls ne) f)

-- a frame without a page stands in no cell
pub absent : (g : Grid) (cells : List Ends) (at : Tags) (c frame : ℕ) (was : Ends) → slice_get cells c ≡ Some was → at frame ≡ None → AreFiled g cells at
    → (xs : List ℕ) × IsChain g was xs × (times frame xs ≡ 0)
absent g cells at c frame was there none filed =
    let k = filed c was there in
    (k.frames, k.chain_is, lacks (length cells) c at k.frames frame k.counted (ap (falls_into (length cells) c) none))

-- the page's frame stands in the page's cell
pub present : (g : Grid) (cells : List Ends) (at : Tags) (c frame : ℕ) (page : PageId) (was : Ends) → IsRead cells page c was
    → at frame ≡ Some page → AreFiled g cells at → (front back : List ℕ) × IsChain g was (front ++ frame ∷ back)
present g cells at c frame page was read some filed =
    let n = length cells in
    let k = filed c was read.there in
    let falls : falls_into n c (at frame) ≡ true = ap (falls_into n c) some ∙ own_cell n page c read.own in
    let p = placed frame k.frames (omega (arith, stands n c at k.frames frame k.counted falls)) in
    (p.0, p.1, subst (λ xs. IsChain g was xs) p.2 k.chain_is)

-- chains without frames
abbrev pub AreEmpty : List Ends → Type 0
AreEmpty cells = (c : ℕ) (chain : Ends) → slice_get cells c ≡ Some chain → (chain.pair ≡ 0) × ((g : Grid) → 0 < g.pairs → IsChain g chain [])

pub empty_more : (cells : List Ends) (made : Ends) → AreEmpty cells → made.pair ≡ 0 → ((g : Grid) → 0 < g.pairs → IsChain g made []) → AreEmpty (cells ++ made ∷ [])
empty_more cells made empty pair chain c e is = elim (cases_lt c (length cells)) [
  | inl before ↦
      empty c e (slice_get_read cells (length cells) c e refl before
      (sym (get_or_from_slice_get (cells ++ made ∷ []) c e e is) ∙ get_or_append_left cells (made ∷ []) e c before))
  | inr behind ↦
      let last : length cells ≡ c = omega (arith, behind, slice_get_within (cells ++ made ∷ []) c e is, length-append cells (made ∷ [])) in
      let same : made ≡ e = sym (get_or_push cells made e c last) ∙ get_or_from_slice_get (cells ++ made ∷ []) c e e is in
      subst (λ (x : Ends). (x.pair ≡ 0) × ((g : Grid) → 0 < g.pairs → IsChain g x [])) same (pair, chain)
]

pub empty_filed : (g : Grid) (cells : List Ends) → AreEmpty cells → 0 < g.pairs → AreFiled g cells (λ f. None)
empty_filed g cells empty some c chain is =
    let e = empty c chain is in
    record { pair = e.0; frames = []; chain_is = e.1 g some; counted = λ f. refl }
