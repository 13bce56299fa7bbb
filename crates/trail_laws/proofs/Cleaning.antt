-- A clean that writes the page that is dirty first, again and again, wrote the first of the pages that were dirty where it began.
use Rattle.std.proofs.Common.{◌≡◌, ◌≤◌, ℕ, zero, suc, Bool, cond, List, [], ◌∷◌, ◌++◌, Some, IsSome, length, refl, ap, ◌∙◌, sym, subst}
use Rattle.std.specs.Prelude.{drop, take}
use Rattle.std.specs.Option.{option_map, option_to_list}
use Rattle.trail.specs.declared.event.Dirty.{Dirty}
use Rattle.trail.specs.declared.event.Kind.{Kind}
use Rattle.trail.specs.declared.event.Entry.{Entry}
use Rattle.trail.specs.Kinds.{Writing, write_in}
use Rattle.trail.specs.Dirt.{dirt_of, dirty, pages_of}
use Rattle.trail.specs.Preceding.{AreWrites, kinds}
use Rattle.trail.specs.Covered.{IsCoveredWrite}
use Rattle.trail.specs.Legal.{written_pages}
use Rattle.page_ids.proofs.Basics.{same_self}
use Rattle.trail.proofs.DirtyPages.{front_leaves}
use Rattle.trail_laws.specs.Adding.{AreOldest, IsOldest}

-- a list from a place on
behind_one : {A : Type 0} → (n : ℕ) (xs : List A) (x : A) (rest : List A) → drop n xs ≡ x ∷ rest → (take (suc n) xs ≡ take n xs ++ x ∷ []) × (drop (suc n) xs ≡ rest)
behind_one zero [] x rest is = absurd (cc)
behind_one zero (y ∷ xs) x rest is = let same : y ≡ x = cc in let more : xs ≡ rest = cc in (ap (λ z. z ∷ []) same, more)
behind_one (suc n) [] x rest is = absurd (cc)
behind_one (suc n) (y ∷ xs) x rest is = let next = behind_one n xs x rest is in (ap (λ l. y ∷ l) next.0, next.1)

-- the pages that are still dirty, and those that were written
pub oldest_first : (made base : List Entry) → AreOldest made base → (written_pages made ≡ take (length made) (pages_of (dirty base))) × (pages_of (dirty (made ++ base)) ≡ drop (length made) (pages_of (dirty base)))
oldest_first [] base oldest = (refl, refl)
oldest_first (e ∷ made) base oldest =
    let was = oldest_first made base oldest.1 in
    let at : IsOldest (made ++ base) e.kind = oldest.0 in
    let here : drop (length made) (pages_of (dirty base)) ≡ at.dirt.page ∷ pages_of at.rest = sym was.1 ∙ ap pages_of at.first_is in
    let next = behind_one (length made) (pages_of (dirty base)) at.dirt.page (pages_of at.rest) here in
    let wrote : written_pages (e ∷ made) ≡ written_pages made ++ at.dirt.page ∷ [] =
    ap (λ k. written_pages made ++ option_to_list (option_map (λ (w : Writing). w.page) (write_in k))) at.kind_is in
    (wrote ∙ ap (λ l. l ++ at.dirt.page ∷ []) was.0 ∙ sym next.0, ap pages_of (front_leaves (made ++ base) e at.dirt at.rest at.dirt.newest at.upto at.first_is at.kind_is) ∙ sym next.1)

pub oldest_writes : (made base : List Entry) → AreOldest made base → AreWrites (kinds made)
oldest_writes [] base oldest = tt
oldest_writes (e ∷ made) base oldest = let W : Kind → Type 0 = λ k. IsSome (write_in k) in (subst W (sym oldest.0.kind_is) refl, oldest_writes made base oldest.1)

-- such a write is covered
pub oldest_covered : (h : List Entry) (d : Dirty) (rest : List Dirty) (upto : ℕ) → dirty h ≡ d ∷ rest → d.newest ≤ upto → IsCoveredWrite h d.page d.newest upto
oldest_covered h d rest upto first logged = record {
  dirt = d;
  is_dirty = ap (λ ds. dirt_of ds d.page) first ∙ ap (λ (b : Bool). cond b (Some d) (dirt_of rest d.page)) (same_self d.page);
  newest = refl;
  logged = logged;
}
