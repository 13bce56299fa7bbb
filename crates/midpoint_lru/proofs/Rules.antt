-- An `Lru` behind a rule, as a view.
use Rattle.std.proofs.Common.{◌≡◌, ◌∙◌, ◌==◌, ℕ, Bool, false, cond, List, ◌∷◌, set, Some, length, get_or, sym, ap, subst, unwrap_or}
use Rattle.std.specs.Prelude.{remove, slice_get, slice_set}
use Rattle.std.specs.Option.{option_map_or}
use Rattle.std.proofs.lemmas.Option.{slice_get-get_or}
use Rattle.page_ids.specs.Midpoint.{Listed, Order, place_of, old_length, touch, touched, moves, becomes_young, relocate}
use Rattle.midpoint_lru.specs.declared.lru.Lru.TheInside.{Inside}
use Rattle.midpoint_lru.specs.View.{View, Has}
use Rattle.midpoint_lru.specs.Parts.{Parts, IsIn}
use Rattle.midpoint_lru.specs.Inside.{view_of, IsKept, AreListedOnce}
use Rattle.midpoint_lru.proofs.Frames.{blank}

module _ (a : Inside) (v : View) (is : view_of a ≡ v) where
  pub frames_of : IsKept a → AreListedOnce v
  frames_of kept = subst AreListedOnce is kept.frames

  pub is_in : (f : ℕ) → Has v f → IsIn a.parts f
  is_in f h = subst (λ (w : View). Has w f) (sym is) h

  -- the one at a listed frame's place
  pub there_is : (f : ℕ) → Has v f → slice_get a.parts.listed (place_of ◌==◌ f a.parts.listed) ≡ Some (get_or a.parts.listed (place_of ◌==◌ f a.parts.listed) blank)
  there_is f h = slice_get-get_or a.parts.listed (place_of ◌==◌ f a.parts.listed) blank (is_in f h)

  pub room_is : v.room ≡ a.parts.room
  room_is = ap (λ (w : View). w.room) (sym is)

  pub evicts_is : a.evicts ≡ v.order.evicts
  evicts_is = ap (λ (w : View). w.order.evicts) is

  -- the view with another list
  pub seen : (parts : Parts) (evicts : ℕ) (o : Order ℕ) → parts.listed ≡ o.listed → evicts ≡ o.evicts → parts.room ≡ a.parts.room
      → ◌≡◌ {A = View} (record { numbers = record { pct = a.pct; time = a.time; min = a.min }; order = record { listed = parts.listed; evicts = evicts }; room = parts.room })
      (record v { order = o })
  seen parts evicts o listed counted room =
      let view = λ (w : View) (xs : List (Listed ℕ)) (n r : ℕ). let u : View = record { numbers = w.numbers; order = record { listed = xs; evicts = n }; room = r } in u in
      ap (view (view_of a) parts.listed evicts) room
      ∙ ap (λ (w : View). view w parts.listed evicts w.room) is
      ∙ ap (λ xs. view v xs evicts v.room) listed
      ∙ ap (λ n. view v o.listed n v.room) counted

-- just so many are old as the rule says, where they are settled so, or neither they nor the length changed
module _ (a : Inside) (parts : Parts) where
  pub exact_settled : (before : Parts) (old len : ℕ) → parts ≡ record before { old_len = old } → ((time : ℕ) → old ≡ old_length (record { pct = a.pct; time = time; min = a.min }) len)
      → len ≡ length before.listed → parts.old_len ≡ old_length (view_of a).numbers (length parts.listed)
  exact_settled before old len settled rule is =
      ap (λ (q : Parts). q.old_len) settled ∙ rule a.time ∙ ap (old_length (view_of a).numbers) (is ∙ ap (λ (q : Parts). length q.listed) (sym settled))

  pub exact_still : IsKept a → parts.old_len ≡ a.parts.old_len → length parts.listed ≡ length a.parts.listed → parts.old_len ≡ old_length (view_of a).numbers (length parts.listed)
  exact_still kept same long = same ∙ kept.exact ∙ ap (old_length (view_of a).numbers) (sym long)

-- what a touch comes to, where the one at the frame's place is known
module _ (v : View) (f now : ℕ) (x : Listed ℕ) (found : slice_get v.order.listed (place_of ◌==◌ f v.order.listed) ≡ Some x)
    (b : Bool) (test : b ≡ moves v.numbers now v.order (place_of ◌==◌ f v.order.listed) x) where
  pub young_is : becomes_young ◌==◌ v.numbers f now v.order ≡ b
  young_is = ap (λ z. option_map_or (λ y. moves v.numbers now v.order (place_of ◌==◌ f v.order.listed) y) z false) found ∙ sym test

  pub touched_is : (touch ◌==◌ v.numbers f now v.order).listed
      ≡ cond b (record { key = x.key; first = Some (unwrap_or x.first now); since = v.order.evicts } ∷ remove v.order.listed (place_of ◌==◌ f v.order.listed))
      (set v.order.listed (place_of ◌==◌ f v.order.listed) (record { key = x.key; first = Some (unwrap_or x.first now); since = x.since }))
  touched_is =
      let xs = v.order.listed in
      let i = place_of ◌==◌ f xs in
      ap (λ z. option_map_or (λ y. touched v.numbers now v.order i y) z xs) found
      ∙ ap (λ t. cond t (record { key = x.key; first = Some (unwrap_or x.first now); since = v.order.evicts } ∷ remove xs i)
      (set xs i (record { key = x.key; first = Some (unwrap_or x.first now); since = x.since }))) (sym test)

-- what a relocation comes to
pub relocated_is : (v : View) (old new : ℕ) (x : Listed ℕ) → slice_get v.order.listed (place_of ◌==◌ old v.order.listed) ≡ Some x
    → (relocate ◌==◌ old new v.order).listed ≡ slice_set v.order.listed (place_of ◌==◌ old v.order.listed) (record { key = new; first = x.first; since = x.since })
relocated_is v old new x found =
    let xs = v.order.listed in
    let i = place_of ◌==◌ old xs in
    ap (λ z. option_map_or (λ (x : Listed ℕ). slice_set xs i (record { key = new; first = x.first; since = x.since })) z xs) found
