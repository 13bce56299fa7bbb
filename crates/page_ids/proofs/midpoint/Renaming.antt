-- Each rule of the LRU list goes through a renaming of the keys.
use Rattle.std.proofs.Common.{◌≡◌, ◌∙◌, ◌+◌, ◌<◌, ℕ, suc, Bool, true, false, not, cond, ◌≢◌, inl, inr, List, [], ◌∷◌, ◌++◌, length, get_or, take, drop, set, Option, Some, None, refl, sym, ap, arith, unwrap_or}
use Rattle.std.specs.Prelude.{map, insert, remove, All, slice_get, slice_set}
use Rattle.std.specs.Option.{option_map, option_map_or}
use Rattle.std.specs.List.{position_or_len}
use Rattle.std.proofs.lemmas.List.{map-append, take-map, drop-map, length-map, map-set, get_or-map, same_lists, length-set, get_or-set_same, get_or-set_other}
use Rattle.std.proofs.lemmas.Option.{slice_get-get_or, slice_get-map}
use Rattle.std.proofs.lemmas.Bool.{cases_eq}
use Rattle.std.proofs.lemmas.List.Sums.{passes_at_first}
use Rattle.page_ids.specs.Midpoint.{Numbers, Listed, Order, place_of, read_in, touch, touched, moves, evict, relocate, rekeyed, under, IsToldApart, IsListed, midpoint}

module _ {X Y : Type 0} where
  pub map-insert : (f : X → Y) (xs : List X) (i : ℕ) (x : X) → map f (insert xs i x) ≡ insert (map f xs) i (f x)
  map-insert f xs i x =
      map-append f (take i xs) (x ∷ drop i xs)
      ∙ sym (ap (λ a. a ++ (f x ∷ map f (drop i xs))) (take-map f i xs))
      ∙ ap (λ a. take i (map f xs) ++ (f x ∷ a)) (sym (drop-map f i xs))

  pub map-remove : (f : X → Y) (xs : List X) (i : ℕ) → map f (remove xs i) ≡ remove (map f xs) i
  map-remove f xs i =
      map-append f (take i xs) (drop (suc i) xs)
      ∙ sym (ap (λ a. a ++ map f (drop (suc i) xs)) (take-map f i xs))
      ∙ ap (λ a. take i (map f xs) ++ a) (sym (drop-map f (suc i) xs))

  -- tests that agree at each element find the same place
  pub position-map : (f : X → Y) (p : Y → Bool) (q : X → Bool) (xs : List X) → All (λ x. p (f x) ≡ q x) xs → position_or_len p (map f xs) ≡ position_or_len q xs
  position-map f p q [] h = refl
  position-map f p q (x ∷ xs) h =
      ap (λ b. cond (not b) (1 + position_or_len p (map f xs)) 0) (h 0 x (omega arith))
      ∙ ap (λ k. cond (not (q x)) (1 + k) 0) (position-map f p q xs (λ k d l. h (suc k) d (omega arith)))

  map-cond : (f : X → Y) (b : Bool) (xs ys : List X) → map f (cond b xs ys) ≡ cond b (map f xs) (map f ys)
  map-cond f true xs ys = refl
  map-cond f false xs ys = refl

module _ {K L : Type 0} where
  pub place-under : (is : K → K → Bool) (over : L → L → Bool) (g : K → L) (key : K) (xs : List (Listed K)) → IsToldApart is over g key xs
      → place_of over (g key) (map (rekeyed g) xs) ≡ place_of is key xs
  place-under is over g key xs h = position-map (rekeyed g) (λ x. over x.key (g key)) (λ x. is x.key key) xs h

  pub read_in-under : (g : K → L) (n : Numbers) (key : K) (o : Order K) → under g (read_in n key o) ≡ read_in n (g key) (under g o)
  read_in-under g n key o =
      ap (λ xs. let r : Order L = record { listed = xs; evicts = o.evicts } in r)
      (map-insert (rekeyed g) o.listed _ _
      ∙ ap (λ k. insert (map (rekeyed g) o.listed) (midpoint n k) (record { key = g key; first = None; since = o.evicts })) (sym (length-map o.listed (rekeyed g))))

  pub evict-under : (is : K → K → Bool) (over : L → L → Bool) (g : K → L) (key : K) (o : Order K) → IsToldApart is over g key o.listed
      → under g (evict is key o) ≡ evict over (g key) (under g o)
  evict-under is over g key o h =
      ap (λ xs. let r : Order L = record { listed = xs; evicts = o.evicts + 1 } in r)
      (map-remove (rekeyed g) o.listed _ ∙ ap (λ k. remove (map (rekeyed g) o.listed) k) (sym (place-under is over g key o.listed h)))

  map_same : (g k : K → L) (xs : List (Listed K)) → All (λ x. g x.key ≡ k x.key) xs → map (rekeyed g) xs ≡ map (rekeyed k) xs
  map_same g k [] h = refl
  map_same g k (x ∷ xs) h =
      ap (λ key. let y : Listed L = record { key = key; first = x.first; since = x.since } in y ∷ map (rekeyed g) xs) (h 0 x (omega arith))
      ∙ ap (λ ys. rekeyed k x ∷ ys) (map_same g k xs (λ i d l. h (suc i) d (omega arith)))

  -- what a touch makes of the list at one place
  touched-under : (g : K → L) (n : Numbers) (now : ℕ) (o : Order K) (i : ℕ) (x : Listed K)
      → map (rekeyed g) (touched n now o i x) ≡ touched n now (under g o) i (rekeyed g x)
  touched-under g n now o i x =
      let r = rekeyed g in
      let b = moves n now o i x in
      let b' = moves n now (under g o) i (rekeyed g x) in
      let y : Listed K = record { key = x.key; first = Some (unwrap_or x.first now); since = o.evicts } in
      let z : Listed K = record { key = x.key; first = Some (unwrap_or x.first now); since = x.since } in
      map-cond r b (y ∷ remove o.listed i) (set o.listed i z)
      ∙ ap (λ t. cond t (r y ∷ map r (remove o.listed i)) (map r (set o.listed i z))) (moves-under g n now o i x)
      ∙ ap (λ ys. cond b' (r y ∷ ys) (map r (set o.listed i z))) (map-remove r o.listed i)
      ∙ ap (λ ys. cond b' (r y ∷ remove (map r o.listed) i) ys) (map-set r o.listed i z)
    where
      moves-under : (g : K → L) (n : Numbers) (now : ℕ) (o : Order K) (i : ℕ) (x : Listed K) → moves n now o i x ≡ moves n now (under g o) i (rekeyed g x)
      moves-under g n now o i x = rw (length-map o.listed (rekeyed g)) refl

  found-under : (g : K → L) (n : Numbers) (now : ℕ) (o : Order K) (i : ℕ) (x : Option (Listed K))
      → map (rekeyed g) (option_map_or (λ y. touched n now o i y) x o.listed)
      ≡ option_map_or (λ y. touched n now (under g o) i y) (option_map (rekeyed g) x) (map (rekeyed g) o.listed)
  found-under g n now o i None = refl
  found-under g n now o i (Some x) = touched-under g n now o i x

  pub touch-under : (is : K → K → Bool) (over : L → L → Bool) (g : K → L) (n : Numbers) (key : K) (now : ℕ) (o : Order K) → IsToldApart is over g key o.listed
      → under g (touch is n key now o) ≡ touch over n (g key) now (under g o)
  touch-under is over g n key now o h =
      let xs = o.listed in
      let i = place_of is key xs in
      let ys = map (rekeyed g) xs in
      ap (λ zs. let r : Order L = record { listed = zs; evicts = o.evicts } in r)
      (found-under g n now o i (slice_get xs i)
      ∙ ap (λ x. option_map_or (λ y. touched n now (under g o) i y) x ys) (sym (slice_get-map (rekeyed g) xs i))
      ∙ ap (λ j. option_map_or (λ y. touched n now (under g o) j y) (slice_get ys j) ys) (sym (place-under is over g key xs h)))

  -- names that agree on the keys give the same list
  pub under-same : (g k : K → L) (o : Order K) → All (λ x. g x.key ≡ k x.key) o.listed → under g o ≡ under k o
  under-same g k o h = ap (λ ys. let r : Order L = record { listed = ys; evicts = o.evicts } in r) (map_same g k o.listed h)

  -- A key that moves to another one's name: the list under the new names is the list under the old ones.
  pub relocate-under : (is : K → K → Bool) (g k : K → L) (old new : K) (o : Order K) → IsListed is old o
      → ((x : K) → is x old ≡ true → k new ≡ g x)
      → ((i : ℕ) (x : Listed K) → slice_get o.listed i ≡ Some x → i ≢ place_of is old o.listed → k x.key ≡ g x.key)
      → under k (relocate is old new o) ≡ under g o
  relocate-under is g k old new o l there others =
      let xs = o.listed in
      let i = place_of is old xs in
      let blank : Listed K = record { key = old; first = None; since = 0 } in
      let x = get_or xs i blank in
      let y : Listed K = record { key = new; first = x.first; since = x.since } in
      let key = there x.key (passes_at_first (λ (x : Listed K). is x.key old) xs blank l) in
      let moved = λ (z : Option (Listed K)). option_map_or (λ (x : Listed K). slice_set xs i (record { key = new; first = x.first; since = x.since })) z xs in
      ap (λ ys. let r : Order L = record { listed = ys; evicts = o.evicts } in r)
      (ap (λ z. map (rekeyed k) (moved z)) (slice_get-get_or xs i blank l)
      ∙ same_lists (map (rekeyed k) (set xs i y)) (map (rekeyed g) xs)
      (length-map (set xs i y) (rekeyed k) ∙ length-set xs i y ∙ sym (length-map xs (rekeyed g)))
      (λ j d w.
      let within : j < length xs = omega (arith, w, length-map (set xs i y) (rekeyed k), length-set xs i y) in
      get_or-map (rekeyed k) (set xs i y) j blank d (omega (arith, length-set xs i y))
      ∙ elim (cases_eq j i) [
        | inl e ↦ ap (rekeyed k) (ap (λ m. get_or (set xs i y) m blank) e ∙ get_or-set_same xs i y blank l)
            ∙ ap (λ q. let r : Listed L = record { key = q; first = x.first; since = x.since } in r) key
            ∙ ap (λ m. rekeyed g (get_or xs m blank)) (sym e)
        | inr ne ↦ ap (rekeyed k) (get_or-set_other xs i j y blank ne)
            ∙ ap (λ q. let z = get_or xs j blank in let r : Listed L = record { key = q; first = z.first; since = z.since } in r)
            (others j (get_or xs j blank) (slice_get-get_or xs j blank within) ne)
      ]
      ∙ sym (get_or-map (rekeyed g) xs j blank d within)))
