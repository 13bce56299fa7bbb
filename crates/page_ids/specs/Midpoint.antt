-- The LRU list with its midpoint, as rules over keys of any kind: in the code the keys are frames, in a history pages.
-- A test `is` tells keys apart. The head stands first.
use Rattle.std.specs.Prelude.{map, All, drop, count_by, ℕ, Bool, false, List, [], ◌∷◌, Option, None, Some, ◌≡◌, ◌==◌, ◌||◌, ◌+◌, ◌-◌, ◌*◌, ◌/◌, ◌<◌, nat_le, nat_lt, length, insert, remove, slice_get, slice_set, unwrap_or, if◌then◌else◌}
use Rattle.std.specs.List.{position_or_len}
use Rattle.std.specs.Option.{option_map_or}
use Rattle.page_ids.specs.declared.config.Config.{Config}

-- The old sublist's share in percent, the time that a page stays old after its first access,
-- and the length below which there is no old sublist.
pub record Numbers : Type 0 where
  pub pct : ℕ
  pub time : ℕ
  pub min : ℕ

-- those of a pool's numbers
abbrev pub numbers_of : Config → Numbers
numbers_of c = record { pct = c.old_pct; time = c.old_time; min = c.old_min }

-- one of the list: the moment of its first access, none before that;
-- and how many evictions there had been when it was read in or last moved to the head
pub record Listed (K : Type 0) : Type 0 where
  pub key : K
  pub first : Option ℕ
  pub since : ℕ

-- the list, and how many evictions there were
pub record Order (K : Type 0) : Type 0 where
  pub listed : List (Listed K)
  pub evicts : ℕ

-- no page, no eviction
abbrev pub empty_order : {K : Type 0} → Order K
empty_order = record { listed = []; evicts = 0 }

-- how many of so many are old: the last ones
abbrev pub old_length : Numbers → ℕ → ℕ
old_length n len = if nat_le n.min len then len * n.pct / 100 else 0

-- how many are young: the first ones
abbrev pub young_length : Numbers → ℕ → ℕ
young_length n len = len - old_length n len

-- where the next one is put in: at the head of the old sublist, or of the list where nothing is old
abbrev pub midpoint : Numbers → ℕ → ℕ
midpoint n len = if old_length n len == 0 then 0 else young_length n len

-- the old ones, in the list's order
abbrev pub old_part : {K : Type 0} → Numbers → Order K → List (Listed K)
old_part n o = drop (young_length n (length o.listed)) o.listed

-- the place of a key, and the length where it isn't listed
abbrev pub place_of : {K : Type 0} → (K → K → Bool) → K → List (Listed K) → ℕ
place_of is key xs = position_or_len (λ x. is x.key key) xs

-- the key has a place in the list
abbrev pub IsListed : {K : Type 0} → (K → K → Bool) → K → Order K → Type 0
IsListed is key o = place_of is key o.listed < length o.listed

-- how many of the listed keys pass a test
abbrev pub count_of : {K : Type 0} → (K → Bool) → List (Listed K) → ℕ
count_of test xs = count_by (λ x. test x.key) xs

-- a page is read in or created
abbrev pub read_in : {K : Type 0} → Numbers → K → Order K → Order K
read_in n key o = record o {
  listed = insert o.listed (midpoint n (length o.listed)) (record { key = key; first = None; since = o.evicts });
}

-- whether so much time has passed since the first access; never at the first access
abbrev pub has_waited : ℕ → Option ℕ → ℕ → Bool
has_waited time None now = false
has_waited time (Some first) now = nat_le (first + time) now

-- Whether a touch of the one at this place moves it to the head. An old one has to have waited, unless the time is 0;
-- a young one moves where four times the evictions since it was put in or moved are at least the young length.
abbrev pub moves : {K : Type 0} → Numbers → ℕ → Order K → ℕ → Listed K → Bool
moves n now o i x =
    if nat_lt i (young_length n (length o.listed)) then nat_le (young_length n (length o.listed)) (4 * (o.evicts - x.since))
    else (n.time == 0 || has_waited n.time x.first now)

-- the list after a touch of the one at this place; the first touch is the first access
abbrev pub touched : {K : Type 0} → Numbers → ℕ → Order K → ℕ → Listed K → List (Listed K)
touched n now o i x =
    if moves n now o i x
    then record { key = x.key; first = Some (unwrap_or x.first now); since = o.evicts } ∷ remove o.listed i
    else slice_set o.listed i (record { key = x.key; first = Some (unwrap_or x.first now); since = x.since })

-- a page is touched at this moment; one that isn't listed leaves the list
abbrev pub touch : {K : Type 0} → (K → K → Bool) → Numbers → K → ℕ → Order K → Order K
touch is n key now o =
    let i = place_of is key o.listed in
    record o { listed = option_map_or (λ x. touched n now o i x) (slice_get o.listed i) o.listed }

-- whether that moves it to the head
abbrev pub becomes_young : {K : Type 0} → (K → K → Bool) → Numbers → K → ℕ → Order K → Bool
becomes_young is n key now o =
    let i = place_of is key o.listed in
    option_map_or (λ x. moves n now o i x) (slice_get o.listed i) false

-- a page is evicted
abbrev pub evict : {K : Type 0} → (K → K → Bool) → K → Order K → Order K
evict is key o = record { listed = remove o.listed (place_of is key o.listed); evicts = o.evicts + 1 }

-- a page goes by another key: it keeps its place, first access and measure
abbrev pub relocate : {K : Type 0} → (K → K → Bool) → K → K → Order K → Order K
relocate is old new o =
    let i = place_of is old o.listed in
    record o { listed = option_map_or (λ x. slice_set o.listed i (record { key = new; first = x.first; since = x.since })) (slice_get o.listed i) o.listed }

-- the same under another key
abbrev pub rekeyed : {K L : Type 0} → (K → L) → Listed K → Listed L
rekeyed g x = record { key = g x.key; first = x.first; since = x.since }

-- of a whole list
abbrev pub under : {K L : Type 0} → (K → L) → Order K → Order L
under g o = record { listed = map (rekeyed g) o.listed; evicts = o.evicts }

-- a key is told apart from those listed, also by what g makes of them
abbrev pub IsToldApart : {K L : Type 0} → (K → K → Bool) → (L → L → Bool) → (K → L) → K → List (Listed K) → Type 0
IsToldApart is over g key xs = All (λ x. over (g x.key) (g key) ≡ is x.key key) xs
