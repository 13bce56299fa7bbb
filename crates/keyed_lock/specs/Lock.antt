-- The rule of a lock, whose table has one word and one slot.
use Rattle.std.specs.Prelude.{◌≡◌, ◌∷◌, [], Option, Some, slice_index, length}
use mathlib.Core.Option.{some}
use lib.ListN.{get_elem?}
use Rattle.atomic_table.specs.Seated.{TableId}
use Rattle.atomic_table.specs.Table.{State, Me}

abbrev pub IsSmall : TableId → Type 0
IsSmall id = (id.words ≡ 1) × (id.slots ≡ 1)

module _ {T V : Type 0} where
  -- where the word is 0, the value is at home and fits
  abbrev pub IsGuarded : (T → Type 0) → State (Option T) V → Type 0
  IsGuarded fits s = (length s.words ≡ 1)
      × (slice_index s.words 0 ≡ 0 → (value : T) × (get_elem? s.homes 0 ≡ some (some (Some value))) × fits value)

  -- a seat holds a value that fits
  abbrev pub IsSeized : (T → Type 0) → Me (Option T) V → Type 0
  IsSeized fits m = (value : T) × (m.1 ≡ (0, Some value) ∷ []) × fits value

  -- a seat holds the slot, and no other
  abbrev pub HasOnly : Me (Option T) V → Type 0
  HasOnly m = (held : Option T) × (m.1 ≡ (0, held) ∷ [])
