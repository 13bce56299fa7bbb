-- The frames of one thread.
use Rattle.std.specs.Prelude.{ℕ, Bool, true, false, List, ◌+◌, ◌-◌, ◌<◌, ◌^◌, Option, None, Some, IsSomeAnd, length, slice_index_or, slice_set}
use Rattle.std.specs.Option.{option_map, option_map_or}
use Rattle.page_ids.specs.Content.{Content}
use Rattle.page_ids.specs.declared.ids.PageId.{PageId}
use Rattle.page_ids.specs.declared.limits.TheConstants.{FIX_BITS}
use Rattle.frame_words.specs.Rows.{Row, new_row, held_row}
use Rattle.frame_words.specs.Seen.{FramesSeen, visits_of}

-- its frames, the one that is visited, and that of a create whose visit is still to come
pub record Plain : Type 0 where
  pub rows : List Row
  pub visit : Option ℕ
  pub owed : Option ℕ

-- it tells each fix, and no history
abbrev pub seen_of : Plain → FramesSeen
seen_of p = record { rows = p.rows; visit = p.visit; owed = p.owed; history = None; base = None; turn = None; opened = None; found = None }

-- a row whose fixes and image are told
abbrev pub row_of : Bool → ℕ → PageId → Bool → Option Content → ℕ → Row
row_of resident clock page latched image held =
    record { resident = resident; clock = clock; page = page; latched = latched; image = option_map Some image; held = Some held }

-- whether the content of the image is told, where there is one
abbrev pub is_told : Option (Option Content) → Bool
is_told None = true
is_told (Some None) = false
is_told (Some (Some c)) = true

-- the fixes of a frame that are no visits
abbrev pub held_of : Row → ℕ
held_of r = option_map_or (λ held. held) r.held 0

-- so many fixes that are no visits are told, and with the visits they fit a word
abbrev pub FitsInWord : Option ℕ → ℕ → Type 0
FitsInWord held visits = IsSomeAnd held (λ n. n + visits < 2 ^ FIX_BITS)

abbrev pub FitPlain : List Row → Option ℕ → Type 0
FitPlain rows visit = (f : ℕ) → f < length rows → FitsInWord (slice_index_or rows f new_row).held (visits_of visit f)

-- for how many more fixes there is room in the word of a frame
abbrev pub room_of : Plain → ℕ → ℕ
room_of p f = 2 ^ FIX_BITS - 1 - held_of (slice_index_or p.rows f new_row)

-- the visit of the frame becomes a held fix
abbrev pub held_at : Plain → ℕ → Plain
held_at p f = record p { rows = slice_set p.rows f (held_row (slice_index_or p.rows f new_row)); visit = None }

-- one fix less that is no visit
abbrev pub unheld_row : Row → Row
unheld_row r = record r { held = option_map (λ n. n - 1) r.held }

-- a held fix of the frame becomes a visit
abbrev pub unheld_at : Plain → ℕ → Plain
unheld_at p f = record p { rows = slice_set p.rows f (unheld_row (slice_index_or p.rows f new_row)); visit = Some f }
