-- A list whose last ones are old, and where one is put in or taken out.
use Rattle.std.specs.Prelude.{ℕ, List, Option, None, Some, ◌<◌, ◌-◌, ◌==◌, length, nat_lt, if◌then◌else◌}
use Rattle.page_ids.specs.Midpoint.{Listed, place_of}

-- the frames in order, how many of them are old, and the room: frames below it can be listed
pub record Parts : Type 0 where
  pub listed : List (Listed ℕ)
  pub old_len : ℕ
  pub room : ℕ

-- how many are young: the first ones
abbrev pub young : Parts → ℕ
young p = length p.listed - p.old_len

-- the frame is listed
abbrev pub IsIn : Parts → ℕ → Type 0
IsIn p frame = place_of ◌==◌ frame p.listed < length p.listed

-- there is room for the frame, and it isn't listed
pub record IsOut (p : Parts) (frame : ℕ) : Type 0 where
  pub room : frame < p.room
  pub away : ¬ IsIn p frame

-- how many are old without the one at this place
abbrev pub old_without : Parts → ℕ → ℕ
old_without p i = if nat_lt i (young p) then p.old_len else p.old_len - 1

-- another node where this one is the frame, and else this one
abbrev pub instead : Option ℕ → ℕ → Option ℕ → Option ℕ
instead None frame other = None
instead (Some x) frame other = if x == frame then other else Some x
