-- What callers see of a frame book, and what each call makes of it: the rules of the free list and the withdraw list, in its chunks.
use Rattle.std.specs.Prelude.{ℕ, Bool, false, true, [], Option, None, Some, ◌≡◌, ◌<◌, ◌≤◌, ◌+◌, ◌*◌, IfSome, max}
use Rattle.std.specs.Option.{option_map_or, unwrap_or}
use Rattle.link_lists.specs.Grid.{times}
use Rattle.page_ids.specs.FrameLists as rule
use Rattle.page_ids.specs.FrameLists.{FrameLists}

-- the frames of a chunk, the most chunks, the chunks that are there, the first withdrawn one, both lists,
-- and the room: there is memory for the frames below it
pub record View : Type 0 where
  pub frames : ℕ
  pub max : ℕ
  pub chunks : ℕ
  pub area : Option ℕ
  pub lists : FrameLists
  pub room : ℕ

-- the frames that are there: the numbers below this one
abbrev pub frames_of : View → ℕ
frames_of v = v.chunks * v.frames

-- whether the frame lies in the area
abbrev pub is_inside : View → ℕ → Bool
is_inside v f = rule.is_inside v.frames v.area f

-- how often a frame stands on both lists together
abbrev pub times_on : FrameLists → ℕ → ℕ
times_on l f = times f l.free + times f l.withdrawn

-- the frame is there, and on neither list
pub record IsInUse (v : View) (f : ℕ) : Type 0 where
  pub there : f < frames_of v
  pub away : times_on v.lists f ≡ 0

-- an area is open, and each of its frames is on the withdraw list
pub record IsAllWithdrawn (v : View) : Type 0 where
  pub from : ℕ
  pub opened : v.area ≡ Some from
  pub all : (f : ℕ) → from * v.frames ≤ f → f < frames_of v → 0 < times f v.lists.withdrawn

-- The frames on the lists are there and stand once in both together, and the withdrawn ones are those that lie in the area.
pub record IsInOrder (v : View) : Type 0 where
  pub few : v.frames * v.max ≤ 16384
  pub most : v.chunks ≤ v.max
  pub full : 1 ≤ v.frames
  pub area : IfSome v.area (λ from. (1 ≤ from) × (from < v.chunks))
  pub once : (f : ℕ) → times_on v.lists f ≤ 1
  pub there : (f : ℕ) → 0 < times_on v.lists f → f < frames_of v
  pub free : (f : ℕ) → 0 < times f v.lists.free → is_inside v f ≡ false
  pub withdrawn : (f : ℕ) → 0 < times f v.lists.withdrawn → is_inside v f ≡ true
  pub closed : v.area ≡ None → v.lists.withdrawn ≡ []

-- the front of the free list is taken, where there is one
abbrev pub taken : View → View
taken v = record v { lists = option_map_or (λ f. rule.taken f v.lists) (rule.front v.lists.free) v.lists }

-- a frame is given back
abbrev pub given : ℕ → View → View
given f v = record v { lists = rule.given (is_inside v f) f v.lists }

-- one chunk more, whose frames are free
abbrev pub grown : View → View
grown v = record v {
  chunks = v.chunks + 1;
  lists = rule.grown (frames_of v) v.frames v.lists;
  room = max v.room ((v.chunks + 1) * v.frames);
}

-- the chunks from this one upwards are the area, and its free frames are withdrawn
abbrev pub withdrawing : ℕ → View → View
withdrawing from v = record v { area = Some from; lists = rule.withdrawing (from * v.frames) v.lists }

-- the withdrawn frames are free again, and no area is open
abbrev pub undone : View → View
undone v = record v { area = None; lists = rule.undone v.lists }

-- the area's chunks are gone
abbrev pub finished : View → View
finished v = record v { chunks = unwrap_or v.area v.chunks; area = None; lists = rule.shrunk v.lists }
