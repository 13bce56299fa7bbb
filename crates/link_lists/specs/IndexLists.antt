-- What callers see of an `IndexList`: a list of numbers below a room, each once.
use Rattle.std.specs.Prelude.{ℕ, List, ◌≡◌, ◌<◌, ◌≤◌, length}
use Rattle.link_lists.specs.Grid.{times}

-- the numbers in order, and the room: those below it can be listed
pub record IndexList : Type 0 where
  pub items : List ℕ
  pub room : ℕ

-- the number is listed
abbrev pub Has : IndexList → ℕ → Type 0
Has l x = 1 ≤ times x l.items

-- there is room for the number, and it isn't listed
pub record IsNew (l : IndexList) (x : ℕ) : Type 0 where
  pub room : x < l.room
  pub away : times x l.items ≡ 0

-- each number is listed once, and is below the room; so there are no more than that
pub record IsInOrder (l : IndexList) : Type 0 where
  pub once : (x : ℕ) → times x l.items ≤ 1
  pub below : (x : ℕ) → Has l x → x < l.room
  pub few : length l.items ≤ l.room
