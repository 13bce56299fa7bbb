-- What callers see of a flush list.
use Rattle.std.specs.Prelude.{ℕ, not, List, [], ◌∷◌, Option, None, Some, ◌<◌, ◌≤◌, ◌≢◌, ◌==◌, All, AllPairs, map, filter, length, if◌then◌else◌}
use Rattle.std.specs.List.{position_or_len}

-- a dirty page by its frame, and the LSN at which its first change that isn't on the disk starts
pub record Node : Type 0 where
  pub frame : ℕ
  pub oldest : ℕ

-- the nodes, the head first, and the room: frames below it can be listed
pub record View : Type 0 where
  pub listed : List Node
  pub room : ℕ

-- the place of a frame, and the length where it isn't listed
abbrev pub place_of : ℕ → List Node → ℕ
place_of frame xs = position_or_len (λ x. x.frame == frame) xs

-- the frame is listed
abbrev pub Has : View → ℕ → Type 0
Has v frame = place_of frame v.listed < length v.listed

-- there is room for the frame, and it is not listed
pub record IsNew (v : View) (frame : ℕ) : Type 0 where
  pub room : frame < v.room
  pub away : ¬ Has v frame

-- the LSN is at least the head's
abbrev pub IsNewest : ℕ → List Node → Type 0
IsNewest oldest [] = Unit {0}
IsNewest oldest (x ∷ xs) = x.oldest ≤ oldest

-- Each frame is listed once, only those below the room are, and the oldest LSNs don't rise from the head to the tail.
pub record IsInOrder (v : View) : Type 0 where
  pub once : AllPairs (λ x y. x.frame ≢ y.frame) v.listed
  pub below : All (λ x. x.frame < v.room) v.listed
  pub falling : AllPairs (λ x y. y.oldest ≤ x.oldest) v.listed
  pub few : length v.listed ≤ v.room

-- all but the node of a frame
abbrev pub without : ℕ → List Node → List Node
without frame xs = filter (λ x. not (x.frame == frame)) xs

-- a node whose page moved from one frame to another, and any other node as it is
abbrev pub moved : ℕ → ℕ → Node → Node
moved old new x = if x.frame == old then record { frame = new; oldest = x.oldest } else x

-- all nodes behind such a move
abbrev pub relocated : ℕ → ℕ → List Node → List Node
relocated old new xs = map (moved old new) xs

-- the last node, or what stands before the first
abbrev pub last_or : Option Node → List Node → Option Node
last_or before [] = before
last_or before (x ∷ xs) = last_or (Some x) xs

-- the tail, where there is one
abbrev pub tail_of : List Node → Option Node
tail_of xs = last_or None xs

-- the node before that of a frame, or what stands before the first
abbrev pub before_or : Option Node → ℕ → List Node → Option Node
before_or before frame [] = None
before_or before frame (x ∷ xs) = if x.frame == frame then before else before_or (Some x) frame xs

-- the node next to that of a frame towards the head; none in front of the head
abbrev pub next_up : ℕ → List Node → Option Node
next_up frame xs = before_or None frame xs
