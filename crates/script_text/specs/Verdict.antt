-- Which bytes are a script, and which line it is that isn't in the grammar.
use Rattle.std.specs.Prelude.{ℕ, true, false, List, ◌∷◌, ◌++◌, ◌≡◌, ◌+◌, ◌<◌, ◌≤◌, ◌⊎◌, length}
use Rattle.script_text.specs.Plan.{Plan}
use Rattle.script_text.specs.declared.script.TheConstants.{SCRIPT_BYTES}
use Rattle.script_text.specs.Grammar.{SoFar, nothing_said, IsRefusedLine, AreRead, lines_of}
use Rattle.script_text.specs.Faults.{is_faulty}

abbrev pub plan_of : SoFar → Plan
plan_of s = record { config = s.config; threads = s.threads }

-- the bytes are a script that asks for this
pub record IsScript (bytes : List ℕ) (plan : Plan) : Type 0 where
  pub last : SoFar
  pub short : length bytes ≤ SCRIPT_BYTES
  pub read : AreRead nothing_said (lines_of bytes) last
  pub sound : is_faulty (plan_of last) ≡ false
  pub asked : plan ≡ plan_of last

-- all lines are in the grammar, and the whole has a fault
pub record IsFaulty (bytes : List ℕ) : Type 0 where
  pub last : SoFar
  pub short : length bytes ≤ SCRIPT_BYTES
  pub read : AreRead nothing_said (lines_of bytes) last
  pub faulty : is_faulty (plan_of last) ≡ true

-- the line with this number, from 1, is the first that isn't in the grammar
pub record IsBadLine (lines : List (List ℕ)) (n : ℕ) : Type 0 where
  pub earlier : List (List ℕ)
  pub line : List ℕ
  pub later : List (List ℕ)
  pub before : SoFar
  pub whole : lines ≡ earlier ++ line ∷ later
  pub number : length earlier + 1 ≡ n
  pub read : AreRead nothing_said earlier before
  pub bad : IsRefusedLine before line

-- the bytes are no script: line 0 for a script that is too long or whose whole has a fault
abbrev pub IsBadScript : List ℕ → ℕ → Type 0
IsBadScript bytes n =
    ((n ≡ 0) × ((SCRIPT_BYTES < length bytes) ⊎ IsFaulty bytes))
    ⊎ ((length bytes ≤ SCRIPT_BYTES) × IsBadLine (lines_of bytes) n)
