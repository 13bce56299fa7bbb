-- The words behind the program's name.
use Rattle.std.specs.Prelude.{ℕ, Bool, false, List, [], ◌∷◌, ◌≡◌, ◌==◌, ◌<◌, ◌^◌, not, IsTrue, codes}
use Rattle.std.specs.Fmt.{decimal}
use Rattle.script_text.specs.declared.program.Program.{Program}
use Rattle.script_text.specs.declared.program.Program.TheVariants.{Run, Check}

-- not empty, and not beginning with a dash
abbrev pub is_word : List ℕ → Bool
is_word [] = false
is_word (b ∷ bytes) = not (b == 45)

-- the words are `run SPACE FILE LOG`
abbrev pub IsRun : List (List ℕ) → ℕ → List ℕ → List ℕ → Type 0
IsRun words space file log = (words ≡ codes "run" ∷ decimal space ∷ file ∷ log ∷ []) × (space < 2 ^ 32) × IsTrue (is_word file) × IsTrue (is_word log)

-- the words call for this
abbrev pub IsCalled : List (List ℕ) → Program → Type 0
IsCalled words (Run space file log) = IsRun words space file log
IsCalled words Check = words ≡ codes "check" ∷ []
