-- What was read of a source, and why it was not read to its end.
use Rattle.std.specs.Prelude.{ℕ, List, [], ⊤, ◌≡◌, ◌≤◌, ◌+◌, ◌++◌, Option, Some, length}
use Rattle.page_ids.specs.Faults.{Rose}
use Rattle.script_run.specs.declared.ends.ReadErr.{ReadErr}
use Rattle.script_run.specs.declared.ends.ReadErr.TheVariants as refusal
use Rattle.script_run.specs.declared.ends.NoScript.{NoScript}
use Rattle.script_run.specs.declared.ends.NoScript.TheVariants as none
use Rattle.script_text.specs.Plan.{Plan}
use Rattle.script_text.specs.Verdict.{IsScript, IsBadScript}

-- A source that told its bytes tells the rest of them: what was taken is a beginning, and with those that were taken before these are at most so many.
abbrev pub IsTakenWithin : ℕ → ℕ → Option (List ℕ) → Option (List ℕ) → Type 0
IsTakenWithin had most before after = (bytes : List ℕ) → before ≡ Some bytes
    → (taken : List ℕ) × (rest : List ℕ) × (after ≡ Some rest) × (bytes ≡ taken ++ rest) × (had + length taken ≤ most)

-- a fault comes only where the source's count rose
abbrev pub IsReadErr : ℕ → ℕ → ReadErr → Type 0
IsReadErr before now refusal.OutOfMemory = ⊤
IsReadErr before now refusal.Fault = Rose before now

-- the script that a source gave, which was read to its end
pub record IsTakenScript (before after : Option (List ℕ)) (plan : Plan) : Type 0 where
  pub script : (bytes : List ℕ) → before ≡ Some bytes → IsScript bytes plan
  pub ends : (bytes : List ℕ) → before ≡ Some bytes → after ≡ Some []

-- a source gave no script: its count rose, or what it had left is none, with this first bad line
abbrev pub IsNoScriptErr : Option (List ℕ) → ℕ → ℕ → NoScript → Type 0
IsNoScriptErr left before now none.Fault = Rose before now
IsNoScriptErr left before now (none.Bad line) = (bytes : List ℕ) → left ≡ Some bytes → IsBadScript bytes line
IsNoScriptErr left before now none.OutOfMemory = ⊤

-- a bad line that is told is this one
abbrev pub IsBadAt : ℕ → NoScript → Type 0
IsBadAt n none.Fault = ⊤
IsBadAt n (none.Bad line) = line ≡ n
IsBadAt n none.OutOfMemory = ⊤
