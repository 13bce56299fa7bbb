-- What a command that uses no device answers, by its status.
use Rattle.std.specs.Prelude.{ℕ, List, [], ◌++◌, ◌≡◌, ◌≢◌, ◌⊎◌, Option, Some, take}
use Rattle.page_ids.specs.Faults.{Rose}
use Rattle.script_text.specs.CommandLine.{IsCalled}
use Rattle.script_text.specs.Plan.{Plan}
use Rattle.script_text.specs.Printed.{plan_text}
use Rattle.script_text.specs.Verdict.{IsScript, IsBadScript}
use Rattle.script_text.specs.declared.program.Program.{Program}
use Rattle.script_text.specs.declared.program.Program.TheVariants.{Check}
use Rattle.script_run.specs.Ends.{IsTakenWithin}
use Rattle.script_run.specs.Runs.{IsNoScript}
use Rattle.script_run.specs.declared.outcome.Plain.{Plain}

-- what the input has left and the output holds, where they tell, and how often each failed
pub record Streams : Type 0 where
  pub left : Option (List ℕ)
  pub reads_failed : ℕ
  pub held : Option (List ℕ)
  pub writes_failed : ℕ

abbrev pub streams : Option (List ℕ) → ℕ → Option (List ℕ) → ℕ → Streams
streams left reads_failed held writes_failed = record { left = left; reads_failed = reads_failed; held = held; writes_failed = writes_failed }

-- The input is a script, read to its end. Its printed form went behind what the output held, whole, or a beginning of it where the output's count rose.
pub record IsPrinted (old new : Streams) (status : ℕ) : Type 0 where
  pub plan : Plan
  pub script : (bytes : List ℕ) → old.left ≡ Some bytes → IsScript bytes plan
  pub ends : (bytes : List ℕ) → old.left ≡ Some bytes → new.left ≡ Some []
  pub whole : status ≡ 0 → (held : List ℕ) → old.held ≡ Some held → new.held ≡ Some (held ++ plan_text plan)
  pub cut : status ≡ 5 → (held : List ℕ) → old.held ≡ Some held → (n : ℕ) × (new.held ≡ Some (held ++ take n (plan_text plan)))

-- how `check` ends
pub record EndsCheck (old new : Streams) (end : Plain) : Type 0 where
  pub statuses : (end.status ≡ 0) ⊎ (end.status ≡ 3) ⊎ (end.status ≡ 4) ⊎ (end.status ≡ 5) ⊎ (end.status ≡ 7)
  pub line : end.status ≢ 3 → end.line ≡ 0
  pub printed : (end.status ≡ 0) ⊎ (end.status ≡ 5) → IsPrinted old new end.status
  pub bad : end.status ≡ 3 → (bytes : List ℕ) → old.left ≡ Some bytes → IsBadScript bytes end.line
  pub bad_only : (bytes : List ℕ) (n : ℕ) → old.left ≡ Some bytes → IsBadScript bytes n → IsNoScript end.status end.line n
  pub read_fault : end.status ≡ 4 → Rose old.reads_failed new.reads_failed
  pub write_fault : end.status ≡ 5 → Rose old.writes_failed new.writes_failed

-- no command was called for
abbrev pub CallsNothing : List (List ℕ) → Type 0
CallsNothing words = (p : Program) → IsCalled words p → ⊥

-- The words call for nothing, or for a command, which then ended so; or there was no memory to read them. Of the input a beginning was taken.
pub record IsPlainEnd (words : List (List ℕ)) (old new : Streams) (end : Plain) : Type 0 where
  pub usage : end.status ≡ 2 → CallsNothing words
  pub usage_only : CallsNothing words → (end.status ≡ 2) ⊎ (end.status ≡ 7)
  pub line : end.status ≢ 3 → end.line ≡ 0
  pub checked : IsCalled words Check → (end.status ≡ 7) ⊎ EndsCheck old new end
  pub taken : IsTakenWithin 0 1048577 old.left new.left
