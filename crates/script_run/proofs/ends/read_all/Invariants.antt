use Rattle.std.proofs.Common.{◌≡◌, ◌≤◌, ◌<◌, ◌-◌, ◌++◌, ℕ, List, Some, vec_len}
use Rattle.script_run.proofs.ends.read_all.Given as goal

pub record Reads (left : List ℕ → Type 0) (start : List ℕ → Type 0) (all : List ℕ) : Type 0 where
  pub given : (bytes : List ℕ) → start bytes → (rest : List ℕ) × left rest × (bytes ≡ all ++ rest)

abbrev pub invariant-loop-source : goal.invariant-loop-source
invariant-loop-source g l =
    (0 < vec_len l.piece) × (vec_len l.all ≤ 1048577) × (g.S.Source.fault_count l.fn.source ≤ g.S.Source.fault_count l.source)
    × Reads (λ rest. g.S.Source.left l.source ≡ Some rest) (λ bytes. g.S.Source.left l.fn.source ≡ Some bytes) l.all.items

abbrev pub decreases-loop-source : goal.decreases-loop-source
decreases-loop-source g l = 1048577 - vec_len l.all
