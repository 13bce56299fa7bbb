-- A source and a sink in memory.
use Rattle.std.specs.Prelude.{ℕ, List}
use Rattle.redo_mark.specs.Memory.{Counts}

-- what it has left
pub record SourceMemory : Type 0 where
  pub left : List ℕ
  pub calls : Counts

-- what it holds
pub record SinkMemory : Type 0 where
  pub held : List ℕ
  pub calls : Counts
