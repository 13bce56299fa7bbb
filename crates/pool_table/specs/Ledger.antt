-- What the steps on plain data decide.
use Rattle.std.specs.Prelude.{◌≡◌, ◌+◌, ◌-◌, ℕ}
use Rattle.pool_table.specs.declared.ledger.Mark.{Mark}
use Rattle.pool_table.specs.declared.ledger.Share.{Share}

abbrev pub IsTurnOf : Mark → ℕ → Type 0
IsTurnOf m caller = m.turn ≡ caller + 1

abbrev pub advanced : Mark → Mark
advanced m = record m { last = m.last + 1 }

abbrev pub taken_by : Mark → ℕ → Mark
taken_by m caller = record m { turn = caller + 1 }

-- one part, and no open fix
abbrev pub IsNewShare : Share → ℕ → Type 0
IsNewShare s number = s ≡ record { parts = 1; number = number; fixes = 0 }

abbrev pub given_part : Share → Share
given_part s = record s { parts = s.parts - 1 }
