-- The calls of a form in memory, which fails at the calls that a list names.
use Rattle.std.specs.Prelude.{ℕ, List, ◌≡◌, Contains, Result, MatchResult}
use Rattle.redo_mark.specs.Memory.{Counts, risen}

-- no call so far
abbrev pub uncalled : List ℕ → Counts
uncalled failing = record { failing = failing; made = 0; faults = 0; wants = 0 }

-- the next call is to fail
abbrev pub FailsNext : Counts → Type 0
FailsNext c = Contains c.failing (risen c.made)

-- one call more, which was answered
abbrev pub answered : Counts → Counts
answered c = record c { made = risen c.made }

-- one call more, which failed
abbrev pub failed : Counts → Counts
failed c = record c { made = risen c.made; faults = risen c.faults }

-- one call more, which failed because it found no memory
abbrev pub starved : Counts → Counts
starved c = record c { made = risen c.made; faults = risen c.faults; wants = risen c.wants }

-- one call more, of this result; it wanted no memory
abbrev pub AnswersCall : {T E : Type 0} → Counts → Counts → Result T E → Type 0
AnswersCall old new result = MatchResult result (λ _. new ≡ answered old) (λ _. new ≡ failed old)

-- a fault more where the call failed, and none else
abbrev pub CountsOnce : {T E : Type 0} → ℕ → ℕ → Result T E → Type 0
CountsOnce before now result = MatchResult result (λ _. now ≡ before) (λ _. now ≡ risen before)
