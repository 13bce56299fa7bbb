use Rattle.std.proofs.Common.{◌<◌, ℕ, IfSome, IsSome}
use Rattle.frame_words.specs.Plain.{room_of}
use Rattle.desk.specs.Steps.{row_in}
use Rattle.desk_tests.proofs.trial.have_room.Given as goal

abbrev pub invariant-loop-frame : goal.invariant-loop-frame
invariant-loop-frame l = (f : ℕ) → f < l.frame
    → (0 < room_of l.frames f) × IsSome (row_in l.frames.rows f).held × IfSome (row_in l.frames.rows f).image (λ told. IsSome told)
