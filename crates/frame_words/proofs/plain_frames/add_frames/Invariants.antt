use Rattle.std.proofs.Common.{◌≡◌, ◌+◌, ◌-◌, ◌≤◌, ◌++◌}
use Rattle.std.specs.Prelude.{replicate, vec_len, vec_capacity}
use Rattle.frame_words.specs.Rows.{new_row}
use Rattle.frame_words.proofs.plain_frames.add_frames.Given as goal

abbrev pub invariant-loop : goal.invariant-loop
invariant-loop l = record {
  items : l.frames.items ≡ l.fn.frames.items ++ replicate l.counter new_row;
  room : vec_len l.frames + (l.more - l.counter) ≤ vec_capacity l.frames;
}
