-- How many places of a history a call needs at most.
use Rattle.std.specs.Prelude.{ℕ, ◌+◌, ◌*◌, min}
use Rattle.page_ids.specs.declared.limits.TheConstants.{ANSWER_NEED, FRAME_NEED, ROUND_NEED}

-- a clean of so many dirty pages at most, where so many are dirty: a write each, and its answer
abbrev pub clean_need : ℕ → ℕ → ℕ
clean_need bound dirty = min bound dirty + ANSWER_NEED

-- a round of a resize to fewer chunks, with so many frames to withdraw
abbrev pub round_need : ℕ → ℕ
round_need area = FRAME_NEED * area + ROUND_NEED
