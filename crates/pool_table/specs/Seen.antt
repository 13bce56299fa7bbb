-- What a desk tells the table.
use Rattle.std.specs.Prelude.{ℕ, List}
use Rattle.redo_log.specs.Passes.{Known}
use Rattle.trail.specs.declared.event.Entry.{Entry}
use Rattle.trail.specs.Trails.{Opening}
use Rattle.frame_words.specs.Plain.{Plain}

-- with what its instance was opened, which of the instances it is, and how many pages each space has; its history, its frames, and what its pass of the log knows
pub record DeskSeen : Type 0 where
  pub opening : Opening
  pub instance : ℕ
  pub pages : ℕ → ℕ
  pub history : List Entry
  pub frames : Plain
  pub known : Known
