-- Plain frames that tell a history, and whose turn it is.
use Rattle.std.specs.Prelude.{ℕ, true, false, List, ◌≡◌, ◌<◌, Option, Some, IfSome, IsSome, IsSomeAnd, length, slice_index_or}
use Rattle.page_ids.specs.Content.{Content}
use Rattle.frame_words.specs.Plain.{Plain, seen_of}
use Rattle.frame_words.specs.Rows.{Row, new_row}
use Rattle.frame_words.specs.Seen.{FramesSeen, History, Turn}

pub record Telling : Type 0 where
  pub plain : Plain
  pub history : History
  pub turn : Turn

-- it tells neither values nor open fixes nor found words
abbrev pub telling_seen : Telling → FramesSeen
telling_seen t = record (seen_of t.plain) { history = Some t.history; turn = Some t.turn }

-- an image is told, and has so many bytes
abbrev pub IsImageSized : ℕ → Option (Option Content) → Type 0
IsImageSized size image = IfSome image (λ told. IsSomeAnd told (λ c. length c.bytes ≡ size))

-- Fixes and images are told, an image has so many bytes, and a frame that others can read has one.
pub record IsKept (size : ℕ) (r : Row) : Type 0 where
  pub held : IsSome r.held
  pub sized : IsImageSized size r.image
  pub there : r.resident ≡ true → r.latched ≡ false → IsSome r.image

abbrev pub AreTold : ℕ → List Row → Type 0
AreTold size rows = (f : ℕ) → f < length rows → IsKept size (slice_index_or rows f new_row)
