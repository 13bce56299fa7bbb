-- What is seen of the frames as a page is made.
use Rattle.std.specs.Prelude.{ℕ}
use Rattle.page_ids.specs.declared.ids.PageId.{PageId}
use Rattle.trail.specs.declared.event.Entry.{Entry}
use Rattle.frame_words.specs.Appends.{appended}
use Rattle.frame_words.specs.Rows.{published_row}
use Rattle.frame_words.specs.Seen.{FramesSeen, row_at, with_row}

-- the entry of a page that lay in the frame was appended, and the page was published there at this clock
abbrev pub shown : FramesSeen → Entry → ℕ → PageId → ℕ → FramesSeen
shown s e f p place = with_row (appended s e) f (published_row (row_at s f) p place)
