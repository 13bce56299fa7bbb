-- What a holder sees of the frames, and what each call makes of it.
use Rattle.std.specs.Prelude.{ℕ, Bool, false, List, ◌∷◌, ◌≤◌, ◌==◌, ◌&&◌, Option, None, Some, IfSome, slice_index_or, slice_set, if◌then◌else◌}
use Rattle.std.specs.Option.{option_map, option_map_or}
use Rattle.page_ids.specs.Content.{Content}
use Rattle.page_ids.specs.Size.{page_bytes}
use Rattle.page_ids.specs.declared.config.Config.{Config}
use Rattle.page_ids.specs.declared.frame_word.Word.{Word}
use Rattle.page_ids.specs.declared.ids.PageId.{PageId}
use Rattle.trail.specs.History.{value}
use Rattle.trail.specs.declared.event.Entry.{Entry}
use Rattle.trail.specs.declared.event.Held.{Held}
use Rattle.frame_words.specs.Rows.{Row, IsFound, new_row, held_row}

-- a history that is told: the pool's numbers, its first place among them; the instance; and the entries, the newest first
pub record History : Type 0 where
  pub config : Config
  pub instance : ℕ
  pub entries : List Entry

-- whose turn it is, with the number of the call under way or of the next one
pub record Turn : Type 0 where
  pub caller : ℕ
  pub number : ℕ

pub record FramesSeen : Type 0 where
  pub rows : List Row
  -- the frame that this holder visits
  pub visit : Option ℕ
  -- the frame of a create whose visit is still to come
  pub owed : Option ℕ
  pub history : Option History
  -- the pages' first values, from which the history gives all
  pub base : Option (PageId → Option Content)
  pub turn : Option Turn
  -- the open fixes of the pass that has the turn, the newest first; that of a create from its entry on
  pub opened : Option (List Held)
  -- the words that were answered in the call under way, each with its frame, the newest first
  pub found : Option (List (ℕ × Word))

abbrev pub row_at : FramesSeen → ℕ → Row
row_at s f = slice_index_or s.rows f new_row

abbrev pub with_row : FramesSeen → ℕ → Row → FramesSeen
with_row s f row = record s { rows = slice_set s.rows f row }

-- how often this holder visits the frame
abbrev pub visits_of : Option ℕ → ℕ → ℕ
visits_of visit f = option_map_or (λ g. if g == f then 1 else 0) visit 0

-- the word was found on the frame
abbrev pub Finds : FramesSeen → ℕ → Word → Type 0
Finds s f w = IsFound (row_at s f) (visits_of s.visit f) w

-- the word was answered
abbrev pub noted : FramesSeen → ℕ → Word → FramesSeen
noted s f w = record s { found = option_map (λ found. (f, w) ∷ found) s.found }

-- whether a visit of the frame is the one that follows the publish of a create
abbrev pub is_owed : FramesSeen → ℕ → Bool
is_owed s f = (row_at s f).resident && option_map_or (λ g. g == f) s.owed false

-- a visit began; the one of a create is a held fix at once
abbrev pub visited : FramesSeen → ℕ → Word → FramesSeen
visited s f w = if is_owed s f then record (with_row (noted s f w) f (held_row (row_at s f))) { owed = None }
    else record (noted s f w) { visit = Some f }

-- a visit ended
abbrev pub left : FramesSeen → ℕ → Word → FramesSeen
left s f w = record (noted s f w) { visit = None }

-- the value of a page, where the history and values are told
abbrev pub OnToldValue : FramesSeen → PageId → (Option Content → Type 0) → Type 0
OnToldValue s p P = IfSome s.history (λ h. IfSome s.base (λ base. P (value (page_bytes h.config.page) base h.entries p)))

-- in each frame there is room for as many fixes as before, or more
abbrev pub KeepsRoom : (ℕ → ℕ) → (ℕ → ℕ) → Type 0
KeepsRoom old new = (f : ℕ) → old f ≤ new f
