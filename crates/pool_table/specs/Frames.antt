-- How the desk's frames stand to the history and to the open fixes.
use Rattle.std.specs.Prelude.{ℕ, true, false, List, [], ◌∷◌, ◌≡◌, ◌+◌, ◌*◌, ◌<◌, ◌⊎◌, ◌==◌, None, Some, IfSome, IsSome, length, slice_index_or, if◌then◌else◌}
use Rattle.std.specs.List.{AllByRecursion}
use Rattle.page_ids.specs.Size.{page_bytes}
use Rattle.page_ids.specs.declared.ids.PageId.{PageId}
use Rattle.page_ids.specs.declared.config.Config.{Config}
use Rattle.trail.specs.declared.event.Entry.{Entry}
use Rattle.trail.specs.declared.event.Held.{Held}
use Rattle.trail.specs.Book.{book}
use Rattle.trail.specs.History.{change, home, value}
use Rattle.trail.specs.Trails.{Opening}
use Rattle.frame_words.specs.Rows.{Row, new_row}
use Rattle.frame_words.specs.Seen.{visits_of}
use Rattle.frame_words.specs.Plain.{Plain, held_of}

abbrev pub row_of : Plain → ℕ → Row
row_of frames f = slice_index_or frames.rows f new_row

-- how many fixes are open in the frame: the held ones, and that of a create whose visit is still to come
abbrev pub counted : Plain → ℕ → ℕ
counted frames f = held_of (row_of frames f) + visits_of frames.owed f

-- how many of these fixes are in the frame
abbrev pub fixes_in : List Held → ℕ → ℕ
fixes_in [] f = 0
fixes_in (x ∷ held) f = (if x.frame == f then 1 else 0) + fixes_in held f

-- The frame of a resident page is its home, has the clock of its last change and the page's value. A frame that is latched is in its holder's hand: from the
-- append of a put to its stamp the clock may be older, and the image lies apart.
pub record IsOfHome (o : Opening) (h : List Entry) (r : Row) (f : ℕ) : Type 0 where
  pub home_is : r.resident ≡ true → home h r.page ≡ Some f
  pub clock_is : r.resident ≡ true → r.latched ≡ false → r.clock ≡ change h f
  pub value_is : r.resident ≡ true → r.latched ≡ false
      → IfSome o.base (λ base. IfSome r.image (λ image. IfSome image (λ c. value (page_bytes o.config.page) base h r.page ≡ Some c)))

-- between turns nothing is latched, visited or owed
pub record AreFramesAtRest (frames : Plain) : Type 0 where
  pub unlatched : (f : ℕ) → (row_of frames f).latched ≡ false
  pub visit : frames.visit ≡ None
  pub owed : frames.owed ≡ None

-- Between turns each page's home is a resident frame, and a frame that isn't resident has the clock of its last change.
pub record AreSettled (h : List Entry) (frames : Plain) : Type 0 where
  pub housed : (p : PageId) (f : ℕ) → home h p ≡ Some f → (row_of frames f).resident ≡ true
  pub clocks : (f : ℕ) → f < length frames.rows → (row_of frames f).resident ≡ false → (row_of frames f).clock ≡ change h f

-- There is a row for each frame that there may ever be, and each frame of the chunks has an image of the page size.
pub record AreSized (config : Config) (h : List Entry) (frames : Plain) : Type 0 where
  pub count : length frames.rows ≡ config.frames * config.max
  pub there : (f : ℕ) → f < (book config h).chunks * config.frames → IsSome (row_of frames f).image
  pub sized : (f : ℕ) → IfSome (row_of frames f).image (λ image. IfSome image (λ c. length c.bytes ≡ page_bytes config.page))

-- the page is there, or its create's visit is still to come
abbrev pub IsThere : Plain → ℕ → Type 0
IsThere frames f = ((row_of frames f).resident ≡ true) ⊎ (frames.owed ≡ Some f)

-- an open fix is of a page in its home
pub record IsOpenFix (h : List Entry) (frames : Plain) (x : Held) : Type 0 where
  pub home_is : home h x.page ≡ Some x.frame
  pub there : IsThere frames x.frame

abbrev pub AreOpen : List Entry → Plain → List Held → Type 0
AreOpen h frames held = AllByRecursion (IsOpenFix h frames) held

-- frames that never held a page
pub record AreNewFrames (config : Config) (frames : Plain) : Type 0 where
  pub away : (f : ℕ) → (row_of frames f).resident ≡ false
  pub unchanged : (f : ℕ) → (row_of frames f).clock ≡ 0
  pub sized : AreSized config [] frames
  pub unheld : (f : ℕ) → held_of (row_of frames f) ≡ 0
  pub rest : AreFramesAtRest frames
