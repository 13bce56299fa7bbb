-- What is seen of one frame, the words that may be found on it, and what each call makes of it.
use Rattle.std.specs.Prelude.{ℕ, Bool, true, false, not, ◌≡◌, ◌+◌, ◌&&◌, Option, None, Some, IfSome, IsSome, IsSomeAnd}
use Rattle.std.specs.Option.{option_map}
use Rattle.page_ids.specs.Content.{Content}
use Rattle.page_ids.specs.FrameWord.{fixes_of, is_latched, is_resident, clock_of}
use Rattle.page_ids.specs.declared.frame_word.Word.{Word}
use Rattle.page_ids.specs.declared.ids.PageId.{PageId}

pub record Row : Type 0 where
  pub resident : Bool
  pub clock : ℕ
  -- the page that was last published in it
  pub page : PageId
  -- whether this holder has its latch
  pub latched : Bool
  -- its image, where it has one; the content is told where nobody else can lift it
  pub image : Option (Option Content)
  -- its fixes that are no visits of this holder; told where nobody else adds or takes any, or latches a frame
  pub held : Option ℕ

-- a frame that never held a page
abbrev pub new_row : Row
new_row = record { resident = false; clock = 0; page = record { space = 0; page = 0 }; latched = false; image = None; held = Some 0 }

-- the word was found on the frame, which this holder visits so often; nobody else has the latch of a frame that isn't resident
pub record IsFound (r : Row) (own : ℕ) (w : Word) : Type 0 where
  pub resident : is_resident w ≡ r.resident
  pub clock : clock_of w ≡ r.clock
  pub away : r.resident ≡ false → is_latched w ≡ r.latched
  pub exact : IfSome r.held (λ held. (fixes_of w ≡ held + own) × (is_latched w ≡ r.latched))

-- an image whose content isn't told
abbrev pub untold : Option Content → Option Content
untold content = None

-- The image of a frame that others can reach again. Where the fixes are told there are no others.
abbrev pub reached : Option ℕ → Bool → Option (Option Content) → Option (Option Content)
reached (Some held) among image = image
reached None true image = option_map untold image
reached None false image = image

-- others may latch a resident frame that this holder hasn't latched
abbrev pub shared : Row → Row
shared r = record r { image = reached r.held (r.resident && not r.latched) r.image }

-- the image, told from now on, since nobody else can lift it
abbrev pub Uncovers : Option (Option Content) → Option (Option Content) → Type 0
Uncovers None image = image ≡ None
Uncovers (Some None) image = IsSomeAnd image (λ o. IsSome o)
Uncovers (Some (Some c)) image = image ≡ Some (Some c)

abbrev pub claimed_row : Row → Option (Option Content) → Row
claimed_row r image = record r { resident = false; image = image }

abbrev pub published_row : Row → PageId → ℕ → Row
published_row r page clock = shared (record r { resident = true; clock = clock; page = page })

abbrev pub latched_row : Row → Option (Option Content) → Row
latched_row r image = record r { latched = true; image = image }

abbrev pub unlatched_row : Row → Row
unlatched_row r = shared (record r { latched = false })

abbrev pub stamped_row : Row → ℕ → Row
stamped_row r clock = record r { clock = clock }

abbrev pub lifted_row : Row → Row
lifted_row r = record r { image = None }

abbrev pub laid_row : Row → Content → Row
laid_row r content = record r { image = Some (Some content) }

-- one fix more that is no visit
abbrev pub held_row : Row → Row
held_row r = record r { held = option_map (λ held. held + 1) r.held }
