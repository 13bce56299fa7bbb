-- How frames stand to a desk between its calls, and who may call.
use Rattle.std.specs.Prelude.{ℕ, true, false, List, ◌≡◌, ◌<◌, ◌≤◌, ◌*◌, Option, None, Some, IfSome, IsSome, IsSomeAnd, length}
use Rattle.page_ids.specs.Instances.{instance_of}
use Rattle.page_ids.specs.Content.{Content}
use Rattle.page_ids.specs.Size.{page_bytes}
use Rattle.page_ids.specs.declared.ids.PageId.{PageId}
use Rattle.page_disk.specs.Disks.{DiskSeen}
use Rattle.trail.specs.declared.event.Dirty.{Dirty}
use Rattle.trail.specs.declared.event.Entry.{Entry}
use Rattle.trail.specs.History.{home, change}
use Rattle.trail.specs.Dirt.{dirty, dirt_of}
use Rattle.frame_words.specs.Rows.{Row}
use Rattle.frame_words.specs.Seen.{FramesSeen, row_at}
use Rattle.desk.specs.Base.{Opened}
use Rattle.desk.specs.Behind.{IsBehind}
use Rattle.instance_lists.specs.Ledger.{IsVacant}
use Rattle.desk.specs.State.{State}
use Rattle.desk.specs.declared.calls.Caller.{Caller}

-- a fact of the image's content, where that is told
abbrev pub OnTold : Option (Option Content) → (Content → Type 0) → Type 0
OnTold image P = IfSome image (λ told. IfSome told P)

-- A frame is resident exactly where it is a page's home, and its clock is that of its last change. The frames of the chunk, which are
-- the first ones, have an image of the page size, and no other frame has one.
pub record IsTied (size frames : ℕ) (h : List Entry) (r : Row) (f : ℕ) : Type 0 where
  pub clock : r.clock ≡ change h f
  pub unlatched : r.latched ≡ false
  pub resident : r.resident ≡ true → home h r.page ≡ Some f
  pub vacant : r.resident ≡ false → IsVacant h f
  pub there : f < frames → IsSome r.image
  pub sized : OnTold r.image (λ c. length c.bytes ≡ size)
  -- nobody else can reach an image that is no page's
  pub told : f < frames → r.resident ≡ false → IsSomeAnd r.image (λ told. IsSome told)
  pub bare : frames ≤ f → r.image ≡ None

-- the image in a dirty page's home has the end LSN of the page's last change
abbrev pub AreStamped : List Entry → FramesSeen → Type 0
AreStamped h s = (p : PageId) (f : ℕ) (d : Dirty) → home h p ≡ Some f → dirt_of (dirty h) p ≡ Some d → OnTold (row_at s f).image (λ c. c.lsn ≡ d.newest)

-- What each call of a desk that works on frames needs of them, and leaves true.
pub record AreTied {D : Type 0} (seen : D → DiskSeen) (s : FramesSeen) (desk : State D) : Type 0 where
  pub count : length s.rows ≡ desk.config.frames * desk.config.max
  pub whole : desk.config.frames ≤ length s.rows
  pub rows : (f : ℕ) → f < length s.rows → IsTied (page_bytes desk.config.page) desk.config.frames desk.history (row_at s f) f
  pub stamped : AreStamped desk.history s
  -- this holder visits no frame
  pub unvisited : s.visit ≡ None
  pub none_owed : s.owed ≡ None
  -- a history that is told is the desk's
  pub history : IfSome s.history (λ h. h ≡ record { config = desk.config; instance = desk.instance; entries = desk.history })
  -- where an image's content isn't told, the history and the values are
  pub known : (f : ℕ) → f < length s.rows → (row_at s f).image ≡ Some None → IsSome s.history × IsSome s.base
  -- and where its fixes aren't told, so that others can reach an image that is published in it
  pub shared : (f : ℕ) → f < length s.rows → (row_at s f).held ≡ None → IsSome s.history × IsSome s.base
  -- and each resident page is one of its instance
  pub own : IsSome s.history → (p : PageId) (f : ℕ) → home desk.history p ≡ Some f → instance_of p desk.config.instances ≡ desk.instance
  -- values that are told are those of the history, in the frames and on the disk
  pub valued : IfSome s.base (λ base. (o : Opened) × (o.base ≡ base) × IsBehind seen o desk s)

-- each fix is told, so nobody else is there to latch a frame, and what each image holds is told
abbrev pub TellsAll : FramesSeen → Type 0
TellsAll s = (f : ℕ) → f < length s.rows → IsSome (row_at s f).held × IfSome (row_at s f).image (λ told. IsSome told)

-- where it is told whose turn it is, the caller has it, and this is the call's number
abbrev pub HasTurn : FramesSeen → Caller → Type 0
HasTurn s by = IfSome s.turn (λ t. (t.caller ≡ by.pass) × (t.number ≡ by.number))

-- where a history is told, the page is one of its instance
abbrev pub IsOwn : {D : Type 0} → FramesSeen → State D → PageId → Type 0
IsOwn s desk p = IsSome s.history → instance_of p desk.config.instances ≡ desk.instance
