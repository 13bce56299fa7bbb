-- What each step tells its seat: one equation on the whole seat.
use Rattle.std.specs.Prelude.{◌≡◌, ◌≢◌, ◌≤◌, ◌*◌, ℕ, List, [], ◌∷◌, ◌++◌, None, Some}
use Rattle.atomic_table.specs.Seated.{TableId}
use Rattle.atomic_table.specs.Table.{Me, Step, rest}
use Rattle.page_ids.specs.declared.config.Config.{Config}
use Rattle.page_ids.specs.declared.limits.TheConstants.{MOST_FIXES}
use Rattle.page_ids.specs.declared.ids.PageSize.TheVariants.{Kib4}
use Rattle.redo_log.specs.Passes.{Known}
use Rattle.trail.specs.declared.event.Cause.TheVariants as cause
use Rattle.trail.specs.declared.event.Call.TheVariants as call
use Rattle.trail.specs.declared.event.Entry.{Entry}
use Rattle.trail.specs.declared.event.Kind.TheVariants as kind
use Rattle.trail.specs.declared.event.Note.TheVariants as note
use Rattle.trail.specs.declared.event.Receipt.{Receipt}
use Rattle.trail.specs.Trails.{AreNumbered, mark}
use Rattle.trail_laws.specs.Accounts.{IsAccount}
use Rattle.frame_words.specs.Plain.{Plain}
use Rattle.pool_table.specs.declared.view.TheConstants.{PARTS}
use Rattle.pool_table.specs.declared.view.Slot.{Slot}
use Rattle.pool_table.specs.declared.view.Slot.TheVariants as slot
use Rattle.pool_table.specs.declared.view.View.{View}
use Rattle.pool_table.specs.Seen.{DeskSeen}
use Rattle.pool_table.specs.Frames.{AreOpen, IsOfHome, counted, row_of}
use Rattle.pool_table.specs.Logged.{KnowsMore}
use Rattle.pool_table.specs.Kept.{IsAtHome}
use Rattle.pool_table.specs.Ours.{AreOurEntries}
use Rattle.pool_table.specs.Views.{appended, fixes_of, looked, noted, noted_in_turn, with_turn, without_turn}

-- what is told where nothing is
abbrev pub no_entry : Entry
no_entry = record { place = 0; caller = 0; number = 0; kind = kind.Check 0 }

abbrev pub no_receipt : Receipt
no_receipt = record { place = 0; caller = 0; number = 0; note = note.Refused call.Check cause.Unheld }

abbrev pub no_frames : Plain
no_frames = record { rows = []; visit = None; owed = None }

abbrev pub no_config : Config
no_config = record { page = Kib4; instances = 0; frames = 0; size = 0; max = 0; old_pct = 0; old_time = 0; old_min = 0; lsn = 0; first = 0 }

abbrev pub no_table : TableId
no_table = record { words = 0; slots = 0; views_name = 0; atom = 0; block = 0; offset = 0; slot_names = [] }

abbrev pub no_known : Known
no_known = record { log = no_table; end = 0; durable = 0; faults = 0; met = 0; pieces = []; share = 0; lost = 0 }

abbrev pub no_desk : DeskSeen
no_desk = record { opening = record { config = no_config; first = 0; base = None }; instance = 0; pages = λ s. 0; history = []; frames = no_frames; known = no_known }

abbrev pub SeatOf : Type 0 → Type 0
SeatOf D = Me (Slot D) View

abbrev pub StepOf : Type 0 → Type 0
StepOf D = Step (Slot D)

module _ {D : Type 0} where
  abbrev pub tells_append : Entry → Plain → Known → StepOf D → SeatOf D → ℕ → SeatOf D → Type 0
  tells_append e g k st m n m' = m' ≡ (appended m.0 e g k, m.1)

  abbrev pub tells_note_in_turn : Receipt → Plain → Known → StepOf D → SeatOf D → ℕ → SeatOf D → Type 0
  tells_note_in_turn r g k st m n m' = (m' ≡ (noted_in_turn m.0 r g k, m.1)) × (n ≡ r.place)

  -- the mark was loaded, what it marks is seen, and the receipt has its place
  abbrev pub tells_note : Receipt → ℕ → StepOf D → SeatOf D → ℕ → SeatOf D → Type 0
  tells_note r first st m n m' = (h : List Entry) × (more : List Entry) × (m' ≡ (noted m.0 (record r { place = n }) h, m.1)) × (h ≡ more ++ m.0.seen) × (n ≡ mark first h)

  -- the mark was loaded, and what it marks is seen
  abbrev pub tells_look : ℕ → StepOf D → SeatOf D → ℕ → SeatOf D → Type 0
  tells_look first st m n m' = (h : List Entry) × (more : List Entry) × (m' ≡ (looked m.0 h, m.1)) × (h ≡ more ++ m.0.seen) × (n ≡ mark first h)

  abbrev pub tells_give : StepOf D → SeatOf D → ℕ → SeatOf D → Type 0
  tells_give st m n m' = m' ≡ (without_turn m.0, rest m.1)

-- What who takes the turn knows: the desk tells the history on from what the view saw, and frames that fit it, in which there is room for another fix; in them stand
-- the pass's open fixes, and its own events are those that the history has of it.
pub record IsTaken (start d : DeskSeen) (v : View) : Type 0 where
  pub more : List Entry
  pub grown : d.history ≡ more ++ v.seen
  pub home : IsAtHome start d d.history d.frames d.known
  pub log : d.known.log ≡ start.known.log
  pub redo : KnowsMore v.redo (Some d.known)
  pub frames : (f : ℕ) → IsOfHome start.opening d.history (row_of d.frames f) f
  pub fixes : AreOpen d.history d.frames (fixes_of v)
  pub few : (f : ℕ) → counted d.frames f ≤ MOST_FIXES * PARTS
  pub numbered : AreNumbered start.opening.first d.history
  pub account : IsAccount start.opening.first d.history v.number v.mine
  pub ours : AreOurEntries start d.history

-- the turn was free, and now it is this pass's, with the desk; or it was another's
abbrev pub tells_take : {D : Type 0} → (D → DeskSeen) → DeskSeen → StepOf D → SeatOf D → ℕ → SeatOf D → Type 0
tells_take {D} seen start st m n m' =
    (n ≡ 0 → (d : D) × (m' ≡ (with_turn m.0 (seen d), (0, slot.Desk d) ∷ m.1)) × IsTaken start (seen d) m.0)
    × (n ≢ 0 → m' ≡ m)
