-- The rule of a table. Word 0 is the mark, word 1 the turn: 0, or 1 more than the number of the pass that has it. Slot 0 has the desk.
use Rattle.std.specs.Prelude.{◌≡◌, ◌≢◌, ◌⊎◌, ℕ, ◌+◌, ◌<◌, ◌≤◌, true, false, List, [], ◌∷◌, ◌++◌, Option, None, Some, IfSome, IsSomeAnd, Contains, length, slice_index}
use Rattle.std.specs.List.{AllByRecursion}
use mathlib.Core.Option.{some}
use lib.ListN.{get_elem?}
use Rattle.atomic_table.specs.Table.{State}
use Rattle.redo_log.specs.declared.view.Piece.{Piece}
use Rattle.redo_log.specs.Passes.{Known}
use Rattle.trail.specs.declared.event.Entry.{Entry}
use Rattle.trail.specs.declared.event.Event.{Event}
use Rattle.trail.specs.declared.event.Event.TheVariants as event
use Rattle.trail.specs.Kinds.{Writing, write_in}
use Rattle.trail.specs.Calls.{calls_of, open_fixes}
use Rattle.trail.specs.Trails.{mark}
use Rattle.trail_laws.specs.Adding.{IsClosed}
use Rattle.trail_laws.specs.Ending.{AreDistinct, AreEndedSoFar, FollowsNewest}
use Rattle.trail_laws.specs.SoFar.{AreAlone, AreTrueBy, IsLawfulSoFar}
use Rattle.frame_words.specs.Plain.{Plain}
use Rattle.pool_table.specs.declared.view.TheConstants.{PARTS}
use Rattle.pool_table.specs.declared.view.Account.{Account}
use Rattle.pool_table.specs.declared.view.Slot.{Slot}
use Rattle.pool_table.specs.declared.view.Slot.TheVariants as slot
use Rattle.pool_table.specs.declared.view.View.{View}
use Rattle.pool_table.specs.Seen.{DeskSeen}
use Rattle.pool_table.specs.Logged.{KnowsMore, log_end_in, record_in}
use Rattle.pool_table.specs.Views.{account_of, fixes_of, numbers_of}
use Rattle.pool_table.specs.Frames.{AreOpen, AreFramesAtRest, AreSettled, AreSized, IsOfHome, counted, fixes_in, row_of}
use Rattle.pool_table.specs.Ours.{AreOurs}

-- what these views have together
abbrev pub total : (View → ℕ) → List View → ℕ
total n [] = 0
total n (v ∷ views) = n v + total n views

abbrev pub parts_of : View → ℕ
parts_of v = v.parts

abbrev pub fixed_in : ℕ → View → ℕ
fixed_in f v = fixes_in (fixes_of v) f

-- The log: what its caller's pass of the log knows covers each write, has the record of each change, and ends behind each end that an entry names.
pub record IsLoggedEntry (k : Option Known) (e : Entry) : Type 0 where
  pub covered : IfSome (write_in e.kind) (λ (w : Writing). IsSomeAnd k (λ (known : Known). w.upto ≤ known.durable))
  pub kept : IfSome (record_in e.kind) (λ (p : Piece). IsSomeAnd k (λ (known : Known). Contains known.pieces p))
  pub ended : IfSome (log_end_in e.kind) (λ (end : ℕ). IsSomeAnd k (λ (known : Known). end ≤ known.end))

abbrev pub IsLoggedEvent : Option Known → Event → Type 0
IsLoggedEvent k (event.Entry e) = IsLoggedEntry k e
IsLoggedEvent k (event.Receipt r) = Unit {0}

-- An account, of the pass that the seat j keeps, is the truth. What is known of the log is at least what its pass knew.
pub record IsTrueAccount (known : Known) (next : ℕ) (accounts : ℕ → List Event) (seat : ℕ → ℕ) (j : ℕ) (a : Account) : Type 0 where
  pub kept_by : seat a.number ≡ j
  pub below : a.number < next
  pub events : accounts a.number ≡ a.mine
  pub redo : KnowsMore a.redo (Some known)
  pub logged : AllByRecursion (IsLoggedEvent a.redo) a.mine

-- what a view knows of the mark and the turn
pub record Knows (h : List Entry) (frames : Plain) (known : Known) (t : ℕ) (v : View) : Type 0 where
  pub seen : (more : List Entry) × (h ≡ more ++ v.seen)
  pub turn : v.turn ≡ true → (v.passes ≡ true) × (t ≡ v.number + 1) × (v.seen ≡ h) × (v.frames ≡ Some frames) × (v.redo ≡ Some known)

-- each call but the newest has its answer, or is a resize that was left
abbrev pub AreClosed : (ℕ → List Event) → Type 0
AreClosed accounts = (c k : ℕ) → 1 ≤ k → k < calls_of (accounts c) → IsClosed (accounts c) k

-- and so has the newest: no call is under way
abbrev pub HasNoCall : List Event → Type 0
HasNoCall mine = 1 ≤ calls_of mine → IsClosed mine (calls_of mine)

-- what a pass did that was taken in: no fix is open, and no call is under way
pub record IsOver (mine : List Event) : Type 0 where
  pub unfixed : open_fixes mine ≡ []
  pub answered : HasNoCall mine

-- which accounts a view has
pub record HasAccounts (known : Known) (next maker : ℕ) (accounts : ℕ → List Event) (seat : ℕ → ℕ) (j : ℕ) (v : View) : Type 0 where
  pub makes : v.makes ≡ true → (j ≡ maker) × (v.number ≡ next) × (v.passes ≡ false) × (v.others ≡ [])
  pub passes : v.passes ≡ true → (0 < v.parts) × IsTrueAccount known next accounts seat j (account_of v)
  pub unnamed : v.passes ≡ false → v.mine ≡ []
  pub others : (i : ℕ) (a : Account) → get_elem? v.others i ≡ some a → IsTrueAccount known next accounts seat j a × IsOver a.mine × (v.passes ≡ true → a.number ≢ v.number)
  pub idle : v.parts ≡ 0 → v.others ≡ []
  pub apart : AreDistinct (numbers_of v.others)

-- what the steps on frames' words and on images will keep in a view, once there are such steps
pub record IsBare (v : View) : Type 0 where
  pub found : v.found ≡ []
  pub numbers : v.numbers ≡ []
  pub visits : v.visits ≡ []
  pub latches : v.latches ≡ []
  pub lifted : v.lifted ≡ []
  pub claimed : v.claimed ≡ []
  pub unpublished : v.unpublished ≡ []

pub record Fits (known : Known) (h : List Entry) (frames : Plain) (t next maker : ℕ) (accounts : ℕ → List Event) (seat : ℕ → ℕ) (j : ℕ) (v : View) : Type 0 where
  pub knows : Knows h frames known t v
  pub keeps : HasAccounts known next maker accounts seat j v
  pub fixes : AreOpen h frames (fixes_of v)
  pub bare : IsBare v

-- each caller that changed a frame's word through these views is this one
abbrev pub AreNumbersOf : ℕ → List View → Type 0
AreNumbersOf c views = (j : ℕ) (v : View) → get_elem? views j ≡ some v → AllByRecursion (λ (n : ℕ). n ≡ c) v.numbers

-- Words are true wherever a caller is alone, in all events and in all that changed a frame's word, whose event may be still to come.
abbrev pub AreTrueSoFar : List Entry → (ℕ → List Event) → List View → Type 0
AreTrueSoFar h accounts views = (c : ℕ) (flush : Option ℕ) → AreAlone c flush accounts → AreNumbersOf c views → (d : ℕ) → AreTrueBy c h (accounts d)

-- the view has the account with this number
abbrev pub HasAccount : ℕ → View → Type 0
HasAccount k v = ((v.passes ≡ true) × (v.number ≡ k)) ⊎ ((i : ℕ) × (a : Account) × (get_elem? v.others i ≡ some a) × (a.number ≡ k))

-- the newest entry is this caller's
abbrev pub IsNewestOf : ℕ → List Entry → Type 0
IsNewestOf c [] = ⊥
IsNewestOf c (e ∷ h) = e.caller ≡ c

-- the newest entry needs nothing behind it, or its caller has the turn
abbrev pub IsRested : (ℕ → List Event) → List Entry → ℕ → Type 0
IsRested accounts h t = FollowsNewest accounts None h ⊎ ((k : ℕ) × (t ≡ k + 1) × IsNewestOf k h)

-- The history and the accounts are lawful and of this instance, each entry but the newest has what it needs behind it, each call but a caller's newest its answer, and
-- each number that was given has its account at its seat; the others have none.
pub record AreAccounts (start : DeskSeen) (h : List Entry) (next : ℕ) (accounts : ℕ → List Event) (seat : ℕ → ℕ) (views : List View) : Type 0 where
  pub so_far : IsLawfulSoFar start.opening start.pages h accounts
  pub ended : AreEndedSoFar accounts h
  pub closed : AreClosed accounts
  pub ours : AreOurs start h accounts
  pub later : (k : ℕ) → next ≤ k → accounts k ≡ []
  pub owned : (k : ℕ) → k < next → (v : View) × (get_elem? views (seat k) ≡ some v) × HasAccount k v

-- The frames have the fixes that are open, and what the history says.
pub record AreFrames (start : DeskSeen) (h : List Entry) (frames : Plain) (views : List View) : Type 0 where
  pub sums : (f : ℕ) → counted frames f ≡ total (fixed_in f) views
  pub homes : (f : ℕ) → IsOfHome start.opening h (row_of frames f) f

-- The desk in its slot tells the history, the frames, which are at rest, and what is known of the log. What ties its disk to the history is its own invariant.
pub record IsAtHome (start d : DeskSeen) (h : List Entry) (frames : Plain) (known : Known) : Type 0 where
  pub history : d.history ≡ h
  pub frames_are : d.frames ≡ frames
  pub opening : d.opening ≡ start.opening
  pub instance : d.instance ≡ start.instance
  pub pages : d.pages ≡ start.pages
  pub known_is : d.known ≡ known
  pub rest : AreFramesAtRest frames
  pub settled : AreSettled h frames
  pub sized : AreSized start.opening.config h frames

module _ {D : Type 0} (seen : D → DeskSeen) (start : DeskSeen) where
  -- One history, whose last place is the mark. Without a turn the desk is in its slot; a turn is had by one view.
  pub record AreTurns (h : List Entry) (frames : Plain) (known : Known) (seat : ℕ → ℕ) (s : State (Slot D) View) : Type 0 where
    pub wide : 2 ≤ length s.words
    pub deep : 1 ≤ length s.homes
    pub mark_is : slice_index s.words 0 ≡ mark start.opening.first h
    pub free : slice_index s.words 1 ≡ 0 → (d : D) × (get_elem? s.homes 0 ≡ some (some (slot.Desk d))) × IsAtHome start (seen d) h frames known
    pub held : (k : ℕ) → slice_index s.words 1 ≡ k + 1 → (v : View) × (get_elem? s.views (seat k) ≡ some v) × (v.turn ≡ true)

  pub record Kept (s : State (Slot D) View) : Type 0 where
    pub h : List Entry
    pub frames : Plain
    pub known : Known
    pub next : ℕ
    pub maker : ℕ
    pub accounts : ℕ → List Event
    pub seat : ℕ → ℕ
    pub turns : AreTurns h frames known seat s
    pub of_log : known.log ≡ start.known.log
    pub laws : AreAccounts start h next accounts seat s.views
    pub rested : IsRested accounts h (slice_index s.words 1)
    pub framed : AreFrames start h frames s.views
    pub words : AreTrueSoFar h accounts s.views
    pub each : (j : ℕ) (v : View) → get_elem? s.views j ≡ some v → Fits known h frames (slice_index s.words 1) next maker accounts seat j v
    pub whole : total parts_of s.views ≡ PARTS
