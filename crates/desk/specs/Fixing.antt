-- What a fix does, and why it is refused.
use Rattle.std.specs.Prelude.{ℕ, List, ◌≡◌, ◌<◌, ◌≤◌, ◌⊎◌, None, IsSome, ⊤}
use Rattle.page_ids.specs.declared.frame_word.Word.{Word}
use Rattle.page_ids.specs.declared.ids.PageId.{PageId}
use Rattle.page_ids.specs.declared.limits.TheConstants.{MOST_FIXES}
use Rattle.page_disk.specs.Disks.{DiskSeen, pages_in}
use Rattle.trail.specs.declared.event.Call.{Call}
use Rattle.trail.specs.declared.event.Call.TheVariants as call
use Rattle.trail.specs.declared.event.Cause.{Cause}
use Rattle.trail.specs.declared.event.Cause.TheVariants as cause
use Rattle.trail.specs.Book.{book, frame_in_turn}
use Rattle.trail.specs.History.{home}
use Rattle.frame_words.specs.Rows.{Row}
use Rattle.desk.specs.Reads.{RoseWithin}
use Rattle.desk.specs.State.{State}
use Rattle.desk.specs.Steps.{IsLoaded, IsHit, RefusesCall, IsPastEnd, IsFaulted, IsUnsound}
use Rattle.desk.specs.Victims.{IsHad, IsFull, MustWrite, MustCover}
use Rattle.desk.specs.declared.calls.Caller.{Caller}
use Rattle.desk.specs.declared.calls.Granted.{Granted}
use Rattle.desk.specs.declared.calls.FixErr.{FixErr}
use Rattle.desk.specs.declared.calls.FixErr.TheVariants as refusal
use Rattle.desk.specs.declared.calls.FrameErr.{FrameErr}
use Rattle.desk.specs.declared.calls.FrameErr.TheVariants as unhad

-- a frame was had, and the page was read into it before
pub record IsMiss {D : Type 0} (seen : D → DiskSeen) (old new : State D) (rows rows' : List Row) (by : Caller) (p : PageId) (now : ℕ) (g : Granted) : Type 0 where
  pub absent : home old.history p ≡ None
  pub had : State D
  pub cleared : List Row
  pub mid : State D
  pub between : List Row
  pub frame_is : IsHad old had rows cleared by g.frame
  -- what is read is what the disk told of the page before the call
  pub page_told : (seen had.disk).told p ≡ (seen old.disk).told p
  pub loaded : IsLoaded seen had mid cleared between by p g.frame
  pub hit : IsHit mid new between rows' by p now g

abbrev pub IsGrantedBy : {D : Type 0} → (D → DiskSeen) → State D → State D → List Row → List Row → Caller → PageId → ℕ → Granted → Type 0
IsGrantedBy seen old new rows rows' by p now g = IsHit old new rows rows' by p now g ⊎ IsMiss seen old new rows rows' by p now g

-- the caller holds as many fixes as it may; nothing else happened
pub record IsHeldFull {D : Type 0} (old new : State D) (by : Caller) (asked : Call) (held full : ℕ) : Type 0 where
  pub full_is : full ≡ held
  pub most : MOST_FIXES ≤ held
  pub entry : RefusesCall old new by asked (cause.HoldFull full)
  pub disk : new.disk ≡ old.disk

-- no frame was free, and every frame was seen with a fix
pub record IsUnseated {D : Type 0} (old new : State D) (rows : List Row) (by : Caller) (p : PageId) (asked : Call) (seen : List (ℕ × Word)) : Type 0 where
  pub absent : home old.history p ≡ None
  pub full : IsFull old rows p seen
  pub entry : RefusesCall old new by asked (cause.AllFixed seen)
  pub disk : new.disk ≡ old.disk

-- A page that had to leave (`MustWrite`) could not be written: the count of faults of the log or of the disk rose so. It is as dirty as it was.
pub record IsUnwritten {D : Type 0} (old new : State D) (by : Caller) (p : PageId) (asked : Call) (was is before after : ℕ) (why : Cause) : Type 0 where
  pub absent : home old.history p ≡ None
  pub rose : RoseWithin was is before after
  pub entry : RefusesCall old new by asked why

-- a frame was had, and the page could not be read into it, for this reason; the disk told of the page what it told before the call
pub record IsUnread {D : Type 0} (seen : D → DiskSeen) (old : State D) (rows rows' : List Row) (by : Caller) (p : PageId) (why : State D → Type 0) : Type 0 where
  pub absent : home old.history p ≡ None
  pub had : State D
  pub frame : ℕ
  pub frame_is : IsHad old had rows rows' by frame
  pub page_told : (seen had.disk).told p ≡ (seen old.disk).told p
  pub because : why had

-- Why a fix was refused, and what stands then: nothing has changed, or the refusal was appended. The log was durable up to `durable`, and its count of
-- faults went from `was` to `is`.
abbrev pub IsFixRefusal : {D : Type 0} → (D → DiskSeen) → State D → State D → List Row → List Row → Caller → ℕ → PageId → ℕ → ℕ → ℕ → ℕ → FixErr → Type 0
IsFixRefusal seen old new rows rows' by held p now durable was is refusal.OutOfMemory = (new ≡ old) × (rows' ≡ rows)
IsFixRefusal seen old new rows rows' by held p now durable was is (refusal.NoSuchPage pages) = IsPastEnd seen old new by p (call.Fix p now) pages × (rows' ≡ rows)
IsFixRefusal seen old new rows rows' by held p now durable was is (refusal.HoldFull full) =
    (p.page < pages_in (seen old.disk).spaces p.space) × IsHeldFull old new by (call.Fix p now) held full × (rows' ≡ rows)
IsFixRefusal seen old new rows rows' by held p now durable was is (refusal.AllFixed words) =
    (p.page < pages_in (seen old.disk).spaces p.space) × (held < MOST_FIXES) × IsUnseated old new rows by p (call.Fix p now) words × (rows' ≡ rows)
IsFixRefusal seen old new rows rows' by held p now durable was is (refusal.RedoFault before after) =
    (p.page < pages_in (seen old.disk).spaces p.space) × (held < MOST_FIXES)
    × IsUnwritten old new by p (call.Fix p now) was is before after (cause.RedoFault before after) × (rows' ≡ rows) × MustCover old rows durable × (new.disk ≡ old.disk)
IsFixRefusal seen old new rows rows' by held p now durable was is (refusal.DiskFault before after) =
    (p.page < pages_in (seen old.disk).spaces p.space) × (held < MOST_FIXES)
    × ((IsUnwritten old new by p (call.Fix p now) (seen old.disk).faults (seen new.disk).faults before after (cause.DiskFault before after) × (rows' ≡ rows) × MustWrite old rows)
    ⊎ IsUnread seen old rows rows' by p (λ had. ((seen old.disk).faults ≤ (seen had.disk).faults) × IsFaulted seen had new by p now before after))
IsFixRefusal seen old new rows rows' by held p now durable was is (refusal.BadPage bad) =
    (p.page < pages_in (seen old.disk).spaces p.space) × (held < MOST_FIXES)
    × IsUnread seen old rows rows' by p (λ had. IsUnsound seen had new by p now bad)

-- A fix for which no page has to leave: its page is resident or lies outside its space, the caller holds as many as it may, or a frame is free.
abbrev pub NeedsNoVictim : {D : Type 0} → (D → DiskSeen) → State D → ℕ → PageId → Type 0
NeedsNoVictim seen desk held p =
    IsSome (home desk.history p) ⊎ (pages_in (seen desk.disk).spaces p.space ≤ p.page) ⊎ (MOST_FIXES ≤ held) ⊎ IsSome (frame_in_turn (book desk.config desk.history))

-- why a fix is refused for which no frame was had
abbrev pub fix_err_of : FrameErr → FixErr
fix_err_of unhad.OutOfMemory = refusal.OutOfMemory
fix_err_of (unhad.AllFixed seen) = refusal.AllFixed seen
fix_err_of (unhad.RedoFault before after) = refusal.RedoFault before after
fix_err_of (unhad.DiskFault before after) = refusal.DiskFault before after

-- the log is as it was at a refusal that no device causes
abbrev pub IsUnlogged : {L : Type 0} → L → L → FixErr → Type 0
IsUnlogged old new refusal.OutOfMemory = new ≡ old
IsUnlogged old new (refusal.NoSuchPage pages) = new ≡ old
IsUnlogged old new (refusal.HoldFull held) = new ≡ old
IsUnlogged old new (refusal.AllFixed words) = new ≡ old
IsUnlogged old new (refusal.RedoFault before after) = ⊤
IsUnlogged old new (refusal.DiskFault before after) = ⊤
IsUnlogged old new (refusal.BadPage bad) = ⊤
