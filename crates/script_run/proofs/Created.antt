-- What a create does, by its answer.
use Rattle.std.proofs.Common.{◌≡◌, ℕ, Bool, cond, List, [], ◌∷◌, ◌+◌, ◌<◌, ◌≤◌, None, Some, Result, Ok, Err, IfErr, length, refl, ap, sym, subst, arith}
use Rattle.page_ids.specs.Size.{page_bytes}
use Rattle.page_ids.specs.declared.config.Config.{Config}
use Rattle.page_ids.specs.declared.ids.PageId.{PageId}
use Rattle.page_ids.specs.declared.limits.TheConstants.{CREATE_NEED}
use Rattle.page_disk.specs.Disks.{DiskSeen, pages_in}
use Rattle.redo_mark.specs.Logs.{Seen}
use Rattle.trail.specs.declared.event.Entry.{Entry}
use Rattle.trail.specs.declared.event.Event.{Event}
use Rattle.trail.specs.declared.event.Held.{Held}
use Rattle.trail.specs.declared.event.Call.TheVariants as call
use Rattle.trail.specs.declared.event.Cause.TheVariants as cause
use Rattle.trail.specs.declared.event.Kind.TheVariants as kind
use Rattle.trail.specs.Dirt.{log_end}
use Rattle.trail.specs.History.{home}
use Rattle.trail.specs.Trails.{Opening}
use Rattle.frame_words.specs.Plain.{Plain}
use Rattle.frame_words.specs.Rows.{Row}
use Rattle.desk.specs.State.{State}
use Rattle.desk.specs.Steps.{next_entry, row_in}
use Rattle.instance_lists.specs.Ledger.{IsVacant}
use Rattle.desk.specs.Answers.{Creates}
use Rattle.desk.specs.Moments.{Moment}
use Rattle.desk.specs.Creating.{IsCreatedBy, IsMade, IsCreateRefusal, blank_at, made_row}
use Rattle.desk.specs.declared.calls.Granted.{Granted}
use Rattle.desk.specs.declared.calls.Caller.{Caller}
use Rattle.desk.specs.declared.calls.CreateErr.{CreateErr}
use Rattle.desk.specs.declared.calls.CreateErr.TheVariants as refusal
use Rattle.script_text.specs.declared.script.Command.TheVariants as command
use Rattle.script_run.specs.Openings.{Start}
use Rattle.script_run.specs.Work.{Working, HasPlayed, Does, Along, AreHeld, AreHoused, RefusesCreate, with_answer}
use Rattle.script_run.proofs.Fixing.{Fixes, moves_of, refused, fewer}
use Rattle.script_run.proofs.Fixes.{same_self}
use Rattle.script_run.proofs.Framing.{held_with}
use Rattle.script_run.proofs.Growing.{me, room_of}
use Rattle.script_run.proofs.Staying.{Stays, stays_at, stays_load, stays_had}
use Rattle.script_run.proofs.Along.{along_of, along_refused, along_unread}
use Rattle.script_run.proofs.Making.{does_made, create_outside, create_full, create_resident, create_unseated, create_uncovered, create_unwritten, create_spent}

-- a page comes to its frame by a create as by a load
stays_create : (config : Config) (h : List Entry) (place caller number : ℕ) (p : PageId) (f start end now : ℕ) (rows : List Row) (fixed : List Held) → home h p ≡ None → IsVacant h f → f < config.frames
    → Stays config h rows fixed → Stays config (record { place = place; caller = caller; number = number; kind = kind.Create p f start end now } ∷ h) rows fixed
stays_create config h place caller number p f start end now rows fixed absent vacant below was =
    let as_load = stays_load config h place caller number p f rows fixed absent vacant below was in
    record { homes = as_load.homes; apart = as_load.apart; housed = housed h place caller number p f start end now fixed as_load.housed; held = as_load.held }
  where
    housed : (h : List Entry) (place caller number : ℕ) (p : PageId) (f start end now : ℕ) (fixed : List Held)
        → AreHoused (record { place = place; caller = caller; number = number; kind = kind.Load p f } ∷ h) fixed → AreHoused (record { place = place; caller = caller; number = number; kind = kind.Create p f start end now } ∷ h) fixed
    housed h place caller number p f start end now [] was = tt
    housed h place caller number p f start end now (x ∷ fixed) was = (was.0, housed h place caller number p f start end now fixed was.1)

stays_made : {D : Type 0} {rows more : List Row} (had new : State D) (w : Working) (p : PageId) (now start : ℕ) (g : Granted) → IsMade had new rows more (me w) p now start g
    → Stays had.config had.history rows w.fixed → Stays new.config new.history more (with_answer w (kind.Create p g.frame start (start + 21) now)).fixed
stays_made {D} {rows} {more} had new w p now start g made was =
    let e : Entry = next_entry had (me w) (kind.Create p g.frame start (start + 21) now) in
    let x : Held = record { page = p; frame = g.frame; number = w.next } in
    let row : Row = made_row (row_in rows g.frame) p (blank_at (page_bytes had.config.page) (start + 21)) g.place in
    let R : List Row → Type 0 = λ rows. AreHeld rows (x ∷ w.fixed) in
    let there = stays_create had.config had.history e.place e.caller e.number p g.frame start (start + 21) now rows w.fixed made.absent made.fresh made.below was in
    let here : home (e ∷ had.history) p ≡ Some g.frame = ap (λ (b : Bool). cond b (Some g.frame) (home had.history p)) (same_self p) in
    stays_at had.config new.config (e ∷ had.history) new.history more (x ∷ w.fixed) made.entry.config made.entry.history
    (record { homes = there.homes; apart = there.apart; housed = (here, there.housed); held = subst R (sym made.rows_are) (held_with rows w.fixed x row refl was.held) })

pub made_along : {D : Type 0} (seen : D → DiskSeen) (old new : State D) (before after : Plain) (was is : Seen) (w : Working) (p : PageId) (now : ℕ) (g : Granted)
    → Fixes seen old new before after was is w → length w.fixed < 64 → (by : IsCreatedBy old new before.rows after.rows (me w) p now was.end is.end g)
    → Along seen 1 old new before after was is w (with_answer w (kind.Create p g.frame by.start (by.start + 21) now))
made_along seen old new before after was is w p now g fixes few by =
    along_of seen old new before after was is w (kind.Create p g.frame by.start (by.start + 21) now) fixes.left fixes.grown
    (λ ready. (stays_made by.had new w p now by.start g by.made (stays_had seen old by.had before w g.frame ready by.frame_is), omega (arith, few))) fixes.behind fixes.tied fixes.later fixes.known

-- why no page was made
pub why_unmade : {D : Type 0} (seen : D → DiskSeen) (m n : Moment D) (by : Caller) (held : ℕ) (p : PageId) (now : ℕ) (answer : Result Granted CreateErr) → Creates seen m n by held p now answer
    → IfErr answer (λ e. IsCreateRefusal seen m.desk n.desk m.frames.rows n.frames.rows by held p now m.log.seen.durable m.log.seen.end n.log.seen.end m.log.seen.faults n.log.seen.faults e)
why_unmade seen m n by held p now (Ok g) is = tt
why_unmade seen m n by held p now (Err e) is = is.refused

pub unmade_along : {D : Type 0} (seen : D → DiskSeen) (old new : State D) (before after : Plain) (was is : Seen) (w : Working) (p : PageId) (now held : ℕ) (answer : Result Granted CreateErr)
    → Fixes seen old new before after was is w → RefusesCreate answer
    → IfErr answer (λ e. IsCreateRefusal seen old new before.rows after.rows (me w) held p now was.durable was.end is.end was.faults is.faults e)
    → Along seen 1 old new before after was is w (refused w)
unmade_along seen old new before after was is w p now held (Ok g) fixes refuses why = absurd refuses
unmade_along seen old new before after was is w p now held (Err refusal.OutOfMemory) fixes refuses why = absurd refuses
unmade_along seen old new before after was is w p now held (Err (refusal.NoSuchPage pages)) fixes refuses why =
    along_refused seen old new before after was is w (call.Create p now) (cause.NoSuchPage pages) why.0.entry why.1 fixes.left fixes.grown fixes.behind fixes.tied fixes.later fixes.known
unmade_along seen old new before after was is w p now held (Err (refusal.HoldFull full)) fixes refuses why =
    along_refused seen old new before after was is w (call.Create p now) (cause.HoldFull full) why.1.entry why.2 fixes.left fixes.grown fixes.behind fixes.tied fixes.later fixes.known
unmade_along seen old new before after was is w p now held (Err (refusal.Resident f)) fixes refuses why =
    along_refused seen old new before after was is w (call.Create p now) (cause.Resident f) why.2.entry why.3 fixes.left fixes.grown fixes.behind fixes.tied fixes.later fixes.known
unmade_along seen old new before after was is w p now held (Err (refusal.AllFixed words)) fixes refuses why =
    along_refused seen old new before after was is w (call.Create p now) (cause.AllFixed words) why.2.entry why.3 fixes.left fixes.grown fixes.behind fixes.tied fixes.later fixes.known
unmade_along seen old new before after was is w p now held (Err (refusal.RedoFault from to)) fixes refuses why =
    along_refused seen old new before after was is w (call.Create p now) (cause.RedoFault from to) why.2.entry why.3 fixes.left fixes.grown fixes.behind fixes.tied fixes.later fixes.known
unmade_along seen old new before after was is w p now held (Err (refusal.DiskFault from to)) fixes refuses why =
    along_refused seen old new before after was is w (call.Create p now) (cause.DiskFault from to) why.2.entry why.3 fixes.left fixes.grown fixes.behind fixes.tied fixes.later fixes.known
unmade_along seen old new before after was is w p now held (Err (refusal.LogSpent end)) fixes refuses why =
    along_unread seen old why.2.had new before after was is w (call.Create p now) (cause.LogSpent end) why.2.frame why.2.frame_is why.2.entry
    fixes.left fixes.grown fixes.behind fixes.tied fixes.later fixes.known

-- the laws of the command, over any trail so far
abbrev pub Made : {D : Type 0} → (D → DiskSeen) → State D → State D → Seen → Seen → Working → Working → PageId → ℕ → Type 0
Made seen old new was is w v p now = (o : Opening) (start : Start) (past : List Event) → HasPlayed seen o start old was w past [] → Does seen o start new is v past (command.Create p now)

pub made_does : {D : Type 0} (seen : D → DiskSeen) (old new : State D) (before after : Plain) (was is : Seen) (w : Working) (p : PageId) (now : ℕ) (g : Granted)
    → Fixes seen old new before after was is w → length w.fixed < 64 → p.page < pages_in (seen old.disk).spaces p.space → log_end old.history ≤ was.end
    → (by : IsCreatedBy old new before.rows after.rows (me w) p now was.end is.end g) → Made seen old new was is w (with_answer w (kind.Create p g.frame by.start (by.start + 21) now)) p now
made_does seen old new before after was is w p now g fixes few inside known by =
    λ o start past so. does_made seen o start old new before was is w past p now g so (moves_of seen o start old new before after was is w past fixes so) fixes.ready by inside few known (room_of seen o start old was w past [] CREATE_NEED so (omega (arith, fixes.room)))

pub unmade_does : {D : Type 0} (seen : D → DiskSeen) (old new : State D) (before after : Plain) (was is : Seen) (w : Working) (p : PageId) (now held : ℕ) (answer : Result Granted CreateErr)
    → Fixes seen old new before after was is w → held ≡ length w.fixed → RefusesCreate answer → log_end old.history ≤ was.end
    → IfErr answer (λ e. IsCreateRefusal seen old new before.rows after.rows (me w) held p now was.durable was.end is.end was.faults is.faults e)
    → Made seen old new was is w (refused w) p now
unmade_does seen old new before after was is w p now held (Ok g) fixes count refuses known why = absurd refuses
unmade_does seen old new before after was is w p now held (Err refusal.OutOfMemory) fixes count refuses known why = absurd refuses
unmade_does seen old new before after was is w p now held (Err (refusal.NoSuchPage pages)) fixes count refuses known why =
    λ o start past so. create_outside seen o start old new was is w past p now pages so (moves_of seen o start old new before after was is w past fixes so) why.0 (room_of seen o start old was w past [] CREATE_NEED so (omega (arith, fixes.room)))
unmade_does seen old new before after was is w p now held (Err (refusal.HoldFull full)) fixes count refuses known why =
    λ o start past so. create_full seen o start old new was is w past p now held full so (moves_of seen o start old new before after was is w past fixes so) why.0 count fixes.ready.few why.1 (room_of seen o start old was w past [] CREATE_NEED so (omega (arith, fixes.room)))
unmade_does seen old new before after was is w p now held (Err (refusal.Resident f)) fixes count refuses known why =
    λ o start past so. create_resident seen o start old new was is w past p now f so (moves_of seen o start old new before after was is w past fixes so) why.0
    (fewer held (length w.fixed) count why.1) why.2 (room_of seen o start old was w past [] CREATE_NEED so (omega (arith, fixes.room)))
unmade_does seen old new before after was is w p now held (Err (refusal.AllFixed words)) fixes count refuses known why =
    λ o start past so. create_unseated seen o start old new before was is w past p now words so (moves_of seen o start old new before after was is w past fixes so) fixes.ready why.0
    (fewer held (length w.fixed) count why.1) why.2 (room_of seen o start old was w past [] CREATE_NEED so (omega (arith, fixes.room)))
unmade_does seen old new before after was is w p now held (Err (refusal.RedoFault from to)) fixes count refuses known why =
    λ o start past so. create_uncovered seen o start old new was is w past p now from to so (moves_of seen o start old new before after was is w past fixes so) why.0
    (fewer held (length w.fixed) count why.1) why.2 (room_of seen o start old was w past [] CREATE_NEED so (omega (arith, fixes.room)))
unmade_does seen old new before after was is w p now held (Err (refusal.DiskFault from to)) fixes count refuses known why =
    λ o start past so. create_unwritten seen o start old new was is w past p now from to so (moves_of seen o start old new before after was is w past fixes so) why.0
    (fewer held (length w.fixed) count why.1) why.2 (room_of seen o start old was w past [] CREATE_NEED so (omega (arith, fixes.room)))
unmade_does seen old new before after was is w p now held (Err (refusal.LogSpent end)) fixes count refuses known why =
    λ o start past so. create_spent seen o start old new before was is w past p now end so (moves_of seen o start old new before after was is w past fixes so) fixes.ready why.0
    (fewer held (length w.fixed) count why.1) why.2 known (room_of seen o start old was w past [] CREATE_NEED so (omega (arith, fixes.room)))
