-- What a fix does, by its answer.
use Rattle.std.proofs.Common.{◌≡◌, ℕ, List, [], ◌+◌, ◌<◌, ◌≤◌, None, IsSome, Result, Ok, Err, IfErr, length, refl, subst, inl, inr, arith}
use Rattle.page_ids.specs.declared.ids.PageId.{PageId}
use Rattle.page_ids.specs.declared.layout.BadPage.{BadPage}
use Rattle.page_ids.specs.declared.limits.TheConstants.{FIX_NEED, LIMIT}
use Rattle.page_disk.specs.Disks.{DiskSeen, pages_in}
use Rattle.redo_mark.specs.Logs.{Seen, IsLater}
use Rattle.trail.specs.declared.event.Event.{Event}
use Rattle.trail.specs.declared.event.Call.TheVariants as call
use Rattle.trail.specs.declared.event.Cause.TheVariants as cause
use Rattle.trail.specs.declared.event.Kind.TheVariants as kind
use Rattle.trail.specs.History.{value}
use Rattle.trail.specs.Dirt.{log_end}
use Rattle.trail.specs.Trails.{Opening}
use Rattle.frame_words.specs.Plain.{Plain, seen_of}
use Rattle.desk.specs.State.{State}
use Rattle.desk.specs.Answers as answers
use Rattle.desk.specs.Base.{Opened}
use Rattle.desk.specs.Behind.{IsBehind}
use Rattle.desk.specs.Moments as desk
use Rattle.desk.specs.Moments.{Moment}
use Rattle.desk.specs.declared.calls.Caller.{Caller}
use Rattle.desk.specs.Logged.{IsLogged}
use Rattle.desk.specs.Fixing.{IsGrantedBy, IsFixRefusal}
use Rattle.desk.specs.declared.calls.Granted.{Granted}
use Rattle.desk.specs.declared.calls.FixErr.{FixErr}
use Rattle.desk.specs.declared.calls.FixErr.TheVariants as refusal
use Rattle.script_text.specs.declared.script.Command.TheVariants as command
use Rattle.script_run.specs.Openings.{Start, opened_of}
use Rattle.script_run.specs.Work.{Working, HasPlayed, StandsBehind, IsBehindIt, IsWorkerReady, Does, Along, RefusesFix, with_answer}
use Rattle.script_run.proofs.Growing.{me, Left, Moves, on_some, room_of}
use Rattle.script_run.proofs.Along.{Keeps, Ties, along_hit, along_miss, along_refused, along_unread}
use Rattle.script_run.proofs.Doing.{does_hit, does_miss, does_outside, does_full, does_unseated, does_uncovered, does_unwritten, does_faulted, does_unsound}

-- what each fix of the worker leaves, beside its answer
pub record Fixes {D : Type 0} (seen : D → DiskSeen) (old new : State D) (before after : Plain) (was is : Seen) (w : Working) : Type 0 where
  pub ready : IsWorkerReady seen old before w.fixed
  pub left : Left seen old new
  pub grown : length new.history ≤ length old.history + 4
  pub behind : Keeps seen old new before after
  pub tied : Ties seen new after
  pub later : IsLater was is
  pub known : log_end new.history ≤ is.end
  pub logged : IsLogged was old.history → IsLogged is new.history
  pub room : old.config.first + length old.history + FIX_NEED ≤ LIMIT

-- from what the desk's call keeps
pub fixes_of : {D : Type 0} (seen : D → DiskSeen) (most : ℕ) (m n : Moment D) (before after : Plain) (w : Working) → IsWorkerReady seen m.desk before w.fixed
    → desk.Keeps seen most (record m { frames = seen_of before }) (record n { frames = seen_of after }) → log_end m.desk.history ≤ m.log.seen.end → most ≤ 4 → m.desk.config.first + length m.desk.history + FIX_NEED ≤ LIMIT
    → Fixes seen m.desk n.desk before after m.log.seen n.log.seen w
fixes_of seen most m n before after w ready keeps known most_is room = record {
  ready = ready;
  left = keeps.desk;
  grown = omega (arith, keeps.count, most_is);
  behind = λ o. keeps.behind o tt;
  tied = (keeps.rest.tied, keeps.rest.hands);
  later = keeps.later;
  known = keeps.known known;
  logged = keeps.logged;
  room = room;
}

-- why a fix was refused, and of which pages the bytes were none
pub why_unfixed : {D : Type 0} (seen : D → DiskSeen) (m n : Moment D) (by : Caller) (held : ℕ) (p : PageId) (now : ℕ) (answer : Result Granted FixErr) → answers.Fixes seen m n by held p now answer
    → IfErr answer (λ e. IsFixRefusal seen m.desk n.desk m.frames.rows n.frames.rows by held p now m.log.seen.durable m.log.seen.faults n.log.seen.faults e)
why_unfixed seen m n by held p now (Ok g) is = tt
why_unfixed seen m n by held p now (Err e) is = is.refused

err_is : (x y : FixErr) → ◌≡◌ {A = Result Granted FixErr} (Err x) (Err y) → x ≡ y
err_is x y is = cc

pub unsound_fix : {D : Type 0} (seen : D → DiskSeen) (m n : Moment D) (by : Caller) (held : ℕ) (p : PageId) (now : ℕ) (answer : Result Granted FixErr) → answers.Fixes seen m n by held p now answer
    → (o : Opened) (bad : BadPage) → IsBehind seen o m.desk m.frames → answer ≡ Err (refusal.BadPage bad) → value o.size o.base m.desk.history p ≡ None
unsound_fix seen m n by held p now (Ok g) is o bad behind same = absurd (cc)
unsound_fix seen m n by held p now (Err e) is o bad behind same = is.unsound o bad behind (err_is e (refusal.BadPage bad) same)

pub moves_of : {D : Type 0} (seen : D → DiskSeen) (o : Opening) (start : Start) (old new : State D) (before after : Plain) (was is : Seen) (w : Working) (past : List Event)
    → Fixes seen old new before after was is w → HasPlayed seen o start old was w past [] → Moves seen old new was is
moves_of seen o start old new before after was is w past fixes so = record { left = fixes.left; later = fixes.later.faults; logged = fixes.logged so.logged }

-- the laws of the command, over any trail so far
abbrev pub Did : {D : Type 0} → (D → DiskSeen) → State D → State D → Plain → Seen → Seen → Working → Working → PageId → ℕ → Type 0
Did seen old new before was is w v p now = (o : Opening) (start : Start) (past : List Event) → HasPlayed seen o start old was w past [] → StandsBehind seen o start old before → Does seen o start new is v past (command.Fix p now)

pub granted_along : {D : Type 0} (seen : D → DiskSeen) (old new : State D) (before after : Plain) (was is : Seen) (w : Working) (p : PageId) (now : ℕ) (g : Granted)
    → Fixes seen old new before after was is w → length w.fixed < 64 → IsGrantedBy seen old new before.rows after.rows (me w) p now g
    → Along seen 1 old new before after was is w (with_answer w (kind.Fix p g.frame g.clock now))
granted_along seen old new before after was is w p now g fixes few (inl hit) = along_hit seen old new before after was is w p now g hit few fixes.left fixes.grown fixes.behind fixes.tied fixes.later fixes.known
granted_along seen old new before after was is w p now g fixes few (inr miss) = along_miss seen old new before after was is w p now g miss few fixes.left fixes.grown fixes.behind fixes.tied fixes.later fixes.known

pub granted_does : {D : Type 0} (seen : D → DiskSeen) (old new : State D) (before after : Plain) (was is : Seen) (w : Working) (p : PageId) (now : ℕ) (g : Granted)
    → Fixes seen old new before after was is w → length w.fixed < 64 → p.page < pages_in (seen old.disk).spaces p.space
    → ((o : Opened) → IsBehindIt seen o old before → IsSome (value o.size o.base old.history p)) → IsGrantedBy seen old new before.rows after.rows (me w) p now g
    → Did seen old new before was is w (with_answer w (kind.Fix p g.frame g.clock now)) p now
granted_does seen old new before after was is w p now g fixes few inside valued (inl hit) =
    λ o start past so stands. does_hit seen o start old new was is w past p now g so (moves_of seen o start old new before after was is w past fixes so) hit inside few (room_of seen o start old was w past [] FIX_NEED so fixes.room)
granted_does seen old new before after was is w p now g fixes few inside valued (inr miss) =
    λ o start past so stands. does_miss seen o start old new before was is w past p now g so (moves_of seen o start old new before after was is w past fixes so) fixes.ready miss inside few
    (on_some o.base _ _ (λ base e behind. valued (opened_of o start base) behind) stands) (room_of seen o start old was w past [] FIX_NEED so fixes.room)

-- the worker after a refusal
abbrev pub refused : Working → Working
refused w = record w { next = w.next + 1 }

pub refused_along : {D : Type 0} (seen : D → DiskSeen) (old new : State D) (before after : Plain) (was is : Seen) (w : Working) (p : PageId) (now held : ℕ) (answer : Result Granted FixErr)
    → Fixes seen old new before after was is w → RefusesFix answer
    → IfErr answer (λ e. IsFixRefusal seen old new before.rows after.rows (me w) held p now was.durable was.faults is.faults e)
    → Along seen 1 old new before after was is w (refused w)
refused_along seen old new before after was is w p now held (Ok g) fixes refuses why = absurd refuses
refused_along seen old new before after was is w p now held (Err refusal.OutOfMemory) fixes refuses why = absurd refuses
refused_along seen old new before after was is w p now held (Err (refusal.NoSuchPage pages)) fixes refuses why =
    along_refused seen old new before after was is w (call.Fix p now) (cause.NoSuchPage pages) why.0.entry why.1 fixes.left fixes.grown fixes.behind fixes.tied fixes.later fixes.known
refused_along seen old new before after was is w p now held (Err (refusal.HoldFull full)) fixes refuses why =
    along_refused seen old new before after was is w (call.Fix p now) (cause.HoldFull full) why.1.entry why.2 fixes.left fixes.grown fixes.behind fixes.tied fixes.later fixes.known
refused_along seen old new before after was is w p now held (Err (refusal.AllFixed words)) fixes refuses why =
    along_refused seen old new before after was is w (call.Fix p now) (cause.AllFixed words) why.2.entry why.3 fixes.left fixes.grown fixes.behind fixes.tied fixes.later fixes.known
refused_along seen old new before after was is w p now held (Err (refusal.RedoFault from to)) fixes refuses why =
    along_refused seen old new before after was is w (call.Fix p now) (cause.RedoFault from to) why.2.entry why.3 fixes.left fixes.grown fixes.behind fixes.tied fixes.later fixes.known
refused_along seen old new before after was is w p now held (Err (refusal.DiskFault from to)) fixes refuses (inside, few, inl written) =
    along_refused seen old new before after was is w (call.Fix p now) (cause.DiskFault from to) written.0.entry written.1 fixes.left fixes.grown fixes.behind fixes.tied fixes.later fixes.known
refused_along seen old new before after was is w p now held (Err (refusal.DiskFault from to)) fixes refuses (inside, few, inr unread) =
    along_unread seen old unread.had new before after was is w (call.Fix p now) (cause.DiskFault from to) unread.frame unread.frame_is unread.because.1.entry
    fixes.left fixes.grown fixes.behind fixes.tied fixes.later fixes.known
refused_along seen old new before after was is w p now held (Err (refusal.BadPage bad)) fixes refuses why =
    along_unread seen old why.2.had new before after was is w (call.Fix p now) (cause.BadPage bad) why.2.frame why.2.frame_is why.2.because.entry
    fixes.left fixes.grown fixes.behind fixes.tied fixes.later fixes.known

pub fewer : (held n : ℕ) → held ≡ n → held < 64 → n < 64
fewer held n count few = subst (λ (k : ℕ). k < 64) count few

pub refused_does : {D : Type 0} (seen : D → DiskSeen) (old new : State D) (before after : Plain) (was is : Seen) (w : Working) (p : PageId) (now held : ℕ) (answer : Result Granted FixErr)
    → Fixes seen old new before after was is w → held ≡ length w.fixed → RefusesFix answer
    → IfErr answer (λ e. IsFixRefusal seen old new before.rows after.rows (me w) held p now was.durable was.faults is.faults e)
    → ((o : Opened) (bad : BadPage) → IsBehindIt seen o old before → answer ≡ Err (refusal.BadPage bad) → value o.size o.base old.history p ≡ None)
    → Did seen old new before was is w (refused w) p now
refused_does seen old new before after was is w p now held (Ok g) fixes count refuses why unsound = absurd refuses
refused_does seen old new before after was is w p now held (Err refusal.OutOfMemory) fixes count refuses why unsound = absurd refuses
refused_does seen old new before after was is w p now held (Err (refusal.NoSuchPage pages)) fixes count refuses why unsound =
    λ o start past so stands. does_outside seen o start old new was is w past p now pages so (moves_of seen o start old new before after was is w past fixes so) why.0 (room_of seen o start old was w past [] FIX_NEED so fixes.room)
refused_does seen old new before after was is w p now held (Err (refusal.HoldFull full)) fixes count refuses why unsound =
    λ o start past so stands. does_full seen o start old new was is w past p now held full so (moves_of seen o start old new before after was is w past fixes so) why.0 count fixes.ready.few why.1 (room_of seen o start old was w past [] FIX_NEED so fixes.room)
refused_does seen old new before after was is w p now held (Err (refusal.AllFixed words)) fixes count refuses why unsound =
    λ o start past so stands. does_unseated seen o start old new before was is w past p now words so (moves_of seen o start old new before after was is w past fixes so) fixes.ready why.0
    (fewer held (length w.fixed) count why.1) why.2 (room_of seen o start old was w past [] FIX_NEED so fixes.room)
refused_does seen old new before after was is w p now held (Err (refusal.RedoFault from to)) fixes count refuses why unsound =
    λ o start past so stands. does_uncovered seen o start old new was is w past p now from to so (moves_of seen o start old new before after was is w past fixes so) why.0
    (fewer held (length w.fixed) count why.1) why.2 (room_of seen o start old was w past [] FIX_NEED so fixes.room)
refused_does seen old new before after was is w p now held (Err (refusal.DiskFault from to)) fixes count refuses (inside, few, inl written) unsound =
    λ o start past so stands. does_unwritten seen o start old new was is w past p now from to so (moves_of seen o start old new before after was is w past fixes so) inside
    (fewer held (length w.fixed) count few) written.0 (room_of seen o start old was w past [] FIX_NEED so fixes.room)
refused_does seen old new before after was is w p now held (Err (refusal.DiskFault from to)) fixes count refuses (inside, few, inr unread) unsound =
    λ o start past so stands. does_faulted seen o start old unread.had new before was is w past p now unread.frame from to so (moves_of seen o start old new before after was is w past fixes so) fixes.ready inside
    (fewer held (length w.fixed) count few) unread.absent unread.frame_is unread.because.0 unread.because.1 (room_of seen o start old was w past [] FIX_NEED so fixes.room)
refused_does seen old new before after was is w p now held (Err (refusal.BadPage bad)) fixes count refuses why unsound =
    λ o start past so stands. does_unsound seen o start old why.2.had new before was is w past p now why.2.frame bad so (moves_of seen o start old new before after was is w past fixes so) fixes.ready why.0
    (fewer held (length w.fixed) count why.1) why.2.absent why.2.frame_is why.2.because
    (on_some o.base _ _ (λ base e behind. unsound (opened_of o start base) bad behind refl) stands) (room_of seen o start old was w past [] FIX_NEED so fixes.room)
