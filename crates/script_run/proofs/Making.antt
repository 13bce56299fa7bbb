-- What a thread's create does: the page is made, or the create is refused, lawfully behind the trail so far.
use Rattle.std.proofs.Common.{◌≡◌, ℕ, Bool, true, false, cond, List, [], ◌∷◌, ◌++◌, ◌+◌, ◌<◌, ◌≤◌, Option, Some, None, length, refl, ap, ◌∙◌, sym, subst, IsTrue, arith, inl, inr}
use Rattle.std.specs.Option.{option_or, option_map}
use Rattle.std.specs.Prelude.{unwrap_or}
use Rattle.page_ids.specs.Same.{same_page}
use Rattle.page_ids.specs.declared.config.Config.{Config}
use Rattle.page_ids.specs.declared.frame_word.Word.{Word}
use Rattle.page_ids.specs.declared.ids.PageId.{PageId}
use Rattle.page_disk.specs.Disks.{DiskSeen, pages_in}
use Rattle.redo_mark.specs.Logs.{Seen}
use Rattle.trail.specs.declared.event.Entry.{Entry}
use Rattle.trail.specs.declared.event.Held.{Held}
use Rattle.trail.specs.declared.event.Event.{Event}
use Rattle.trail.specs.declared.event.Event.TheVariants as event
use Rattle.trail.specs.declared.event.Kind.TheVariants as kind
use Rattle.trail.specs.declared.event.Call.TheVariants as call
use Rattle.trail.specs.declared.event.Cause.{Cause}
use Rattle.trail.specs.declared.event.Cause.TheVariants as cause
use Rattle.trail.specs.Trails.{entries, own, mark, Opening}
use Rattle.trail.specs.History.{home, disk_fault, disk_faults, log_fault, log_faults}
use Rattle.trail.specs.Dirt.{log_end, told_end}
use Rattle.trail.specs.Calls.{held_by, made}
use Rattle.trail.specs.Preceding.{MayPrecedeRefusal}
use Rattle.trail.specs.Causes.{due, resident_cause, IsReached, IsRefused}
use Rattle.trail.specs.Alone.{IsTrueRefusal}
use Rattle.trail.specs.Book.{book, frame_in_turn, is_late, next_frame}
use Rattle.trail.specs.Promises.{IsOfSpaces, TellsRising, is_own, is_noted}
use Rattle.trail.proofs.Judging.{first_of, outside_of, spaces_of, turn_of, used_up}
use Rattle.page_ids.specs.declared.limits.TheConstants.{CREATE_NEED, LIMIT}
use Rattle.frame_words.specs.Plain.{Plain}
use Rattle.frame_words.specs.Rows.{Row}
use Rattle.desk.specs.State.{State}
use Rattle.desk.specs.Steps.{IsAppended, IsPastEnd}
use Rattle.desk.specs.Ledger.{entry_behind}
use Rattle.desk.specs.Logged.{IsLogged, IsLoggedKind}
use Rattle.desk.specs.Victims.{IsHad, IsCleanedFirst}
use Rattle.desk.specs.Fixing.{IsHeldFull, IsUnseated, IsUnwritten}
use Rattle.desk.specs.Creating.{IsCreatedBy, IsFoundAtHome, IsUncreated}
use Rattle.desk.specs.declared.calls.Caller.{Caller}
use Rattle.desk.specs.declared.calls.Granted.{Granted}
use Rattle.script_text.specs.declared.script.Command.TheVariants as command
use Rattle.script_run.specs.Openings.{Start, IsCauseWithin}
use Rattle.script_run.specs.Work.{Working, HasPlayed, IsWorkerReady, Does, with_answer}
use Rattle.script_run.proofs.Growing.{me, Left, Moves, placed, logged_rest, so_far_placed, so_far_after, so_far_answer, lawful_entry}
use Rattle.script_run.proofs.Exact.{exact_words}
use Rattle.script_run.proofs.Telling.{told_below}
use Rattle.script_run.proofs.Having.{Readied, readied, logged_before, had_config}
use Rattle.script_run.proofs.Doing.{in_space, not_full, is_full, places, reached, wordless, same_pool, all_fixed_here, refused_behind, refused_at_once}

-- nothing stands against a create of a page without a home
free_create : (o : Opening) (past : List Event) (c n : ℕ) (p : PageId) (now : ℕ) (fixed : List Held) (h : List Entry) → held_by past c ≡ fixed → length fixed < 64
    → entries past ≡ h → home h p ≡ None → due o (entries past) (own c past) c n (call.Create p now) ≡ None
free_create o past c n p now fixed h are few at absent =
    ap (λ x. option_or x (resident_cause (entries past) p)) (not_full (own c past) fixed are few)
    ∙ ap (option_map (λ f. cause.Resident f)) (ap (λ l. home l p) at ∙ absent)

-- a create got as far as its own causes
create_reached : {D : Type 0} (seen : D → DiskSeen) (o : Opening) (start : Start) (desk : State D) (log : Seen) (w : Working) (past : List Event) (pending base : List Entry) (p : PageId) (now : ℕ)
    → HasPlayed seen o start desk log w past pending → desk.history ≡ pending ++ base → mark desk.config.first base + CREATE_NEED ≤ LIMIT → p.page < start.pages p.space
    → IsReached o past (entries past) (made w.next (own w.pass past)) w.pass w.next (call.Create p now)
create_reached seen o start desk log w past pending base p now so stands room inside = reached seen o start desk log w past pending base (call.Create p now) CREATE_NEED so stands refl room inside

-- the log's end, where a frame was had
had_end : {D : Type 0} {rows cleared : List Row} (old had : State D) (by : Caller) (f : ℕ) → IsHad old had rows cleared by f → log_end had.history ≡ log_end old.history
had_end old had by f (inl free) = ap (λ (s : State _). log_end s.history) free.same
had_end old had by f (inr evicted) = ap log_end evicted.history ∙ cases evicted.cleaned
  where
    cases : IsCleanedFirst old.config.first by evicted.page old.history evicted.mid → log_end evicted.mid ≡ log_end old.history
    cases (inl (clean, same)) = ap log_end same
    cases (inr back) = ap log_end back.entry

-- and the greatest end that was told
had_told : {D : Type 0} {rows cleared : List Row} (old had : State D) (by : Caller) (f : ℕ) → IsHad old had rows cleared by f → told_end had.history ≡ told_end old.history
had_told old had by f (inl free) = ap (λ (s : State _). told_end s.history) free.same
had_told old had by f (inr evicted) = ap told_end evicted.history ∙ cases evicted.cleaned
  where
    cases : IsCleanedFirst old.config.first by evicted.page old.history evicted.mid → told_end evicted.mid ≡ told_end old.history
    cases (inl (clean, same)) = ap told_end same
    cases (inr back) = ap told_end back.entry

gone : (b : Bool) (before : Option ℕ) → before ≡ None → cond b None before ≡ None
gone true before none = refl
gone false before none = none

-- a frame is had for a page without a home, which then still has none
had_absent : {D : Type 0} {rows cleared : List Row} (old had : State D) (p : PageId) (by : Caller) (f : ℕ) → home old.history p ≡ None → IsHad old had rows cleared by f → home had.history p ≡ None
had_absent old had p by f absent (inl free) = ap (λ (s : State _). home s.history p) free.same ∙ absent
had_absent old had p by f absent (inr evicted) = ap (λ h. home h p) evicted.history ∙ gone (same_page evicted.page p) (home evicted.mid p) (cases evicted.cleaned)
  where
    cases : IsCleanedFirst old.config.first by evicted.page old.history evicted.mid → home evicted.mid p ≡ None
    cases (inl (clean, same)) = ap (λ h. home h p) same ∙ absent
    cases (inr back) = ap (λ h. home h p) back.entry ∙ absent

-- the page was made in a frame that was had
pub does_made : {D : Type 0} {more : List Row} (seen : D → DiskSeen) (o : Opening) (start : Start) (old new : State D) (frames : Plain) (was is : Seen) (w : Working) (past : List Event) (p : PageId) (now : ℕ) (g : Granted)
    → HasPlayed seen o start old was w past [] → Moves seen old new was is → IsWorkerReady seen old frames w.fixed → (by : IsCreatedBy old new frames.rows more (me w) p now was.end is.end g)
    → p.page < pages_in (seen old.disk).spaces p.space → length w.fixed < 64 → log_end old.history ≤ was.end → mark old.config.first old.history + CREATE_NEED ≤ LIMIT
    → Does seen o start new is (with_answer w (kind.Create p g.frame by.start (by.start + 21) now)) past (command.Create p now)
does_made seen o start old new frames was is w past p now g so moves ready by inside few known room =
    let had = by.had in
    let k = kind.Create p g.frame by.start (by.start + 21) now in
    let e : Entry = entry_behind old.config.first had.history (me w) k in
    let config : had.config ≡ old.config = had_config old had (me w) g.frame by.frame_is in
    let came : new.history ≡ e ∷ had.history = same_pool old.config had.config had.history new.history w k config by.made.entry.history in
    let I : List Entry → Type 0 = λ h. IsLogged is h in
    let all : IsLogged is (e ∷ had.history) = subst I came moves.logged in
    let first = so_far_placed seen o start old new was is w past so moves (logged_before old had is (me w) g.frame by.frame_is all.1) in
    let r = readied seen o start old new had frames is w past p g.frame first ready all.1 by.absent by.frame_is in
    let at = placed old new had.history in
    let past' : List Event = r.more ++ past in
    let here = in_space seen o start old was w past [] p so inside in
    let B : Config → Type 0 = λ c. frame_in_turn (book c had.history) ≡ Some g.frame in
    let N : List Entry → Type 0 = λ l. next_frame (book o.config l) w.pass w.next ≡ Some g.frame in
    let L : List Entry → Type 0 = λ h. log_end h ≤ by.start in
    record {
      answer = event.Entry e;
      before = r.more;
      quiet = r.quiet;
      so_far = so_far_after seen o start old new is (with_answer w k) (event.Entry e ∷ past') [] (e ∷ had.history) moves.left came
          (so_far_answer seen o start at is w past' r.made k r.so_far (record {
            logged = all.0;
            within = tt;
            last = r.so_far.last_fault;
            last_log = r.so_far.last_log_fault;
            lawful = lawful_entry seen o start at is w past' r.made old.history k r.so_far r.began r.got (record {
              absent = ap (λ l. home l p) r.so_far.entries_are ∙ by.made.absent;
              next = subst N (sym r.so_far.entries_are) (ap (λ c. next_frame (book c had.history) w.pass w.next) (sym r.so_far.config_is) ∙ turn_of (book old.config had.history) w.pass w.next r.turn ∙ subst B config by.made.frame);
              behind = subst L (sym r.so_far.entries_are) (omega (arith, had_end old had (me w) g.frame by.frame_is, known, by.known.0));
              record_is = refl;
            }) tt tt (record {
              reached = create_reached seen o start at is w past' r.made old.history p now r.so_far r.began room here;
              none_due = free_create o past' w.pass w.next p now w.fixed had.history r.so_far.held few r.so_far.entries_are by.made.absent;
            }) tt tt;
            promised = (record { inside = here; told = tt }, tt);
            exact = tt;
          }) refl (omega arith, r.so_far.falling) refl (used_up (book old.config had.history) w.pass w.next g.frame r.turn (subst B config by.made.frame)));
      answers = λ h goes. inl (g.frame, by.start, by.start + 21, refl);
    }

-- a create that was refused behind the entries by which a frame may have been had
unmade_behind : {D : Type 0} (seen : D → DiskSeen) (o : Opening) (start : Start) (old new : State D) (log : Seen) (w : Working) (past : List Event) (p : PageId) (now : ℕ) (why : Cause) (h : List Entry)
    → (r : Readied seen o start old new log w past p h) → Left seen old new → new.history ≡ entry_behind old.config.first h (me w) (kind.Refused (call.Create p now) why) ∷ h
    → IsLoggedKind log (kind.Refused (call.Create p now) why) → IsCauseWithin start (seen new.disk).faults log.faults why
    → unwrap_or (disk_fault why) (disk_faults h) ≤ (seen new.disk).faults → unwrap_or (log_fault why) (log_faults h) ≤ log.faults
    → MayPrecedeRefusal h r.made (call.Create p now) why → IsRefused o (r.more ++ past) (entries (r.more ++ past)) (own w.pass (r.more ++ past)) w.pass w.next (call.Create p now) why → IsTrueRefusal h w.fixed (call.Create p now) why
    → IsOfSpaces start.pages (kind.Refused (call.Create p now) why) → IsTrue (is_own (call.Create p now) why) → is_noted why ≡ false → TellsRising why → is_late (call.Create p now) why ≡ true
    → Does seen o start new log (with_answer w (kind.Refused (call.Create p now) why)) past (command.Create p now)
unmade_behind seen o start old new log w past p now why h r left came logged within last last_log precedes refused exact of own_is entered rising late =
    refused_behind seen o start old new log w past p (call.Create p now) (command.Create p now) why h r left came logged within last last_log precedes refused exact of
    (record { own = own_is; filed = entered; excused = tt; rising = rising; begun = tt }) (inr late) (λ l. inr (why, refl))

-- and one whose refusal comes alone
unmade_alone : {D : Type 0} (seen : D → DiskSeen) (o : Opening) (start : Start) (old new : State D) (was is : Seen) (w : Working) (past : List Event) (p : PageId) (now : ℕ) (why : Cause)
    → (so : HasPlayed seen o start old was w past []) → Moves seen old new was is → IsAppended old new (me w) (kind.Refused (call.Create p now) why)
    → IsLoggedKind is (kind.Refused (call.Create p now) why) → IsCauseWithin start (seen new.disk).faults is.faults why
    → unwrap_or (disk_fault why) (disk_faults old.history) ≤ (seen new.disk).faults → unwrap_or (log_fault why) (log_faults old.history) ≤ is.faults
    → MayPrecedeRefusal old.history [] (call.Create p now) why → IsRefused o past (entries past) (own w.pass past) w.pass w.next (call.Create p now) why → IsTrueRefusal old.history w.fixed (call.Create p now) why
    → IsOfSpaces start.pages (kind.Refused (call.Create p now) why) → IsTrue (is_own (call.Create p now) why) → is_noted why ≡ false → TellsRising why
    → Does seen o start new is (with_answer w (kind.Refused (call.Create p now) why)) past (command.Create p now)
unmade_alone seen o start old new was is w past p now why so moves entry logged within last last_log precedes refused exact of own_is entered rising =
    refused_at_once seen o start old new was is w past p (call.Create p now) (command.Create p now) why so moves entry logged within last last_log precedes refused exact of
    (record { own = own_is; filed = entered; excused = tt; rising = rising; begun = tt }) (λ l. inr (why, refl))

pub create_outside : {D : Type 0} (seen : D → DiskSeen) (o : Opening) (start : Start) (old new : State D) (was is : Seen) (w : Working) (past : List Event) (p : PageId) (now pages : ℕ)
    → HasPlayed seen o start old was w past [] → Moves seen old new was is → IsPastEnd seen old new (me w) p (call.Create p now) pages → mark old.config.first old.history + CREATE_NEED ≤ LIMIT
    → Does seen o start new is (with_answer w (kind.Refused (call.Create p now) (cause.NoSuchPage pages))) past (command.Create p now)
create_outside seen o start old new was is w past p now pages so moves out room =
    let why = cause.NoSuchPage pages in
    let count : pages ≡ start.pages p.space = out.count ∙ sym (so.pages_are p.space) in
    unmade_alone seen o start old new was is w past p now why so moves out.entry tt tt (omega (arith, so.last_fault, moves.left.later)) (omega (arith, so.last_log_fault, moves.later))
    (tt, refl) (
      places seen o start old was w past [] old.history (call.Create p now) CREATE_NEED so refl refl room,
      outside_of start.pages past p pages (spaces_of o start.pages past so.promised p.space) count out.past_end,
      tt,
    ) (wordless old.history w.fixed (call.Create p now) why refl refl refl) (record { inside = tt; told = count }) refl refl tt

pub create_full : {D : Type 0} (seen : D → DiskSeen) (o : Opening) (start : Start) (old new : State D) (was is : Seen) (w : Working) (past : List Event) (p : PageId) (now held full : ℕ)
    → HasPlayed seen o start old was w past [] → Moves seen old new was is → p.page < pages_in (seen old.disk).spaces p.space → held ≡ length w.fixed → length w.fixed ≤ 64
    → IsHeldFull old new (me w) (call.Create p now) held full → mark old.config.first old.history + CREATE_NEED ≤ LIMIT
    → Does seen o start new is (with_answer w (kind.Refused (call.Create p now) (cause.HoldFull full))) past (command.Create p now)
create_full seen o start old new was is w past p now held full so moves inside count few out room =
    let why = cause.HoldFull full in
    let here = in_space seen o start old was w past [] p so inside in
    let all : length w.fixed ≡ 64 = omega (arith, count, few, out.most) in
    let most : full ≡ 64 = omega (arith, out.full_is, count, all) in
    unmade_alone seen o start old new was is w past p now why so moves out.entry tt tt (omega (arith, so.last_fault, moves.left.later)) (omega (arith, so.last_log_fault, moves.later))
    (tt, refl) (
      create_reached seen o start old was w past [] old.history p now so refl room here,
      first_of _ _ why (ap (λ x. option_or x (resident_cause (entries past) p)) (is_full (own w.pass past) w.fixed so.held all) ∙ ap (λ n. Some (cause.HoldFull n)) (sym most)),
    ) (wordless old.history w.fixed (call.Create p now) why refl refl refl) (record { inside = here; told = tt }) refl refl tt

pub create_resident : {D : Type 0} (seen : D → DiskSeen) (o : Opening) (start : Start) (old new : State D) (was is : Seen) (w : Working) (past : List Event) (p : PageId) (now f : ℕ)
    → HasPlayed seen o start old was w past [] → Moves seen old new was is → p.page < pages_in (seen old.disk).spaces p.space → length w.fixed < 64 → IsFoundAtHome old new (me w) p now f → mark old.config.first old.history + CREATE_NEED ≤ LIMIT
    → Does seen o start new is (with_answer w (kind.Refused (call.Create p now) (cause.Resident f))) past (command.Create p now)
create_resident seen o start old new was is w past p now f so moves inside few out room =
    let why = cause.Resident f in
    let here = in_space seen o start old was w past [] p so inside in
    unmade_alone seen o start old new was is w past p now why so moves out.entry tt tt (omega (arith, so.last_fault, moves.left.later)) (omega (arith, so.last_log_fault, moves.later))
    (tt, refl) (
      create_reached seen o start old was w past [] old.history p now so refl room here,
      first_of _ _ why (ap (λ x. option_or x (resident_cause (entries past) p)) (not_full (own w.pass past) w.fixed so.held few) ∙ ap (option_map (λ f. cause.Resident f)) (ap (λ h. home h p) so.entries_are ∙ out.resident)),
    ) (wordless old.history w.fixed (call.Create p now) why refl refl refl) (record { inside = here; told = tt }) refl refl tt

pub create_unseated : {D : Type 0} (seen : D → DiskSeen) (o : Opening) (start : Start) (old new : State D) (frames : Plain) (was is : Seen) (w : Working) (past : List Event) (p : PageId) (now : ℕ) (words : List (ℕ × Word))
    → HasPlayed seen o start old was w past [] → Moves seen old new was is → IsWorkerReady seen old frames w.fixed → p.page < pages_in (seen old.disk).spaces p.space → length w.fixed < 64
    → IsUnseated old new frames.rows (me w) p (call.Create p now) words → mark old.config.first old.history + CREATE_NEED ≤ LIMIT
    → Does seen o start new is (with_answer w (kind.Refused (call.Create p now) (cause.AllFixed words))) past (command.Create p now)
create_unseated seen o start old new frames was is w past p now words so moves ready inside few out room =
    let here = in_space seen o start old was w past [] p so inside in
    unmade_alone seen o start old new was is w past p now (cause.AllFixed words) so moves out.entry tt tt (omega (arith, so.last_fault, moves.left.later)) (omega (arith, so.last_log_fault, moves.later))
    (tt, refl) (
      create_reached seen o start old was w past [] old.history p now so refl room here,
      (free_create o past w.pass w.next p now w.fixed old.history so.held few so.entries_are out.absent, all_fixed_here old.config o.config old.history (entries past) p words (sym so.config_is) so.entries_are out.full.all),
    )
    (record { words = exact_words seen old frames w.fixed old.history words (λ q. refl) (λ f. refl) ready out.full.found; tag = tt; free = refl }) (record { inside = here; told = tt }) refl refl out.full.rising

pub create_uncovered : {D : Type 0} (seen : D → DiskSeen) (o : Opening) (start : Start) (old new : State D) (was is : Seen) (w : Working) (past : List Event) (p : PageId) (now before after : ℕ)
    → HasPlayed seen o start old was w past [] → Moves seen old new was is → p.page < pages_in (seen old.disk).spaces p.space → length w.fixed < 64
    → IsUnwritten old new (me w) p (call.Create p now) was.faults is.faults before after (cause.RedoFault before after) → mark old.config.first old.history + CREATE_NEED ≤ LIMIT
    → Does seen o start new is (with_answer w (kind.Refused (call.Create p now) (cause.RedoFault before after))) past (command.Create p now)
create_uncovered seen o start old new was is w past p now before after so moves inside few out room =
    let here = in_space seen o start old was w past [] p so inside in
    let L : List Entry → Type 0 = λ h. log_faults h ≤ before in
    unmade_alone seen o start old new was is w past p now (cause.RedoFault before after) so moves out.entry tt (omega (arith, so.low_log, out.rose.first), omega (arith, out.rose.last))
    (omega (arith, so.last_fault, moves.left.later)) (omega (arith, out.rose.last))
    (tt, refl) (
      create_reached seen o start old was w past [] old.history p now so refl room here,
      (free_create o past w.pass w.next p now w.fixed old.history so.held few so.entries_are out.absent, (out.rose.rose, subst L (sym so.entries_are) (omega (arith, so.last_log_fault, out.rose.first)))),
    ) (wordless old.history w.fixed (call.Create p now) (cause.RedoFault before after) refl refl refl) (record { inside = here; told = tt }) refl refl tt

pub create_unwritten : {D : Type 0} (seen : D → DiskSeen) (o : Opening) (start : Start) (old new : State D) (was is : Seen) (w : Working) (past : List Event) (p : PageId) (now before after : ℕ)
    → HasPlayed seen o start old was w past [] → Moves seen old new was is → p.page < pages_in (seen old.disk).spaces p.space → length w.fixed < 64
    → IsUnwritten old new (me w) p (call.Create p now) (seen old.disk).faults (seen new.disk).faults before after (cause.DiskFault before after) → mark old.config.first old.history + CREATE_NEED ≤ LIMIT
    → Does seen o start new is (with_answer w (kind.Refused (call.Create p now) (cause.DiskFault before after))) past (command.Create p now)
create_unwritten seen o start old new was is w past p now before after so moves inside few out room =
    let here = in_space seen o start old was w past [] p so inside in
    let L : List Entry → Type 0 = λ h. disk_faults h ≤ before in
    unmade_alone seen o start old new was is w past p now (cause.DiskFault before after) so moves out.entry tt (omega (arith, so.low_is, out.rose.first), omega (arith, out.rose.last))
    (omega (arith, out.rose.last)) (omega (arith, so.last_log_fault, moves.later))
    (tt, refl) (
      create_reached seen o start old was w past [] old.history p now so refl room here,
      (free_create o past w.pass w.next p now w.fixed old.history so.held few so.entries_are out.absent, (out.rose.rose, subst L (sym so.entries_are) (omega (arith, so.last_fault, out.rose.first)))),
    ) (wordless old.history w.fixed (call.Create p now) (cause.DiskFault before after) refl refl refl) (record { inside = here; told = tt }) refl refl tt

-- a frame was had, and the log has no LSN left for the record
pub create_spent : {D : Type 0} {cleared : List Row} (seen : D → DiskSeen) (o : Opening) (start : Start) (old new : State D) (frames : Plain) (was is : Seen) (w : Working) (past : List Event) (p : PageId) (now end : ℕ)
    → HasPlayed seen o start old was w past [] → Moves seen old new was is → IsWorkerReady seen old frames w.fixed → p.page < pages_in (seen old.disk).spaces p.space → length w.fixed < 64
    → IsUncreated old new frames.rows cleared (me w) p now was.end is.end end → log_end old.history ≤ was.end → mark old.config.first old.history + CREATE_NEED ≤ LIMIT
    → Does seen o start new is (with_answer w (kind.Refused (call.Create p now) (cause.LogSpent end))) past (command.Create p now)
create_spent seen o start old new frames was is w past p now end so moves ready inside few out known room =
    let had = out.had in
    let why = cause.LogSpent end in
    let k = kind.Refused (call.Create p now) why in
    let e : Entry = entry_behind old.config.first had.history (me w) k in
    let came : new.history ≡ e ∷ had.history = same_pool old.config had.config had.history new.history w k (had_config old had (me w) out.frame out.frame_is) out.entry.history in
    let logged : IsLogged is had.history = logged_rest is e had.history new.history came moves.logged in
    let first = so_far_placed seen o start old new was is w past so moves (logged_before old had is (me w) out.frame out.frame_is logged) in
    let r = readied seen o start old new had frames is w past p out.frame first ready logged out.absent out.frame_is in
    let here = in_space seen o start old was w past [] p so inside in
    let told : told_end (entries past) ≤ was.end = told_below _ o past was so.good (subst (λ (l : List Entry). IsLogged was l) (sym so.entries_are) so.logged) (subst (λ (l : List Entry). log_end l ≤ was.end) (sym so.entries_are) known) in
    let same : told_end (entries (r.more ++ past)) ≡ told_end (entries past) = ap told_end r.so_far.entries_are ∙ had_told old had (me w) out.frame out.frame_is ∙ ap told_end (sym so.entries_are) in
    let absent : home had.history p ≡ None = had_absent old had p (me w) out.frame out.absent out.frame_is in
    unmade_behind seen o start old new is w past p now why had.history r moves.left came out.known.1 tt r.so_far.last_fault r.so_far.last_log_fault
    (tt, inr (absent, r.got)) (
      create_reached seen o start (placed old new had.history) is w (r.more ++ past) r.made old.history p now r.so_far r.began room here,
      (free_create o (r.more ++ past) w.pass w.next p now w.fixed had.history r.so_far.held few r.so_far.entries_are absent, record { behind = omega (arith, told, same, out.known.0); beyond = out.beyond }),
    ) (wordless had.history w.fixed (call.Create p now) why refl refl refl) (record { inside = here; told = tt }) refl refl tt refl
