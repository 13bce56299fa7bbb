-- What the worker's calls do: each leaves its events and an answer that is lawful behind the trail so far.
use Rattle.std.proofs.Common.{◌≡◌, ℕ, Bool, true, false, cond, List, [], ◌∷◌, ◌++◌, nat_eq, eq-eqb, ◌+◌, ◌-◌, ◌<◌, ◌≤◌, ◌⊎◌, Option, Some, None, length, refl, ap, ◌∙◌, sym, subst, IsTrue, IsSome, IfSome, MatchOption, IsSomeAnd, arith, inl, inr, Result, Ok, Err, OnOk}
use Rattle.std.specs.Prelude.{Contains, slice_range, is_none, unwrap_or}
use Rattle.std.proofs.lemmas.Bool.Decides.{nat_tests}
use Rattle.page_ids.specs.Size.{page_bytes}
use Rattle.page_ids.specs.Content.{Content, IsRange}
use Rattle.page_ids.specs.Refusal.{IsBadPage}
use Rattle.page_ids.specs.declared.frame_word.Word.{Word}
use Rattle.page_ids.specs.declared.ids.PageId.{PageId}
use Rattle.page_ids.specs.declared.config.Config.{Config}
use Rattle.page_ids.specs.declared.layout.BadPage.{BadPage}
use Rattle.page_ids.specs.declared.layout.BadPage.TheVariants as bad
use Rattle.page_disk.specs.Disks.{DiskSeen, pages_in}
use Rattle.redo_mark.specs.Logs.{Seen, IsLater}
use Rattle.trail.specs.declared.event.Entry.{Entry}
use Rattle.trail.specs.declared.event.Held.{Held}
use Rattle.trail.specs.declared.event.Event.{Event}
use Rattle.trail.specs.declared.event.Event.TheVariants as event
use Rattle.trail.specs.declared.event.Note.{Note}
use Rattle.trail.specs.declared.event.Note.TheVariants as note
use Rattle.trail.specs.declared.event.Kind.{Kind}
use Rattle.trail.specs.declared.event.Kind.TheVariants as kind
use Rattle.trail.specs.declared.event.Call.{Call}
use Rattle.trail.specs.declared.event.Call.TheVariants as call
use Rattle.trail.specs.declared.event.Cause.{Cause}
use Rattle.trail.specs.declared.event.Cause.TheVariants as cause
use Rattle.trail.specs.Trails.{entries, own, mark, Opening}
use Rattle.trail.specs.History.{home, change, value, disk_fault, disk_faults, disk_faults_after, log_fault, log_faults, log_faults_after, tenant}
use Rattle.trail.specs.Dirt.{log_end, told_end}
use Rattle.trail.specs.Kinds.{departure_in, kind_answers, write_in}
use Rattle.trail.specs.Calls.{before_call, held_by, held_after_kind, made, newest_fix, open_fixes}
use Rattle.trail.specs.Legal.{OnValue, IsLegalKind}
use Rattle.trail.specs.Preceding.{MayPrecede, MayPrecedeRefusal, kinds}
use Rattle.trail.specs.Still.{IsUnfixed}
use Rattle.trail.specs.Covered.{IsCoveredWrite}
use Rattle.trail.specs.Needs.{HasPlaces, need_of}
use Rattle.trail.specs.Spaces.{IsNotMissing, sought_page}
use Rattle.trail.specs.Causes.{full_cause, is_exact, unheld_cause, IsOther, IsReached, IsRefused, IsCausedKind}
use Rattle.trail.specs.Withdrawal.{IsWithdrawalKind}
use Rattle.trail.specs.Alone.{is_busy, IsTrueKind, IsTrueNote, IsTrueRefusal}
use Rattle.trail.specs.Victim.{AreAllFixed, IsVictimKind}
use Rattle.page_ids.specs.declared.limits.TheConstants.{ANSWER_NEED, FIX_NEED, LIMIT}
use Rattle.trail.specs.Words.{AreTrueWords, Hint, cause_tag, cause_words, hint_of}
use Rattle.trail.specs.Book.{book, frame_in_turn, is_late, next_frame}
use Rattle.trail.specs.Laws.{IsLawful}
use Rattle.trail.specs.Promises.{IsFairRefusal, IsOfSpaces, IsPromised, HasExcuse, TellsRising, is_excuse, is_own, is_noted}
use Rattle.trail.proofs.Judging.{first_of, inside_of, outside_of, spaces_of, turn_of, used_up}
use Rattle.desk.specs.declared.calls.Granted.{Granted}
use Rattle.desk.specs.declared.calls.PutDone.{PutDone}
use Rattle.frame_words.specs.Plain.{Plain, seen_of}
use Rattle.frame_words.specs.Rows.{Row}
use Rattle.frame_words.specs.Seen.{FramesSeen}
use Rattle.desk.specs.Base.{Opened}
use Rattle.desk.specs.Behind.{IsValueIn}
use Rattle.desk.specs.State.{State}
use Rattle.desk.specs.Steps.{IsAppended, IsHit, IsPastEnd, IsFaulted, IsUnsound, next_entry, row_in}
use Rattle.desk.specs.Ledger.{entry_behind}
use Rattle.desk.specs.Victims.{IsHad}
use Rattle.desk.specs.Fixing.{IsMiss, IsHeldFull, IsUnseated, IsUnwritten}
use Rattle.desk.specs.Logged.{IsLogged, IsLoggedKind}
use Rattle.desk.specs.Changes.{IsPutBy, IsSpentBy}
use Rattle.script_text.specs.declared.script.Command.{Command}
use Rattle.script_text.specs.declared.script.Command.TheVariants as command
use Rattle.script_run.specs.Openings.{Start, IsCauseWithin, IsKindWithin, opened_of}
use Rattle.script_run.specs.Todo.{Answers, IsReceiptOf, IsEntryOf, IsRefusal}
use Rattle.script_run.specs.Work.{Working, leaves_chunks, HasPlayed, StandsBehind, IsWorkerReady, IsRangeOf, Does, FixesFall, with_answer, with_note, next_receipt}
use Rattle.script_run.proofs.Fixes.{falling_up, newest_held}
use Rattle.script_run.proofs.Growing.{me, Left, left_same, on_some, Moves, placed, grown, logged_rest, so_far_placed, so_far_after, so_far_answer, so_far_under, so_far_receipt, lawful_entry, lawful_receipt}
use Rattle.script_run.proofs.Exact.{exact_words}
use Rattle.script_run.proofs.Calling.{before_by, numbered_entries, places_by}
use Rattle.script_run.proofs.Handing.{refused_hand}
use Rattle.script_run.proofs.Telling.{told_below}
use Rattle.script_run.proofs.Having.{Readied, readied_none, readied, logged_before, had_config}

pub in_space : {D : Type 0} (seen : D → DiskSeen) (o : Opening) (start : Start) (desk : State D) (log : Seen) (w : Working) (past : List Event) (pending : List Entry) (p : PageId)
    → HasPlayed seen o start desk log w past pending → p.page < pages_in (seen desk.disk).spaces p.space → p.page < start.pages p.space
in_space seen o start desk log w past pending p so inside = let P : ℕ → Type 0 = λ n. p.page < n in subst P (sym (so.pages_are p.space)) inside

-- the caller has as many fixes as it may, or fewer
pub not_full : (mine : List Event) (fixed : List Held) → open_fixes mine ≡ fixed → length fixed < 64 → full_cause mine ≡ None
not_full mine fixed are few = ap (λ (b : Bool). cond b (Some (cause.HoldFull 64)) None) (ap (λ held. nat_eq (length {A = Held} held) 64) are ∙ below (length fixed) few)
  where
    below : (n : ℕ) → n < 64 → nat_eq n 64 ≡ false
    below n less = grind (arith, nat_tests)

pub is_full : (mine : List Event) (fixed : List Held) → open_fixes mine ≡ fixed → length fixed ≡ 64 → full_cause mine ≡ Some (cause.HoldFull 64)
is_full mine fixed are full = ap (λ (b : Bool). cond b (Some (cause.HoldFull 64)) None) (ap (λ held. nat_eq (length {A = Held} held) 64) are ∙ eq-eqb (length fixed) 64 full)

-- the places of the call are left
pub places : {D : Type 0} (seen : D → DiskSeen) (o : Opening) (start : Start) (desk : State D) (log : Seen) (w : Working) (past : List Event) (pending base : List Entry) (asked : Call) (need : ℕ)
    → HasPlayed seen o start desk log w past pending → desk.history ≡ pending ++ base → need_of o.config base w.pass w.next asked ≡ Some need → mark desk.config.first base + need ≤ LIMIT
    → HasPlaces o.first o.config (before_call (made w.next (own w.pass past)) (entries past)) w.pass w.next asked
places seen o start desk log w past pending base asked need so stands is room =
    let at : before_call (made w.next (own w.pass past)) (entries past) ≡ base =
    ap (λ l. before_call l (entries past)) so.calls.made_are ∙ before_by o.first pending base (entries past) (so.entries_are ∙ stands) (numbered_entries _ o past so.good) in
    let R : ℕ → Type 0 = λ n. mark n base + need ≤ LIMIT in
    let H : List Entry → Type 0 = λ h. HasPlaces o.first o.config h w.pass w.next asked in
    subst H (sym at) (places_by o.first o.config base w.pass w.next asked need is (subst R so.first_is room))

-- The places of the call are left, behind which the history has room for its entries, and its page is in its space.
pub reached : {D : Type 0} (seen : D → DiskSeen) (o : Opening) (start : Start) (desk : State D) (log : Seen) (w : Working) (past : List Event) (pending base : List Entry) (asked : Call) (need : ℕ)
    → HasPlayed seen o start desk log w past pending → desk.history ≡ pending ++ base → need_of o.config base w.pass w.next asked ≡ Some need → mark desk.config.first base + need ≤ LIMIT
    → IfSome (sought_page asked) (λ p. p.page < start.pages p.space) → IsReached o past (entries past) (made w.next (own w.pass past)) w.pass w.next asked
reached seen o start desk log w past pending base asked need so stands is room inside =
    record {
      places = places seen o start desk log w past pending base asked need so stands is room;
      inside = each_some (sought_page asked) (λ p. IsNotMissing past p) (λ p is_p. inside_of start.pages past p (spaces_of o start.pages past so.promised p.space) (at_some (sought_page asked) (λ q. q.page < start.pages q.space) p inside is_p));
    }
  where
    each_some : {A : Type 0} (v : Option A) (P : A → Type 0) → ((x : A) → v ≡ Some x → P x) → IfSome v P
    each_some None P all = tt
    each_some (Some x) P all = all x refl

    at_some : {A : Type 0} (v : Option A) (P : A → Type 0) (x : A) → IfSome v P → v ≡ Some x → P x
    at_some v P x is e = subst (λ (y : Option _). IfSome y P) e is

always : {A : Type 0} (v : Option A) (f : A → Option Content) → IfSome v (λ base. IsSome (f base) → IsTrue true)
always None f = tt
always (Some base) f = λ some. refl

-- a value that the same entries leave
value_at : (o : Opening) (past : List Event) (h : List Entry) (p : PageId) (P : Option Content → Type 0) → entries past ≡ h → IfSome o.base (λ base. P (value (page_bytes o.config.page) base h p)) → OnValue o (entries past) p P
value_at o past h p P are is = on_some o.base _ _ (λ base e at. let V : List Entry → Type 0 = λ l. P (value (page_bytes o.config.page) base l p) in subst V (sym are) at) is

-- a fix is granted where the page is
so_far_fix : {D : Type 0} (seen : D → DiskSeen) (o : Opening) (start : Start) (desk : State D) (log : Seen) (w : Working) (past : List Event) (pending base : List Entry) (p : PageId) (now : ℕ) (g : Granted)
    → HasPlayed seen o start desk log w past pending → desk.history ≡ pending ++ base → MayPrecede desk.history pending (kind.Fix p g.frame g.clock now) → home desk.history p ≡ Some g.frame → g.clock ≡ change desk.history g.frame
    → p.page < start.pages p.space → length w.fixed < 64 → mark desk.config.first base + FIX_NEED ≤ LIMIT → (book desk.config desk.history).hands ≡ []
    → HasPlayed seen o start (grown desk w (kind.Fix p g.frame g.clock now)) log (with_answer w (kind.Fix p g.frame g.clock now)) (event.Entry (next_entry desk (me w) (kind.Fix p g.frame g.clock now)) ∷ past) []
so_far_fix seen o start desk log w past pending base p now g so stands before resident clock inside few room handless =
    let k = kind.Fix p g.frame g.clock now in
    so_far_answer seen o start desk log w past pending k so (record {
      logged = tt;
      within = tt;
      last = so.last_fault;
      last_log = so.last_log_fault;
      lawful = lawful_entry seen o start desk log w past pending base k so stands before
          (record { resident = ap (λ h. home h p) so.entries_are ∙ resident; unchanged = clock ∙ ap (λ h. change h g.frame) (sym so.entries_are) }) tt tt
          (record { reached = reached seen o start desk log w past pending base (call.Fix p now) FIX_NEED so stands refl room inside; none_due = not_full (own w.pass past) w.fixed so.held few }) tt tt;
      promised = (record { inside = inside; told = tt }, tt);
      exact = tt;
    }) refl (omega arith, so.falling) refl handless

pub does_hit : {D : Type 0} {rows more : List Row} (seen : D → DiskSeen) (o : Opening) (start : Start) (old new : State D) (was is : Seen) (w : Working) (past : List Event) (p : PageId) (now : ℕ) (g : Granted)
    → HasPlayed seen o start old was w past [] → Moves seen old new was is → IsHit old new rows more (me w) p now g → p.page < pages_in (seen old.disk).spaces p.space → length w.fixed < 64
    → mark old.config.first old.history + FIX_NEED ≤ LIMIT → Does seen o start new is (with_answer w (kind.Fix p g.frame g.clock now)) past (command.Fix p now)
does_hit seen o start old new was is w past p now g so moves hit inside few room =
    let k = kind.Fix p g.frame g.clock now in
    let e : Entry = next_entry old (me w) k in
    let there = so_far_placed seen o start old new was is w past so moves (logged_rest is e old.history new.history hit.entry.history moves.logged) in
    record {
      answer = event.Entry e;
      before = [];
      quiet = refl;
      so_far = so_far_after seen o start old new is (with_answer w k) (event.Entry e ∷ past) [] (e ∷ old.history) moves.left hit.entry.history
          (so_far_fix seen o start (placed old new old.history) is w past [] old.history p now g there refl (inl refl) hit.resident hit.clock (in_space seen o start old was w past [] p so inside) few room (so.empty_handed refl));
      answers = λ h goes. inl (g.frame, g.clock, refl);
    }

-- the entry of a call, whose pool is that of the call's start
pub same_pool : (c d : Config) (h : List Entry) (new : List Entry) (w : Working) (k : Kind) → d ≡ c → new ≡ entry_behind d.first h (me w) k ∷ h → new ≡ entry_behind c.first h (me w) k ∷ h
same_pool c d h new w k same is = let E : Config → Type 0 = λ config. new ≡ entry_behind config.first h (me w) k ∷ h in subst E same is

-- a page with a value was read into the next frame
so_far_load : {D : Type 0} (seen : D → DiskSeen) (o : Opening) (start : Start) (old new : State D) (log : Seen) (w : Working) (past : List Event) (p : PageId) (f : ℕ) (h : List Entry)
    → (r : Readied seen o start old new log w past p h) → home h p ≡ None → frame_in_turn (book old.config h) ≡ Some f → OnValue o (entries (r.more ++ past)) p (λ v. IsSome v)
    → HasPlayed seen o start (placed old new (entry_behind old.config.first h (me w) (kind.Load p f) ∷ h)) log w (event.Entry (entry_behind old.config.first h (me w) (kind.Load p f)) ∷ r.more ++ past) (entry_behind old.config.first h (me w) (kind.Load p f) ∷ r.made)
so_far_load seen o start old new log w past p f h r absent next sound =
    let k = kind.Load p f in
    let now : List Event = r.more ++ past in
    let so = r.so_far in
    let N : List Entry → Type 0 = λ l. next_frame (book o.config l) w.pass w.next ≡ Some f in
    so_far_under seen o start (placed old new h) log w now r.made k so (record {
      logged = tt;
      within = tt;
      last = so.last_fault;
      last_log = so.last_log_fault;
      lawful = lawful_entry seen o start (placed old new h) log w now r.made old.history k so r.began tt (record {
        absent = ap (λ l. home l p) so.entries_are ∙ absent;
        next = subst N (sym so.entries_are) (ap (λ c. next_frame (book c h) w.pass w.next) (sym so.config_is) ∙ turn_of (book old.config h) w.pass w.next r.turn ∙ next);
        sound = sound;
      }) tt tt tt tt tt;
      promised = (record { inside = tt; told = tt }, tt);
      exact = tt;
    }) refl refl refl

pub does_miss : {D : Type 0} {more : List Row} (seen : D → DiskSeen) (o : Opening) (start : Start) (old new : State D) (frames : Plain) (was is : Seen) (w : Working) (past : List Event) (p : PageId) (now : ℕ) (g : Granted)
    → HasPlayed seen o start old was w past [] → Moves seen old new was is → IsWorkerReady seen old frames w.fixed → (miss : IsMiss seen old new frames.rows more (me w) p now g) → p.page < pages_in (seen old.disk).spaces p.space
    → length w.fixed < 64 → IfSome o.base (λ base. IsSome (value (page_bytes o.config.page) base old.history p)) → mark old.config.first old.history + FIX_NEED ≤ LIMIT
    → Does seen o start new is (with_answer w (kind.Fix p g.frame g.clock now)) past (command.Fix p now)
does_miss seen o start old new frames was is w past p now g so moves ready miss inside few sound room =
    let had = miss.had in
    let mid = miss.mid in
    let load = kind.Load p g.frame in
    let k = kind.Fix p g.frame g.clock now in
    let x : Entry = entry_behind old.config.first had.history (me w) load in
    let e : Entry = entry_behind old.config.first mid.history (me w) k in
    let config : had.config ≡ old.config = had_config old had (me w) g.frame miss.frame_is in
    let loaded : mid.history ≡ x ∷ had.history = same_pool old.config had.config had.history mid.history w load config miss.loaded.entry.history in
    let fixed : new.history ≡ e ∷ mid.history = same_pool old.config mid.config mid.history new.history w k (miss.loaded.entry.config ∙ config) miss.hit.entry.history in
    let logged : IsLogged is had.history = logged_rest is x had.history mid.history loaded (logged_rest is e mid.history new.history fixed moves.logged) in
    let first = so_far_placed seen o start old new was is w past so moves (logged_before old had is (me w) g.frame miss.frame_is logged) in
    let r = readied seen o start old new had frames is w past p g.frame first ready logged miss.absent miss.frame_is in
    let here = in_space seen o start old was w past [] p so inside in
    let B : Config → Type 0 = λ c. frame_in_turn (book c had.history) ≡ Some g.frame in
    let there : OnValue o (entries (r.more ++ past)) p (λ v. IsSome v) = value_at o (r.more ++ past) had.history p (λ v. IsSome v) r.so_far.entries_are
    (on_some o.base _ _ (λ base _ some. let V : Option Content → Type 0 = λ v. IsSome v in subst V (sym (r.values (page_bytes o.config.page) base)) some) sound) in
    let S : List Entry → Type 0 = λ h. HasPlayed seen o start (placed old new h) is w (event.Entry x ∷ r.more ++ past) (x ∷ r.made) in
    let H : List Entry → Type 0 = λ h. (book old.config h).hands ≡ [] in
    let B' : List Entry → Type 0 = λ h. h ≡ (x ∷ r.made) ++ old.history in
    let behind = subst S (sym loaded) (so_far_load seen o start old new is w past p g.frame had.history r miss.loaded.absent (subst B config miss.loaded.frame) there) in
    record {
      answer = event.Entry e;
      before = event.Entry x ∷ r.more;
      quiet = r.quiet;
      so_far = so_far_after seen o start old new is (with_answer w k) (event.Entry e ∷ event.Entry x ∷ r.more ++ past) [] (e ∷ mid.history) moves.left fixed
          (so_far_fix seen o start (placed old new mid.history) is w (event.Entry x ∷ r.more ++ past) (x ∷ r.made) old.history p now g behind (subst B' (sym loaded) (ap (λ l. x ∷ l) r.began))
          (inr (kinds r.made, refl, r.got)) miss.hit.resident miss.hit.clock here few room (subst H (sym loaded) (used_up (book old.config had.history) w.pass w.next g.frame r.turn (subst B config miss.loaded.frame))));
      answers = λ h goes. inl (g.frame, g.clock, refl);
    }

-- A call that was refused, by an entry behind those by which a frame may have been had.
pub refused_behind : {D : Type 0} (seen : D → DiskSeen) (o : Opening) (start : Start) (old new : State D) (log : Seen) (w : Working) (past : List Event) (p : PageId) (c : Call) (asked : Command) (why : Cause) (h : List Entry)
    → (r : Readied seen o start old new log w past p h) → Left seen old new → new.history ≡ entry_behind old.config.first h (me w) (kind.Refused c why) ∷ h
    → IsLoggedKind log (kind.Refused c why) → IsCauseWithin start (seen new.disk).faults log.faults why
    → unwrap_or (disk_fault why) (disk_faults h) ≤ (seen new.disk).faults → unwrap_or (log_fault why) (log_faults h) ≤ log.faults
    → MayPrecedeRefusal h r.made c why → IsRefused o (r.more ++ past) (entries (r.more ++ past)) (own w.pass (r.more ++ past)) w.pass w.next c why → IsTrueRefusal h w.fixed c why
    → IsOfSpaces start.pages (kind.Refused c why) → IsFairRefusal false o (entries (r.more ++ past)) (made w.next (own w.pass (r.more ++ past))) c why
    → ((book old.config h).hands ≡ []) ⊎ (is_late c why ≡ true)
    → ((l : List Entry) → Answers l w.pass asked past (event.Entry (entry_behind old.config.first h (me w) (kind.Refused c why))))
    → Does seen o start new log (with_answer w (kind.Refused c why)) past asked
refused_behind seen o start old new log w past p c asked why h r left came logged within last last_log precedes refused exact of fair handing answers =
    let k = kind.Refused c why in
    let at = placed old new h in
    let e : Entry = entry_behind old.config.first h (me w) k in
    let past' : List Event = r.more ++ past in
    record {
      answer = event.Entry e;
      before = r.more;
      quiet = r.quiet;
      so_far = so_far_after seen o start old new log (with_answer w k) (event.Entry e ∷ past') [] (e ∷ h) left came
          (so_far_answer seen o start at log w past' r.made k r.so_far (record {
            logged = logged;
            within = within;
            last = last;
            last_log = last_log;
            lawful = lawful_entry seen o start at log w past' r.made old.history k r.so_far r.began precedes tt tt tt refused tt tt;
            promised = (of, fair);
            exact = exact;
          }) refl (falling_up w.next (w.next + 1) w.fixed (omega arith) r.so_far.falling) refl (refused_hand old.config.frames e c why (book old.config h) r.turn handing));
      answers = λ l goes. answers l;
    }

-- a refusal that comes alone
pub refused_at_once : {D : Type 0} (seen : D → DiskSeen) (o : Opening) (start : Start) (old new : State D) (was is : Seen) (w : Working) (past : List Event) (p : PageId) (c : Call) (asked : Command) (why : Cause)
    → (so : HasPlayed seen o start old was w past []) → Moves seen old new was is → IsAppended old new (me w) (kind.Refused c why)
    → IsLoggedKind is (kind.Refused c why) → IsCauseWithin start (seen new.disk).faults is.faults why
    → unwrap_or (disk_fault why) (disk_faults old.history) ≤ (seen new.disk).faults → unwrap_or (log_fault why) (log_faults old.history) ≤ is.faults
    → MayPrecedeRefusal old.history [] c why → IsRefused o past (entries past) (own w.pass past) w.pass w.next c why → IsTrueRefusal old.history w.fixed c why
    → IsOfSpaces start.pages (kind.Refused c why) → IsFairRefusal false o (entries past) (made w.next (own w.pass past)) c why
    → ((l : List Entry) → Answers l w.pass asked past (event.Entry (next_entry old (me w) (kind.Refused c why))))
    → Does seen o start new is (with_answer w (kind.Refused c why)) past asked
refused_at_once seen o start old new was is w past p c asked why so moves entry logged within last last_log precedes refused exact of fair answers =
    let e : Entry = next_entry old (me w) (kind.Refused c why) in
    let there = so_far_placed seen o start old new was is w past so moves (logged_rest is e old.history new.history entry.history moves.logged) in
    refused_behind seen o start old new is w past p c asked why old.history (readied_none seen o start old new is w past p there) moves.left entry.history
    logged within last last_log precedes refused exact of fair (inl (so.empty_handed refl)) answers

-- a refusal that tells no word and no page of a space
pub wordless : (h : List Entry) (held : List Held) (c : Call) (why : Cause) → cause_words c why ≡ [] → cause_tag why ≡ None → is_busy why ≡ false → IsTrueRefusal h held c why
wordless h held c why words tag free = record {
  words = let W : List (ℕ × Word) → Type 0 = λ l. AreTrueWords h held l in subst W (sym words) tt;
  tag = no_tag (hint_of c);
  free = free;
}
  where
    no_tag : (hint : Option Hint) → IfSome hint (λ (x : Hint). IfSome (cause_tag why) (λ q. tenant h x.frame ≡ Some q))
    no_tag None = tt
    no_tag (Some x) = let T : Option PageId → Type 0 = λ found. IfSome found (λ q. tenant h x.frame ≡ Some q) in subst T (sym tag) tt

-- a fix that was refused
does_refused : {D : Type 0} (seen : D → DiskSeen) (o : Opening) (start : Start) (old new : State D) (log : Seen) (w : Working) (past : List Event) (p : PageId) (now : ℕ) (why : Cause) (h : List Entry)
    → (r : Readied seen o start old new log w past p h) → Left seen old new → new.history ≡ entry_behind old.config.first h (me w) (kind.Refused (call.Fix p now) why) ∷ h
    → IsLoggedKind log (kind.Refused (call.Fix p now) why) → IsCauseWithin start (seen new.disk).faults log.faults why
    → unwrap_or (disk_fault why) (disk_faults h) ≤ (seen new.disk).faults → unwrap_or (log_fault why) (log_faults h) ≤ log.faults
    → MayPrecedeRefusal h r.made (call.Fix p now) why → IsRefused o (r.more ++ past) (entries (r.more ++ past)) (own w.pass (r.more ++ past)) w.pass w.next (call.Fix p now) why → IsTrueRefusal h w.fixed (call.Fix p now) why
    → IsOfSpaces start.pages (kind.Refused (call.Fix p now) why) → IsTrue (is_own (call.Fix p now) why) → is_noted why ≡ false
    → (is_exact why ≡ false → HasExcuse o (entries (r.more ++ past)) p why) → TellsRising why → is_late (call.Fix p now) why ≡ true
    → Does seen o start new log (with_answer w (kind.Refused (call.Fix p now) why)) past (command.Fix p now)
does_refused seen o start old new log w past p now why h r left came logged within last last_log precedes refused exact of own_is entered excused rising late =
    refused_behind seen o start old new log w past p (call.Fix p now) (command.Fix p now) why h r left came logged within last last_log precedes refused exact of
    (record { own = own_is; filed = entered; excused = excused; rising = rising; begun = tt }) (inr late) (λ l. inr (why, refl))

-- and one whose refusal comes alone
refused_alone : {D : Type 0} (seen : D → DiskSeen) (o : Opening) (start : Start) (old new : State D) (was is : Seen) (w : Working) (past : List Event) (p : PageId) (now : ℕ) (why : Cause)
    → (so : HasPlayed seen o start old was w past []) → Moves seen old new was is → IsAppended old new (me w) (kind.Refused (call.Fix p now) why)
    → IsLoggedKind is (kind.Refused (call.Fix p now) why) → IsCauseWithin start (seen new.disk).faults is.faults why
    → unwrap_or (disk_fault why) (disk_faults old.history) ≤ (seen new.disk).faults → unwrap_or (log_fault why) (log_faults old.history) ≤ is.faults
    → MayPrecedeRefusal old.history [] (call.Fix p now) why → IsRefused o past (entries past) (own w.pass past) w.pass w.next (call.Fix p now) why → IsTrueRefusal old.history w.fixed (call.Fix p now) why
    → IsOfSpaces start.pages (kind.Refused (call.Fix p now) why) → IsTrue (is_own (call.Fix p now) why) → is_noted why ≡ false
    → (is_exact why ≡ false → HasExcuse o (entries past) p why) → TellsRising why
    → Does seen o start new is (with_answer w (kind.Refused (call.Fix p now) why)) past (command.Fix p now)
refused_alone seen o start old new was is w past p now why so moves entry logged within last last_log precedes refused exact of own_is entered excused rising =
    refused_at_once seen o start old new was is w past p (call.Fix p now) (command.Fix p now) why so moves entry logged within last last_log precedes refused exact of
    (record { own = own_is; filed = entered; excused = excused; rising = rising; begun = tt }) (λ l. inr (why, refl))

-- a fix got as far as its own causes, and none is due
fix_reached : {D : Type 0} (seen : D → DiskSeen) (o : Opening) (start : Start) (desk : State D) (log : Seen) (w : Working) (past : List Event) (pending base : List Entry) (p : PageId) (now : ℕ)
    → HasPlayed seen o start desk log w past pending → desk.history ≡ pending ++ base → mark desk.config.first base + FIX_NEED ≤ LIMIT → p.page < start.pages p.space
    → IsReached o past (entries past) (made w.next (own w.pass past)) w.pass w.next (call.Fix p now)
fix_reached seen o start desk log w past pending base p now so stands room inside = reached seen o start desk log w past pending base (call.Fix p now) FIX_NEED so stands refl room inside

pub does_outside : {D : Type 0} (seen : D → DiskSeen) (o : Opening) (start : Start) (old new : State D) (was is : Seen) (w : Working) (past : List Event) (p : PageId) (now pages : ℕ)
    → HasPlayed seen o start old was w past [] → Moves seen old new was is → IsPastEnd seen old new (me w) p (call.Fix p now) pages → mark old.config.first old.history + FIX_NEED ≤ LIMIT
    → Does seen o start new is (with_answer w (kind.Refused (call.Fix p now) (cause.NoSuchPage pages))) past (command.Fix p now)
does_outside seen o start old new was is w past p now pages so moves out room =
    let count : pages ≡ start.pages p.space = out.count ∙ sym (so.pages_are p.space) in
    refused_alone seen o start old new was is w past p now (cause.NoSuchPage pages) so moves out.entry tt tt (omega (arith, so.last_fault, moves.left.later)) (omega (arith, so.last_log_fault, moves.later))
    (tt, refl) (
      places seen o start old was w past [] old.history (call.Fix p now) FIX_NEED so refl refl room,
      outside_of start.pages past p pages (spaces_of o start.pages past so.promised p.space) count out.past_end,
      tt,
    ) (wordless old.history w.fixed (call.Fix p now) (cause.NoSuchPage pages) refl refl refl) (record { inside = tt; told = count }) refl refl (λ none. let bad : true ≡ false = none in absurd (cc)) tt

pub does_full : {D : Type 0} (seen : D → DiskSeen) (o : Opening) (start : Start) (old new : State D) (was is : Seen) (w : Working) (past : List Event) (p : PageId) (now held full : ℕ)
    → HasPlayed seen o start old was w past [] → Moves seen old new was is → p.page < pages_in (seen old.disk).spaces p.space → held ≡ length w.fixed → length w.fixed ≤ 64 → IsHeldFull old new (me w) (call.Fix p now) held full
    → mark old.config.first old.history + FIX_NEED ≤ LIMIT
    → Does seen o start new is (with_answer w (kind.Refused (call.Fix p now) (cause.HoldFull full))) past (command.Fix p now)
does_full seen o start old new was is w past p now held full so moves inside count few out room =
    let here = in_space seen o start old was w past [] p so inside in
    let all : length w.fixed ≡ 64 = omega (arith, count, few, out.most) in
    let most : full ≡ 64 = omega (arith, out.full_is, count, all) in
    refused_alone seen o start old new was is w past p now (cause.HoldFull full) so moves out.entry tt tt (omega (arith, so.last_fault, moves.left.later)) (omega (arith, so.last_log_fault, moves.later))
    (tt, refl) (fix_reached seen o start old was w past [] old.history p now so refl room here, first_of _ _ (cause.HoldFull full) (is_full (own w.pass past) w.fixed so.held all ∙ ap (λ n. Some (cause.HoldFull n)) (sym most)))
    (wordless old.history w.fixed (call.Fix p now) (cause.HoldFull full) refl refl refl) (record { inside = here; told = tt }) refl refl (λ none. let bad : true ≡ false = none in absurd (cc)) tt

pub all_fixed_here : (c d : Config) (h l : List Entry) (p : PageId) (words : List (ℕ × Word)) → d ≡ c → l ≡ h → AreAllFixed c h p words → AreAllFixed d l p words
all_fixed_here c d h l p words config at all =
    let A : Config → List Entry → Type 0 = λ config l. AreAllFixed config l p words in subst (λ config. A config l) (sym config) (subst (λ l. A c l) (sym at) all)

-- the page has no home, and the cause excuses the refusal
excused_here : (o : Opening) (past : List Event) (h : List Entry) (p : PageId) (why : Cause) → entries past ≡ h → home h p ≡ None → is_excuse why ≡ true → HasExcuse o (entries past) p why
excused_here o past h p why at absent excuse = record {
  absent = ap (λ l. home l p) at ∙ absent;
  excused = each o.base (λ base. value (page_bytes o.config.page) base (entries past) p);
}
  where
    each : {A : Type 0} (v : Option A) (f : A → Option Content) → IfSome v (λ base. IsSome (f base) → IsTrue (is_excuse why))
    each None f = tt
    each (Some base) f = λ some. excuse

pub does_unseated : {D : Type 0} (seen : D → DiskSeen) (o : Opening) (start : Start) (old new : State D) (frames : Plain) (was is : Seen) (w : Working) (past : List Event) (p : PageId) (now : ℕ) (words : List (ℕ × Word))
    → HasPlayed seen o start old was w past [] → Moves seen old new was is → IsWorkerReady seen old frames w.fixed → p.page < pages_in (seen old.disk).spaces p.space → length w.fixed < 64
    → IsUnseated old new frames.rows (me w) p (call.Fix p now) words → mark old.config.first old.history + FIX_NEED ≤ LIMIT
    → Does seen o start new is (with_answer w (kind.Refused (call.Fix p now) (cause.AllFixed words))) past (command.Fix p now)
does_unseated seen o start old new frames was is w past p now words so moves ready inside few out room =
    let here = in_space seen o start old was w past [] p so inside in
    refused_alone seen o start old new was is w past p now (cause.AllFixed words) so moves out.entry tt tt (omega (arith, so.last_fault, moves.left.later)) (omega (arith, so.last_log_fault, moves.later))
    (tt, refl) (
      fix_reached seen o start old was w past [] old.history p now so refl room here,
      (not_full (own w.pass past) w.fixed so.held few, all_fixed_here old.config o.config old.history (entries past) p words (sym so.config_is) so.entries_are out.full.all),
    )
    (record { words = exact_words seen old frames w.fixed old.history words (λ q. refl) (λ f. refl) ready out.full.found; tag = tt; free = refl }) (record { inside = here; told = tt }) refl refl
    (λ none. excused_here o past old.history p (cause.AllFixed words) so.entries_are out.absent refl) out.full.rising

pub does_uncovered : {D : Type 0} (seen : D → DiskSeen) (o : Opening) (start : Start) (old new : State D) (was is : Seen) (w : Working) (past : List Event) (p : PageId) (now before after : ℕ)
    → HasPlayed seen o start old was w past [] → Moves seen old new was is → p.page < pages_in (seen old.disk).spaces p.space → length w.fixed < 64
    → IsUnwritten old new (me w) p (call.Fix p now) was.faults is.faults before after (cause.RedoFault before after) → mark old.config.first old.history + FIX_NEED ≤ LIMIT
    → Does seen o start new is (with_answer w (kind.Refused (call.Fix p now) (cause.RedoFault before after))) past (command.Fix p now)
does_uncovered seen o start old new was is w past p now before after so moves inside few out room =
    let here = in_space seen o start old was w past [] p so inside in
    let L : List Entry → Type 0 = λ h. log_faults h ≤ before in
    let why = cause.RedoFault before after in
    refused_alone seen o start old new was is w past p now why so moves out.entry tt (omega (arith, so.low_log, out.rose.first), omega (arith, out.rose.last))
    (omega (arith, so.last_fault, moves.left.later)) (omega (arith, out.rose.last))
    (tt, refl) (
      fix_reached seen o start old was w past [] old.history p now so refl room here,
      (not_full (own w.pass past) w.fixed so.held few, (out.rose.rose, subst L (sym so.entries_are) (omega (arith, so.last_log_fault, out.rose.first)))),
    ) (wordless old.history w.fixed (call.Fix p now) why refl refl refl) (record { inside = here; told = tt }) refl refl
    (λ none. excused_here o past old.history p why so.entries_are out.absent refl) tt

pub does_unwritten : {D : Type 0} (seen : D → DiskSeen) (o : Opening) (start : Start) (old new : State D) (was is : Seen) (w : Working) (past : List Event) (p : PageId) (now before after : ℕ)
    → HasPlayed seen o start old was w past [] → Moves seen old new was is → p.page < pages_in (seen old.disk).spaces p.space → length w.fixed < 64
    → IsUnwritten old new (me w) p (call.Fix p now) (seen old.disk).faults (seen new.disk).faults before after (cause.DiskFault before after) → mark old.config.first old.history + FIX_NEED ≤ LIMIT
    → Does seen o start new is (with_answer w (kind.Refused (call.Fix p now) (cause.DiskFault before after))) past (command.Fix p now)
does_unwritten seen o start old new was is w past p now before after so moves inside few out room =
    let here = in_space seen o start old was w past [] p so inside in
    let L : List Entry → Type 0 = λ h. disk_faults h ≤ before in
    let why = cause.DiskFault before after in
    refused_alone seen o start old new was is w past p now why so moves out.entry tt (omega (arith, so.low_is, out.rose.first), omega (arith, out.rose.last))
    (omega (arith, out.rose.last)) (omega (arith, so.last_log_fault, moves.later))
    (tt, inl refl) (
      fix_reached seen o start old was w past [] old.history p now so refl room here,
      (not_full (own w.pass past) w.fixed so.held few, (out.rose.rose, subst L (sym so.entries_are) (omega (arith, so.last_fault, out.rose.first)))),
    ) (wordless old.history w.fixed (call.Fix p now) why refl refl refl) (record { inside = here; told = tt }) refl refl
    (λ none. excused_here o past old.history p why so.entries_are out.absent refl) tt

-- a frame was had, and its refusal comes behind
pub does_faulted : {D : Type 0} {cleared : List Row} (seen : D → DiskSeen) (o : Opening) (start : Start) (old had new : State D) (frames : Plain) (was is : Seen) (w : Working) (past : List Event) (p : PageId) (now f before after : ℕ)
    → HasPlayed seen o start old was w past [] → Moves seen old new was is → IsWorkerReady seen old frames w.fixed → p.page < pages_in (seen old.disk).spaces p.space → length w.fixed < 64
    → home old.history p ≡ None → IsHad old had frames.rows cleared (me w) f → (seen old.disk).faults ≤ (seen had.disk).faults → IsFaulted seen had new (me w) p now before after
    → mark old.config.first old.history + FIX_NEED ≤ LIMIT
    → Does seen o start new is (with_answer w (kind.Refused (call.Fix p now) (cause.DiskFault before after))) past (command.Fix p now)
does_faulted seen o start old had new frames was is w past p now f before after so moves ready inside few absent frame_is low out room =
    let why = cause.DiskFault before after in
    let k = kind.Refused (call.Fix p now) why in
    let e : Entry = entry_behind old.config.first had.history (me w) k in
    let came : new.history ≡ e ∷ had.history = same_pool old.config had.config had.history new.history w k (had_config old had (me w) f frame_is) out.entry.history in
    let logged : IsLogged is had.history = logged_rest is e had.history new.history came moves.logged in
    let first = so_far_placed seen o start old new was is w past so moves (logged_before old had is (me w) f frame_is logged) in
    let r = readied seen o start old new had frames is w past p f first ready logged absent frame_is in
    let here = in_space seen o start old was w past [] p so inside in
    let L : List Entry → Type 0 = λ h. disk_faults h ≤ before in
    does_refused seen o start old new is w past p now why had.history r moves.left came tt (omega (arith, so.low_is, low, out.fault.first), omega (arith, out.fault.last)) (omega (arith, out.fault.last)) r.so_far.last_log_fault
    (tt, inr (out.absent, r.got)) (
      fix_reached seen o start (placed old new had.history) is w (r.more ++ past) r.made old.history p now r.so_far r.began room here,
      (not_full (own w.pass (r.more ++ past)) w.fixed r.so_far.held few, (out.fault.rose, subst L (sym r.so_far.entries_are) (omega (arith, r.faults, so.last_fault, low, out.fault.first)))),
    ) (wordless had.history w.fixed (call.Fix p now) why refl refl refl) (record { inside = here; told = tt }) refl refl
    (λ none. excused_here o (r.more ++ past) had.history p why r.so_far.entries_are out.absent refl) tt refl

other_number : (p : PageId) (bytes : List ℕ) (found : BadPage) → IsBadPage p bytes found → IsOther p found
other_number p bytes (bad.Number n) is = is.2
other_number p bytes (bad.Space n) is = is.3
other_number p bytes (bad.Torn head tail) is = is.5

pub does_unsound : {D : Type 0} {cleared : List Row} (seen : D → DiskSeen) (o : Opening) (start : Start) (old had new : State D) (frames : Plain) (was is : Seen) (w : Working) (past : List Event) (p : PageId) (now f : ℕ) (found : BadPage)
    → HasPlayed seen o start old was w past [] → Moves seen old new was is → IsWorkerReady seen old frames w.fixed → p.page < pages_in (seen old.disk).spaces p.space → length w.fixed < 64
    → home old.history p ≡ None → IsHad old had frames.rows cleared (me w) f → IsUnsound seen had new (me w) p now found → IfSome o.base (λ base. value (page_bytes o.config.page) base old.history p ≡ None)
    → mark old.config.first old.history + FIX_NEED ≤ LIMIT
    → Does seen o start new is (with_answer w (kind.Refused (call.Fix p now) (cause.BadPage found))) past (command.Fix p now)
does_unsound seen o start old had new frames was is w past p now f found so moves ready inside few absent frame_is out none_there room =
    let why = cause.BadPage found in
    let k = kind.Refused (call.Fix p now) why in
    let e : Entry = entry_behind old.config.first had.history (me w) k in
    let came : new.history ≡ e ∷ had.history = same_pool old.config had.config had.history new.history w k (had_config old had (me w) f frame_is) out.entry.history in
    let logged : IsLogged is had.history = logged_rest is e had.history new.history came moves.logged in
    let first = so_far_placed seen o start old new was is w past so moves (logged_before old had is (me w) f frame_is logged) in
    let r = readied seen o start old new had frames is w past p f first ready logged absent frame_is in
    let here = in_space seen o start old was w past [] p so inside in
    does_refused seen o start old new is w past p now why had.history r moves.left came tt tt r.so_far.last_fault r.so_far.last_log_fault
    (tt, inr (out.absent, r.got)) (
      fix_reached seen o start (placed old new had.history) is w (r.more ++ past) r.made old.history p now r.so_far r.began room here,
      (not_full (own w.pass (r.more ++ past)) w.fixed r.so_far.held few, other_number p out.read.bytes found out.read.because),
    ) (wordless had.history w.fixed (call.Fix p now) why refl refl refl) (record { inside = here; told = tt }) refl refl
    (λ none. record {
      absent = ap (λ h. home h p) r.so_far.entries_are ∙ out.absent;
      excused = value_at o (r.more ++ past) had.history p (λ v. IsSome v → IsTrue false) r.so_far.entries_are
          (on_some o.base _ _ (λ base is_base gone some. let S : Option Content → Type 0 = λ v. IsSome v in
          let bad : IsSome {T = Content} None = subst S (r.values (page_bytes o.config.page) base ∙ gone) some in absurd (cc)) none_there);
    }) tt refl

-- a receipt is the answer of the call
does_receipt : {D : Type 0} (seen : D → DiskSeen) (o : Opening) (start : Start) (desk : State D) (log : Seen) (w : Working) (past : List Event) (c : Command) (n : Note)
    → HasPlayed seen o start desk log w past [] → IsLawful o None past (event.Receipt (next_receipt desk w n)) → IsPromised o start.pages (entries past) (own w.pass past) (event.Receipt (next_receipt desk w n)) → IsTrueNote (entries past) (held_by past w.pass) n
    → ((h : List Entry) → Answers h w.pass c past (event.Receipt (next_receipt desk w n))) → Does seen o start desk log (with_note desk w n) past c
does_receipt seen o start desk log w past c n so lawful promised exact answers = record {
  answer = event.Receipt (next_receipt desk w n);
  before = [];
  quiet = refl;
  so_far = so_far_receipt seen o start desk log w past n so lawful promised exact;
  answers = λ h goes. answers h;
}

is_unheld : (past : List Event) (c : ℕ) (p : PageId) → newest_fix (held_by past c) p ≡ None → unheld_cause (own c past) p ≡ Some cause.Unheld
is_unheld past c p none = ap (λ (x : Option Held). cond (is_none x) (Some cause.Unheld) None) none

is_held : (past : List Event) (c : ℕ) (p : PageId) (h : Held) → newest_fix (held_by past c) p ≡ Some h → unheld_cause (own c past) p ≡ None
is_held past c p h some = ap (λ (x : Option Held). cond (is_none x) (Some cause.Unheld) None) some

-- the receipt of a read of a page that is not held
pub does_unheld_read : {D : Type 0} (seen : D → DiskSeen) (o : Opening) (start : Start) (desk : State D) (log : Seen) (w : Working) (past : List Event) (p : PageId) (at len : ℕ)
    → HasPlayed seen o start desk log w past [] → newest_fix w.fixed p ≡ None
    → Does seen o start desk log (with_note desk w (note.Refused (call.Read p at len) cause.Unheld)) past (command.Read p at len)
does_unheld_read seen o start desk log w past p at len so none =
    let n = note.Refused (call.Read p at len) cause.Unheld in
    let e : Event = event.Receipt (next_receipt desk w n) in
    let M : Option Held → Type 0 = λ newest. MatchOption newest (IsReceiptOf n e) (λ held. (bytes : List ℕ) × (clock : ℕ) × (length bytes ≡ len) × IsReceiptOf (note.Copied p at bytes clock) e) in
    let here : newest_fix (held_by past w.pass) p ≡ None = ap (λ held. newest_fix held p) so.held ∙ none in
    does_receipt seen o start desk log w past (command.Read p at len) n so (lawful_receipt seen o start desk log w past n so refl tt (first_of _ _ cause.Unheld (is_unheld past w.pass p here))) (record { inside = tt; told = tt }, record { own = refl; filed = refl; excused = tt; rising = tt; begun = tt })
    (wordless (entries past) (held_by past w.pass) _ cause.Unheld refl refl refl) (λ h. subst M (sym here) refl)

-- and of an unfix of one
pub does_unheld_unfix : {D : Type 0} (seen : D → DiskSeen) (o : Opening) (start : Start) (desk : State D) (log : Seen) (w : Working) (past : List Event) (p : PageId)
    → HasPlayed seen o start desk log w past [] → newest_fix w.fixed p ≡ None → Does seen o start desk log (with_note desk w (note.Refused (call.Unfix p) cause.Unheld)) past (command.Unfix p)
does_unheld_unfix seen o start desk log w past p so none =
    let n = note.Refused (call.Unfix p) cause.Unheld in
    let e : Event = event.Receipt (next_receipt desk w n) in
    let M : Option Held → Type 0 = λ newest. MatchOption newest (IsReceiptOf n e) (λ held. IsReceiptOf (note.Unfixed p held.frame held.number) e) in
    let here : newest_fix (held_by past w.pass) p ≡ None = ap (λ held. newest_fix held p) so.held ∙ none in
    does_receipt seen o start desk log w past (command.Unfix p) n so (lawful_receipt seen o start desk log w past n so refl tt (first_of _ _ cause.Unheld (is_unheld past w.pass p here))) (record { inside = tt; told = tt }, record { own = refl; filed = refl; excused = tt; rising = tt; begun = tt })
    (wordless (entries past) (held_by past w.pass) _ cause.Unheld refl refl refl) (λ h. subst M (sym here) refl)

pub does_unfix : {D : Type 0} (seen : D → DiskSeen) (o : Opening) (start : Start) (desk : State D) (log : Seen) (w : Working) (past : List Event) (p : PageId) (h : Held)
    → HasPlayed seen o start desk log w past [] → newest_fix w.fixed p ≡ Some h → Does seen o start desk log (with_note desk w (note.Unfixed p h.frame h.number)) past (command.Unfix p)
does_unfix seen o start desk log w past p h so newest =
    let n = note.Unfixed p h.frame h.number in
    let e : Event = event.Receipt (next_receipt desk w n) in
    let here : newest_fix (held_by past w.pass) p ≡ Some h = ap (λ fixes. newest_fix fixes p) so.held ∙ newest in
    let M : Option Held → Type 0 = λ found. MatchOption found (IsReceiptOf (note.Refused (call.Unfix p) cause.Unheld) e) (λ held. IsReceiptOf (note.Unfixed p held.frame held.number) e) in
    let make : PageId → Held = λ page. record { page = page; frame = h.frame; number = h.number } in
    let found = newest_held (held_by past w.pass) p h here in
    let C : Held → Type 0 = λ one. Contains (held_by past w.pass) one in
    does_receipt seen o start desk log w past (command.Unfix p) n so (lawful_receipt seen o start desk log w past n so refl (subst C (ap make found.1) found.0) (record { reached = record { places = tt; inside = tt }; none_due = is_held past w.pass p h here })) (record { inside = tt; told = tt }, tt) tt (λ h. subst M (sym here) refl)

-- what was copied of the image is of the page's value
value_read : (o : Opened) (seen : FramesSeen) (v : Option Content) (image : Option (Option Content)) (at : ℕ) (bytes : List ℕ) → IsValueIn o seen image v → IsRangeOf image at (length bytes) bytes
    → IsSomeAnd v (λ c. bytes ≡ slice_range c.bytes at (at + length bytes))
value_read o seen v None at bytes is read = absurd is
value_read o seen v (Some None) at bytes is read = absurd read
value_read o seen v (Some (Some c)) at bytes is read =
    let P : Option Content → Type 0 = λ v. IsSomeAnd v (λ c. bytes ≡ slice_range c.bytes at (at + length bytes)) in
    subst P (sym is) read

does_copy : {D : Type 0} (seen : D → DiskSeen) (o : Opening) (start : Start) (desk : State D) (frames : Plain) (log : Seen) (w : Working) (past : List Event) (p : PageId) (at len : ℕ) (held : Held) (bytes : List ℕ) (clock : ℕ)
    → HasPlayed seen o start desk log w past [] → StandsBehind seen o start desk frames → newest_fix w.fixed p ≡ Some held → home desk.history p ≡ Some held.frame → length bytes ≡ len
    → IsRangeOf (row_in frames.rows held.frame).image at (length bytes) bytes → clock ≡ change desk.history held.frame
    → Does seen o start desk log (with_note desk w (note.Copied p at bytes clock)) past (command.Read p at len)
does_copy seen o start desk frames log w past p at len held bytes clock so stands newest resident long read unchanged =
    let n = note.Copied p at bytes clock in
    let e : Event = event.Receipt (next_receipt desk w n) in
    let size = page_bytes o.config.page in
    let here : newest_fix (held_by past w.pass) p ≡ Some held = ap (λ fixes. newest_fix fixes p) so.held ∙ newest in
    let M : Option Held → Type 0 = λ found. MatchOption found (IsReceiptOf (note.Refused (call.Read p at len) cause.Unheld) e)
    (λ _. (list : List ℕ) × (c : ℕ) × (length list ≡ len) × IsReceiptOf (note.Copied p at list c) e) in
    let S : Option Held → Type 0 = λ found. IsSome found in
    let C : List Entry → Type 0 = λ h. IsSomeAnd (home h p) (λ f. clock ≡ change h f) in
    let H : Option ℕ → Type 0 = λ found. IsSomeAnd found (λ f. clock ≡ change desk.history f) in
    does_receipt seen o start desk log w past (command.Read p at len) n so
    (lawful_receipt seen o start desk log w past n so refl (record {
      held = subst S (sym here) refl;
      read = on_some o.base _ (λ base. IsSomeAnd (value size base (entries past) p) (λ c. bytes ≡ slice_range c.bytes at (at + length bytes))) (λ base is behind.
          let V : List Entry → Type 0 = λ h. IsSomeAnd (value size base h p) (λ c. bytes ≡ slice_range c.bytes at (at + length bytes)) in
          subst V (sym so.entries_are) (value_read (opened_of o start base) (seen_of frames) (value size base desk.history p) (row_in frames.rows held.frame).image at bytes (behind.values p held.frame resident) read)) stands;
      unchanged = subst C (sym so.entries_are) (subst H (sym resident) unchanged);
    }) (record { reached = record { places = tt; inside = tt }; none_due = is_held past w.pass p held here })) (record { inside = tt; told = tt }, tt) tt (λ h. subst M (sym here) (bytes, clock, long, refl))

pub does_copied : {D : Type 0} (seen : D → DiskSeen) (o : Opening) (start : Start) (desk : State D) (frames : Plain) (log : Seen) (w : Working) (past : List Event) (p : PageId) (at len : ℕ) (held : Held) (bytes : List ℕ) (clock : ℕ)
    → HasPlayed seen o start desk log w past [] → StandsBehind seen o start desk frames → newest_fix w.fixed p ≡ Some held → home desk.history p ≡ Some held.frame → length bytes ≡ len
    → IsRangeOf (row_in frames.rows held.frame).image at len bytes → clock ≡ change desk.history held.frame
    → Does seen o start desk log (with_note desk w (note.Copied p at bytes clock)) past (command.Read p at len)
does_copied seen o start desk frames log w past p at len held bytes clock so stands newest resident long read unchanged =
    let R : ℕ → Type 0 = λ n. IsRangeOf (row_in frames.rows held.frame).image at n bytes in
    does_copy seen o start desk frames log w past p at len held bytes clock so stands newest resident long (subst R (sym long) read) unchanged

-- the receipt of a put on a page that is not held
pub does_unheld_put : {D : Type 0} (seen : D → DiskSeen) (o : Opening) (start : Start) (desk : State D) (log : Seen) (w : Working) (past : List Event) (p : PageId) (at : ℕ) (bytes : List ℕ)
    → HasPlayed seen o start desk log w past [] → newest_fix w.fixed p ≡ None
    → Does seen o start desk log (with_note desk w (note.Refused (call.Put p at bytes) cause.Unheld)) past (command.Put p at bytes)
does_unheld_put seen o start desk log w past p at bytes so none =
    let n = note.Refused (call.Put p at bytes) cause.Unheld in
    let e : Event = event.Receipt (next_receipt desk w n) in
    let M : Option Held → Type 0 = λ newest. MatchOption newest (IsReceiptOf n e) (λ held. ((from : ℕ) × (end : ℕ) × IsEntryOf (kind.Put p at bytes from end) e) ⊎ IsRefusal (call.Put p at bytes) e) in
    let here : newest_fix (held_by past w.pass) p ≡ None = ap (λ held. newest_fix held p) so.held ∙ none in
    does_receipt seen o start desk log w past (command.Put p at bytes) n so (lawful_receipt seen o start desk log w past n so refl tt (first_of _ _ cause.Unheld (is_unheld past w.pass p here))) (record { inside = tt; told = tt }, record { own = refl; filed = refl; excused = tt; rising = tt; begun = tt })
    (wordless (entries past) (held_by past w.pass) _ cause.Unheld refl refl refl) (λ h. subst M (sym here) refl)

-- an entry that answers a put of a page that is held
does_put_entry : {D : Type 0} (seen : D → DiskSeen) (o : Opening) (start : Start) (old new : State D) (was is : Seen) (w : Working) (past : List Event) (p : PageId) (at : ℕ) (bytes : List ℕ) (held : Held) (k : Kind)
    → HasPlayed seen o start old was w past [] → Moves seen old new was is → IsAppended old new (me w) k → kind_answers k ≡ true → held_after_kind w.next k w.fixed ≡ w.fixed → newest_fix w.fixed p ≡ Some held
    → IsKindWithin start (seen new.disk).faults is.faults k → disk_faults_after k (disk_faults old.history) ≤ (seen new.disk).faults → log_faults_after k (log_faults old.history) ≤ is.faults
    → MayPrecede old.history [] k → IsLegalKind o (entries past) (own w.pass past) w.pass w.next k → IfSome (departure_in k) (λ d. IsUnfixed past d.page) → IfSome (write_in k) (λ v. IsCoveredWrite (entries past) v.page v.lsn v.upto)
    → IsCausedKind o past (entries past) (own w.pass past) w.pass w.next k → IsVictimKind o.config (entries past) w.pass w.next k → IsWithdrawalKind o.config (entries past) w.pass w.next k → IsTrueKind old.history w.fixed k
    → IsPromised o start.pages (entries past) (own w.pass past) (event.Entry (next_entry old (me w) k)) → leaves_chunks k ≡ true → (book old.config (next_entry old (me w) k ∷ old.history)).hands ≡ []
    → ((from : ℕ) × (end : ℕ) × (k ≡ kind.Put p at bytes from end)) ⊎ ((why : Cause) × (k ≡ kind.Refused (call.Put p at bytes) why))
    → Does seen o start new is (with_answer w k) past (command.Put p at bytes)
does_put_entry seen o start old new was is w past p at bytes held k so moves entry answers kept newest within last last_log before legal still covered causes victim withdrawal exact promised keeps handless form =
    let x : Entry = next_entry old (me w) k in
    let e : Event = event.Entry x in
    let here : newest_fix (held_by past w.pass) p ≡ Some held = ap (λ fixes. newest_fix fixes p) so.held ∙ newest in
    let M : Option Held → Type 0 = λ found. MatchOption found (IsReceiptOf (note.Refused (call.Put p at bytes) cause.Unheld) e)
    (λ _. ((from : ℕ) × (end : ℕ) × IsEntryOf (kind.Put p at bytes from end) e) ⊎ IsRefusal (call.Put p at bytes) e) in
    let F : List Held → Type 0 = λ fixes. FixesFall (w.next + 1) fixes in
    let I : List Entry → Type 0 = λ h. IsLogged is h in
    let all : IsLogged is (x ∷ old.history) = subst I entry.history moves.logged in
    let there = so_far_placed seen o start old new was is w past so moves all.1 in
    let desk = placed old new old.history in
    record {
      answer = e;
      before = [];
      quiet = refl;
      so_far = so_far_after seen o start old new is (with_answer w k) (e ∷ past) [] (x ∷ old.history) moves.left entry.history
          (so_far_answer seen o start desk is w past [] k there (record {
            logged = all.0;
            within = within;
            last = last;
            last_log = last_log;
            lawful = lawful_entry seen o start desk is w past [] old.history k there refl before legal still covered causes victim withdrawal;
            promised = promised;
            exact = exact;
          }) answers (subst F (sym kept) (falling_up w.next (w.next + 1) w.fixed (omega arith) so.falling)) keeps handless);
      answers = λ h goes. subst M (sym here) form;
    }

does_put : {D : Type 0} {rows more : List Row} (seen : D → DiskSeen) (o : Opening) (start : Start) (old new : State D) (was is : Seen) (w : Working) (past : List Event) (p : PageId) (at : ℕ) (bytes : List ℕ) (held : Held) (done : PutDone)
    → HasPlayed seen o start old was w past [] → newest_fix w.fixed p ≡ Some held → (by : IsPutBy old new rows more (me w) p at bytes done) → was.end + 21 + length bytes ≤ done.lsn
    → log_end old.history ≤ was.end → IsLater was is → (IsLogged was old.history → IsLogged is new.history) → IsRange (page_bytes old.config.page) at (length bytes) → mark old.config.first old.history + ANSWER_NEED ≤ LIMIT
    → Does seen o start new is (with_answer w (kind.Put p at bytes by.start done.lsn)) past (command.Put p at bytes)
does_put seen o start old new was is w past p at bytes held done so newest by span known later logged body room =
    let k = kind.Put p at bytes by.start done.lsn in
    let here : newest_fix (held_by past w.pass) p ≡ Some held = ap (λ fixes. newest_fix fixes p) so.held ∙ newest in
    let S : Option Held → Type 0 = λ found. IsSome found in
    let B : ℕ → Type 0 = λ size. at + length bytes ≤ size - 8 in
    let L : List Entry → Type 0 = λ h. log_end h ≤ by.start in
    let left = left_same seen old new by.entry.config by.entry.instance by.disk in
    does_put_entry seen o start old new was is w past p at bytes held k so (record { left = left; later = later.faults; logged = logged so.logged }) by.entry refl refl newest
    tt (omega (arith, so.last_fault, left.later)) (omega (arith, so.last_log_fault, later.faults)) refl
    (record {
      held = subst S (sym here) refl;
      range = record { some = body.some; header = body.header; trailer = subst B (ap (λ (c : Config). page_bytes c.page) so.config_is) body.trailer };
      behind = subst L (sym so.entries_are) (omega (arith, known, span, by.lsn));
      record_is = by.lsn;
    }) tt tt (record { reached = reached seen o start old was w past [] old.history (call.Put p at bytes) ANSWER_NEED so refl refl room tt; none_due = is_held past w.pass p held here }) tt tt tt
    (record { inside = tt; told = tt }, tt) refl (so.empty_handed refl) (inl (by.start, done.lsn, refl))

does_spent : {D : Type 0} (seen : D → DiskSeen) (o : Opening) (start : Start) (old new : State D) (was is : Seen) (w : Working) (past : List Event) (p : PageId) (at : ℕ) (bytes : List ℕ) (held : Held) (end : ℕ)
    → HasPlayed seen o start old was w past [] → newest_fix w.fixed p ≡ Some held → IsSpentBy old new (me w) p at bytes was.end is.end end
    → log_end old.history ≤ was.end → IsLater was is → (IsLogged was old.history → IsLogged is new.history) → mark old.config.first old.history + ANSWER_NEED ≤ LIMIT
    → Does seen o start new is (with_answer w (kind.Refused (call.Put p at bytes) (cause.LogSpent end))) past (command.Put p at bytes)
does_spent seen o start old new was is w past p at bytes held end so newest spent known later logged room =
    let k = kind.Refused (call.Put p at bytes) (cause.LogSpent end) in
    let here : newest_fix (held_by past w.pass) p ≡ Some held = ap (λ fixes. newest_fix fixes p) so.held ∙ newest in
    let why = cause.LogSpent end in
    let told : told_end (entries past) ≤ was.end = told_below _ o past was so.good (subst (λ (l : List Entry). IsLogged was l) (sym so.entries_are) so.logged) (subst (λ (l : List Entry). log_end l ≤ was.end) (sym so.entries_are) known) in
    let left = left_same seen old new spent.entry.config spent.entry.instance spent.disk in
    does_put_entry seen o start old new was is w past p at bytes held k so (record { left = left; later = later.faults; logged = logged so.logged }) spent.entry refl refl newest
    tt (omega (arith, so.last_fault, left.later)) (omega (arith, so.last_log_fault, later.faults)) (tt, refl) tt tt tt (
      reached seen o start old was w past [] old.history (call.Put p at bytes) ANSWER_NEED so refl refl room tt,
      (is_held past w.pass p held here, record { behind = omega (arith, told, spent.known.0); beyond = omega (arith, spent.beyond) }),
    ) tt tt (wordless old.history w.fixed (call.Put p at bytes) why refl refl refl)
    (record { inside = tt; told = tt }, record { own = refl; filed = refl; excused = tt; rising = tt; begun = tt }) refl
    (refused_hand old.config.frames (next_entry old (me w) k) (call.Put p at bytes) why (book old.config old.history) (inl (so.empty_handed refl)) (inl (so.empty_handed refl))) (inr (why, refl))

-- the same, where some fix is the newest
pub does_put_held : {D : Type 0} {rows more : List Row} (seen : D → DiskSeen) (o : Opening) (start : Start) (old new : State D) (was is : Seen) (w : Working) (past : List Event) (p : PageId) (at : ℕ) (bytes : List ℕ) (found : Option Held) (done : PutDone)
    → HasPlayed seen o start old was w past [] → newest_fix w.fixed p ≡ found → IsSome found → (by : IsPutBy old new rows more (me w) p at bytes done) → was.end + 21 + length bytes ≤ done.lsn
    → log_end old.history ≤ was.end → IsLater was is → (IsLogged was old.history → IsLogged is new.history) → IsRange (page_bytes old.config.page) at (length bytes) → mark old.config.first old.history + ANSWER_NEED ≤ LIMIT
    → Does seen o start new is (with_answer w (kind.Put p at bytes by.start done.lsn)) past (command.Put p at bytes)
does_put_held seen o start old new was is w past p at bytes None done so newest some by span known later logged body room = absurd (cc)
does_put_held seen o start old new was is w past p at bytes (Some held) done so newest some by span known later logged body room =
    does_put seen o start old new was is w past p at bytes held done so newest by span known later logged body room

pub does_spent_held : {D : Type 0} (seen : D → DiskSeen) (o : Opening) (start : Start) (old new : State D) (was is : Seen) (w : Working) (past : List Event) (p : PageId) (at : ℕ) (bytes : List ℕ) (found : Option Held) (end : ℕ)
    → HasPlayed seen o start old was w past [] → newest_fix w.fixed p ≡ found → IsSome found → IsSpentBy old new (me w) p at bytes was.end is.end end
    → log_end old.history ≤ was.end → IsLater was is → (IsLogged was old.history → IsLogged is new.history) → mark old.config.first old.history + ANSWER_NEED ≤ LIMIT
    → Does seen o start new is (with_answer w (kind.Refused (call.Put p at bytes) (cause.LogSpent end))) past (command.Put p at bytes)
does_spent_held seen o start old new was is w past p at bytes None end so newest some spent known later logged room = absurd (cc)
does_spent_held seen o start old new was is w past p at bytes (Some held) end so newest some spent known later logged room =
    does_spent seen o start old new was is w past p at bytes held end so newest spent known later logged room

pub on_ok : {T E : Type 0} (r : Result T E) (P Q : Type 0) → (P → Q) → OnOk r P → OnOk r Q
on_ok (Ok x) P Q f h = f h
on_ok (Err e) P Q f h = h
