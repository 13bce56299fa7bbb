use Rattle.std.proofs.Common.{◌≡◌, ◌<◌, ◌≤◌, ◌+◌, ◌*◌, ◌^◌, ℕ, List, [], ◌∷◌, Option, None, Some, IfSome, IsSomeAnd, ap, ◌∙◌, sym, subst, refl, arith, reverse, length}
use Rattle.std.specs.List.{AllByRecursion}
use Rattle.std.specs.Prelude.{unwrap_or}
use Rattle.std.proofs.lemmas.List.{length-reverse}
use Rattle.std.proofs.lemmas.List.Sums.{sum_by-cons}
use Rattle.page_ids.specs.Content.{Content}
use Rattle.page_ids.specs.Size.{page_bytes}
use Rattle.page_ids.specs.declared.ids.PageId.{PageId}
use Rattle.page_ids.specs.declared.config.Config.{Config}
use Rattle.page_ids.specs.declared.limits.TheConstants.{LIMIT}
use Rattle.page_disk.specs.Disks.{DiskSeen, pages_in}
use Rattle.redo_mark.specs.Device.{Told}
use Rattle.redo_mark.specs.Logs.{Seen, IsAllKept}
use Rattle.trail.specs.declared.event.Entry.{Entry}
use Rattle.trail.specs.declared.event.Event.{Event}
use Rattle.trail.specs.declared.event.Held.{Held}
use Rattle.trail.specs.Alone.{sole_of}
use Rattle.trail.specs.Trails.{Opening, AreNumbered, mark, entries}
use Rattle.trail.specs.Saved.{AreDurable}
use Rattle.trail.specs.Dirt.{dirty, log_end}
use Rattle.desk.specs.Base.{Opened, IsBase}
use Rattle.desk.specs.Behind.{IsNewlyOpened}
use Rattle.frame_words.specs.Plain.{Plain, seen_of}
use Rattle.instance_lists.specs.Ledger.{IsOneChunk}
use Rattle.desk.specs.Logged.{IsLogged}
use Rattle.trail.specs.Book.{book}
use Rattle.desk.specs.State.{State}
use Rattle.desk.specs.Steps.{IsNewDesk, row_in}
use Rattle.desk.specs.Tied.{AreTied}
use Rattle.script_text.specs.Plan.{Plan, first_thread, commands_of}
use Rattle.script_text.specs.Within.{IsInRange, IsWithin}
use Rattle.script_text.specs.declared.script.TheConstants.{MOST_CALLS}
use Rattle.script_text.specs.declared.script.Command.{Command}
use Rattle.script_text.specs.Grammar.{calls_in, all_calls}
use Rattle.script_run.specs.Openings.{Start, opening_of, opened_of, AreFaultsWithin}
use Rattle.script_run.specs.Work.{Working, HasPlayed, StandsBehind, Worked, IsWorkerReady, IsBehindIt, AreInChunk, AreHomesApart}
use Rattle.script_run.specs.Workers.{working}
use Rattle.script_run.specs.Runs.{IsDiskOf, KeepsRecords, KeepsRecordsBelow, EndsBehind}
use Rattle.script_run.proofs.Finished.{so_far_new, finished, Merges}
use Rattle.script_run.proofs.Growing.{on_some}
use Rattle.script_run.proofs.Telling.{ends_behind}
use Rattle.script_run.proofs.Resting.{are_durable, are_kept, are_kept_below, extended, long_of, disk_of}
use Rattle.script_run.proofs.runner.run_on.Goals as goal

none_held : {A : Type 0} (xs : List A) → reverse xs ≡ [] → length xs ≡ 0
none_held xs e = sym (length-reverse xs) ∙ ap (length {A = _}) e

-- a desk with an empty history and its blank frames are ready
ready_new : {D : Type 0} (seen : D → DiskSeen) (desk : State D) (frames : Plain) → AreTied seen (seen_of frames) desk → desk.history ≡ []
    → ((f : ℕ) → f < length frames.rows → (row_in frames.rows f).held ≡ Some 0) → IsWorkerReady seen desk frames []
ready_new seen desk frames tied none unfixed = record {
  tied = tied;
  hands = ap (λ (h : List Entry). (book desk.config h).hands) none;
  homes = let H : List Entry → Type 0 = λ h. AreInChunk desk.config h in subst H (sym none) (λ p f here. absurd (cc));
  apart = let A : List Entry → Type 0 = λ h. AreHomesApart h in subst A (sym none) (λ p q f here there. absurd (cc));
  housed = tt;
  held = unfixed;
  few = omega arith;
}

pub new-requires-clause-start : goal.new-requires-clause-start
new-requires-clause-start g c κs within =
    let I : Config → Type 0 = λ config. IsOneChunk config in
    let is = c.requires.script.config in
    subst I (sym c.config-config.ensures) (record { one = c.requires.script.chunks; frames = is.frames.1; max = is.max; percent = omega (arith, is.pct.1) })

pub work-requires-clause-ready : goal.work-requires-clause-ready
work-requires-clause-ready g c κs within =
    let seen = g.D.PageDisk.seen in
    let R : List Held → Type 0 = λ fixed. IsWorkerReady seen c.in-Ok-new.desk.state c.in_ok-frames.frames fixed in
    subst R (sym (ap (λ (w : Working). w.fixed) c.new-pass.ensures))
    (ready_new seen c.in-Ok-new.desk.state c.in_ok-frames.frames c.in_ok-frames.ensures.tied c.in-Ok-new.ensures.fresh.history c.in_ok-frames.ensures.unfixed)

pub work-requires-clause-new : goal.work-requires-clause-new
work-requires-clause-new g c κs within = none_held c.new-pass.result.fixed.items (ap (λ (w : Working). w.fixed) c.new-pass.ensures)

-- what holds of every thread holds of the first
of_first : (P : List Command → Type 0) (threads : List (List Command)) → P [] → AllByRecursion P threads → P (first_thread threads)
of_first P [] none all = none
of_first P (commands ∷ others) none all = all.0

pub work-requires-clause-ranges : goal.work-requires-clause-ranges
work-requires-clause-ranges g c κs within =
    let R : Config → List Command → Type 0 = λ config commands. AllByRecursion (IsInRange config.page) commands in
    let there : R c.args.script.now.config (commands_of c.args.script.now) = of_first (AllByRecursion (IsInRange c.args.script.now.config.page)) c.args.script.now.threads tt c.requires.script.ranges in
    let config : c.in-Ok-new.desk.state.config ≡ c.args.script.now.config = c.in-Ok-new.ensures.fresh.config_is ∙ c.config-config.ensures in
    subst (λ x. R x c.commands.result.now) (sym config) (subst (λ l. R c.args.script.now.config l) (sym c.commands.ensures) there)

-- the first thread makes no more calls than all threads
few_first : (n : ℕ) (threads : List (List Command)) → all_calls n threads ≤ MOST_CALLS → calls_in n (first_thread threads) ≤ MOST_CALLS
few_first n [] few = omega arith
few_first n (commands ∷ others) few = omega (arith, few, sum_by-cons (calls_in n) commands others)

few_calls : (plan : Plan) (commands : List Command) → commands ≡ commands_of plan → IsWithin plan → calls_in 1 commands ≤ MOST_CALLS
few_calls plan commands are within =
    let few : calls_in plan.config.instances (commands_of plan) ≤ MOST_CALLS = few_first plan.config.instances plan.threads within.calls in
    let one : calls_in plan.config.instances commands ≡ calls_in 1 commands = ap (λ n. calls_in n commands) within.instances in
    omega (arith, few, one, ap (calls_in plan.config.instances) are)

-- a script has few commands, and no entry yet
few_places : (first n : ℕ) (history : List Entry) → first ≡ 0 → history ≡ [] → n ≤ MOST_CALLS → first + 2 * length history + 32770 * n ≤ LIMIT
few_places first n history start none few = omega (arith, start, ap (length {A = Entry}) none, few)

few_numbers : (next n : ℕ) → next ≡ 1 → n ≤ MOST_CALLS → next + n + 64 < 2 ^ 32
few_numbers next n start few = omega (arith, start, few)

few_more : (first n was is soiled : ℕ) → first ≡ 0 → was ≡ 0 → n ≤ MOST_CALLS → is ≤ was + 16385 * n → soiled ≤ is → first + is + soiled + 1 < 2 ^ 48
few_more first n was is soiled start none few grown less = omega (arith, start, none, few, grown, less)

few_left : (first n was is : ℕ) → first ≡ 0 → was ≡ 0 → n ≤ MOST_CALLS → is ≤ was + 16385 * n → first + is + 16385 ≤ LIMIT
few_left first n was is start none few grown = omega (arith, start, none, few, grown)

pub work-requires-clause-places : goal.work-requires-clause-places
work-requires-clause-places g c κs within =
    let fresh = c.in-Ok-new.ensures.fresh in
    let first = ap (λ (x : Config). x.first) (fresh.config_is ∙ c.config-config.ensures) ∙ c.requires.script.first in
    few_places c.in-Ok-new.desk.state.config.first (calls_in 1 c.commands.result.now) c.in-Ok-new.desk.state.history first fresh.history
    (few_calls c.args.script.now c.commands.result.now c.commands.ensures c.requires.script)

pub work-requires-clause-number : goal.work-requires-clause-number
work-requires-clause-number g c κs within =
    few_numbers c.new-pass.result.next (calls_in 1 c.commands.result.now) (ap (λ (x : Working). x.next) c.new-pass.ensures)
    (few_calls c.args.script.now c.commands.result.now c.commands.ensures c.requires.script)

pub close-requires-clause-places : goal.close-requires-clause-places
close-requires-clause-places g c κs within =
    let fresh = c.in-Ok-new.ensures.fresh in
    let worked = c.in_ok-work.ensures in
    let desk = c.work.new.desk.state in
    let first = ap (λ (x : Config). x.first) (worked.left.config ∙ fresh.config_is ∙ c.config-config.ensures) ∙ c.requires.script.first in
    few_more desk.config.first (calls_in 1 c.commands.result.now) (length c.in-Ok-new.desk.state.history) (length desk.history) (length (dirty desk.history)) first
    (ap (length {A = Entry}) fresh.history) (few_calls c.args.script.now c.commands.result.now c.commands.ensures c.requires.script) worked.grown (c.dirty_pages_are_few.ensures desk.history)

pub returns-clause-run : goal.returns-clause-run
returns-clause-run g c =
    let D = g.row.D.Denot in
    let seen = g.D.PageDisk.seen in
    let log_seen = g.R.RedoDisk.seen in
    let plan = c.args.script.now in
    let disk : D = c.args.disk in
    let last : D = c.end-disk.result.0 in
    let start : Start = record { told = (seen disk).told; pages = pages_in (seen last).spaces; disk_faults = (seen disk).faults; log_faults = (log_seen c.args.log).faults } in
    let frames = c.in_ok-frames.frames in
    let desk = c.work.new.desk.state in
    let new = c.close.new.desk.state in
    let was : Seen = c.work.new.redo.seen in
    let is : Seen = c.close.new.redo.seen in
    let w : Working = working c.work.new.pass in
    let history = c.end-disk.result.1.items in
    let account = c.into_account.result.items in
    let trail = c.in_ok-trail.trail in
    let end = c.close-redo.result in
    let fault = c.in_ok-fault.fault in
    let last_is : last ≡ new.disk = c.end-disk.ensures.disk in
    let config_is : c.config-config.result.now ≡ plan.config = c.config-config.ensures in
    let F : Config → Type 0 = λ config. IsNewDesk c.in-Ok-new.desk.state config 0 disk in
    let fresh = subst F config_is c.in-Ok-new.ensures.fresh in
    let merges = c.in_ok-trail.ensures.merged in
    let law : Merges = c.one_trail_is_merged.ensures.only in
    let front = c.dirty_pages_are_apart.ensures.front in
    let spaces_are : (s : ℕ) → (seen last).spaces s ≡ (seen disk).spaces s = λ s.
    ap (λ d. (seen d).spaces s) last_is ∙ c.close.ensures.spaces s ∙ c.in_ok-work.ensures.left.spaces_are s ∙ ap (λ d. (seen d).spaces s) fresh.disk_is in
    let C : List Command → Type 0 = λ commands. (o : Opening) (begin : Start) (past : List Event) → HasPlayed seen o begin c.in-Ok-new.desk.state c.in-Ok.redo.seen (working c.new-pass.result) past []
    → StandsBehind seen o begin c.in-Ok-new.desk.state frames → Worked seen o begin desk was w past commands in
    let done = subst C c.commands.ensures c.in_ok-work.ensures.done in
    let opened : (o : Opening) (first : PageId → Option Content) → o.config ≡ plan.config → IsBase (seen disk).told start.pages first → IsNewlyOpened (opened_of o start first) (seen disk) =
    λ o first config based. record {
      size_is = c.requires.size ∙ ap (λ (x : Config). page_bytes x.page) (sym config);
      pages_are = λ s. ap (λ n. unwrap_or n 0) (spaces_are s);
      told_are = λ p. refl;
      based = based;
    } in
    let behind : (o : Opened) → IsNewlyOpened o (seen disk) → IsBehindIt seen o new c.close.new.frames = λ o opening.
    c.close.ensures.behind o (c.in_ok-work.ensures.behind o (c.in-Ok-new.ensures.behind o (seen_of frames) opening)) in
    let worked = λ (base : Option (PageId → Option Content)) (based : IfSome base (λ first. IsBase (seen disk).told (pages_in (seen last).spaces) first)).
    let o = opening_of plan.config base in
    let so = so_far_new seen plan.config base start c.in-Ok-new.desk.state c.in-Ok.redo.seen (working c.new-pass.result) 1 disk fresh c.new-pass.ensures (λ s. ap (λ n. unwrap_or n 0) (spaces_are s))
    (omega arith) (omega (arith, c.in-Ok.ensures.fresh.faults)) in
    let stands : StandsBehind seen o start c.in-Ok-new.desk.state frames = on_some base _ _ (λ first e is_base. c.in-Ok-new.ensures.behind (opened_of o start first) (seen_of frames) (opened o first refl is_base)) based in
    done o start [] so stands in
    let left : desk.config.first + length desk.history + 16385 ≤ LIMIT =
    few_left desk.config.first (calls_in 1 c.commands.result.now) (length c.in-Ok-new.desk.state.history) (length desk.history)
    (ap (λ (x : Config). x.first) (c.in_ok-work.ensures.left.config ∙ c.in-Ok-new.ensures.fresh.config_is ∙ c.config-config.ensures) ∙ c.requires.script.first)
    (ap (length {A = Entry}) c.in-Ok-new.ensures.fresh.history) (few_calls c.args.script.now c.commands.result.now c.commands.ensures c.requires.script) c.in_ok-work.ensures.grown in
    let all = λ (base : Option (PageId → Option Content)) (based : IfSome base (λ first. IsBase (seen disk).told (pages_in (seen last).spaces) first)).
    finished seen (opening_of plan.config base) start desk new was is w (commands_of plan) fault history account trail front
    (c.in_ok-work.ensures.pass ∙ ap (λ (x : Working). x.pass) c.new-pass.ensures) (worked base based)
    c.in_ok-fault.ensures.closed c.in_ok-fault.ensures.fault c.end-disk.ensures.history c.into_account.ensures law
    (c.in_ok-trail.ensures.first ∙ ap (λ (x : Config). x.first) config_is) merges c.close.ensures.counted c.close.ensures.later.faults left in
    let o = opening_of plan.config None in
    let one = all None tt in
    let here : entries (reverse trail.events) ≡ new.history = one.1 in
    let L : D → ℕ → List Entry → Type 0 = λ d n h. AreFaultsWithin start (seen d).faults n h in
    let first_is : is.first ≡ plan.config.lsn = c.close.ensures.later.first ∙ c.in_ok-work.ensures.log.first ∙ c.in-Ok.ensures.fresh.first ∙ ap (λ (x : Config). x.lsn) config_is in
    let past : List Event = reverse trail.events in
    let good = one.0.lawful.each in
    let H : List Entry → Type 0 = λ h. IsLogged is h in
    let logged : IsLogged is (entries past) = subst H (sym here) (c.close.ensures.logged (worked None tt).so_far.logged) in
    let K : List Entry → Type 0 = λ h. log_end h ≤ is.end in
    let B : ℕ → Type 0 = λ n. EndsBehind n (entries past) in
    let A : ℕ → Type 0 = λ n. KeepsRecords n (log_seen end.disk).told (entries past) in
    let W : Option Told → ℕ → Type 0 = λ t n. IsAllKept n t is (log_seen end.disk).told in
    let opening_is : c.close.new.redo.opening ≡ (log_seen c.args.log).told = c.close.ensures.opening ∙ c.in_ok-work.ensures.opening ∙ c.in-Ok.ensures.disk.1 in
    let lsn_is = ap (λ (x : Config). x.lsn) config_is in
    let opened_is : (g.R.RedoDisk.seen end.disk).opened ≡ (g.R.RedoDisk.seen c.args.log).opened =
    omega (arith, c.close-redo.ensures.opened, c.close.ensures.later.opened, c.in_ok-work.ensures.log.opened, c.in-Ok.ensures.fresh.opened, first_is, lsn_is) in
    let all_kept : IsAllKept (g.R.RedoDisk.seen c.args.log).opened (log_seen c.args.log).told is (log_seen end.disk).told =
    subst (W (log_seen c.args.log).told) opened_is (subst (λ t. W t (g.R.RedoDisk.seen end.disk).opened) opening_is c.close-redo.ensures.all) in
    record {
      trail = trail;
      disk = last;
      end = end;
      trails_are = refl;
      disks_are = refl;
      log_is = refl;
      run = λ base based. (all base based).0;
      faults = subst (λ h. L last (log_seen end.disk).faults h) (sym here) (subst (λ n. L last n new.history) c.close-redo.ensures.faults (subst (λ d. L d is.faults new.history) (sym last_is) one.2));
      spaces_are = spaces_are;
      holds = λ base is_base.
          let o = opened_of (opening_of plan.config (Some base)) start base in
          let stands = behind o (opened (opening_of plan.config (Some base)) base refl is_base) in
          let at = disk_of seen o new (seen_of c.close.new.frames) fault stands (λ fine p inside. c.clean_disk_holds_the_values.ensures o new (seen_of c.close.new.frames) stands (c.in_ok-fault.ensures.closed.clean fine) p inside) in
          subst (λ h. IsDiskOf o.size base start.pages (seen disk).told (seen last).told fault h) (sym here) (subst (λ d. IsDiskOf o.size base start.pages (seen disk).told (seen d).told fault new.history) (sym last_is) at);
      logs = record {
        ends = subst B (sym c.close-redo.ensures.end) (ends_behind _ o past is good logged (subst K (sym here) c.close.ensures.known));
        durable = c.close-redo.ensures.durable.1;
        marks = subst (λ n. AreDurable n (entries past)) (sym c.close-redo.ensures.durable.0) (are_durable is (entries past) logged);
        whole = λ fine. c.close-redo.ensures.durable.0 ∙ c.in_ok-fault.ensures.whole fine ∙ sym c.close-redo.ensures.end;
        long = subst (λ n. IfSome (log_seen c.args.log).told (λ s. IsSomeAnd (log_seen end.disk).told (λ t. plan.config.lsn + length t.kept ≡ n))) (sym c.close-redo.ensures.durable.0)
            (long_of (g.R.RedoDisk.seen c.args.log).opened plan.config.lsn (log_seen c.args.log).told (log_seen end.disk).told is all_kept c.requires.opened c.close-redo.ensures.kept
            (omega (arith, c.close-redo.ensures.opened, first_is, opened_is))
            (omega (arith, c.in-Ok.ensures.fresh.durable, c.in_ok-work.ensures.log.opened, c.in_ok-work.ensures.log.durable, c.close.ensures.later.opened, c.close.ensures.later.durable))
            (omega (arith, c.close-redo.ensures.durable.0, c.close-redo.ensures.durable.1, c.close-redo.ensures.end)));
        extended = extended (g.R.RedoDisk.seen c.args.log).opened (log_seen c.args.log).told (log_seen end.disk).told is all_kept c.requires.opened;
        settled = subst (λ n. KeepsRecordsBelow n end.durable (log_seen end.disk).told (entries past)) first_is (are_kept_below _ o past is (log_seen end.disk).told end.durable c.close-redo.ensures.records good logged);
        kept = λ fine.
            let durable : log_end (entries past) ≤ is.durable = c.a_clean_history_is_durable.ensures o (sole_of past) past is.durable good (are_durable is (entries past) logged) (one.0.clean fine) in
            subst A first_is (are_kept _ o past is (log_seen end.disk).told end.durable c.close-redo.ensures.records good logged (omega (arith, durable, c.close-redo.ensures.durable.0)));
      };
    }
