use Rattle.std.proofs.Common.{◌≡◌, ◌<◌, ℕ, List, length, refl, ap, ◌∙◌, sym, subst, arith, inl, inr}
use Rattle.page_ids.specs.declared.config.Config.{Config}
use Rattle.redo_mark.specs.Logs as log
use Rattle.redo_mark.specs.Logs.{Holds}
use Rattle.redo_mark.specs.Records.{sealed, record_of}
use Rattle.trail.specs.declared.event.Call.TheVariants as call
use Rattle.trail.specs.declared.event.Cause.TheVariants as cause
use Rattle.frame_words.specs.Appends.{FitsRefusal}
use Rattle.frame_words.specs.Rows.{Row}
use Rattle.desk.specs.Answers.{Uncreated}
use Rattle.desk.specs.Logged.{create_change}
use Rattle.desk.specs.Moments.{IsBetweenSteps, Proceeds, moment, moment_of, log_seen}
use Rattle.desk.specs.Victims.{IsHad}
use Rattle.desk.specs.declared.calls.CreateErr.{CreateErr}
use Rattle.desk.proofs.Creating.{length-create}
use Rattle.desk.proofs.Loading.{inside_below}
use Rattle.desk.proofs.Moments.{keeps_ended, keeps_none, keeps_most, keeps_on, keeps_log, take_on, places_on, uses_none, uses_more, adds_of, unhad_created, device_used}
use Rattle.desk.proofs.PassedWords.{each_some, at_some}
use Rattle.desk.proofs.desk.Desk.create_absent.Goals as goal

pub make-requires-clause-entries : goal.make-requires-clause-entries
make-requires-clause-entries g c = λ κs within.
    let room = c.in-Ok-have_frame.ensures.room in
    let had = c.requires.entries.room in
    record { places = places_on g.D.PageDisk.seen 2 1 _ _ c.have_frame.ensures.keeps c.requires.entries.places; room = omega (arith, room, had) }

pub make-requires-clause-asked : goal.make-requires-clause-asked
make-requires-clause-asked g c = λ κs within. take_on g.D.PageDisk.seen 2 _ _ c.args.by c.args.page c.in-Ok-have_frame.frame c.in-Ok-have_frame.ensures.answers c.have_frame.ensures.keeps c.requires.asked

pub make-requires-clause-fix : goal.make-requires-clause-fix
make-requires-clause-fix g c = λ κs within.
    let f = c.in-Ok-have_frame.frame in
    let below : f < c.args.self.now.state.config.frames = subst (λ (x : Config). f < x.frames) c.have_frame.ensures.keeps.desk.config c.in-Ok-have_frame.ensures.answers.next.below in
    let whole = c.requires.ready.rest.tied.whole in
    let inside : f < length (g.F.Frames.seen c.args.frames.now).rows = omega (arith, below, whole) in
    let first = c.requires.fixes f inside in
    let next = c.have_frame.ensures.fixes f in
    omega (arith, first, next)

pub make-requires-clause-span : goal.make-requires-clause-span
make-requires-clause-span g c = λ κs within.
    let known = c.have_frame.ensures.keeps.known c.requires.ready.known in
    let span = c.in-Ok-append.ensures.span in
    let size : length c.in-Ok.draft ≡ 13 = ap (length {A = ℕ}) c.in-Ok.ensures ∙ length-create c.args.page in
    record { start = omega (arith, known, span.start); end = omega (arith, span.end, size) }

pub refuse-requires-clause-entries : goal.refuse-requires-clause-entries
refuse-requires-clause-entries g c = λ κs within.
    let room = c.in-Ok-have_frame.ensures.room in
    let had = c.requires.entries.room in
    record { places = places_on g.D.PageDisk.seen 2 1 _ _ c.have_frame.ensures.keeps c.requires.entries.places; room = omega (arith, room, had) }

pub refuse-requires-clause-hands : goal.refuse-requires-clause-hands
refuse-requires-clause-hands g c = λ κs within. inr refl

pub refuse-requires-clause-asked : goal.refuse-requires-clause-asked
refuse-requires-clause-asked g c = λ κs within.
    let t = g.F.Frames.seen c.have_frame.new.frames in
    let may = take_on g.D.PageDisk.seen 2 _ _ c.args.by c.args.page c.in-Ok-have_frame.frame c.in-Ok-have_frame.ensures.answers c.have_frame.ensures.keeps c.requires.asked in
    record {
      turn = may.caller.turn;
      own = may.caller.own;
      for_page = refl;
      may = record {
        words = refl;
        fits = each_some t.opened (λ o. FitsRefusal o (call.Create c.args.page c.args.now) (cause.LogSpent c.in-Err-append.end)) (λ o is. λ takes. at_some t.opened (λ x. length x < 64) o may.caller.few is);
      };
    }

pub returns-in_default-clause-keeps : goal.returns-in_default-clause-keeps
returns-in_default-clause-keeps g c =
    let m = moment_of g.F.Frames.seen g.R.RedoDisk.seen c.args.self.now c.args.frames.now c.args.redo.now in
    keeps_most g.D.PageDisk.seen 0 3 m m (omega arith) (keeps_none g.D.PageDisk.seen m c.requires.ready.rest)

pub returns-in_default-clause-answers : goal.returns-in_default-clause-answers
returns-in_default-clause-answers g c = λ held few.
    let m = moment_of g.F.Frames.seen g.R.RedoDisk.seen c.args.self.now c.args.frames.now c.args.redo.now in
    record { refused = (refl, refl); unused = refl; log = uses_none m; as_long = refl; covered = device_used m m.log m.log refl refl (inl refl) }

pub returns-in-Err-clause-keeps : goal.returns-in-Err-clause-keeps
returns-in-Err-clause-keeps g c = keeps_most g.D.PageDisk.seen 2 3 _ _ (omega arith) (keeps_ended g.D.PageDisk.seen 2 _ _ c.args.by c.have_frame.ensures.keeps c.in-Err.ensures.answers.hands)

pub returns-in-Err-clause-answers : goal.returns-in-Err-clause-answers
returns-in-Err-clause-answers g c = λ held few.
    let m = moment_of g.F.Frames.seen g.R.RedoDisk.seen c.args.self.now c.args.frames.now c.args.redo.now in
    let n = moment_of g.F.Frames.seen g.R.RedoDisk.seen c.have_frame.new.self c.have_frame.new.frames c.have_frame.new.redo in
    subst (λ (e : CreateErr). Uncreated g.D.PageDisk.seen m n c.args.by held c.args.page c.args.now e) (sym c.create_err.ensures)
    (unhad_created g.D.PageDisk.seen m n c.args.by held c.args.page c.args.now c.in-Err.error few c.requires.asked c.in-Err.ensures.answers)

pub returns-in-Ok-append-clause-keeps : goal.returns-in-Ok-append-clause-keeps
returns-in-Ok-append-clause-keeps g c =
    let S = g.D.PageDisk.seen in
    let span = c.in-Ok-append.span in
    let put = c.in-Ok-append.ensures in
    let log = c.append.ensures in
    let l = log_seen g.R.RedoDisk.seen c.append.new.self in
    let old = c.have_frame.new.self.state in
    let t = g.F.Frames.seen c.have_frame.new.frames in
    let holds : Holds l.seen (record_of (create_change c.args.page) span.start) span.start = subst (λ (d : List ℕ). Holds l.seen (sealed d span.start) span.start) c.in-Ok.ensures put.record in
    keeps_on S 2 1 _ _ _ c.have_frame.ensures.keeps
    (keeps_on S 0 1 _ (moment old t l) _ (keeps_log S (IsBetweenSteps S c.args.by) old t _ l c.have_frame.ensures.keeps.rest log.later log.disk.1 log.kept)
    (c.make.ensures.keeps l holds (omega (arith, put.span.within))))

pub returns-in-Ok-append-clause-answers : goal.returns-in-Ok-append-clause-answers
returns-in-Ok-append-clause-answers g c = λ held few.
    let m = moment_of g.F.Frames.seen g.R.RedoDisk.seen c.args.self.now c.args.frames.now c.args.redo.now in
    let n = moment c.make.new.self.state (g.F.Frames.seen c.make.new.frames) (log_seen g.R.RedoDisk.seen c.append.new.self) in
    let old = c.args.self.now.state in
    let had = c.have_frame.new.self.state in
    let rows = (g.F.Frames.seen c.args.frames.now).rows in
    let cleared = (g.F.Frames.seen c.have_frame.new.frames).rows in
    let later = c.have_frame.ensures.keeps.later in
    let put = c.in-Ok-append.ensures in
    let span = put.span in
    let answers = c.in-Ok-have_frame.ensures.answers in
    let mid = log_seen g.R.RedoDisk.seen c.have_frame.new.redo in
    let size : length c.in-Ok.draft ≡ 13 = ap (length {A = ℕ}) c.in-Ok.ensures ∙ length-create c.args.page in
    record {
      made = record {
        absent = c.requires.asked.absent;
        had = had;
        cleared = cleared;
        frame_is = subst (λ (f : ℕ). IsHad old had rows cleared c.args.by f) (sym c.make.ensures.frame) answers.had;
        start = c.in-Ok-append.span.start;
        known = (omega (arith, later.end, span.start), omega (arith, span.end, span.within, size));
        made = c.make.ensures.made;
      };
      inside = inside_below (g.D.PageDisk.seen old.disk).spaces c.args.page c.requires.asked.inside;
      few = few;
      fits = omega (arith, later.end, span.start, span.end, span.within, span.limit, size);
      log = uses_more m (moment had (g.F.Frames.seen c.have_frame.new.frames) mid) n c.args.by _ (λ mark. tt) c.make.ensures.made.entry c.append.ensures.mark answers.sought.log;
      logged = adds_of m.log mid n.log (create_change c.args.page) c.in-Ok.draft c.in-Ok-append.span.start answers.sought.as_long c.in-Ok.ensures put.exact.0 put.exact.1 put.record;
      covered = device_used m mid n.log (ap (λ (d : g.row.R.Denot). (g.R.RedoDisk.seen d).told) c.append.ensures.disk.0) c.append.ensures.mark answers.sought.covered;
    }

pub returns-in-Err-append-clause-keeps : goal.returns-in-Err-append-clause-keeps
returns-in-Err-append-clause-keeps g c =
    let S = g.D.PageDisk.seen in
    let device = g.R.RedoDisk.seen in
    let spent = c.in-Err-append.ensures.spent in
    let same_end : c.in-Err-append.field-0.end ≡ c.in-Err-append.end = c.in-Err-append.end-is in
    let m = moment_of g.F.Frames.seen device c.args.self.now c.args.frames.now c.args.redo.now in
    let t = g.F.Frames.seen c.have_frame.new.frames in
    let had = c.have_frame.new.self.state in
    keeps_on S 2 1 m (moment had t (log_seen device c.append.new.self)) _
    (subst (λ (x : log.State g.row.R.Denot). Proceeds S c.args.by 2 m (moment had t (log_seen device x))) (sym c.in-Err-append.ensures.err) c.have_frame.ensures.keeps)
    (c.refuse.ensures.keeps (log_seen device c.append.new.self) (omega (arith, spent.1, same_end)))

pub returns-in-Err-append-clause-answers : goal.returns-in-Err-append-clause-answers
returns-in-Err-append-clause-answers g c = λ held few.
    let m = moment_of g.F.Frames.seen g.R.RedoDisk.seen c.args.self.now c.args.frames.now c.args.redo.now in
    let n = moment c.refuse.new.self.state (g.F.Frames.seen c.refuse.new.frames) (log_seen g.R.RedoDisk.seen c.append.new.self) in
    let device = g.R.RedoDisk.seen in
    let old = c.args.self.now.state in
    let had = c.have_frame.new.self.state in
    let rows = (g.F.Frames.seen c.args.frames.now).rows in
    let later = c.have_frame.ensures.keeps.later in
    let spent = c.in-Err-append.ensures.spent in
    let same = c.in-Err-append.ensures.err in
    let answers = c.in-Ok-have_frame.ensures.answers in
    let r = c.refuse.ensures.refused in
    let mid = log_seen device c.have_frame.new.redo in
    let same_end : c.in-Err-append.field-0.end ≡ c.in-Err-append.end = c.in-Err-append.end-is in
    let size : length c.in-Ok.draft ≡ 13 = ap (length {A = ℕ}) c.in-Ok.ensures ∙ length-create c.args.page in
    record {
      refused = (
        inside_below (g.D.PageDisk.seen old.disk).spaces c.args.page c.requires.asked.inside,
        few,
        record {
          absent = c.requires.asked.absent;
          had = had;
          frame = c.in-Ok-have_frame.frame;
          frame_is = subst (λ (r : List Row). IsHad old had rows r c.args.by c.in-Ok-have_frame.frame) (sym r.unmoved) answers.had;
          known = (omega (arith, later.end, spent.0, same_end), omega (arith, spent.1, same_end));
          beyond = omega (arith, spent.2, size, same_end);
          entry = r.entry;
          disk = r.disk;
        },
      );
      unused = tt;
      log = uses_more m (moment had (g.F.Frames.seen c.have_frame.new.frames) mid) n c.args.by _ (λ mark. tt) r.entry (ap (λ (x : log.State g.row.R.Denot). x.seen.durable) same) answers.sought.log;
      as_long = ap (λ (x : log.State g.row.R.Denot). x.seen.end) same ∙ answers.sought.as_long;
      covered = device_used m mid n.log (ap (λ (x : log.State g.row.R.Denot). (device x.disk).told) same) (ap (λ (x : log.State g.row.R.Denot). x.seen.durable) same) answers.sought.covered;
    }
