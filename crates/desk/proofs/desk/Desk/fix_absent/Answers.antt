use Rattle.std.proofs.Common.{◌<◌, ℕ, List, Bool, cond, Some, length, refl, ap, ◌∙◌, sym, subst, arith, inr}
use Rattle.std.specs.Option.{is_some}
use Rattle.page_ids.specs.declared.config.Config.{Config}
use Rattle.trail.specs.declared.event.Entry.{Entry}
use Rattle.trail.specs.History.{home}
use Rattle.desk.specs.Answers.{Unfixed}
use Rattle.desk.specs.Moments.{moment_of, log_seen}
use Rattle.desk.specs.Steps.{IsLoaded, IsLoadRefusal, IsUnsound}
use Rattle.desk.specs.Victims.{IsHad}
use Rattle.desk.specs.declared.calls.FixErr.{FixErr}
use Rattle.desk.proofs.Behind.{read_none, read_value}
use Rattle.instance_lists.proofs.Dirt.{same_self}
use Rattle.desk.proofs.Fixing.{had_value, needs_a_frame, unread_refused, unlogged_load}
use Rattle.desk.proofs.Loading.{inside_below}
use Rattle.desk.proofs.Moments.{keeps_ended, keeps_most, keeps_on, places_on, take_on, uses_more, uses_one, unhad_fixed}
use Rattle.desk.proofs.desk.Desk.fix_absent.Goals as goal

pub load-requires-clause-entries : goal.load-requires-clause-entries
load-requires-clause-entries g c = λ κs within.
    let room = c.in-Ok.ensures.room in
    let had = c.requires.entries.room in
    let places = places_on g.D.PageDisk.seen 2 2 _ _ c.have_frame.ensures.keeps c.requires.entries.places in
    record { places = omega (arith, places); room = omega (arith, room, had) }

pub load-requires-clause-asked : goal.load-requires-clause-asked
load-requires-clause-asked g c = λ κs within. take_on g.D.PageDisk.seen 2 _ _ c.args.by c.args.page c.in-Ok.frame c.in-Ok.ensures.answers c.have_frame.ensures.keeps c.requires.asked

pub grant-requires-clause-entries : goal.grant-requires-clause-entries
grant-requires-clause-entries g c = λ κs within.
    let S = g.D.PageDisk.seen in
    let first = c.in-Ok.ensures.room in
    let second = c.in-Ok-load.ensures.room in
    let all = c.requires.entries.room in
    record {
      places = places_on S 3 1 _ _ (keeps_on S 2 1 _ _ _ c.have_frame.ensures.keeps (c.load.ensures.keeps (log_seen g.R.RedoDisk.seen c.have_frame.new.redo))) c.requires.entries.places;
      room = omega (arith, first, second, all);
    }

pub grant-requires-clause-rest : goal.grant-requires-clause-rest
grant-requires-clause-rest g c = λ κs within. (c.load.ensures.keeps (log_seen g.R.RedoDisk.seen c.have_frame.new.redo)).rest

pub grant-requires-clause-resident : goal.grant-requires-clause-resident
grant-requires-clause-resident g c = λ κs within.
    let p = c.args.page in
    let f = c.in-Ok.frame in
    let had = c.have_frame.new.self.state.history in
    ap (λ (h : List Entry). home h p) c.in-Ok-load.ensures.loaded.loaded.entry.history ∙ ap (λ (b : Bool). cond b (Some f) (home had p)) (same_self p)

pub grant-requires-clause-below : goal.grant-requires-clause-below
grant-requires-clause-below g c = λ κs within.
    subst (λ (x : Config). c.in-Ok.frame < x.frames) (sym (c.load.ensures.keeps (log_seen g.R.RedoDisk.seen c.have_frame.new.redo)).desk.config) c.in-Ok.ensures.answers.next.below

pub grant-requires-clause-fix : goal.grant-requires-clause-fix
grant-requires-clause-fix g c = λ κs within.
    let f = c.in-Ok.frame in
    let below : f < c.args.self.now.state.config.frames = subst (λ (x : Config). f < x.frames) c.have_frame.ensures.keeps.desk.config c.in-Ok.ensures.answers.next.below in
    let whole = c.requires.ready.rest.tied.whole in
    let inside : f < length (g.F.Frames.seen c.args.frames.now).rows = omega (arith, below, whole) in
    let first = c.requires.fixes f inside in
    let next = c.have_frame.ensures.fixes f in
    let last = c.in-Ok-load.ensures.fixes f in
    omega (arith, first, next, last)

pub returns-in-Err-clause-keeps : goal.returns-in-Err-clause-keeps
returns-in-Err-clause-keeps g c = keeps_most g.D.PageDisk.seen 2 4 _ _ (omega arith) (keeps_ended g.D.PageDisk.seen 2 _ _ c.args.by c.have_frame.ensures.keeps c.in-Err.ensures.answers.hands)

pub returns-in-Err-clause-answers : goal.returns-in-Err-clause-answers
returns-in-Err-clause-answers g c = λ held few.
    let m = moment_of g.F.Frames.seen g.R.RedoDisk.seen c.args.self.now c.args.frames.now c.args.redo.now in
    let n = moment_of g.F.Frames.seen g.R.RedoDisk.seen c.have_frame.new.self c.have_frame.new.frames c.have_frame.new.redo in
    subst (λ (e : FixErr). Unfixed g.D.PageDisk.seen m n c.args.by held c.args.page c.args.now e) (sym c.fix_err.ensures)
    (unhad_fixed g.D.PageDisk.seen m n c.args.by held c.args.page c.args.now c.in-Err.error few c.requires.asked c.in-Err.ensures.answers)

pub returns-in-Err-load-clause-keeps : goal.returns-in-Err-load-clause-keeps
returns-in-Err-load-clause-keeps g c =
    let S = g.D.PageDisk.seen in
    keeps_most S 3 4 _ _ (omega arith) (keeps_on S 2 1 _ _ _ c.have_frame.ensures.keeps (c.load.ensures.keeps (log_seen g.R.RedoDisk.seen c.have_frame.new.redo)))

pub returns-in-Err-load-clause-answers : goal.returns-in-Err-load-clause-answers
returns-in-Err-load-clause-answers g c = λ held few.
    let S = g.D.PageDisk.seen in
    let m = moment_of g.F.Frames.seen g.R.RedoDisk.seen c.args.self.now c.args.frames.now c.args.redo.now in
    let h = moment_of g.F.Frames.seen g.R.RedoDisk.seen c.have_frame.new.self c.have_frame.new.frames c.have_frame.new.redo in
    let n = moment_of g.F.Frames.seen g.R.RedoDisk.seen c.load.new.self c.load.new.frames c.have_frame.new.redo in
    let keeps = c.have_frame.ensures.keeps in
    let had = c.in-Ok.ensures.answers in
    let p = c.args.page in
    let by = c.args.by in
    let e = c.in-Err-load.refusal in
    let un = c.in-Err-load.ensures.refused in
    let within = inside_below (S m.desk.disk).spaces p c.requires.asked.inside in
    let may = take_on S 2 m h by p c.in-Ok.frame had keeps c.requires.asked in
    record {
      refused = unread_refused S m.desk h.desk n.desk m.frames.rows h.frames.rows n.frames.rows by held p c.args.now m.log.seen.durable m.log.seen.faults n.log.seen.faults c.in-Ok.frame e within few
          c.requires.asked.absent keeps.desk.later had.sought.page_told had.had c.in-Err-load.ensures.unmoved un;
      log = uses_one m h n c.load.ensures.more refl had.sought.log;
      as_long = had.sought.as_long;
      idle = needs_a_frame S m.desk held p c.requires.asked.absent within few had.sought.free;
      covered = had.sought.covered;
      unused = unlogged_load S h.desk n.desk by p c.args.now m.log n.log e un;
      unsound = λ o bad before is.
          let unsound : IsUnsound S h.desk n.desk by p c.args.now bad = subst (λ (x : FixErr). IsLoadRefusal S h.desk n.desk by p c.args.now x) is un in
          sym (had_value m.desk h.desk m.frames.rows h.frames.rows by c.in-Ok.frame o.size o.base p had.had)
          ∙ read_none S o h.desk h.frames p unsound.read.bytes bad (had.sought.behind o before) (inside_below (S h.desk.disk).spaces p may.inside) may.clean unsound.read.known unsound.read.because;
    }

pub returns-in-Ok-load-clause-keeps : goal.returns-in-Ok-load-clause-keeps
returns-in-Ok-load-clause-keeps g c =
    let S = g.D.PageDisk.seen in
    let l = log_seen g.R.RedoDisk.seen c.have_frame.new.redo in
    keeps_on S 3 1 _ _ _ (keeps_on S 2 1 _ _ _ c.have_frame.ensures.keeps (c.load.ensures.keeps l)) (c.grant.ensures.keeps l)

pub returns-in-Ok-load-clause-answers : goal.returns-in-Ok-load-clause-answers
returns-in-Ok-load-clause-answers g c = λ held few.
    let S = g.D.PageDisk.seen in
    let m = moment_of g.F.Frames.seen g.R.RedoDisk.seen c.args.self.now c.args.frames.now c.args.redo.now in
    let h = moment_of g.F.Frames.seen g.R.RedoDisk.seen c.have_frame.new.self c.have_frame.new.frames c.have_frame.new.redo in
    let n = moment_of g.F.Frames.seen g.R.RedoDisk.seen c.load.new.self c.load.new.frames c.have_frame.new.redo in
    let had = c.in-Ok.ensures.answers in
    let p = c.args.page in
    let by = c.args.by in
    let within = inside_below (S m.desk.disk).spaces p c.requires.asked.inside in
    let may = take_on S 2 m h by p c.in-Ok.frame had c.have_frame.ensures.keeps c.requires.asked in
    let loaded = c.in-Ok-load.ensures.loaded.loaded in
    record {
      granted = inr (record {
        absent = c.requires.asked.absent;
        had = h.desk;
        cleared = h.frames.rows;
        mid = n.desk;
        between = n.frames.rows;
        frame_is = subst (λ (f : ℕ). IsHad m.desk h.desk m.frames.rows h.frames.rows by f) (sym c.grant.ensures.frame) had.had;
        page_told = had.sought.page_told;
        loaded = subst (λ (f : ℕ). IsLoaded S h.desk n.desk h.frames.rows n.frames.rows by p f) (sym c.grant.ensures.frame) loaded;
        hit = c.grant.ensures.hit;
      });
      inside = within;
      few = few;
      log = uses_more m n _ by _ (λ mark. tt) c.grant.ensures.hit.entry refl (uses_one m h n c.load.ensures.more refl had.sought.log);
      as_long = had.sought.as_long;
      idle = needs_a_frame S m.desk held p c.requires.asked.absent within few had.sought.free;
      covered = had.sought.covered;
      valued = λ o before.
          ap is_some (sym (had_value m.desk h.desk m.frames.rows h.frames.rows by c.in-Ok.frame o.size o.base p had.had)
          ∙ read_value S o h.desk h.frames p loaded.content (had.sought.behind o before) (inside_below (S h.desk.disk).spaces p may.inside) may.clean loaded.read);
    }
