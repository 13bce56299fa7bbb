use Rattle.std.proofs.Common.{◌≡◌, ◌<◌, ◌∷◌, ℕ, List, [], length, refl, ap, sym, subst, arith}
use Rattle.trail.specs.declared.event.Entry.{Entry}
use Rattle.trail.specs.declared.event.Kind.{Kind}
use Rattle.trail.specs.declared.event.Kind.TheVariants as kind
use Rattle.trail.specs.Dirt.{log_end}
use Rattle.frame_words.specs.Rows.{Row}
use Rattle.desk.specs.Changes.{covered_to}
use Rattle.desk.specs.Logged.{IsLogged}
use Rattle.desk.specs.State.{State}
use Rattle.desk.specs.Steps.{next_entry}
use Rattle.desk.specs.Victims.{AreSettled}
use Rattle.desk.specs.Writing.{IsLeftAt}
use Rattle.desk.proofs.Changing.{grown_mid, written_lsn, write_may, write_lay, write_clock, write_kept, fail_kept}
use Rattle.desk.proofs.Cleaning.{front_dirty, marked_write}
use Rattle.desk.proofs.Coming.{follows_row, follows_one, follows_on, came_none, came_one, came_on}
use Rattle.desk.proofs.Evicting.{forced_on, leaves_more}
use Rattle.desk.proofs.Flushing.{leaves_written}
use Rattle.desk.proofs.Hands.{hands_on, hands_still}
use Rattle.desk.proofs.Logging.{logged_later}
use Rattle.desk.proofs.desk.Desk.write_back.Goals as goal

pub write_out-requires-clause-known : goal.write_out-requires-clause-known
write_out-requires-clause-known g c κs within =
    let first = c.requires.first in
    let known = c.requires.ready.known in
    let logged = first.logged in
    let lsn = written_lsn g.D.PageDisk.seen (g.F.Frames.seen c.args.frames.now) (g.F.Frames.seen c.take_image-image.new.frames) c.args.self.now.state c.args.by c.args.oldest.page c.frame_of-frame.result c.take_image-image.result
    c.requires.ready.rest.tied c.requires.alone c.frame_of-frame.ensures.home c.frame_of-frame.ensures.below c.frame_of-frame.ensures.only c.take_image-image.ensures.image c.take_image-image.ensures.seen
    c.args.oldest first.rest first.first_is refl in
    omega (arith, lsn, logged, known)

pub append-requires-clause-frames : goal.append-requires-clause-frames
append-requires-clause-frames g c κs within =
    write_may g.D.PageDisk.seen (g.F.Frames.seen c.args.frames.now) (g.F.Frames.seen c.take_image-image.new.frames) c.args.self.now.state c.args.by c.args.oldest.page c.frame_of-frame.result c.take_image-image.result
    c.requires.ready.rest.tied c.requires.alone c.frame_of-frame.ensures.home c.frame_of-frame.ensures.below c.frame_of-frame.ensures.only c.take_image-image.ensures.image c.take_image-image.ensures.seen
    c.args.oldest.newest c.in-Ok.upto c.write_out.new.self.state (ap (λ x. x.state) c.write_out.ensures.kept) c.requires.ready.turn

pub give_image-requires-clause-may : goal.give_image-requires-clause-may
give_image-requires-clause-may g c =
    write_lay g.D.PageDisk.seen (g.F.Frames.seen c.args.frames.now) (g.F.Frames.seen c.take_image-image.new.frames) c.args.self.now.state c.args.by c.args.oldest.page c.frame_of-frame.result c.take_image-image.result
    c.requires.ready.rest.tied c.requires.alone c.frame_of-frame.ensures.home c.frame_of-frame.ensures.below c.frame_of-frame.ensures.only c.take_image-image.ensures.image c.take_image-image.ensures.seen
    c.args.oldest.newest c.in-Ok.upto c.write_out.new.self.state (g.F.Frames.seen c.append.new.frames) (ap (λ x. x.state) c.write_out.ensures.kept) c.append.ensures.seen

pub give_image-requires-clause-clock : goal.give_image-requires-clause-clock
give_image-requires-clause-clock g c =
    write_clock g.D.PageDisk.seen (g.F.Frames.seen c.args.frames.now) (g.F.Frames.seen c.take_image-image.new.frames) c.args.self.now.state c.args.by c.args.oldest.page c.frame_of-frame.result c.take_image-image.result
    c.requires.ready.rest.tied c.requires.alone c.frame_of-frame.ensures.home c.frame_of-frame.ensures.below c.frame_of-frame.ensures.only c.take_image-image.ensures.image c.take_image-image.ensures.seen
    c.args.oldest.newest c.in-Ok.upto c.write_out.new.self.state (g.F.Frames.seen c.append.new.frames) (ap (λ x. x.state) c.write_out.ensures.kept) c.append.ensures.seen

pub returns-in-Ok-clause-answers : goal.returns-in-Ok-clause-answers
returns-in-Ok-clause-answers g c =
    let k : Kind = kind.Write c.args.oldest.page c.args.oldest.newest c.in-Ok.upto in
    let old : State g.row.D.Denot = c.args.self.now.state in
    let mid = c.write_out.new.self.state in
    let first = c.requires.first in
    let durable = c.args.redo.now.seen.durable in
    let end = c.args.redo.now.seen.end in
    let now = c.write_out.new.redo.seen.durable in
    let wrote = c.in-Ok.ensures.answers in
    let covered = wrote.covered in
    let lsn = written_lsn g.D.PageDisk.seen (g.F.Frames.seen c.args.frames.now) (g.F.Frames.seen c.take_image-image.new.frames) old c.args.by c.args.oldest.page c.frame_of-frame.result c.take_image-image.result
    c.requires.ready.rest.tied c.requires.alone c.frame_of-frame.ensures.home c.frame_of-frame.ensures.below c.frame_of-frame.ensures.only c.take_image-image.ensures.image c.take_image-image.ensures.seen
    c.args.oldest first.rest first.first_is refl in
    let grown = grown_mid old mid c.append.new.self.state mid.disk c.args.by k (ap (λ x. x.state) c.write_out.ensures.kept) c.append.ensures.appended in
    record {
      back = record { oldest = c.args.oldest; rest = first.rest; upto = c.in-Ok.upto; first_is = first.first_is; covered = omega (arith, lsn, covered); entry = grown };
      marked = marked_write durable end now old.config.first c.args.by old.history c.append.new.self.state.history c.args.oldest.page c.args.oldest.newest c.in-Ok.upto
          (subst (λ (n : ℕ). now ≡ covered_to durable end n) lsn wrote.mark_is) wrote.upto_is grown;
    }

pub returns-in-Err-clause-answers : goal.returns-in-Err-clause-answers
returns-in-Err-clause-answers g c =
    let mark = c.write_out.new.redo.seen.durable in
    let first = c.requires.first in
    let failed = c.in-Err.ensures.answers in
    let lsn = written_lsn g.D.PageDisk.seen (g.F.Frames.seen c.args.frames.now) (g.F.Frames.seen c.take_image-image.new.frames) c.args.self.now.state c.args.by c.args.oldest.page c.frame_of-frame.result c.take_image-image.result
    c.requires.ready.rest.tied c.requires.alone c.frame_of-frame.ensures.home c.frame_of-frame.ensures.below c.frame_of-frame.ensures.only c.take_image-image.ensures.image c.take_image-image.ensures.seen
    c.args.oldest first.rest first.first_is refl in
    record {
      still = ap (λ x. x.state.history) c.write_out.ensures.kept;
      fault = failed.fault;
      forced = forced_on c.args.self.now.state.disk c.write_out.new.self.state.disk c.in-Err.error (λ lt. subst (λ (n : ℕ). mark < n) lsn lt) failed.forced;
      left = subst (λ (n : ℕ). IsLeftAt c.args.redo.now.seen.durable c.args.redo.now.seen.end n mark c.in-Err.error) lsn failed.left;
    }

pub returns-in-Ok-clause-left : goal.returns-in-Ok-clause-left
returns-in-Ok-clause-left g c =
    let laws = g.met.D.PageDisk g.world.𝓛 g.world.𝓜 g.world.𝓡 ((λ s x. x), (λ x. x), (λ x. x), λ x. x) in
    let kept = write_kept g.D.PageDisk.seen (g.F.Frames.seen c.args.frames.now) (g.F.Frames.seen c.take_image-image.new.frames) c.args.self.now.state c.args.by c.args.oldest.page c.frame_of-frame.result c.take_image-image.result
    c.requires.ready.rest.tied c.requires.alone c.frame_of-frame.ensures.home c.frame_of-frame.ensures.below c.frame_of-frame.ensures.only c.take_image-image.ensures.image c.take_image-image.ensures.seen
    c.args.oldest.newest c.in-Ok.upto c.write_out.new.self.state c.append.new.self.state
    (g.F.Frames.seen c.append.new.frames) (g.F.Frames.seen c.give_image.new.frames) (ap (λ x. x.state) c.write_out.ensures.kept) c.write_out.ensures.others c.in-Ok.ensures.answers.told
    (λ silent. laws.silent c.write_out.new.self.state.disk c.args.oldest.page silent) c.append.ensures.seen c.give_image.ensures.seen c.append.ensures.appended c.append.ensures.disk in
    record { unmoved = kept.rows; turn = kept.turn c.requires.ready.turn; end = c.write_out.ensures.log.end; behind = kept.behind }

pub returns-in-Ok-clause-keeps : goal.returns-in-Ok-clause-keeps
returns-in-Ok-clause-keeps g c =
    let laws = g.met.D.PageDisk g.world.𝓛 g.world.𝓜 g.world.𝓡 ((λ s x. x), (λ x. x), (λ x. x), λ x. x) in
    let P = g.D.PageDisk in
    let old : State g.row.D.Denot = c.args.self.now.state in
    let mid = c.write_out.new.self.state in
    let new = c.append.new.self.state in
    let a = c.append.ensures in
    let log = c.write_out.ensures.log in
    let rest = c.requires.ready.rest in
    let still = ap (λ x. x.state) c.write_out.ensures.kept in
    let k : Kind = kind.Write c.args.oldest.page c.args.oldest.newest c.in-Ok.upto in
    let grown : new.history ≡ next_entry old c.args.by k ∷ old.history = grown_mid old mid new mid.disk c.args.by k still a.appended in
    let kept = write_kept P.seen (g.F.Frames.seen c.args.frames.now) (g.F.Frames.seen c.take_image-image.new.frames) old c.args.by c.args.oldest.page c.frame_of-frame.result c.take_image-image.result
    rest.tied c.requires.alone c.frame_of-frame.ensures.home c.frame_of-frame.ensures.below c.frame_of-frame.ensures.only c.take_image-image.ensures.image c.take_image-image.ensures.seen
    c.args.oldest.newest c.in-Ok.upto mid new
    (g.F.Frames.seen c.append.new.frames) (g.F.Frames.seen c.give_image.new.frames) still c.write_out.ensures.others c.in-Ok.ensures.answers.told
    (λ silent. laws.silent mid.disk c.args.oldest.page silent) a.seen c.give_image.ensures.seen a.appended a.disk in
    let upto = c.in-Ok.ensures.answers.upto_is in
    let history : mid.history ≡ old.history = ap (λ x. x.state.history) c.write_out.ensures.kept in
    let s = g.F.Frames.seen c.args.frames.now in
    let t = g.F.Frames.seen c.take_image-image.new.frames in
    let v = g.F.Frames.seen c.append.new.frames in
    let u = g.F.Frames.seen c.give_image.new.frames in
    let e = next_entry mid c.args.by k in
    record {
      count = let n = ap (length {A = Entry}) grown in omega (arith, n);
      rest = record { tied = kept.tied; settled = subst (λ (r : List Row). AreSettled r) (sym kept.rows) rest.settled; hands = hands_on mid new c.args.by k a.appended (λ b. refl) (hands_still old mid (ap (λ x. x.config) still) history rest.hands) };
      desk = leaves_more P.seen old mid new (leaves_written P.seen old mid c.args.oldest.page still c.write_out.ensures.others) a.appended.config a.appended.instance a.disk;
      came = came_on old mid new s t u (came_none old mid s t history (follows_row s t c.frame_of-frame.result _ c.take_image-image.ensures.seen))
          (came_one mid new t u c.args.by k a.appended (follows_on (e ∷ []) [] t v u (follows_one t v e a.seen) (follows_row v u c.frame_of-frame.result _ c.give_image.ensures.seen)));
      later = log.later;
      opening = log.opening;
      kept = λ before. log.kept;
      logged = λ before. subst (λ (h : List Entry). IsLogged c.write_out.new.redo.seen h) (sym grown)
          (omega (arith, upto), logged_later c.args.redo.now.seen c.write_out.new.redo.seen old.history log.later before);
      known = λ before. let ends = ap log_end grown in let end = log.end in omega (arith, ends, end, before);
      behind = λ o based before. kept.behind o before;
    }

pub returns-in-Err-clause-left : goal.returns-in-Err-clause-left
returns-in-Err-clause-left g c =
    let first = c.requires.first in
    let kept = fail_kept g.D.PageDisk.seen (g.F.Frames.seen c.args.frames.now) (g.F.Frames.seen c.take_image-image.new.frames) c.args.self.now.state c.args.by c.args.oldest.page c.frame_of-frame.result c.take_image-image.result
    c.requires.ready.rest.tied c.requires.alone c.frame_of-frame.ensures.home c.frame_of-frame.ensures.below c.frame_of-frame.ensures.only c.take_image-image.ensures.image c.take_image-image.ensures.seen
    c.write_out.new.self.state (g.F.Frames.seen c.give_image-in-Err.new.frames) (ap (λ x. x.state) c.write_out.ensures.kept)
    (front_dirty c.args.self.now.state.history c.args.oldest first.rest first.first_is) c.write_out.ensures.others c.in-Err.ensures.answers.fades c.give_image-in-Err.ensures.seen in
    record { unmoved = kept.rows; turn = kept.turn c.requires.ready.turn; end = c.write_out.ensures.log.end; behind = kept.behind }

pub returns-in-Err-clause-keeps : goal.returns-in-Err-clause-keeps
returns-in-Err-clause-keeps g c =
    let P = g.D.PageDisk in
    let old : State g.row.D.Denot = c.args.self.now.state in
    let mid = c.write_out.new.self.state in
    let first = c.requires.first in
    let log = c.write_out.ensures.log in
    let rest = c.requires.ready.rest in
    let still = ap (λ x. x.state) c.write_out.ensures.kept in
    let history : mid.history ≡ old.history = ap (λ x. x.state.history) c.write_out.ensures.kept in
    let kept = fail_kept P.seen (g.F.Frames.seen c.args.frames.now) (g.F.Frames.seen c.take_image-image.new.frames) old c.args.by c.args.oldest.page c.frame_of-frame.result c.take_image-image.result
    rest.tied c.requires.alone c.frame_of-frame.ensures.home c.frame_of-frame.ensures.below c.frame_of-frame.ensures.only c.take_image-image.ensures.image c.take_image-image.ensures.seen
    mid (g.F.Frames.seen c.give_image-in-Err.new.frames) still
    (front_dirty old.history c.args.oldest first.rest first.first_is) c.write_out.ensures.others c.in-Err.ensures.answers.fades c.give_image-in-Err.ensures.seen in
    let s = g.F.Frames.seen c.args.frames.now in
    let t = g.F.Frames.seen c.take_image-image.new.frames in
    let u = g.F.Frames.seen c.give_image-in-Err.new.frames in
    record {
      count = let e = ap (length {A = Entry}) history in omega (arith, e);
      rest = record { tied = kept.tied; settled = subst (λ (r : List Row). AreSettled r) (sym kept.rows) rest.settled; hands = hands_still old mid (ap (λ x. x.config) still) history rest.hands };
      desk = leaves_written P.seen old mid c.args.oldest.page still c.write_out.ensures.others;
      came = came_none old mid s u history
          (follows_on [] [] s t u (follows_row s t c.frame_of-frame.result _ c.take_image-image.ensures.seen) (follows_row t u c.frame_of-frame.result _ c.give_image-in-Err.ensures.seen));
      later = log.later;
      opening = log.opening;
      kept = λ before. log.kept;
      logged = λ before. subst (λ (h : List Entry). IsLogged c.write_out.new.redo.seen h) (sym history) (logged_later c.args.redo.now.seen c.write_out.new.redo.seen old.history log.later before);
      known = λ before. let ends = ap log_end history in let end = log.end in omega (arith, ends, end, before);
      behind = λ o based before. kept.behind o before;
    }

pub returns-in-Ok-clause-room : goal.returns-in-Ok-clause-room
returns-in-Ok-clause-room g c =
    let was : c.write_out.new.self.room ≡ c.args.self.now.room = ap (λ x. x.room) c.write_out.ensures.kept in
    let same : length c.write_out.new.self.state.history ≡ length c.args.self.now.state.history = ap (λ x. length x.state.history) c.write_out.ensures.kept in
    let one = ap (length {A = Entry}) c.append.ensures.appended.history in
    let room = c.append.ensures.room in
    omega (arith, was, same, one, room)

pub returns-in-Err-clause-room : goal.returns-in-Err-clause-room
returns-in-Err-clause-room g c =
    let was : c.write_out.new.self.room ≡ c.args.self.now.room = ap (λ x. x.room) c.write_out.ensures.kept in
    let same : length c.write_out.new.self.state.history ≡ length c.args.self.now.state.history = ap (λ x. length x.state.history) c.write_out.ensures.kept in
    omega (arith, was, same)

pub returns-in-Ok-clause-idle : goal.returns-in-Ok-clause-idle
returns-in-Ok-clause-idle g c = λ le.
    let first = c.requires.first in
    let lsn = written_lsn g.D.PageDisk.seen (g.F.Frames.seen c.args.frames.now) (g.F.Frames.seen c.take_image-image.new.frames) c.args.self.now.state c.args.by c.args.oldest.page c.frame_of-frame.result c.take_image-image.result
    c.requires.ready.rest.tied c.requires.alone c.frame_of-frame.ensures.home c.frame_of-frame.ensures.below c.frame_of-frame.ensures.only c.take_image-image.ensures.image c.take_image-image.ensures.seen
    c.args.oldest first.rest first.first_is refl in
    c.write_out.ensures.idle (omega (arith, lsn, le))

pub returns-in-Err-clause-idle : goal.returns-in-Err-clause-idle
returns-in-Err-clause-idle g c = λ le.
    let first = c.requires.first in
    let lsn = written_lsn g.D.PageDisk.seen (g.F.Frames.seen c.args.frames.now) (g.F.Frames.seen c.take_image-image.new.frames) c.args.self.now.state c.args.by c.args.oldest.page c.frame_of-frame.result c.take_image-image.result
    c.requires.ready.rest.tied c.requires.alone c.frame_of-frame.ensures.home c.frame_of-frame.ensures.below c.frame_of-frame.ensures.only c.take_image-image.ensures.image c.take_image-image.ensures.seen
    c.args.oldest first.rest first.first_is refl in
    c.write_out.ensures.idle (omega (arith, lsn, le))
