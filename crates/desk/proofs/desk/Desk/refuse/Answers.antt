use Rattle.std.proofs.Common.{ap, sym, subst}
use Rattle.frame_words.specs.Seen.{FramesSeen}
use Rattle.trail.specs.declared.event.Kind.TheVariants as kind
use Rattle.desk.specs.Victims.{AreSettled}
use Rattle.desk.proofs.Asking.{may_refuse, no_words}
use Rattle.desk.proofs.Coming.{follows_one}
use Rattle.desk.proofs.Hands.{hands_refused}
use Rattle.desk.proofs.Loading.{behind_on, behind_refused}
use Rattle.desk.proofs.Moments.{keeps_entry}
use Rattle.desk.proofs.Tying.{tied_on, tied_refused}
use Rattle.desk.proofs.desk.Desk.refuse.Goals as goal

pub append-requires-clause-frames : goal.append-requires-clause-frames
append-requires-clause-frames g c = λ κs within.
    let s = g.F.Frames.seen c.args.frames.now in
    let asked = c.requires.asked in
    may_refuse g.D.PageDisk.seen s c.args.self.now.state c.args.by c.args.page c.args.call c.args.cause c.requires.rest.tied asked.turn asked.own asked.for_page asked.may.fits (no_words s c.args.call c.args.cause asked.may.words)

pub returns-clause-refused : goal.returns-clause-refused
returns-clause-refused g c = record {
  entry = c.append.ensures.appended;
  unmoved = ap (λ (u : FramesSeen). u.rows) c.append.ensures.seen;
  disk = c.append.ensures.disk;
}

pub returns-clause-keeps : goal.returns-clause-keeps
returns-clause-keeps g c = λ l logged.
    let P = g.D.PageDisk in
    let old = c.args.self.now.state in
    let new = c.append.new.self.state in
    let k = kind.Refused c.args.call c.args.cause in
    let s = g.F.Frames.seen c.args.frames.now in
    let t = g.F.Frames.seen c.append.new.frames in
    let a = c.append.ensures in
    keeps_entry P.seen old new s t l c.args.by k a.appended a.disk logged (λ is. is)
    (record {
      tied = tied_on P.seen old new c.args.by k t _ a.appended a.disk a.seen (tied_refused P.seen old.config old.instance old.history old.disk s c.args.by c.args.call c.args.cause c.requires.rest.tied);
      settled = subst AreSettled (sym (ap (λ (u : FramesSeen). u.rows) a.seen)) c.requires.rest.settled;
      hands = hands_refused old new c.args.by c.args.call c.args.cause a.appended c.requires.rest.hand c.requires.hands;
    })
    (follows_one s t _ a.seen)
    (λ o based before. behind_on P.seen o old new c.args.by k t _ a.appended a.disk a.seen (behind_refused P.seen o old.config old.instance old.history old.disk s c.args.by c.args.call c.args.cause before))
