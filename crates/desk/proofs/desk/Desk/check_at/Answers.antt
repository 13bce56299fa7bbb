use Rattle.std.proofs.Common.{arith, refl, ap, ◌∙◌}
use Rattle.desk.specs.State.{State}
use Rattle.desk.proofs.Checking.{checked_is, checked_tied, checked_behind, checked_logged, checked_end}
use Rattle.desk.proofs.Hands.{hands_on}
use Rattle.desk.proofs.desk.Desk.check_at.Goals as goal

pub returns-clause-answers : goal.returns-clause-answers
returns-clause-answers g c =
    let S = g.D.PageDisk.seen in
    let old = c.args.self.now.state in
    let new = c.append_check.new.self.state in
    let by = c.args.by in
    let lsn = c.checkpoint-lsn.result in
    let is = checked_is old c.room_for.new.self.state new by c.args.redo.now.seen.end lsn c.room_for.ensures.same c.checkpoint-lsn.ensures.lsn c.append_check.ensures.appended c.append_check.ensures.disk in
    record {
      checked = is;
      logged = checked_logged c.args.redo.now.seen old new by lsn is.entry c.checkpoint-lsn.ensures.early;
      known = (let same = checked_end old new by lsn is.entry in omega (arith, same, c.requires.known));
      tied = λ s tied. checked_tied S s old new by lsn is.entry is.disk tied;
      hands = hands_on old new by _ is.entry (λ b. refl);
      behind = λ o s before. checked_behind S o s old new by lsn is.entry is.disk before;
    }

pub returns-clause-disk : goal.returns-clause-disk
returns-clause-disk g c = c.append_check.ensures.disk ∙ ap (λ (x : State g.row.D.Denot). x.disk) c.room_for.ensures.same
