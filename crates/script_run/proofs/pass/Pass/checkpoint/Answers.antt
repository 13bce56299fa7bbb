use Rattle.frame_words.specs.Plain.{seen_of}
use Rattle.script_run.specs.Workers.{working}
use Rattle.script_run.proofs.Along.{along_checked}
use Rattle.page_ids.specs.declared.limits.TheConstants.{ANSWER_NEED}
use Rattle.std.proofs.Common.{[]}
use Rattle.script_run.proofs.Growing.{room_of}
use Rattle.script_run.proofs.Cleaning.{does_check}
use Rattle.script_run.proofs.pass.Pass.checkpoint.Goals as goal

pub returns-in-Ok-clause-along : goal.returns-in-Ok-clause-along
returns-in-Ok-clause-along g c = λ frames.
    let seen = g.D.PageDisk.seen in
    along_checked seen c.args.desk.now.state c.check_at.new.self.state frames c.args.redo.now.seen (working c.args.self.now) c.in-Ok.field-0
    c.in-Ok.ensures.answers.checked (λ o was. c.in-Ok.ensures.answers.behind o (seen_of frames) was) (λ was. (c.in-Ok.ensures.answers.tied (seen_of frames) was.0, c.in-Ok.ensures.answers.hands was.1)) c.in-Ok.ensures.answers.known

pub returns-in-Ok-clause-done : goal.returns-in-Ok-clause-done
returns-in-Ok-clause-done g c = λ o start past so.
    let seen = g.D.PageDisk.seen in
    does_check seen o start c.args.desk.now.state c.check_at.new.self.state c.args.redo.now.seen (working c.args.self.now) past c.in-Ok.field-0
    so c.in-Ok.ensures.answers.checked c.requires.known c.in-Ok.ensures.answers.logged (room_of seen o start c.args.desk.now.state c.args.redo.now.seen (working c.args.self.now) past [] ANSWER_NEED so c.requires.places)
