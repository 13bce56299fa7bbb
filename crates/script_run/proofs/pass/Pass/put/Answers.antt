use Rattle.std.proofs.Common.{◌≡◌, [], None, IsSome, rules, refl, ap, ◌∙◌, sym, subst, reverse}
use Rattle.trail.specs.Calls.{newest_fix}
use Rattle.trail.specs.declared.event.Note.{Note}
use Rattle.trail.specs.declared.event.Note.TheVariants as note
use Rattle.trail.specs.declared.event.Call.TheVariants as call
use Rattle.trail.specs.declared.event.Cause.TheVariants as cause
use Rattle.desk.specs.declared.calls.PutErr.{PutErr}
use Rattle.desk.specs.Changes.{IsPutRefusal}
use Rattle.desk.specs.Tied.{IsOwn}
use Rattle.frame_words.specs.Plain.{seen_of}
use Rattle.script_text.specs.declared.script.Command.TheVariants as command
use Rattle.script_run.specs.Work.{Working, Does, noted_at}
use Rattle.script_run.specs.Workers.{working}
use Rattle.script_run.proofs.Framing.{all_told}
use Rattle.script_run.proofs.Along.{along_put, along_spent, held_resident}
use Rattle.page_ids.specs.declared.limits.TheConstants.{ANSWER_NEED}
use Rattle.script_run.proofs.Growing.{me, room_of}
use Rattle.script_run.proofs.Doing.{does_unheld_put, does_put_held, does_spent_held, on_ok}
use Rattle.script_run.proofs.pass.Pass.put.Goals as goal

pub put_at-requires-clause-asked : goal.put_at-requires-clause-asked
put_at-requires-clause-asked g c κs within =
    let some : IsSome (newest_fix (reverse c.args.self.now.fixed.items) c.args.page) = search rules in
    let own : IsOwn (seen_of c.args.frames.now) c.args.desk.now.state c.args.page = search rules in
    record {
      own = own;
      opened = tt;
      resident = held_resident c.args.desk.now.state.history (reverse c.args.self.now.fixed.items) c.args.page c.requires.ready.housed some;
      range = c.requires.range.2;
    }

pub put_at-requires-clause-alone : goal.put_at-requires-clause-alone
put_at-requires-clause-alone g c κs within =
    let seen = g.D.PageDisk.seen in
    all_told seen c.args.desk.now.state c.args.frames.now (reverse c.args.self.now.fixed.items) c.requires.ready

pub returns-then-is_none-clause-done : goal.returns-then-is_none-clause-done
returns-then-is_none-clause-done g c =
    let seen = g.D.PageDisk.seen in
    let w : Working = working c.args.self.now in
    let desk = c.args.desk.now.state in
    let n : Note = note.Refused (call.Put c.args.page c.args.at c.args.bytes.now) cause.Unheld in
    let none : newest_fix w.fixed c.args.page ≡ None = search rules in
    on_ok c.note_unheld_put.result _ _ (λ e o start past so.
    let W : Working → Type 0 = λ after. Does seen o start desk c.args.redo.now.seen after past (command.Put c.args.page c.args.at c.args.bytes.now) in
    subst W (sym (e ∙ ap (λ place. noted_at place w n) c.mark.ensures)) (does_unheld_put seen o start desk c.args.redo.now.seen w past c.args.page c.args.at c.args.bytes.now so none)) c.note_unheld_put.ensures.noted

pub returns-in-Ok-clause-along : goal.returns-in-Ok-clause-along
returns-in-Ok-clause-along g c =
    let seen = g.D.PageDisk.seen in
    along_put seen c.args.desk.now.state c.put_at.new.self.state c.args.frames.now c.put_at.new.frames c.args.redo.now.seen c.put_at.new.redo.seen (working c.args.self.now) c.args.page c.args.at c.args.bytes.now
    c.in-Ok.field-0 c.in-Ok.ensures.answers.done c.in-Ok.ensures.answers.behind (c.put_at.ensures.keeps.rest.tied, c.put_at.ensures.keeps.rest.hands) c.put_at.ensures.keeps.later (c.put_at.ensures.keeps.known c.requires.known)

pub returns-in-Ok-clause-done : goal.returns-in-Ok-clause-done
returns-in-Ok-clause-done g c =
    let seen = g.D.PageDisk.seen in
    let w : Working = working c.args.self.now in
    let some : IsSome (newest_fix w.fixed c.args.page) = search rules in
    λ o start past so. does_put_held seen o start c.args.desk.now.state c.put_at.new.self.state c.args.redo.now.seen c.put_at.new.redo.seen w past c.args.page c.args.at c.args.bytes.now
    (newest_fix w.fixed c.args.page) c.in-Ok.field-0 so refl some c.in-Ok.ensures.answers.done c.in-Ok.ensures.answers.span.0 c.requires.known c.put_at.ensures.keeps.later c.put_at.ensures.keeps.logged
    c.requires.range.2
    (room_of seen o start c.args.desk.now.state c.args.redo.now.seen w past [] ANSWER_NEED so c.requires.places)

pub returns-in-Err-LogSpent-clause-along : goal.returns-in-Err-LogSpent-clause-along
returns-in-Err-LogSpent-clause-along g c =
    let seen = g.D.PageDisk.seen in
    let w : Working = working c.args.self.now in
    let R : PutErr → Type 0 = λ e. IsPutRefusal c.args.desk.now.state c.put_at.new.self.state (me w) c.args.page c.args.at c.args.bytes.now c.args.redo.now.seen.end c.put_at.new.redo.seen.end e in
    let spent = subst R c.in-Err-LogSpent.field-0-is c.in-Err-LogSpent.ensures.answers.refused in
    along_spent seen c.args.desk.now.state c.put_at.new.self.state c.args.frames.now c.put_at.new.frames c.args.redo.now.seen c.put_at.new.redo.seen w c.args.page c.args.at c.args.bytes.now
    _ spent c.in-Err-LogSpent.ensures.answers.unmoved c.in-Err-LogSpent.ensures.answers.behind (c.put_at.ensures.keeps.rest.tied, c.put_at.ensures.keeps.rest.hands) c.put_at.ensures.keeps.later (c.put_at.ensures.keeps.known c.requires.known)

pub returns-in-Err-LogSpent-clause-done : goal.returns-in-Err-LogSpent-clause-done
returns-in-Err-LogSpent-clause-done g c =
    let seen = g.D.PageDisk.seen in
    let w : Working = working c.args.self.now in
    let some : IsSome (newest_fix w.fixed c.args.page) = search rules in
    let R : PutErr → Type 0 = λ e. IsPutRefusal c.args.desk.now.state c.put_at.new.self.state (me w) c.args.page c.args.at c.args.bytes.now c.args.redo.now.seen.end c.put_at.new.redo.seen.end e in
    let spent = subst R c.in-Err-LogSpent.field-0-is c.in-Err-LogSpent.ensures.answers.refused in
    λ o start past so. does_spent_held seen o start c.args.desk.now.state c.put_at.new.self.state c.args.redo.now.seen c.put_at.new.redo.seen w past c.args.page c.args.at c.args.bytes.now
    (newest_fix w.fixed c.args.page) _ so refl some spent c.requires.known c.put_at.ensures.keeps.later c.put_at.ensures.keeps.logged
    (room_of seen o start c.args.desk.now.state c.args.redo.now.seen w past [] ANSWER_NEED so c.requires.places)
