use Rattle.std.proofs.Common.{◌≡◌, ◌<◌, None, Some, length, slice_get, rules, refl, ap, ◌∙◌, sym, subst, reverse}
use Rattle.std.proofs.lemmas.Option.{slice_get_read}
use Rattle.trail.specs.Calls.{newest_fix}
use Rattle.trail.specs.declared.event.Held.{Held}
use Rattle.frame_words.specs.Plain.{Plain}
use Rattle.trail.specs.declared.event.Note.{Note}
use Rattle.trail.specs.declared.event.Note.TheVariants as note
use Rattle.trail.specs.declared.event.Call.TheVariants as call
use Rattle.trail.specs.declared.event.Cause.TheVariants as cause
use Rattle.script_text.specs.declared.script.Command.TheVariants as command
use Rattle.script_run.specs.Work.{Working, Does, Along, noted_at}
use Rattle.script_run.specs.Workers.{working}
use Rattle.script_run.proofs.Along.{along_kept, newest_home, rest_at}
use Rattle.script_run.proofs.Framing.{range_of}
use Rattle.script_run.proofs.Doing.{does_copied, does_unheld_read, on_ok}
use Rattle.script_run.proofs.pass.Pass.read.Goals as goal

pub copied-requires-clause-rest : goal.copied-requires-clause-rest
copied-requires-clause-rest g c =
    let seen = g.D.PageDisk.seen in
    let items = c.args.self.now.fixed.items in
    let h : Held = c.index-held.result.now in
    let read : slice_get items c.in-Some.newest ≡ Some h = slice_get_read items (length items) c.in-Some.newest h refl c.in-Some.ensures.some.0 c.index-held.ensures in
    rest_at seen c.args.desk.now.state c.args.frames.now items c.in-Some.newest h read c.requires.ready

pub copied-requires-clause-range : goal.copied-requires-clause-range
copied-requires-clause-range g c =
    let seen = g.D.PageDisk.seen in
    let desk = c.args.desk.now.state in
    let items = c.args.self.now.fixed.items in
    let h : Held = c.index-held.result.now in
    let read : slice_get items c.in-Some.newest ≡ Some h = slice_get_read items (length items) c.in-Some.newest h refl c.in-Some.ensures.some.0 c.index-held.ensures in
    let resident = newest_home desk.history (reverse items) c.args.page h c.requires.ready.housed (sym c.in-Some.ensures.some.1 ∙ read) in
    range_of seen desk c.args.frames.now (reverse items) h.frame c.args.at c.args.len c.requires.ready (c.requires.ready.homes c.args.page h.frame resident)
    c.requires.range.2.some c.requires.range.2.header c.requires.range.2.trailer

pub returns-in_default : goal.returns-in_default
returns-in_default g c =
    let seen = g.D.PageDisk.seen in
    let w : Working = working c.args.self.now in
    let desk = c.args.desk.now.state in
    let frames = c.args.frames.now in
    let n : Note = note.Refused (call.Read c.args.page c.args.at c.args.len) cause.Unheld in
    let none : newest_fix w.fixed c.args.page ≡ None = search rules in
    record {
      along = on_ok c.note.result _ _ (λ e log.
          let W : Working → Type 0 = λ after. Along seen 1 desk desk frames frames log log w after in
          subst W (sym (e ∙ ap (λ place. noted_at place w n) c.mark-place.ensures)) (along_kept seen desk frames log w n refl)) c.note.ensures.noted;
      done = on_ok c.note.result _ _ (λ e o start log past so stands.
          let W : Working → Type 0 = λ after. Does seen o start desk log after past (command.Read c.args.page c.args.at c.args.len) in
          subst W (sym (e ∙ ap (λ place. noted_at place w n) c.mark-place.ensures)) (does_unheld_read seen o start desk log w past c.args.page c.args.at c.args.len so none)) c.note.ensures.noted;
    }

pub returns : goal.returns
returns g c =
    let seen = g.D.PageDisk.seen in
    let w : Working = working c.args.self.now in
    let desk = c.args.desk.now.state in
    let frames = c.args.frames.now in
    let p = c.args.page in
    let r = c.in-Ok in
    let n : Note = note.Copied p c.args.at r.bytes r.clock in
    let items = c.args.self.now.fixed.items in
    let h : Held = c.index-held.result.now in
    let inside : c.in-Some.newest < length items = c.in-Some.ensures.some.0 in
    let read : slice_get items c.in-Some.newest ≡ Some h = slice_get_read items (length items) c.in-Some.newest h refl inside c.index-held.ensures in
    let newest : newest_fix w.fixed p ≡ Some h = sym c.in-Some.ensures.some.1 ∙ read in
    let resident = newest_home desk.history w.fixed p h c.requires.ready.housed newest in
    let row = c.requires.ready.tied.rows h.frame (rest_at seen desk frames items c.in-Some.newest h read c.requires.ready).inside in
    record {
      along = on_ok c.note-2.result _ _ (λ e log.
          let W : Working → Plain → Type 0 = λ after last. Along seen 1 desk desk frames last log log w after in
          subst (λ last. W (working c.note-2.new.self) last) (sym c.copied.ensures.frames)
          (subst (λ after. W after frames) (sym (e ∙ ap (λ place. noted_at place w n) c.mark-place.ensures)) (along_kept seen desk frames log w n refl))) c.note-2.ensures.noted;
      done = on_ok c.note-2.result _ _ (λ e o start log past so stands.
          let W : Working → Type 0 = λ after. Does seen o start desk log after past (command.Read p c.args.at c.args.len) in
          subst W (sym (e ∙ ap (λ place. noted_at place w n) c.mark-place.ensures))
          (does_copied seen o start desk frames log w past p c.args.at c.args.len h r.bytes r.clock so stands newest resident r.ensures.long r.ensures.bytes (r.ensures.clock ∙ row.clock))) c.note-2.ensures.noted;
    }
