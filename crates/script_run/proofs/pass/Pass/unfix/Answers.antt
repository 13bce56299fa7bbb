use Rattle.std.proofs.Common.{◌≡◌, ◌<◌, ◌++◌, None, Some, length, take, drop, suc, slice_get, rules, refl, ap, ◌∙◌, sym, subst, reverse, remove}
use Rattle.std.proofs.lemmas.Option.{slice_get_read}
use Rattle.trail.specs.Calls.{newest_fix, given_back}
use Rattle.frame_words.specs.Plain.{Plain}
use Rattle.trail.specs.declared.event.Held.{Held}
use Rattle.trail.specs.declared.event.Note.{Note}
use Rattle.trail.specs.declared.event.Note.TheVariants as note
use Rattle.trail.specs.declared.event.Call.TheVariants as call
use Rattle.trail.specs.declared.event.Cause.TheVariants as cause
use Rattle.script_text.specs.declared.script.Command.TheVariants as command
use Rattle.script_run.specs.Work.{Working, Does, Along, noted_at, with_note}
use Rattle.script_run.specs.Workers.{working}
use Rattle.script_run.proofs.Fixes.{given_remove}
use Rattle.script_run.proofs.Along.{along_kept, along_removed}
use Rattle.script_run.proofs.Along.{rest_at, held_at}
use Rattle.script_run.proofs.Doing.{does_unfix, does_unheld_unfix, on_ok}
use Rattle.script_run.proofs.pass.Pass.unfix.Goals as goal

pub returns-in_default : goal.returns-in_default
returns-in_default g c =
    let seen = g.D.PageDisk.seen in
    let w : Working = working c.args.self.now in
    let desk = c.args.desk.now.state in
    let frames = c.args.frames.now in
    let p = c.args.page in
    let n : Note = note.Refused (call.Unfix p) cause.Unheld in
    let none : newest_fix w.fixed p ≡ None = search rules in
    record {
      along = on_ok c.note.result _ _ (λ e log.
          let W : Working → Type 0 = λ after. Along seen 1 desk desk frames frames log log w after in
          subst W (sym (e ∙ ap (λ place. noted_at place w n) c.mark-place.ensures)) (along_kept seen desk frames log w n refl)) c.note.ensures.noted;
      done = on_ok c.note.result _ _ (λ e o start log past so stands.
          let W : Working → Type 0 = λ after. Does seen o start desk log after past (command.Unfix p) in
          subst W (sym (e ∙ ap (λ place. noted_at place w n) c.mark-place.ensures)) (does_unheld_unfix seen o start desk log w past p so none)) c.note.ensures.noted;
    }

pub returns : goal.returns
returns g c =
    let seen = g.D.PageDisk.seen in
    let w : Working = working c.args.self.now in
    let desk = c.args.desk.now.state in
    let frames = c.args.frames.now in
    let p = c.args.page in
    let items = c.args.self.now.fixed.items in
    let at = c.in-Some.at in
    let h : Held = c.index-held.result.now in
    let n : Note = note.Unfixed p h.frame h.number in
    let inside : at < length items = c.in-Some.ensures.some.0 in
    let read : slice_get items at ≡ Some h = slice_get_read items (length items) at h refl inside c.index-held.ensures in
    let newest : newest_fix w.fixed p ≡ Some h = sym c.in-Some.ensures.some.1 ∙ read in
    let e : working c.note-2.new.self ≡ noted_at c.mark-place.result w n = search rules in
    let left : c.remove-held.new.self.items ≡ take at items ++ drop (suc at) items = c.remove-held.ensures.items ∙ ap (λ v. remove v.items at) c.note-2.ensures.fixed in
    record {
      along = λ log.
          let A : Plain → Type 0 = λ after. Along seen 1 desk desk frames after log log w (working (record c.note-2.new.self { fixed = c.remove-held.new.self })) in
          subst A (sym c.let_go.ensures) (along_removed seen desk frames log w (record { pass = c.note-2.new.self.pass; next = c.note-2.new.self.next; fixed = reverse c.remove-held.new.self.items; account = reverse c.note-2.new.self.account.items })
          items c.remove-held.new.self.items at h refl refl left read (ap (λ (x : Working). x.pass) e) (ap (λ (x : Working). x.next) e));
      done = λ o start log past so stands.
          let W : Working → Type 0 = λ after. Does seen o start desk log after past (command.Unfix p) in
          let back : reverse c.remove-held.new.self.items ≡ given_back h.number w.fixed = ap reverse left ∙ sym (given_remove items at h w.next read so.falling) in
          let is : working (record c.note-2.new.self { fixed = c.remove-held.new.self }) ≡ with_note desk w n =
          ap (λ (x : Working). record x { fixed = reverse c.remove-held.new.self.items }) e ∙ ap (λ fixed. record (noted_at c.mark-place.result w n) { fixed = fixed }) back
          ∙ ap (λ place. record (noted_at place w n) { fixed = given_back h.number w.fixed }) c.mark-place.ensures in
          subst W (sym is) (does_unfix seen o start desk log w past p h so newest);
    }

pub let_go-requires-clause-rest : goal.let_go-requires-clause-rest
let_go-requires-clause-rest g c =
    let seen = g.D.PageDisk.seen in
    let items = c.args.self.now.fixed.items in
    let at = c.in-Some.at in
    let h : Held = c.index-held.result.now in
    let read : slice_get items at ≡ Some h = slice_get_read items (length items) at h refl c.in-Some.ensures.some.0 c.index-held.ensures in
    rest_at seen c.args.desk.now.state c.args.frames.now items at h read c.requires.ready

pub let_go-requires-clause-held : goal.let_go-requires-clause-held
let_go-requires-clause-held g c =
    let seen = g.D.PageDisk.seen in
    let items = c.args.self.now.fixed.items in
    let at = c.in-Some.at in
    let h : Held = c.index-held.result.now in
    let read : slice_get items at ≡ Some h = slice_get_read items (length items) at h refl c.in-Some.ensures.some.0 c.index-held.ensures in
    held_at seen c.args.desk.now.state c.args.frames.now items at h read c.requires.ready
