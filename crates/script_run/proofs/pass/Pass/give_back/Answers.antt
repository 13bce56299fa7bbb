use Rattle.std.proofs.Common.{◌≡◌, List, Option, Some, rules, ◌∷◌, ◌++◌, [], reverse, refl, ap, ◌∙◌, sym, subst, eq-eqb, Bool, cond}
use Rattle.std.specs.Prelude.{option_to_list}
use Rattle.trail.specs.declared.event.Held.{Held}
use Rattle.trail.specs.declared.event.Note.{Note}
use Rattle.trail.specs.declared.event.Note.TheVariants as note
use Rattle.trail.specs.Calls.{given_back}
use Rattle.frame_words.specs.Plain.{Plain}
use Rattle.script_run.specs.Work.{Working, Ending, IsWorkerReady, IsBehindIt, noted_at, with_note, given_at}
use Rattle.script_run.specs.Workers.{working}
use Rattle.script_run.proofs.Fixes.{reverse-push}
use Rattle.script_run.proofs.Framing.{ready_given, behind_given, rest_mid, some_held}
use Rattle.script_run.proofs.Progress.{ending_more}
use Rattle.script_run.proofs.pass.Pass.give_back.Goals as goal

first_fix : (rest : List Held) (h : Held) (items : List Held) (popped : Option Held) → items ≡ rest ++ option_to_list popped → popped ≡ Some h → reverse items ≡ h ∷ reverse rest
first_fix rest h items popped are is = ap reverse (are ∙ ap (λ r. rest ++ option_to_list r) is) ∙ reverse-push rest h

pub returns-clause-done : goal.returns-clause-done
returns-clause-done g c =
    let seen = g.D.PageDisk.seen in
    let w : Working = working c.args.self.now in
    let desk = c.args.desk.now.state in
    let h : Held = c.in-Some.held in
    let rest = c.pop.new.self.items in
    let n : Note = note.Unfixed h.page h.frame h.number in
    let first : w.fixed ≡ h ∷ reverse rest = first_fix rest h c.args.self.now.fixed.items _ c.pop.ensures.items c.in-Some.is in
    let back : given_back h.number w.fixed ≡ reverse rest = ap (given_back h.number) first ∙ ap (λ (b : Bool). cond b (reverse rest) (h ∷ given_back h.number (reverse rest))) (eq-eqb h.number h.number refl) in
    λ o start log past commands so.
    let e : working c.note.new.self ≡ noted_at c.mark-place.result (record w { fixed = reverse rest }) n = search rules in
    let is : working c.note.new.self ≡ with_note desk w n = e ∙ ap (λ fixed. record (noted_at c.mark-place.result w n) { fixed = fixed }) (sym back) ∙ ap (λ place. record (noted_at place w n) { fixed = given_back h.number w.fixed }) c.mark-place.ensures in
    let E : Working → Type 0 = λ after. Ending seen o start desk log after past commands in
    subst E (sym is) (ending_more seen o start desk log w past commands h (reverse rest) first so)

pub returns-clause-ready : goal.returns-clause-ready
returns-clause-ready g c =
    let seen = g.D.PageDisk.seen in
    let desk = c.args.desk.now.state in
    let h : Held = c.in-Some.held in
    let rest = c.pop.new.self.items in
    let R : Plain → List Held → Type 0 = λ frames fixed. IsWorkerReady seen desk frames fixed in
    let ready = ready_given seen desk c.args.frames.now [] h (reverse rest) (subst (λ held. R c.args.frames.now held) (first_fix rest h c.args.self.now.fixed.items _ c.pop.ensures.items c.in-Some.is) c.requires.ready) in
    subst (λ frames. R frames (reverse c.note.new.self.fixed.items)) (sym c.let_go.ensures) (subst (λ held. R (given_at c.args.frames.now h.frame) held) (ap (λ v. reverse v.items) (sym c.note.ensures.fixed)) ready)

pub returns-clause-behind : goal.returns-clause-behind
returns-clause-behind g c = λ o was.
    let seen = g.D.PageDisk.seen in
    let B : Plain → Type 0 = λ frames. IsBehindIt seen o c.args.desk.now.state frames in
    subst B (sym c.let_go.ensures) (behind_given seen o c.args.desk.now.state c.args.frames.now c.in-Some.held.frame was)

pub let_go-requires-clause-rest : goal.let_go-requires-clause-rest
let_go-requires-clause-rest g c =
    let seen = g.D.PageDisk.seen in
    let h : Held = c.in-Some.held in
    let rest = c.pop.new.self.items in
    let R : List Held → Type 0 = λ fixed. IsWorkerReady seen c.args.desk.now.state c.args.frames.now fixed in
    rest_mid seen c.args.desk.now.state c.args.frames.now [] h (reverse rest) (subst R (first_fix rest h c.args.self.now.fixed.items _ c.pop.ensures.items c.in-Some.is) c.requires.ready)

pub let_go-requires-clause-held : goal.let_go-requires-clause-held
let_go-requires-clause-held g c =
    let seen = g.D.PageDisk.seen in
    let h : Held = c.in-Some.held in
    let rest = c.pop.new.self.items in
    let R : List Held → Type 0 = λ fixed. IsWorkerReady seen c.args.desk.now.state c.args.frames.now fixed in
    some_held seen c.args.desk.now.state c.args.frames.now [] h (reverse rest) (subst R (first_fix rest h c.args.self.now.fixed.items _ c.pop.ensures.items c.in-Some.is) c.requires.ready)
