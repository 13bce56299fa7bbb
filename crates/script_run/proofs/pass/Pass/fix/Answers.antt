use Rattle.std.proofs.Common.{◌≡◌, ◌<◌, ◌+◌, ℕ, List, [], ◌∷◌, ◌++◌, None, IfSome, Option, Result, Ok, length, subst, sym, ap, ◌∙◌, reverse, arith, rules}
use Rattle.std.specs.Prelude.{vec_len}
use Rattle.std.proofs.lemmas.List.{length-reverse}
use Rattle.trail.specs.declared.event.Held.{Held}
use Rattle.frame_words.specs.Plain.{seen_of}
use Rattle.desk.specs.declared.calls.Granted.{Granted}
use Rattle.desk.specs.declared.calls.FixErr.{FixErr}
use Rattle.desk.specs.Answers as answers
use Rattle.desk.specs.Answers.{Fixed}
use Rattle.desk.specs.Moments.{moment_of}
use Rattle.script_run.specs.Work.{Working, Along, RefusesFix}
use Rattle.script_run.specs.Workers.{working}
use Rattle.script_run.proofs.Fixes.{reverse-push}
use Rattle.script_run.proofs.Framing.{room_left}
use Rattle.script_run.proofs.Growing.{me}
use Rattle.script_run.proofs.Fixing.{Fixes, Did, fixes_of, why_unfixed, unsound_fix, granted_along, granted_does, refused_along, refused_does}
use Rattle.script_run.proofs.pass.Pass.fix.Goals as goal

pub fix_at-answer-requires-clause-fixes : goal.fix_at-answer-requires-clause-fixes
fix_at-answer-requires-clause-fixes g c κs within = λ few f inside.
    let seen = g.D.PageDisk.seen in
    room_left seen c.args.desk.now.state c.args.frames.now (reverse c.args.self.now.fixed.items) f c.requires.ready inside

fewer : (held n m : ℕ) → held ≡ n → n ≡ m → held < 64 → m < 64
fewer held n m a b less = omega (arith, a, b, less)

pub returns-in-Some : goal.returns-in-Some
returns-in-Some g c =
    let seen = g.D.PageDisk.seen in
    let w : Working = working c.args.self.now in
    let items = c.args.self.now.fixed.items in
    let p = c.args.page in
    let old = c.args.desk.now.state in
    let new = c.fix_at-answer.new.self.state in
    let before = c.args.frames.now in
    let after = c.fix_at-answer.new.frames in
    let was = c.args.redo.now.seen in
    let is = c.fix_at-answer.new.redo.seen in
    let e = c.fix_at-answer.ensures in
    let m = moment_of seen_of g.R.RedoDisk.seen c.args.desk.now before c.args.redo.now in
    let n = moment_of seen_of g.R.RedoDisk.seen c.fix_at-answer.new.self after c.fix_at-answer.new.redo in
    let fixes : Fixes seen old new before after was is w = fixes_of seen 4 m n before after w c.requires.ready e.keeps c.requires.known (omega arith) c.requires.places in
    let grant : Granted = c.in-Some.field-0 in
    let S : Option Granted → Type 0 = λ some. IfSome some (λ x. c.fix_at-answer.result ≡ Ok x) in
    let answer : c.fix_at-answer.result ≡ Ok grant = subst S c.in-Some.is c.in_ok-granted.ensures.granted in
    let is_fixed : Fixed seen m n (me w) c.len-held.result p c.args.now grant = subst (λ (r : Result Granted FixErr). answers.Fixes seen m n (me w) c.len-held.result p c.args.now r) answer e.answers in
    let long : vec_len c.reserve.new.self ≡ length c.reserve.new.self.items = search rules in
    let few : length w.fixed < 64 = fewer c.len-held.result (length items) (length w.fixed) (c.len-held.ensures ∙ long ∙ ap (length {A = Held}) c.in_ok-reserve.ensures.items) (sym (length-reverse items)) is_fixed.few in
    let held : Held = record { page = p; frame = grant.frame; number = c.args.self.now.next } in
    let grown : reverse c.push_reserved.new.self.items ≡ held ∷ reverse items =
    ap reverse (c.push_reserved.ensures.items ∙ ap (λ xs. xs ++ held ∷ []) c.in_ok-reserve.ensures.items) ∙ reverse-push items held in
    let make : List Held → Working = λ fixed. record { pass = w.pass; next = w.next + 1; fixed = fixed; account = w.account } in
    let A : Working → Type 0 = λ v. Along seen 1 old new before after was is w v in
    let W : Working → Type 0 = λ v. Did seen old new before was is w v p c.args.now in
    record {
      along = subst A (ap make (sym grown)) (granted_along seen old new before after was is w p c.args.now grant fixes few is_fixed.granted);
      done = subst W (ap make (sym grown)) (granted_does seen old new before after was is w p c.args.now grant fixes few is_fixed.inside
          is_fixed.valued is_fixed.granted);
      opening = e.keeps.opening;
    }

pub returns-in_default : goal.returns-in_default
returns-in_default g c =
    let seen = g.D.PageDisk.seen in
    let w : Working = working c.args.self.now in
    let items = c.args.self.now.fixed.items in
    let p = c.args.page in
    let old = c.args.desk.now.state in
    let new = c.fix_at-answer.new.self.state in
    let before = c.args.frames.now in
    let after = c.fix_at-answer.new.frames in
    let was = c.args.redo.now.seen in
    let is = c.fix_at-answer.new.redo.seen in
    let e = c.fix_at-answer.ensures in
    let m = moment_of seen_of g.R.RedoDisk.seen c.args.desk.now before c.args.redo.now in
    let n = moment_of seen_of g.R.RedoDisk.seen c.fix_at-answer.new.self after c.fix_at-answer.new.redo in
    let fixes : Fixes seen old new before after was is w = fixes_of seen 4 m n before after w c.requires.ready e.keeps c.requires.known (omega arith) c.requires.places in
    let none : c.in_ok-granted.granted ≡ None = search rules in
    let refuses : RefusesFix c.fix_at-answer.result = c.in_ok-granted.ensures.refused none in
    let long : vec_len c.reserve.new.self ≡ length c.reserve.new.self.items = search rules in
    let count : c.len-held.result ≡ length w.fixed = c.len-held.ensures ∙ long ∙ ap (length {A = Held}) c.in_ok-reserve.ensures.items ∙ sym (length-reverse items) in
    let make : List Held → Working = λ fixed. record { pass = w.pass; next = w.next + 1; fixed = reverse fixed; account = w.account } in
    let A : List Held → Type 0 = λ fixed. Along seen 1 old new before after was is w (make fixed) in
    let W : List Held → Type 0 = λ fixed. Did seen old new before was is w (make fixed) p c.args.now in
    record {
      along = subst A (sym c.in_ok-reserve.ensures.items) (refused_along seen old new before after was is w p c.args.now c.len-held.result c.fix_at-answer.result fixes refuses (why_unfixed seen m n (me w) c.len-held.result p c.args.now c.fix_at-answer.result e.answers));
      done = subst W (sym c.in_ok-reserve.ensures.items) (refused_does seen old new before after was is w p c.args.now c.len-held.result c.fix_at-answer.result fixes count refuses (why_unfixed seen m n (me w) c.len-held.result p c.args.now c.fix_at-answer.result e.answers)
          (unsound_fix seen m n (me w) c.len-held.result p c.args.now c.fix_at-answer.result e.answers));
      opening = e.keeps.opening;
    }
