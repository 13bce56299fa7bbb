use Rattle.std.proofs.Common.{◌≡◌, ◌∷◌, List, [], length, reverse, rules, refl, ap, ◌∙◌, subst, arith}
use Rattle.trail.specs.declared.event.Held.{Held}
use Rattle.script_run.specs.Work.{IsWorkerReady}
use Rattle.script_run.proofs.Progress.{worked}
use Rattle.script_run.proofs.worker.give_back_all.Goals as goal

items_none : {A : Type 0} → (xs : List A) → length xs ≡ 0 → xs ≡ []
items_none [] e = refl
items_none (x ∷ xs) e = absurd (cc)

pub loop-pass-preserved : goal.loop-pass-preserved
loop-pass-preserved g c =
    let l = c.loop-pass in
    let back = c.in_ok-give_back.ensures in (
      omega (arith, l.invariant.0, back.fewer, back.next),
      back.pass ∙ l.invariant.1,
      back.ready,
      λ o was. back.behind o (l.invariant.3 o was),
      λ o start log past commands so. back.done o start log past commands (l.invariant.4 o start log past commands so),
    )

pub returns-clause-ready : goal.returns-clause-ready
returns-clause-ready g c =
    let seen = g.D.PageDisk.seen in
    let R : List Held → Type 0 = λ fixed. IsWorkerReady seen c.args.desk.now.state c.loop-pass.frames (reverse fixed) in
    subst R (items_none c.loop-pass.pass.fixed.items (search rules)) c.loop-pass.invariant.2

pub returns-clause-done : goal.returns-clause-done
returns-clause-done g c =
    let seen = g.D.PageDisk.seen in
    λ o start log past commands so.
    worked seen o start c.args.desk.now.state log _ past commands (ap reverse (items_none c.loop-pass.pass.fixed.items (search rules))) (c.loop-pass.invariant.4 o start log past commands so)
