use Rattle.std.proofs.Common.{◌≡◌, Bool, true, cond, ◌<◌, ◌+◌, ◌-◌, Some, length, take, reverse, slice_get, arith, rules, refl, ap, ◌∙◌, sym, subst, Option, IsSome}
use Rattle.trail.specs.declared.event.Held.{Held}
use Rattle.std.proofs.lemmas.Option.{slice_get_read}
use Rattle.page_ids.specs.Same.{same_page}
use Rattle.trail.specs.Calls.{newest_fix}
use Rattle.script_run.proofs.Fixes.{newest_step}
use Rattle.script_run.proofs.pass.Pass.newest.Goals as goal

pub returns-then-eq-clause-some : goal.returns-then-eq-clause-some
returns-then-eq-clause-some c =
    let items = c.args.self.now.fixed.items in
    let p = c.args.page in
    let i = c.loop-at.at - 1 in
    let h = c.index.result.now in
    let inside : i < length items = omega arith in
    let next : i + 1 ≡ c.loop-at.at = omega arith in
    let test : same_page h.page p ≡ true = search rules in
    let read : slice_get items i ≡ Some h = slice_get_read items (length items) i h refl inside c.index.ensures in
    let newest : slice_get items i ≡ newest_fix (reverse items) p =
    read ∙ sym (ap (λ (b : Bool). cond b (Some h) (newest_fix (reverse (take i items)) p)) test) ∙ sym (newest_step items i h p inside c.index.ensures)
    ∙ ap (λ n. newest_fix (reverse (take n items)) p) next ∙ c.loop-at.invariant.1 in
    let S : Option Held → Type 0 = λ found. IsSome found in
    (inside, newest, subst S (sym read ∙ newest) refl)
