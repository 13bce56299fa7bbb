use Rattle.std.proofs.Common.{rules, arith, ◌≡◌, ◌∙◌, ◌∷◌, [], ℕ, List, length, None, ◌+◌, refl, ap, subst}
use Rattle.script_text.specs.Grammar.{IsRefusedLine, Line, Takes, lines_of}
use Rattle.script_text.specs.Verdict.{IsBadLine}
use Rattle.script_text.specs.Left.{lines_left, left}
use Rattle.script_text.proofs.Taking.{Seen, seen_more, seen_all, seen_bad}
use Rattle.script_text.proofs.reader.read_lines.Goals as goal

pub loop-rest-init : goal.loop-rest-init
loop-rest-init c = record {
  seen = record { done = []; whole = refl; place = refl; read = c.new-draft.ensures };
  counted = omega arith;
}

pub returns-in-Ok-false-clause-bad : goal.returns-in-Ok-false-clause-bad
returns-in-Ok-false-clause-bad c = λ n e.
    let lines = lines_of c.args.bytes.now in
    let draft = c.loop-rest.draft in
    let here : lines_left c.loop-rest.rest ≡ c.next_line.result.0.now ∷ lines_left c.next_line.result.1 = ap lines_left c.in-Some.is ∙ c.next_line.ensures.lines in
    let seen = subst (λ (ls : List (List ℕ)). Seen lines c.loop-rest.number ls draft) here c.loop-rest.invariant.seen in
    let refused : IsRefusedLine draft c.next_line.result.0.now = subst (λ (good : _). Takes draft c.next_line.result.0.now good c.take_line.new.draft) c.in-Ok-false.field-0-test c.in-Ok-false.ensures in
    let same : c.loop-rest.number + 1 ≡ n = cc in
    subst (λ (k : ℕ). IsBadLine lines k) same (seen_bad _ _ _ _ _ seen refused)

pub loop-rest-preserved : goal.loop-rest-preserved
loop-rest-preserved c =
    let lines = lines_of c.args.bytes.now in
    let draft = c.loop-rest.draft in
    let here : lines_left c.loop-rest.rest ≡ c.next_line.result.0.now ∷ lines_left c.next_line.result.1 = ap lines_left c.in-Some.is ∙ c.next_line.ensures.lines in
    let seen = subst (λ (ls : List (List ℕ)). Seen lines c.loop-rest.number ls draft) here c.loop-rest.invariant.seen in
    let size : left c.loop-rest.rest ≡ length c.in-Some.text.now + 1 = ap left c.in-Some.is in
    let taken : Line draft c.next_line.result.0.now c.take_line.new.draft = subst (λ (good : _). Takes draft c.next_line.result.0.now good c.take_line.new.draft) c.in-Ok-true.field-0-test c.in-Ok-true.ensures in
    record {
      seen = seen_more _ _ _ _ _ _ seen taken;
      counted = omega (arith, size, c.loop-rest.invariant.counted, c.next_line.ensures.fewer);
    }

pub returns-clause-read : goal.returns-clause-read
returns-clause-read c =
    let lines = lines_of c.args.bytes.now in
    let none : c.loop-rest.rest ≡ None = search rules in
    seen_all _ c.loop-rest.number c.loop-rest.draft (subst (λ (ls : List (List ℕ)). Seen lines c.loop-rest.number ls c.loop-rest.draft) (ap lines_left none) c.loop-rest.invariant.seen)
