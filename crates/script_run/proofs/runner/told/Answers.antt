use Rattle.std.proofs.Common.{◌≡◌, ℕ, Bool, ◌++◌, List, Some, take, rules, ap, ◌∙◌, sym, subst, ◌⊎◌, IsTrue}
use Rattle.std.specs.List.{list_any}
use Rattle.trail.specs.Spelling.{trail_text}
use Rattle.script_run.specs.Runs.{is_refused}
use Rattle.script_run.proofs.Answering.{or_false}
use Rattle.script_run.proofs.Progress.{append_nil}
use Rattle.script_run.proofs.runner.told.Goals as goal

pub returns-clause-refused : goal.returns-clause-refused
returns-clause-refused g c =
    let any : c.has_refusal-refused.result ≡ list_any is_refused c.args.trail.events = search rules in
    let s = c.write_text-status.result in
    let R : Bool → Type 0 = λ b. (s ≡ 0) ⊎ (s ≡ 1) → (s ≡ 1 → IsTrue b) × (IsTrue b → s ≡ 1) in
    subst R (any ∙ sym (or_false (list_any is_refused c.args.trail.events))) c.write_text-status.ensures.refused

pub returns-clause-cut : goal.returns-clause-cut
returns-clause-cut g c = λ five.
    let cut = c.write_text-status.ensures.cut five in
    let text : c.as_slice.result.now ≡ trail_text 0 c.args.trail = search rules in
    (cut.0, λ held e. let part = cut.1 held e in (part.0, part.1 ∙ ap (λ (t : List ℕ). Some (held ++ take part.0 t)) (text ∙ sym (append_nil (trail_text 0 c.args.trail)))))
