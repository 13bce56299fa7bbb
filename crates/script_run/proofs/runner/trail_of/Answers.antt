use Rattle.std.proofs.Common.{◌≡◌, ◌∙◌, List, [], ◌∷◌, ap, subst, rules}
use Rattle.trail.specs.declared.event.Receipt.{Receipt}
use Rattle.trail.specs.Merging.{together, IsMerged}
use Rattle.std.proofs.lemmas.List.{append-nil}
use Rattle.script_run.proofs.runner.trail_of.Goals as goal

pub returns-clause-merged : goal.returns-clause-merged
returns-clause-merged c =
    let account = c.args.account in
    let pushed : c.push.new.self.items ≡ account ∷ [] = search rules in
    subst (λ (rs : List Receipt). IsMerged c.args.history.items rs c.merge.result.events) (ap together pushed ∙ append-nil account.items) c.merge.ensures.merged
