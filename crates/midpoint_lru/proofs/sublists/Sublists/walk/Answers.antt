use Rattle.std.proofs.Common.{subst}
use Rattle.std.specs.Prelude.{IfSome}
use Rattle.midpoint_lru.specs.Parts.{IsIn}
use Rattle.midpoint_lru.proofs.Kept.{has, from_tail, from_frame}
use Rattle.midpoint_lru.proofs.sublists.Sublists.walk.Goals as goal

pub prev-requires : goal.prev-requires
prev-requires c = has c.self.inside c.args.self.now c.self.view_is c.self.invariant c.in-Some.frame (subst (λ o. IfSome o (λ f. IsIn c.args.self.now f)) c.in-Some.is c.requires)

pub returns-in-None-clause-next : goal.returns-in-None-clause-next
returns-in-None-clause-next c = (from_tail c.self.inside c.args.self.now c.self.view_is c.self.invariant c.args.after c.back.result c.in-None.is c.back.ensures).0

pub returns-in-None-clause-step : goal.returns-in-None-clause-step
returns-in-None-clause-step c = (from_tail c.self.inside c.args.self.now c.self.view_is c.self.invariant c.args.after c.back.result c.in-None.is c.back.ensures).1

pub returns-in-Some-clause-next : goal.returns-in-Some-clause-next
returns-in-Some-clause-next c =
    let there = subst (λ o. IfSome o (λ f. IsIn c.args.self.now f)) c.in-Some.is c.requires in
    (from_frame c.self.inside c.args.self.now c.self.view_is c.self.invariant c.args.after c.prev.result c.in-Some.frame c.in-Some.is there c.prev.ensures).0

pub returns-in-Some-clause-step : goal.returns-in-Some-clause-step
returns-in-Some-clause-step c =
    let there = subst (λ o. IfSome o (λ f. IsIn c.args.self.now f)) c.in-Some.is c.requires in
    (from_frame c.self.inside c.args.self.now c.self.view_is c.self.invariant c.args.after c.prev.result c.in-Some.frame c.in-Some.is there c.prev.ensures).1
