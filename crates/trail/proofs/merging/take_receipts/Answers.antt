use Rattle.std.proofs.Common.{◌≡◌, ◌∙◌, ◌++◌, ◌∷◌, [], ap, arith, refl, rules}
use Rattle.std.specs.Option.{option_to_list}
use Rattle.std.proofs.lemmas.List.Sorted.{IsPermutation-refl}
use Rattle.trail.specs.declared.event.Receipt.{Receipt}
use Rattle.trail.specs.declared.event.Event.TheVariants as event
use Rattle.trail.proofs.Ranked.{still_all, all_moved}
use Rattle.trail.proofs.merging.take_receipts.Goals as goal

pub loop-receipt-init : goal.loop-receipt-init
loop-receipt-init c = record { kept = IsPermutation-refl _; count = refl; room = omega arith }

pub loop-receipt-preserved : goal.loop-receipt-preserved
loop-receipt-preserved c =
    let l = c.loop-receipt in
    let rest = c.pop.new.self.items in
    let popped : l.account.items ≡ rest ++ c.in-Some.receipt ∷ [] = c.pop.ensures.items ∙ ap (λ x. rest ++ option_to_list x) c.in-Some.is in
    record {
      kept = still_all (λ (x : Receipt). event.Receipt x) _ l.room.items c.push_reserved.new.self.items l.account.items rest c.in-Some.receipt l.invariant.kept popped c.push_reserved.ensures.items;
      count = search rules;
      room = search rules;
    }

pub returns-clause-kept : goal.returns-clause-kept
returns-clause-kept c =
    let l = c.loop-receipt in
    let none : l.account.items ≡ [] = search rules in
    all_moved (λ (x : Receipt). event.Receipt x) _ l.room.items l.account.items l.invariant.kept none
