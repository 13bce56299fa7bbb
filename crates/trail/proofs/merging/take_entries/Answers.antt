use Rattle.std.proofs.Common.{◌≡◌, ◌∙◌, ◌++◌, ◌∷◌, [], ap, arith, refl, rules}
use Rattle.std.specs.Option.{option_to_list}
use Rattle.std.proofs.lemmas.List.Sorted.{IsPermutation-refl}
use Rattle.trail.specs.declared.event.Entry.{Entry}
use Rattle.trail.specs.declared.event.Event.TheVariants as event
use Rattle.trail.proofs.Ranked.{still_all, all_moved}
use Rattle.trail.proofs.merging.take_entries.Goals as goal

pub loop-entry-init : goal.loop-entry-init
loop-entry-init c = record { kept = IsPermutation-refl _; count = refl; room = omega arith }

pub loop-entry-preserved : goal.loop-entry-preserved
loop-entry-preserved c =
    let l = c.loop-entry in
    let rest = c.pop.new.self.items in
    let popped : l.history.items ≡ rest ++ c.in-Some.entry ∷ [] = c.pop.ensures.items ∙ ap (λ x. rest ++ option_to_list x) c.in-Some.is in
    record {
      kept = still_all (λ (x : Entry). event.Entry x) _ l.room.items c.push_reserved.new.self.items l.history.items rest c.in-Some.entry l.invariant.kept popped c.push_reserved.ensures.items;
      count = search rules;
      room = search rules;
    }

pub returns-clause-kept : goal.returns-clause-kept
returns-clause-kept c =
    let l = c.loop-entry in
    let none : l.history.items ≡ [] = search rules in
    all_moved (λ (x : Entry). event.Entry x) _ l.room.items l.history.items l.invariant.kept none
