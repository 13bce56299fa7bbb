use Rattle.std.proofs.Common.{◌≡◌, ◌∙◌, ◌+◌, ◌++◌, ◌∷◌, [], List, ap, sym, subst, arith, rules, vec_len}
use Rattle.std.specs.Option.{option_to_list}
use Rattle.std.specs.List.Sorted.{IsPermutation}
use Rattle.std.proofs.lemmas.Fn.{always_returns_same}
use Rattle.std.proofs.lemmas.List.Sorted.{IsPermutation-append_left, IsPermutation-trans}
use Rattle.std.proofs.lemmas.List.Sums.{sum_by_push}
use Rattle.trail.specs.declared.event.Event.{Event}
use Rattle.trail.specs.Merging.{entries_told, receipts_in, together, told, rank, IsMerged}
use Rattle.trail.proofs.Ranked.{still_every}
use Rattle.std.proofs.lemmas.List.{append-nil}
use Rattle.trail.proofs.Merged.{entries_are, places_are, order_is}
use Rattle.trail.proofs.merging.merge.Goals as goal

pub loop-account-init : goal.loop-account-init
loop-account-init c =
    let E = entries_told c.args.history.items in
    let moved : IsPermutation E c.take_entries.new.room.items = subst (λ (l : List Event). IsPermutation (l ++ E) c.take_entries.new.room.items) c.requires.empty c.take_entries.ensures.kept in
    record {
      kept = IsPermutation-append_left (told (together c.args.accounts.items)) E c.take_entries.new.room.items moved;
      room = search rules;
    }

pub loop-account-preserved : goal.loop-account-preserved
loop-account-preserved c =
    let l = c.loop-account in
    let a = c.in-Some.account in
    let rest = c.pop.new.self.items in
    let popped : l.accounts.items ≡ rest ++ a ∷ [] = c.pop.ensures.items ∙ ap (λ x. rest ++ option_to_list x) c.in-Some.is in
    let count : receipts_in l.accounts.items ≡ receipts_in rest + vec_len a = ap receipts_in popped ∙ sum_by_push (λ account. vec_len account) rest a in
    record {
      kept = still_every _ l.room.items c.take_receipts.new.room.items l.accounts.items rest a l.invariant.kept popped c.take_receipts.ensures.kept;
      room = omega (arith, count, l.invariant.room, c.take_receipts.ensures.count, c.take_receipts.ensures.room);
    }

pub take_receipts-requires : goal.take_receipts-requires
take_receipts-requires c =
    let l = c.loop-account in
    let a = c.in-Some.account in
    let rest = c.pop.new.self.items in
    let popped : l.accounts.items ≡ rest ++ a ∷ [] = c.pop.ensures.items ∙ ap (λ x. rest ++ option_to_list x) c.in-Some.is in
    let count : receipts_in l.accounts.items ≡ receipts_in rest + vec_len a = ap receipts_in popped ∙ sum_by_push (λ account. vec_len account) rest a in
    omega (arith, count, l.invariant.room)

pub returns-clause-merged : goal.returns-clause-merged
returns-clause-merged c =
    let l = c.loop-account in
    let none : l.accounts.items ≡ [] = search rules in
    let all = entries_told c.args.history.items ++ told (together c.args.accounts.items) in
    let sorted = c.sort_unstable_by_key.new.self.items in
    let moved : IsPermutation all l.room.items = subst (λ l. IsPermutation all l) (ap (λ accounts. l.room.items ++ told (together accounts)) none ∙ append-nil l.room.items) l.invariant.kept in
    let merged : IsMerged c.args.history.items (together c.args.accounts.items) sorted = record {
      kept = IsPermutation-trans all l.room.items sorted moved c.sort_unstable_by_key.ensures.permutation;
      ranked = c.sort_unstable_by_key.ensures.sorted rank (always_returns_same _ _ _ (λ a r f k. search rules));
    } in
    let events : c.of.result.events ≡ sorted = search rules in
    subst (λ l. IsMerged c.args.history.items (together c.args.accounts.items) l) (sym events) merged

pub returns-clause-entries : goal.returns-clause-entries
returns-clause-entries c = λ numbered. entries_are c.args.first c.args.history.items (together c.args.accounts.items) c.of.result.events (returns-clause-merged c) numbered

pub returns-clause-placed : goal.returns-clause-placed
returns-clause-placed c = λ places. places_are c.args.first c.args.history.items (together c.args.accounts.items) c.of.result.events (returns-clause-merged c) places

pub returns-clause-ordered : goal.returns-clause-ordered
returns-clause-ordered c = λ places one. order_is c.args.first c.args.history.items (together c.args.accounts.items) c.of.result.events (returns-clause-merged c) places one
