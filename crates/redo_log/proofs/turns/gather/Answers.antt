use Rattle.std.proofs.Common.{◌≡◌, ◌++◌, ◌∷◌, [], List, rules, sym, subst}
use Rattle.std.proofs.lemmas.List.Elements.{All-pop}
use Rattle.crossbeam_utils.specs.Seq.{cell_view}
use Rattle.redo_log.specs.declared.view.View.{View}
use Rattle.redo_log.specs.Passes.{Known, known_of}
use Rattle.redo_log.proofs.Closing.{HasTaken, one_taken}
use Rattle.redo_log.proofs.turns.gather.Goals as goal

pub loop-seat-preserved : goal.loop-seat-preserved
loop-seat-preserved c =
    let seat = c.in-Some.field-0.seat in
    let rest : List Known = c.pop.new.self.items in
    let popped : c.loop-seat.passes.items ≡ rest ++ known_of seat.table_id (cell_view seat) ∷ [] = search rules in
    let taken = one_taken (cell_view c.args.keeper.now) (cell_view c.loop-seat.keeper) (cell_view seat) seat.table_id _ rest c.args.passes.items popped c.loop-seat.invariant.taken in
    record {
      cell = search rules;
      same = search rules;
      logs = (All-pop (λ p. p.log ≡ c.args.cell.now.table.shared.table_id) _ _ _ c.pop.ensures.items c.loop-seat.invariant.logs).0;
      taken = subst (λ (v : View). HasTaken (cell_view c.args.keeper.now) v rest c.args.passes.items) (sym c.join.ensures.1) taken;
    }
