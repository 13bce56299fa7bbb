use Rattle.std.proofs.Common.{rules, Some, ap, sym, ◌∙◌, ◌∷◌}
use Rattle.atomic_table.specs.Table.{rest}
use Rattle.keyed_lock.proofs.Steps.{seizes}
use Rattle.keyed_lock.proofs.lock.Lock.take.Goals as goal

pub swap_new_seat-found-requires : goal.swap_new_seat-found-requires
swap_new_seat-found-requires g c = (search rules, seizes _ _ c.self.inside.table.shared.key)

pub exchange-requires : goal.exchange-requires
exchange-requires g c = let home = c.swap_new_seat-found.ensures.1 c.if-found-eq0.true in
    (c.swap_new_seat-found.ensures.0, (Some home.0, home.1 ∙ ap (λ l. (0, Some home.0) ∷ rest l) (sym home.1)))
