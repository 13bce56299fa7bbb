use Rattle.std.proofs.Common.{rules, subst, sym}
use Rattle.atomic_table.specs.Table.{Allows}
use Rattle.keyed_lock.specs.Lock.{IsGuarded}
use Rattle.keyed_lock.proofs.Steps.{releases}
use Rattle.keyed_lock.proofs.lock.Loan.give.Goals as goal

pub store-requires : goal.store-requires
store-requires g c =
    let fits = g.T.Keyed.fits c.self.inside.shared.now.key in
    let good = subst (λ key. g.T.Keyed.fits key c.args.value) (sym c.self.view_is) c.requires.fits in
    let seat = c.exchange.new.seat in (
      search rules,
      search rules,
      subst (λ slots. Allows (IsGuarded fits) slots seat.id seat.me 0 (λ _. 0) (λ _ _. Unit {0})) (sym c.self.invariant.0.1) (releases fits _ _ _ _ _ c.exchange.ensures.3 good),
    )
