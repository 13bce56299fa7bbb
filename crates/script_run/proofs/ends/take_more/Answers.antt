use Rattle.std.proofs.Common.{◌≡◌, ℕ, Bool, true, false, ◌++◌, List, take, rules, ap, ◌∙◌, sym, append_assoc}
use Rattle.script_run.proofs.ends.take_more.Goals as goal

pub returns-clause-given : goal.returns-clause-given
returns-clause-given g c = λ bytes e.
    let taken = c.in-Ok.ensures.given bytes e in
    let grown : c.extend_from_slice.new.self.items ≡ c.args.all.now.items ++ take c.in-Ok.count c.take_piece.new.piece.items = search rules in (
      taken.0,
      taken.1,
      ap (λ (b : List ℕ). c.args.all.now.items ++ b) taken.2 ∙ sym (append_assoc c.args.all.now.items (take c.in-Ok.count c.take_piece.new.piece.items) taken.0) ∙ ap (λ (b : List ℕ). b ++ taken.0) (sym grown),
      λ bad. absurd (true_is_not_false bad),
    )
  where
    true_is_not_false : ◌≡◌ {A = Bool} true false → ⊥
    true_is_not_false bad = cc
