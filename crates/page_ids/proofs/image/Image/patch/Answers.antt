use Rattle.std.proofs.Common.{rules, ◌≡◌, ◌∙◌, length, subst, sym}
use Rattle.std.proofs.lemmas.List.{take_at}
use Rattle.page_ids.specs.Content.{IsBlanked, IsRange}
use Rattle.page_ids.proofs.Overwritten.{over, blanked_patched}
use Rattle.page_ids.proofs.image.Image.patch.Goals as goal

pub invariant_of-self : goal.invariant_of-self
invariant_of-self c =
    let old = c.self.inside.bytes.items in
    let range : IsRange (length old) c.args.at (length c.args.bytes.now) = search rules in
    let is : c.overwrite.new.bytes ≡ over c.args.at c.args.bytes.now old = search rules in
    let size : length c.overwrite.new.bytes ≡ c.self.inside.bytes.len = search rules in
    subst IsBlanked (sym (take_at _ _ _ size ∙ is)) (blanked_patched c.args.at c.args.bytes.now old c.self.invariant range)
