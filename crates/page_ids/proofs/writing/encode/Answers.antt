use Rattle.std.proofs.Common.{rules, ◌≡◌, ℕ, List, false, length, slice_index, subst}
use Rattle.page_ids.specs.Content.{is_stamped}
use Rattle.page_ids.proofs.Encoded.{encoded}
use Rattle.page_ids.proofs.writing.encode.Goals as goal

pub returns-clause-page : goal.returns-clause-page
returns-clause-page c =
    let mid = c.stamp_id.new.out in
    let P : List ℕ → Type 0 = λ old. (k : ℕ) → is_stamped (length old) k ≡ false → slice_index mid k ≡ slice_index old k in
    let body = subst P c.copy_whole.ensures.bytes c.stamp_id.ensures.others in
    encoded c.args.page c.args.image.now mid c.stamp_checksums.new.out c.copy_whole.ensures.blanked (search rules) (search rules) c.stamp_id.ensures.written (search rules) body c.stamp_checksums.ensures.others
