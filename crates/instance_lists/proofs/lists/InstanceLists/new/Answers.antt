use Rattle.std.proofs.Common.{◌≡◌, ◌∙◌, [], None, rules, refl, ap, reverse, length, replicate}
use Rattle.page_hash.specs.View.{home}
use Rattle.instance_lists.proofs.ListsKept.{kept_as}
use Rattle.instance_lists.proofs.ListsNew.{kept_new}
use Rattle.midpoint_lru.specs.View.{View}
use Rattle.instance_lists.proofs.lists.InstanceLists.new.Goals as goal

pub invariant_of-result : goal.invariant_of-result
invariant_of-result c =
    let config = c.args.config.now in
    let hash = c.in_ok-empty_hash in
    let lru = c.grow.new.self in
    let grown : lru ≡ record c.new-lru.result { room = config.frames } = search rules in
    let tenants : length c.in_ok-vec.field-0.items ≡ config.frames = search rules in
    let newest : c.in_ok-vec-2.field-0.items ≡ replicate config.frames None = search rules in
    let history : reverse c.new.result.items ≡ [] = ap reverse c.new.ensures.items in (
      kept_as history refl refl refl refl refl refl
          (kept_new config (home hash.field-0) c.in_ok-vec.field-0.items c.in_ok-free_frames.field-0.items _ _ lru _ c.requires.start.one hash.ensures.empty tenants c.in_ok-free_frames.ensures.items
          (ap (λ (v : View). v.numbers) grown ∙ ap (λ (v : View). v.numbers) c.new-lru.ensures)
          (ap (λ (v : View). v.order) grown ∙ ap (λ (v : View). v.order) c.new-lru.ensures)
          (ap (λ (v : View). v.room) grown) c.in_ok-free_frames.ensures.room newest c.in_ok-empty_flush.ensures),
      hash.ensures.room,
    )
