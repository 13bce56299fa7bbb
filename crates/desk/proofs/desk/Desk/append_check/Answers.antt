use Rattle.std.proofs.Common.{◌≡◌, sym, ap, ◌∙◌}
use Rattle.page_ids.specs.Size.{page_bytes}
use Rattle.page_ids.specs.declared.config.Config.{Config}
use Rattle.trail.specs.declared.event.Entry.{Entry}
use Rattle.trail.specs.declared.event.Kind.{Kind}
use Rattle.trail.specs.declared.event.Kind.TheVariants as kind
use Rattle.trail.specs.History.{home, home_after}
use Rattle.desk.proofs.desk.Desk.append_check.Goals as goal

pub invariant_of-self : goal.invariant_of-self
invariant_of-self g c =
    let s = c.self.inside in
    let kind_is : c.next-entry.result.kind ≡ kind.Check c.args.lsn = ap (λ (e : Entry). e.kind) c.next-entry.ensures in
    let size = ap (λ (x : Config). page_bytes x.page) (sym c.append.ensures.config) in (
      c.self.invariant.0 ∙ size,
      c.self.invariant.1 ∙ size,
      λ p f here. c.self.invariant.2 p f
          (ap (λ (k : Kind). home_after k p (home s.lists.history p)) (sym kind_is) ∙ ap (λ h. home h p) (sym c.append.ensures.history) ∙ here),
    )
