use Rattle.std.proofs.Common.{◌≡◌, ℕ, subst, sym, ap, ◌∙◌}
use Rattle.page_ids.specs.Size.{page_bytes}
use Rattle.page_ids.specs.declared.ids.PageId.{PageId}
use Rattle.page_ids.specs.declared.config.Config.{Config}
use Rattle.page_disk.specs.Disks.{IsInside}
use Rattle.trail.specs.declared.event.Kind.{Kind}
use Rattle.trail.specs.declared.event.Kind.TheVariants as kind
use Rattle.trail.specs.declared.event.Entry.{Entry}
use Rattle.trail.specs.History.{home, home_after}
use Rattle.desk.specs.Ledger.{ledger_of}
use Rattle.desk.proofs.Tying.{come_inside}
use Rattle.desk.proofs.desk.Desk.append.Goals as goal

pub invariant_of-self : goal.invariant_of-self
invariant_of-self g c =
    let s = c.self.inside in
    let kind_is : c.next-entry.result.kind ≡ c.args.kind = ap (λ (e : Entry). e.kind) c.next-entry.ensures in
    let new : (p : PageId) (f : ℕ) → c.args.kind ≡ kind.Load p f → IsInside (g.D.PageDisk.seen s.disk).spaces p =
    subst (λ k. (p : PageId) (f : ℕ) → c.args.kind ≡ kind.Load p f → IsInside (g.D.PageDisk.seen k.state.disk).spaces p) (sym c.self.view_is) c.requires.inside in
    let create : (p : PageId) (f start end now : ℕ) → c.args.kind ≡ kind.Create p f start end now → IsInside (g.D.PageDisk.seen s.disk).spaces p =
    subst (λ k. (p : PageId) (f start end now : ℕ) → c.args.kind ≡ kind.Create p f start end now → IsInside (g.D.PageDisk.seen k.state.disk).spaces p) (sym c.self.view_is) c.requires.made in
    let size = ap (λ (x : Config). page_bytes x.page) (sym c.append-2.ensures.config) in (
      c.self.invariant.0 ∙ size,
      c.self.invariant.1 ∙ size,
      λ p f here. come_inside (g.D.PageDisk.seen s.disk).spaces (ledger_of c.args.self.now) s.lists.history c.args.kind c.requires.may new create c.self.invariant.2 p f
          (ap (λ (k : Kind). home_after k p (home s.lists.history p)) (sym kind_is) ∙ ap (λ h. home h p) (sym c.append-2.ensures.history) ∙ here),
    )
