use Rattle.std.proofs.Common.{◌≡◌, ◌∙◌, ◌==◌, length, sym, ap, subst}
use Rattle.page_ids.specs.Midpoint.{relocate}
use Rattle.midpoint_lru.specs.View.{View}
use Rattle.midpoint_lru.specs.Parts.{Parts}
use Rattle.midpoint_lru.specs.Inside.{view_of, AreListedOnce}
use Rattle.page_ids.proofs.midpoint.Order.{length-relocate}
use Rattle.midpoint_lru.proofs.Frames.{frames-relocate}
use Rattle.midpoint_lru.proofs.Rules.{frames_of, there_is, evicts_is, seen, exact_still, relocated_is}
use Rattle.midpoint_lru.proofs.lru.Lru.relocate.Goals as goal

pub returns : goal.returns
returns c =
    let a = c.self.inside in
    let v = c.args.self.now in
    let there = there_is a v c.self.view_is c.args.old c.requires.listed in
    let replaced = c.replace.ensures _ there in
    let listed = ap (λ (q : Parts). q.listed) replaced ∙ sym (relocated_is (view_of a) c.args.old c.args.new _ there) in
    seen a v c.self.view_is c.replace.new.self a.evicts (relocate ◌==◌ c.args.old c.args.new v.order)
    (subst (λ (w : View). c.replace.new.self.listed ≡ (relocate ◌==◌ c.args.old c.args.new w.order).listed) c.self.view_is listed) (evicts_is a v c.self.view_is) (ap (λ (q : Parts). q.room) replaced)

pub invariant_of-self : goal.invariant_of-self
invariant_of-self c =
    let v = c.args.self.now in
    let replaced = c.replace.ensures _ (there_is c.self.inside v c.self.view_is c.args.old c.requires.listed) in
    let same = ap (λ (w : View). length w.order.listed) (returns c) ∙ length-relocate ◌==◌ c.args.old c.args.new v.order ∙ ap (λ (w : View). length w.order.listed) (sym c.self.view_is) in
    record {
      percent = c.self.invariant.percent;
      counted = c.self.invariant.counted;
      exact = exact_still c.self.inside c.replace.new.self c.self.invariant (ap (λ (q : Parts). q.old_len) replaced) same;
      frames = subst AreListedOnce (sym (returns c)) (frames-relocate v c.args.old c.args.new (frames_of c.self.inside v c.self.view_is c.self.invariant) c.requires.listed c.requires.new);
    }
