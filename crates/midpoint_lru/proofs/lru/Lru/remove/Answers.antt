use Rattle.std.proofs.Common.{◌≡◌, ◌∙◌, ◌+◌, ◌==◌, ℕ, sym, ap, subst, arith}
use Rattle.page_ids.specs.Midpoint.{evict}
use Rattle.midpoint_lru.specs.View.{View}
use Rattle.midpoint_lru.specs.Parts.{Parts}
use Rattle.midpoint_lru.specs.Inside.{AreListedOnce}
use Rattle.midpoint_lru.proofs.Frames.{frames-evict}
use Rattle.midpoint_lru.proofs.Rules.{frames_of, evicts_is, seen, exact_settled}
use Rattle.midpoint_lru.proofs.lru.Lru.remove.Goals as goal

pub returns : goal.returns
returns c =
    let a = c.self.inside in
    let v = c.args.self.now in
    let both = λ (q : Parts). q.listed in
    let listed = ap both c.settle.ensures ∙ ap both c.take.ensures in
    let room = ap (λ (q : Parts). q.room) c.settle.ensures ∙ ap (λ (q : Parts). q.room) c.take.ensures in
    seen a v c.self.view_is c.settle.new.self (a.evicts + 1) (evict ◌==◌ c.args.frame v.order)
    (subst (λ (w : View). c.settle.new.self.listed ≡ (evict ◌==◌ c.args.frame w.order).listed) c.self.view_is listed) (ap {B = ℕ} (λ n. n + 1) (evicts_is a v c.self.view_is)) room

pub invariant_of-self : goal.invariant_of-self
invariant_of-self c = record {
  percent = c.self.invariant.percent;
  counted = omega (arith, c.requires.few, evicts_is c.self.inside c.args.self.now c.self.view_is);
  exact = exact_settled c.self.inside c.settle.new.self c.take.new.self _ _ c.settle.ensures c.old_length-old.ensures.old c.len.ensures.len;
  frames = subst AreListedOnce (sym (returns c)) (frames-evict c.args.self.now c.args.frame (frames_of c.self.inside c.args.self.now c.self.view_is c.self.invariant) c.requires.listed);
}
