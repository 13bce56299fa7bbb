use Rattle.std.proofs.Common.{◌≡◌, ◌∙◌, ◌-◌, ◌<◌, ◌==◌, ℕ, cond, None, length, sym, ap, subst, arith}
use Rattle.std.specs.Prelude.{insert}
use Rattle.page_ids.specs.Midpoint.{Listed, place_of, read_in}
use Rattle.midpoint_lru.specs.View.{View}
use Rattle.midpoint_lru.specs.Parts.{Parts}
use Rattle.midpoint_lru.specs.Inside.{AreListedOnce}
use Rattle.midpoint_lru.proofs.Frames.{frames-read_in}
use Rattle.midpoint_lru.proofs.Rules.{frames_of, room_is, evicts_is, seen, exact_settled}
use Rattle.midpoint_lru.proofs.lru.Lru.read_in.Goals as goal

pub put_between-requires : goal.put_between-requires
put_between-requires c =
    let a = c.self.inside in
    let v = c.args.self.now in
    let room = room_is a v c.self.view_is in
    let away = c.requires.away in record {
      room = omega (arith, c.requires.room, room);
      away = λ l. away (subst (λ (w : View). place_of ◌==◌ c.args.frame w.order.listed < length w.order.listed) c.self.view_is l);
    }

pub returns : goal.returns
returns c =
    let a = c.self.inside in
    let v = c.args.self.now in
    let node : Listed ℕ = record { key = c.args.frame; first = None; since = a.evicts } in
    let both = λ (q : Parts). q.listed in
    let listed = ap both c.settle.ensures ∙ ap both c.put_between.ensures
    ∙ ap (λ n. insert a.parts.listed (cond (n == 0) 0 (length a.parts.listed - n)) node) c.self.invariant.exact in
    let room = ap (λ (q : Parts). q.room) c.settle.ensures ∙ ap (λ (q : Parts). q.room) c.put_between.ensures in
    seen a v c.self.view_is c.settle.new.self a.evicts (read_in v.numbers c.args.frame v.order)
    (subst (λ (w : View). c.settle.new.self.listed ≡ (read_in w.numbers c.args.frame w.order).listed) c.self.view_is listed) (evicts_is a v c.self.view_is) room

pub invariant_of-self : goal.invariant_of-self
invariant_of-self c = record {
  percent = c.self.invariant.percent;
  counted = c.self.invariant.counted;
  exact = exact_settled c.self.inside c.settle.new.self c.put_between.new.self _ _ c.settle.ensures c.old_length-old.ensures.old c.len.ensures.len;
  frames = subst AreListedOnce (sym (returns c)) (frames-read_in c.args.self.now c.args.frame (frames_of c.self.inside c.args.self.now c.self.view_is c.self.invariant) c.requires);
}
