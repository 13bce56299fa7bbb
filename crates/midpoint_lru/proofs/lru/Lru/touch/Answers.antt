use Rattle.std.proofs.Common.{◌≡◌, ◌∙◌, ◌<◌, ◌==◌, ◌∷◌, ℕ, true, false, cond, Some, length, sym, ap, subst, arith, unwrap_or}
use Rattle.std.specs.Prelude.{remove, slice_get, slice_set}
use Rattle.page_ids.specs.Midpoint.{Listed, place_of, touch}
use Rattle.midpoint_lru.specs.View.{View}
use Rattle.midpoint_lru.specs.Parts.{Parts}
use Rattle.midpoint_lru.specs.Inside.{view_of, AreListedOnce}
use Rattle.page_ids.proofs.midpoint.Order.{length-touch}
use Rattle.midpoint_lru.specs.declared.lru.Touch.{Touch}
use Rattle.midpoint_lru.specs.declared.lru.Touch.TheVariants.{Stayed, Young}
use Rattle.midpoint_lru.specs.Sublists.{listed_as}
use Rattle.midpoint_lru.proofs.Frames.{frames-touch, below_there, out_after}
use Rattle.midpoint_lru.proofs.Rules.{frames_of, is_in, evicts_is, seen, exact_settled, exact_still, young_is, touched_is}
use Rattle.midpoint_lru.proofs.lru.Lru.touch.Goals as goal

pub put_first-requires : goal.put_first-requires
put_first-requires c =
    let a = c.self.inside in
    let there = is_in a c.args.self.now c.self.view_is c.args.frame c.requires in
    record {
      room = omega (arith, ap (λ (q : Parts). q.room) c.take.ensures, below_there (view_of a) c.args.frame c.self.invariant.frames there);
      away = λ l. out_after (view_of a) c.args.frame c.self.invariant.frames there
          (subst (λ xs. place_of ◌==◌ c.args.frame xs < length xs) (ap (λ (q : Parts). q.listed) c.take.ensures) l);
    }

-- a touch that moves the frame
pub returns-then-moves-clause-order : goal.returns-then-moves-clause-order
returns-then-moves-clause-order c =
    let a = c.self.inside in
    let v = c.args.self.now in
    let f = c.args.frame in
    let x = listed_as f c.judge-moves.result.0 in
    let listed_of = λ (q : Parts). q.listed in
    let room_of = λ (q : Parts). q.room in
    let node = λ (first since : ℕ). let y : Listed ℕ = record { key = f; first = Some first; since = since } in y in
    let listed : c.settle.new.self.listed ≡ node (unwrap_or x.first c.args.now) a.evicts ∷ remove a.parts.listed (place_of ◌==◌ f a.parts.listed) =
    ap listed_of c.settle.ensures ∙ ap listed_of c.put_first.ensures
    ∙ ap (λ n. node n a.evicts ∷ c.take.new.self.listed) c.unwrap_or.ensures
    ∙ ap (λ ys. node (unwrap_or x.first c.args.now) a.evicts ∷ ys) (ap listed_of c.take.ensures) in
    let moved = subst (λ (w : View). c.settle.new.self.listed ≡ node (unwrap_or x.first c.args.now) w.order.evicts ∷ remove w.order.listed (place_of ◌==◌ f w.order.listed)) c.self.view_is listed in
    seen a v c.self.view_is c.settle.new.self a.evicts (touch ◌==◌ v.numbers f c.args.now v.order)
    (moved ∙ sym (touched_is v f c.args.now x c.judge-moves.ensures.found true (sym c.if-moves.true ∙ c.judge-moves.ensures.moves))) (evicts_is a v c.self.view_is)
    (ap room_of c.settle.ensures ∙ ap room_of c.put_first.ensures ∙ ap room_of c.take.ensures)

pub returns-then-moves-clause-answer : goal.returns-then-moves-clause-answer
returns-then-moves-clause-answer c =
    let x = listed_as c.args.frame c.judge-moves.result.0 in
    sym (ap (λ b. cond {A = Touch} b Young Stayed) (young_is c.args.self.now c.args.frame c.args.now x c.judge-moves.ensures.found true (sym c.if-moves.true ∙ c.judge-moves.ensures.moves)))

-- and one that doesn't
pub returns-else-moves-clause-order : goal.returns-else-moves-clause-order
returns-else-moves-clause-order c =
    let v = c.args.self.now in
    let f = c.args.frame in
    let x = listed_as f c.judge-moves.result.0 in
    let found = subst (λ (w : View). slice_get w.order.listed (place_of ◌==◌ f w.order.listed) ≡ Some x) (sym c.self.view_is) c.judge-moves.ensures.found in
    let wrote = c.set_first.ensures x found in
    let node = λ (first : ℕ). let y : Listed ℕ = record { key = f; first = Some first; since = x.since } in y in
    let listed = ap (λ (q : Parts). q.listed) wrote ∙ ap (λ n. slice_set c.self.inside.parts.listed (place_of ◌==◌ f c.self.inside.parts.listed) (node n)) c.unwrap_or.ensures in
    let stayed = subst (λ (w : View). c.set_first.new.self.listed ≡ slice_set w.order.listed (place_of ◌==◌ f w.order.listed) (node (unwrap_or x.first c.args.now))) c.self.view_is listed in
    seen c.self.inside v c.self.view_is c.set_first.new.self c.self.inside.evicts (touch ◌==◌ v.numbers f c.args.now v.order)
    (stayed ∙ sym (touched_is v f c.args.now x c.judge-moves.ensures.found false (sym c.if-moves.false ∙ c.judge-moves.ensures.moves))) (evicts_is c.self.inside v c.self.view_is) (ap (λ (q : Parts). q.room) wrote)

pub returns-else-moves-clause-answer : goal.returns-else-moves-clause-answer
returns-else-moves-clause-answer c =
    let x = listed_as c.args.frame c.judge-moves.result.0 in
    sym (ap (λ b. cond {A = Touch} b Young Stayed) (young_is c.args.self.now c.args.frame c.args.now x c.judge-moves.ensures.found false (sym c.if-moves.false ∙ c.judge-moves.ensures.moves)))

pub invariant_of-self : goal.invariant_of-self
invariant_of-self c = record {
  percent = c.self.invariant.percent;
  counted = c.self.invariant.counted;
  exact = exact_settled c.self.inside c.settle.new.self c.put_first.new.self _ _ c.settle.ensures c.old_length-old.ensures.old c.len.ensures.len;
  frames = subst AreListedOnce (sym (returns-then-moves-clause-order c)) (frames-touch c.args.self.now c.args.frame c.args.now (frames_of c.self.inside c.args.self.now c.self.view_is c.self.invariant));
}

pub invariant_of-self-else-moves : goal.invariant_of-self-else-moves
invariant_of-self-else-moves c =
    let v = c.args.self.now in
    let is = returns-else-moves-clause-order c in
    let found = subst (λ (w : View). slice_get w.order.listed (place_of ◌==◌ c.args.frame w.order.listed) ≡ Some (listed_as c.args.frame c.judge-moves.result.0)) (sym c.self.view_is) c.judge-moves.ensures.found in
    let same = ap (λ (w : View). length w.order.listed) is ∙ length-touch ◌==◌ v.numbers c.args.frame c.args.now v.order ∙ ap (λ (w : View). length w.order.listed) (sym c.self.view_is) in
    record {
      percent = c.self.invariant.percent;
      counted = c.self.invariant.counted;
      exact = exact_still c.self.inside c.set_first.new.self c.self.invariant (ap (λ (q : Parts). q.old_len) (c.set_first.ensures _ found)) same;
      frames = subst AreListedOnce (sym is) (frames-touch v c.args.frame c.args.now (frames_of c.self.inside v c.self.view_is c.self.invariant));
    }
