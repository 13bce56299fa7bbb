use Rattle.std.proofs.Common.{max, sym, subst}
use Rattle.std.proofs.Math.Nat.{le-max_left}
use Rattle.midpoint_lru.specs.Parts.{Parts}
use Rattle.midpoint_lru.specs.Inside.{view_of, IsKept}
use Rattle.midpoint_lru.proofs.Frames.{frames-grow}
use Rattle.midpoint_lru.proofs.lru.Lru.grow.Goals as goal

pub invariant_of-self-2 : goal.invariant_of-self-2
invariant_of-self-2 c =
    let a = c.self.inside in
    let k = c.self.invariant in
    let more = le-max_left a.parts.room c.args.frames in
    subst (λ (q : Parts). IsKept (record a { parts = q })) (sym c.in_ok-grow.ensures.ok) (record {
      percent = k.percent;
      counted = k.counted;
      exact = k.exact;
      frames = frames-grow (view_of a) (max a.parts.room c.args.frames) more k.frames;
    })
