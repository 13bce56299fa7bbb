use Rattle.std.proofs.Common.{sym, rules, arith, ◌≡◌, ◌≤◌, ◌+◌, ◌-◌, length, ap, IfSome, refl}
use Rattle.redo_mark.specs.Pending.{joined, IsKeptBetween}
use Rattle.redo_mark.proofs.Telling.{farther}
use Rattle.redo_mark.proofs.Marks.{kept_of_log, later_same, settled_uncovered, bytes_uncovered, bytes_covered, settled_durable, grown_uncovered, grown_durable}
use Rattle.redo_mark.proofs.log.Log.cover.Goals as goal

pub returns-then-lsn-self-clause-kept : goal.returns-then-lsn-self-clause-kept
returns-then-lsn-self-clause-kept g c = rw (← c.self.view_is) (kept_of_log _ _ _ _ (g.R.RedoDisk.seen c.self.inside.disk).faults _ _ c.self.invariant.low c.self.invariant.ends c.self.invariant.settled)

pub returns-then-lsn-self-2-clause-kept : goal.returns-then-lsn-self-2-clause-kept
returns-then-lsn-self-2-clause-kept g c = rw (← c.self.view_is) (kept_of_log _ _ _ _ (g.R.RedoDisk.seen c.self.inside.disk).faults _ _ c.self.invariant.low c.self.invariant.ends c.self.invariant.settled)

pub invariant_of-self : goal.invariant_of-self
invariant_of-self g c =
    let same : (g.R.RedoDisk.seen c.write_through.new.disk).opened ≡ (g.R.RedoDisk.seen c.self.inside.disk).opened = search rules in
    let settled = settled_uncovered (g.R.RedoDisk.seen c.self.inside.disk).opened (c.self.inside.durable - c.self.inside.first) _ (g.R.RedoDisk.seen c.self.inside.disk).told (g.R.RedoDisk.seen c.write_through.new.disk).told (omega (arith, c.self.invariant.low)) c.self.invariant.settled c.in-Err.ensures.err in
    record {
      low = rw same c.self.invariant.low;
      ends = c.self.invariant.ends;
      limit = c.self.invariant.limit;
      few = c.self.invariant.few;
      reached = search rules;
      settled = rw same settled;
      whole = rw (same, bytes_uncovered (g.R.RedoDisk.seen c.self.inside.disk).opened (c.self.inside.durable - c.self.inside.first) (c.self.inside.durable - c.self.inside.first) _ _ _ c.self.inside.pending c.in-Err.ensures.err) c.self.invariant.whole;
    }

pub returns-in-Err-clause-kept : goal.returns-in-Err-clause-kept
returns-in-Err-clause-kept g c =
    let same : (g.R.RedoDisk.seen c.write_through.new.disk).opened ≡ (g.R.RedoDisk.seen c.self.inside.disk).opened = search rules in
    let settled = settled_uncovered (g.R.RedoDisk.seen c.self.inside.disk).opened (c.self.inside.durable - c.self.inside.first) _ (g.R.RedoDisk.seen c.self.inside.disk).told (g.R.RedoDisk.seen c.write_through.new.disk).told (omega (arith, c.self.invariant.low)) c.self.invariant.settled c.in-Err.ensures.err in
    rw same (kept_of_log _ _ _ _ (g.R.RedoDisk.seen c.write_through.new.disk).faults _ _ c.self.invariant.low c.self.invariant.ends settled)

pub returns-clause-kept : goal.returns-clause-kept
returns-clause-kept g c =
    let laws = g.met.R.RedoDisk g.world.𝓛 g.world.𝓜 g.world.𝓡 ((λ s x. x), (λ x. x), (λ x. x), λ x. x) in
    let n = c.self.inside.durable - c.self.inside.first in
    let to = c.self.inside.end - c.self.inside.first in
    let disk = c.write_through.new.disk in
    let same : (g.R.RedoDisk.seen disk).opened ≡ (g.R.RedoDisk.seen c.self.inside.disk).opened = search rules in
    let none : length (joined c.clear.new.self) ≡ 0 = ap (λ l. length (joined l)) c.clear.ensures in
    let far : to ≤ (g.R.RedoDisk.seen disk).reach = omega (arith, c.in-Ok.ensures.reached, c.self.invariant.low, c.self.invariant.ends) in
    let settled : IfSome (g.R.RedoDisk.seen disk).told (IsKeptBetween (g.R.RedoDisk.seen disk).opened to) =
    settled_durable _ n to (joined c.self.inside.pending) _ _ (farther to _ _ far (laws.sized disk).written) c.in-Ok.ensures.ok in
    kept_of_log _ _ _ _ (g.R.RedoDisk.seen disk).faults _ _ (omega (arith, same, c.self.invariant.low, c.self.invariant.ends)) (omega (arith, none)) settled

pub returns-clause-later : goal.returns-clause-later
returns-clause-later g c =
    let laws = g.met.R.RedoDisk g.world.𝓛 g.world.𝓜 g.world.𝓡 ((λ s x. x), (λ x. x), (λ x. x), λ x. x) in
    let same : (g.R.RedoDisk.seen c.write_through.new.disk).opened ≡ (g.R.RedoDisk.seen c.self.inside.disk).opened = search rules in
    let bytes = bytes_covered _ _ c.self.inside.first c.self.inside.durable c.self.inside.end (g.R.RedoDisk.seen c.self.inside.disk).told (g.R.RedoDisk.seen c.write_through.new.disk).told c.self.inside.pending c.clear.new.self same c.self.invariant.low c.self.invariant.ends c.clear.ensures (farther (c.self.inside.durable - c.self.inside.first) _ (g.R.RedoDisk.seen c.self.inside.disk).told c.self.invariant.reached (laws.sized c.self.inside.disk).written) c.self.invariant.settled c.in-Ok.ensures.ok in
    rw (← c.self.view_is) (later_same _ _ refl (ap (λ k. c.self.inside.first + k) same) (omega (arith, c.self.invariant.ends)) (omega arith) c.write_through.ensures.later bytes)

pub returns-clause-whole : goal.returns-clause-whole
returns-clause-whole g c =
    let laws = g.met.R.RedoDisk g.world.𝓛 g.world.𝓜 g.world.𝓡 ((λ s x. x), (λ x. x), (λ x. x), λ x. x) in
    let same : (g.R.RedoDisk.seen c.write_through.new.disk).opened ≡ (g.R.RedoDisk.seen c.self.inside.disk).opened = search rules in
    let bytes = bytes_covered _ _ c.self.inside.first c.self.inside.durable c.self.inside.end (g.R.RedoDisk.seen c.self.inside.disk).told (g.R.RedoDisk.seen c.write_through.new.disk).told c.self.inside.pending c.clear.new.self same c.self.invariant.low c.self.invariant.ends c.clear.ensures (farther (c.self.inside.durable - c.self.inside.first) _ (g.R.RedoDisk.seen c.self.inside.disk).told c.self.invariant.reached (laws.sized c.self.inside.disk).written) c.self.invariant.settled c.in-Ok.ensures.ok in
    rw (bytes, same) c.self.invariant.whole

pub invariant_of-self-2 : goal.invariant_of-self-2
invariant_of-self-2 g c =
    let laws = g.met.R.RedoDisk g.world.𝓛 g.world.𝓜 g.world.𝓡 ((λ s x. x), (λ x. x), (λ x. x), λ x. x) in
    let n = c.self.inside.durable - c.self.inside.first in
    let same : (g.R.RedoDisk.seen c.write_through.new.disk).opened ≡ (g.R.RedoDisk.seen c.self.inside.disk).opened = search rules in
    let inside = farther (c.self.inside.durable - c.self.inside.first) _ (g.R.RedoDisk.seen c.self.inside.disk).told c.self.invariant.reached (laws.sized c.self.inside.disk).written in
    let bytes = bytes_covered _ _ c.self.inside.first c.self.inside.durable c.self.inside.end (g.R.RedoDisk.seen c.self.inside.disk).told (g.R.RedoDisk.seen c.write_through.new.disk).told c.self.inside.pending c.clear.new.self same c.self.invariant.low c.self.invariant.ends c.clear.ensures inside c.self.invariant.settled c.in-Ok.ensures.ok in
    let to : c.self.inside.end - c.self.inside.first ≡ n + length (joined c.self.inside.pending) = omega (arith, c.self.invariant.low, c.self.invariant.ends) in
    let none : length (joined c.clear.new.self) ≡ 0 = ap (λ l. length (joined l)) c.clear.ensures in
    let far : c.self.inside.end - c.self.inside.first ≤ (g.R.RedoDisk.seen c.write_through.new.disk).reach = omega (arith, to, c.in-Ok.ensures.reached) in
    let written = farther _ _ _ far (laws.sized c.write_through.new.disk).written in
    record {
      low = omega (arith, same, c.self.invariant.low, c.self.invariant.ends);
      ends = omega (arith, none);
      limit = c.self.invariant.limit;
      few = rw c.clear.ensures (omega arith);
      reached = far;
      settled = settled_durable _ n (c.self.inside.end - c.self.inside.first) (joined c.self.inside.pending) _ _ written c.in-Ok.ensures.ok;
      whole = rw (bytes, same) c.self.invariant.whole;
    }

pub returns-in-Err-clause-grown : goal.returns-in-Err-clause-grown
returns-in-Err-clause-grown g c =
    let same : (g.R.RedoDisk.seen c.write_through.new.disk).opened ≡ (g.R.RedoDisk.seen c.self.inside.disk).opened = search rules in
    rw (← c.self.view_is) (λ opening was. rw same (grown_uncovered (g.R.RedoDisk.seen c.self.inside.disk).opened (c.self.inside.durable - c.self.inside.first) _ _ opening _ _
    (omega (arith, c.self.invariant.low)) (omega (arith, c.self.invariant.low, c.self.invariant.ends)) was c.in-Err.ensures.err))

pub returns-clause-grown : goal.returns-clause-grown
returns-clause-grown g c =
    let laws = g.met.R.RedoDisk g.world.𝓛 g.world.𝓜 g.world.𝓡 ((λ s x. x), (λ x. x), (λ x. x), λ x. x) in
    let n = c.self.inside.durable - c.self.inside.first in
    let same : (g.R.RedoDisk.seen c.write_through.new.disk).opened ≡ (g.R.RedoDisk.seen c.self.inside.disk).opened = search rules in
    let inside = farther (c.self.inside.durable - c.self.inside.first) _ (g.R.RedoDisk.seen c.self.inside.disk).told c.self.invariant.reached (laws.sized c.self.inside.disk).written in
    let to : c.self.inside.end - c.self.inside.first ≡ n + length (joined c.self.inside.pending) = omega (arith, c.self.invariant.low, c.self.invariant.ends) in
    let far : c.self.inside.end - c.self.inside.first ≤ (g.R.RedoDisk.seen c.write_through.new.disk).reach = omega (arith, to, c.in-Ok.ensures.reached) in
    let written = farther _ _ _ far (laws.sized c.write_through.new.disk).written in
    rw (← c.self.view_is) (λ opening was. rw same (grown_durable (g.R.RedoDisk.seen c.self.inside.disk).opened n _ (joined c.self.inside.pending) opening _ _
    (omega (arith, c.self.invariant.low)) (sym to) inside written was c.in-Ok.ensures.ok))
