use Rattle.std.proofs.Common.{rules, arith, ◌≡◌, ◌+◌, ◌++◌, length, refl, sym, ap, ◌∙◌}
use Rattle.std.proofs.lemmas.List.{length-append, append-nil}
use Rattle.redo_mark.specs.Records.{sealed, head_of, record_of}
use Rattle.redo_mark.specs.Pending.{joined}
use Rattle.redo_mark.proofs.Chains.{whole_appended}
use Rattle.redo_mark.proofs.Marks.{joined_more, sealed_size, holds_appended, longer_appended, later_appended, kept_of_log, grown_longer}
use Rattle.redo_mark.proofs.log.Log.append.Goals as goal

pub returns-then-start-len-clause-kept : goal.returns-then-start-len-clause-kept
returns-then-start-len-clause-kept g c = rw (← c.self.view_is) (kept_of_log _ _ _ _ (g.R.RedoDisk.seen c.self.inside.disk).faults _ _ c.self.invariant.low c.self.invariant.ends c.self.invariant.settled)

pub returns-clause-record : goal.returns-clause-record
returns-clause-record g c =
    let is = joined_more c.self.inside.pending c.seal_node.new.node c.append.new.self (sealed c.args.draft c.self.inside.end) (search rules) (search rules) in
    let size = sealed_size c.args.draft c.self.inside.end c.draft_len-len.result (search rules) in
    rw (← size) (holds_appended c.self.inside.first c.self.inside.durable c.self.inside.end _ _ _ (g.R.RedoDisk.seen c.self.inside.disk).told c.self.inside.pending c.append.new.self
    (sealed c.args.draft c.self.inside.end) c.self.invariant is)

pub returns-clause-exact : goal.returns-clause-exact
returns-clause-exact g c =
    let is = joined_more c.self.inside.pending c.seal_node.new.node c.append.new.self (sealed c.args.draft c.self.inside.end) (search rules) (search rules) in
    let size = sealed_size c.args.draft c.self.inside.end c.draft_len-len.result (search rules) in
    rw (← c.self.view_is) (
      search rules,
      rw (← size) (longer_appended c.self.inside.first c.self.inside.durable c.self.inside.end _ _ (g.R.RedoDisk.seen c.self.inside.disk).told
          c.self.inside.pending c.append.new.self (sealed c.args.draft c.self.inside.end) is),
    )

pub returns-clause-later : goal.returns-clause-later
returns-clause-later g c =
    rw (← c.self.view_is) (later_appended c.self.inside.first c.self.inside.durable c.self.inside.end _ _ (c.draft_len-len.result + 8) (g.R.RedoDisk.seen c.self.inside.disk).told
    c.self.inside.pending c.append.new.self (joined c.seal_node.new.node) (joined_more c.self.inside.pending c.seal_node.new.node c.append.new.self _ (search rules) refl))

pub returns-clause-kept : goal.returns-clause-kept
returns-clause-kept g c =
    let is = joined_more c.self.inside.pending c.seal_node.new.node c.append.new.self (sealed c.args.draft c.self.inside.end) (search rules) (search rules) in
    let size = sealed_size c.args.draft c.self.inside.end c.draft_len-len.result (search rules) in
    let sum = ap length is ∙ length-append (joined c.self.inside.pending) (sealed c.args.draft c.self.inside.end) in
    kept_of_log _ _ _ _ (g.R.RedoDisk.seen c.self.inside.disk).faults _ _ c.self.invariant.low (omega (arith, sum, size, c.self.invariant.ends)) c.self.invariant.settled

pub returns-clause-whole : goal.returns-clause-whole
returns-clause-whole g c =
    let drafted = c.into_node-node.ensures.draft in
    let head : c.args.draft ≡ head_of drafted.1 = sym c.into_node-node.ensures.bytes ∙ ap joined drafted.2 ∙ append-nil drafted.0.items ∙ drafted.5 in
    let piece : joined c.seal_node.new.node ≡ sealed c.args.draft c.self.inside.end = search rules in
    let is = joined_more c.self.inside.pending c.seal_node.new.node c.append.new.self (record_of drafted.1 c.self.inside.end) (search rules) (piece ∙ ap (λ h. sealed h c.self.inside.end) head) in
    whole_appended c.self.inside.first c.self.inside.durable c.self.inside.end _ _ c.self.inside.pending c.append.new.self drafted.1
    c.self.invariant.low c.self.invariant.ends c.self.invariant.settled drafted.4 is c.self.invariant.whole

pub invariant_of-self : goal.invariant_of-self
invariant_of-self g c =
    let drafted = c.into_node-node.ensures.draft in
    let head : c.args.draft ≡ head_of drafted.1 = sym c.into_node-node.ensures.bytes ∙ ap joined drafted.2 ∙ append-nil drafted.0.items ∙ drafted.5 in
    let piece : joined c.seal_node.new.node ≡ sealed c.args.draft c.self.inside.end = search rules in
    let is = joined_more c.self.inside.pending c.seal_node.new.node c.append.new.self (record_of drafted.1 c.self.inside.end) (search rules) (piece ∙ ap (λ h. sealed h c.self.inside.end) head) in
    let size = sealed_size c.args.draft c.self.inside.end c.draft_len-len.result (search rules) in
    let same : length (record_of drafted.1 c.self.inside.end) ≡ length (sealed c.args.draft c.self.inside.end) = ap (λ h. length (sealed h c.self.inside.end)) (sym head) in
    let sum = ap length is ∙ length-append (joined c.self.inside.pending) (record_of drafted.1 c.self.inside.end) in
    let whole : c.append.new.self ≡ c.self.inside.pending ++ c.seal_node.new.node = search rules in
    let nodes = ap length whole ∙ length-append c.self.inside.pending c.seal_node.new.node in
    record {
      low = c.self.invariant.low;
      ends = omega (arith, sum, same, size, c.self.invariant.ends);
      limit = search rules;
      few = omega (arith, sum, same, size, nodes, c.seal_node.ensures.len, c.self.invariant.few);
      reached = c.self.invariant.reached;
      settled = c.self.invariant.settled;
      whole = whole_appended c.self.inside.first c.self.inside.durable c.self.inside.end _ _ c.self.inside.pending c.append.new.self drafted.1
          c.self.invariant.low c.self.invariant.ends c.self.invariant.settled drafted.4 is c.self.invariant.whole;
    }

pub returns-clause-grown : goal.returns-clause-grown
returns-clause-grown g c = rw (← c.self.view_is) (λ opening was. grown_longer _ _ _ _ opening _ (omega arith) was)
