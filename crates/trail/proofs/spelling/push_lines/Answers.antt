use Rattle.std.proofs.Common.{rules, arith}
use Rattle.std.specs.String.{string_bytes}
use Rattle.trail.proofs.Lines.{lines_more, begins_more}
use Rattle.trail.proofs.spelling.push_lines.Goals as goal

pub loop-event-preserved : goal.loop-event-preserved
loop-event-preserved c = record {
  rest = lines_more c.args.events.now c.loop-event.event-index c.event-item.result c.loop-event.out.items (string_bytes c.in_ok-line.line) c.extend_from_slice.new.self.items _ (omega arith) c.event-item.is (search rules) (search rules) c.loop-event.invariant.rest;
  begins = begins_more _ c.loop-event.out.items _ (string_bytes c.in_ok-line.line) c.loop-event.invariant.begins (search rules);
}
