use Rattle.std.proofs.Common.{◌≡◌, ◌≤◌, take, count_by}
use Rattle.trail.specs.Spelling.{is_entry}
use Rattle.trail.proofs.spelling.entries_among.Given as goal

abbrev pub invariant-loop-event : goal.invariant-loop-event
invariant-loop-event l = record {
  counted : l.entries ≡ count_by is_entry (take l.event-index l.events);
  below : l.entries ≤ l.event-index;
}
