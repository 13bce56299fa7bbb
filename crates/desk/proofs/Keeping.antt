-- An entry from its parts.
use Rattle.std.proofs.Common.{ℕ}
use Rattle.trail.specs.declared.event.Entry.{Entry}
use Rattle.trail.specs.declared.event.Kind.{Kind}

abbrev pub entry_of : ℕ → ℕ → ℕ → Kind → Entry
entry_of place caller number k = record { place = place; caller = caller; number = number; kind = k }
