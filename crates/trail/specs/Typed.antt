-- Trails whose numbers fit the types of their fields.
use Rattle.std.specs.Prelude.{ℕ, List, [], ◌∷◌, ◌≡◌, ◌+◌, ◌<◌, ◌^◌, length}
use Rattle.page_ids.specs.Typed.{IsU32, IsU64, FitsId, IsWord, AreBytes, ArePages, AreFrameWords}
use Rattle.page_ids.specs.declared.layout.BadPage.{BadPage}
use Rattle.page_ids.specs.declared.layout.BadPage.TheVariants as bad
use Rattle.trail.specs.declared.event.Call.{Call}
use Rattle.trail.specs.declared.event.Call.TheVariants as call
use Rattle.trail.specs.declared.event.Cause.{Cause}
use Rattle.trail.specs.declared.event.Cause.TheVariants as cause
use Rattle.trail.specs.declared.event.Kind.{Kind}
use Rattle.trail.specs.declared.event.Kind.TheVariants as kind
use Rattle.trail.specs.declared.event.Note.{Note}
use Rattle.trail.specs.declared.event.Note.TheVariants as note
use Rattle.trail.specs.declared.event.Event.{Event}
use Rattle.trail.specs.declared.event.Event.TheVariants as event
use Rattle.trail.specs.Trails.{Events}

abbrev pub BadFits : BadPage → Type 0
BadFits (bad.Number found) = IsU32 found
BadFits (bad.Space found) = IsU32 found
BadFits (bad.Torn head tail) = IsU32 head × IsU32 tail

abbrev pub CallFits : Call → Type 0
CallFits (call.Fix p now) = FitsId p × IsU64 now
CallFits (call.Create p now) = FitsId p × IsU64 now
CallFits (call.Put p at bytes) = FitsId p × IsU32 at × AreBytes bytes
CallFits (call.Read p at len) = FitsId p × IsU32 at × IsU32 len
CallFits (call.Unfix p) = FitsId p
CallFits (call.Guess p frame clock) = FitsId p × IsU32 frame × IsU64 clock
CallFits (call.Watch p) = FitsId p
CallFits (call.Occurred p) = FitsId p
CallFits (call.Unwatch p) = FitsId p
CallFits (call.Clean bound) = IsU32 bound
CallFits call.Check = Unit {0}
CallFits (call.Dump pct) = IsU32 pct
CallFits (call.Resize bytes rounds) = IsU64 bytes × IsU32 rounds

abbrev pub CauseFits : Cause → Type 0
CauseFits (cause.PlacesSpent mark need) = IsU64 mark × IsU64 need
CauseFits (cause.NoSuchPage pages) = IsU32 pages
CauseFits (cause.HoldFull held) = IsU32 held
CauseFits (cause.Resident frame) = IsU32 frame
CauseFits (cause.AllFixed seen) = AreFrameWords seen
CauseFits (cause.RedoFault before after) = IsU64 before × IsU64 after
CauseFits (cause.DiskFault before after) = IsU64 before × IsU64 after
CauseFits (cause.BadPage why) = BadFits why
CauseFits (cause.LogSpent end) = IsU64 end
CauseFits (cause.WatchFull watches) = IsU32 watches
CauseFits cause.NoWatch = Unit {0}
CauseFits cause.TooSmall = Unit {0}
CauseFits (cause.TooLarge chunks max) = IsU32 chunks × IsU32 max
CauseFits (cause.Withdrawing from) = IsU32 from
CauseFits (cause.Undone seen) = AreFrameWords seen
CauseFits (cause.NoFrame frames) = IsU32 frames
CauseFits (cause.Stale found) = IsWord found
CauseFits (cause.OtherPage found) = FitsId found
CauseFits (cause.Latched found) = IsWord found
CauseFits (cause.Busy found) = IsWord found
CauseFits cause.Unheld = Unit {0}

abbrev pub KindFits : Kind → Type 0
KindFits (kind.Load p frame) = FitsId p × IsU32 frame
KindFits (kind.Fix p frame clock now) = FitsId p × IsU32 frame × IsU64 clock × IsU64 now
KindFits (kind.Create p frame start end now) = FitsId p × IsU32 frame × IsU64 start × IsU64 end × IsU64 now
KindFits (kind.Put p at bytes start end) = FitsId p × IsU32 at × AreBytes bytes × IsU64 start × IsU64 end
KindFits (kind.Evict p frame passed) = FitsId p × IsU32 frame × AreFrameWords passed
KindFits (kind.Write p lsn upto) = FitsId p × IsU64 lsn × IsU64 upto
KindFits (kind.Move p from to) = FitsId p × IsU32 from × IsU32 to
KindFits (kind.Withdraw from) = IsU32 from
KindFits (kind.Undo from) = IsU32 from
KindFits (kind.Shrink chunks) = IsU32 chunks
KindFits (kind.Grow chunks) = IsU32 chunks
KindFits (kind.Resize bytes chunks) = IsU64 bytes × IsU32 chunks
KindFits (kind.Clean written skipped) = IsU32 written × AreFrameWords skipped
KindFits (kind.Check lsn) = IsU64 lsn
KindFits (kind.WatchSet p) = FitsId p
KindFits (kind.WatchAt p frame) = FitsId p × IsU32 frame
KindFits (kind.Occurred p arrived) = FitsId p
KindFits (kind.Unwatch p) = FitsId p
KindFits (kind.Dump pct ids) = IsU32 pct × ArePages ids
KindFits (kind.Refused c why) = CallFits c × CauseFits why

abbrev pub NoteFits : Note → Type 0
NoteFits (note.Granted p frame clock) = FitsId p × IsU32 frame × IsU64 clock
NoteFits (note.Copied p at bytes clock) = FitsId p × IsU32 at × AreBytes bytes × IsU64 clock
NoteFits (note.Unfixed p frame fix) = FitsId p × IsU32 frame × IsU32 fix
NoteFits (note.Refused c why) = CallFits c × CauseFits why

abbrev pub EventFits : Event → Type 0
EventFits (event.Entry e) = IsU64 e.place × IsU32 e.caller × IsU32 e.number × KindFits e.kind
EventFits (event.Receipt r) = IsU64 r.place × IsU32 r.caller × IsU32 r.number × NoteFits r.note

abbrev pub AllFit : List Event → Type 0
AllFit [] = Unit {0}
AllFit (e ∷ es) = EventFits e × AllFit es

-- There is an entry, and the first one has the place behind `first`.
abbrev pub BeginsBehind : ℕ → List Event → Type 0
BeginsBehind first [] = ⊥
BeginsBehind first (event.Entry e ∷ es) = e.place ≡ first + 1
BeginsBehind first (event.Receipt r ∷ es) = BeginsBehind first es

-- a trail of an instance whose numbers fit their types, and whose first place its entries tell
pub record TrailFits (instance : ℕ) (t : Events) : Type 0 where
  pub numbered : instance < 2 ^ 16
  pub counted : IsU64 (length t.events)
  pub typed : AllFit t.events
  pub opens : BeginsBehind t.first t.events
