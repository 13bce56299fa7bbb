-- What an entry is about, read off its kind. Each of these writes all kinds out; what is the same for most kinds is told by them.
use Rattle.std.specs.Prelude.{ℕ, Bool, true, false, Option, None, Some}
use Rattle.page_ids.specs.declared.ids.PageId.{PageId}
use Rattle.trail.specs.declared.event.Call.{Call}
use Rattle.trail.specs.declared.event.Cause.{Cause}
use Rattle.trail.specs.declared.event.Kind.{Kind}
use Rattle.trail.specs.declared.event.Kind.TheVariants as kind
use Rattle.trail.specs.declared.event.Note.{Note}
use Rattle.trail.specs.declared.event.Note.TheVariants as note
use Rattle.trail.specs.declared.event.Event.{Event}
use Rattle.trail.specs.declared.event.Event.TheVariants as event

-- Whether the entry is the answer of its call. What a call does before it is answered comes as entries of its own.
abbrev pub kind_answers : Kind → Bool
kind_answers (kind.Load p f) = false
kind_answers (kind.Fix p f clock now) = true
kind_answers (kind.Create p f start end now) = true
kind_answers (kind.Put p at bytes start end) = true
kind_answers (kind.Evict p f passed) = false
kind_answers (kind.Write p lsn upto) = false
kind_answers (kind.Move p from to) = false
kind_answers (kind.Withdraw from) = false
kind_answers (kind.Undo from) = false
kind_answers (kind.Shrink chunks) = false
kind_answers (kind.Grow chunks) = false
kind_answers (kind.Resize bytes chunks) = true
kind_answers (kind.Clean written skipped) = true
kind_answers (kind.Check lsn) = true
kind_answers (kind.WatchSet p) = true
kind_answers (kind.WatchAt p f) = true
kind_answers (kind.Occurred p arrived) = true
kind_answers (kind.Unwatch p) = true
kind_answers (kind.Dump pct ids) = true
kind_answers (kind.Refused asked why) = true

-- a page's image was written, with its LSN, the log durable up to here
pub record Writing : Type 0 where
  pub page : PageId
  pub lsn : ℕ
  pub upto : ℕ

-- a page was changed, and the record of the change has these LSNs
pub record Changing : Type 0 where
  pub page : PageId
  pub start : ℕ
  pub end : ℕ

-- a page came into a frame, or left one
pub record Placing : Type 0 where
  pub page : PageId
  pub frame : ℕ

-- a call was refused
pub record Refusing : Type 0 where
  pub call : Call
  pub cause : Cause

abbrev pub write_in : Kind → Option Writing
write_in (kind.Load p f) = None
write_in (kind.Fix p f clock now) = None
write_in (kind.Create p f start end now) = None
write_in (kind.Put p at bytes start end) = None
write_in (kind.Evict p f passed) = None
write_in (kind.Write p lsn upto) = Some (record { page = p; lsn = lsn; upto = upto })
write_in (kind.Move p from to) = None
write_in (kind.Withdraw from) = None
write_in (kind.Undo from) = None
write_in (kind.Shrink chunks) = None
write_in (kind.Grow chunks) = None
write_in (kind.Resize bytes chunks) = None
write_in (kind.Clean written skipped) = None
write_in (kind.Check lsn) = None
write_in (kind.WatchSet p) = None
write_in (kind.WatchAt p f) = None
write_in (kind.Occurred p arrived) = None
write_in (kind.Unwatch p) = None
write_in (kind.Dump pct ids) = None
write_in (kind.Refused asked why) = None

-- a put or a create
abbrev pub change_in : Kind → Option Changing
change_in (kind.Load p f) = None
change_in (kind.Fix p f clock now) = None
change_in (kind.Create p f start end now) = Some (record { page = p; start = start; end = end })
change_in (kind.Put p at bytes start end) = Some (record { page = p; start = start; end = end })
change_in (kind.Evict p f passed) = None
change_in (kind.Write p lsn upto) = None
change_in (kind.Move p from to) = None
change_in (kind.Withdraw from) = None
change_in (kind.Undo from) = None
change_in (kind.Shrink chunks) = None
change_in (kind.Grow chunks) = None
change_in (kind.Resize bytes chunks) = None
change_in (kind.Clean written skipped) = None
change_in (kind.Check lsn) = None
change_in (kind.WatchSet p) = None
change_in (kind.WatchAt p f) = None
change_in (kind.Occurred p arrived) = None
change_in (kind.Unwatch p) = None
change_in (kind.Dump pct ids) = None
change_in (kind.Refused asked why) = None

-- a load, a create or a move, and the frame that is the page's home from then on
abbrev pub arrival_in : Kind → Option Placing
arrival_in (kind.Load p f) = Some (record { page = p; frame = f })
arrival_in (kind.Fix p f clock now) = None
arrival_in (kind.Create p f start end now) = Some (record { page = p; frame = f })
arrival_in (kind.Put p at bytes start end) = None
arrival_in (kind.Evict p f passed) = None
arrival_in (kind.Write p lsn upto) = None
arrival_in (kind.Move p from to) = Some (record { page = p; frame = to })
arrival_in (kind.Withdraw from) = None
arrival_in (kind.Undo from) = None
arrival_in (kind.Shrink chunks) = None
arrival_in (kind.Grow chunks) = None
arrival_in (kind.Resize bytes chunks) = None
arrival_in (kind.Clean written skipped) = None
arrival_in (kind.Check lsn) = None
arrival_in (kind.WatchSet p) = None
arrival_in (kind.WatchAt p f) = None
arrival_in (kind.Occurred p arrived) = None
arrival_in (kind.Unwatch p) = None
arrival_in (kind.Dump pct ids) = None
arrival_in (kind.Refused asked why) = None

-- an evict or a move, and the frame that the page left
abbrev pub departure_in : Kind → Option Placing
departure_in (kind.Load p f) = None
departure_in (kind.Fix p f clock now) = None
departure_in (kind.Create p f start end now) = None
departure_in (kind.Put p at bytes start end) = None
departure_in (kind.Evict p f passed) = Some (record { page = p; frame = f })
departure_in (kind.Write p lsn upto) = None
departure_in (kind.Move p from to) = Some (record { page = p; frame = from })
departure_in (kind.Withdraw from) = None
departure_in (kind.Undo from) = None
departure_in (kind.Shrink chunks) = None
departure_in (kind.Grow chunks) = None
departure_in (kind.Resize bytes chunks) = None
departure_in (kind.Clean written skipped) = None
departure_in (kind.Check lsn) = None
departure_in (kind.WatchSet p) = None
departure_in (kind.WatchAt p f) = None
departure_in (kind.Occurred p arrived) = None
departure_in (kind.Unwatch p) = None
departure_in (kind.Dump pct ids) = None
departure_in (kind.Refused asked why) = None

-- a granted fix or create, and the frame in which its page is fixed
abbrev pub grant_in : Kind → Option Placing
grant_in (kind.Load p f) = None
grant_in (kind.Fix p f clock now) = Some (record { page = p; frame = f })
grant_in (kind.Create p f start end now) = Some (record { page = p; frame = f })
grant_in (kind.Put p at bytes start end) = None
grant_in (kind.Evict p f passed) = None
grant_in (kind.Write p lsn upto) = None
grant_in (kind.Move p from to) = None
grant_in (kind.Withdraw from) = None
grant_in (kind.Undo from) = None
grant_in (kind.Shrink chunks) = None
grant_in (kind.Grow chunks) = None
grant_in (kind.Resize bytes chunks) = None
grant_in (kind.Clean written skipped) = None
grant_in (kind.Check lsn) = None
grant_in (kind.WatchSet p) = None
grant_in (kind.WatchAt p f) = None
grant_in (kind.Occurred p arrived) = None
grant_in (kind.Unwatch p) = None
grant_in (kind.Dump pct ids) = None
grant_in (kind.Refused asked why) = None

abbrev pub refusal_in : Kind → Option Refusing
refusal_in (kind.Load p f) = None
refusal_in (kind.Fix p f clock now) = None
refusal_in (kind.Create p f start end now) = None
refusal_in (kind.Put p at bytes start end) = None
refusal_in (kind.Evict p f passed) = None
refusal_in (kind.Write p lsn upto) = None
refusal_in (kind.Move p from to) = None
refusal_in (kind.Withdraw from) = None
refusal_in (kind.Undo from) = None
refusal_in (kind.Shrink chunks) = None
refusal_in (kind.Grow chunks) = None
refusal_in (kind.Resize bytes chunks) = None
refusal_in (kind.Clean written skipped) = None
refusal_in (kind.Check lsn) = None
refusal_in (kind.WatchSet p) = None
refusal_in (kind.WatchAt p f) = None
refusal_in (kind.Occurred p arrived) = None
refusal_in (kind.Unwatch p) = None
refusal_in (kind.Dump pct ids) = None
refusal_in (kind.Refused asked why) = Some (record { call = asked; cause = why })

abbrev pub refusal_noted : Note → Option Refusing
refusal_noted (note.Refused asked why) = Some (record { call = asked; cause = why })
refusal_noted _ = None

-- an entry or a receipt
abbrev pub refusal_of : Event → Option Refusing
refusal_of (event.Entry e) = refusal_in e.kind
refusal_of (event.Receipt r) = refusal_noted r.note
