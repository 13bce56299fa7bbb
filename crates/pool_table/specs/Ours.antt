-- Which instance a table is of: each page that an event names is one of it.
use Rattle.std.specs.Prelude.{◌≡◌, ℕ, List, IfSome, ⊤}
use Rattle.std.specs.List.{AllByRecursion}
use Rattle.page_ids.specs.Instances.{instance_of}
use Rattle.page_ids.specs.declared.ids.PageId.{PageId}
use Rattle.trail.specs.declared.event.Call.{Call}
use Rattle.trail.specs.declared.event.Cause.{Cause}
use Rattle.trail.specs.declared.event.Entry.{Entry}
use Rattle.trail.specs.declared.event.Event.{Event}
use Rattle.trail.specs.declared.event.Event.TheVariants as event
use Rattle.trail.specs.declared.event.Kind.{Kind}
use Rattle.trail.specs.declared.event.Kind.TheVariants as kind
use Rattle.trail.specs.declared.event.Note.{Note}
use Rattle.trail.specs.declared.event.Note.TheVariants as note
use Rattle.trail.specs.Spaces.{named_page}
use Rattle.trail.specs.Words.{cause_tag}
use Rattle.pool_table.specs.Seen.{DeskSeen}

abbrev pub IsOurPage : DeskSeen → PageId → Type 0
IsOurPage start p = instance_of p start.opening.config.instances ≡ start.instance

-- the page that was asked for, and the one that was found in a frame
abbrev pub IsOurRefusal : DeskSeen → Call → Cause → Type 0
IsOurRefusal start asked why = IfSome (named_page asked) (IsOurPage start) × IfSome (cause_tag why) (IsOurPage start)

-- each page that an entry names
abbrev pub IsOurKind : DeskSeen → Kind → Type 0
IsOurKind start (kind.Load p f) = IsOurPage start p
IsOurKind start (kind.Fix p f clock now) = IsOurPage start p
IsOurKind start (kind.Create p f first end now) = IsOurPage start p
IsOurKind start (kind.Put p at bytes first end) = IsOurPage start p
IsOurKind start (kind.Evict p f passed) = IsOurPage start p
IsOurKind start (kind.Write p lsn upto) = IsOurPage start p
IsOurKind start (kind.Move p from to) = IsOurPage start p
IsOurKind start (kind.Withdraw from) = ⊤
IsOurKind start (kind.Undo from) = ⊤
IsOurKind start (kind.Shrink chunks) = ⊤
IsOurKind start (kind.Grow chunks) = ⊤
IsOurKind start (kind.Resize bytes chunks) = ⊤
IsOurKind start (kind.Clean written skipped) = ⊤
IsOurKind start (kind.Check lsn) = ⊤
IsOurKind start (kind.WatchSet p) = IsOurPage start p
IsOurKind start (kind.WatchAt p f) = IsOurPage start p
IsOurKind start (kind.Occurred p arrived) = IsOurPage start p
IsOurKind start (kind.Unwatch p) = IsOurPage start p
IsOurKind start (kind.Dump pct ids) = AllByRecursion (IsOurPage start) ids
IsOurKind start (kind.Refused asked why) = IsOurRefusal start asked why

-- and each that a receipt names
abbrev pub IsOurNote : DeskSeen → Note → Type 0
IsOurNote start (note.Granted p f clock) = IsOurPage start p
IsOurNote start (note.Copied p at bytes clock) = IsOurPage start p
IsOurNote start (note.Unfixed p f fix) = IsOurPage start p
IsOurNote start (note.Refused asked why) = IsOurRefusal start asked why

abbrev pub IsOurs : DeskSeen → Event → Type 0
IsOurs start (event.Entry e) = IsOurKind start e.kind
IsOurs start (event.Receipt r) = IsOurNote start r.note

abbrev pub AreOurEntries : DeskSeen → List Entry → Type 0
AreOurEntries start h = AllByRecursion (λ (e : Entry). IsOurKind start e.kind) h

-- The history and the accounts are of this instance.
pub record AreOurs (start : DeskSeen) (h : List Entry) (accounts : ℕ → List Event) : Type 0 where
  pub entries : AreOurEntries start h
  pub events : (c : ℕ) → AllByRecursion (IsOurs start) (accounts c)
