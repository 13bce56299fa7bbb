-- The pages that were changed since they were last written, and where the log ends, as a history says. The newest entry stands first.
use Rattle.std.specs.Prelude.{ℕ, Bool, not, List, [], ◌∷◌, Option, None, Some, filter, is_some, map, if◌then◌else◌}
use Rattle.std.specs.Option.{option_map_or}
use Rattle.page_ids.specs.Same.{same_page}
use Rattle.page_ids.specs.declared.ids.PageId.{PageId}
use Rattle.trail.specs.declared.event.Kind.{Kind}
use Rattle.trail.specs.declared.event.Kind.TheVariants as kind
use Rattle.trail.specs.declared.event.Entry.{Entry}
use Rattle.trail.specs.declared.event.Dirty.{Dirty}
use Rattle.trail.specs.declared.event.Cause.{Cause}
use Rattle.trail.specs.declared.event.Cause.TheVariants as cause
use Rattle.trail.specs.Trails.{most}
use Rattle.trail.specs.Kinds.{Changing, Refusing, change_in, refusal_in}

-- A change whose record has these LSNs: a page that is dirty already keeps its oldest LSN and its place, another one comes to the end.
abbrev pub dirtied : PageId → ℕ → ℕ → List Dirty → List Dirty
dirtied p start end [] = record { page = p; oldest = start; newest = end } ∷ []
dirtied p start end (d ∷ ds) = if same_page d.page p then record d { newest = end } ∷ ds else d ∷ dirtied p start end ds

-- a page that was written is clean
abbrev pub cleaned : PageId → List Dirty → List Dirty
cleaned p ds = filter (λ (d : Dirty). not (same_page d.page p)) ds

abbrev pub dirty_after : Kind → List Dirty → List Dirty
dirty_after (kind.Load q f) before = before
dirty_after (kind.Fix q f clock now) before = before
dirty_after (kind.Create q f start end now) before = dirtied q start end before
dirty_after (kind.Put q at bytes start end) before = dirtied q start end before
dirty_after (kind.Evict q f passed) before = before
dirty_after (kind.Write q lsn upto) before = cleaned q before
dirty_after (kind.Move q from to) before = before
dirty_after (kind.Withdraw from) before = before
dirty_after (kind.Undo from) before = before
dirty_after (kind.Shrink chunks) before = before
dirty_after (kind.Grow chunks) before = before
dirty_after (kind.Resize bytes chunks) before = before
dirty_after (kind.Clean written skipped) before = before
dirty_after (kind.Check lsn) before = before
dirty_after (kind.WatchSet q) before = before
dirty_after (kind.WatchAt q f) before = before
dirty_after (kind.Occurred q arrived) before = before
dirty_after (kind.Unwatch q) before = before
dirty_after (kind.Dump pct ids) before = before
dirty_after (kind.Refused asked why) before = before

-- the dirty pages: the one whose first change is the oldest stands first
abbrev pub dirty : List Entry → List Dirty
dirty [] = []
dirty (e ∷ h) = dirty_after e.kind (dirty h)

-- the page among dirty ones
abbrev pub dirt_of : List Dirty → PageId → Option Dirty
dirt_of [] p = None
dirt_of (d ∷ ds) p = if same_page d.page p then Some d else dirt_of ds p

-- the pages of dirty ones
abbrev pub pages_of : List Dirty → List PageId
pages_of ds = map (λ (d : Dirty). d.page) ds

abbrev pub is_dirty : List Entry → PageId → Bool
is_dirty h p = is_some (dirt_of (dirty h) p)

-- the end LSN of the last change, 0 before the first
abbrev pub log_end_after : Kind → ℕ → ℕ
log_end_after k last = option_map_or (λ (c : Changing). c.end) (change_in k) last

abbrev pub log_end : List Entry → ℕ
log_end [] = 0
log_end (e ∷ h) = log_end_after e.kind (log_end h)

-- an end of the log that a refusal tells
abbrev pub spent_end : Cause → Option ℕ
spent_end (cause.LogSpent end) = Some end
spent_end _ = None

abbrev pub told_end_after : Kind → ℕ → ℕ
told_end_after k last = option_map_or (λ (c : Changing). most c.end last) (change_in k)
    (option_map_or (λ (r : Refusing). option_map_or (λ end. most end last) (spent_end r.cause) last) (refusal_in k) last)

-- the greatest end of the log that an entry tells: of a change, or where the log had no LSN left
abbrev pub told_end : List Entry → ℕ
told_end [] = 0
told_end (e ∷ h) = told_end_after e.kind (told_end h)
