-- What a caller's own events say of its calls. The newest event stands first.
use Rattle.std.specs.Prelude.{ℕ, Bool, true, false, List, [], ◌∷◌, ◌==◌, ◌&&◌, ◌||◌, Option, None, Some, length, if◌then◌else◌}
use Rattle.std.specs.Option.{option_map_or}
use Rattle.page_ids.specs.Same.{same_page}
use Rattle.page_ids.specs.declared.ids.PageId.{PageId}
use Rattle.trail.specs.declared.event.Call.{Call}
use Rattle.trail.specs.declared.event.Call.TheVariants as call
use Rattle.trail.specs.declared.event.Kind.{Kind}
use Rattle.trail.specs.declared.event.Kind.TheVariants as kind
use Rattle.trail.specs.declared.event.Note.{Note}
use Rattle.trail.specs.declared.event.Note.TheVariants as note
use Rattle.trail.specs.declared.event.Held.{Held}
use Rattle.trail.specs.declared.event.Entry.{Entry}
use Rattle.trail.specs.declared.event.Event.{Event}
use Rattle.trail.specs.declared.event.Event.TheVariants as event
use Rattle.trail.specs.Trails.{number_of, own, most, before}
use Rattle.trail.specs.Kinds.{Placing, kind_answers, grant_in}

-- a receipt always is an answer
abbrev pub is_answer : Event → Bool
is_answer (event.Entry e) = kind_answers e.kind
is_answer (event.Receipt r) = true

-- how many calls were begun: they are numbered from 1
abbrev pub calls_of : List Event → ℕ
calls_of [] = 0
calls_of (e ∷ mine) = most (number_of e) (calls_of mine)

-- the entries of a call
abbrev pub made : ℕ → List Event → List Entry
made n [] = []
made n (event.Entry e ∷ mine) = if e.number == n then e ∷ made n mine else made n mine
made n (event.Receipt r ∷ mine) = made n mine

-- whether the call has its answer
abbrev pub is_answered : ℕ → List Event → Bool
is_answered n [] = false
is_answered n (e ∷ mine) = ((number_of e == n) && is_answer e) || is_answered n mine

-- the first of a call's entries
abbrev pub first_made : List Entry → Option Entry
first_made [] = None
first_made (e ∷ []) = Some e
first_made (e ∷ d ∷ made) = first_made (d ∷ made)

-- the history before a call that made these entries
abbrev pub before_call : List Entry → List Entry → List Entry
before_call made h = option_map_or (λ (e : Entry). before e.place h) (first_made made) h

-- a fix is open from the entry or receipt that grants it ..
abbrev pub held_after_kind : ℕ → Kind → List Held → List Held
held_after_kind n k held = option_map_or (λ (g : Placing). record { page = g.page; frame = g.frame; number = n } ∷ held) (grant_in k) held

-- without the fix that this call got
abbrev pub given_back : ℕ → List Held → List Held
given_back n [] = []
given_back n (x ∷ held) = if x.number == n then held else x ∷ given_back n held

-- .. to the receipt that gives it back
abbrev pub held_after_note : ℕ → Note → List Held → List Held
held_after_note n (note.Granted p f clock) held = record { page = p; frame = f; number = n } ∷ held
held_after_note n (note.Copied p at bytes clock) held = held
held_after_note n (note.Unfixed p f fix) held = given_back fix held
held_after_note n (note.Refused asked why) held = held

abbrev pub held_after : Event → List Held → List Held
held_after (event.Entry e) held = held_after_kind e.number e.kind held
held_after (event.Receipt r) held = held_after_note r.number r.note held

-- the open fixes, the newest first
abbrev pub open_fixes : List Event → List Held
open_fixes [] = []
open_fixes (e ∷ mine) = held_after e (open_fixes mine)

-- those of one caller among all events
abbrev pub held_by : List Event → ℕ → List Held
held_by past c = open_fixes (own c past)

-- the newest of them of a page
abbrev pub newest_fix : List Held → PageId → Option Held
newest_fix [] p = None
newest_fix (x ∷ held) p = if same_page x.page p then Some x else newest_fix held p

-- the call that an entry grants; a number of rounds, which no entry carries, decides none of its causes
abbrev pub granted_call : Kind → Option Call
granted_call (kind.Load p f) = None
granted_call (kind.Fix p f clock now) = Some (call.Fix p now)
granted_call (kind.Create p f start end now) = Some (call.Create p now)
granted_call (kind.Put p at bytes start end) = Some (call.Put p at bytes)
granted_call (kind.Evict p f passed) = None
granted_call (kind.Write p lsn upto) = None
granted_call (kind.Move p from to) = None
granted_call (kind.Withdraw from) = None
granted_call (kind.Undo from) = None
granted_call (kind.Shrink chunks) = None
granted_call (kind.Grow chunks) = None
granted_call (kind.Resize bytes chunks) = Some (call.Resize bytes 0)
granted_call (kind.Clean written skipped) = Some (call.Clean written)
granted_call (kind.Check lsn) = Some call.Check
granted_call (kind.WatchSet p) = Some (call.Watch p)
granted_call (kind.WatchAt p f) = Some (call.Watch p)
granted_call (kind.Occurred p arrived) = Some (call.Occurred p)
granted_call (kind.Unwatch p) = Some (call.Unwatch p)
granted_call (kind.Dump pct ids) = Some (call.Dump pct)
granted_call (kind.Refused asked why) = None

-- and the call that a receipt grants
abbrev pub noted_call : Note → Option Call
noted_call (note.Granted p f clock) = Some (call.Guess p f clock)
noted_call (note.Copied p at bytes clock) = Some (call.Read p at (length bytes))
noted_call (note.Unfixed p f fix) = Some (call.Unfix p)
noted_call (note.Refused asked why) = None
