-- The text of a trail: one line for each event.
use Rattle.std.specs.Prelude.{ℕ, Bool, true, false, List, [], ◌∷◌, ◌++◌, ◌-◌, ◌≡◌, codes, length, count_by}
use Rattle.std.specs.Fmt.{decimal}
use Rattle.page_ids.specs.Spelling.{page_text, hex, ids_text, words_text}
use Rattle.page_ids.specs.FrameWord.{word_text}
use Rattle.page_ids.specs.declared.layout.BadPage.{BadPage}
use Rattle.page_ids.specs.declared.layout.BadPage.TheVariants as bad
use Rattle.trail.specs.declared.event.Call.{Call}
use Rattle.trail.specs.declared.event.Call.TheVariants as call
use Rattle.trail.specs.declared.event.Cause.{Cause}
use Rattle.trail.specs.declared.event.Cause.TheVariants as cause
use Rattle.trail.specs.declared.event.Kind.{Kind}
use Rattle.trail.specs.declared.event.Kind.TheVariants as kind
use Rattle.trail.specs.declared.event.Note.{Note}
use Rattle.trail.specs.declared.event.Note.TheVariants as note
use Rattle.trail.specs.declared.event.Entry.{Entry}
use Rattle.trail.specs.declared.event.Receipt.{Receipt}
use Rattle.trail.specs.declared.event.Event.{Event}
use Rattle.trail.specs.declared.event.Event.TheVariants as event
use Rattle.trail.specs.Trails.{Events}

-- a number behind a blank
abbrev pub field : ℕ → List ℕ
field n = 32 ∷ decimal n

-- a call, as the script's command with its values
abbrev pub call_text : Call → List ℕ
call_text (call.Fix p now) = codes "fix " ++ page_text p ++ field now
call_text (call.Create p now) = codes "create " ++ page_text p ++ field now
call_text (call.Put p at bytes) = codes "put " ++ page_text p ++ field at ++ 32 ∷ hex bytes
call_text (call.Read p at len) = codes "read " ++ page_text p ++ field at ++ field len
call_text (call.Unfix p) = codes "unfix " ++ page_text p
call_text (call.Guess p frame clock) = codes "guess " ++ page_text p ++ field frame ++ field clock
call_text (call.Watch p) = codes "watch " ++ page_text p
call_text (call.Occurred p) = codes "seen " ++ page_text p
call_text (call.Unwatch p) = codes "unwatch " ++ page_text p
call_text (call.Clean bound) = codes "clean" ++ field bound
call_text call.Check = codes "checkpoint"
call_text (call.Dump pct) = codes "dump" ++ field pct
call_text (call.Resize bytes rounds) = codes "resize" ++ field bytes ++ field rounds

-- why bytes are no page
abbrev pub bad_text : BadPage → List ℕ
bad_text (bad.Number found) = codes "Number" ++ field found
bad_text (bad.Space found) = codes "Space" ++ field found
bad_text (bad.Torn head tail) = codes "Torn" ++ field head ++ field tail

abbrev pub cause_text : Cause → List ℕ
cause_text (cause.PlacesSpent mark need) = codes "PlacesSpent" ++ field mark ++ field need
cause_text (cause.NoSuchPage pages) = codes "NoSuchPage" ++ field pages
cause_text (cause.HoldFull held) = codes "HoldFull" ++ field held
cause_text (cause.Resident frame) = codes "Resident" ++ field frame
cause_text (cause.AllFixed seen) = codes "AllFixed " ++ words_text seen
cause_text (cause.RedoFault before after) = codes "RedoFault" ++ field before ++ field after
cause_text (cause.DiskFault before after) = codes "DiskFault" ++ field before ++ field after
cause_text (cause.BadPage why) = codes "BadPage " ++ bad_text why
cause_text (cause.LogSpent end) = codes "LogSpent" ++ field end
cause_text (cause.WatchFull watches) = codes "WatchFull" ++ field watches
cause_text cause.NoWatch = codes "NoWatch"
cause_text cause.TooSmall = codes "TooSmall"
cause_text (cause.TooLarge chunks max) = codes "TooLarge" ++ field chunks ++ field max
cause_text (cause.Withdrawing from) = codes "Withdrawing" ++ field from
cause_text (cause.Undone seen) = codes "Undone " ++ words_text seen
cause_text (cause.NoFrame frames) = codes "NoFrame" ++ field frames
cause_text (cause.Stale found) = codes "Stale " ++ word_text found
cause_text (cause.OtherPage found) = codes "OtherPage " ++ page_text found
cause_text (cause.Latched found) = codes "Latched " ++ word_text found
cause_text (cause.Busy found) = codes "Busy " ++ word_text found
cause_text cause.Unheld = codes "Unheld"

-- whether a watched page has arrived
abbrev pub arrived_text : Bool → List ℕ
arrived_text true = codes "yes"
arrived_text false = codes "no"

abbrev pub kind_text : Kind → List ℕ
kind_text (kind.Load p frame) = codes "load " ++ page_text p ++ field frame
kind_text (kind.Fix p frame clock now) = codes "fix " ++ page_text p ++ field frame ++ field clock ++ field now
kind_text (kind.Create p frame start end now) =
    codes "create " ++ page_text p ++ field frame ++ field start ++ field end ++ field now
kind_text (kind.Put p at bytes start end) =
    codes "put " ++ page_text p ++ field at ++ 32 ∷ hex bytes ++ field start ++ field end
kind_text (kind.Evict p frame passed) = codes "evict " ++ page_text p ++ field frame ++ 32 ∷ words_text passed
kind_text (kind.Write p lsn upto) = codes "write " ++ page_text p ++ field lsn ++ field upto
kind_text (kind.Move p from to) = codes "move " ++ page_text p ++ field from ++ field to
kind_text (kind.Withdraw from) = codes "withdraw" ++ field from
kind_text (kind.Undo from) = codes "undo" ++ field from
kind_text (kind.Shrink chunks) = codes "shrink" ++ field chunks
kind_text (kind.Grow chunks) = codes "grow" ++ field chunks
kind_text (kind.Resize bytes chunks) = codes "resize" ++ field bytes ++ field chunks
kind_text (kind.Clean written skipped) = codes "clean" ++ field written ++ 32 ∷ words_text skipped
kind_text (kind.Check lsn) = codes "checkpoint" ++ field lsn
kind_text (kind.WatchSet p) = codes "watch " ++ page_text p ++ codes " set"
kind_text (kind.WatchAt p frame) = codes "watch " ++ page_text p ++ codes " at" ++ field frame
kind_text (kind.Occurred p arrived) = codes "seen " ++ page_text p ++ 32 ∷ arrived_text arrived
kind_text (kind.Unwatch p) = codes "unwatch " ++ page_text p
kind_text (kind.Dump pct ids) = codes "dump" ++ field pct ++ 32 ∷ ids_text ids
kind_text (kind.Refused c why) = codes "refused " ++ call_text c ++ 32 ∷ cause_text why

abbrev pub note_text : Note → List ℕ
note_text (note.Granted p frame clock) = codes "granted " ++ page_text p ++ field frame ++ field clock
note_text (note.Copied p at bytes clock) =
    codes "copied " ++ page_text p ++ field at ++ 32 ∷ hex bytes ++ field clock
note_text (note.Unfixed p frame fix) = codes "unfixed " ++ page_text p ++ field frame ++ field fix
note_text (note.Refused c why) = codes "refused " ++ call_text c ++ 32 ∷ cause_text why

-- PLACE CALLER.NUMBER
abbrev pub stamp_text : ℕ → ℕ → ℕ → List ℕ
stamp_text place caller number = decimal place ++ field caller ++ 46 ∷ decimal number

abbrev pub entry_text : Entry → List ℕ
entry_text e = codes "E " ++ stamp_text e.place e.caller e.number ++ 32 ∷ kind_text e.kind

abbrev pub receipt_text : Receipt → List ℕ
receipt_text r = codes "R " ++ stamp_text r.place r.caller r.number ++ 32 ∷ note_text r.note

abbrev pub event_text : Event → List ℕ
event_text (event.Entry e) = entry_text e
event_text (event.Receipt r) = receipt_text r

-- a line for each event
abbrev pub lines_text : List Event → List ℕ
lines_text [] = []
lines_text (e ∷ es) = event_text e ++ 10 ∷ lines_text es

abbrev pub is_entry : Event → Bool
is_entry (event.Entry e) = true
is_entry (event.Receipt r) = false

-- the instance, how many entries, how many receipts, and the events
abbrev pub trail_text : ℕ → Events → List ℕ
trail_text instance t =
    codes "trail" ++ field instance ++ field (count_by is_entry t.events)
    ++ field (length t.events - count_by is_entry t.events) ++ 10 ∷ lines_text t.events

-- the first list stands at the second one's beginning
abbrev pub Begins : List ℕ → List ℕ → Type 0
Begins start whole = (more : List ℕ) × (whole ≡ start ++ more)
