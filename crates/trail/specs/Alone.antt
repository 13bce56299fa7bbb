-- Found words where nobody else is there: they are just what the trail says.
use Rattle.std.specs.Prelude.{ℕ, Bool, true, false, List, [], ◌∷◌, ◌≡◌, ◌==◌, ◌&&◌, Option, None, Some, IfSome, ⊤, if◌then◌else◌}
use Rattle.std.specs.List.{list_all, list_any}
use Rattle.std.specs.Option.{option_map_or}
use Rattle.trail.specs.declared.event.Call.{Call}
use Rattle.trail.specs.declared.event.Call.TheVariants as call
use Rattle.trail.specs.declared.event.Cause.{Cause}
use Rattle.trail.specs.declared.event.Cause.TheVariants as cause
use Rattle.trail.specs.declared.event.Held.{Held}
use Rattle.trail.specs.declared.event.Kind.{Kind}
use Rattle.trail.specs.declared.event.Kind.TheVariants as kind
use Rattle.trail.specs.declared.event.Note.{Note}
use Rattle.trail.specs.declared.event.Note.TheVariants as note
use Rattle.trail.specs.declared.event.Entry.{Entry}
use Rattle.trail.specs.declared.event.Event.{Event}
use Rattle.trail.specs.declared.event.Event.TheVariants as event
use Rattle.trail.specs.Trails.{caller_of, number_of, entries, own}
use Rattle.trail.specs.History.{tenant}
use Rattle.trail.specs.Words.{Hint, hint_of, cause_words, cause_tag, AreTrueWords}
use Rattle.trail.specs.Calls.{calls_of, held_by}

-- somebody else had latched the frame
abbrev pub is_busy : Cause → Bool
is_busy (cause.Latched found) = true
is_busy (cause.Busy found) = true
is_busy _ = false

-- whether the refusal is that of a clean which got so far as to begin
abbrev pub refuses_clean : Call → Cause → Bool
refuses_clean (call.Clean bound) (cause.PlacesSpent mark need) = false
refuses_clean (call.Clean bound) why = true
refuses_clean asked why = false

-- whether the event answers such a clean
abbrev pub ends_clean : Kind → Bool
ends_clean (kind.Clean written skipped) = true
ends_clean (kind.Refused asked why) = refuses_clean asked why
ends_clean _ = false

abbrev pub notes_clean : Note → Bool
notes_clean (note.Refused asked why) = refuses_clean asked why
notes_clean _ = false

abbrev pub closes : Event → Bool
closes (event.Entry e) = ends_clean e.kind
closes (event.Receipt r) = notes_clean r.note

-- the number of the closing flush: caller 0's last call, where that is such a clean
abbrev pub closing_number : List Event → Option ℕ
closing_number past = let last = calls_of (own 0 past) in if list_any (λ e. (number_of e == last) && closes e) (own 0 past) then Some last else None

-- whether the event is of the closing flush
abbrev pub is_of_flush : Option ℕ → Event → Bool
is_of_flush closing e = (caller_of e == 0) && option_map_or (λ n. n == number_of e) closing false

-- who has the other events
abbrev pub other_callers : Option ℕ → List Event → List ℕ
other_callers closing [] = []
other_callers closing (e ∷ past) = if is_of_flush closing e then other_callers closing past else caller_of e ∷ other_callers closing past

-- the one caller among these; the runner, caller 0, where there is none
abbrev pub only_caller : List ℕ → Option ℕ
only_caller [] = Some 0
only_caller (c ∷ cs) = if list_all (λ d. d == c) cs then Some c else None

-- the one caller that made all calls of a whole trail but the closing flush
abbrev pub sole_of : List Event → Option ℕ
sole_of past = only_caller (other_callers (closing_number past) past)

-- What a refusal tells of words and of a page is just what the history says, where these are all open fixes; nobody was there to make a frame busy.
pub record IsTrueRefusal (h : List Entry) (held : List Held) (asked : Call) (why : Cause) : Type 0 where
  pub words : AreTrueWords h held (cause_words asked why)
  pub tag : IfSome (hint_of asked) (λ (hint : Hint). IfSome (cause_tag why) (λ p. tenant h hint.frame ≡ Some p))
  pub free : is_busy why ≡ false

-- and so an entry; nor was anybody there to latch a frame that a clean would write
abbrev pub IsTrueKind : List Entry → List Held → Kind → Type 0
IsTrueKind h held (kind.Evict p f passed) = AreTrueWords h held passed
IsTrueKind h held (kind.Clean written skipped) = skipped ≡ []
IsTrueKind h held (kind.Refused asked why) = IsTrueRefusal h held asked why
IsTrueKind h held k = ⊤

abbrev pub IsTrueNote : List Entry → List Held → Note → Type 0
IsTrueNote h held (note.Refused asked why) = IsTrueRefusal h held asked why
IsTrueNote h held n = ⊤

abbrev pub IsTrueOf : List Entry → List Held → Event → Type 0
IsTrueOf h held (event.Entry e) = IsTrueKind h held e.kind
IsTrueOf h held (event.Receipt r) = IsTrueNote h held r.note

-- Where a trail has a sole caller, all open fixes are that caller's, at each event: also at those of the closing flush.
abbrev pub IsTrueEvent : Option ℕ → List Event → Event → Type 0
IsTrueEvent sole past e = IfSome sole (λ c. IsTrueOf (entries past) (held_by past c) e)
