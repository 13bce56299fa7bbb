-- Some of what the calls promise beside the laws: which refusals a call has, whether they are entries or receipts, that a space has as many pages as a refusal
-- tells, and that lists of frames rise. A trail alone doesn't show it.
use Rattle.std.specs.Prelude.{ℕ, Bool, true, false, List, [], ◌∷◌, ◌≡◌, ◌≤◌, ◌<◌, None, IfSome, IsSome, IsTrue, length, take, ⊤, Option}
use Rattle.page_ids.specs.FrameWord.{AreRising}
use Rattle.page_ids.specs.declared.ids.PageId.{PageId}
use Rattle.trail.specs.declared.event.Call.{Call}
use Rattle.trail.specs.declared.event.Call.TheVariants as call
use Rattle.trail.specs.declared.event.Cause.{Cause}
use Rattle.trail.specs.declared.event.Cause.TheVariants as cause
use Rattle.trail.specs.declared.event.Kind.{Kind}
use Rattle.trail.specs.declared.event.Kind.TheVariants as kind
use Rattle.trail.specs.declared.event.Note.{Note}
use Rattle.trail.specs.declared.event.Note.TheVariants as note
use Rattle.trail.specs.declared.event.Entry.{Entry}
use Rattle.trail.specs.declared.event.Event.{Event}
use Rattle.trail.specs.declared.event.Event.TheVariants as event
use Rattle.trail.specs.Trails.{Opening, caller_of, entries, own}
use Rattle.trail.specs.Kinds.{Refusing, refusal_in, refusal_noted}
use Rattle.trail.specs.History.{home}
use Rattle.trail.specs.Dirt.{dirty, pages_of}
use Rattle.trail.specs.Calls.{made, before_call}
use Rattle.trail.specs.Legal.{OnValue, written_pages}
use Rattle.trail.specs.Spaces.{named_page, page_noted, page_shown, pages_in_cause}
use Rattle.trail.specs.Causes.{is_exact}

-- every frame was seen with a fix, or a device failed
abbrev pub is_excuse : Cause → Bool
is_excuse (cause.AllFixed seen) = true
is_excuse (cause.RedoFault before after) = true
is_excuse (cause.DiskFault before after) = true
is_excuse _ = false

-- the causes that a call may have, as far as calls are made
abbrev pub is_own : Call → Cause → Bool
is_own (call.Fix p now) (cause.NoSuchPage pages) = true
is_own (call.Fix p now) (cause.HoldFull held) = true
is_own (call.Fix p now) (cause.AllFixed seen) = true
is_own (call.Fix p now) (cause.RedoFault before after) = true
is_own (call.Fix p now) (cause.DiskFault before after) = true
is_own (call.Fix p now) (cause.BadPage bad) = true
is_own (call.Create p now) (cause.NoSuchPage pages) = true
is_own (call.Create p now) (cause.HoldFull held) = true
is_own (call.Create p now) (cause.Resident f) = true
is_own (call.Create p now) (cause.AllFixed seen) = true
is_own (call.Create p now) (cause.RedoFault before after) = true
is_own (call.Create p now) (cause.DiskFault before after) = true
is_own (call.Create p now) (cause.LogSpent end) = true
is_own (call.Put p at bytes) (cause.LogSpent end) = true
is_own (call.Put p at bytes) cause.Unheld = true
is_own (call.Read p at len) cause.Unheld = true
is_own (call.Unfix p) cause.Unheld = true
is_own (call.Clean bound) (cause.RedoFault before after) = true
is_own (call.Clean bound) (cause.DiskFault before after) = true
is_own _ _ = false

-- A fix that was refused with no exact cause is of a page that has no home; where the page has a value, there was an excuse.
pub record HasExcuse (o : Opening) (h : List Entry) (p : PageId) (why : Cause) : Type 0 where
  pub absent : home h p ≡ None
  pub excused : OnValue o h p (λ v. IsSome v → IsTrue (is_excuse why))

abbrev pub IsExcused : Opening → List Entry → Call → Cause → Type 0
IsExcused o h (call.Fix p now) why = is_exact why ≡ false → HasExcuse o h p why
IsExcused o h _ why = ⊤

-- whether the refusal is a receipt of its pass; every other one is an entry of the history
abbrev pub is_noted : Cause → Bool
is_noted cause.Unheld = true
is_noted _ = false

-- the pages that a refused clean had written are the first of those that were dirty before it, in their order, and no more than its bound
pub record IsBegun (h made : List Entry) (bound : ℕ) : Type 0 where
  pub oldest : written_pages made ≡ take (length made) (pages_of (dirty (before_call made h)))
  pub most : length made ≤ bound

abbrev pub IsBegunCall : List Entry → List Entry → Call → Type 0
IsBegunCall h made (call.Clean bound) = IsBegun h made bound
IsBegunCall h made _ = ⊤

-- the frames that were seen rise, each told once
abbrev pub TellsRising : Cause → Type 0
TellsRising (cause.AllFixed seen) = AreRising seen
TellsRising _ = ⊤

-- a refusal as the calls promise it
pub record IsFairRefusal (noted : Bool) (o : Opening) (h made : List Entry) (asked : Call) (why : Cause) : Type 0 where
  pub own : IsTrue (is_own asked why)
  pub filed : is_noted why ≡ noted
  pub excused : IsExcused o h asked why
  pub rising : TellsRising why
  pub begun : IsBegunCall h made asked

-- What an event tells of a space is so: the page that an answer shows is in it, and a refusal for a page that isn't there names the number of its pages.
pub record IsTold (pages : ℕ → ℕ) (shown : Option PageId) (refusal : Option Refusing) : Type 0 where
  pub inside : IfSome shown (λ p. p.page < pages p.space)
  pub told : IfSome refusal (λ r. IfSome (named_page r.call) (λ p. IfSome (pages_in_cause r.cause) (λ n. n ≡ pages p.space)))

abbrev pub IsOfSpaces : (ℕ → ℕ) → Kind → Type 0
IsOfSpaces pages k = IsTold pages (page_shown k) (refusal_in k)

abbrev pub IsNoteOfSpaces : (ℕ → ℕ) → Note → Type 0
IsNoteOfSpaces pages n = IsTold pages (page_noted n) (refusal_noted n)

-- frames that an evict passed or a clean skipped rise, each told once
abbrev pub IsPromisedKind : Opening → List Entry → List Entry → Kind → Type 0
IsPromisedKind o h made (kind.Refused asked why) = IsFairRefusal false o h made asked why
IsPromisedKind o h made (kind.Evict p f passed) = AreRising passed
IsPromisedKind o h made (kind.Clean written skipped) = AreRising skipped
IsPromisedKind o h made _ = ⊤

abbrev pub IsPromisedNote : Opening → List Entry → List Entry → Note → Type 0
IsPromisedNote o h made (note.Refused asked why) = IsFairRefusal true o h made asked why
IsPromisedNote o h made _ = ⊤

abbrev pub IsPromised : Opening → (ℕ → ℕ) → List Entry → List Event → Event → Type 0
IsPromised o pages h mine (event.Entry e) = IsOfSpaces pages e.kind × IsPromisedKind o h (made e.number mine) e.kind
IsPromised o pages h mine (event.Receipt r) = IsNoteOfSpaces pages r.note × IsPromisedNote o h (made r.number mine) r.note

-- and so at each event of a trail, the newest first
abbrev pub ArePromised : Opening → (ℕ → ℕ) → List Event → Type 0
ArePromised o pages [] = ⊤
ArePromised o pages (e ∷ past) = IsPromised o pages (entries past) (own (caller_of e) past) e × ArePromised o pages past
