-- How many pages a space has, as far as the answers of a trail show it, be they entries or receipts. The newest event stands first.
use Rattle.std.specs.Prelude.{ℕ, List, [], ◌∷◌, ◌≡◌, ◌==◌, ◌+◌, ◌<◌, ◌≤◌, Option, None, Some, IfSome, if◌then◌else◌}
use Rattle.std.specs.Option.{option_map_or}
use Rattle.page_ids.specs.declared.ids.PageId.{PageId}
use Rattle.trail.specs.declared.event.Call.{Call}
use Rattle.trail.specs.declared.event.Call.TheVariants as call
use Rattle.trail.specs.declared.event.Cause.{Cause}
use Rattle.trail.specs.declared.event.Cause.TheVariants as cause
use Rattle.trail.specs.declared.event.Kind.{Kind}
use Rattle.trail.specs.declared.event.Kind.TheVariants as kind
use Rattle.trail.specs.declared.event.Note.{Note}
use Rattle.trail.specs.declared.event.Note.TheVariants as note
use Rattle.trail.specs.declared.event.Event.{Event}
use Rattle.trail.specs.declared.event.Event.TheVariants as event
use Rattle.trail.specs.Trails.{most}
use Rattle.trail.specs.Kinds.{Refusing, refusal_of}

-- the page that a call names
abbrev pub named_page : Call → Option PageId
named_page (call.Fix p now) = Some p
named_page (call.Create p now) = Some p
named_page (call.Put p at bytes) = Some p
named_page (call.Read p at len) = Some p
named_page (call.Unfix p) = Some p
named_page (call.Guess p f clock) = Some p
named_page (call.Watch p) = Some p
named_page (call.Occurred p) = Some p
named_page (call.Unwatch p) = Some p
named_page (call.Clean bound) = None
named_page call.Check = None
named_page (call.Dump pct) = None
named_page (call.Resize bytes rounds) = None

-- the page that a call asks the disk for
abbrev pub sought_page : Call → Option PageId
sought_page (call.Fix p now) = Some p
sought_page (call.Create p now) = Some p
sought_page (call.Watch p) = Some p
sought_page _ = None

-- the page that an answer of such a call shows to be in its space
abbrev pub page_shown_by : Call → Cause → Option PageId
page_shown_by asked (cause.PlacesSpent mark need) = None
page_shown_by asked (cause.NoSuchPage pages) = None
page_shown_by asked why = sought_page asked

abbrev pub page_shown : Kind → Option PageId
page_shown (kind.Fix p f clock now) = Some p
page_shown (kind.Create p f start end now) = Some p
page_shown (kind.WatchSet p) = Some p
page_shown (kind.WatchAt p f) = Some p
page_shown (kind.Refused asked why) = page_shown_by asked why
page_shown _ = None

abbrev pub page_noted : Note → Option PageId
page_noted (note.Refused asked why) = page_shown_by asked why
page_noted _ = None

abbrev pub page_told : Event → Option PageId
page_told (event.Entry e) = page_shown e.kind
page_told (event.Receipt r) = page_noted r.note

-- one more than the greatest page of the space that an answer shows
abbrev pub shown_pages : List Event → ℕ → ℕ
shown_pages [] s = 0
shown_pages (e ∷ past) s = option_map_or (λ (p : PageId). if p.space == s then most (p.page + 1) (shown_pages past s) else shown_pages past s) (page_told e) (shown_pages past s)

-- the number of pages that a refusal tells
abbrev pub pages_in_cause : Cause → Option ℕ
pages_in_cause (cause.NoSuchPage pages) = Some pages
pages_in_cause _ = None

-- the number of the space that a refusal tells
abbrev pub pages_told_by : ℕ → Refusing → Option ℕ → Option ℕ
pages_told_by s r before = option_map_or (λ (p : PageId). if p.space == s then option_map_or (λ pages. Some pages) (pages_in_cause r.cause) before else before) (named_page r.call) before

-- the number of pages that the newest such refusal told of the space
abbrev pub told_pages : List Event → ℕ → Option ℕ
told_pages [] s = None
told_pages (e ∷ past) s = option_map_or (λ r. pages_told_by s r (told_pages past s)) (refusal_of e) (told_pages past s)

-- no refusal told so few pages that this one isn't there
abbrev pub IsNotMissing : List Event → PageId → Type 0
IsNotMissing past p = IfSome (told_pages past p.space) (λ pages. p.page < pages)

-- This page isn't among so many; no refusal told another number of its space, and no answer showed a page that isn't among so many.
pub record IsOutside (past : List Event) (p : PageId) (pages : ℕ) : Type 0 where
  pub behind : pages ≤ p.page
  pub same : IfSome (told_pages past p.space) (λ told. told ≡ pages)
  pub shown : shown_pages past p.space ≤ pages
