-- Words that were found on frames, each told with its frame, and what a history says of them.
use Rattle.std.specs.Prelude.{ℕ, true, false, List, [], ◌∷◌, ◌≡◌, ◌<◌, Option, None, Some, count_by, is_some, map}
use Rattle.std.specs.List.{AllByRecursion}
use Rattle.std.specs.Option.{option_map_or}
use Rattle.page_ids.specs.FrameWord.{fixes_of, is_latched, is_resident, clock_of}
use Rattle.page_ids.specs.Same.{same_page}
use Rattle.page_ids.specs.declared.frame_word.Word.{Word}
use Rattle.page_ids.specs.declared.ids.PageId.{PageId}
use Rattle.trail.specs.declared.event.Call.{Call}
use Rattle.trail.specs.declared.event.Call.TheVariants as call
use Rattle.trail.specs.declared.event.Cause.{Cause}
use Rattle.trail.specs.declared.event.Cause.TheVariants as cause
use Rattle.trail.specs.declared.event.Held.{Held}
use Rattle.trail.specs.declared.event.Kind.{Kind}
use Rattle.trail.specs.declared.event.Kind.TheVariants as kind
use Rattle.trail.specs.declared.event.Entry.{Entry}
use Rattle.trail.specs.History.{change, tenant}

abbrev pub frames_told : List (ℕ × Word) → List ℕ
frames_told words = map (λ (x : ℕ × Word). x.0) words

-- the word has a page, and a fix
pub record IsOfFixed (w : Word) : Type 0 where
  pub resident : is_resident w ≡ true
  pub fixed : 0 < fixes_of w

-- a word that was found on the frame of a page that can't leave: it is resident, has the frame's clock and at least one fix
pub record IsFixedWord (h : List Entry) (f : ℕ) (w : Word) : Type 0 where
  pub resident : is_resident w ≡ true
  pub clock : clock_of w ≡ change h f
  pub fixed : 0 < fixes_of w

abbrev pub AreFixedWords : List Entry → List (ℕ × Word) → Type 0
AreFixedWords h words = AllByRecursion (λ (x : ℕ × Word). IsFixedWord h x.0 x.1) words

-- how many of the fixes are of the page
abbrev pub fixes_on : List Held → PageId → ℕ
fixes_on held p = count_by (λ (x : Held). same_page x.page p) held

-- The word is just what the history says of the frame, where these are all fixes that are open: it is resident exactly where a page is at home there,
-- has the clock of the frame's last change and the fixes of that page, and is not latched.
pub record IsTrueWord (h : List Entry) (held : List Held) (f : ℕ) (w : Word) : Type 0 where
  pub resident : is_resident w ≡ is_some (tenant h f)
  pub fixes : fixes_of w ≡ option_map_or (λ p. fixes_on held p) (tenant h f) 0
  pub clock : clock_of w ≡ change h f
  pub unlatched : is_latched w ≡ false

abbrev pub AreTrueWords : List Entry → List Held → List (ℕ × Word) → Type 0
AreTrueWords h held words = AllByRecursion (λ (x : ℕ × Word). IsTrueWord h held x.0 x.1) words

-- what a caller remembered: a page, its frame, and the frame's modify clock
pub record Hint : Type 0 where
  pub page : PageId
  pub frame : ℕ
  pub clock : ℕ

abbrev pub hint_of : Call → Option Hint
hint_of (call.Guess p f clock) = Some (record { page = p; frame = f; clock = clock })
hint_of _ = None

-- the word of a guess's frame
abbrev pub on_hint : Call → Word → List (ℕ × Word)
on_hint asked found = option_map_or (λ (hint : Hint). (hint.frame, found) ∷ []) (hint_of asked) []

-- the words that a refusal tells; a busy frame's word stands apart, since its frame is told by the fix alone
abbrev pub cause_words : Call → Cause → List (ℕ × Word)
cause_words asked (cause.AllFixed seen) = seen
cause_words asked (cause.Undone seen) = seen
cause_words asked (cause.Stale found) = on_hint asked found
cause_words asked (cause.Latched found) = on_hint asked found
cause_words asked _ = []

-- and the page that it tells of a guess's frame
abbrev pub cause_tag : Cause → Option PageId
cause_tag (cause.OtherPage found) = Some found
cause_tag _ = None

-- the words that an entry tells
abbrev pub words_told : Kind → List (ℕ × Word)
words_told (kind.Evict p f passed) = passed
words_told (kind.Clean written skipped) = skipped
words_told (kind.Refused asked why) = cause_words asked why
words_told _ = []
