-- What the rows share: openings, short names for pages, words and events, and what a row shows. The events of a row stand as a trail prints them, the oldest first.
use Rattle.std.proofs.Common.{ℕ, List, [], ◌∷◌, ◌++◌, ◌≡◌, ◌==◌, ◌≤◌, ◌⊎◌, if◌then◌else◌, Option, None, Some, false, IsSomeAnd, replicate, reverse, inl, inr, refl, arith, Contains}
use Rattle.std.proofs.lemmas.List.Elements.{Contains-append_right}
use Rattle.page_ids.specs.Content.{Content}
use Rattle.page_ids.specs.FrameWord.{packed}
use Rattle.page_ids.specs.Same.{same_page}
use Rattle.page_ids.specs.declared.frame_word.Word.{Word}
use Rattle.page_ids.specs.declared.ids.PageId.{PageId}
use Rattle.page_ids.specs.declared.ids.PageSize.TheVariants.{Kib4}
use Rattle.trail.specs.declared.event.Call.{Call}
use Rattle.trail.specs.declared.event.Call.TheVariants as call
use Rattle.trail.specs.declared.event.Cause.{Cause}
use Rattle.trail.specs.declared.event.Kind.{Kind}
use Rattle.trail.specs.declared.event.Kind.TheVariants as kind
use Rattle.trail.specs.declared.event.Note.{Note}
use Rattle.trail.specs.declared.event.Note.TheVariants as note
use Rattle.trail.specs.declared.event.Dirty.{Dirty}
use Rattle.trail.specs.declared.event.Entry.{Entry}
use Rattle.trail.specs.declared.event.Held.{Held}
use Rattle.trail.specs.declared.event.Event.{Event}
use Rattle.trail.specs.declared.event.Event.TheVariants as event
use Rattle.trail.specs.Trails.{Opening}
use Rattle.trail.specs.Dirt.{dirty, dirt_of}
use Rattle.trail.specs.Calls.{calls_of, is_answered}
use Rattle.trail.specs.Preceding.{GotFrame}
use Rattle.trail.specs.Legal.{IsOpen}
use Rattle.trail.specs.Covered.{IsCoveredWrite}
use Rattle.trail.specs.Alone.{sole_of}
use Rattle.trail.specs.Laws.{IsLawful, AreLawful, IsLawfulTrail}

-- the page of this number in space 0
abbrev pub page : ℕ → PageId
page n = record { space = 0; page = n }

-- pages of zeros, whose first 64 bytes are told; of page 7 no page is told, as if it were unsound
abbrev pub zeros : PageId → Option Content
zeros p = if p.page == 7 then None else Some (record { lsn = 0; bytes = replicate 64 0 })

-- an instance with so many frames in a chunk, which begins behind this place
abbrev pub opened : ℕ → ℕ → ℕ → ℕ → Opening
opened first frames size max = record {
  first = first;
  config = record { page = Kib4; instances = 1; frames = frames; size = size; max = max; old_pct = 37; old_time = 1000; old_min = 512; lsn = 8192; first = first };
  base = Some zeros;
}

-- one chunk of four frames, where two may be
abbrev pub four : Opening
four = opened 0 4 16384 2

-- two chunks of two frames
abbrev pub pairs : Opening
pairs = opened 0 2 16384 2

-- one frame
abbrev pub single : Opening
single = opened 0 1 4096 1

-- an entry of this place, caller and number
abbrev pub entry : ℕ → ℕ → ℕ → Kind → Event
entry place caller number kind = event.Entry (record { place = place; caller = caller; number = number; kind = kind })

-- and a receipt
abbrev pub receipt : ℕ → ℕ → ℕ → Note → Event
receipt place caller number note = event.Receipt (record { place = place; caller = caller; number = number; note = note })

-- the word of a frame with a page: so many fixes, this clock
abbrev pub word : ℕ → ℕ → Word
word fixes clock = record { bits = packed fixes 0 1 clock }

-- of a frame that is latched
abbrev pub latched : ℕ → ℕ → Word
latched fixes clock = record { bits = packed fixes 1 1 clock }

-- and of one without a page
abbrev pub vacant : ℕ → Word
vacant clock = record { bits = packed 0 0 0 clock }

-- Entries on pages of space 0, by their numbers.

abbrev pub load : ℕ → ℕ → Kind
load n frame = kind.Load (page n) frame

abbrev pub fix : ℕ → ℕ → ℕ → ℕ → Kind
fix n frame clock now = kind.Fix (page n) frame clock now

abbrev pub create : ℕ → ℕ → ℕ → ℕ → Kind
create n frame start end = kind.Create (page n) frame start end 1

abbrev pub put : ℕ → ℕ → List ℕ → ℕ → ℕ → Kind
put n at bytes start end = kind.Put (page n) at bytes start end

abbrev pub evict : ℕ → ℕ → List (ℕ × Word) → Kind
evict n frame passed = kind.Evict (page n) frame passed

abbrev pub write : ℕ → ℕ → ℕ → Kind
write n lsn upto = kind.Write (page n) lsn upto

abbrev pub move : ℕ → ℕ → ℕ → Kind
move n from to = kind.Move (page n) from to

abbrev pub refused : Call → Cause → Kind
refused asked why = kind.Refused asked why

abbrev pub refused_fix : ℕ → Cause → Kind
refused_fix n why = kind.Refused (call.Fix (page n) 1) why

-- page 0 is read in and fixed
abbrev pub fixed : List Event
fixed = entry 1 1 1 (load 0 0) ∷ entry 2 1 1 (fix 0 0 1 1) ∷ []

-- Receipts in the same way.

abbrev pub granted : ℕ → ℕ → ℕ → Note
granted n frame clock = note.Granted (page n) frame clock

abbrev pub copied : ℕ → ℕ → List ℕ → ℕ → Note
copied n at bytes clock = note.Copied (page n) at bytes clock

abbrev pub unfixed : ℕ → ℕ → ℕ → Note
unfixed n frame fix = note.Unfixed (page n) frame fix

abbrev pub denied : Call → Cause → Note
denied asked why = note.Refused asked why

-- a write is covered where the page's dirt computes to be so
pub written : (h : List Entry) (p : PageId) (lsn upto : ℕ) → IsSomeAnd (dirt_of (dirty h) p) (λ d. (lsn ≡ d.newest) × (lsn ≤ upto)) → IsCoveredWrite h p lsn upto
written h p lsn upto found = by_case (dirt_of (dirty h) p) refl found
  where
    by_case : (d : Option Dirty) → dirt_of (dirty h) p ≡ d → IsSomeAnd d (λ d. (lsn ≡ d.newest) × (lsn ≤ upto)) → IsCoveredWrite h p lsn upto
    by_case None is none = absurd none
    by_case (Some d) is found = record { dirt = d; is_dirty = is; newest = found.0; logged = found.1 }

-- a fix is among the open ones: the newest of them
pub newest : (x : Held) (held : List Held) → Contains (x ∷ held) x
newest x held = (0, omega arith, refl)

-- or one behind it
pub older : (y x : Held) (held : List Held) → Contains held x → Contains (y ∷ held) x
older y x held found = Contains-append_right (y ∷ []) held x found

-- a fix has the load of its page, and what got the frame, before it
pub behind_load : (p : PageId) (f : ℕ) (ks : List Kind) → GotFrame p ks → (got : List Kind) × (kind.Load p f ∷ ks ≡ kind.Load p f ∷ got) × GotFrame p got
behind_load p f ks got = (ks, refl, got)

-- an evict has at most the write of its page before it
pub behind_write : (p : PageId) (lsn upto : ℕ) → (kind.Write p lsn upto ∷ [] ≡ []) ⊎ ((l : ℕ) × (u : ℕ) × (kind.Write p lsn upto ∷ [] ≡ kind.Write p l u ∷ []))
behind_write p lsn upto = inr (lsn, upto, refl)

-- or both
pub behind_both : (p q : PageId) (f g : ℕ) (passed : List (ℕ × Word)) (lsn upto : ℕ) → same_page q p ≡ false
    → (got : List Kind) × (kind.Load p f ∷ kind.Evict q g passed ∷ kind.Write q lsn upto ∷ [] ≡ kind.Load p f ∷ got) × GotFrame p got
behind_both p q f g passed lsn upto other = (kind.Evict q g passed ∷ kind.Write q lsn upto ∷ [], refl, (other, behind_write q lsn upto))

-- an earlier call without an answer
pub unanswered : (mine : List Event) (n : ℕ) → 1 ≤ n → n ≤ calls_of mine → is_answered n mine ≡ false → IsOpen mine n
unanswered mine n first begun is = record { first = first; begun = begun; unanswered = is }

-- all of it computes
pub ruleset computing = (inl, inr, unanswered, written, newest, older, behind_load, behind_write, behind_both, arith)

-- what has a part that is false is false
pub fails : {A B : Type 0} → (A → B) → (B → ⊥) → A → ⊥
fails part false_part whole = false_part (part whole)

-- Each of the events is lawful where it comes.
abbrev pub Good : Opening → List Event → Type 0
Good o events = AreLawful o (sole_of (reverse events)) (reverse events)

-- Each of them is, and this one behind them isn't; other ones follow, and all together tell whether a caller is the only one.
pub record BreaksBefore (o : Opening) (events : List Event) (e : Event) (rest : List Event) : Type 0 where
  pub good : AreLawful o (sole_of (reverse (events ++ e ∷ rest))) (reverse events)
  pub bad : IsLawful o (sole_of (reverse (events ++ e ∷ rest))) (reverse events) e → ⊥

-- and none follows
abbrev pub Breaks : Opening → List Event → Event → Type 0
Breaks o events e = BreaksBefore o events e []

-- The events are a whole trail.
abbrev pub Whole : Opening → List Event → Type 0
Whole o events = IsLawfulTrail o (record { first = o.first; events = events })

-- Each of them is lawful, but they are no whole trail.
pub record Unfinished (o : Opening) (events : List Event) : Type 0 where
  pub good : Good o events
  pub bad : IsLawfulTrail o (record { first = o.first; events = events }) → ⊥
