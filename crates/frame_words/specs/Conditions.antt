-- When each call may be made. What depends on the history or on the turn is asked only where these are told.
use Rattle.std.specs.Prelude.{ℕ, true, false, List, [], ◌∷◌, ◌≡◌, ◌≢◌, ◌+◌, ◌<◌, ◌^◌, ◌⊎◌, Option, None, Some, IfSome, IsSome, IsSomeAnd, Contains, length}
use Rattle.page_ids.specs.Instances.{instance_of}
use Rattle.page_ids.specs.Content.{Content}
use Rattle.page_ids.specs.FrameWord.{fixes_of, is_latched}
use Rattle.page_ids.specs.Size.{page_bytes}
use Rattle.page_ids.specs.declared.frame_word.Word.{Word}
use Rattle.page_ids.specs.declared.ids.PageId.{PageId}
use Rattle.page_ids.specs.declared.limits.TheConstants.{CLOCK_BITS}
use Rattle.trail.specs.History.{home, change, value}
use Rattle.trail.specs.Trails.{mark}
use Rattle.trail.specs.declared.event.Entry.{Entry}
use Rattle.frame_words.specs.Rows.{Uncovers}
use Rattle.frame_words.specs.Seen.{FramesSeen, History, Turn, row_at, Finds, OnToldValue}
use Rattle.trail.specs.Words.{words_told}
use Rattle.frame_words.specs.Appends.{AreReady, FitsHomes, FitsOpen, IsNoHome, pages_named}

-- Each home that isn't resident is claimed, and not one that is still to be published: of such a one the clock is behind its last change.
abbrev pub ArePublished : FramesSeen → List Entry → Type 0
ArePublished s h = (p : PageId) (f : ℕ) → f < length s.rows → home h p ≡ Some f → (row_at s f).resident ≡ false → (row_at s f).clock ≡ change h f

abbrev pub AreOurs : History → List PageId → Type 0
AreOurs h [] = Unit {0}
AreOurs h (p ∷ ps) = (instance_of p h.config.instances ≡ h.instance) × AreOurs h ps

-- each word was found, on its frame
abbrev pub AreFound : List (ℕ × Word) → List (ℕ × Word) → Type 0
AreFound found [] = Unit {0}
AreFound found (w ∷ ws) = Contains found w × AreFound found ws

-- the entry is the next one of the call that has the turn
pub record IsNext (s : FramesSeen) (h : History) (t : Turn) (e : Entry) : Type 0 where
  pub place : e.place ≡ mark h.config.first h.entries + 1
  pub caller : e.caller ≡ t.caller
  pub number : e.number ≡ t.number
  pub published : ArePublished s h.entries
  pub created : s.owed ≡ None
  pub ours : AreOurs h (pages_named e.kind)
  pub homes : FitsHomes s h.entries e.kind
  pub opened : IfSome s.opened (λ opened. FitsOpen opened e.kind)
  pub words : IfSome s.found (λ found. AreFound found (words_told e.kind))

pub record MayAppend (s : FramesSeen) (e : Entry) : Type 0 where
  pub frames : AreReady s e.kind
  pub next : IfSome s.history (λ h. IfSome s.turn (λ t. IsNext s h t e))

-- this holder has not the latch of the frame
abbrev pub IsUnlatched : FramesSeen → ℕ → Type 0
IsUnlatched s f = (row_at s f).latched ≡ false

-- a frame that this holder neither visits nor has latched
pub record IsUntouched (s : FramesSeen) (f : ℕ) : Type 0 where
  pub inside : f < length s.rows
  pub unvisited : s.visit ≢ Some f
  pub unlatched : IsUnlatched s f

-- no page's home that is claimed or still to be published
abbrev pub IsSteady : FramesSeen → ℕ → Type 0
IsSteady s f = IfSome s.history (λ h. ((row_at s f).resident ≡ true) ⊎ IsNoHome h.entries f)

-- the image is there, and it is that of the page
pub record IsItsImage (s : FramesSeen) (h : History) (p : PageId) (image : Option (Option Content)) : Type 0 where
  pub sized : IsSomeAnd image (λ told. IsSomeAnd told (λ c. length c.bytes ≡ page_bytes h.config.page))
  pub valued : IfSome s.base (λ base. image ≡ Some (value (page_bytes h.config.page) base h.entries p))

-- The image of a frame that nobody else can reach any more. That of a page is its value.
pub record IsUncovered (s : FramesSeen) (f : ℕ) (image : Option (Option Content)) : Type 0 where
  pub told : Uncovers (row_at s f).image image
  pub its : (row_at s f).resident ≡ true → IfSome s.history (λ h. IsItsImage s h (row_at s f).page image)

-- the word that was found has no fixes, or is not latched
pub record FindsUnfixed (s : FramesSeen) (f : ℕ) : Type 0 where
  pub word : Word
  pub found : Finds s f word
  pub unfixed : fixes_of word ≡ 0

pub record FindsUnlatched (s : FramesSeen) (f : ℕ) : Type 0 where
  pub word : Word
  pub found : Finds s f word
  pub unlatched : is_latched word ≡ false

-- the page's frame may be published at this clock: it is the page's home, and its image and clock are those that the history gives
pub record MayPublish (s : FramesSeen) (f : ℕ) (p : PageId) (clock : ℕ) : Type 0 where
  pub inside : f < length s.rows
  pub away : (row_at s f).resident ≡ false
  pub laid : IsSome (row_at s f).image
  pub early : clock < 2 ^ CLOCK_BITS
  pub home_is : IfSome s.history (λ h. (home h.entries p ≡ Some f) × (clock ≡ change h.entries f))
  pub value_is : OnToldValue s p (λ v. (row_at s f).image ≡ Some v)

-- this holder has the latch of the frame
pub record IsLatched (s : FramesSeen) (f : ℕ) : Type 0 where
  pub inside : f < length s.rows
  pub latched : (row_at s f).latched ≡ true

-- a resident frame has its image and the clock of its last change again
pub record MayUnlatch (s : FramesSeen) (f : ℕ) : Type 0 where
  pub latch : IsLatched s f
  pub settled : (row_at s f).resident ≡ true
      → IfSome s.history (λ h. IsSome (row_at s f).image × ((row_at s f).clock ≡ change h.entries f))

-- nobody else can reach the image of the frame
pub record IsVisited (s : FramesSeen) (f : ℕ) : Type 0 where
  pub inside : f < length s.rows
  pub alone : ((row_at s f).resident ≡ false) ⊎ ((row_at s f).latched ≡ true)

-- there is no image yet, and this one is of the pool's page size; in a resident frame it is the page's value
pub record MayLay (s : FramesSeen) (f : ℕ) (content : Content) : Type 0 where
  pub reached : IsVisited s f
  pub empty : (row_at s f).image ≡ None
  pub sized : IfSome s.history (λ h. length content.bytes ≡ page_bytes h.config.page)
  pub valued : (row_at s f).resident ≡ true → OnToldValue s (row_at s f).page (λ v. v ≡ Some content)
