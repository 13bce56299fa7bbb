-- Which entries a call may have before its answer. They are judged with the answer; each meets laws of its own where it comes. The newest stands first.
use Rattle.std.specs.Prelude.{ℕ, Bool, true, false, List, [], ◌∷◌, ◌≡◌, ◌+◌, ◌⊎◌, Option, None, Some, IfSome, IsSome, IsSomeAnd, IsTrue, map, ⊤}
use Rattle.std.specs.List.{AllByRecursion}
use Rattle.page_ids.specs.Same.{same_page}
use Rattle.page_ids.specs.declared.ids.PageId.{PageId}
use Rattle.trail.specs.declared.event.Call.{Call}
use Rattle.trail.specs.declared.event.Call.TheVariants as call
use Rattle.trail.specs.declared.event.Cause.{Cause}
use Rattle.trail.specs.declared.event.Cause.TheVariants as cause
use Rattle.trail.specs.declared.event.Kind.{Kind}
use Rattle.trail.specs.declared.event.Kind.TheVariants as kind
use Rattle.trail.specs.declared.event.Note.{Note}
use Rattle.trail.specs.declared.event.Note.TheVariants as note
use Rattle.trail.specs.declared.event.Entry.{Entry}
use Rattle.trail.specs.Kinds.{write_in}
use Rattle.trail.specs.History.{home}
use Rattle.trail.specs.Calls.{first_made}

abbrev pub kinds : List Entry → List Kind
kinds made = map (λ (e : Entry). e.kind) made

-- entries that are writes alone
abbrev pub AreWrites : List Kind → Type 0
AreWrites ks = AllByRecursion (λ k. IsSome (write_in k)) ks

-- The call got a frame for a page: none of its entries where one was free, else the evict of another page, behind its write where it was dirty.
abbrev pub GotFrame : PageId → List Kind → Type 0
GotFrame p [] = ⊤
GotFrame p (kind.Evict q f passed ∷ ks) = (same_page q p ≡ false) × ((ks ≡ []) ⊎ ((lsn : ℕ) × (upto : ℕ) × (ks ≡ kind.Write q lsn upto ∷ [])))
GotFrame p (k ∷ ks) = ⊥

-- no entry, or the call got a frame for a page that has no home
abbrev pub MayGetFrame : List Entry → PageId → List Kind → Type 0
MayGetFrame h p ks = (ks ≡ []) ⊎ ((home h p ≡ None) × GotFrame p ks)

abbrev pub is_evict_of : PageId → Kind → Bool
is_evict_of p (kind.Evict q f passed) = same_page q p
is_evict_of p _ = false

-- the entry that stands directly behind this place is the evict of the page
abbrev pub IsLeft : PageId → ℕ → Entry → Type 0
IsLeft p place e = (e.place ≡ place + 1) × IsTrue (is_evict_of p e.kind)

-- each write has the evict of its page directly behind it
abbrev pub AreLeft : Option Entry → List Entry → Type 0
AreLeft newer [] = ⊤
AreLeft newer (e ∷ made) = IfSome (write_in e.kind) (λ w. IsSomeAnd newer (IsLeft w.page e.place)) × AreLeft (Some e) made

-- what the rounds of a resize to fewer chunks are made of
abbrev pub is_of_round : Kind → Bool
is_of_round (kind.Withdraw from) = true
is_of_round (kind.Evict p f passed) = true
is_of_round (kind.Write p lsn upto) = true
is_of_round (kind.Move p from to) = true
is_of_round _ = false

abbrev pub begins_rounds : Kind → Bool
begins_rounds (kind.Withdraw from) = true
begins_rounds _ = false

-- a resize to fewer chunks, as far as it has come: it began to withdraw them, evicted and moved pages, and wrote only what it evicted
pub record AreRounds (made : List Entry) : Type 0 where
  pub begun : IsSomeAnd (first_made made) (λ (e : Entry). IsTrue (begins_rounds e.kind))
  pub only : AllByRecursion (λ (e : Entry). IsTrue (is_of_round e.kind)) made
  pub left : AreLeft None made

abbrev pub is_undo : Kind → Bool
is_undo (kind.Undo from) = true
is_undo _ = false

abbrev pub is_shrink : Kind → Bool
is_shrink (kind.Shrink chunks) = true
is_shrink _ = false

abbrev pub is_growth : Kind → Bool
is_growth (kind.Grow chunks) = true
is_growth _ = false

-- the rounds of a resize, and the entry that ends them
abbrev pub AreEndedBy : (Kind → Bool) → List Entry → Type 0
AreEndedBy ends [] = ⊥
AreEndedBy ends (e ∷ made) = IsTrue (ends e.kind) × AreRounds made

-- more chunks alone
abbrev pub IsGrowth : List Entry → Type 0
IsGrowth made = IsSomeAnd (first_made made) (λ (e : Entry). IsTrue (is_growth e.kind) × (made ≡ e ∷ []))

-- a resize that is done: nothing had to change, chunks came, or the rounds came to their end
abbrev pub AreOfResize : List Entry → Type 0
AreOfResize made = (made ≡ []) ⊎ IsGrowth made ⊎ AreEndedBy is_shrink made

-- a fix that was refused got a frame at most where its page could not be read in
abbrev pub MayPrecedeUnfixed : List Entry → PageId → List Kind → Cause → Type 0
MayPrecedeUnfixed h p ks (cause.DiskFault before after) = MayGetFrame h p ks
MayPrecedeUnfixed h p ks (cause.BadPage bad) = MayGetFrame h p ks
MayPrecedeUnfixed h p ks why = ks ≡ []

-- and a create at most where the log had no LSN for its record
abbrev pub MayPrecedeUncreated : List Entry → PageId → List Kind → Cause → Type 0
MayPrecedeUncreated h p ks (cause.LogSpent end) = MayGetFrame h p ks
MayPrecedeUncreated h p ks why = ks ≡ []

-- a resize that was refused behind its first entry took its withdrawal back
abbrev pub MayPrecedeUndone : List Entry → Cause → Type 0
MayPrecedeUndone made (cause.PlacesSpent mark need) = (made ≡ []) ⊎ AreEndedBy is_undo made
MayPrecedeUndone made (cause.RedoFault before after) = (made ≡ []) ⊎ AreEndedBy is_undo made
MayPrecedeUndone made (cause.DiskFault before after) = (made ≡ []) ⊎ AreEndedBy is_undo made
MayPrecedeUndone made (cause.Undone seen) = AreEndedBy is_undo made
MayPrecedeUndone made why = made ≡ []

-- what a call that is refused may have before that
abbrev pub MayPrecedeRefused : List Entry → List Entry → Call → Cause → Type 0
MayPrecedeRefused h made (call.Fix p now) why = MayPrecedeUnfixed h p (kinds made) why
MayPrecedeRefused h made (call.Create p now) why = MayPrecedeUncreated h p (kinds made) why
MayPrecedeRefused h made (call.Clean bound) why = AreWrites (kinds made)
MayPrecedeRefused h made (call.Resize bytes rounds) why = MayPrecedeUndone made why
MayPrecedeRefused h made asked why = made ≡ []

-- As an entry, the refusal for want of places comes only behind a withdrawal that was taken back.
abbrev pub MayPrecedeSpent : List Entry → Cause → Type 0
MayPrecedeSpent made (cause.PlacesSpent mark need) = AreEndedBy is_undo made
MayPrecedeSpent made _ = ⊤

abbrev pub MayPrecedeRefusal : List Entry → List Entry → Call → Cause → Type 0
MayPrecedeRefusal h made asked why = MayPrecedeSpent made why × MayPrecedeRefused h made asked why

-- and so where the answer is a receipt: no other call that a receipt answers has entries
abbrev pub MayPrecedeNote : List Entry → List Entry → Note → Type 0
MayPrecedeNote h made (note.Refused asked why) = MayPrecedeRefused h made asked why
MayPrecedeNote h made _ = made ≡ []

-- What may stand before an answer at this history.
abbrev pub MayPrecede : List Entry → List Entry → Kind → Type 0
MayPrecede h made (kind.Load p f) = ⊤
MayPrecede h made (kind.Fix p f clock now) = (made ≡ []) ⊎ ((got : List Kind) × (kinds made ≡ kind.Load p f ∷ got) × GotFrame p got)
MayPrecede h made (kind.Create p f start end now) = GotFrame p (kinds made)
MayPrecede h made (kind.Put p at bytes start end) = made ≡ []
MayPrecede h made (kind.Evict p f passed) = ⊤
MayPrecede h made (kind.Write p lsn upto) = ⊤
MayPrecede h made (kind.Move p from to) = ⊤
MayPrecede h made (kind.Withdraw from) = ⊤
MayPrecede h made (kind.Undo from) = ⊤
MayPrecede h made (kind.Shrink chunks) = ⊤
MayPrecede h made (kind.Grow chunks) = ⊤
MayPrecede h made (kind.Resize bytes chunks) = AreOfResize made
MayPrecede h made (kind.Clean written skipped) = AreWrites (kinds made)
MayPrecede h made (kind.Check lsn) = made ≡ []
MayPrecede h made (kind.WatchSet p) = made ≡ []
MayPrecede h made (kind.WatchAt p f) = made ≡ []
MayPrecede h made (kind.Occurred p arrived) = made ≡ []
MayPrecede h made (kind.Unwatch p) = made ≡ []
MayPrecede h made (kind.Dump pct ids) = made ≡ []
MayPrecede h made (kind.Refused asked why) = MayPrecedeRefusal h made asked why
