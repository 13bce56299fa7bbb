-- A trail that is merged from a history and accounts, and what a history and accounts are at the end.
use Rattle.std.specs.Prelude.{ℕ, List, [], ◌∷◌, ◌++◌, ◌≡◌, ◌≤◌, ◌⊎◌, ⊤, reverse, true, false, Option, Some, None, IsTrue}
use Rattle.std.specs.List.{AllByRecursion}
use Rattle.trail.specs.declared.event.Entry.{Entry}
use Rattle.trail.specs.declared.event.Receipt.{Receipt}
use Rattle.trail.specs.declared.event.Event.{Event}
use Rattle.trail.specs.Trails.{Opening, entries, own, receipts}
use Rattle.trail.specs.Calls.{calls_of, is_answered, made}
use Rattle.trail.specs.Book.{book, is_in, is_owner}
use Rattle.trail.specs.Merging.{AreInOrder, IsPlaced}
use Rattle.trail.specs.Preceding.{AreEndedBy, AreRounds, is_undo}
use Rattle.trail.specs.Withdrawal.{IsFollowed}

-- The trail, the newest event first: its entries are the history, each caller's receipts are those of its account, each stands behind the entry of its
-- place, and those of one place stand by caller, then number.
pub record IsTrailOf (first : ℕ) (h : List Entry) (accounts : ℕ → List Event) (past : List Event) : Type 0 where
  pub entries_are : entries past ≡ h
  pub receipts_are : (c : ℕ) → receipts (own c past) ≡ receipts (accounts c)
  pub placed : IsPlaced first past
  pub ordered : AreInOrder past

abbrev pub AreDistinct : List ℕ → Type 0
AreDistinct [] = ⊤
AreDistinct (c ∷ cs) = (is_in c cs ≡ false) × AreDistinct cs

-- the receipts of these callers' accounts, those of each with the oldest first
abbrev pub gathered : (ℕ → List Event) → List ℕ → List Receipt
gathered accounts [] = []
gathered accounts (c ∷ cs) = reverse (receipts (accounts c)) ++ gathered accounts cs

-- no caller stands here twice, and no other one has done anything
pub record AreCallers (accounts : ℕ → List Event) (cs : List ℕ) : Type 0 where
  pub apart : AreDistinct cs
  pub others : (c : ℕ) → is_in c cs ≡ false → accounts c ≡ []

-- Numbers: each call of a caller has its answer, or is a resize that was cut short: undone without memory for its refusal, or still withdrawing chunks.
abbrev pub IsAnswered : Opening → List Entry → ℕ → List Event → Type 0
IsAnswered o h c mine = (n : ℕ) → 1 ≤ n → n ≤ calls_of mine
    → (is_answered n mine ≡ true) ⊎ (AreEndedBy is_undo (made n mine) ⊎ (AreRounds (made n mine) × IsTrue (is_owner (book o.config h) c n)))

-- what stands behind each Shrink, Grow and Undo, by the accounts of their callers
abbrev pub AreEnded : (ℕ → List Event) → Option Entry → List Entry → Type 0
AreEnded accounts next [] = ⊤
AreEnded accounts next (e ∷ h) = IsFollowed (accounts e.caller) next e e.kind × AreEnded accounts (Some e) h

-- the same of all but the newest entry, behind which more may come
abbrev pub AreEndedSoFar : (ℕ → List Event) → List Entry → Type 0
AreEndedSoFar accounts [] = ⊤
AreEndedSoFar accounts (e ∷ h) = AreEnded accounts (Some e) h

-- what the newest entry has behind it with the next one
abbrev pub FollowsNewest : (ℕ → List Event) → Option Entry → List Entry → Type 0
FollowsNewest accounts next [] = ⊤
FollowsNewest accounts next (e ∷ h) = IsFollowed (accounts e.caller) next e e.kind

-- the history without its newest entry
abbrev pub below_newest : List Entry → List Entry
below_newest [] = []
below_newest (e ∷ h) = h

-- these entries took no withdrawal back
abbrev pub HasNoUndo : List Entry → Type 0
HasNoUndo pending = AllByRecursion (λ (e : Entry). is_undo e.kind ≡ false) pending

-- Each call has its answer, and what is followed by its call's answer is so.
pub record AreDone (o : Opening) (h : List Entry) (accounts : ℕ → List Event) : Type 0 where
  pub answered : (c : ℕ) → IsAnswered o h c (accounts c)
  pub followed : AreEnded accounts None h
