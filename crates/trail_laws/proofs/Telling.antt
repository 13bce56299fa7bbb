-- Words stay true wherever a caller is alone.
use Rattle.std.proofs.Common.{◌≡◌, ◌≢◌, ◌<◌, ◌≤◌, ℕ, Bool, true, false, cond, List, [], ◌∷◌, ◌+◌, ◌⊎◌, inl, inr, Option, Some, None, IfSome, refl, ap, ◌∙◌, sym, subst, nat_eq, arith}
use Rattle.std.specs.List.{AllByRecursion}
use Rattle.page_ids.specs.declared.ids.PageId.{PageId}
use Rattle.page_ids.specs.declared.frame_word.Word.{Word}
use Rattle.trail.specs.declared.event.Call.{Call}
use Rattle.trail.specs.declared.event.Cause.{Cause}
use Rattle.trail.specs.declared.event.Held.{Held}
use Rattle.trail.specs.declared.event.Kind.{Kind}
use Rattle.trail.specs.declared.event.Kind.TheVariants as kind
use Rattle.trail.specs.declared.event.Note.{Note}
use Rattle.trail.specs.declared.event.Entry.{Entry}
use Rattle.trail.specs.declared.event.Event.{Event}
use Rattle.trail.specs.declared.event.Event.TheVariants as event
use Rattle.trail.specs.Trails.{Opening, caller_of}
use Rattle.trail.specs.History.{tenant}
use Rattle.trail.specs.Calls.{open_fixes}
use Rattle.trail.specs.Words.{AreTrueWords, Hint, cause_tag, cause_words, hint_of}
use Rattle.trail.specs.Alone.{IsTrueKind, IsTrueOf, IsTrueRefusal, is_busy, is_of_flush}
use Rattle.trail_laws.specs.Accounts.{with_event}
use Rattle.trail_laws.specs.SoFar.{AreAlone, AreTrueAlone, IsLawfulSoFar, IsTrueBy, is_of_clean}
use Rattle.trail_laws.specs.Adding.{MayTell, next_entry, next_note}
use Rattle.trail_laws.proofs.Places.{each_entry, each_note}

pub nothing_told : AreTrueAlone [] (λ c. [])
nothing_told c flush alone d = tt

-- who is alone behind an event was so before it
alone_before : (c : ℕ) (flush : Option ℕ) (e : Event) (accounts : ℕ → List Event) → AreAlone c flush (with_event e accounts) → AreAlone c flush accounts
alone_before c flush e accounts alone d = cases (nat_eq d (caller_of e)) (alone d)
  where
    cases : (b : Bool) → AllByRecursion (λ x. ((is_of_flush flush x ≡ true) × (is_of_clean x ≡ true)) ⊎ (caller_of x ≡ c)) (cond b (e ∷ accounts d) (accounts d))
        → AllByRecursion (λ x. ((is_of_flush flush x ≡ true) × (is_of_clean x ≡ true)) ⊎ (caller_of x ≡ c)) (accounts d)
    cases true all = all.1
    cases false all = all

-- and the event is one that may be there
alone_at : (c : ℕ) (flush : Option ℕ) (e : Event) (accounts : ℕ → List Event) → AreAlone c flush (with_event e accounts) → ((is_of_flush flush e ≡ true) × (is_of_clean e ≡ true)) ⊎ (caller_of e ≡ c)
alone_at c flush e accounts alone =
    let A : Bool → Type 0 = λ b. AllByRecursion (λ x. ((is_of_flush flush x ≡ true) × (is_of_clean x ≡ true)) ⊎ (caller_of x ≡ c)) (cond b (e ∷ accounts (caller_of e)) (accounts (caller_of e))) in
    (subst A (Rattle.std.proofs.Common.eq-eqb (caller_of e) (caller_of e) refl) (alone (caller_of e))).0

pub entry_told : (o : Opening) (pages : ℕ → ℕ) (h : List Entry) (accounts : ℕ → List Event) (c n : ℕ) (k : Kind) → IsLawfulSoFar o pages h accounts → AreTrueAlone h accounts → MayTell h accounts (event.Entry (next_entry o.first h c n k))
    → AreTrueAlone (next_entry o.first h c n k ∷ h) (with_event (event.Entry (next_entry o.first h c n k)) accounts)
entry_told o pages h accounts c n k so words may a flush alone =
    let e = next_entry o.first h c n k in
    each_entry (IsTrueBy a) o.first e h accounts refl (λ d. (so.places.each d).falling) (may a flush alone) (words a flush (alone_before a flush (event.Entry e) accounts alone))

pub note_told : (o : Opening) (h : List Entry) (accounts : ℕ → List Event) (c n : ℕ) (k : Note) → AreTrueAlone h accounts → MayTell h accounts (event.Receipt (next_note o.first h c n k))
    → AreTrueAlone h (with_event (event.Receipt (next_note o.first h c n k)) accounts)
note_told o h accounts c n k words may a flush alone =
    let r = next_note o.first h c n k in
    each_note (IsTrueBy a) o.first r h accounts refl (may a flush alone) (words a flush (alone_before a flush (event.Receipt r) accounts alone))

-- An event that tells no words.
pub tells_none : (h : List Entry) (accounts : ℕ → List Event) (e : Event) → ((held : List Held) → IsTrueOf h held e) → MayTell h accounts e
tells_none h accounts e all c flush alone = record { own = λ is. all (open_fixes (accounts (caller_of e))); other = λ differ held. all held }

-- An event that no flush has: its words are those of its caller's fixes, where that is alone.
pub tells_own : (h : List Entry) (accounts : ℕ → List Event) (e : Event) → is_of_clean e ≡ false → ((flush : Option ℕ) → AreAlone (caller_of e) flush (with_event e accounts) → IsTrueOf h (open_fixes (accounts (caller_of e))) e)
    → MayTell h accounts e
tells_own h accounts e apart exact c flush alone = record {
  own = λ is. let A : ℕ → Type 0 = λ d. AreAlone d flush (with_event e accounts) in exact flush (subst A (sym is) alone);
  other = λ differ. absurd (cases differ (alone_at c flush e accounts alone));
}
  where
    cases : caller_of e ≢ c → ((is_of_flush flush e ≡ true) × (is_of_clean e ≡ true)) ⊎ (caller_of e ≡ c) → ⊥
    cases differ (inl (t, clean)) = let bad : true ≡ false = sym clean ∙ apart in absurd (cc)
    cases differ (inr is) = differ is

-- A clean that skips no frame where a caller is alone.
pub tells_clean : (h : List Entry) (accounts : ℕ → List Event) (e : Entry) (written : ℕ) (skipped : List (ℕ × Word)) → e.kind ≡ kind.Clean written skipped
    → ((c : ℕ) (flush : Option ℕ) → AreAlone c flush (with_event (event.Entry e) accounts) → skipped ≡ []) → MayTell h accounts (event.Entry e)
tells_clean h accounts e written skipped is none c flush alone =
    let K : Kind → Type 0 = λ k. (held : List Held) → IsTrueKind h held k in
    let all : K e.kind = subst K (sym is) (λ held. none c flush alone) in
    record { own = λ same. all (open_fixes (accounts e.caller)); other = λ differ held. all held }

-- a refusal that tells no words
pub wordless : (h : List Entry) (held : List Held) (asked : Call) (why : Cause) → cause_words asked why ≡ [] → cause_tag why ≡ None → is_busy why ≡ false → IsTrueRefusal h held asked why
wordless h held asked why none untagged free =
    let W : List (ℕ × Word) → Type 0 = λ words. AreTrueWords h held words in
    record { words = subst W (sym none) tt; tag = each (hint_of asked); free = free }
  where
    no_tag : (P : PageId → Type 0) (tag : Option PageId) → tag ≡ None → IfSome tag P
    no_tag P None is = tt
    no_tag P (Some p) is = absurd (cc)

    each : (hint : Option Hint) → IfSome hint (λ (x : Hint). IfSome (cause_tag why) (λ p. tenant h x.frame ≡ Some p))
    each None = tt
    each (Some x) = no_tag _ (cause_tag why) untagged
