-- What stands behind a Shrink, Grow or Undo stays so, entry by entry.
use Rattle.std.proofs.Common.{◌≡◌, ◌≢◌, ℕ, Bool, true, false, cond, List, [], ◌∷◌, ◌&&◌, ◌||◌, inl, inr, Option, Some, None, IsTrue, filter, refl, ap, ◌∙◌, sym, subst, eq-eqb, nat_eq}
use Rattle.std.specs.List.{AllByRecursion}
use Rattle.trail.specs.declared.event.Kind.{Kind}
use Rattle.trail.specs.declared.event.Kind.TheVariants as kind
use Rattle.trail.specs.declared.event.Entry.{Entry}
use Rattle.trail.specs.declared.event.Event.{Event}
use Rattle.trail.specs.declared.event.Event.TheVariants as event
use Rattle.trail.specs.Trails.{caller_of, entries, number_of, own}
use Rattle.trail.specs.Calls.{is_answer, is_answered}
use Rattle.trail.specs.Preceding.{AreRounds, is_of_round, is_undo}
use Rattle.trail.specs.Withdrawal.{IsFollowed}
use Rattle.trail_laws.specs.Accounts.{entries_of, with_event}
use Rattle.trail_laws.specs.Adding.{IsCalling}
use Rattle.trail_laws.specs.Ending.{AreEnded, AreEndedSoFar, FollowsNewest, HasNoUndo, below_newest}
use Rattle.trail_laws.proofs.Appending.{made_own}
use Rattle.trail_laws.proofs.Tests.{number_is}

-- a call without an answer has none behind an event of another call
unanswered_on : (x : Event) (accounts : ℕ → List Event) (c m : ℕ) → (caller_of x ≡ c → number_of x ≢ m) → is_answered m (own c (accounts c)) ≡ false → is_answered m (own c (with_event x accounts c)) ≡ false
unanswered_on x accounts c m differ none = cases (nat_eq c (caller_of x)) refl
  where
    sides : (b : Bool) → nat_eq (caller_of x) c ≡ b → is_answered m (cond b (x ∷ own c (accounts c)) (own c (accounts c))) ≡ false
    sides true t = by_number (nat_eq (number_of x) m) refl
      where
        by_number : (b : Bool) → nat_eq (number_of x) m ≡ b → ((nat_eq (number_of x) m && is_answer x) || is_answered m (own c (accounts c))) ≡ false
        by_number true u = absurd (differ (number_is (caller_of x) c t) (number_is (number_of x) m u))
        by_number false u = ap (λ (b : Bool). (b && is_answer x) || is_answered m (own c (accounts c))) u ∙ none
    sides false t = none

    cases : (b : Bool) → nat_eq c (caller_of x) ≡ b → is_answered m (own c (cond b (x ∷ accounts c) (accounts c))) ≡ false
    cases true t = sides (nat_eq (caller_of x) c) refl
    cases false t = none

-- of other events only those count that leave the call of an Undo without an answer
pub followed_by : (p q : List Event) (next : Option Entry) (e : Entry) (k : Kind) → (is_undo k ≡ true → is_answered e.number (own e.caller p) ≡ false → is_answered e.number (own e.caller q) ≡ false) → IsFollowed p next e k
    → IsFollowed q next e k
followed_by p q next e (kind.Undo from) same (inl refused) = inl refused
followed_by p q next e (kind.Undo from) same (inr none) = inr (same refl none)
followed_by p q next e (kind.Load x f) same is = is
followed_by p q next e (kind.Fix x f clock now) same is = is
followed_by p q next e (kind.Create x f start end now) same is = is
followed_by p q next e (kind.Put x at bytes start end) same is = is
followed_by p q next e (kind.Evict x f passed) same is = is
followed_by p q next e (kind.Write x lsn upto) same is = is
followed_by p q next e (kind.Move x from to) same is = is
followed_by p q next e (kind.Withdraw from) same is = is
followed_by p q next e (kind.Shrink chunks) same is = is
followed_by p q next e (kind.Grow chunks) same is = is
followed_by p q next e (kind.Resize bytes chunks) same is = is
followed_by p q next e (kind.Clean written skipped) same is = is
followed_by p q next e (kind.Check lsn) same is = is
followed_by p q next e (kind.WatchSet x) same is = is
followed_by p q next e (kind.WatchAt x f) same is = is
followed_by p q next e (kind.Occurred x arrived) same is = is
followed_by p q next e (kind.Unwatch x) same is = is
followed_by p q next e (kind.Dump pct ids) same is = is
followed_by p q next e (kind.Refused asked why) same is = is

-- the call of the event took no withdrawal back in these entries
abbrev pub AreOthers : Event → List Entry → Type 0
AreOthers x h = AllByRecursion (λ (e : Entry). is_undo e.kind ≡ true → caller_of x ≡ e.caller → number_of x ≢ e.number) h

pub ended_on : (x : Event) (accounts : ℕ → List Event) (next : Option Entry) (h : List Entry) → AreOthers x h → AreEnded accounts next h → AreEnded (with_event x accounts) next h
ended_on x accounts next [] others ended = tt
ended_on x accounts next (e ∷ h) others ended = (followed_by (accounts e.caller) (with_event x accounts e.caller) next e e.kind (λ undo none. unanswered_on x accounts e.caller e.number (others.0 undo) none) ended.0, ended_on x accounts (Some e) h others.1 ended.1)

-- An entry comes behind the newest one, and a note beside it.
pub ended_entry : (e : Entry) (h : List Entry) (accounts : ℕ → List Event) → AreOthers (event.Entry e) (below_newest h) → FollowsNewest (with_event (event.Entry e) accounts) (Some e) h → AreEndedSoFar accounts h
    → AreEndedSoFar (with_event (event.Entry e) accounts) (e ∷ h)
ended_entry e [] accounts others follows ended = tt
ended_entry e (d ∷ h) accounts others follows ended = (follows, ended_on (event.Entry e) accounts (Some d) h others ended)

pub ended_note : (x : Event) (h : List Entry) (accounts : ℕ → List Event) → AreOthers x (below_newest h) → AreEndedSoFar accounts h → AreEndedSoFar (with_event x accounts) h
ended_note x [] accounts others ended = tt
ended_note x (d ∷ h) accounts others ended = ended_on x accounts (Some d) h others ended

-- at the end the newest entry asks for nothing behind it
pub ended_all : (h : List Entry) (accounts : ℕ → List Event) → FollowsNewest accounts None h → AreEndedSoFar accounts h → AreEnded accounts None h
ended_all [] accounts follows ended = tt
ended_all (e ∷ h) accounts follows ended = (follows, ended)

-- The entries of a call are those of its caller with its number.
of_call : (x : Event) (h : List Entry) → HasNoUndo (filter (λ (e : Entry). nat_eq e.number (number_of x)) (entries_of (caller_of x) h)) → AreOthers x h
of_call x [] none = tt
of_call x (e ∷ h) none = (λ undo caller number. here undo (eq-eqb e.caller (caller_of x) (sym caller)) (eq-eqb e.number (number_of x) (sym number)), of_call x h (rest (nat_eq e.caller (caller_of x)) none))
  where
    picked : List Entry → List Entry
    picked l = filter (λ (d : Entry). nat_eq d.number (number_of x)) l

    rest : (b : Bool) → HasNoUndo (picked (cond b (e ∷ entries_of (caller_of x) h) (entries_of (caller_of x) h))) → HasNoUndo (picked (entries_of (caller_of x) h))
    rest false all = all
    rest true all = number (nat_eq e.number (number_of x)) all
      where
        number : (b : Bool) → HasNoUndo (cond b (e ∷ picked (entries_of (caller_of x) h)) (picked (entries_of (caller_of x) h))) → HasNoUndo (picked (entries_of (caller_of x) h))
        number true all = all.1
        number false all = all

    here : is_undo e.kind ≡ true → nat_eq e.caller (caller_of x) ≡ true → nat_eq e.number (number_of x) ≡ true → ⊥
    here undo a b =
        let N : List Entry → Type 0 = λ l. HasNoUndo (picked l) in
        let own : HasNoUndo (picked (e ∷ entries_of (caller_of x) h)) = subst N (ap (λ (t : Bool). cond t (e ∷ entries_of (caller_of x) h) (entries_of (caller_of x) h)) a) none in
        let both : HasNoUndo (e ∷ picked (entries_of (caller_of x) h)) = subst HasNoUndo (ap (λ (t : Bool). cond t (e ∷ picked (entries_of (caller_of x) h)) (picked (entries_of (caller_of x) h))) b) own in
        let bad : true ≡ false = sym undo ∙ both.0 in absurd (cc)

-- where none of the call's entries took a withdrawal back
pub others_of : (x : Event) (h : List Entry) (mine : List Event) (pending : List Entry) → IsCalling mine (number_of x) pending → entries mine ≡ entries_of (caller_of x) h → HasNoUndo pending → AreOthers x h
others_of x h mine pending calling kept none =
    of_call x h (subst HasNoUndo (sym calling.made_are ∙ made_own (number_of x) mine ∙ ap (filter (λ (e : Entry). nat_eq e.number (number_of x))) kept) none)

pub others_below : (x : Event) (h : List Entry) → AreOthers x h → AreOthers x (below_newest h)
others_below x [] others = tt
others_below x (e ∷ h) others = others.1

-- or its newest one alone did, which is the newest of the history
pub others_behind : (x : Event) (undo : Entry) (h : List Entry) (mine : List Event) (pending : List Entry) → IsCalling mine (number_of x) (undo ∷ pending) → entries mine ≡ entries_of (caller_of x) (undo ∷ h)
    → undo.caller ≡ caller_of x → undo.number ≡ number_of x → HasNoUndo pending → AreOthers x h
others_behind x undo h mine pending calling kept caller number none =
    let picked : List Entry → List Entry = λ l. filter (λ (e : Entry). nat_eq e.number (number_of x)) l in
    let all : undo ∷ pending ≡ undo ∷ picked (entries_of (caller_of x) h) =
    sym calling.made_are ∙ made_own (number_of x) mine ∙ ap picked kept
    ∙ ap (λ (t : Bool). picked (cond t (undo ∷ entries_of (caller_of x) h) (entries_of (caller_of x) h))) (eq-eqb undo.caller (caller_of x) caller)
    ∙ ap (λ (t : Bool). cond t (undo ∷ picked (entries_of (caller_of x) h)) (picked (entries_of (caller_of x) h))) (eq-eqb undo.number (number_of x) number) in
    let tail : pending ≡ picked (entries_of (caller_of x) h) = cc in
    of_call x h (subst HasNoUndo tail none)

of_round : (k : Kind) → IsTrue (is_of_round k) → is_undo k ≡ false
of_round (kind.Undo from) t = absurd (cc)
of_round (kind.Load p f) t = refl
of_round (kind.Fix p f clock now) t = refl
of_round (kind.Create p f start end now) t = refl
of_round (kind.Put p at bytes start end) t = refl
of_round (kind.Evict p f passed) t = refl
of_round (kind.Write p lsn upto) t = refl
of_round (kind.Move p from to) t = refl
of_round (kind.Withdraw from) t = refl
of_round (kind.Shrink chunks) t = refl
of_round (kind.Grow chunks) t = refl
of_round (kind.Resize bytes chunks) t = refl
of_round (kind.Clean written skipped) t = refl
of_round (kind.Check lsn) t = refl
of_round (kind.WatchSet p) t = refl
of_round (kind.WatchAt p f) t = refl
of_round (kind.Occurred p arrived) t = refl
of_round (kind.Unwatch p) t = refl
of_round (kind.Dump pct ids) t = refl
of_round (kind.Refused asked why) t = refl

-- the rounds of a resize took nothing back
pub rounds_undo_none : (pending : List Entry) → AreRounds pending → HasNoUndo pending
rounds_undo_none pending rounds = all pending rounds.only
  where
    all : (es : List Entry) → AllByRecursion (λ (e : Entry). IsTrue (is_of_round e.kind)) es → HasNoUndo es
    all [] only = tt
    all (e ∷ es) only = (of_round e.kind only.0, all es only.1)
