-- The events of a closing flush are writes and its answer, in accounts that are lawful.
use Rattle.std.proofs.Common.{◌≡◌, ℕ, Bool, true, false, cond, List, [], ◌∷◌, ◌&&◌, ◌||◌, inl, inr, Option, Some, None, IsSome, refl, sym, ◌∙◌, ap, subst, eq-eqb, nat_eq, arith}
use Rattle.std.specs.Prelude.{is_some}
use Rattle.std.proofs.lemmas.Bool.Decides.{nat_tests}
use Rattle.std.specs.List.{AllByRecursion, list_any}
use Rattle.trail.specs.declared.event.Call.{Call}
use Rattle.trail.specs.declared.event.Call.TheVariants as call
use Rattle.trail.specs.declared.event.Cause.{Cause}
use Rattle.trail.specs.declared.event.Kind.{Kind}
use Rattle.trail.specs.declared.event.Kind.TheVariants as kind
use Rattle.trail.specs.declared.event.Note.{Note}
use Rattle.trail.specs.declared.event.Note.TheVariants as note
use Rattle.trail.specs.declared.event.Entry.{Entry}
use Rattle.trail.specs.declared.event.Event.{Event}
use Rattle.trail.specs.declared.event.Event.TheVariants as event
use Rattle.trail.specs.Trails.{Opening, caller_of, number_of, own}
use Rattle.trail.specs.Kinds.{kind_answers, write_in}
use Rattle.trail.specs.Calls.{calls_of, is_answer, is_answered, made}
use Rattle.trail.specs.Preceding.{AreWrites, MayPrecede, MayPrecedeNote, MayPrecedeRefused, kinds}
use Rattle.trail.specs.Legal.{IsNumbered}
use Rattle.trail.specs.Alone.{closes, closing_number, ends_clean, is_of_flush, notes_clean, refuses_clean}
use Rattle.trail_laws.specs.Accounts.{seen_by}
use Rattle.trail_laws.specs.SoFar.{AreLawfulOf, is_of_clean}
use Rattle.trail_laws.proofs.Calling.{answered_none}
use Rattle.trail_laws.proofs.Tests.{or_right}

-- a refused clean had written alone
refused_writes : (h made : List Entry) (asked : Call) (why : Cause) → refuses_clean asked why ≡ true → MayPrecedeRefused h made asked why → AreWrites (kinds made)
refused_writes h made (call.Clean bound) why t before = before
refused_writes h made (call.Fix p now) why t before = absurd (cc)
refused_writes h made (call.Create p now) why t before = absurd (cc)
refused_writes h made (call.Put p at bytes) why t before = absurd (cc)
refused_writes h made (call.Read p at len) why t before = absurd (cc)
refused_writes h made (call.Unfix p) why t before = absurd (cc)
refused_writes h made (call.Guess p f clock) why t before = absurd (cc)
refused_writes h made (call.Watch p) why t before = absurd (cc)
refused_writes h made (call.Occurred p) why t before = absurd (cc)
refused_writes h made (call.Unwatch p) why t before = absurd (cc)
refused_writes h made call.Check why t before = absurd (cc)
refused_writes h made (call.Dump pct) why t before = absurd (cc)
refused_writes h made (call.Resize bytes rounds) why t before = absurd (cc)

-- The answer of a clean that began answers its call, and stands behind writes alone.
ending_writes : (k : Kind) → ends_clean k ≡ true → (kind_answers k ≡ true) × ((h made : List Entry) → MayPrecede h made k → AreWrites (kinds made))
ending_writes (kind.Clean written skipped) t = (refl, λ h made before. before)
ending_writes (kind.Refused asked why) t = (refl, λ h made before. refused_writes h made asked why t before.1)
ending_writes (kind.Load p f) t = absurd (cc)
ending_writes (kind.Fix p f clock now) t = absurd (cc)
ending_writes (kind.Create p f start end now) t = absurd (cc)
ending_writes (kind.Put p at bytes start end) t = absurd (cc)
ending_writes (kind.Evict p f passed) t = absurd (cc)
ending_writes (kind.Write p lsn upto) t = absurd (cc)
ending_writes (kind.Move p from to) t = absurd (cc)
ending_writes (kind.Withdraw from) t = absurd (cc)
ending_writes (kind.Undo from) t = absurd (cc)
ending_writes (kind.Shrink chunks) t = absurd (cc)
ending_writes (kind.Grow chunks) t = absurd (cc)
ending_writes (kind.Resize bytes chunks) t = absurd (cc)
ending_writes (kind.Check lsn) t = absurd (cc)
ending_writes (kind.WatchSet p) t = absurd (cc)
ending_writes (kind.WatchAt p f) t = absurd (cc)
ending_writes (kind.Occurred p arrived) t = absurd (cc)
ending_writes (kind.Unwatch p) t = absurd (cc)
ending_writes (kind.Dump pct ids) t = absurd (cc)

closing_answers : (e : Event) → closes e ≡ true → is_answer e ≡ true
closing_answers (event.Entry e) t = (ending_writes e.kind t).0
closing_answers (event.Receipt r) t = refl

noting_writes : (h made : List Entry) (k : Note) → notes_clean k ≡ true → MayPrecedeNote h made k → AreWrites (kinds made)
noting_writes h made (note.Refused asked why) t before = refused_writes h made asked why t before
noting_writes h made (note.Granted p f clock) t before = absurd (cc)
noting_writes h made (note.Copied p at bytes clock) t before = absurd (cc)
noting_writes h made (note.Unfixed p f fix) t before = absurd (cc)

-- an event of the call is a clean's
abbrev pub OfClean : ℕ → Event → Type 0
OfClean n e = number_of e ≡ n → is_of_clean e ≡ true

or_rest : (a b : Bool) → (a || b) ≡ false → b ≡ false
or_rest true b f = absurd (cc)
or_rest false b f = f

differ : (m n : ℕ) → nat_eq m n ≡ false → m ≡ n → ⊥
differ m n f same = let t : nat_eq m n ≡ true = eq-eqb m n same in absurd (cc)

some_true : {A : Type 0} (o : Option A) → IsSome o → is_some o ≡ true
some_true None some = some
some_true (Some x) some = refl

-- the entries of a call that has no answer are writes
writes_of : (n : ℕ) (mine : List Event) → is_answered n mine ≡ false → AreWrites (kinds (made n mine)) → AllByRecursion (OfClean n) mine
writes_of n [] none writes = tt
writes_of n (event.Entry e ∷ mine) none writes =
    let rest = or_rest (nat_eq e.number n && kind_answers e.kind) (is_answered n mine) none in
    cases (nat_eq e.number n) refl (writes_of n mine rest) writes
  where
    cases : (b : Bool) → nat_eq e.number n ≡ b → (AreWrites (kinds (made n mine)) → AllByRecursion (OfClean n) mine) → AreWrites (kinds (cond b (e ∷ made n mine) (made n mine)))
        → AllByRecursion (OfClean n) (event.Entry e ∷ mine)
    cases true t next all = (λ is. ap (λ (b : Bool). b || ends_clean e.kind) (some_true (write_in e.kind) all.0), next all.1)
    cases false f next all = (λ is. absurd (differ e.number n f is), next all)
writes_of n (event.Receipt r ∷ mine) none writes =
    let rest = or_rest (nat_eq r.number n && true) (is_answered n mine) none in
    (λ is. absurd (answers is), writes_of n mine rest writes)
  where
    answers : r.number ≡ n → ⊥
    answers is = let t : ((nat_eq r.number n && true) || is_answered n mine) ≡ true = ap (λ (b : Bool). (b && true) || is_answered n mine) (eq-eqb r.number n is) in absurd (cc)

-- a call that has its answer gets no further event
unanswered_by : (mine : List Event) (n : ℕ) → IsNumbered mine n → is_answered n mine ≡ false
unanswered_by mine n (inl next) = answered_none n mine (omega (arith, next))
unanswered_by mine n (inr earlier) = earlier.unanswered

closed_answered : (n : ℕ) (mine : List Event) → list_any (λ e. nat_eq (number_of e) n && closes e) mine ≡ true → is_answered n mine ≡ true
closed_answered n [] any = any
closed_answered n (e ∷ mine) any = cases (nat_eq (number_of e) n) (closes e) refl any (closed_answered n mine)
  where
    cases : (a b : Bool) → closes e ≡ b → ((a && b) || list_any (λ x. nat_eq (number_of x) n && closes x) mine) ≡ true
        → (list_any (λ x. nat_eq (number_of x) n && closes x) mine ≡ true → is_answered n mine ≡ true) → ((a && is_answer e) || is_answered n mine) ≡ true
    cases true true t any next = ap (λ (b : Bool). b || is_answered n mine) (closing_answers e t)
    cases true false f any next = or_right (is_answer e) (is_answered n mine) (next any)
    cases false b f any next = next any

-- one event more: where it closes the call it is a clean's, and what stands before is writes
closed_by : (n : ℕ) (x : Event) (mine : List Event) → IsNumbered mine (number_of x) → (closes x ≡ true → (is_of_clean x ≡ true) × AreWrites (kinds (made (number_of x) mine)))
    → (list_any (λ e. nat_eq (number_of e) n && closes e) mine ≡ true → AllByRecursion (OfClean n) mine) → list_any (λ e. nat_eq (number_of e) n && closes e) (x ∷ mine) ≡ true → AllByRecursion (OfClean n) (x ∷ mine)
closed_by n x mine numbered shuts next any = cases (nat_eq (number_of x) n) (closes x) refl refl any
  where
    unclosed : number_of x ≡ n → is_answered n mine ≡ false
    unclosed is = let U : ℕ → Type 0 = λ m. is_answered m mine ≡ false in subst U is (unanswered_by mine (number_of x) numbered)

    number_is : nat_eq (number_of x) n ≡ true → number_of x ≡ n
    number_is t = grind (arith, nat_tests)

    cases : (a b : Bool) → nat_eq (number_of x) n ≡ a → closes x ≡ b → ((a && b) || list_any (λ e. nat_eq (number_of e) n && closes e) mine) ≡ true → AllByRecursion (OfClean n) (x ∷ mine)
    cases true true t closing any =
        let W : ℕ → Type 0 = λ m. AreWrites (kinds (made m mine)) in
        let writes = shuts closing in (λ is. writes.0, writes_of n mine (unclosed (number_is t)) (subst W (number_is t) writes.1))
    cases true false t not_yet any = (λ is. let none : true ≡ false = sym (closed_answered n mine any) ∙ unclosed is in absurd (cc), next any)
    cases false b f closing any = (λ is. absurd (differ (number_of x) n f is), next any)

-- the call's answer closes it, and what stands before is writes
pub flush_of : (o : Opening) (pages : ℕ → ℕ) (h : List Entry) (n : ℕ) (mine : List Event) → AreLawfulOf o pages h mine → list_any (λ e. nat_eq (number_of e) n && closes e) mine ≡ true → AllByRecursion (OfClean n) mine
flush_of o pages h n [] laws any = tt
flush_of o pages h n (event.Entry e ∷ mine) laws any =
    closed_by n (event.Entry e) mine laws.0.legal.number (λ closing. (or_right (is_some (write_in e.kind)) (ends_clean e.kind) closing, (ending_writes e.kind closing).1 (seen_by (event.Entry e) h) (made e.number mine) laws.0.legal.before))
    (flush_of o pages h n mine laws.1) any
flush_of o pages h n (event.Receipt r ∷ mine) laws any =
    closed_by n (event.Receipt r) mine laws.0.legal.number (λ closing. (closing, noting_writes (seen_by (event.Receipt r) h) (made r.number mine) r.note closing laws.0.legal.before))
    (flush_of o pages h n mine laws.1) any

-- The events of the closing flush of a trail are a clean's.
pub closing_clean : (o : Opening) (pages : ℕ → ℕ) (h : List Entry) (past : List Event) → AreLawfulOf o pages h (own 0 past) → AllByRecursion (λ e. is_of_flush (closing_number past) e ≡ true → is_of_clean e ≡ true) (own 0 past)
closing_clean o pages h past laws = cases (list_any (λ e. nat_eq (number_of e) last && closes e) (own 0 past)) refl
  where
    last : ℕ
    last = calls_of (own 0 past)

    none : (mine : List Event) → AllByRecursion (λ e. is_of_flush None e ≡ true → is_of_clean e ≡ true) mine
    none [] = tt
    none (e ∷ mine) = (λ is. absurd (never (nat_eq (caller_of e) 0) is), none mine)
      where
        never : (a : Bool) → (a && false) ≡ true → ⊥
        never true bad = absurd (cc)
        never false bad = absurd (cc)

    number_of_flush : (a : Bool) (m : ℕ) → (a && nat_eq last m) ≡ true → m ≡ last
    number_of_flush true m t = grind (arith, nat_tests)
    number_of_flush false m t = absurd (cc)

    by_number : (mine : List Event) → AllByRecursion (OfClean last) mine → AllByRecursion (λ e. is_of_flush (Some last) e ≡ true → is_of_clean e ≡ true) mine
    by_number [] all = tt
    by_number (e ∷ mine) all = (λ is. all.0 (number_of_flush (nat_eq (caller_of e) 0) (number_of e) is), by_number mine all.1)

    cases : (b : Bool) → list_any (λ e. nat_eq (number_of e) last && closes e) (own 0 past) ≡ b
        → AllByRecursion (λ e. is_of_flush (cond b (Some last) None) e ≡ true → is_of_clean e ≡ true) (own 0 past)
    cases true any = by_number (own 0 past) (flush_of o pages h last (own 0 past) laws any)
    cases false any = none (own 0 past)
