-- How a caller's own events number its calls.
use Rattle.std.proofs.Common.{◌≡◌, ◌<◌, ◌≤◌, ℕ, Bool, true, false, cond, List, [], ◌∷◌, ◌+◌, ◌&&◌, ◌||◌, ◌⊎◌, inl, inr, Option, Some, None, IsSomeAnd, IsTrue, refl, ap, ◌∙◌, sym, subst, eq-eqb, nat_eq, nat_le, arith}
use Rattle.std.proofs.lemmas.Bool.Decides.{nat_tests}
use Rattle.std.specs.List.{AllByRecursion}
use Rattle.std.specs.Option.{option_map_or}
use Rattle.trail.specs.declared.event.Kind.{Kind}
use Rattle.trail.specs.declared.event.Kind.TheVariants as kind
use Rattle.trail.specs.declared.event.Entry.{Entry}
use Rattle.trail.specs.declared.event.Receipt.{Receipt}
use Rattle.trail.specs.declared.event.Event.{Event}
use Rattle.trail.specs.declared.event.Event.TheVariants as event
use Rattle.trail.specs.Trails.{Opening, entries, most, number_of, receipts}
use Rattle.trail.specs.Kinds.{kind_answers}
use Rattle.trail.specs.Calls.{calls_of, first_made, is_answer, is_answered, made}
use Rattle.trail.specs.Preceding.{AreEndedBy, AreRounds, begins_rounds, is_undo}
use Rattle.trail.specs.Legal.{IsNumbered, begins_resize, is_resize}
use Rattle.trail.specs.Book.{book, is_owner}
use Rattle.trail_laws.specs.Adding.{IsCalling, IsClosed, IsUnderWay}
use Rattle.trail_laws.specs.Ending.{IsAnswered}
use Rattle.trail_laws.proofs.Tests.{number_is, or_right, other_number}

pub most_parts : (m n k : ℕ) → most m n < k → (m < k) × (n < k)
most_parts m n k less = cases (nat_le m n) refl less
  where
    le_of : nat_le m n ≡ true → m ≤ n
    le_of e = grind (arith, nat_tests)

    gt_of : nat_le m n ≡ false → n < m
    gt_of e = grind (arith, nat_tests)

    cases : (b : Bool) → nat_le m n ≡ b → cond b n m < k → (m < k) × (n < k)
    cases true e lt = let le = le_of e in (omega (arith, le, lt), lt)
    cases false e lt = let gt = gt_of e in (lt, omega (arith, gt, lt))

most_left : (m n : ℕ) → n ≤ m → most m n ≡ m
most_left m n le = cases (nat_le m n) refl
  where
    le_of : nat_le m n ≡ true → m ≤ n
    le_of e = grind (arith, nat_tests)

    cases : (b : Bool) → nat_le m n ≡ b → cond b n m ≡ m
    cases true e = let same = le_of e in omega (arith, same, le)
    cases false e = refl

-- a call that was not begun has made nothing, and has no answer
pub made_none : (n : ℕ) (mine : List Event) → calls_of mine < n → made n mine ≡ []
made_none n [] less = refl
made_none n (event.Entry e ∷ mine) less =
    let parts = most_parts e.number (calls_of mine) n less in
    ap (λ (b : Bool). cond b (e ∷ made n mine) (made n mine)) (other_number e.number n parts.0) ∙ made_none n mine parts.1
made_none n (event.Receipt r ∷ mine) less = let parts = most_parts r.number (calls_of mine) n less in made_none n mine parts.1

pub answered_none : (n : ℕ) (mine : List Event) → calls_of mine < n → is_answered n mine ≡ false
answered_none n [] less = refl
answered_none n (e ∷ mine) less =
    let parts = most_parts (number_of e) (calls_of mine) n less in
    ap (λ (b : Bool). (b && is_answer e) || is_answered n mine) (other_number (number_of e) n parts.0) ∙ answered_none n mine parts.1

-- the first call of a caller
pub calling_at_start : IsCalling [] 1 []
calling_at_start = record { first = omega arith; made_are = refl; count = refl; unanswered = refl; closed = λ k least less. absurd (omega (arith, least, less)) }

pub calls_below : (mine : List Event) (n : ℕ) (pending : List Entry) → IsCalling mine n pending → calls_of mine ≤ n
calls_below mine n [] c = omega (arith, c.count)
calls_below mine n (e ∷ pending) c = omega (arith, c.count)

calls_here : (e : Event) (mine : List Event) (n : ℕ) (pending : List Entry) → IsCalling mine n pending → number_of e ≡ n → calls_of (e ∷ mine) ≡ n
calls_here e mine n pending c is = ap (λ m. most m (calls_of mine)) is ∙ most_left n (calls_of mine) (calls_below mine n pending c)

-- the law on numbers
pub numbered_by : (mine : List Event) (n : ℕ) (pending : List Entry) → IsCalling mine n pending → IsNumbered mine n
numbered_by mine n [] c = inl (sym c.count)
numbered_by mine n (e ∷ pending) c = inr (record { first = c.first; begun = omega (arith, c.count); unanswered = c.unanswered })

made_other : (k : ℕ) (e : Event) (mine : List Event) → nat_eq (number_of e) k ≡ false → made k (e ∷ mine) ≡ made k mine
made_other k (event.Entry e) mine f = ap (λ (b : Bool). cond b (e ∷ made k mine) (made k mine)) f
made_other k (event.Receipt r) mine f = refl

-- an event leaves a call closed
still_resize : (e : Entry) (made : List Entry) → IsTrue (is_resize made) → IsTrue (is_resize (e ∷ made))
still_resize e [] resize = absurd (cc)
still_resize e (d ∷ made) resize = resize

closed_more : (k : ℕ) (e : Event) (mine : List Event) → IsClosed mine k → IsClosed (e ∷ mine) k
closed_more k e mine (inl answered) = inl (or_right (nat_eq (number_of e) k && is_answer e) (is_answered k mine) answered)
closed_more k (event.Receipt r) mine (inr resize) = inr resize
closed_more k (event.Entry e) mine (inr resize) = inr (cases (nat_eq e.number k))
  where
    cases : (b : Bool) → IsTrue (is_resize (cond b (e ∷ made k mine) (made k mine)))
    cases true = still_resize e (made k mine) resize
    cases false = resize

closed_next : (e : Event) (mine : List Event) (n : ℕ) → ((k : ℕ) → 1 ≤ k → k < n → IsClosed mine k) → (k : ℕ) → 1 ≤ k → k < n → IsClosed (e ∷ mine) k
closed_next e mine n closed k least less = closed_more k e mine (closed k least less)

-- up to n, where n is closed too
closed_all : (mine : List Event) (n : ℕ) → ((k : ℕ) → 1 ≤ k → k < n → IsClosed mine k) → IsClosed mine n → (k : ℕ) → 1 ≤ k → k < n + 1 → IsClosed mine k
closed_all mine n closed here k least less = cases (nat_eq k n) refl
  where
    below : nat_eq k n ≡ false → k < n
    below t = grind (arith, nat_tests)

    cases : (b : Bool) → nat_eq k n ≡ b → IsClosed mine k
    cases true t = let C : ℕ → Type 0 = λ j. IsClosed mine j in subst C (sym (number_is k n t)) here
    cases false t = closed k least (below t)

-- behind an event that answers the call the next one may begin
pub calling_answer : (e : Event) (mine : List Event) (n : ℕ) (pending : List Entry) → IsCalling mine n pending → number_of e ≡ n → is_answer e ≡ true → IsCalling (e ∷ mine) (n + 1) []
calling_answer e mine n pending c is answers =
    let calls = calls_here e mine n pending c is in
    let here : is_answered n (e ∷ mine) ≡ true =
    ap (λ (b : Bool). (b && is_answer e) || is_answered n mine) (eq-eqb (number_of e) n is) ∙ ap (λ (b : Bool). b || is_answered n mine) answers in
    record {
      first = omega arith;
      made_are = made_none (n + 1) (e ∷ mine) (omega (arith, calls));
      count = omega (arith, calls);
      unanswered = answered_none (n + 1) (e ∷ mine) (omega (arith, calls));
      closed = closed_all (e ∷ mine) n (closed_next e mine n c.closed) (inl here);
    }

-- an entry before the answer
pub calling_on : (e : Entry) (mine : List Event) (n : ℕ) (pending : List Entry) → IsCalling mine n pending → e.number ≡ n → kind_answers e.kind ≡ false → IsCalling (event.Entry e ∷ mine) n (e ∷ pending)
calling_on e mine n pending c is silent = record {
  first = c.first;
  made_are = ap (λ (b : Bool). cond b (e ∷ made n mine) (made n mine)) (eq-eqb e.number n is) ∙ ap (λ l. e ∷ l) c.made_are;
  count = let calls = calls_here (event.Entry e) mine n pending c is in omega (arith, calls);
  unanswered = not_yet (nat_eq e.number n) (kind_answers e.kind) (is_answered n mine) silent c.unanswered;
  closed = closed_next (event.Entry e) mine n c.closed;
}
  where
    not_yet : (a b d : Bool) → b ≡ false → d ≡ false → ((a && b) || d) ≡ false
    not_yet true b d e f = ap (λ (x : Bool). x || d) e ∙ f
    not_yet false b d e f = f

-- a resize leaves its number where it goes on later, or is cut short: the caller's next call may begin
pub calling_leaves : (mine : List Event) (n : ℕ) (pending : List Entry) → IsCalling mine n pending → IsTrue (is_resize pending) → IsCalling mine (n + 1) []
calling_leaves mine n [] c resize = absurd (cc)
calling_leaves mine n (e ∷ pending) c resize =
    let R : List Entry → Type 0 = λ l. IsTrue (is_resize l) in
    record {
      first = omega arith;
      made_are = made_none (n + 1) mine (omega (arith, c.count));
      count = omega (arith, c.count);
      unanswered = answered_none (n + 1) mine (omega (arith, c.count));
      closed = closed_all mine n c.closed (inr (subst R (sym c.made_are) resize));
    }

-- an event of an earlier call, as of a resize in a later round, leaves the call under way
pub calling_beside : (e : Event) (mine : List Event) (n : ℕ) (pending : List Entry) → IsCalling mine n pending → number_of e ≤ calls_of mine → nat_eq (number_of e) n ≡ false → IsCalling (e ∷ mine) n pending
calling_beside e mine n pending c below other = record {
  first = c.first;
  made_are = made_other n e mine other ∙ c.made_are;
  count = let calls = most_right (number_of e) (calls_of mine) below in let was = c.count in omega (arith, calls, was);
  unanswered = ap (λ (b : Bool). (b && is_answer e) || is_answered n mine) other ∙ c.unanswered;
  closed = closed_next e mine n c.closed;
}
  where
    most_right : (m n : ℕ) → m ≤ n → most m n ≡ n
    most_right m n le = cases (nat_le m n) refl
      where
        gt_of : nat_le m n ≡ false → n < m
        gt_of e = grind (arith, nat_tests)

        cases : (b : Bool) → nat_le m n ≡ b → cond b n m ≡ n
        cases true t = refl
        cases false t = let bad = gt_of t in absurd (omega (arith, bad, le))

-- a call under way may have a further event
pub under_way : (mine : List Event) (n : ℕ) (pending : List Entry) → IsCalling mine n pending → IsUnderWay mine n pending
under_way mine n pending c = record { numbered = numbered_by mine n pending c; made_are = c.made_are }

-- and so a resize, in a later round
pub resize_under_way : (mine : List Event) (n : ℕ) → 1 ≤ n → n ≤ calls_of mine → is_answered n mine ≡ false → IsUnderWay mine n (made n mine)
resize_under_way mine n least begun none = record { numbered = inr (record { first = least; begun = begun; unanswered = none }); made_are = refl }

-- a resize that was undone is one
pub undone_resize : (pending : List Entry) → AreEndedBy is_undo pending → IsTrue (is_resize pending)
undone_resize [] undone = absurd undone
undone_resize (e ∷ []) undone = absurd undone.1.begun
undone_resize (e ∷ d ∷ pending) undone = begun (first_made (d ∷ pending)) undone.1.begun
  where
    withdraws : (k : Kind) → IsTrue (begins_rounds k) → IsTrue (begins_resize k)
    withdraws (kind.Withdraw from) t = refl
    withdraws (kind.Load p f) t = absurd (cc)
    withdraws (kind.Fix p f clock now) t = absurd (cc)
    withdraws (kind.Create p f start end now) t = absurd (cc)
    withdraws (kind.Put p at bytes start end) t = absurd (cc)
    withdraws (kind.Evict p f passed) t = absurd (cc)
    withdraws (kind.Write p lsn upto) t = absurd (cc)
    withdraws (kind.Move p from to) t = absurd (cc)
    withdraws (kind.Undo from) t = absurd (cc)
    withdraws (kind.Shrink chunks) t = absurd (cc)
    withdraws (kind.Grow chunks) t = absurd (cc)
    withdraws (kind.Resize bytes chunks) t = absurd (cc)
    withdraws (kind.Clean written skipped) t = absurd (cc)
    withdraws (kind.Check lsn) t = absurd (cc)
    withdraws (kind.WatchSet p) t = absurd (cc)
    withdraws (kind.WatchAt p f) t = absurd (cc)
    withdraws (kind.Occurred p arrived) t = absurd (cc)
    withdraws (kind.Unwatch p) t = absurd (cc)
    withdraws (kind.Dump pct ids) t = absurd (cc)
    withdraws (kind.Refused asked why) t = absurd (cc)

    begun : (o : Option Entry) → IsSomeAnd o (λ (x : Entry). IsTrue (begins_rounds x.kind)) → IsTrue (option_map_or (λ (x : Entry). begins_resize x.kind) o false)
    begun None t = absurd t
    begun (Some x) t = withdraws x.kind t

-- At the end each call is answered, where each resize without an answer was cut short.
pub answered_all : (o : Opening) (h : List Entry) (c : ℕ) (mine : List Event) (n : ℕ) → IsCalling mine n []
    → ((k : ℕ) → IsTrue (is_resize (made k mine)) → is_answered k mine ≡ false → AreEndedBy is_undo (made k mine) ⊎ (AreRounds (made k mine) × IsTrue (is_owner (book o.config h) c k)))
    → IsAnswered o h c mine
answered_all o h c mine n calling cut k least most = cases (is_answered k mine) refl (calling.closed k least (omega (arith, most, calling.count)))
  where
    cases : (b : Bool) → is_answered k mine ≡ b → IsClosed mine k → (is_answered k mine ≡ true) ⊎ (AreEndedBy is_undo (made k mine) ⊎ (AreRounds (made k mine) × IsTrue (is_owner (book o.config h) c k)))
    cases true t closed = inl t
    cases false f (inl answered) = let bad : true ≡ false = sym answered ∙ f in absurd (cc)
    cases false f (inr resize) = inr (cut k resize f)

-- of a caller that never resized the pool each call has its answer
resized_not : (e : Entry) (made : List Entry) → begins_resize e.kind ≡ false → is_resize made ≡ false → is_resize (e ∷ made) ≡ false
resized_not e [] begins rest = begins
resized_not e (d ∷ made) begins rest = rest

never_resized : (mine : List Event) (k : ℕ) → AllByRecursion (λ (e : Entry). begins_resize e.kind ≡ false) (entries mine) → is_resize (made k mine) ≡ false
never_resized [] k none = refl
never_resized (event.Receipt r ∷ mine) k none = never_resized mine k none
never_resized (event.Entry e ∷ mine) k none = cases (nat_eq e.number k) (never_resized mine k none.1)
  where
    cases : (b : Bool) → is_resize (made k mine) ≡ false → is_resize (cond b (e ∷ made k mine) (made k mine)) ≡ false
    cases true rest = resized_not e (made k mine) none.0 rest
    cases false rest = rest

pub answered_plain : (o : Opening) (h : List Entry) (c : ℕ) (mine : List Event) (n : ℕ) → IsCalling mine n [] → AllByRecursion (λ (e : Entry). begins_resize e.kind ≡ false) (entries mine) → IsAnswered o h c mine
answered_plain o h c mine n calling none = answered_all o h c mine n calling (λ k resize unanswered. absurd (let bad : true ≡ false = sym resize ∙ never_resized mine k none in cc))

-- each receipt answers an earlier call
pub in_turn : (mine : List Event) (n : ℕ) → calls_of mine < n + 1 → is_answered n mine ≡ false → AllByRecursion (λ (q : Receipt). q.number < n) (receipts mine)
in_turn [] n less none = tt
in_turn (event.Entry e ∷ mine) n less none =
    let parts = most_parts e.number (calls_of mine) (n + 1) less in in_turn mine n parts.1 (rest (nat_eq e.number n && kind_answers e.kind) (is_answered n mine) none)
  where
    rest : (a b : Bool) → (a || b) ≡ false → b ≡ false
    rest true b f = absurd (cc)
    rest false b f = f
in_turn (event.Receipt r ∷ mine) n less none =
    let parts = most_parts r.number (calls_of mine) (n + 1) less in
    let split = apart (nat_eq r.number n) (is_answered n mine) none in
    (below r.number n parts.0 split.0, in_turn mine n parts.1 split.1)
  where
    apart : (a b : Bool) → ((a && true) || b) ≡ false → (a ≡ false) × (b ≡ false)
    apart true b f = absurd (cc)
    apart false b f = (refl, f)

    below : (m n : ℕ) → m < n + 1 → nat_eq m n ≡ false → m < n
    below m n less t = grind (arith, nat_tests)
