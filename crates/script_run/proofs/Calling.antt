-- How a caller's own events number its calls.
use Rattle.std.proofs.Common.{◌≡◌, ◌<◌, ◌≤◌, ℕ, Bool, true, false, cond, List, [], ◌∷◌, ◌++◌, ◌+◌, ◌&&◌, ◌||◌, inl, inr, Option, Some, length, refl, ap, ◌∙◌, sym, subst, eq-eqb, nat_eq, nat_le, IfSome, arith}
use Rattle.std.proofs.lemmas.Bool.Decides.{nat_tests}
use Rattle.page_ids.specs.declared.config.Config.{Config}
use Rattle.page_ids.specs.declared.limits.TheConstants.{LAST_PLACE, LIMIT}
use Rattle.trail.specs.declared.event.Call.{Call}
use Rattle.trail.specs.declared.event.Call.TheVariants as call
use Rattle.trail.specs.declared.event.Entry.{Entry}
use Rattle.trail.specs.declared.event.Receipt.{Receipt}
use Rattle.trail.specs.declared.event.Event.{Event}
use Rattle.trail.specs.declared.event.Event.TheVariants as event
use Rattle.trail.specs.Trails.{Opening, AreNumbered, caller_of, number_of, entries, own, mark, most}
use Rattle.trail.specs.Kinds.{kind_answers}
use Rattle.trail.specs.Calls.{before_call, calls_of, is_answer, is_answered, made}
use Rattle.trail.specs.Legal.{IsNumbered, IsTogether}
use Rattle.trail.specs.Laws.{AreLawful}
use Rattle.trail.specs.Needs.{HasPlaces, limit_of, need_of}
use Rattle.trail.proofs.LookUps.{before_made}
use Rattle.script_run.specs.Work.{AreOf, IsWorkersCall}

pub own_more : (c : ℕ) (e : Event) (past : List Event) → caller_of e ≡ c → own c (e ∷ past) ≡ e ∷ own c past
own_more c e past is = ap (λ (b : Bool). cond b (e ∷ own c past) (own c past)) (eq-eqb (caller_of e) c is)

pub own_all : (c : ℕ) (past : List Event) → AreOf c past → own c past ≡ past
own_all c [] of = refl
own_all c (e ∷ past) of = own_more c e past of.0 ∙ ap (λ l. e ∷ l) (own_all c past of.1)

pub most_parts : (m n k : ℕ) → most m n < k → (m < k) × (n < k)
most_parts m n k less = cases (nat_le m n) refl less
  where
    le_of : nat_le m n ≡ true → m ≤ n
    le_of e = grind (arith, nat_tests)

    gt_of : nat_le m n ≡ false → n < m
    gt_of e = grind (arith, nat_tests)

    cases : (b : Bool) → nat_le m n ≡ b → cond b n m < k → (m < k) × (n < k)
    cases true e lt = let le = le_of e in (omega (arith, le, lt), lt)
    cases false e lt = let gt = gt_of e in (lt, omega (arith, gt, lt))

most_left : (m n : ℕ) → n ≤ m → most m n ≡ m
most_left m n le = cases (nat_le m n) refl
  where
    le_of : nat_le m n ≡ true → m ≤ n
    le_of e = grind (arith, nat_tests)

    cases : (b : Bool) → nat_le m n ≡ b → cond b n m ≡ m
    cases true e = let same = le_of e in omega (arith, same, le)
    cases false e = refl

pub other_number : (m n : ℕ) → m < n → nat_eq m n ≡ false
other_number m n less = grind (arith, nat_tests)

-- a call that was not begun has made nothing, and has no answer
pub made_none : (n : ℕ) (mine : List Event) → calls_of mine < n → made n mine ≡ []
made_none n [] less = refl
made_none n (event.Entry e ∷ mine) less =
    let parts = most_parts e.number (calls_of mine) n less in
    ap (λ (b : Bool). cond b (e ∷ made n mine) (made n mine)) (other_number e.number n parts.0) ∙ made_none n mine parts.1
made_none n (event.Receipt r ∷ mine) less = let parts = most_parts r.number (calls_of mine) n less in made_none n mine parts.1

pub answered_none : (n : ℕ) (mine : List Event) → calls_of mine < n → is_answered n mine ≡ false
answered_none n [] less = refl
answered_none n (e ∷ mine) less =
    let parts = most_parts (number_of e) (calls_of mine) n less in
    ap (λ (b : Bool). (b && is_answer e) || is_answered n mine) (other_number (number_of e) n parts.0) ∙ answered_none n mine parts.1

-- the next call
pub calling_at_start : IsWorkersCall [] 1 []
calling_at_start = record { first = omega arith; made_are = refl; count = refl; unanswered = refl; settled = λ k least less. absurd (omega (arith, least, less)) }

calls_below : (mine : List Event) (n : ℕ) (pending : List Entry) → IsWorkersCall mine n pending → calls_of mine ≤ n
calls_below mine n [] c = omega (arith, c.count)
calls_below mine n (e ∷ pending) c = omega (arith, c.count)

-- an event that answers the call
calling_next : (e : Event) (mine : List Event) (n : ℕ) (pending : List Entry) → IsWorkersCall mine n pending → number_of e ≡ n → is_answer e ≡ true → IsWorkersCall (e ∷ mine) (n + 1) []
calling_next e mine n pending c is answers =
    let below = calls_below mine n pending c in
    let calls : calls_of (e ∷ mine) ≡ n = ap (λ m. most m (calls_of mine)) is ∙ most_left n (calls_of mine) below in
    let here : is_answered n (e ∷ mine) ≡ true =
    ap (λ (b : Bool). (b && is_answer e) || is_answered n mine) (eq-eqb (number_of e) n is) ∙ ap (λ (b : Bool). b || is_answered n mine) answers in
    record {
      first = omega arith;
      made_are = made_none (n + 1) (e ∷ mine) (omega (arith, calls));
      count = omega (arith, calls);
      unanswered = answered_none (n + 1) (e ∷ mine) (omega (arith, calls));
      settled = λ k least less. go k least less here (nat_eq k n) refl;
    }
  where
    same : (k : ℕ) → nat_eq k n ≡ true → k ≡ n
    same k t = grind (arith, nat_tests)

    below_it : (k : ℕ) → nat_eq k n ≡ false → k < n + 1 → k < n
    below_it k t less = grind (arith, nat_tests)

    or_right : (a b : Bool) → b ≡ true → (a || b) ≡ true
    or_right true b t = refl
    or_right false b t = t

    go : (k : ℕ) → 1 ≤ k → k < n + 1 → is_answered n (e ∷ mine) ≡ true → (b : Bool) → nat_eq k n ≡ b → is_answered k (e ∷ mine) ≡ true
    go k least less here true t = ap (λ j. is_answered j (e ∷ mine)) (same k t) ∙ here
    go k least less here false t = or_right ((nat_eq (number_of e) k) && is_answer e) (is_answered k mine) (c.settled k least (below_it k t less))

pub calling_answer : (e : Entry) (mine : List Event) (n : ℕ) (pending : List Entry) → IsWorkersCall mine n pending → e.number ≡ n → kind_answers e.kind ≡ true → IsWorkersCall (event.Entry e ∷ mine) (n + 1) []
calling_answer e mine n pending c is answers = calling_next (event.Entry e) mine n pending c is answers

pub calling_receipt : (r : Receipt) (mine : List Event) (n : ℕ) (pending : List Entry) → IsWorkersCall mine n pending → r.number ≡ n → IsWorkersCall (event.Receipt r ∷ mine) (n + 1) []
calling_receipt r mine n pending c is = calling_next (event.Receipt r) mine n pending c is refl

-- an entry before the answer
pub calling_under : (e : Entry) (mine : List Event) (n : ℕ) (pending : List Entry) → IsWorkersCall mine n pending → e.number ≡ n → kind_answers e.kind ≡ false → IsWorkersCall (event.Entry e ∷ mine) n (e ∷ pending)
calling_under e mine n pending c is silent =
    let below = calls_below mine n pending c in
    record {
      first = c.first;
      made_are = ap (λ (b : Bool). cond b (e ∷ made n mine) (made n mine)) (eq-eqb e.number n is) ∙ ap (λ l. e ∷ l) c.made_are;
      count = let calls : most e.number (calls_of mine) ≡ n = ap (λ m. most m (calls_of mine)) is ∙ most_left n (calls_of mine) below in omega (arith, calls);
      unanswered = not_yet (nat_eq e.number n) (kind_answers e.kind) (is_answered n mine) silent c.unanswered;
      settled = λ k least less. later (nat_eq e.number k && kind_answers e.kind) (is_answered k mine) (c.settled k least less);
    }
  where
    not_yet : (a b d : Bool) → b ≡ false → d ≡ false → ((a && b) || d) ≡ false
    not_yet true b d e f = ap (λ (x : Bool). x || d) e ∙ f
    not_yet false b d e f = f

    later : (a b : Bool) → b ≡ true → (a || b) ≡ true
    later true b t = refl
    later false b t = t

-- the law on numbers
pub numbered_by : (mine : List Event) (n : ℕ) (pending : List Entry) → IsWorkersCall mine n pending → IsNumbered mine n
numbered_by mine n [] c = inl (sym c.count)
numbered_by mine n (e ∷ pending) c = inr (record { first = c.first; begun = omega (arith, c.count); unanswered = c.unanswered })

pub next_by : (mine : List Event) (n : ℕ) → IsWorkersCall mine n [] → n ≡ calls_of mine + 1
next_by mine n c = sym c.count

-- the entries of a lawful trail are numbered by their places
pub numbered_entries : (sole : Option ℕ) (o : Opening) (past : List Event) → AreLawful o sole past → AreNumbered o.first (entries past)
numbered_entries sole o [] good = tt
numbered_entries sole o (event.Entry e ∷ past) good = (good.0.legal.place, numbered_entries _ o past good.1)
numbered_entries sole o (event.Receipt r ∷ past) good = numbered_entries _ o past good.1

-- the call's entries are the newest of the history
pub together_by : (first : ℕ) (pending base h : List Entry) → h ≡ pending ++ base → IsTogether (mark first h + 1) pending
together_by first [] base h is = tt
together_by first (e ∷ pending) base h is = inl (ap (λ l. mark first l + 1) is)

pub before_by : (first : ℕ) (pending base h : List Entry) → h ≡ pending ++ base → AreNumbered first h → before_call pending h ≡ base
before_by first pending base h is numbered =
    let N : List Entry → Type 0 = λ l. AreNumbered first l in
    ap (before_call pending) is ∙ before_made first pending base (subst N is numbered)

-- no call's limit is below the common one
pub limit_least : (c : ℕ) (asked : Call) → LIMIT ≤ limit_of c asked
limit_least c (call.Fix p now) = omega arith
limit_least c (call.Create p now) = omega arith
limit_least c (call.Put p at bytes) = omega arith
limit_least c (call.Read p at len) = omega arith
limit_least c (call.Unfix p) = omega arith
limit_least c (call.Guess p f clock) = omega arith
limit_least c (call.Watch p) = omega arith
limit_least c (call.Occurred p) = omega arith
limit_least c (call.Unwatch p) = omega arith
limit_least c (call.Clean bound) = cases (nat_eq c 0)
  where
    cases : (b : Bool) → LIMIT ≤ cond b LAST_PLACE LIMIT
    cases true = omega arith
    cases false = omega arith
limit_least c call.Check = omega arith
limit_least c (call.Dump pct) = omega arith
limit_least c (call.Resize bytes rounds) = omega arith

-- the places of a call are left
pub places_by : (first : ℕ) (config : Config) (h : List Entry) (c n : ℕ) (asked : Call) (need : ℕ) → need_of config h c n asked ≡ Some need → mark first h + need ≤ LIMIT → HasPlaces first config h c n asked
places_by first config h c n asked need is room =
    let P : Option ℕ → Type 0 = λ o. IfSome o (λ m. mark first h + m ≤ limit_of c asked) in
    let least = limit_least c asked in
    subst P (sym is) (omega (arith, room, least))

-- the mark counts the entries
pub marks : (first : ℕ) (h : List Entry) → AreNumbered first h → mark first h ≡ first + length h
marks first [] numbered = omega arith
marks first (e ∷ h) numbered = let rest = marks first h numbered.1 in omega (arith, numbered.0, rest)
