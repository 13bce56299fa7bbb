-- The history that an event saw, and a caller's events before an entry, stay as they are behind later events.
use Rattle.std.proofs.Common.{◌≡◌, ◌<◌, ◌≤◌, ℕ, Bool, true, false, cond, List, [], ◌∷◌, ◌+◌, Option, Some, None, IfSome, refl, ap, ◌∙◌, sym, subst, eq-eqb, nat_eq, nat_lt, arith}
use Rattle.std.proofs.lemmas.Bool.Decides.{nat_tests}
use Rattle.std.specs.List.{AllByRecursion}
use Rattle.trail.specs.declared.event.Entry.{Entry}
use Rattle.trail.specs.declared.event.Receipt.{Receipt}
use Rattle.trail.specs.declared.event.Event.{Event}
use Rattle.trail.specs.declared.event.Event.TheVariants as event
use Rattle.trail.specs.Trails.{AreNumbered, before, caller_of, mark}
use Rattle.trail.specs.Kinds.{Placing, departure_in}
use Rattle.trail.specs.Calls.{newest_fix, open_fixes}
use Rattle.trail_laws.specs.Accounts.{AreEach, PlacesFall, earlier, event_place, seen_by, with_event}
use Rattle.trail_laws.specs.SoFar.{AreStill}

lt_false : (m n : ℕ) → n ≤ m → nat_lt m n ≡ false
lt_false m n le = grind (arith, nat_tests)

lt_true : (m n : ℕ) → m < n → nat_lt m n ≡ true
lt_true m n less = grind (arith, nat_tests)

-- what comes at or behind a place leaves the history before it
pub before_more : (n : ℕ) (e : Entry) (h : List Entry) → n ≤ e.place → before n (e ∷ h) ≡ before n h
before_more n e h le = ap (λ (b : Bool). cond b (e ∷ h) (before n h)) (lt_false e.place n le)

-- the history before a later place is all of it
pub before_all : (first n : ℕ) (h : List Entry) → mark first h < n → before n h ≡ h
before_all first n [] less = refl
before_all first n (e ∷ h) less = ap (λ (b : Bool). cond b (e ∷ h) (before n h)) (lt_true e.place n less)

-- what an event saw stays behind a later entry
pub seen_more : (x : Event) (e : Entry) (h : List Entry) → event_place x < e.place → seen_by x (e ∷ h) ≡ seen_by x h
seen_more (event.Entry x) e h less = before_more x.place e h (omega (arith, less))
seen_more (event.Receipt r) e h less = before_more (r.place + 1) e h (omega (arith, less))

-- and the next event sees all
pub seen_next : (first : ℕ) (e : Entry) (h : List Entry) → e.place ≡ mark first h + 1 → seen_by (event.Entry e) (e ∷ h) ≡ h
seen_next first e h place = before_more e.place e h (omega arith) ∙ before_all first e.place h (omega (arith, place))

pub seen_now : (first : ℕ) (r : Receipt) (h : List Entry) → r.place ≡ mark first h → seen_by (event.Receipt r) h ≡ h
seen_now first r h place = before_all first (r.place + 1) h (omega (arith, place))

-- places fall from a later one too
pub falling_up : (m n : ℕ) (mine : List Event) → m ≤ n → PlacesFall m mine → PlacesFall n mine
falling_up m n [] le falling = tt
falling_up m n (event.Entry e ∷ mine) le falling = (omega (arith, le, falling.0), falling.1, falling.2)
falling_up m n (event.Receipt r ∷ mine) le falling = (omega (arith, le, falling.0), falling.1)

pub all_below : (n m : ℕ) (mine : List Event) → n < m → PlacesFall n mine → AllByRecursion (λ d. event_place d < m) mine
all_below n m [] less falling = tt
all_below n m (event.Entry e ∷ mine) less falling = (omega (arith, less, falling.0), all_below e.place m mine (omega (arith, less, falling.0)) falling.2)
all_below n m (event.Receipt r ∷ mine) less falling = (omega (arith, less, falling.0), all_below r.place m mine (omega (arith, less, falling.0)) falling.1)

-- An append leaves what holds of each event of an account, entry or receipt, whatever its cause: each reads the history that it saw, and its caller's events.
pub each_more : (Q : List Entry → List Event → Event → Type 0) (e : Entry) (h : List Entry) (mine : List Event) → AllByRecursion (λ d. event_place d < e.place) mine → AreEach Q h mine → AreEach Q (e ∷ h) mine
each_more Q e h [] below each = tt
each_more Q e h (x ∷ mine) below each = let P : List Entry → Type 0 = λ l. Q l mine x in (subst P (sym (seen_more x e h below.0)) each.0, each_more Q e h mine below.1 each.1)

pub each_back : (Q : List Entry → List Event → Event → Type 0) (e : Entry) (h : List Entry) (mine : List Event) → AllByRecursion (λ d. event_place d < e.place) mine → AreEach Q (e ∷ h) mine → AreEach Q h mine
each_back Q e h [] below each = tt
each_back Q e h (x ∷ mine) below each = let P : List Entry → Type 0 = λ l. Q l mine x in (subst P (seen_more x e h below.0) each.0, each_back Q e h mine below.1 each.1)

-- a caller's events before a place
pub earlier_more : (n : ℕ) (e : Event) (mine : List Event) → n ≤ event_place e → earlier n (e ∷ mine) ≡ earlier n mine
earlier_more n e mine le = ap (λ (b : Bool). cond b (e ∷ mine) (earlier n mine)) (lt_false (event_place e) n le)

pub earlier_all : (n : ℕ) (mine : List Event) → AllByRecursion (λ d. event_place d < n) mine → earlier n mine ≡ mine
earlier_all n [] below = refl
earlier_all n (e ∷ mine) below = ap (λ (b : Bool). cond b (e ∷ mine) (earlier n mine)) (lt_true (event_place e) n below.0)

-- each account behind an event: that of its caller, and the others
pub with_each : (P : ℕ → List Event → Type 0) (e : Event) (accounts : ℕ → List Event) → P (caller_of e) (e ∷ accounts (caller_of e))
    → ((d : ℕ) → nat_eq d (caller_of e) ≡ false → P d (accounts d)) → (d : ℕ) → P d (with_event e accounts d)
with_each P e accounts here others d = cases (nat_eq d (caller_of e)) refl
  where
    same : nat_eq d (caller_of e) ≡ true → d ≡ caller_of e
    same t = grind (arith, nat_tests)

    cases : (b : Bool) → nat_eq d (caller_of e) ≡ b → P d (cond b (e ∷ accounts d) (accounts d))
    cases true t = let Q : ℕ → Type 0 = λ c. P c (e ∷ accounts c) in subst Q (sym (same t)) here
    cases false t = others d t

pub with_here : (e : Event) (accounts : ℕ → List Event) → with_event e accounts (caller_of e) ≡ e ∷ accounts (caller_of e)
with_here e accounts = ap (λ (b : Bool). cond b (e ∷ accounts (caller_of e)) (accounts (caller_of e))) (eq-eqb (caller_of e) (caller_of e) refl)

pub with_other : (e : Event) (accounts : ℕ → List Event) (d : ℕ) → nat_eq d (caller_of e) ≡ false → with_event e accounts d ≡ accounts d
with_other e accounts d other = ap (λ (b : Bool). cond b (e ∷ accounts d) (accounts d)) other

-- what holds of each event so far, and of the next entry or note, holds of each
pub each_entry : (Q : List Entry → List Event → Event → Type 0) (first : ℕ) (e : Entry) (h : List Entry) (accounts : ℕ → List Event) → e.place ≡ mark first h + 1 → ((c : ℕ) → PlacesFall (mark first h) (accounts c))
    → Q h (accounts e.caller) (event.Entry e) → ((c : ℕ) → AreEach Q h (accounts c)) → (c : ℕ) → AreEach Q (e ∷ h) (with_event (event.Entry e) accounts c)
each_entry Q first e h accounts place falling is each =
    let x : Event = event.Entry e in
    let below : (c : ℕ) → AllByRecursion (λ y. event_place y < e.place) (accounts c) = λ c. all_below (mark first h) e.place (accounts c) (omega (arith, place)) (falling c) in
    let P : List Entry → Type 0 = λ l. Q l (accounts e.caller) x in
    with_each (λ c mine. AreEach Q (e ∷ h) mine) x accounts (subst P (sym (seen_next first e h place)) is, each_more Q e h (accounts e.caller) (below e.caller) (each e.caller))
    (λ c other. each_more Q e h (accounts c) (below c) (each c))

pub each_note : (Q : List Entry → List Event → Event → Type 0) (first : ℕ) (r : Receipt) (h : List Entry) (accounts : ℕ → List Event) → r.place ≡ mark first h → Q h (accounts r.caller) (event.Receipt r) → ((c : ℕ) → AreEach Q h (accounts c))
    → (c : ℕ) → AreEach Q h (with_event (event.Receipt r) accounts c)
each_note Q first r h accounts place is each =
    let x : Event = event.Receipt r in
    let P : List Entry → Type 0 = λ l. Q l (accounts r.caller) x in
    with_each (λ c mine. AreEach Q h mine) x accounts (subst P (sym (seen_now first r h place)) is, each r.caller) (λ c other. each c)

-- events at or behind a place leave what stood before it
pub earlier_with : (n : ℕ) (e : Event) (accounts : ℕ → List Event) (d : ℕ) → n ≤ event_place e → earlier n (with_event e accounts d) ≡ earlier n (accounts d)
earlier_with n e accounts d le = cases (nat_eq d (caller_of e))
  where
    cases : (b : Bool) → earlier n (cond b (e ∷ accounts d) (accounts d)) ≡ earlier n (accounts d)
    cases true = earlier_more n e (accounts d) le
    cases false = refl

pub some_on : {A : Type 0} (o : Option A) (P Q : A → Type 0) → ((x : A) → P x → Q x) → IfSome o P → IfSome o Q
some_on None P Q f h = h
some_on (Some x) P Q f h = f x h

-- what stood before each entry decides that nobody had fixed what left or moved
pub still_on : (m : ℕ) (was now : ℕ → List Event) (h : List Entry) → ((k d : ℕ) → k ≤ m → earlier k (now d) ≡ earlier k (was d)) → AllByRecursion (λ (x : Entry). x.place ≤ m) h → AreStill was h → AreStill now h
still_on m was now [] same below still = tt
still_on m was now (x ∷ h) same below still = (
  some_on (departure_in x.kind) _ _ (λ (d : Placing) free c. ap (λ l. newest_fix (open_fixes l) d.page) (same x.place c below.0) ∙ free c) still.0,
  still_on m was now h same below.1 still.1,
)

-- no entry is behind the mark
pub up_to_mark : (first n : ℕ) (h : List Entry) → AreNumbered first h → mark first h ≤ n → AllByRecursion (λ (x : Entry). x.place ≤ n) h
up_to_mark first n [] numbered le = tt
up_to_mark first n (e ∷ h) numbered le = (le, up_to_mark first n h numbered.1 (omega (arith, le, numbered.0)))
