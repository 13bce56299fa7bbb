-- The own events of each caller in a merged trail are its account, and so at each event of it.
use Rattle.std.proofs.Common.{◌≡◌, ◌<◌, ◌≤◌, ℕ, Bool, true, false, cond, List, [], ◌∷◌, refl, ap, ◌∙◌, sym, subst, eq-eqb, nat_eq, arith}
use Rattle.std.specs.List.{AllByRecursion}
use Rattle.trail.specs.declared.event.Entry.{Entry}
use Rattle.trail.specs.declared.event.Receipt.{Receipt}
use Rattle.trail.specs.declared.event.Event.{Event}
use Rattle.trail.specs.declared.event.Event.TheVariants as event
use Rattle.trail.specs.Trails.{caller_of, entries, mark, own, receipts}
use Rattle.trail.specs.Merging.{IsPlaced}
use Rattle.trail_laws.specs.Accounts.{PlacesFall, IsAccount, entries_of, event_place}
use Rattle.trail_laws.specs.Ending.{IsTrailOf}
use Rattle.trail_laws.proofs.Places.{all_below, falling_up}
use Rattle.trail_laws.proofs.Tests.{number_is}

-- a caller's own events, by cases of the newest one
pub own_by : (P : List Event → Type 0) (c : ℕ) (e : Event) (past : List Event) → (caller_of e ≡ c → P (e ∷ own c past)) → (nat_eq (caller_of e) c ≡ false → P (own c past)) → P (own c (e ∷ past))
own_by P c e past here other = cases (nat_eq (caller_of e) c) refl
  where
    cases : (b : Bool) → nat_eq (caller_of e) c ≡ b → P (cond b (e ∷ own c past) (own c past))
    cases true t = here (number_is (caller_of e) c t)
    cases false t = other t

pub own_here : (e : Event) (past : List Event) → own (caller_of e) (e ∷ past) ≡ e ∷ own (caller_of e) past
own_here e past = ap (λ (b : Bool). cond b (e ∷ own (caller_of e) past) (own (caller_of e) past)) (eq-eqb (caller_of e) (caller_of e) refl)

pub own_other : (c : ℕ) (e : Event) (past : List Event) → nat_eq (caller_of e) c ≡ false → own c (e ∷ past) ≡ own c past
own_other c e past f = ap (λ (b : Bool). cond b (e ∷ own c past) (own c past)) f

-- what holds of all events holds of a caller's own
pub all_own : (P : Event → Type 0) (c : ℕ) (past : List Event) → AllByRecursion P past → AllByRecursion P (own c past)
all_own P c [] all = tt
all_own P c (e ∷ past) all = own_by (AllByRecursion P) c e past (λ is. (all.0, all_own P c past all.1)) (λ other. all_own P c past all.1)

-- and what holds of each caller's own events holds of all
pub all_of_own : (P : ℕ → Event → Type 0) (past : List Event) → ((c : ℕ) → AllByRecursion (P c) (own c past)) → AllByRecursion (λ e. P (caller_of e) e) past
all_of_own P [] each = tt
all_of_own P (e ∷ past) each =
    let A : ℕ → List Event → Type 0 = λ c l. AllByRecursion (P c) l in
    ((subst (A (caller_of e)) (own_here e past) (each (caller_of e))).0, all_of_own P past (λ c. rest c (nat_eq (caller_of e) c) refl))
  where
    rest : (c : ℕ) (b : Bool) → nat_eq (caller_of e) c ≡ b → AllByRecursion (P c) (own c past)
    rest c true t = let A : List Event → Type 0 = λ l. AllByRecursion (P c) l in
        let here : own c (e ∷ past) ≡ e ∷ own c past = ap (λ (b : Bool). cond b (e ∷ own c past) (own c past)) t in (subst A here (each c)).1
    rest c false t = let A : List Event → Type 0 = λ l. AllByRecursion (P c) l in subst A (own_other c e past t) (each c)

-- a caller's entries, and places
own_entries : (c : ℕ) (past : List Event) → entries (own c past) ≡ entries_of c (entries past)
own_entries c [] = refl
own_entries c (event.Entry e ∷ past) = cases (nat_eq e.caller c) (own_entries c past)
  where
    cases : (b : Bool) → entries (own c past) ≡ entries_of c (entries past)
        → entries (cond b (event.Entry e ∷ own c past) (own c past)) ≡ cond b (e ∷ entries_of c (entries past)) (entries_of c (entries past))
    cases true are = ap (λ l. e ∷ l) are
    cases false are = are
own_entries c (event.Receipt r ∷ past) = own_by (λ l. entries l ≡ entries_of c (entries past)) c (event.Receipt r) past (λ is. own_entries c past) (λ other. own_entries c past)

pub placed_falls : (first : ℕ) (past : List Event) → IsPlaced first past → PlacesFall (mark first (entries past)) past
placed_falls first [] placed = tt
placed_falls first (event.Entry e ∷ past) placed =
    let rest = placed_falls first past placed.1 in
    (omega arith, all_below (mark first (entries past)) e.place past (omega (arith, placed.0)) rest, falling_up (mark first (entries past)) e.place past (omega (arith, placed.0)) rest)
placed_falls first (event.Receipt r ∷ past) placed =
    (omega (arith, placed.0), falling_up (mark first (entries past)) r.place past (omega (arith, placed.0)) (placed_falls first past placed.1))

own_falls : (n c : ℕ) (past : List Event) → PlacesFall n past → PlacesFall n (own c past)
own_falls n c [] falling = tt
own_falls n c (event.Entry e ∷ past) falling =
    own_by (PlacesFall n) c (event.Entry e) past (λ is. (falling.0, all_own (λ d. event_place d < e.place) c past falling.1, own_falls e.place c past falling.2))
    (λ other. falling_up e.place n (own c past) falling.0 (own_falls e.place c past falling.2))
own_falls n c (event.Receipt r ∷ past) falling =
    own_by (PlacesFall n) c (event.Receipt r) past (λ is. (falling.0, own_falls r.place c past falling.1)) (λ other. falling_up r.place n (own c past) falling.0 (own_falls r.place c past falling.1))

-- Events whose places fall are known by their entries and their receipts.
first_receipt : (n : ℕ) (mine : List Event) (r : Receipt) (rs : List Receipt) → AllByRecursion (λ d. event_place d < n) mine → receipts mine ≡ r ∷ rs → r.place < n
first_receipt n [] r rs below is = absurd (cc)
first_receipt n (event.Entry e ∷ mine) r rs below is = first_receipt n mine r rs below.1 is
first_receipt n (event.Receipt q ∷ mine) r rs below is = let same : q ≡ r = cc in let P : Receipt → Type 0 = λ x. x.place < n in subst P same below.0

first_entry : (n : ℕ) (mine : List Event) (e : Entry) (es : List Entry) → PlacesFall n mine → entries mine ≡ e ∷ es → e.place ≤ n
first_entry n [] e es falling is = absurd (cc)
first_entry n (event.Entry d ∷ mine) e es falling is = let same : d ≡ e = cc in let P : Entry → Type 0 = λ x. x.place ≤ n in subst P same falling.0
first_entry n (event.Receipt r ∷ mine) e es falling is = let le = first_entry r.place mine e es falling.1 is in omega (arith, le, falling.0)

apart : (m n : ℕ) (e : Entry) (xs : List Event) (r : Receipt) (ys : List Event) → PlacesFall m (event.Entry e ∷ xs) → PlacesFall n (event.Receipt r ∷ ys) → e ∷ entries xs ≡ entries ys → receipts xs ≡ r ∷ receipts ys → ⊥
apart m n e xs r ys fx fy es rs =
    let low = first_receipt e.place xs r (receipts ys) fx.1 rs in
    let high = first_entry r.place ys e (entries xs) fy.1 (sym es) in
    absurd (omega (arith, low, high))

pub woven : (m n : ℕ) (xs ys : List Event) → PlacesFall m xs → PlacesFall n ys → entries xs ≡ entries ys → receipts xs ≡ receipts ys → xs ≡ ys
woven m n [] [] fx fy es rs = refl
woven m n [] (event.Entry e ∷ ys) fx fy es rs = absurd (cc)
woven m n [] (event.Receipt r ∷ ys) fx fy es rs = absurd (cc)
woven m n (event.Entry e ∷ xs) [] fx fy es rs = absurd (cc)
woven m n (event.Receipt r ∷ xs) [] fx fy es rs = absurd (cc)
woven m n (event.Entry d ∷ xs) (event.Entry e ∷ ys) fx fy es rs =
    let here : d ≡ e = cc in
    let more : entries xs ≡ entries ys = cc in
    ap (λ x. event.Entry x ∷ xs) here ∙ ap (λ l. event.Entry e ∷ l) (woven d.place e.place xs ys fx.2 fy.2 more rs)
woven m n (event.Receipt q ∷ xs) (event.Receipt r ∷ ys) fx fy es rs =
    let here : q ≡ r = cc in
    let more : receipts xs ≡ receipts ys = cc in
    ap (λ x. event.Receipt x ∷ xs) here ∙ ap (λ l. event.Receipt r ∷ l) (woven q.place r.place xs ys fx.1 fy.1 es more)
woven m n (event.Entry e ∷ xs) (event.Receipt r ∷ ys) fx fy es rs = absurd (apart m n e xs r ys fx fy es rs)
woven m n (event.Receipt r ∷ xs) (event.Entry e ∷ ys) fx fy es rs = absurd (apart n m e ys r xs fy fx (sym es) (sym rs))

-- A caller's own events in a merged trail are its account.
pub own_account : (first : ℕ) (h : List Entry) (accounts : ℕ → List Event) (past : List Event) → IsTrailOf first h accounts past → ((c : ℕ) → IsAccount first h c (accounts c)) → (c : ℕ) → own c past ≡ accounts c
own_account first h accounts past merged each c =
    woven (mark first (entries past)) (mark first h) (own c past) (accounts c) (own_falls (mark first (entries past)) c past (placed_falls first past merged.placed)) (each c).falling
    (own_entries c past ∙ ap (entries_of c) merged.entries_are ∙ sym (each c).kept) (merged.receipts_are c)
