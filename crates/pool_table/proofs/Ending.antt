-- Once a pass has all parts it has all accounts, and what is merged from them and the history is a lawful trail.
use Rattle.std.proofs.Common.{◌≡◌, ◌≢◌, ◌⊎◌, inl, inr, ⊎_elim, ℕ, zero, suc, ◌+◌, ◌<◌, ◌≤◌, Bool, true, false, cond, List, [], ◌∷◌, None, Some, refl, sym, ap, ◌∙◌, subst, arith, get_or, nat_eq, nat_lt, eq-eqb}
use Rattle.std.proofs.lemmas.Bool.Decides.{nat_tests}
use Rattle.std.specs.Prelude.{reverse}
use Rattle.std.specs.List.{AllByRecursion}
use mathlib.Core.Option.{some, some-injective, some-ne-none}
use mathlib.Core.Logic.{dite}
use native.Mathlib.Decide.{ℕ_discrete}
use lib.ListN.{get_elem?}
use Rattle.atomic_table.specs.Table.{State}
use Rattle.redo_log.specs.Passes.{Known}
use Rattle.trail.specs.declared.event.Entry.{Entry}
use Rattle.trail.specs.declared.event.Event.{Event}
use Rattle.trail.specs.Laws.{IsLawfulTrail}
use Rattle.trail.specs.Trails.{own}
use Rattle.trail.specs.Calls.{calls_of}
use Rattle.trail_laws.specs.Adding.{IsCalling, IsClosed}
use Rattle.trail_laws.specs.Ending.{AreEnded, FollowsNewest, IsTrailOf}
use Rattle.trail_laws.proofs.Calling.{answered_all, answered_none, made_none}
use Rattle.trail_laws.specs.SoFar.{AreTrueAlone, IsLawfulSoFar}
use Rattle.trail_laws.proofs.Following.{ended_all}
use Rattle.trail_laws.proofs.Same.{same_so_far, same_true}
use Rattle.trail_laws.proofs.Owning.{own_account}
use Rattle.trail_laws.proofs.Whole.{merged_lawful}
use Rattle.frame_words.specs.Plain.{Plain}
use Rattle.pool_table.specs.declared.view.Account.{Account}
use Rattle.pool_table.specs.declared.view.Slot.{Slot}
use Rattle.pool_table.specs.declared.view.Slot.TheVariants as slot
use Rattle.pool_table.specs.declared.view.View.{View}
use Rattle.pool_table.specs.Seen.{DeskSeen}
use Rattle.pool_table.specs.Logged.{KnowsMore}
use Rattle.pool_table.specs.Views.{account_of, accounts_if, accounts_of}
use Rattle.pool_table.specs.Ending.{AreCutShort, KnowsAll, account_at}
use Rattle.pool_table.specs.Frames.{AreFramesAtRest, AreSettled, AreSized}
use Rattle.pool_table.specs.Ours.{AreOurEntries, IsOurs}
use Rattle.pool_table.specs.Kept.{parts_of, AreNumbersOf, HasNoCall, IsTrueAccount, Fits, HasAccount, IsNewestOf, IsRested, Kept}
use Rattle.pool_table.proofs.Lists.{total_two}
use Rattle.pool_table.proofs.Closing.{same_ended}
use Rattle.pool_table.proofs.Events.{logged_on}
use Rattle.pool_table.proofs.Numbers.{others_none}
use Rattle.pool_table.proofs.Seats.{brought_apart, brought_has}

-- the accounts that a view brings are the truth
true_of : (known : Known) (h : List Entry) (frames : Plain) (t next maker : ℕ) (accounts : ℕ → List Event) (seat : ℕ → ℕ) (j : ℕ) (v : View) → Fits known h frames t next maker accounts seat j v
    → (b : Bool) → v.passes ≡ b → (i : ℕ) (a : Account) → get_elem? (accounts_if b v) i ≡ some a → IsTrueAccount known next accounts seat j a
true_of known h frames t next maker accounts seat j v f true is zero a e = subst (IsTrueAccount known next accounts seat j) (some-injective (account_of v) a e) (f.keeps.passes is).1
true_of known h frames t next maker accounts seat j v f true is (suc i) a e = (f.keeps.others i a e).0
true_of known h frames t next maker accounts seat j v f false is i a e = (f.keeps.others i a e).0

-- a look-up among true accounts finds a caller's events
looked_up : (all : ℕ → List Event) (c : ℕ) (list : List Account) → ((i : ℕ) (a : Account) → get_elem? list i ≡ some a → all a.number ≡ a.mine)
    → ((i : ℕ) × (a : Account) × (get_elem? list i ≡ some a) × (a.number ≡ c)) ⊎ (all c ≡ []) → account_at list c ≡ all c
looked_up all c [] each is = ⊎_elim (λ (t : (i : ℕ) × (a : Account) × (get_elem? [] i ≡ some a) × (a.number ≡ c)). absurd (some-ne-none t.1 (sym t.2))) (λ (e : all c ≡ []). sym e) is
looked_up all c (b ∷ list) each is = cases (nat_eq b.number c) refl (λ n. looked_up all c list (λ i a e. each (suc i) a e) (further n is))
  where
    same : nat_eq b.number c ≡ true → b.number ≡ c
    same t = grind (arith, nat_tests)

    apart : nat_eq b.number c ≡ false → b.number ≢ c
    apart t e = let on : nat_eq b.number c ≡ true = eq-eqb b.number c e in let no : true ≡ false = sym on ∙ t in absurd (cc)

    further : b.number ≢ c → ((i : ℕ) × (a : Account) × (get_elem? (b ∷ list) i ≡ some a) × (a.number ≡ c)) ⊎ (all c ≡ []) → ((i : ℕ) × (a : Account) × (get_elem? list i ≡ some a) × (a.number ≡ c)) ⊎ (all c ≡ [])
    further n (inl (zero, a, e, is)) = absurd (n (ap (λ (x : Account). x.number) (some-injective b a e) ∙ is))
    further n (inl (suc i, a, e, is)) = inl (i, a, e, is)
    further n (inr e) = inr e

    cases : (t : Bool) → nat_eq b.number c ≡ t → (b.number ≢ c → account_at list c ≡ all c) → cond t b.mine (account_at list c) ≡ all c
    cases true t rest = sym (each 0 b refl) ∙ ap all (same t)
    cases false t rest = rest (apart t)

-- Of the accounts that a view brings no call is under way, where none of its own is.
over_of : (known : Known) (h : List Entry) (frames : Plain) (t next maker : ℕ) (accounts : ℕ → List Event) (seat : ℕ → ℕ) (j : ℕ) (v : View) → Fits known h frames t next maker accounts seat j v
    → (b : Bool) → HasNoCall v.mine → (i : ℕ) (a : Account) → get_elem? (accounts_if b v) i ≡ some a → HasNoCall a.mine
over_of known h frames t next maker accounts seat j v f true own zero a e = subst (λ (b : Account). HasNoCall b.mine) (some-injective (account_of v) a e) own
over_of known h frames t next maker accounts seat j v f true own (suc i) a e = (f.keeps.others i a e).1.answered
over_of known h frames t next maker accounts seat j v f false own i a e = (f.keeps.others i a e).1.answered

over_at : (list : List Account) → ((i : ℕ) (a : Account) → get_elem? list i ≡ some a → HasNoCall a.mine) → (c : ℕ) → HasNoCall (account_at list c)
over_at [] each c = λ least. let none : 1 ≤ 0 = least in absurd (omega (arith, none))
over_at (a ∷ list) each c = cases (nat_eq a.number c) (over_at list (λ i b e. each (suc i) b e) c)
  where
    cases : (t : Bool) → HasNoCall (account_at list c) → HasNoCall (cond t a.mine (account_at list c))
    cases true rest = each 0 a refl
    cases false rest = rest

-- whose newest call is closed may begin the next one
next_calling : (mine : List Event) → ((k : ℕ) → 1 ≤ k → k < calls_of mine → IsClosed mine k) → HasNoCall mine → IsCalling mine (calls_of mine + 1) []
next_calling mine closed over = record {
  first = omega arith;
  made_are = made_none (calls_of mine + 1) mine (omega arith);
  count = refl;
  unanswered = answered_none (calls_of mine + 1) mine (omega arith);
  closed = λ k least less. dite (ℕ_discrete k (calls_of mine))
      (λ e. subst (λ (j : ℕ). IsClosed mine j) (sym e) (over (omega (arith, e, least))))
      (λ n. closed k least (omega (arith, less, n)));
}

module _ (D : Type 0) (seen : D → DeskSeen) (start : DeskSeen) where
  -- A view with all parts has every account.
  pub has_accounts : (s : State (Slot D) View) (r : Kept seen start s) (id : ℕ) (v : View) → get_elem? s.views id ≡ some v → v.parts ≡ 64 → (c : ℕ) → account_at (accounts_of v) c ≡ r.accounts c
  has_accounts s r id v at all c = looked_up r.accounts c (accounts_of v)
      (λ i a e. (true_of r.known r.h r.frames (get_or s.words 1 0) r.next r.maker r.accounts r.seat id v (r.each id v at) v.passes refl i a e).events) (found (nat_lt c r.next) refl)
    where
      nobody_else : (j : ℕ) (u : View) → j ≢ id → get_elem? s.views j ≡ some u → u.parts ≡ 0
      nobody_else j u n there = let two = total_two parts_of s.views j id u v n there at in let w = r.whole in omega (arith, two, w, all)

      empty : (j : ℕ) (u : View) → j ≢ id → get_elem? s.views j ≡ some u → HasAccount c u → ⊥
      empty j u n there has = let b = r.each j u there in let none = nobody_else j u n there in ⊎_elim
          (λ (t : (u.passes ≡ true) × (u.number ≡ c)). let some_part = (b.keeps.passes t.0).0 in absurd (omega (arith, none, some_part)))
          (λ (t : (i : ℕ) × (a : Account) × (get_elem? u.others i ≡ some a) × (a.number ≡ c)). absurd (some-ne-none t.1 (sym (sym (ap (λ (l : List Account). get_elem? l t.0) (b.keeps.idle none)) ∙ t.2)))) has

      here : (c < r.next) → HasAccount c v
      here lt = let h = r.laws.owned c lt in dite (ℕ_discrete (r.seat c) id)
          (λ e. subst (λ (u : View). HasAccount c u) (some-injective h.0 v (sym h.1 ∙ (ap (get_elem? s.views) e ∙ at))) h.2)
          (λ n. absurd (empty (r.seat c) h.0 n h.1 h.2))

      found : (b : Bool) → nat_lt c r.next ≡ b → ((i : ℕ) × (a : Account) × (get_elem? (accounts_of v) i ≡ some a) × (a.number ≡ c)) ⊎ (r.accounts c ≡ [])
      found true t = inl (brought_has c v v.passes refl (here (let lt : c < r.next = grind (arith, nat_tests) in lt)))
      found false t = inr (r.laws.later c (let le : r.next ≤ c = grind (arith, nat_tests) in le))

  -- Nobody else has the turn, then.
  none_turned : (s : State (Slot D) View) → Kept seen start s → (id : ℕ) (v : View) → get_elem? s.views id ≡ some v → v.parts ≡ 64 → v.turn ≡ false → (t : ℕ) → get_or s.words 1 0 ≡ t → t ≡ 0
  none_turned s r id v at all off zero is = refl
  none_turned s r id v at all off (suc k) is = let h = r.turns.held k (is ∙ omega arith) in dite (ℕ_discrete (r.seat k) id)
      (λ e. let here : h.0 ≡ v = some-injective h.0 v (sym h.1 ∙ (ap (get_elem? s.views) e ∙ at)) in let no : true ≡ false = sym h.2 ∙ (ap (λ (u : View). u.turn) here ∙ off) in absurd (cc))
      (λ n. let b = r.each (r.seat k) h.0 h.1 in let has = (b.keeps.passes (b.knows.turn h.2).0).0 in
      let two = total_two parts_of s.views (r.seat k) id h.0 v n h.1 at in let w = r.whole in absurd (omega (arith, two, w, all, has)))

  -- Where all parts were joined, the desk in its slot and that view have all.
  pub ends : (s : State (Slot D) View) → Kept seen start s → (id : ℕ) (v : View) → get_elem? s.views id ≡ some v → v.parts ≡ 64 → v.turn ≡ false
      → (d : D) × (get_elem? s.homes 0 ≡ some (some (slot.Desk d))) × KnowsAll start (seen d) v
  ends s r id v at all off =
      let free : get_or s.words 1 0 ≡ 0 = none_turned s r id v at all off (get_or s.words 1 0) refl in
      let at_rest : IsRested r.accounts r.h (get_or s.words 1 0) → FollowsNewest r.accounts None r.h = λ z. ⊎_elim (λ (x : FollowsNewest r.accounts None r.h). x) (λ (y : (k : ℕ) × (get_or s.words 1 0 ≡ k + 1) × IsNewestOf k r.h). let n = y.1 in absurd (omega (arith, n, free))) z in
      let f = r.turns.free free in let d = f.0 in let home = f.2 in
      let is = has_accounts s r id v at all in
      let all_apart = brought_apart r.known r.h r.frames (get_or s.words 1 0) r.next r.maker r.accounts r.seat id v (r.each id v at) in
      let mine : ℕ → List Event = account_at (accounts_of v) in
      let no_number : (c : ℕ) → AreNumbersOf c s.views = λ c j u there. subst (AllByRecursion (λ (n : ℕ). n ≡ c)) (sym (r.each j u there).bare.numbers) tt in
      let each = true_of r.known r.h r.frames (get_or s.words 1 0) r.next r.maker r.accounts r.seat id v (r.each id v at) v.passes refl in (
        d,
        f.1,
        record {
          home = record {
            history = refl;
            frames_are = refl;
            opening = home.opening;
            instance = home.instance;
            pages = home.pages;
            known_is = refl;
            rest = subst AreFramesAtRest (sym home.frames_are) home.rest;
            settled = subst (λ (y : List Entry × Plain). AreSettled y.0 y.1) (λ i. (sym home.history i, sym home.frames_are i)) home.settled;
            sized = subst (λ (y : List Entry × Plain). AreSized start.opening.config y.0 y.1) (λ i. (sym home.history i, sym home.frames_are i)) home.sized;
          };
          lawful = subst (λ (l : List Entry). IsLawfulSoFar start.opening start.pages l mine) (sym home.history) (same_so_far start.opening start.pages r.h r.accounts mine is r.laws.so_far);
          callers = record { apart = all_apart v.passes refl; others = others_none (accounts_of v) };
          ended = subst (AreEnded mine None) (sym home.history) (same_ended None r.h r.accounts mine is (ended_all r.h r.accounts (at_rest r.rested) r.laws.ended));
          closed = λ c k least less. subst (λ (l : List Event). IsClosed l k) (sym (is c)) (r.laws.closed c k least (subst (λ (l : List Event). k < calls_of l) (is c) less));
          over = λ c own. over_at (accounts_of v) (over_of r.known r.h r.frames (get_or s.words 1 0) r.next r.maker r.accounts r.seat id v (r.each id v at) v.passes own) c;
          ours = record {
            entries = subst (AreOurEntries start) (sym home.history) r.laws.ours.entries;
            events = λ c. subst (AllByRecursion (IsOurs start)) (sym (is c)) (r.laws.ours.events c);
          };
          words = subst (λ (l : List Entry). AreTrueAlone l mine) (sym home.history) (same_true r.h r.accounts mine is (λ c flush alone. r.words c flush alone (no_number c)));
          log = ap (λ (x : Known). x.log) home.known_is ∙ r.of_log;
          logged = λ i a e. let is = each i a e in logged_on a.redo (Some (seen d).known) a.mine (subst (λ (x : Known). KnowsMore a.redo (Some x)) (sym home.known_is) is.redo) is.logged;
        },
      )

-- What is merged from that history and these accounts is a lawful trail, and each caller's own events in it are its account's. The pass that has all accounts has no
-- call under way, and of those that were taken in none was; a resize without an answer was cut short.
pub merges : (start d : DeskSeen) (v : View) (past : List Event) → KnowsAll start d v → IsTrailOf start.opening.first d.history (account_at (accounts_of v)) past → HasNoCall v.mine → AreCutShort start.opening d.history (account_at (accounts_of v))
    → IsLawfulTrail start.opening (record { first = start.opening.first; events = reverse past }) × ((c : ℕ) → own c past ≡ account_at (accounts_of v) c)
merges start d v past e merged none cut = (
  merged_lawful start.opening start.pages d.history (account_at (accounts_of v)) past merged e.lawful e.words (record {
    answered = λ c. answered_all start.opening d.history c (account_at (accounts_of v) c) (calls_of (account_at (accounts_of v) c) + 1)
        (next_calling (account_at (accounts_of v) c) (e.closed c) (e.over c none)) (cut c);
    followed = e.ended;
  }),
  own_account start.opening.first d.history (account_at (accounts_of v)) past merged e.lawful.places.each,
)

-- Of two passes with different numbers each has its own events in the trail.
pub two_merge : (start d : DeskSeen) (v : View) (a b : Account) (past : List Event) → accounts_of v ≡ a ∷ b ∷ [] → a.number ≢ b.number → KnowsAll start d v
    → IsTrailOf start.opening.first d.history (account_at (accounts_of v)) past → HasNoCall v.mine → AreCutShort start.opening d.history (account_at (accounts_of v))
    → IsLawfulTrail start.opening (record { first = start.opening.first; events = reverse past }) × (own a.number past ≡ a.mine) × (own b.number past ≡ b.mine)
two_merge start d v a b past two apart e merged none cut =
    let m = merges start d v past e merged none cut in
    let here : nat_eq a.number a.number ≡ true = eq-eqb a.number a.number refl in
    let there : nat_eq b.number b.number ≡ true = eq-eqb b.number b.number refl in
    let off : nat_eq a.number b.number ≡ false = grind (arith, nat_tests) in
    let one : account_at (a ∷ b ∷ []) a.number ≡ a.mine = ap (λ (t : Bool). cond t a.mine (account_at (b ∷ []) a.number)) here in
    let other : account_at (a ∷ b ∷ []) b.number ≡ b.mine = ap (λ (t : Bool). cond t a.mine (account_at (b ∷ []) b.number)) off ∙ ap (λ (t : Bool). cond t b.mine []) there in
    (m.0, m.1 a.number ∙ (ap (λ (l : List Account). account_at l a.number) two ∙ one), m.1 b.number ∙ (ap (λ (l : List Account). account_at l b.number) two ∙ other))
