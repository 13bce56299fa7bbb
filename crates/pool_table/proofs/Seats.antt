-- Making a pass, and taking one in, keep the rule.
use Rattle.std.proofs.Common.{◌≡◌, ◌≢◌, inl, inr, ⊎_elim, ℕ, zero, suc, ◌+◌, ◌<◌, ◌≤◌, ◌==◌, Bool, true, false, cond, List, [], ◌∷◌, ◌++◌, length, set, get_or, refl, sym, ap, ◌∙◌, subst, arith, le_refl, nat_le}
use Rattle.std.proofs.lemmas.Bool.Decides.{nat_tests}
use mathlib.Core.Option.{some, some-injective, some-ne-none}
use mathlib.Core.Logic.{dite}
use native.Mathlib.Decide.{ℕ_discrete}
use lib.ListN.{get_elem?}
use Rattle.redo_log.specs.Passes.{Known}
use Rattle.atomic_table.specs.Table.{Splits, Joins}
use Rattle.atomic_table.proofs.Lists.{at_longer, set_else}
use Rattle.trail.specs.declared.event.Entry.{Entry}
use Rattle.trail.specs.declared.event.Event.{Event}
use Rattle.trail_laws.specs.Ending.{AreDistinct}
use Rattle.trail.specs.declared.event.Held as trails
use Rattle.frame_words.specs.Plain.{Plain}
use Rattle.pool_table.specs.declared.view.Account.{Account}
use Rattle.pool_table.specs.declared.view.Slot.{Slot}
use Rattle.pool_table.specs.declared.view.View.{View}
use Rattle.pool_table.specs.Seen.{DeskSeen}
use Rattle.pool_table.specs.Views.{account_of, accounts_if, joined, made_pass, maker_after, nobody, numbers_of}
use Rattle.pool_table.specs.Frames.{fixes_in}
use Rattle.pool_table.specs.Kept.{parts_of, fixed_in, IsOver, IsTrueAccount, Fits, HasAccount, Kept}
use Rattle.pool_table.proofs.Lists.{at_append, each_new, each_two, in_first, in_second, set_at, total_new, total_set}
use Rattle.pool_table.proofs.Alone.{numbers_joined, numbers_new, numbers_set, words_of}
use Rattle.pool_table.proofs.Numbers.{distinct_both, none_has}
use Rattle.pool_table.proofs.Events.{off}

abbrev seat_with : (ℕ → ℕ) → ℕ → ℕ → ℕ → ℕ
seat_with seat n j k = cond (k == n) j (seat k)

seat_with-here : (seat : ℕ → ℕ) (n j k : ℕ) → k ≡ n → seat_with seat n j k ≡ j
seat_with-here seat n j k e = let on : (k == n) ≡ true = grind (arith, nat_tests) in rw on refl

seat_with-else : (seat : ℕ → ℕ) (n j k : ℕ) → k ≢ n → seat_with seat n j k ≡ seat k
seat_with-else seat n j k e = let no : (k == n) ≡ false = grind (arith, nat_tests) in rw no refl

-- what was at one seat is at another
abbrev seat_moved : (ℕ → ℕ) → ℕ → ℕ → ℕ → ℕ
seat_moved seat from to k = cond (seat k == from) to (seat k)

seat_moved-here : (seat : ℕ → ℕ) (from to k : ℕ) → seat k ≡ from → seat_moved seat from to k ≡ to
seat_moved-here seat from to k e = let on : (seat k == from) ≡ true = grind (arith, nat_tests) in rw on refl

seat_moved-else : (seat : ℕ → ℕ) (from to k j : ℕ) → seat k ≡ j → j ≢ from → seat_moved seat from to k ≡ j
seat_moved-else seat from to k j e n = let no : (seat k == from) ≡ false = grind (arith, nat_tests) in rw no e

-- an account under other seats
account_moved : (known : Known) (next next' : ℕ) (accounts : ℕ → List Event) (seat seat' : ℕ → ℕ) (j j' : ℕ) (a : Account) → next ≤ next' → (seat a.number ≡ j → seat' a.number ≡ j')
    → IsTrueAccount known next accounts seat j a → IsTrueAccount known next' accounts seat' j' a
account_moved known next next' accounts seat seat' j j' a le move x = let b = x.below in record { kept_by = move x.kept_by; below = omega (arith, b, le); events = x.events; redo = x.redo; logged = x.logged }

-- of two ends of a history the longer one is one
longer_end : (h xs ys : List Entry) (b : Bool) → (more : List Entry) × (h ≡ more ++ xs) → (more : List Entry) × (h ≡ more ++ ys) → (more : List Entry) × (h ≡ more ++ cond b ys xs)
longer_end h xs ys true p q = q
longer_end h xs ys false p q = p

-- the accounts that a view brings have its numbers
pub brought_has : (k : ℕ) (w : View) (b : Bool) → w.passes ≡ b → HasAccount k w → (i : ℕ) × (a : Account) × (get_elem? (accounts_if b w) i ≡ some a) × (a.number ≡ k)
brought_has k w true is has = ⊎_elim (λ (t : (w.passes ≡ true) × (w.number ≡ k)). (0, account_of w, refl, t.1))
    (λ (t : (i : ℕ) × (a : Account) × (get_elem? w.others i ≡ some a) × (a.number ≡ k)). (suc t.0, t.1, t.2, t.3)) has
brought_has k w false is has = ⊎_elim (λ (t : (w.passes ≡ true) × (w.number ≡ k)). off (sym is ∙ t.0))
    (λ (t : (i : ℕ) × (a : Account) × (get_elem? w.others i ≡ some a) × (a.number ≡ k)). t) has

-- and are the truth at its seat
brought : (known : Known) (h : List Entry) (frames : Plain) (t next maker : ℕ) (accounts : ℕ → List Event) (seat : ℕ → ℕ) (j : ℕ) (w : View) → Fits known h frames t next maker accounts seat j w → IsOver w.mine
    → (b : Bool) → w.passes ≡ b → (i : ℕ) (a : Account) → get_elem? (accounts_if b w) i ≡ some a → IsTrueAccount known next accounts seat j a × IsOver a.mine
brought known h frames t next maker accounts seat j w g over true is zero a e = subst (λ (a : Account). IsTrueAccount known next accounts seat j a × IsOver a.mine) (some-injective (account_of w) a e) ((g.keeps.passes is).1, over)
brought known h frames t next maker accounts seat j w g over true is (suc i) a e = let y = g.keeps.others i a e in (y.0, y.1)
brought known h frames t next maker accounts seat j w g over false is i a e = let y = g.keeps.others i a e in (y.0, y.1)

pub brought_apart : (known : Known) (h : List Entry) (frames : Plain) (t next maker : ℕ) (accounts : ℕ → List Event) (seat : ℕ → ℕ) (j : ℕ) (w : View) → Fits known h frames t next maker accounts seat j w
    → (b : Bool) → w.passes ≡ b → AreDistinct (numbers_of (accounts_if b w))
brought_apart known h frames t next maker accounts seat j w g true is = (none_has w.number w.others (λ i a e. (g.keeps.others i a e).2 is), g.keeps.apart)
brought_apart known h frames t next maker accounts seat j w g false is = g.keeps.apart

-- a view that knows nothing fits
pub nobody_fits : (known : Known) (h : List Entry) (frames : Plain) (t next maker : ℕ) (accounts : ℕ → List Event) (seat : ℕ → ℕ) (j : ℕ) → Fits known h frames t next maker accounts seat j nobody
nobody_fits known h frames t next maker accounts seat j = record {
  knows = record { seen = (h, sym (Rattle.std.proofs.lemmas.List.append-nil h)); turn = λ a. off a };
  keeps = record { makes = λ a. off a; passes = λ a. off a; unnamed = λ _. refl; others = λ i a e. absurd (some-ne-none a (sym e)); idle = λ _. refl; apart = tt };
  fixes = tt;
  bare = record { found = refl; numbers = refl; visits = refl; latches = refl; lifted = refl; claimed = refl; unpublished = refl };
}

last_at : (l : List View) (b : View) → get_elem? (l ++ b ∷ []) (length l) ≡ some b
last_at [] b = refl
last_at (x ∷ xs) b = last_at xs b

module _ (D : Type 0) (seen : D → DeskSeen) (start : DeskSeen) where
  -- Split: a pass with the next number, which has no entry, no receipt, no open fix and no turn.
  pub makes_pass : (id : ℕ) (v : View) → v.makes ≡ true → 0 < v.parts → Splits {S = Slot D} (Kept seen start) id v (maker_after v) (made_pass v)
  makes_pass id v makes some_part s r at =
      let f = r.each id v at in let m = f.keeps.makes makes in
      let t : ℕ = get_or s.words 1 0 in
      let was : List View = set s.views id (maker_after v) in
      let n : ℕ = length was in
      let next : ℕ = r.next in
      let number : v.number ≡ next = m.1 in
      let seat' : ℕ → ℕ = seat_with r.seat v.number n in
      let stays : (k : ℕ) → k < next → seat' k ≡ r.seat k = λ k lt. seat_with-else r.seat v.number n k (λ e. omega (arith, number, lt, e)) in
      let K : ℕ → View → Type 0 = Fits r.known r.h r.frames t (next + 1) r.maker r.accounts seat' in
      let moves : (j : ℕ) (a : Account) → IsTrueAccount r.known next r.accounts r.seat j a → IsTrueAccount r.known (next + 1) r.accounts seat' j a = λ j a x.
      account_moved r.known next (next + 1) r.accounts r.seat seat' j j a (omega arith) (λ e. stays a.number x.below ∙ e) x in
      let others : (j : ℕ) (u : View) → j ≢ id → get_elem? s.views j ≡ some u → K j u = λ j u n there. let g = r.each j u there in record {
        knows = g.knows;
        keeps = record {
          makes = λ a. absurd (n ((g.keeps.makes a).0 ∙ sym m.0));
          passes = λ a. let x = g.keeps.passes a in (x.0, moves j (account_of u) x.1);
          unnamed = g.keeps.unnamed;
          others = λ i a e. let x = g.keeps.others i a e in (moves j a x.0, x.1, x.2);
          idle = g.keeps.idle;
          apart = g.keeps.apart;
        };
        fixes = g.fixes;
        bare = g.bare;
      } in
      let left : K id (maker_after v) = record {
        knows = record { seen = f.knows.seen; turn = λ a. off (sym m.2 ∙ (f.knows.turn a).0) };
        keeps = record {
          makes = λ _. (m.0, ap (λ (k : ℕ). k + 1) number, m.2, m.3);
          passes = λ a. off (sym m.2 ∙ a);
          unnamed = f.keeps.unnamed;
          others = λ i a e. let x = f.keeps.others i a e in (moves id a x.0, x.1, (λ p. off (sym m.2 ∙ p)));
          idle = λ _. m.3;
          apart = f.keeps.apart;
        };
        fixes = f.fixes;
        bare = record { found = f.bare.found; numbers = f.bare.numbers; visits = f.bare.visits; latches = f.bare.latches; lifted = f.bare.lifted; claimed = f.bare.claimed; unpublished = f.bare.unpublished };
      } in
      let right : K n (made_pass v) = record {
        knows = record { seen = (r.h, sym (Rattle.std.proofs.lemmas.List.append-nil r.h)); turn = λ a. off a };
        keeps = record {
          makes = λ a. off a;
          passes = λ _. (omega arith, record { kept_by = seat_with-here r.seat v.number n v.number refl; below = omega (arith, number); events = r.laws.later v.number (omega (arith, number)); redo = tt; logged = tt });
          unnamed = λ a. refl;
          others = λ i a e. absurd (some-ne-none a (sym e));
          idle = λ _. refl;
          apart = tt;
        };
        fixes = tt;
        bare = record { found = refl; numbers = refl; visits = refl; latches = refl; lifted = refl; claimed = refl; unpublished = refl };
      } in record {
        h = r.h;
        frames = r.frames;
        known = r.known;
        of_log = r.of_log;
        next = next + 1;
        maker = r.maker;
        accounts = r.accounts;
        seat = seat';
        turns = record {
          wide = r.turns.wide;
          deep = r.turns.deep;
          mark_is = r.turns.mark_is;
          free = r.turns.free;
          held = λ k is. let h = r.turns.held k is in let g = r.each (r.seat k) h.0 h.1 in let x = g.knows.turn h.2 in let b = (g.keeps.passes x.0).1.below in
              let below : k < next = omega (arith, x.1, b, is) in
              let apart : r.seat k ≢ id = λ e. let same : v ≡ h.0 = some-injective v h.0 (sym at ∙ (ap (get_elem? s.views) (sym e) ∙ h.1)) in
              off (sym m.2 ∙ (f.knows.turn (ap (λ (u : View). u.turn) same ∙ h.2)).0) in
              (h.0, ap (get_elem? (was ++ made_pass v ∷ [])) (stays k below) ∙ at_longer was (made_pass v ∷ []) (r.seat k) h.0 (set_else s.views id (r.seat k) (maker_after v) apart ∙ h.1), h.2);
        };
        laws = record {
          so_far = r.laws.so_far;
          ended = r.laws.ended;
          closed = r.laws.closed;
          ours = r.laws.ours;
          later = λ k le. r.laws.later k (omega (arith, le));
          owned = λ k lt. dite (ℕ_discrete k v.number)
              (λ e. (made_pass v, ap (get_elem? (was ++ made_pass v ∷ [])) (seat_with-here r.seat v.number n k e) ∙ last_at was (made_pass v), inl (refl, sym e)))
              (λ e. let below : k < next = omega (arith, lt, e, number) in let h = r.laws.owned k below in dite (ℕ_discrete (r.seat k) id)
              (λ here. let same : h.0 ≡ v = some-injective h.0 v (sym h.1 ∙ (ap (get_elem? s.views) here ∙ at)) in
              let has : HasAccount k (maker_after v) = ⊎_elim (λ (x : (v.passes ≡ true) × (v.number ≡ k)). off (sym m.2 ∙ x.0))
              (λ (x : (i : ℕ) × (a : Account) × (get_elem? v.others i ≡ some a) × (a.number ≡ k)). inr x) (subst (λ (u : View). HasAccount k u) same h.2) in
              (maker_after v, ap (get_elem? (was ++ made_pass v ∷ [])) (stays k below ∙ here) ∙ at_longer was (made_pass v ∷ []) id (maker_after v) (set_at s.views id v (maker_after v) at), has))
              (λ apart. (h.0, ap (get_elem? (was ++ made_pass v ∷ [])) (stays k below) ∙ at_longer was (made_pass v ∷ []) (r.seat k) h.0 (set_else s.views id (r.seat k) (maker_after v) apart ∙ h.1), h.2)));
        };
        framed = record {
          sums = λ k. let one = total_set (fixed_in k) s.views id v (maker_after v) at in let two = total_new (fixed_in k) was (made_pass v) in let a = r.framed.sums k in omega (arith, one, two, a);
          homes = r.framed.homes;
        };
        rested = r.rested;
        words = words_of r.h r.accounts s.views (was ++ made_pass v ∷ []) (λ c all. numbers_set c s.views id v (maker_after v) at refl (numbers_new c was (made_pass v) all)) r.words;
        each = each_new K s.views id (maker_after v) (made_pass v) left right others;
        whole = let one = total_set parts_of s.views id v (maker_after v) at in let two = total_new parts_of was (made_pass v) in let three = r.whole in omega (arith, one, two, three, some_part);
      }

  -- Join: a pass takes in a view that has no turn, no open fix and no call under way, with its accounts.
  pub joins : (id : ℕ) (v : View) (other : ℕ) (w : View) → v.passes ≡ true → v.turn ≡ false → w.turn ≡ false → IsOver w.mine → Joins {S = Slot D} (Kept seen start) id v other w (joined v w) nobody
  joins id v other w pass free idle over s r at apart there =
      let f = r.each id v at in let own = f.keeps.passes pass in let t : ℕ = get_or s.words 1 0 in let both = joined v w in
      let back : get_elem? s.views other ≡ some w = sym (set_else s.views id other both apart) ∙ there in
      let g = r.each other w back in
      let seat' : ℕ → ℕ = seat_moved r.seat other id in
      let K : ℕ → View → Type 0 = Fits r.known r.h r.frames t r.next r.maker r.accounts seat' in
      let stays : (j : ℕ) (a : Account) → j ≢ other → IsTrueAccount r.known r.next r.accounts r.seat j a → IsTrueAccount r.known r.next r.accounts seat' j a = λ j a n x.
      account_moved r.known r.next r.next r.accounts r.seat seat' j j a (le_refl r.next) (λ e. seat_moved-else r.seat other id a.number j e n) x in
      let comes : (a : Account) → IsTrueAccount r.known r.next r.accounts r.seat other a → IsTrueAccount r.known r.next r.accounts seat' id a = λ a x.
      account_moved r.known r.next r.next r.accounts r.seat seat' other id a (le_refl r.next) (λ e. seat_moved-here r.seat other id a.number e) x in
      let others : (j : ℕ) (u : View) → j ≢ id → j ≢ other → get_elem? s.views j ≡ some u → K j u = λ j u n m e. let b = r.each j u e in record {
        knows = b.knows;
        keeps = record {
          makes = b.keeps.makes;
          passes = λ a. let x = b.keeps.passes a in (x.0, stays j (account_of u) m x.1);
          unnamed = b.keeps.unnamed;
          others = λ i a e. let x = b.keeps.others i a e in (stays j a m x.0, x.1, x.2);
          idle = b.keeps.idle;
          apart = b.keeps.apart;
        };
        fixes = b.fixes;
        bare = b.bare;
      } in
      let here : K id both = record {
        knows = record { seen = longer_end r.h v.seen w.seen (nat_le (length v.seen) (length w.seen)) f.knows.seen g.knows.seen; turn = λ a. off (sym free ∙ a) };
        keeps = record {
          makes = λ a. off (sym (f.keeps.makes a).2 ∙ pass);
          passes = λ _. (let p = own.0 in omega (arith, p), stays id (account_of v) (λ e. apart (sym e)) own.1);
          unnamed = f.keeps.unnamed;
          others = λ i a e. ⊎_elim
              (λ (is : get_elem? v.others i ≡ some a). let x = f.keeps.others i a is in (stays id a (λ e. apart (sym e)) x.0, x.1, x.2))
              (λ (is : (k : ℕ) × (get_elem? (accounts_if w.passes w) k ≡ some a)). let x = brought r.known r.h r.frames t r.next r.maker r.accounts r.seat other w g over w.passes refl is.0 a is.1 in
              (comes a x.0, x.1, (λ _ same. apart (sym x.0.kept_by ∙ (ap r.seat same ∙ own.1.kept_by)))))
              (at_append v.others (accounts_if w.passes w) a i e);
          idle = λ z. let p = own.0 in absurd (omega (arith, z, p));
          apart = distinct_both v.others (accounts_if w.passes w) f.keeps.apart (brought_apart r.known r.h r.frames t r.next r.maker r.accounts r.seat other w g w.passes refl)
              (λ i k a b first second same. let x = (f.keeps.others i a first).0 in let y = brought r.known r.h r.frames t r.next r.maker r.accounts r.seat other w g over w.passes refl k b second in
              apart (sym y.0.kept_by ∙ (ap r.seat same ∙ x.kept_by)));
        };
        fixes = f.fixes;
        bare = record {
          found = f.bare.found;
          numbers = ap (λ (l : List ℕ). l ++ w.numbers) f.bare.numbers ∙ g.bare.numbers;
          visits = f.bare.visits;
          latches = f.bare.latches;
          lifted = f.bare.lifted;
          claimed = f.bare.claimed;
          unpublished = f.bare.unpublished;
        };
      } in
      let views : List View = set (set s.views id both) other nobody in
      let unmoved : (k j : ℕ) (u : View) → r.seat k ≡ j → j ≢ id → j ≢ other → get_elem? s.views j ≡ some u → get_elem? views (seat' k) ≡ some u = λ k j u is n m e.
      ap (get_elem? views) (seat_moved-else r.seat other id k j is m) ∙ (set_else (set s.views id both) other j nobody m ∙ (set_else s.views id j both n ∙ e)) in
      let at_id : get_elem? views id ≡ some both = set_else (set s.views id both) other id nobody (λ e. apart (sym e)) ∙ set_at s.views id v both at in record {
        h = r.h;
        frames = r.frames;
        known = r.known;
        of_log = r.of_log;
        next = r.next;
        maker = r.maker;
        accounts = r.accounts;
        seat = seat';
        turns = record {
          wide = r.turns.wide;
          deep = r.turns.deep;
          mark_is = r.turns.mark_is;
          free = r.turns.free;
          held = λ k is. let h = r.turns.held k is in
              let not_other : r.seat k ≢ other = λ e. let same : w ≡ h.0 = some-injective w h.0 (sym back ∙ (ap (get_elem? s.views) (sym e) ∙ h.1)) in off (sym idle ∙ (ap (λ (u : View). u.turn) same ∙ h.2)) in
              let not_id : r.seat k ≢ id = λ e. let same : v ≡ h.0 = some-injective v h.0 (sym at ∙ (ap (get_elem? s.views) (sym e) ∙ h.1)) in off (sym free ∙ (ap (λ (u : View). u.turn) same ∙ h.2)) in
              (h.0, unmoved k (r.seat k) h.0 refl not_id not_other h.1, h.2);
        };
        laws = record {
          so_far = r.laws.so_far;
          ended = r.laws.ended;
          closed = r.laws.closed;
          ours = r.laws.ours;
          later = r.laws.later;
          owned = λ k lt. let h = r.laws.owned k lt in dite (ℕ_discrete (r.seat k) other)
              (λ e. let same : h.0 ≡ w = some-injective h.0 w (sym h.1 ∙ (ap (get_elem? s.views) e ∙ back)) in
              let b = brought_has k w w.passes refl (subst (λ (u : View). HasAccount k u) same h.2) in let i = in_second v.others (accounts_if w.passes w) b.1 b.0 b.2 in
              (both, ap (get_elem? views) (seat_moved-here r.seat other id k e) ∙ at_id, inr (i.0, b.1, i.1, b.3)))
              (λ m. dite (ℕ_discrete (r.seat k) id)
              (λ e. let same : h.0 ≡ v = some-injective h.0 v (sym h.1 ∙ (ap (get_elem? s.views) e ∙ at)) in
              let has : HasAccount k both = ⊎_elim (λ (x : (v.passes ≡ true) × (v.number ≡ k)). inl x)
              (λ (x : (i : ℕ) × (a : Account) × (get_elem? v.others i ≡ some a) × (a.number ≡ k)). inr (x.0, x.1, in_first v.others (accounts_if w.passes w) x.1 x.0 x.2, x.3)) (subst (λ (u : View). HasAccount k u) same h.2) in
              (both, ap (get_elem? views) (seat_moved-else r.seat other id k id e (λ e. apart (sym e))) ∙ at_id, has))
              (λ n. (h.0, unmoved k (r.seat k) h.0 refl n m h.1, h.2)));
        };
        framed = record {
          sums = λ k. let one = total_set (fixed_in k) s.views id v both at in let two = total_set (fixed_in k) (set s.views id both) other w nobody there in
              let zero' : fixed_in k w ≡ 0 = ap (λ (held : List trails.Held). fixes_in held k) over.unfixed in let a = r.framed.sums k in omega (arith, one, two, zero', a);
          homes = r.framed.homes;
        };
        rested = r.rested;
        words = words_of r.h r.accounts s.views views (λ c. numbers_joined c s.views id other v w both nobody at back (λ e. apart (sym e)) refl) r.words;
        each = each_two K s.views id other both nobody here (nobody_fits r.known r.h r.frames t r.next r.maker r.accounts seat' other) others;
        whole = let one = total_set parts_of s.views id v both at in let two = total_set parts_of (set s.views id both) other w nobody there in let three = r.whole in omega (arith, one, two, three);
      }
