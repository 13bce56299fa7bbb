-- Each step on a word keeps the rule.
use Rattle.std.proofs.Common.{◌≡◌, ◌≢◌, inl, ⊎_elim, ℕ, ◌+◌, ◌*◌, ◌<◌, ◌≤◌, eqb, true, List, [], ◌∷◌, ◌++◌, Option, None, Some, set, get_or, refl, sym, ap, ◌∙◌, subst, arith, append_assoc, length-set, get_or-set_other, get_or-set_same, eq-eqb, ne_eqb}
use lib.Seq.{set-get_or}
use mathlib.Core.Option.{some, none, some-injective}
use mathlib.Core.Logic.{dite}
use native.Mathlib.Decide.{ℕ_discrete}
use lib.ListN.{get_elem?}
use prog.Atomic.{either}
use Rattle.atomic_table.specs.Table.{State, Me, step, keeps, takes, gives, stepped, rest, Allows}
use Rattle.atomic_table.proofs.Lists.{set_else, set_here}
use Rattle.page_ids.specs.declared.limits.TheConstants.{MOST_FIXES}
use Rattle.redo_log.specs.Passes.{Known}
use Rattle.trail.specs.declared.event.Entry.{Entry}
use Rattle.trail.specs.declared.event.Event.{Event}
use Rattle.trail.specs.declared.event.Held as trails
use Rattle.trail.specs.Calls.{held_after}
use Rattle.trail.specs.History.{home}
use Rattle.trail.specs.Trails.{AreNumbered, caller_of, mark}
use Rattle.trail_laws.specs.Accounts.{IsAccount, with_event}
use Rattle.trail_laws.specs.Ending.{AreEndedSoFar, FollowsNewest}
use Rattle.trail_laws.specs.SoFar.{IsLawfulSoFar}
use Rattle.frame_words.specs.Plain.{Plain}
use Rattle.pool_table.specs.declared.view.Account.{Account}
use Rattle.pool_table.specs.declared.view.Slot.{Slot}
use Rattle.pool_table.specs.declared.view.Slot.TheVariants as slot
use Rattle.pool_table.specs.declared.view.View.{View}
use Rattle.pool_table.specs.Seen.{DeskSeen}
use Rattle.pool_table.specs.Views.{account_of, fixes_of, looked, with_turn, without_turn}
use Rattle.pool_table.specs.Frames.{AreOpen, AreFramesAtRest, AreSettled, AreSized, IsOfHome, counted, row_of}
use Rattle.pool_table.specs.Ours.{AreOurEntries, AreOurs}
use Rattle.pool_table.specs.Kept.{parts_of, fixed_in, AreClosed, AreTrueSoFar, IsLoggedEvent, IsTrueAccount, Fits, HasAccount, IsAtHome, IsNewestOf, IsRested, Kept}
use Rattle.pool_table.specs.Logged.{HasGone, KnowsMore}
use Rattle.pool_table.specs.Steps.{MayShow}
use Rattle.pool_table.specs.Told.{IsTaken, tells_give, tells_look, tells_take}
use Rattle.pool_table.proofs.Lists.{set_at, each_set, total_set, total_same, total_one}
use Rattle.pool_table.proofs.Alone.{words_set}
use Rattle.pool_table.proofs.Bounds.{few_counted}
use Rattle.pool_table.proofs.Closing.{given_rests}
use Rattle.pool_table.proofs.Fixes.{open_on}
use Rattle.pool_table.proofs.Events.{off, gone_on, has_gone, with_here, with_else, logged_on}

pub in_hand : {A : Type 0} (l : List (ℕ × A)) (x : ℕ × A) (r : List (ℕ × A)) → l ≡ x ∷ r → l ≡ x ∷ rest l
in_hand l x r e = e ∙ ap (λ k. x ∷ rest k) (sym e)

abbrev pub Holder : ℕ → (ℕ → ℕ) → List View → Type 0
Holder t seat views = (k : ℕ) → t ≡ k + 1 → (v : View) × (get_elem? views (seat k) ≡ some v) × (v.turn ≡ true)

abbrev pub Owners : ℕ → (ℕ → ℕ) → List View → Type 0
Owners next seat views = (k : ℕ) → k < next → (v : View) × (get_elem? views (seat k) ≡ some v) × HasAccount k v

-- the holder still holds, where the changed view keeps its turn
pub held_set : (t : ℕ) (seat : ℕ → ℕ) (views : List View) (id : ℕ) (v w : View) → get_elem? views id ≡ some v → w.turn ≡ v.turn → Holder t seat views → Holder t seat (set views id w)
held_set t seat views id v w at same holder k is = let h = holder k is in dite (ℕ_discrete (seat k) id)
    (λ e. let here : v ≡ h.0 = some-injective v h.0 (sym at ∙ (ap (get_elem? views) (sym e) ∙ h.1)) in
    (w, subst (λ (j : ℕ). get_elem? (set views id w) j ≡ some w) (sym e) (set_at views id v w at), same ∙ (ap (λ (u : View). u.turn) here ∙ h.2)))
    (λ n. (h.0, set_else views id (seat k) w n ∙ h.1, h.2))

-- and each account still is at its seat, where the changed view keeps its accounts
pub owned_set : (next : ℕ) (seat : ℕ → ℕ) (views : List View) (id : ℕ) (v w : View) → get_elem? views id ≡ some v → ((k : ℕ) → HasAccount k v → HasAccount k w) → Owners next seat views → Owners next seat (set views id w)
owned_set next seat views id v w at same owned k below = let h = owned k below in dite (ℕ_discrete (seat k) id)
    (λ e. let here : h.0 ≡ v = some-injective h.0 v (sym h.1 ∙ (ap (get_elem? views) e ∙ at)) in
    (w, subst (λ (j : ℕ). get_elem? (set views id w) j ≡ some w) (sym e) (set_at views id v w at), same k (subst (λ (u : View). HasAccount k u) here h.2)))
    (λ n. (h.0, set_else views id (seat k) w n ∙ h.1, h.2))

-- the turn is had by one view
pub one_turn : (known : Known) (h : List Entry) (frames : Plain) (t next maker : ℕ) (accounts : ℕ → List Event) (seat : ℕ → ℕ) (i j : ℕ) (v w : View) → Fits known h frames t next maker accounts seat i v
    → Fits known h frames t next maker accounts seat j w → v.turn ≡ true → w.turn ≡ true → i ≡ j
one_turn known h frames t next maker accounts seat i j v w f g a b =
    let x = f.knows.turn a in let y = g.knows.turn b in
    let n : v.number ≡ w.number = omega (arith, x.1, y.1) in
    sym (f.keeps.passes x.0).1.kept_by ∙ (ap seat n ∙ (g.keeps.passes y.0).1.kept_by)

-- an account of another caller stays the truth behind an event
pub account_on : (known k : Known) (next : ℕ) (accounts : ℕ → List Event) (seat : ℕ → ℕ) (j : ℕ) (x : Event) (a : Account) → HasGone known k → a.number ≢ caller_of x → IsTrueAccount known next accounts seat j a
    → IsTrueAccount k next (with_event x accounts) seat j a
account_on known k next accounts seat j x a on n is =
    record { kept_by = is.kept_by; below = is.below; events = with_else x accounts a.number n ∙ is.events; redo = gone_on a.redo known k is.redo on; logged = is.logged }

-- a view with the same turn, accounts and fixes, that has seen a part of the history
pub still_fits : (known : Known) (h : List Entry) (frames : Plain) (t next maker : ℕ) (accounts : ℕ → List Event) (seat : ℕ → ℕ) (id : ℕ) (v : View) → Fits known h frames t next maker accounts seat id v
    → Fits known h frames t next maker accounts seat id (looked v h)
still_fits known h frames t next maker accounts seat id v f = record {
  knows = record { seen = ([], refl); turn = λ a. let x = f.knows.turn a in (x.0, x.1, refl, x.3, x.4) };
  keeps = record { makes = f.keeps.makes; passes = f.keeps.passes; unnamed = f.keeps.unnamed; others = f.keeps.others; idle = f.keeps.idle; apart = f.keeps.apart };
  fixes = f.fixes;
  bare = record { found = f.bare.found; numbers = f.bare.numbers; visits = f.bare.visits; latches = f.bare.latches; lifted = f.bare.lifted; claimed = f.bare.claimed; unpublished = f.bare.unpublished };
}

module _ (D : Type 0) (seen : D → DeskSeen) (start : DeskSeen) where
  abbrev St : Type 0
  St = State (Slot D) View

  abbrev M : Type 0
  M = Me (Slot D) View

  abbrev turn : St → ℕ
  turn s = get_or s.words 1 0

  -- a step that changes no word, and gives a view with the same turn, parts, accounts and fixes
  unmoved : (s : St) (r : Kept seen start s) (i id : ℕ) (cs : List (ℕ × Slot D)) (v w : View) → get_elem? s.views id ≡ some v → w.parts ≡ v.parts → w.turn ≡ v.turn → w.numbers ≡ v.numbers → ((k : ℕ) → HasAccount k v → HasAccount k w)
      → ((f : ℕ) → fixed_in f w ≡ fixed_in f v) → Fits r.known r.h r.frames (turn s) r.next r.maker r.accounts r.seat id w → Kept seen start (stepped s i (get_or s.words i 0) id cs w keeps)
  unmoved s r i id cs v w at parts same numbers has fixed fits = subst (λ (ws : List ℕ). Kept seen start record { words = ws; homes = s.homes; views = set s.views id w }) (sym (set-get_or s.words i 0)) record {
    h = r.h;
    frames = r.frames;
    known = r.known;
    of_log = r.of_log;
    next = r.next;
    maker = r.maker;
    accounts = r.accounts;
    seat = r.seat;
    turns = record { wide = r.turns.wide; deep = r.turns.deep; mark_is = r.turns.mark_is; free = r.turns.free; held = held_set (turn s) r.seat s.views id v w at same r.turns.held };
    laws = record { so_far = r.laws.so_far; ended = r.laws.ended; closed = r.laws.closed; ours = r.laws.ours; later = r.laws.later; owned = owned_set r.next r.seat s.views id v w at has r.laws.owned };
    framed = record { sums = λ f. r.framed.sums f ∙ sym (total_same (fixed_in f) s.views id v w at (fixed f)); homes = r.framed.homes };
    rested = r.rested;
    words = words_set r.h r.accounts s.views id v w at numbers r.words;
    each = each_set (Fits r.known r.h r.frames (turn s) r.next r.maker r.accounts r.seat) s.views id w fits (λ j u _. r.each j u);
    whole = total_same parts_of s.views id v w at parts ∙ r.whole;
  }

  -- Load the mark: the view has seen the history so far.
  pub looks : (slots id : ℕ) (me : M) → Allows (Kept seen start) slots id me 0 (λ n. n) (tells_look start.opening.first (step slots 0 0 0 none) me)
  looks slots id me s r _ at _ = let v : View = me.0 in let f = r.each id v at in (
    looked v r.h,
    keeps,
    tt,
    unmoved s r 0 id me.1 v (looked v r.h) at refl refl refl (λ k has. has) (λ k. refl) (still_fits r.known r.h r.frames (turn s) r.next r.maker r.accounts r.seat id v f),
    (r.h, f.knows.seen.0, refl, f.knows.seen.1, r.turns.mark_is),
  )

  -- the account of a pass that knows all that is known of the log
  account_with : (known : Known) (next : ℕ) (accounts : ℕ → List Event) (seat : ℕ → ℕ) (j : ℕ) (v : View) (k : Known) → IsTrueAccount known next accounts seat j (account_of v) → k ≡ known
      → IsTrueAccount known next accounts seat j (record { number = v.number; mine = v.mine; redo = Some k })
  account_with known next accounts seat j v k is same = record {
    kept_by = is.kept_by;
    below = is.below;
    events = is.events;
    redo = subst (λ (x : Known). HasGone x known) (sym same) (has_gone known);
    logged = logged_on v.redo (Some k) v.mine (subst (λ (x : Known). KnowsMore v.redo (Some x)) (sym same) is.redo) is.logged;
  }

  -- The turn was free.
  takes_free : (s : St) (r : Kept seen start s) (id : ℕ) (cs : List (ℕ × Slot D)) (v : View) (new : ℕ) (d : D) → get_elem? s.views id ≡ some v → v.passes ≡ true → new ≡ v.number + 1 → turn s ≡ 0
      → IsAtHome start (seen d) r.h r.frames r.known → Kept seen start (stepped s 1 new id cs (with_turn v (seen d)) (takes 0 (slot.Desk d)))
  takes_free s r id cs v new d at pass is free home =
      let f = r.each id v at in let own = f.keeps.passes pass in let wide = r.turns.wide in let w = with_turn v (seen d) in
      let now : get_or (set s.words 1 new) 1 0 ≡ new = get_or-set_same s.words 1 new 0 (omega (arith, wide)) in
      let K : ℕ → ℕ → View → Type 0 = λ t. Fits r.known r.h r.frames t r.next r.maker r.accounts r.seat in
      let others : (j : ℕ) (u : View) → j ≢ id → get_elem? s.views j ≡ some u → K new j u = λ j u n there. let g = r.each j u there in record {
        knows = record { seen = g.knows.seen; turn = λ a. let x = (g.knows.turn a).1 in absurd (omega (arith, x, free)) };
        keeps = g.keeps;
        fixes = g.fixes;
        bare = g.bare;
      } in
      let here : K new id w = record {
        knows = record { seen = ([], sym home.history); turn = λ _. (pass, is, home.history, ap Some home.frames_are, ap Some home.known_is) };
        keeps = record { makes = f.keeps.makes; passes = λ _. (own.0, account_with r.known r.next r.accounts r.seat id v (seen d).known own.1 home.known_is); unnamed = f.keeps.unnamed; others = f.keeps.others; idle = f.keeps.idle; apart = f.keeps.apart };
        fixes = f.fixes;
        bare = record { found = f.bare.found; numbers = f.bare.numbers; visits = f.bare.visits; latches = f.bare.latches; lifted = f.bare.lifted; claimed = f.bare.claimed; unpublished = f.bare.unpublished };
      } in record {
        h = r.h;
        frames = r.frames;
        known = r.known;
        of_log = r.of_log;
        next = r.next;
        maker = r.maker;
        accounts = r.accounts;
        seat = r.seat;
        turns = record {
          wide = let n = length-set s.words 1 new in omega (arith, n, wide);
          deep = let n = length-set s.homes 0 none in let d = r.turns.deep in omega (arith, n, d);
          mark_is = get_or-set_other s.words 1 0 new 0 (λ h. omega (arith, h)) ∙ r.turns.mark_is;
          free = λ z. absurd (omega (arith, z, now, is));
          held = λ k e. let number : v.number ≡ k = omega (arith, e, now, is) in (w, subst (λ (j : ℕ). get_elem? (set s.views id w) j ≡ some w) (sym own.1.kept_by ∙ ap r.seat number) (set_at s.views id v w at), refl);
        };
        laws = record { so_far = r.laws.so_far; ended = r.laws.ended; closed = r.laws.closed; ours = r.laws.ours; later = r.laws.later; owned = owned_set r.next r.seat s.views id v w at (λ k has. has) r.laws.owned };
        framed = record { sums = λ f. r.framed.sums f ∙ sym (total_same (fixed_in f) s.views id v w at refl); homes = r.framed.homes };
        rested = inl (⊎_elim (λ (x : FollowsNewest r.accounts None r.h). x) (λ (z : (k : ℕ) × (turn s ≡ k + 1) × IsNewestOf k r.h). let at = z.1 in absurd (omega (arith, at, free))) r.rested);
        words = words_set r.h r.accounts s.views id v w at refl r.words;
        each = subst (λ (t : ℕ). (j : ℕ) (u : View) → get_elem? (set s.views id w) j ≡ some u → K t j u) (sym now) (each_set (K new) s.views id w here others);
        whole = total_same parts_of s.views id v w at refl ∙ r.whole;
      }

  -- What the desk tells who takes the turn.
  taken : (s : St) (r : Kept seen start s) (id : ℕ) (v : View) (d : DeskSeen) → get_elem? s.views id ≡ some v → v.passes ≡ true → IsAtHome start d r.h r.frames r.known → IsTaken start d v
  taken s r id v d at pass home =
      let f = r.each id v at in let own = (f.keeps.passes pass).1 in let places = r.laws.so_far.places in
      record {
        more = f.knows.seen.0;
        grown = home.history ∙ f.knows.seen.1;
        home = record {
          history = refl;
          frames_are = refl;
          opening = home.opening;
          instance = home.instance;
          pages = home.pages;
          known_is = refl;
          rest = subst AreFramesAtRest (sym home.frames_are) home.rest;
          settled = subst (λ (y : List Entry × Plain). AreSettled y.0 y.1) (λ i. (sym home.history i, sym home.frames_are i)) home.settled;
          sized = subst (λ (y : List Entry × Plain). AreSized start.opening.config y.0 y.1) (λ i. (sym home.history i, sym home.frames_are i)) home.sized;
        };
        log = ap (λ (x : Known). x.log) home.known_is ∙ r.of_log;
        redo = subst (λ (x : Known). KnowsMore v.redo (Some x)) (sym home.known_is) own.redo;
        frames = λ n. subst (λ (y : List Entry × Plain). IsOfHome start.opening y.0 (row_of y.1 n) n) (λ i. (sym home.history i, sym home.frames_are i)) (r.framed.homes n);
        fixes = subst (λ (y : List Entry × Plain). AreOpen y.0 y.1 (fixes_of v)) (λ i. (sym home.history i, sym home.frames_are i)) f.fixes;
        few = λ n. subst (λ (x : Plain). counted x n ≤ MOST_FIXES * 64) (sym home.frames_are) (few_counted D seen start s r n);
        numbered = subst (AreNumbered start.opening.first) (sym home.history) places.numbered;
        account = subst (λ (y : List Entry × List Event). IsAccount start.opening.first y.0 v.number y.1) (λ i. (sym home.history i, own.events i)) (places.each v.number);
        ours = subst (AreOurEntries start) (sym home.history) r.laws.ours.entries;
      }

  -- Take the turn: where it was free it is this pass's, with the desk; else all is as it was.
  pub takes_turn : (slots id : ℕ) (me : M) (new : ℕ) → me.0.passes ≡ true → new ≡ me.0.number + 1 → Allows (Kept seen start) slots id me 1 (λ n. either (eqb n 0) new n) (tells_take seen start (step slots 1 0 new none) me)
  takes_turn slots id me new pass is s r _ at _ = let v : View = me.0 in let x : ℕ = turn s in let f = r.each id v at in dite (ℕ_discrete x 0)
      (λ hit. let d = r.turns.free hit in (
        with_turn v (seen d.0),
        takes 0 (slot.Desk d.0),
        d.1,
        subst (λ b. Kept seen start (stepped s 1 (either b new x) id me.1 (with_turn v (seen d.0)) (takes 0 (slot.Desk d.0)))) (sym (eq-eqb x 0 hit)) (takes_free s r id me.1 v new d.0 at pass is hit d.2),
        ((λ _. (d.0, refl, taken s r id v (seen d.0) at pass d.2)), (λ n. absurd (n hit))),
      ))
      (λ miss. (
        v,
        keeps,
        tt,
        subst (λ b. Kept seen start (stepped s 1 (either b new x) id me.1 v keeps)) (sym (ne_eqb x 0 miss)) (unmoved s r 1 id me.1 v v at refl refl refl (λ k has. has) (λ k. refl) f),
        ((λ z. absurd (miss z)), (λ _. refl)),
      ))

  -- the fixes of the others stay open where the holder of the turn shows other frames
  others_open : (s : St) (r : Kept seen start s) (h' : List Entry) (g : Plain) (was now : List trails.Held) (j : ℕ) (u : View) → get_elem? s.views j ≡ some u → MayShow start.opening r.h h' r.frames g was now → AreOpen h' g (fixes_of u)
  others_open s r h' g was now j u there show = open_on r.h h' r.frames g (fixes_of u)
      (λ p f is some here. show.stays p f is (let one = total_one (fixed_in f) s.views j u there in let sum = r.framed.sums f in omega (arith, some, one, sum)) here) (r.each j u there).fixes

  -- An event of the pass that has the turn, an entry or a receipt.
  pub evented : (s : St) (r : Kept seen start s) (id : ℕ) (cs : List (ℕ × Slot D)) (v : View) (x : Event) (h' more : List Entry) (old g : Plain) (k : Known) (new : ℕ) → get_elem? s.views id ≡ some v → v.turn ≡ true
      → v.frames ≡ Some old → caller_of x ≡ v.number → h' ≡ more ++ v.seen → new ≡ mark start.opening.first h' → IsLawfulSoFar start.opening start.pages h' (with_event x r.accounts)
      → AreTrueSoFar h' (with_event x r.accounts) s.views → AreOurs start h' (with_event x r.accounts) → AreClosed (with_event x r.accounts) → MayShow start.opening v.seen h' old g (fixes_of v) (held_after x (fixes_of v)) → KnowsMore v.redo (Some k) → IsLoggedEvent (Some k) x
      → AreEndedSoFar (with_event x r.accounts) h' → IsRested (with_event x r.accounts) h' (turn s)
      → Kept seen start (stepped s 0 new id cs (record v { seen = h'; mine = x ∷ v.mine; frames = Some g; redo = Some k }) keeps)
  evented s r id cs v x h' more old g k new at has framed by longer marked so words ours closed show0 knows logged ended rested =
      let f = r.each id v at in let mine = f.knows.turn has in let own = f.keeps.passes mine.0 in let wide = r.turns.wide in
      let w : View = record v { seen = h'; mine = x ∷ v.mine; frames = Some g; redo = Some k } in
      let on : HasGone r.known k = subst (λ (o : Option Known). KnowsMore o (Some k)) mine.4 knows in
      let olds : old ≡ r.frames = let e : Some old ≡ Some r.frames = sym framed ∙ mine.3 in cc in
      let show : MayShow start.opening r.h h' r.frames g (fixes_of v) (held_after x (fixes_of v)) =
      subst (λ (y : List Entry × Plain). MayShow start.opening y.0 h' y.1 g (fixes_of v) (held_after x (fixes_of v))) (λ i. (mine.2 i, olds i)) show0 in
      let long : h' ≡ more ++ r.h = longer ∙ ap (λ (l : List Entry). more ++ l) mine.2 in
      let accounts : ℕ → List Event = with_event x r.accounts in
      let t : ℕ = turn s in
      let is : t ≡ v.number + 1 = mine.1 in
      let same : get_or (set s.words 0 new) 1 0 ≡ t = get_or-set_other s.words 0 1 new 0 (λ h. omega (arith, h)) in
      let K : ℕ → ℕ → View → Type 0 = λ t. Fits k h' g t r.next r.maker accounts r.seat in
      let foreign : (j : ℕ) (a : Account) → j ≢ id → IsTrueAccount r.known r.next r.accounts r.seat j a → IsTrueAccount k r.next accounts r.seat j a = λ j a n y.
      account_on r.known k r.next r.accounts r.seat j x a on (λ e. n (sym y.kept_by ∙ (ap r.seat (e ∙ by) ∙ own.1.kept_by))) y in
      let others : (j : ℕ) (u : View) → j ≢ id → get_elem? s.views j ≡ some u → K t j u = λ j u n there. let b = r.each j u there in record {
        knows = record {
          seen = let y = b.knows.seen in (more ++ y.0, long ∙ (ap (λ (l : List Entry). more ++ l) y.1 ∙ sym (append_assoc more y.0 u.seen)));
          turn = λ a. absurd (n (one_turn r.known r.h r.frames t r.next r.maker r.accounts r.seat j id u v b f a has));
        };
        keeps = record {
          makes = b.keeps.makes;
          passes = λ a. let y = b.keeps.passes a in (y.0, foreign j (account_of u) n y.1);
          unnamed = b.keeps.unnamed;
          others = λ i a e. let y = b.keeps.others i a e in (foreign j a n y.0, y.1, y.2);
          idle = b.keeps.idle;
          apart = b.keeps.apart;
        };
        fixes = others_open s r h' g (fixes_of v) (held_after x (fixes_of v)) j u there show;
        bare = b.bare;
      } in
      let here : K t id w = record {
        knows = record { seen = ([], refl); turn = λ _. (mine.0, is, refl, refl, refl) };
        keeps = record {
          makes = f.keeps.makes;
          passes = λ _. (
            own.0,
            record {
              kept_by = own.1.kept_by;
              below = own.1.below;
              events = with_here x r.accounts v.number by ∙ ap (λ (l : List Event). x ∷ l) own.1.events;
              redo = has_gone k;
              logged = (logged, logged_on v.redo (Some k) v.mine knows own.1.logged);
            },
          );
          unnamed = λ a. off (sym a ∙ mine.0);
          others = λ i a e. let y = f.keeps.others i a e in (account_on r.known k r.next r.accounts r.seat id x a on (λ e. y.2 mine.0 (e ∙ by)) y.0, y.1, y.2);
          idle = f.keeps.idle;
          apart = f.keeps.apart;
        };
        fixes = show.own;
        bare = record { found = f.bare.found; numbers = f.bare.numbers; visits = f.bare.visits; latches = f.bare.latches; lifted = f.bare.lifted; claimed = f.bare.claimed; unpublished = f.bare.unpublished };
      } in record {
        h = h';
        frames = g;
        known = k;
        of_log = on.log ∙ r.of_log;
        next = r.next;
        maker = r.maker;
        accounts = accounts;
        seat = r.seat;
        turns = record {
          wide = let n = length-set s.words 0 new in omega (arith, n, wide);
          deep = r.turns.deep;
          mark_is = get_or-set_same s.words 0 new 0 (omega (arith, wide)) ∙ marked;
          free = λ z. absurd (omega (arith, z, same, is));
          held = subst (λ (t : ℕ). Holder t r.seat (set s.views id w)) (sym same) (held_set t r.seat s.views id v w at refl r.turns.held);
        };
        laws = record {
          so_far = so;
          ended = ended;
          closed = closed;
          ours = ours;
          later = λ c le. with_else x r.accounts c (λ e. let below : v.number < r.next = own.1.below in omega (arith, e, by, le, below)) ∙ r.laws.later c le;
          owned = owned_set r.next r.seat s.views id v w at (λ k has. has) r.laws.owned;
        };
        framed = record {
          sums = λ f. let sum = total_set (fixed_in f) s.views id v w at in let a = r.framed.sums f in let b = show.sums f in omega (arith, sum, a, b);
          homes = show.homes;
        };
        rested = subst (λ (t : ℕ). IsRested accounts h' t) (sym same) rested;
        words = words_set h' accounts s.views id v w at refl words;
        each = subst (λ (t : ℕ). (j : ℕ) (u : View) → get_elem? (set s.views id w) j ≡ some u → K t j u) (sym same) (each_set (K t) s.views id w here others);
        whole = total_same parts_of s.views id v w at refl ∙ r.whole;
      }

  -- Give the turn back, with the desk, which tells the history that the pass knows.
  pub gives_turn : (slots id : ℕ) (me : M) (d : D) (old : Plain) → me.0.turn ≡ true → me.0.frames ≡ Some old → me.1 ≡ (0, slot.Desk d) ∷ rest me.1 → IsAtHome start (seen d) me.0.seen (seen d).frames (seen d).known → KnowsMore me.0.redo (Some (seen d).known)
      → (IsNewestOf me.0.number me.0.seen → FollowsNewest (λ c. me.0.mine) None me.0.seen)
      → MayShow start.opening me.0.seen me.0.seen old (seen d).frames (fixes_of me.0) (fixes_of me.0) → Allows (Kept seen start) slots id me 1 (λ _. 0) (λ _. tells_give (step slots 1 0 0 none) me 0)
  gives_turn slots id me d old has framed hand home knows rests show0 s r _ at _ =
      let v : View = me.0 in let f = r.each id v at in let mine = f.knows.turn has in let wide = r.turns.wide in let deep = r.turns.deep in
      let w = without_turn v in let g : Plain = (seen d).frames in let t : ℕ = turn s in
      let olds : old ≡ r.frames = let e : Some old ≡ Some r.frames = sym framed ∙ mine.3 in cc in
      let show : MayShow start.opening r.h r.h r.frames g (fixes_of v) (fixes_of v) =
      subst (λ (y : List Entry × Plain). MayShow start.opening y.0 y.0 y.1 g (fixes_of v) (fixes_of v)) (λ i. (mine.2 i, olds i)) show0 in
      let now : get_or (set s.words 1 0) 1 0 ≡ 0 = get_or-set_same s.words 1 0 0 (omega (arith, wide)) in
      let k : Known = (seen d).known in
      let on : HasGone r.known k = subst (λ (o : Option Known). KnowsMore o (Some k)) mine.4 knows in
      let further : (j : ℕ) (a : Account) → IsTrueAccount r.known r.next r.accounts r.seat j a → IsTrueAccount k r.next r.accounts r.seat j a = λ j a y.
      record { kept_by = y.kept_by; below = y.below; events = y.events; redo = gone_on a.redo r.known k y.redo on; logged = y.logged } in
      let K : ℕ → ℕ → View → Type 0 = λ t. Fits k r.h g t r.next r.maker r.accounts r.seat in
      let others : (j : ℕ) (u : View) → j ≢ id → get_elem? s.views j ≡ some u → K 0 j u = λ j u n there. let b = r.each j u there in record {
        knows = record { seen = b.knows.seen; turn = λ a. absurd (n (one_turn r.known r.h r.frames t r.next r.maker r.accounts r.seat j id u v b f a has)) };
        keeps = record {
          makes = b.keeps.makes;
          passes = λ a. let y = b.keeps.passes a in (y.0, further j (account_of u) y.1);
          unnamed = b.keeps.unnamed;
          others = λ i a e. let y = b.keeps.others i a e in (further j a y.0, y.1, y.2);
          idle = b.keeps.idle;
          apart = b.keeps.apart;
        };
        fixes = others_open s r r.h g (fixes_of v) (fixes_of v) j u there show;
        bare = b.bare;
      } in
      let here : K 0 id w = record {
        knows = record { seen = f.knows.seen; turn = λ a. off a };
        keeps = record {
          makes = f.keeps.makes;
          passes = λ a. let y = f.keeps.passes a in (y.0, further id (account_of v) y.1);
          unnamed = f.keeps.unnamed;
          others = λ i a e. let y = f.keeps.others i a e in (further id a y.0, y.1, y.2);
          idle = f.keeps.idle;
          apart = f.keeps.apart;
        };
        fixes = show.own;
        bare = record { found = f.bare.found; numbers = f.bare.numbers; visits = f.bare.visits; latches = f.bare.latches; lifted = f.bare.lifted; claimed = f.bare.claimed; unpublished = f.bare.unpublished };
      } in (
        w,
        gives,
        tt,
        subst (λ (c : List (ℕ × Slot D)). Kept seen start (stepped s 1 0 id c w gives)) (sym hand) record {
          h = r.h;
          frames = g;
          known = k;
          of_log = on.log ∙ r.of_log;
          next = r.next;
          maker = r.maker;
          accounts = r.accounts;
          seat = r.seat;
          turns = record {
            wide = let n = length-set s.words 1 0 in omega (arith, n, wide);
            deep = let n = length-set s.homes 0 (some (slot.Desk d)) in omega (arith, n, deep);
            mark_is = get_or-set_other s.words 1 0 0 0 (λ h. omega (arith, h)) ∙ r.turns.mark_is;
            free = λ _. (
              d,
              set_here s.homes 0 (some (slot.Desk d)) (omega (arith, deep)),
              record {
                history = home.history ∙ mine.2;
                frames_are = refl;
                opening = home.opening;
                instance = home.instance;
                pages = home.pages;
                known_is = refl;
                rest = home.rest;
                settled = subst (λ (l : List Entry). AreSettled l g) mine.2 home.settled;
                sized = subst (λ (l : List Entry). AreSized start.opening.config l g) mine.2 home.sized;
              },
            );
            held = λ k e. absurd (omega (arith, e, now));
          };
          laws = record { so_far = r.laws.so_far; ended = r.laws.ended; closed = r.laws.closed; ours = r.laws.ours; later = r.laws.later; owned = owned_set r.next r.seat s.views id v w at (λ k has. has) r.laws.owned };
          framed = record {
            sums = λ f. let sum = total_set (fixed_in f) s.views id v w at in let a = r.framed.sums f in let b = show.sums f in omega (arith, sum, a, b);
            homes = show.homes;
          };
          rested = inl (given_rests r.h r.accounts v.number v.mine t (f.keeps.passes mine.0).1.events mine.1 r.rested (subst (λ (l : List Entry). IsNewestOf v.number l → FollowsNewest (λ (c : ℕ). v.mine) None l) mine.2 rests));
          words = words_set r.h r.accounts s.views id v w at refl r.words;
          each = subst (λ (t : ℕ). (j : ℕ) (u : View) → get_elem? (set s.views id w) j ≡ some u → K t j u) (sym now) (each_set (K 0) s.views id w here others);
          whole = total_same parts_of s.views id v w at refl ∙ r.whole;
        },
        refl,
      )
