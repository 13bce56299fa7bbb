-- An entry and a receipt of the pass that has the turn keep the rule.
use Rattle.std.proofs.Common.{◌≡◌, ◌≢◌, ◌⊎◌, inr, ⊎_elim, ℕ, ◌+◌, ◌<◌, ◌≤◌, Bool, true, false, List, [], ◌∷◌, Option, None, Some, IfSome, refl, sym, ap, ◌∙◌, subst, arith, nat_lt, get_or}
use Rattle.std.proofs.lemmas.Bool.Decides.{nat_tests}
use Rattle.std.specs.List.{AllByRecursion}
use mathlib.Core.Option.{some, none}
use lib.ListN.{get_elem?}
use Rattle.atomic_table.specs.Table.{State, Me, step, keeps, Allows}
use Rattle.page_ids.specs.declared.ids.PageId.{PageId}
use Rattle.redo_log.specs.Passes.{Known}
use Rattle.trail.specs.declared.event.Entry.{Entry}
use Rattle.trail.specs.declared.event.Receipt.{Receipt}
use Rattle.trail.specs.declared.event.Event.{Event}
use Rattle.trail.specs.declared.event.Event.TheVariants as event
use Rattle.trail.specs.declared.event.Held as trails
use Rattle.trail.specs.declared.event.Kind.{Kind}
use Rattle.trail.specs.declared.event.Note.{Note}
use Rattle.trail.specs.Alone.{IsTrueOf, is_of_flush}
use Rattle.trail.specs.Calls.{held_after, newest_fix, open_fixes}
use Rattle.trail.specs.History.{home}
use Rattle.trail.specs.Kinds.{Placing, departure_in}
use Rattle.trail.specs.Trails.{caller_of, mark}
use Rattle.trail_laws.specs.Accounts.{event_place, seen_by, with_event}
use Rattle.trail_laws.specs.Adding.{IsCalling, MayAdd, MayNote, next_entry, next_note}
use Rattle.trail_laws.specs.SoFar.{AreAlone, IsFixedByNone, IsLawfulSoFar, IsTrueBy, is_of_clean}
use Rattle.trail_laws.specs.Ending.{AreEndedSoFar, FollowsNewest, below_newest}
use Rattle.trail_laws.proofs.Adding.{entry_added, note_added}
use Rattle.trail_laws.proofs.Following.{AreOthers, ended_entry, ended_note}
use Rattle.trail_laws.proofs.Places.{all_below, each_more, seen_next, seen_now}
use Rattle.frame_words.specs.Plain.{Plain}
use Rattle.pool_table.specs.declared.view.Account.{Account}
use Rattle.pool_table.specs.declared.view.Slot.{Slot}
use Rattle.pool_table.specs.declared.view.View.{View}
use Rattle.pool_table.specs.Seen.{DeskSeen}
use Rattle.pool_table.specs.Views.{appended, fixes_of, noted_in_turn}
use Rattle.pool_table.specs.Frames.{counted, fixes_in}
use Rattle.pool_table.specs.Ours.{AreOurs, IsOurKind}
use Rattle.pool_table.specs.Kept.{fixed_in, AreNumbersOf, AreTrueSoFar, IsLoggedEvent, IsNewestOf, IsRested, Kept}
use Rattle.pool_table.specs.Logged.{KnowsMore}
use Rattle.pool_table.specs.Steps.{IsFoundOn, MayLeave, MayMake, MayShow}
use Rattle.pool_table.specs.Told.{tells_append, tells_note_in_turn}
use Rattle.pool_table.proofs.Lists.{total_alone, total_one}
use Rattle.pool_table.proofs.Fixes.{unheld}
use Rattle.pool_table.proofs.Events.{closed_added, none_open, off, ours_added, some_more, with_here, with_else}
use Rattle.pool_table.proofs.Alone.{words_added}
use Rattle.pool_table.proofs.Closing.{entry_follows, note_rests}
use Rattle.pool_table.proofs.Keeps.{evented}

below_is : (m n : ℕ) → nat_lt m n ≡ true → m < n
below_is m n t = grind (arith, nat_tests)

above_is : (m n : ℕ) → nat_lt m n ≡ false → n ≤ m
above_is m n t = grind (arith, nat_tests)

-- What may be added to a history beside the caller's own account may be made, where its pages are of this instance and the frame of a page that leaves or moves has
-- no fix.
pub may_make : (start : DeskSeen) (h : List Entry) (frames : Plain) (accounts : ℕ → List Event) (c n : ℕ) (k : Kind) → MayAdd start.opening start.pages h accounts c n k → IsOurKind start k
    → IfSome (departure_in k) (λ (d : Placing). (home h d.page ≡ Some d.frame) × (counted frames d.frame ≡ 0)) → MayMake start h frames (accounts c) c n k
may_make start h frames accounts c n k may ours unfixed = record {
  together = may.together;
  before = may.before;
  kind = may.kind;
  covered = may.covered;
  causes = may.causes;
  victim = may.victim;
  withdrawal = may.withdrawal;
  spaces = may.spaces;
  ours = ours;
  unfixed = unfixed;
}

module _ (D : Type 0) (seen : D → DeskSeen) (start : DeskSeen) where
  abbrev St : Type 0
  St = State (Slot D) View

  abbrev M : Type 0
  M = Me (Slot D) View

  -- Nobody has fixed a page in whose frame no fix is counted.
  pub free_page : (s : St) (r : Kept seen start s) (p : PageId) (f : ℕ) → home r.h p ≡ Some f → counted r.frames f ≡ 0 → IsFixedByNone r.accounts p
  free_page s r p f is no_fix c = cases (nat_lt c r.next) refl
    where
      given : c < r.next → newest_fix (open_fixes (r.accounts c)) p ≡ None
      given below = let u = r.laws.owned c below in let b = r.each (r.seat c) u.0 u.1 in ⊎_elim
          (λ (t : (u.0.passes ≡ true) × (u.0.number ≡ c)).
          let mine : r.accounts c ≡ u.0.mine = ap r.accounts (sym t.1) ∙ (b.keeps.passes t.0).1.events in
          let one = total_one (fixed_in f) s.views (r.seat c) u.0 u.1 in let sum = r.framed.sums f in
          ap (λ (l : List Event). newest_fix (open_fixes l) p) mine ∙ unheld r.h r.frames (fixes_of u.0) p f b.fixes (omega (arith, one, sum, no_fix)) is)
          (λ (t : (i : ℕ) × (a : Account) × (get_elem? u.0.others i ≡ some a) × (a.number ≡ c)). let y = b.keeps.others t.0 t.1 t.2 in
          ap (λ (l : List Event). newest_fix (open_fixes l) p) (ap r.accounts (sym t.3) ∙ y.0.events) ∙ ap (λ (held : List trails.Held). newest_fix held p) y.1.unfixed)
          u.2

      cases : (b : Bool) → nat_lt c r.next ≡ b → newest_fix (open_fixes (r.accounts c)) p ≡ None
      cases true t = given (below_is c r.next t)
      cases false t = ap (λ (l : List Event). newest_fix (open_fixes l) p) (r.laws.later c (above_is c r.next t))

  -- Where a caller is alone nobody else has an open fix.
  others_none : (s : St) (r : Kept seen start s) (id : ℕ) (v : View) (c : ℕ) (flush : Option ℕ) (f : ℕ) → v.number ≡ c → r.seat v.number ≡ id → AreAlone c flush r.accounts
      → (j : ℕ) (u : View) → j ≢ id → get_elem? s.views j ≡ some u → fixed_in f u ≡ 0
  others_none s r id v c flush f is at alone j u n there = let b = r.each j u there in cases u.passes refl
    where
      no_fix : open_fixes u.mine ≡ [] → fixed_in f u ≡ 0
      no_fix e = ap (λ (held : List trails.Held). fixes_in held f) e

      cases : (b : Bool) → u.passes ≡ b → fixed_in f u ≡ 0
      cases true t = let a = ((r.each j u there).keeps.passes t).1 in
          let apart : u.number ≢ c = λ e. n (sym a.kept_by ∙ (ap r.seat (e ∙ sym is) ∙ at)) in
          no_fix (ap open_fixes (sym a.events) ∙ none_open c u.number flush (r.accounts u.number) apart (r.laws.so_far.places.each u.number).own (alone u.number))
      cases false t = no_fix (ap open_fixes ((r.each j u there).keeps.unnamed t))

  -- What an event of the pass that has the turn tells of words is true wherever a caller is alone.
  told_alone : (s : St) (r : Kept seen start s) (id : ℕ) (v : View) (x : Event) → get_elem? s.views id ≡ some v → v.turn ≡ true → caller_of x ≡ v.number → IsFoundOn r.h r.frames v.numbers x
      → (c : ℕ) (flush : Option ℕ) → AreAlone c flush (with_event x r.accounts) → AreNumbersOf c s.views → IsTrueBy c r.h (r.accounts (caller_of x)) x
  told_alone s r id v x at has by found c flush alone numbers =
      let b = r.each id v at in let own = (b.keeps.passes (b.knows.turn has).0).1 in
      let P : Event → Type 0 = λ e. ((is_of_flush flush e ≡ true) × (is_of_clean e ≡ true)) ⊎ (caller_of e ≡ c) in
      let mine : r.accounts (caller_of x) ≡ v.mine = ap r.accounts by ∙ own.events in
      let was : AreAlone c flush r.accounts = λ d. Rattle.pool_table.proofs.Events.tail_all P x r.accounts d (alone d) in
      record {
        own = λ is. subst (λ (l : List Event). IsTrueOf r.h (open_fixes l) x) (sym mine) (found.found (subst (λ (d : ℕ). AllByRecursion (λ (n : ℕ). n ≡ d) v.numbers) (sym is) (numbers id v at)) (fixes_of v) record {
          opened = b.fixes;
          sums = λ f. r.framed.sums f ∙ total_alone (fixed_in f) s.views id v at (others_none s r id v c flush f (sym by ∙ is) own.kept_by was);
        });
        other = λ n held. ⊎_elim (λ (t : (is_of_flush flush x ≡ true) × (is_of_clean x ≡ true)). found.clean t.1 held) (λ (e : caller_of x ≡ c). absurd (n e))
            (subst (AllByRecursion P) (with_here x r.accounts (caller_of x) refl) (alone (caller_of x))).0;
      }

  -- Append: the entry of the pass that has the turn comes in front.
  pub appends : (slots id : ℕ) (me : M) (n : ℕ) (pending : List Entry) (kind : Kind) (old g : Plain) (k : Known) → me.0.turn ≡ true → me.0.frames ≡ Some old → IsCalling me.0.mine n pending
      → MayMake start me.0.seen old me.0.mine me.0.number n kind → IsFoundOn me.0.seen old me.0.numbers (event.Entry (next_entry start.opening.first me.0.seen me.0.number n kind))
      → MayShow start.opening me.0.seen (next_entry start.opening.first me.0.seen me.0.number n kind ∷ me.0.seen) old g (fixes_of me.0)
      (held_after (event.Entry (next_entry start.opening.first me.0.seen me.0.number n kind)) (fixes_of me.0))
      → KnowsMore me.0.redo (Some k) → IsLoggedEvent (Some k) (event.Entry (next_entry start.opening.first me.0.seen me.0.number n kind))
      → AreOthers (event.Entry (next_entry start.opening.first me.0.seen me.0.number n kind)) (below_newest me.0.seen)
      → (IsNewestOf me.0.number me.0.seen → FollowsNewest (λ c. event.Entry (next_entry start.opening.first me.0.seen me.0.number n kind) ∷ me.0.mine) (Some (next_entry start.opening.first me.0.seen me.0.number n kind)) me.0.seen)
      → Allows (Kept seen start) slots id me 0 (λ _. mark start.opening.first me.0.seen + 1)
      (λ _. tells_append (next_entry start.opening.first me.0.seen me.0.number n kind) g k (step slots 0 (mark start.opening.first me.0.seen + 1) 0 none) me (mark start.opening.first me.0.seen + 1))
  appends slots id me n pending kind old g k has framed calling may found show knows logged others follows s r _ at _ =
      let v : View = me.0 in let o = start.opening in let b = r.each id v at in let mine = b.knows.turn has in let own = (b.keeps.passes mine.0).1 in
      let e : Entry = next_entry o.first v.seen v.number n kind in
      let x : Event = event.Entry e in
      let olds : old ≡ r.frames = let e : Some old ≡ Some r.frames = sym framed ∙ mine.3 in cc in
      let so : IsLawfulSoFar o start.pages v.seen r.accounts = subst (λ (l : List Entry). IsLawfulSoFar o start.pages l r.accounts) (sym mine.2) r.laws.so_far in
      let words : AreTrueSoFar v.seen r.accounts s.views = subst (λ (l : List Entry). AreTrueSoFar l r.accounts s.views) (sym mine.2) r.words in
      let ours : AreOurs start v.seen r.accounts = subst (λ (l : List Entry). AreOurs start l r.accounts) (sym mine.2) r.laws.ours in
      let ended : AreEndedSoFar r.accounts v.seen = subst (AreEndedSoFar r.accounts) (sym mine.2) r.laws.ended in
      let rested : IsRested r.accounts v.seen (get_or s.words 1 0) = subst (λ (l : List Entry). IsRested r.accounts l (get_or s.words 1 0)) (sym mine.2) r.rested in
      let found' : IsFoundOn r.h r.frames v.numbers x = subst (λ (y : List Entry × Plain). IsFoundOn y.0 y.1 v.numbers x) (λ i. (mine.2 i, olds i)) found in
      let may' : MayMake start v.seen old (r.accounts v.number) v.number n kind = subst (λ (l : List Event). MayMake start v.seen old l v.number n kind) (sym own.events) may in
      let below : (d : ℕ) → AllByRecursion (λ y. event_place y < e.place) (r.accounts d) = λ d. all_below (mark o.first v.seen) e.place (r.accounts d) (omega arith) (so.places.each d).falling in
      let added : MayAdd o start.pages v.seen r.accounts v.number n kind = record {
        together = may'.together;
        before = may'.before;
        kind = may'.kind;
        still = some_more (departure_in kind) (λ (d : Placing). (home v.seen d.page ≡ Some d.frame) × (counted old d.frame ≡ 0)) (λ (d : Placing). IsFixedByNone r.accounts d.page)
            (λ d t. free_page s r d.page d.frame (ap (λ (l : List Entry). home l d.page) (sym mine.2) ∙ t.0) (ap (λ (l : Plain). counted l d.frame) (sym olds) ∙ t.1)) may'.unfixed;
        covered = may'.covered;
        causes = may'.causes;
        victim = may'.victim;
        withdrawal = may'.withdrawal;
        spaces = may'.spaces;
      } in
      let so' : IsLawfulSoFar o start.pages (e ∷ v.seen) (with_event x r.accounts) =
      entry_added o start.pages v.seen r.accounts v.number n pending kind so (subst (λ (l : List Event). IsCalling l n pending) (sym own.events) calling) added in
      let tell : (c : ℕ) (flush : Option ℕ) → AreAlone c flush (with_event x r.accounts) → AreNumbersOf c s.views → IsTrueBy c (seen_by x (e ∷ v.seen)) (r.accounts (caller_of x)) x = λ c flush alone numbers.
      subst (λ (l : List Entry). IsTrueBy c l (r.accounts (caller_of x)) x) (sym mine.2 ∙ sym (seen_next o.first e v.seen refl)) (told_alone s r id v x at has refl found' c flush alone numbers) in
      let words' : AreTrueSoFar (e ∷ v.seen) (with_event x r.accounts) s.views = words_added v.seen (e ∷ v.seen) r.accounts s.views x (λ c d. each_more (IsTrueBy c) e v.seen (r.accounts d) (below d)) tell words in (
        appended v e g k,
        keeps,
        tt,
        evented D seen start s r id me.1 v x (e ∷ v.seen) (e ∷ []) old g k e.place at has framed refl refl refl so' words' (ours_added start v.seen (e ∷ v.seen) r.accounts x may.ours (may.ours, ours.entries) ours) (closed_added r.accounts x n pending refl (subst (λ (l : List Event). IsCalling l n pending) (sym own.events) calling) r.laws.closed) show knows logged (ended_entry e v.seen r.accounts others (entry_follows v.seen r.accounts x v.number v.mine e (get_or s.words 1 0) refl own.events mine.1 rested follows) ended) (inr (v.number, mine.1, refl)),
        refl,
      )

  -- With the turn: load the mark, and leave a receipt with that place.
  pub notes_in_turn : (slots id : ℕ) (me : M) (n : ℕ) (pending : List Entry) (note : Note) (old g : Plain) (k : Known) → me.0.turn ≡ true → me.0.frames ≡ Some old → IsCalling me.0.mine n pending
      → MayLeave start me.0.seen me.0.mine me.0.number n note → IsFoundOn me.0.seen old me.0.numbers (event.Receipt (next_note start.opening.first me.0.seen me.0.number n note))
      → MayShow start.opening me.0.seen me.0.seen old g (fixes_of me.0) (held_after (event.Receipt (next_note start.opening.first me.0.seen me.0.number n note)) (fixes_of me.0))
      → KnowsMore me.0.redo (Some k) → AreOthers (event.Receipt (next_note start.opening.first me.0.seen me.0.number n note)) (below_newest me.0.seen)
      → Allows (Kept seen start) slots id me 0 (λ n. n) (tells_note_in_turn (next_note start.opening.first me.0.seen me.0.number n note) g k (step slots 0 0 0 none) me)
  notes_in_turn slots id me n pending note old g k has framed calling may found show knows others s r _ at _ =
      let v : View = me.0 in let o = start.opening in let b = r.each id v at in let mine = b.knows.turn has in let own = (b.keeps.passes mine.0).1 in
      let e : Receipt = next_note o.first v.seen v.number n note in
      let x : Event = event.Receipt e in
      let olds : old ≡ r.frames = let e : Some old ≡ Some r.frames = sym framed ∙ mine.3 in cc in
      let marked : get_or s.words 0 0 ≡ mark o.first v.seen = r.turns.mark_is ∙ ap (mark o.first) (sym mine.2) in
      let so : IsLawfulSoFar o start.pages v.seen r.accounts = subst (λ (l : List Entry). IsLawfulSoFar o start.pages l r.accounts) (sym mine.2) r.laws.so_far in
      let words : AreTrueSoFar v.seen r.accounts s.views = subst (λ (l : List Entry). AreTrueSoFar l r.accounts s.views) (sym mine.2) r.words in
      let ours : AreOurs start v.seen r.accounts = subst (λ (l : List Entry). AreOurs start l r.accounts) (sym mine.2) r.laws.ours in
      let ended : AreEndedSoFar r.accounts v.seen = subst (AreEndedSoFar r.accounts) (sym mine.2) r.laws.ended in
      let rested : IsRested r.accounts v.seen (get_or s.words 1 0) = subst (λ (l : List Entry). IsRested r.accounts l (get_or s.words 1 0)) (sym mine.2) r.rested in
      let found' : IsFoundOn r.h r.frames v.numbers x = subst (λ (y : List Entry × Plain). IsFoundOn y.0 y.1 v.numbers x) (λ i. (mine.2 i, olds i)) found in
      let so' : IsLawfulSoFar o start.pages v.seen (with_event x r.accounts) =
      note_added o start.pages v.seen r.accounts v.number n pending note so (subst (λ (l : List Event). IsCalling l n pending) (sym own.events) calling)
      (subst (λ (l : List Event). MayNote o start.pages v.seen l v.number n note) (sym own.events) may.note) in
      let tell : (c : ℕ) (flush : Option ℕ) → AreAlone c flush (with_event x r.accounts) → AreNumbersOf c s.views → IsTrueBy c (seen_by x v.seen) (r.accounts (caller_of x)) x = λ c flush alone numbers.
      subst (λ (l : List Entry). IsTrueBy c l (r.accounts (caller_of x)) x) (sym mine.2 ∙ sym (seen_now o.first e v.seen refl)) (told_alone s r id v x at has refl found' c flush alone numbers) in
      let words' : AreTrueSoFar v.seen (with_event x r.accounts) s.views = words_added v.seen v.seen r.accounts s.views x (λ c d is. is) tell words in (
        noted_in_turn v e g k,
        keeps,
        tt,
        evented D seen start s r id me.1 v x v.seen [] old g k (get_or s.words 0 0) at has framed refl refl marked so' words' (ours_added start v.seen v.seen r.accounts x may.ours ours.entries ours) (closed_added r.accounts x n pending refl (subst (λ (l : List Event). IsCalling l n pending) (sym own.events) calling) r.laws.closed) show knows tt (ended_note x v.seen r.accounts others ended) (note_rests v.seen r.accounts x v.number (get_or s.words 1 0) refl mine.1 rested),
        (refl, marked),
      )
