-- A receipt without the turn keeps the rule.
use Rattle.std.proofs.Common.{◌≡◌, ◌≢◌, ℕ, true, ◌<◌, List, [], ◌∷◌, Some, set, get_or, refl, sym, ap, ◌∙◌, subst, arith}
use Rattle.std.specs.List.{AllByRecursion}
use lib.Seq.{set-get_or}
use mathlib.Core.Option.{some, none}
use lib.ListN.{get_elem?}
use Rattle.atomic_table.specs.Table.{State, Me, step, keeps, stepped, Allows}
use Rattle.trail.specs.declared.event.Entry.{Entry}
use Rattle.trail.specs.declared.event.Event.{Event}
use Rattle.trail.specs.declared.event.Event.TheVariants as event
use Rattle.trail.specs.declared.event.Held as trails
use Rattle.trail.specs.declared.event.Note.{Note}
use Rattle.trail.specs.declared.event.Receipt.{Receipt}
use Rattle.trail.specs.Alone.{IsTrueNote}
use Rattle.trail.specs.Calls.{held_after_note, open_fixes}
use Rattle.trail.specs.History.{home}
use Rattle.trail_laws.specs.Accounts.{IsAccount, seen_by, with_event}
use Rattle.trail_laws.specs.Adding.{IsCalling, MayNote, next_note}
use Rattle.trail_laws.proofs.Adding.{note_added}
use Rattle.trail_laws.proofs.Following.{AreOthers, ended_note, others_below, others_of}
use Rattle.frame_words.specs.Plain.{Plain}
use Rattle.pool_table.specs.declared.view.Account.{Account}
use Rattle.pool_table.specs.declared.view.Slot.{Slot}
use Rattle.pool_table.specs.declared.view.View.{View}
use Rattle.pool_table.specs.Seen.{DeskSeen}
use Rattle.pool_table.specs.Views.{account_of, fixes_of, noted}
use Rattle.pool_table.specs.Frames.{AreOpen, fixes_in}
use Rattle.pool_table.specs.Kept.{fixed_in, parts_of, AreTrueSoFar, Fits, IsTrueAccount, Kept}
use Rattle.pool_table.specs.Steps.{IsMarked, MayLeave}
use Rattle.pool_table.specs.Told.{tells_note}
use Rattle.pool_table.proofs.Lists.{each_set, total_same}
use Rattle.pool_table.proofs.Alone.{words_added, words_set}
use Rattle.pool_table.proofs.Closing.{rests_beside}
use Rattle.pool_table.proofs.Events.{closed_added, has_gone, off, ours_added, with_else, with_here}
use Rattle.pool_table.proofs.Keeps.{account_on, held_set, owned_set}

-- the pages of open fixes are in their homes
homes_of : (h : List Entry) (frames : Plain) (held : List trails.Held) → AreOpen h frames held → AllByRecursion (λ (x : trails.Held). home h x.page ≡ Some x.frame) held
homes_of h frames [] opened = tt
homes_of h frames (x ∷ held) opened = (opened.0.home_is, homes_of h frames held opened.1)

module _ (D : Type 0) (seen : D → DeskSeen) (start : DeskSeen) where
  abbrev St : Type 0
  St = State (Slot D) View

  abbrev M : Type 0
  M = Me (Slot D) View

  -- what the mark marks, as a pass without the turn knows it
  pub marked_is : (s : St) (r : Kept seen start s) (id : ℕ) (v : View) → get_elem? s.views id ≡ some v → v.passes ≡ true → IsMarked start r.h v
  marked_is s r id v at pass = let f = r.each id v at in let own = (f.keeps.passes pass).1 in record {
    more = f.knows.seen.0;
    grown = f.knows.seen.1;
    numbered = r.laws.so_far.places.numbered;
    account = subst (IsAccount start.opening.first r.h v.number) own.events (r.laws.so_far.places.each v.number);
    homes = homes_of r.h r.frames (fixes_of v) f.fixes;
  }

  -- The rule behind such a receipt.
  beside : (s : St) (r : Kept seen start s) (id : ℕ) (cs : List (ℕ × Slot D)) (v : View) (n : ℕ) (note : Note) → get_elem? s.views id ≡ some v → v.passes ≡ true → IsCalling v.mine n []
      → MayLeave start r.h v.mine v.number n note → held_after_note n note (fixes_of v) ≡ fixes_of v → ((h : List Entry) (held : List trails.Held) → IsTrueNote h held note)
      → Kept seen start (stepped s 0 (get_or s.words 0 0) id cs (noted v (next_note start.opening.first r.h v.number n note) r.h) keeps)
  beside s r id cs v n note at pass calling may same wordless =
      let f = r.each id v at in let own = f.keeps.passes pass in let o = start.opening in let t : ℕ = get_or s.words 1 0 in
      let e : Receipt = next_note o.first r.h v.number n note in let x : Event = event.Receipt e in
      let w : View = noted v e r.h in
      let accounts : ℕ → List Event = with_event x r.accounts in
      let mine : r.accounts v.number ≡ v.mine = own.1.events in
      let calling' : IsCalling (r.accounts v.number) n [] = subst (λ (l : List Event). IsCalling l n []) (sym mine) calling in
      let others' : AreOthers x r.h = others_of x r.h (r.accounts v.number) [] calling' (r.laws.so_far.places.each v.number).kept tt in
      let foreign : (j : ℕ) (a : Account) → a.number ≢ v.number → IsTrueAccount r.known r.next r.accounts r.seat j a → IsTrueAccount r.known r.next accounts r.seat j a = λ j a n y.
      account_on r.known r.known r.next r.accounts r.seat j x a (has_gone r.known) n y in
      let apart : (j : ℕ) (a : Account) → j ≢ id → IsTrueAccount r.known r.next r.accounts r.seat j a → a.number ≢ v.number = λ j a n y e. n (sym y.kept_by ∙ (ap r.seat e ∙ own.1.kept_by)) in
      let K : ℕ → View → Type 0 = Fits r.known r.h r.frames t r.next r.maker accounts r.seat in
      let others : (j : ℕ) (u : View) → j ≢ id → get_elem? s.views j ≡ some u → K j u = λ j u n there. let b = r.each j u there in record {
        knows = b.knows;
        keeps = record {
          makes = b.keeps.makes;
          passes = λ a. let y = b.keeps.passes a in (y.0, foreign j (account_of u) (apart j (account_of u) n y.1) y.1);
          unnamed = b.keeps.unnamed;
          others = λ i a e. let y = b.keeps.others i a e in (foreign j a (apart j a n y.0) y.0, y.1, y.2);
          idle = b.keeps.idle;
          apart = b.keeps.apart;
        };
        fixes = b.fixes;
        bare = b.bare;
      } in
      let here : K id w = record {
        knows = record { seen = ([], refl); turn = λ a. let y = f.knows.turn a in (y.0, y.1, refl, y.3, y.4) };
        keeps = record {
          makes = f.keeps.makes;
          passes = λ _. (
            own.0,
            record {
              kept_by = own.1.kept_by;
              below = own.1.below;
              events = with_here x r.accounts v.number refl ∙ ap (λ (l : List Event). x ∷ l) mine;
              redo = own.1.redo;
              logged = (tt, own.1.logged);
            },
          );
          unnamed = λ a. off (sym a ∙ pass);
          others = λ i a e. let y = f.keeps.others i a e in (foreign id a (y.2 pass) y.0, y.1, y.2);
          idle = f.keeps.idle;
          apart = f.keeps.apart;
        };
        fixes = subst (AreOpen r.h r.frames) (sym same) f.fixes;
        bare = record { found = f.bare.found; numbers = f.bare.numbers; visits = f.bare.visits; latches = f.bare.latches; lifted = f.bare.lifted; claimed = f.bare.claimed; unpublished = f.bare.unpublished };
      } in
      let may' : MayNote o start.pages r.h (r.accounts v.number) v.number n note = subst (λ (l : List Event). MayNote o start.pages r.h l v.number n note) (sym mine) may.note in
      let words' : AreTrueSoFar r.h accounts s.views = words_added r.h r.h r.accounts s.views x (λ c d is. is)
      (λ c flush alone numbers. record { own = λ _. wordless (seen_by x r.h) (open_fixes (r.accounts v.number)); other = λ _ held. wordless (seen_by x r.h) held }) r.words in
      subst (λ (ws : List ℕ). Kept seen start record { words = ws; homes = s.homes; views = set s.views id w }) (sym (set-get_or s.words 0 0)) record {
        h = r.h;
        frames = r.frames;
        known = r.known;
        of_log = r.of_log;
        next = r.next;
        maker = r.maker;
        accounts = accounts;
        seat = r.seat;
        turns = record { wide = r.turns.wide; deep = r.turns.deep; mark_is = r.turns.mark_is; free = r.turns.free; held = held_set t r.seat s.views id v w at refl r.turns.held };
        laws = record {
          so_far = note_added o start.pages r.h r.accounts v.number n [] note r.laws.so_far calling' may';
          ended = ended_note x r.h r.accounts (others_below x r.h others') r.laws.ended;
          closed = closed_added r.accounts x n [] refl calling' r.laws.closed;
          ours = ours_added start r.h r.h r.accounts x may.ours r.laws.ours.entries r.laws.ours;
          later = λ c le. with_else x r.accounts c (λ e. let below : v.number < r.next = own.1.below in let same : c ≡ v.number = e in omega (arith, same, le, below)) ∙ r.laws.later c le;
          owned = owned_set r.next r.seat s.views id v w at (λ k has. has) r.laws.owned;
        };
        framed = record { sums = λ f. r.framed.sums f ∙ sym (total_same (fixed_in f) s.views id v w at (ap (λ (held : List trails.Held). fixes_in held f) same)); homes = r.framed.homes };
        rested = rests_beside r.h r.accounts x t others' r.laws.ended r.rested;
        words = words_set r.h accounts s.views id v w at refl words';
        each = each_set K s.views id w here others;
        whole = total_same parts_of s.views id v w at refl ∙ r.whole;
      }

  -- Without the turn: load the mark, and leave a receipt with the place that is found. It opens no fix and gives none back, and tells no words.
  pub notes : (slots id : ℕ) (me : M) (n place : ℕ) (note : Note) → me.0.passes ≡ true → IsCalling me.0.mine n [] → ((h : List Entry) → IsMarked start h me.0 → MayLeave start h me.0.mine me.0.number n note)
      → held_after_note n note (fixes_of me.0) ≡ fixes_of me.0 → ((h : List Entry) (held : List trails.Held) → IsTrueNote h held note)
      → Allows (Kept seen start) slots id me 0 (λ n. n) (tells_note (record { place = place; caller = me.0.number; number = n; note = note }) start.opening.first (step slots 0 0 0 none) me)
  notes slots id me n place note pass calling may same wordless s r _ at _ =
      let v : View = me.0 in let marked = marked_is s r id v at pass in let o = start.opening in (
        noted v (next_note o.first r.h v.number n note) r.h,
        keeps,
        tt,
        beside s r id me.1 v n note at pass calling (may r.h marked) same wordless,
        (r.h, marked.more, ap (λ (p : ℕ). (noted v (record { place = p; caller = v.number; number = n; note = note }) r.h, me.1)) (sym r.turns.mark_is), marked.grown, r.turns.mark_is),
      )
