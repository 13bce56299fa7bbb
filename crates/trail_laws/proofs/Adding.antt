-- A history and its accounts stay lawful behind an entry or a note that may come.
use Rattle.std.proofs.Common.{◌≡◌, ◌<◌, ℕ, Bool, cond, List, [], ◌∷◌, Option, Some, None, IfSome, refl, ap, ◌∙◌, sym, eq-eqb, arith}
use Rattle.std.specs.List.{AllByRecursion}
use Rattle.trail.specs.declared.event.Entry.{Entry}
use Rattle.trail.specs.declared.event.Event.{Event}
use Rattle.trail.specs.declared.event.Event.TheVariants as event
use Rattle.trail.specs.declared.event.Kind.{Kind}
use Rattle.trail.specs.declared.event.Note.{Note}
use Rattle.trail.specs.Trails.{Opening, mark}
use Rattle.trail.specs.Kinds.{Placing, departure_in}
use Rattle.trail.specs.Calls.{newest_fix, open_fixes}
use Rattle.trail.specs.Legal.{IsNumbered}
use Rattle.trail.specs.Promises.{IsPromised}
use Rattle.trail_laws.specs.Accounts.{IsAccount, entries_of, event_place, with_event}
use Rattle.trail_laws.specs.SoFar.{ArePromisedSoFar, IsFixedByNone, IsLawfulOf, IsLawfulSoFar}
use Rattle.trail_laws.specs.Adding.{IsCalling, MayAdd, MayNote, next_entry, next_note}
use Rattle.trail_laws.proofs.Places.{all_below, each_entry, each_note, earlier_all, earlier_with, falling_up, still_on, up_to_mark, with_each}
use Rattle.trail_laws.proofs.Calling.{calls_below, in_turn, numbered_by}
use Rattle.trail_laws.proofs.Tests.{flipped}

-- the start: no entries, and no events
pub nothing_yet : (o : Opening) (pages : ℕ → ℕ) → IsLawfulSoFar o pages [] (λ c. [])
nothing_yet o pages = record {
  places = record { numbered = tt; each = λ c. record { own = tt; kept = refl; falling = tt; turns = tt } };
  laws = λ c. tt;
  still = tt;
}

-- An entry of a caller's call that may come leaves everything lawful.
pub entry_added_to : (o : Opening) (pages : ℕ → ℕ) (h : List Entry) (accounts : ℕ → List Event) (c n : ℕ) (k : Kind) → IsLawfulSoFar o pages h accounts → IsNumbered (accounts c) n
    → MayAdd o pages h accounts c n k → IsLawfulSoFar o pages (next_entry o.first h c n k ∷ h) (with_event (event.Entry (next_entry o.first h c n k)) accounts)
entry_added_to o pages h accounts c n k so number_is may =
    let e = next_entry o.first h c n k in
    let x : Event = event.Entry e in
    let below : (d : ℕ) → AllByRecursion (λ y. event_place y < e.place) (accounts d) = λ d. all_below (mark o.first h) e.place (accounts d) (omega arith) (so.places.each d).falling in
    let account : ℕ → List Event → Type 0 = λ d mine. IsAccount o.first (e ∷ h) d mine in
    let its : IsLawfulOf o pages h (accounts c) x = record {
      legal = record { place = refl; number = number_is; together = may.together; before = may.before; kind = may.kind };
      covered = may.covered;
      causes = may.causes;
      victim = may.victim;
      withdrawal = may.withdrawal;
      spaces = may.spaces;
    } in
    let was = so.places.each c in
    record {
      places = record {
        numbered = (refl, so.places.numbered);
        each = with_each account x accounts (record {
          own = (refl, was.own);
          kept = ap (λ l. e ∷ l) was.kept ∙ sym (ap (λ (b : Bool). cond b (e ∷ entries_of c h) (entries_of c h)) (eq-eqb c c refl));
          falling = (omega arith, below c, falling_up (mark o.first h) e.place (accounts c) (omega arith) was.falling);
          turns = was.turns;
        }) (λ d other. let it = so.places.each d in record {
          own = it.own;
          kept = it.kept ∙ sym (ap (λ (b : Bool). cond b (e ∷ entries_of d h) (entries_of d h)) (flipped d c other));
          falling = falling_up (mark o.first h) e.place (accounts d) (omega arith) it.falling;
          turns = it.turns;
        });
      };
      laws = each_entry (IsLawfulOf o pages) o.first e h accounts refl (λ d. (so.places.each d).falling) its so.laws;
      still = (
        free (departure_in k) (λ d. earlier_with e.place x accounts d (omega arith) ∙ earlier_all e.place (accounts d) (below d)) may.still,
        still_on e.place accounts (with_event x accounts) h (λ m d le. earlier_with m x accounts d le) (up_to_mark o.first e.place h so.places.numbered (omega arith)) so.still,
      );
    }
  where
    free : {with : ℕ → List Event} (left : Option Placing) → ((d : ℕ) → with d ≡ accounts d) → IfSome left (λ d. IsFixedByNone accounts d.page) → IfSome left (λ d. IsFixedByNone with d.page)
    free None same is = tt
    free (Some d) same is = λ c. ap (λ l. newest_fix (open_fixes l) d.page) (same c) ∙ is c

pub entry_added : (o : Opening) (pages : ℕ → ℕ) (h : List Entry) (accounts : ℕ → List Event) (c n : ℕ) (pending : List Entry) (k : Kind) → IsLawfulSoFar o pages h accounts → IsCalling (accounts c) n pending
    → MayAdd o pages h accounts c n k → IsLawfulSoFar o pages (next_entry o.first h c n k ∷ h) (with_event (event.Entry (next_entry o.first h c n k)) accounts)
entry_added o pages h accounts c n pending k so calling may = entry_added_to o pages h accounts c n k so (numbered_by (accounts c) n pending calling) may

-- A note of a caller's call that may come leaves everything lawful.
pub note_added : (o : Opening) (pages : ℕ → ℕ) (h : List Entry) (accounts : ℕ → List Event) (c n : ℕ) (pending : List Entry) (k : Note) → IsLawfulSoFar o pages h accounts → IsCalling (accounts c) n pending
    → MayNote o pages h (accounts c) c n k → IsLawfulSoFar o pages h (with_event (event.Receipt (next_note o.first h c n k)) accounts)
note_added o pages h accounts c n pending k so calling may =
    let r = next_note o.first h c n k in
    let x : Event = event.Receipt r in
    let its : IsLawfulOf o pages h (accounts c) x = record {
      legal = record { place = refl; number = numbered_by (accounts c) n pending calling; before = may.before; note = may.note };
      covered = tt;
      causes = may.causes;
      victim = tt;
      withdrawal = tt;
      spaces = may.spaces;
    } in
    let account : ℕ → List Event → Type 0 = λ d mine. IsAccount o.first h d mine in
    let was = so.places.each c in
    let calls = calls_below (accounts c) n pending calling in
    record {
      places = record {
        numbered = so.places.numbered;
        each = with_each account x accounts
            (record { own = (refl, was.own); kept = was.kept; falling = (omega arith, was.falling); turns = (in_turn (accounts c) n (omega (arith, calls)) calling.unanswered, was.turns) })
            (λ d other. so.places.each d);
      };
      laws = each_note (IsLawfulOf o pages) o.first r h accounts refl its so.laws;
      still = still_on r.place accounts (with_event x accounts) h (λ m d le. earlier_with m x accounts d le) (up_to_mark o.first r.place h so.places.numbered (omega arith)) so.still;
    }

-- What the calls promise stands behind an entry and behind a note of which it is so.
pub entry_promised : (o : Opening) (pages : ℕ → ℕ) (h : List Entry) (accounts : ℕ → List Event) (c n : ℕ) (k : Kind) → IsLawfulSoFar o pages h accounts → ArePromisedSoFar o pages h accounts
    → IsPromised o pages h (accounts c) (event.Entry (next_entry o.first h c n k)) → ArePromisedSoFar o pages (next_entry o.first h c n k ∷ h) (with_event (event.Entry (next_entry o.first h c n k)) accounts)
entry_promised o pages h accounts c n k so promised is = each_entry (IsPromised o pages) o.first (next_entry o.first h c n k) h accounts refl (λ d. (so.places.each d).falling) is promised

pub note_promised : (o : Opening) (pages : ℕ → ℕ) (h : List Entry) (accounts : ℕ → List Event) (c n : ℕ) (k : Note) → ArePromisedSoFar o pages h accounts
    → IsPromised o pages h (accounts c) (event.Receipt (next_note o.first h c n k)) → ArePromisedSoFar o pages h (with_event (event.Receipt (next_note o.first h c n k)) accounts)
note_promised o pages h accounts c n k promised is = each_note (IsPromised o pages) o.first (next_note o.first h c n k) h accounts refl is promised
