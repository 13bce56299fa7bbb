-- Two callers fix one page and give it back, and the runner closes: from the empty history to a lawful trail by the lemmas alone.
use Rattle.std.proofs.Common.{◌≡◌, ℕ, Bool, true, false, List, [], ◌∷◌, inl, inr, None, refl, sym, subst, nat_eq, arith}
use Rattle.page_ids.specs.declared.ids.PageId.{PageId}
use Rattle.page_ids.specs.declared.ids.PageSize.TheVariants.{Kib4}
use Rattle.trail.specs.declared.event.Kind.TheVariants as kind
use Rattle.trail.specs.declared.event.Note.TheVariants as note
use Rattle.trail.specs.declared.event.Entry.{Entry}
use Rattle.trail.specs.declared.event.Event.{Event}
use Rattle.trail.specs.declared.event.Event.TheVariants as event
use Rattle.trail.specs.Trails.{Opening}
use Rattle.trail.specs.Book.{is_in}
use Rattle.trail.specs.Laws.{IsLawfulTrail}
use Rattle.trail.specs.Merging.{IsMerged}
use Rattle.trail_laws.specs.Accounts.{with_event}
use Rattle.trail_laws.specs.SoFar.{AreTrueAlone, IsLawfulSoFar}
use Rattle.trail_laws.specs.Adding.{IsCalling, next_entry, next_note}
use Rattle.trail_laws.specs.Ending.{AreDone, IsAnswered, gathered}
use Rattle.trail_laws.proofs.Adding.{entry_added, note_added, nothing_yet}
use Rattle.trail_laws.proofs.Appending.{begins, clean_of, cleans, fixes, loads}
use Rattle.trail_laws.proofs.Calling.{answered_plain, calling_answer, calling_at_start, calling_on}
use Rattle.trail_laws.proofs.Gathering.{merged_of_all}
use Rattle.trail_laws.proofs.Noting.{unfixes}
use Rattle.trail_laws.proofs.Telling.{entry_told, note_told, nothing_told, tells_clean, tells_none}
use Rattle.trail_laws.proofs.Tests.{flipped, number_is, or_parts}

-- one chunk of four frames; values are untold
abbrev pool : Opening
pool = record {
  first = 0;
  config = record { page = Kib4; instances = 1; frames = 4; size = 16384; max = 1; old_pct = 37; old_time = 1000; old_min = 512; lsn = 8192; first = 0 };
  base = None;
}

abbrev pages : ℕ → ℕ
pages space = 8

abbrev page : PageId
page = record { space = 0; page = 3 }

-- nothing has happened
abbrev none : ℕ → List Event
none c = []

-- caller 1 reads the page in and fixes it
abbrev load : Entry
load = next_entry 0 [] 1 1 (kind.Load page 0)

abbrev loaded : ℕ → List Event
loaded = with_event (event.Entry load) none

abbrev fix : Entry
fix = next_entry 0 (load ∷ []) 1 1 (kind.Fix page 0 1 5)

abbrev fixed : ℕ → List Event
fixed = with_event (event.Entry fix) loaded

-- caller 2 fixes it too
abbrev hit : Entry
hit = next_entry 0 (fix ∷ load ∷ []) 2 1 (kind.Fix page 0 1 6)

abbrev shared : ℕ → List Event
shared = with_event (event.Entry hit) fixed

-- each gives its fix back
abbrev history : List Entry
history = hit ∷ fix ∷ load ∷ []

abbrev back_2 : Event
back_2 = event.Receipt (next_note 0 history 2 2 (note.Unfixed page 0 1))

abbrev left : ℕ → List Event
left = with_event back_2 shared

abbrev back_1 : Event
back_1 = event.Receipt (next_note 0 history 1 2 (note.Unfixed page 0 1))

abbrev free : ℕ → List Event
free = with_event back_1 left

-- the runner cleans
abbrev clean : Entry
clean = next_entry 0 history 0 1 (kind.Clean 0 [])

abbrev closed : ℕ → List Event
closed = with_event (event.Entry clean) free

calling_load : IsCalling (loaded 1) 1 (load ∷ [])
calling_load = calling_on load [] 1 [] calling_at_start refl refl

so_loaded : IsLawfulSoFar pool pages (load ∷ []) loaded
so_loaded = entry_added pool pages [] none 1 1 [] (kind.Load page 0) (nothing_yet pool pages) calling_at_start
    (loads pool pages [] [] none 1 1 [] page 0 (begins [] [] 1 calling_at_start) (record { absent = refl; next = refl; sound = tt }))

so_fixed : IsLawfulSoFar pool pages (fix ∷ load ∷ []) fixed
so_fixed = entry_added pool pages (load ∷ []) loaded 1 1 (load ∷ []) (kind.Fix page 0 1 5) so_loaded calling_load
    (fixes pool pages (load ∷ []) [] loaded 1 1 (load ∷ []) page 0 1 5 so_loaded.places.numbered (record { calling = calling_load; grown = refl }) (inr ([], refl, tt))
    (record { resident = refl; unchanged = refl }) (record { places = omega arith; inside = omega arith }) (omega arith))

so_shared : IsLawfulSoFar pool pages history shared
so_shared = entry_added pool pages (fix ∷ load ∷ []) fixed 2 1 [] (kind.Fix page 0 1 6) so_fixed calling_at_start
    (fixes pool pages (fix ∷ load ∷ []) (fix ∷ load ∷ []) fixed 2 1 [] page 0 1 6 so_fixed.places.numbered (begins (fix ∷ load ∷ []) [] 1 calling_at_start) (inl refl)
    (record { resident = refl; unchanged = refl }) (record { places = omega arith; inside = omega arith }) (omega arith))

calling_2 : IsCalling (shared 2) 2 []
calling_2 = calling_answer (event.Entry hit) [] 1 [] calling_at_start refl refl

calling_1 : IsCalling (left 1) 2 []
calling_1 = calling_answer (event.Entry fix) (event.Entry load ∷ []) 1 (load ∷ []) calling_load refl refl

so_left : IsLawfulSoFar pool pages history left
so_left = note_added pool pages history shared 2 2 [] (note.Unfixed page 0 1) so_shared calling_2 (unfixes pool pages history (shared 2) 2 2 page 0 1 so_shared.places.numbered calling_2 (0, omega arith, refl))

so_free : IsLawfulSoFar pool pages history free
so_free = note_added pool pages history left 1 2 [] (note.Unfixed page 0 1) so_left calling_1 (unfixes pool pages history (left 1) 1 2 page 0 1 so_left.places.numbered calling_1 (0, omega arith, refl))

so_closed : IsLawfulSoFar pool pages (clean ∷ history) closed
so_closed = entry_added pool pages history free 0 1 [] (kind.Clean 0 []) so_free calling_at_start
    (cleans pool pages history history free 0 1 [] 0 [] so_free.places.numbered (begins history [] 1 calling_at_start) tt
    (clean_of 0 history history [] 1 [] 0 so_free.places.numbered (begins history [] 1 calling_at_start) refl refl) (record { places = omega arith; inside = tt }))

-- no event tells a word
words : AreTrueAlone (clean ∷ history) closed
words =
    let loading = entry_told pool pages [] none 1 1 (kind.Load page 0) (nothing_yet pool pages) nothing_told (tells_none [] none (event.Entry load) (λ held. tt)) in
    let fixing = entry_told pool pages (load ∷ []) loaded 1 1 (kind.Fix page 0 1 5) so_loaded loading (tells_none (load ∷ []) loaded (event.Entry fix) (λ held. tt)) in
    let sharing = entry_told pool pages (fix ∷ load ∷ []) fixed 2 1 (kind.Fix page 0 1 6) so_fixed fixing (tells_none (fix ∷ load ∷ []) fixed (event.Entry hit) (λ held. tt)) in
    let leaving = note_told pool history shared 2 2 (note.Unfixed page 0 1) sharing (tells_none history shared back_2 (λ held. tt)) in
    let freeing = note_told pool history left 1 2 (note.Unfixed page 0 1) leaving (tells_none history left back_1 (λ held. tt)) in
    entry_told pool pages history free 0 1 (kind.Clean 0 []) so_free freeing (tells_clean history free clean 0 [] refl (λ c flush alone. refl))

-- each call has its answer
by_caller : (P : ℕ → List Event → Type 0) → P 0 (closed 0) → P 1 (closed 1) → P 2 (closed 2) → ((c : ℕ) → P c []) → (c : ℕ) → P c (closed c)
by_caller P p0 p1 p2 others c = first (nat_eq c 0) refl
  where
    at : (n : ℕ) → nat_eq c n ≡ true → P n (closed n) → P c (closed c)
    at n t p = let Q : ℕ → Type 0 = λ m. P m (closed m) in subst Q (sym (number_is c n t)) p

    rest : nat_eq c 0 ≡ false → nat_eq c 1 ≡ false → nat_eq c 2 ≡ false → [] ≡ closed c
    rest f0 f1 f2 = rw f0 (rw f1 (rw f2 refl))

    third : (b : Bool) → nat_eq c 0 ≡ false → nat_eq c 1 ≡ false → nat_eq c 2 ≡ b → P c (closed c)
    third true f0 f1 t = at 2 t p2
    third false f0 f1 f2 = subst (P c) (rest f0 f1 f2) (others c)

    second : (b : Bool) → nat_eq c 0 ≡ false → nat_eq c 1 ≡ b → P c (closed c)
    second true f0 t = at 1 t p1
    second false f0 f1 = third (nat_eq c 2) f0 f1 refl

    first : (b : Bool) → nat_eq c 0 ≡ b → P c (closed c)
    first true t = at 0 t p0
    first false f0 = second (nat_eq c 1) f0 refl

calling_closed : IsCalling (closed 0) 2 []
calling_closed = calling_answer (event.Entry clean) [] 1 [] calling_at_start refl refl

calling_back_1 : IsCalling (closed 1) 3 []
calling_back_1 = calling_answer back_1 (left 1) 2 [] calling_1 refl refl

calling_back_2 : IsCalling (closed 2) 3 []
calling_back_2 = calling_answer back_2 (shared 2) 2 [] calling_2 refl refl

done : AreDone pool (clean ∷ history) closed
done = record {
  answered = by_caller (IsAnswered pool (clean ∷ history)) (answered_plain pool (clean ∷ history) 0 (closed 0) 2 calling_closed (refl, tt)) (answered_plain pool (clean ∷ history) 1 (closed 1) 3 calling_back_1 (refl, (refl, tt)))
      (answered_plain pool (clean ∷ history) 2 (closed 2) 3 calling_back_2 (refl, tt)) (λ c. answered_plain pool (clean ∷ history) c [] 1 calling_at_start tt);
  followed = (tt, (tt, (tt, (tt, tt))));
}

-- What is merged of this history and these receipts is a lawful trail.
pub two_callers : (events : List Event) → IsMerged (load ∷ fix ∷ hit ∷ clean ∷ []) (gathered closed (0 ∷ 1 ∷ 2 ∷ [])) events → IsLawfulTrail pool (record { first = 0; events = events })
two_callers events merged =
    merged_of_all pool pages (clean ∷ history) closed (0 ∷ 1 ∷ 2 ∷ []) (load ∷ fix ∷ hit ∷ clean ∷ []) events so_closed words done (record { apart = (refl, (refl, (refl, tt))); others = others }) refl merged
  where
    others : (c : ℕ) → is_in c (0 ∷ 1 ∷ 2 ∷ []) ≡ false → closed c ≡ []
    others c f =
        let a = or_parts (nat_eq 0 c) (is_in c (1 ∷ 2 ∷ [])) f in
        let b = or_parts (nat_eq 1 c) (is_in c (2 ∷ [])) a.1 in
        let d = or_parts (nat_eq 2 c) false b.1 in
        rw (flipped 0 c a.0) (rw (flipped 1 c b.0) (rw (flipped 2 c d.0) refl))
