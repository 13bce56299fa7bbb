-- The fixes of plain frames fit their words.
use Rattle.std.specs.Prelude.{replicate}
use Rattle.std.specs.Option.{option_map, option_map_or}
use Rattle.std.proofs.Common.{◌≡◌, ◌≢◌, ℕ, List, Option, None, Some, ◌+◌, ◌-◌, ◌<◌, ◌^◌, ◌++◌, Bool, cond, length, get_or, set, refl, sym, ap, ◌∙◌, subst, arith, length-set, length-append, eq-eqb, ⊎_elim}
use Rattle.std.proofs.lemmas.Bool.{cases_lt}
use Rattle.std.proofs.lemmas.Bool.Decides.{nat_tests}
use Rattle.std.proofs.lemmas.List.{get_or-set_same, get_or-set_other, get_or_append_left, get_or-replicate, length-replicate, replicate-append-replicate, append_assoc}
use Rattle.std.proofs.Math.Seq.{get_or-append_right}
use Rattle.frame_words.specs.Rows.{Row, new_row, held_row}
use Rattle.frame_words.specs.Seen.{visits_of}
use Rattle.frame_words.specs.Plain.{FitsInWord, FitPlain, held_of, unheld_row}
use mathlib.Core.Logic.{dite}
use native.Mathlib.Decide.{ℕ_discrete}

-- one frame changes
pub fit_set : (rows : List Row) (visit : Option ℕ) (i : ℕ) (row : Row) → FitPlain rows visit
    → FitsInWord row.held (visits_of visit i) → FitPlain (set rows i row) visit
fit_set rows visit i row fits one = λ f below. let inside : f < length rows = subst (λ (n : ℕ). f < n) (length-set rows i row) below in
    dite (ℕ_discrete f i)
    (λ same. subst (λ (k : ℕ). FitsInWord (get_or (set rows i row) k new_row).held (visits_of visit k)) (sym same)
    (subst (λ (r : Row). FitsInWord r.held (visits_of visit i))
    (sym (get_or-set_same rows i row new_row (subst (λ (k : ℕ). k < length rows) same inside))) one))
    (λ other. subst (λ (r : Row). FitsInWord r.held (visits_of visit f)) (sym (get_or-set_other rows i f row new_row other)) (fits f inside))

visits_here : (f : ℕ) → visits_of (Some f) f ≡ 1
visits_here f = ap (λ (b : Bool). cond b 1 0) (eq-eqb f f refl)

-- the visit of a frame fits its word
pub visited_fits : (rows : List Row) (i : ℕ) → FitPlain rows (Some i) → i < length rows → FitsInWord (get_or rows i new_row).held 1
visited_fits rows i fits inside = subst (λ (n : ℕ). FitsInWord (get_or rows i new_row).held n) (visits_here i) (fits i inside)

fewer : (held : Option ℕ) (visits : ℕ) → FitsInWord held visits → FitsInWord held 0
fewer None visits fits = fits
fewer (Some n) visits fits = omega (arith, fits)

-- without the visit they fit too
pub fit_unvisited : (rows : List Row) (visit : Option ℕ) → FitPlain rows visit → FitPlain rows None
fit_unvisited rows visit fits = λ f below. fewer (get_or rows f new_row).held (visits_of visit f) (fits f below)

more : (held : Option ℕ) → FitsInWord held 1 → FitsInWord (option_map (λ n. n + 1) held) 0
more None fits = fits
more (Some n) fits = omega (arith, fits)

-- one fix more that is no visit
pub fit_held : (rows : List Row) (i : ℕ) → FitPlain rows None → FitsInWord (get_or rows i new_row).held 1
    → FitPlain (set rows i (held_row (get_or rows i new_row))) None
fit_held rows i fits one = fit_set rows None i (held_row (get_or rows i new_row)) fits (more (get_or rows i new_row).held one)

-- the visit becomes a held fix
pub fit_kept : (rows : List Row) (i : ℕ) → FitPlain rows (Some i) → i < length rows
    → FitPlain (set rows i (held_row (get_or rows i new_row))) None
fit_kept rows i fits inside = fit_held rows i (fit_unvisited rows (Some i) fits) (visited_fits rows i fits inside)

room_fits : (held : Option ℕ) → FitsInWord held 0 → 0 < 2 ^ 14 - 1 - option_map_or (λ n. n) held 0 → FitsInWord held 1
room_fits None fits room = fits
room_fits (Some n) fits room = omega (arith, room)

-- where there is room in the word of a frame, one visit or fix more fits
pub room_for_one : (rows : List Row) (i : ℕ) → FitPlain rows None → i < length rows
    → 0 < 2 ^ 14 - 1 - held_of (get_or rows i new_row) → FitsInWord (get_or rows i new_row).held 1
room_for_one rows i fits inside room = room_fits (get_or rows i new_row).held (fits i inside) room

visits_else : (f g : ℕ) → f ≢ g → visits_of (Some f) g ≡ 0
visits_else f g other = grind (arith, nat_tests, other)

-- a visit begins
pub fit_visited : (rows : List Row) (i : ℕ) → FitPlain rows None → FitsInWord (get_or rows i new_row).held 1 → FitPlain rows (Some i)
fit_visited rows i fits one = λ f below. dite (ℕ_discrete i f)
    (λ same. subst (λ (k : ℕ). FitsInWord (get_or rows k new_row).held (visits_of (Some i) k)) same
    (subst (λ (n : ℕ). FitsInWord (get_or rows i new_row).held n) (sym (visits_here i)) one))
    (λ other. subst (λ (n : ℕ). FitsInWord (get_or rows f new_row).held n) (sym (visits_else i f other)) (fits f below))

less : (held : Option ℕ) → FitsInWord held 0 → 0 < option_map_or (λ n. n) held 0 → FitsInWord (option_map (λ n. n - 1) held) 1
less None fits some = fits
less (Some n) fits some = omega (arith, fits, some)

-- a held fix becomes a visit
pub fit_unheld : (rows : List Row) (i : ℕ) → FitPlain rows None → i < length rows → 0 < held_of (get_or rows i new_row)
    → FitPlain (set rows i (unheld_row (get_or rows i new_row))) (Some i)
fit_unheld rows i fits inside some =
    let row : Row = unheld_row (get_or rows i new_row) in
    let one : FitsInWord row.held 1 = less (get_or rows i new_row).held (fits i inside) some in
    let here : get_or (set rows i row) i new_row ≡ row = get_or-set_same rows i row new_row inside in
    fit_visited (set rows i row) i (fit_set rows None i row fits (fewer row.held 1 one)) (subst (λ (r : Row). FitsInWord r.held 1) (sym here) one)

few_visits : (visit : Option ℕ) (f : ℕ) → FitsInWord (Some 0) (visits_of visit f)
few_visits None f = omega arith
few_visits (Some g) f = grind (arith, nat_tests)

-- frames are added
pub fit_grown : (rows : List Row) (visit : Option ℕ) (n : ℕ) → FitPlain rows visit → FitPlain (rows ++ replicate n new_row) visit
fit_grown rows visit n fits = λ f below. ⊎_elim
    (λ old. subst (λ (r : Row). FitsInWord r.held (visits_of visit f)) (sym (get_or_append_left rows (replicate n new_row) new_row f old)) (fits f old))
    (λ added. let all : length (rows ++ replicate n new_row) ≡ length rows + n =
    length-append rows (replicate n new_row) ∙ ap (λ (k : ℕ). length rows + k) (length-replicate n new_row) in
    let row : get_or (rows ++ replicate n new_row) f new_row ≡ new_row =
    get_or-append_right rows (replicate n new_row) f new_row added
    ∙ get_or-replicate n (f - length rows) new_row new_row (omega (arith, all, below, added)) in
    subst (λ (r : Row). FitsInWord r.held (visits_of visit f)) (sym row) (few_visits visit f))
    (cases_lt f (length rows))

-- one new frame more
pub one_more : (rows : List Row) (n : ℕ) → (rows ++ replicate n new_row) ++ replicate 1 new_row ≡ rows ++ replicate (n + 1) new_row
one_more rows n = append_assoc rows (replicate n new_row) (replicate 1 new_row) ∙ ap (λ (xs : List Row). rows ++ xs) (replicate-append-replicate n 1 new_row)
