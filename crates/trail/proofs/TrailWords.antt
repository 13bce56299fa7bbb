-- A trail is read from its text.
use Rattle.std.proofs.Common.{inl, lit<, true, ℕ, List, [], ◌∷◌, ◌++◌, ◌≡◌, ◌-◌, ◌^◌, ◌<◌, ◌≤◌, ◌∙◌, Option, None, Some, length, map, count_by, refl, sym, ap, ap₂, subst, append_assoc, arith, if◌then◌else◌}
use Rattle.std.specs.Prelude.{◌==◌, codes}
use Rattle.std.specs.Fmt.{decimal}
use Rattle.std.specs.Str.{bytes_eq}
use Rattle.std.specs.List.{slice_split}
use Rattle.std.proofs.lemmas.Fmt.{decimal_injective}
use Rattle.std.proofs.lemmas.List.{append-nil, length-append}
use Rattle.std.proofs.lemmas.List.Sums.{count_by-le-length}
use Rattle.std.proofs.lemmas.List.Splits.{slice_split_at}
use Rattle.trail.specs.declared.event.Event.{Event}
use Rattle.trail.specs.declared.event.Event.TheVariants as event
use Rattle.trail.specs.Trails.{Events}
use Rattle.trail.specs.Spelling.{event_text, lines_text, trail_text, is_entry, stamp_text}
use Rattle.trail.specs.Typed.{EventFits, AllFit, BeginsBehind, TrailFits}
use Rattle.trail.proofs.Visible.{AreVisible, visible, visible-append, small_visible, number_visible}
use Rattle.page_ids.specs.Numerals.{cut_at}
use Rattle.page_ids.proofs.Cuts.{cut_here, decimal_lacks}
use Rattle.trail.proofs.Cuts.{spelled, words_cut, line_lacks}
use Rattle.trail.proofs.Words.{◌>>=◌, reads, u32, u64, read32, read64}
use Rattle.trail.proofs.KindWords.{kind_words, kind_of, kind_read, kind_visible, kind_spelled}
use Rattle.trail.proofs.NoteWords.{note_words, note_of, note_read, note_visible, note_spelled}

-- CALLER.NUMBER
abbrev stamp : ℕ → ℕ → List ℕ
stamp caller number = decimal caller ++ 46 ∷ decimal number

abbrev pub stamp_of : List ℕ → Option (ℕ × ℕ)
stamp_of w = cut_at 46 w >>= λ r. u32 r.0 >>= λ caller. u32 r.1 >>= λ number. Some (caller, number)

stamp_read : (caller number : ℕ) → caller < 2 ^ 32 → number < 2 ^ 32 → stamp_of (stamp caller number) ≡ Some (caller, number)
stamp_read caller number a b =
    let cuts = cut_here 46 (decimal caller) (decimal number) (decimal_lacks 46 caller (inl (lit< tt)) (omega arith)) in
    rw cuts (rw (read32 caller a) (rw (read32 number b) refl))

stamp_visible : (caller number : ℕ) → caller < 2 ^ 32 → number < 2 ^ 32 → visible (stamp caller number) ≡ true
stamp_visible caller number a b = visible-append (decimal caller) (46 ∷ decimal number) (small_visible caller a) (small_visible number b)

-- the words of an event
abbrev pub event_name : Event → List ℕ
event_name (event.Entry e) = codes "E"
event_name (event.Receipt r) = codes "R"

abbrev pub event_rest : Event → List (List ℕ)
event_rest (event.Entry e) = decimal e.place ∷ stamp e.caller e.number ∷ kind_words e.kind
event_rest (event.Receipt r) = decimal r.place ∷ stamp r.caller r.number ∷ note_words r.note

abbrev pub event_of : List (List ℕ) → Option Event
event_of [] = None
event_of (w ∷ ws) =
    if bytes_eq w (codes "E") then reads u64 ws (λ place ws. reads stamp_of ws (λ s ws. kind_of ws >>= λ kind. Some (event.Entry (record { place = place; caller = s.0; number = s.1; kind = kind })))) else
    if bytes_eq w (codes "R") then reads u64 ws (λ place ws. reads stamp_of ws (λ s ws. note_of ws >>= λ note. Some (event.Receipt (record { place = place; caller = s.0; number = s.1; note = note })))) else
    None

event_read : (e : Event) → EventFits e → event_of (event_name e ∷ event_rest e) ≡ Some e
event_read (event.Entry e) h = rw (read64 e.place h.0) (rw (stamp_read e.caller e.number h.1 h.2) (rw (kind_read e.kind h.3) refl))
event_read (event.Receipt r) h = rw (read64 r.place h.0) (rw (stamp_read r.caller r.number h.1 h.2) (rw (note_read r.note h.3) refl))

event_visible : (e : Event) → EventFits e → AreVisible (event_rest e)
event_visible (event.Entry e) h = (number_visible e.place h.0, (stamp_visible e.caller e.number h.1 h.2, kind_visible e.kind h.3))
event_visible (event.Receipt r) h = (number_visible r.place h.0, (stamp_visible r.caller r.number h.1 h.2, note_visible r.note h.3))

name_visible : (e : Event) → visible (event_name e) ≡ true
name_visible (event.Entry e) = refl
name_visible (event.Receipt r) = refl

stamped : (name : ℕ) (place caller number : ℕ) (rest : List ℕ) → (name ∷ 32 ∷ stamp_text place caller number) ++ rest ≡ name ∷ 32 ∷ (decimal place ++ (32 ∷ (stamp caller number ++ rest)))
stamped name place caller number rest = simp (append_assoc)

event_spelled : (e : Event) → event_text e ≡ event_name e ++ spelled (event_rest e)
event_spelled (event.Entry e) = ap (λ t. (codes "E " ++ stamp_text e.place e.caller e.number) ++ t) (kind_spelled e.kind) ∙ stamped 69 e.place e.caller e.number (spelled (kind_words e.kind))
event_spelled (event.Receipt r) = ap (λ t. (codes "R " ++ stamp_text r.place r.caller r.number) ++ t) (note_spelled r.note) ∙ stamped 82 r.place r.caller r.number (spelled (note_words r.note))

-- the event of a line
abbrev pub line_of : List ℕ → Option Event
line_of line = event_of (slice_split (λ x. x == 32) line)

pub line_read : (e : Event) → EventFits e → line_of (event_text e) ≡ Some e
line_read e h = ap line_of (event_spelled e) ∙ ap event_of (words_cut (event_name e) (event_rest e) (name_visible e) (event_visible e h)) ∙ event_read e h

-- the lines of a text
lines_cut : (es : List Event) → AllFit es → slice_split (λ x. x == 10) (lines_text es) ≡ map event_text es ++ [] ∷ []
lines_cut [] h = refl
lines_cut (e ∷ es) h =
    ap (λ t. slice_split (λ x. x == 10) (t ++ 10 ∷ lines_text es)) (event_spelled e)
    ∙ slice_split_at (λ x. x == 10) (event_name e ++ spelled (event_rest e)) 10 (lines_text es) (line_lacks (event_name e) (event_rest e) (name_visible e) (event_visible e h.0)) refl
    ∙ ap (λ t. t ∷ slice_split (λ x. x == 10) (lines_text es)) (sym (event_spelled e)) ∙ ap (λ t. event_text e ∷ t) (lines_cut es h.1)

abbrev head_rest : ℕ → Events → List (List ℕ)
head_rest i t = decimal i ∷ decimal (count_by is_entry t.events) ∷ decimal (length t.events - count_by is_entry t.events) ∷ []

head_visible : (i : ℕ) (t : Events) → TrailFits i t → AreVisible (head_rest i t)
head_visible i t h =
    let some : count_by is_entry t.events ≤ length t.events = count_by-le-length is_entry t.events in
    let rest : length t.events - count_by is_entry t.events < 2 ^ 64 = omega (arith, h.counted) in
    (number_visible i (omega (arith, h.numbered)), (number_visible _ (omega (arith, some, h.counted)), (number_visible _ rest, tt)))

headed : (i n m : ℕ) (rest : List ℕ) → (((codes "trail" ++ 32 ∷ decimal i) ++ 32 ∷ decimal n) ++ 32 ∷ decimal m) ++ 10 ∷ rest ≡ (codes "trail" ++ spelled (decimal i ∷ decimal n ∷ decimal m ∷ [])) ++ 10 ∷ rest
headed i n m rest = ap (λ t. (codes "trail" ++ t) ++ 10 ∷ rest) (in_row (32 ∷ decimal i) (32 ∷ decimal n) (32 ∷ decimal m))
  where
    in_row : (a b c : List ℕ) → (a ++ b) ++ c ≡ a ++ (b ++ (c ++ []))
    in_row a b c = simp (append_assoc, append-nil)

trail_cut : (i : ℕ) (t : Events) → TrailFits i t → slice_split (λ x. x == 10) (trail_text i t) ≡ (codes "trail" ++ spelled (head_rest i t)) ∷ (map event_text t.events ++ [] ∷ [])
trail_cut i t h =
    ap (slice_split (λ x. x == 10)) (headed i (count_by is_entry t.events) (length t.events - count_by is_entry t.events) (lines_text t.events))
    ∙ slice_split_at (λ x. x == 10) (codes "trail" ++ spelled (head_rest i t)) 10 (lines_text t.events) (line_lacks (codes "trail") (head_rest i t) refl (head_visible i t h)) refl
    ∙ ap (λ ls. (codes "trail" ++ spelled (head_rest i t)) ∷ ls) (lines_cut t.events h.typed)

-- what two texts have in common
first_of : {A : Type 0} → (x y : A) (xs ys : List A) → x ∷ xs ≡ y ∷ ys → x ≡ y
first_of x y xs ys e = cc

rest_of : {A : Type 0} → (x y : A) (xs ys : List A) → x ∷ xs ≡ y ∷ ys → xs ≡ ys
rest_of x y xs ys e = cc

same_events : (es fs : List Event) → AllFit es → AllFit fs → map event_text es ++ [] ∷ [] ≡ map event_text fs ++ [] ∷ [] → es ≡ fs
same_events [] [] a b e = refl
same_events [] (f ∷ fs) a b e = absurd (omega (arith, ap length e, length-append (map event_text fs) ([] ∷ [])))
same_events (x ∷ es) [] a b e = absurd (omega (arith, ap length e, length-append (map event_text es) ([] ∷ [])))
same_events (x ∷ es) (f ∷ fs) a b e =
    let both : Some x ≡ Some f = sym (line_read x a.0) ∙ ap line_of (first_of (event_text x) (event_text f) _ _ e) ∙ line_read f b.0 in
    let here : x ≡ f = cc in
    ap₂ (λ (y : Event) (ys : List Event). y ∷ ys) here (same_events es fs a.1 b.1 (rest_of (event_text x) (event_text f) _ _ e))

same_first : (m n : ℕ) (es : List Event) → BeginsBehind m es → BeginsBehind n es → m ≡ n
same_first m n [] a b = absurd a
same_first m n (event.Entry e ∷ es) a b = omega (arith, a, b)
same_first m n (event.Receipt r ∷ es) a b = same_first m n es a b

pub same_trail : (i j : ℕ) (t u : Events) → TrailFits i t → TrailFits j u → trail_text i t ≡ trail_text j u → (i ≡ j) × (t ≡ u)
same_trail i j t u a b e =
    let lines = sym (trail_cut i t a) ∙ ap (slice_split (λ x. x == 10)) e ∙ trail_cut j u b in
    let heads = first_of (codes "trail" ++ spelled (head_rest i t)) (codes "trail" ++ spelled (head_rest j u)) _ _ lines in
    let words = sym (words_cut (codes "trail") (head_rest i t) refl (head_visible i t a)) ∙ ap (slice_split (λ x. x == 32)) heads ∙ words_cut (codes "trail") (head_rest j u) refl (head_visible j u b) in
    let number : decimal i ≡ decimal j = first_of (decimal i) (decimal j) _ _ (rest_of (codes "trail") (codes "trail") (head_rest i t) (head_rest j u) words) in
    let events : t.events ≡ u.events = same_events t.events u.events a.typed b.typed (rest_of (codes "trail" ++ spelled (head_rest i t)) (codes "trail" ++ spelled (head_rest j u)) _ _ lines) in
    let opens : BeginsBehind t.first u.events = subst (λ (es : List Event). BeginsBehind t.first es) events a.opens in
    let first : t.first ≡ u.first = same_first t.first u.first u.events opens b.opens in
    (decimal_injective i j (omega (arith, a.numbered)) (omega (arith, b.numbered)) number, ap₂ (λ (n : ℕ) (es : List Event). record { first = n; events = es }) first events)
