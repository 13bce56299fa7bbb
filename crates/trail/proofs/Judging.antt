-- What single laws come to where more is known: lemmas about the definitions, which crates above may cite.
use Rattle.std.proofs.Common.{◌≡◌, ◌<◌, ◌≤◌, ℕ, Bool, true, false, cond, List, [], ◌∷◌, ◌++◌, ◌+◌, ◌&&◌, ◌⊎◌, inl, inr, not, filter, Option, None, Some, refl, ap, ◌∙◌, sym, eq-eqb, nat_eq, nat_le, IfSome, arith}
use Rattle.std.proofs.lemmas.Bool.Decides.{nat_tests}
use Rattle.std.specs.Prelude.{⊤}
use Rattle.std.specs.List.{AllByRecursion}
use Rattle.std.specs.Option.{option_map_or, option_or}
use Rattle.page_ids.specs.declared.ids.PageId.{PageId}
use Rattle.trail.specs.declared.event.Cause.{Cause}
use Rattle.trail.specs.declared.event.Event.{Event}
use Rattle.trail.specs.declared.event.Event.TheVariants as event
use Rattle.trail.specs.Trails.{Opening, most}
use Rattle.trail.specs.Kinds.{Refusing, refusal_in, refusal_noted}
use Rattle.trail.specs.declared.event.Hand.{Hand}
use Rattle.trail.specs.Book.{Book, first_in, frame_in_turn, give, give_next, is_holder, is_in_area, next_frame, use_frame}
use Rattle.trail.specs.Spaces.{IsNotMissing, IsOutside, named_page, page_noted, page_shown, pages_in_cause, pages_told_by, shown_pages, told_pages}
use Rattle.trail.specs.Promises.{ArePromised, IsNoteOfSpaces, IsOfSpaces}
use Rattle.trail.specs.Alone.{IsTrueEvent}
use Rattle.trail.specs.Laws.{AreLawful, IsLawful}

-- How many pages a space has, as a trail whose events tell it right shows it.
pub record IsSpaceOf (pages : ℕ → ℕ) (past : List Event) (s : ℕ) : Type 0 where
  pub told : IfSome (told_pages past s) (λ n. n ≡ pages s)
  pub shown : shown_pages past s ≤ pages s

number_is : (m n : ℕ) → nat_eq m n ≡ true → m ≡ n
number_is m n h = grind (arith, nat_tests)

told_by : (pages : ℕ → ℕ) (s : ℕ) (sought : Option PageId) (cause : Option ℕ) (past : Option ℕ) → IfSome sought (λ p. IfSome cause (λ n. n ≡ pages p.space)) → IfSome past (λ n. n ≡ pages s)
    → IfSome (option_map_or (λ (p : PageId). cond (nat_eq p.space s) (option_map_or (λ n. Some n) cause past) past) sought past) (λ n. n ≡ pages s)
told_by pages s None cause past is was = was
told_by pages s (Some p) None past is was = cases (nat_eq p.space s)
  where
    cases : (b : Bool) → IfSome (cond b past past) (λ n. n ≡ pages s)
    cases true = was
    cases false = was
told_by pages s (Some p) (Some n) past is was = cases (nat_eq p.space s) refl
  where
    cases : (b : Bool) → nat_eq p.space s ≡ b → IfSome (cond b (Some n) past) (λ n. n ≡ pages s)
    cases true t = is ∙ ap pages (number_is p.space s t)
    cases false t = was

pub told_after : (pages : ℕ → ℕ) (s : ℕ) (refusal : Option Refusing) (past : Option ℕ) → IfSome refusal (λ r. IfSome (named_page r.call) (λ p. IfSome (pages_in_cause r.cause) (λ n. n ≡ pages p.space)))
    → IfSome past (λ n. n ≡ pages s) → IfSome (option_map_or (λ r. pages_told_by s r past) refusal past) (λ n. n ≡ pages s)
told_after pages s None past is was = was
told_after pages s (Some r) past is was = told_by pages s (named_page r.call) (pages_in_cause r.cause) past is was

most_below : (m n k : ℕ) → m ≤ k → n ≤ k → most m n ≤ k
most_below m n k first next = cases (nat_le m n)
  where
    cases : (b : Bool) → cond b n m ≤ k
    cases true = next
    cases false = first

pub shown_after : (pages : ℕ → ℕ) (s : ℕ) (page : Option PageId) (past : ℕ) → IfSome page (λ p. p.page < pages p.space) → past ≤ pages s
    → option_map_or (λ (p : PageId). cond (nat_eq p.space s) (most (p.page + 1) past) past) page past ≤ pages s
shown_after pages s None past is was = was
shown_after pages s (Some p) past is was = cases (nat_eq p.space s) refl
  where
    cases : (b : Bool) → nat_eq p.space s ≡ b → cond b (most (p.page + 1) past) past ≤ pages s
    cases true t = let same : pages p.space ≡ pages s = ap pages (number_is p.space s t) in most_below (p.page + 1) past (pages s) (omega (arith, is, same)) was
    cases false t = was

pub spaces_of : (o : Opening) (pages : ℕ → ℕ) (past : List Event) → ArePromised o pages past → (s : ℕ) → IsSpaceOf pages past s
spaces_of o pages [] promised s = record { told = tt; shown = omega arith }
spaces_of o pages (event.Entry e ∷ past) promised s =
    let was = spaces_of o pages past promised.1 s in
    let of : IsOfSpaces pages e.kind = promised.0.0 in
    record {
      told = told_after pages s (refusal_in e.kind) (told_pages past s) of.told was.told;
      shown = shown_after pages s (page_shown e.kind) (shown_pages past s) of.inside was.shown;
    }
spaces_of o pages (event.Receipt r ∷ past) promised s =
    let was = spaces_of o pages past promised.1 s in
    let of : IsNoteOfSpaces pages r.note = promised.0.0 in
    record {
      told = told_after pages s (refusal_noted r.note) (told_pages past s) of.told was.told;
      shown = shown_after pages s (page_noted r.note) (shown_pages past s) of.inside was.shown;
    }

below_told : (pages told page : ℕ) → told ≡ pages → page < pages → page < told
below_told pages told page same less = omega (arith, same, less)

-- a page of the space, and one that isn't there
pub inside_of : (pages : ℕ → ℕ) (past : List Event) (p : PageId) → IsSpaceOf pages past p.space → p.page < pages p.space → IsNotMissing past p
inside_of pages past p of less = go (told_pages past p.space) of.told
  where
    go : (o : Option ℕ) → IfSome o (λ n. n ≡ pages p.space) → IfSome o (λ n. p.page < n)
    go None is = tt
    go (Some n) is = below_told (pages p.space) n p.page is less

pub outside_of : (pages : ℕ → ℕ) (past : List Event) (p : PageId) (n : ℕ) → IsSpaceOf pages past p.space → n ≡ pages p.space → n ≤ p.page → IsOutside past p n
outside_of pages past p n of is behind = record {
  behind = behind;
  same = go (told_pages past p.space) of.told;
  shown = omega (arith, of.shown, is);
}
  where
    go : (o : Option ℕ) → IfSome o (λ m. m ≡ pages p.space) → IfSome o (λ m. m ≡ n)
    go None was = tt
    go (Some m) was = was ∙ sym is

-- a fact of every number holds of each of some
pub of_all : {A : Type 0} (P : A → Type 0) (xs : List A) → ((x : A) → P x) → AllByRecursion P xs
of_all P [] each = tt
of_all P (x ∷ xs) each = (each x, of_all P xs each)

-- the first exact cause of a call is the one that its refusal tells
pub first_of : (first behind : Option Cause) (why : Cause) → first ≡ Some why → option_or first behind ≡ Some why
first_of first behind why is = ap (λ x. option_or x behind) is

-- No frame is in hand, or one is in this call's alone.
abbrev pub HasTurn : Book → ℕ → ℕ → Type 0
HasTurn b c n = (b.hands ≡ []) ⊎ ((f : ℕ) × (b.hands ≡ record { frame = f; caller = c; number = n } ∷ []))

held_self : (c n : ℕ) → (nat_eq c c && nat_eq n n) ≡ true
held_self c n = ap (λ (t : Bool). t && nat_eq n n) (eq-eqb c c refl) ∙ eq-eqb n n refl

-- then the next frame is the one that the call takes
pub turn_of : (b : Book) (c n : ℕ) → HasTurn b c n → next_frame b c n ≡ frame_in_turn b
turn_of b c n (inl none) = ap (λ hands. first_in (filter (is_holder c n) hands) b.free) none ∙ sym (ap (λ hands. first_in hands b.free) none)
turn_of b c n (inr (f, own)) =
    let x : Hand = record { frame = f; caller = c; number = n } in
    ap (λ hands. first_in (filter (is_holder c n) hands) b.free) own
    ∙ ap (λ (t : Bool). first_in (cond t (x ∷ []) []) b.free) (held_self c n) ∙ sym (ap (λ hands. first_in hands b.free) own)

-- and none is in hand behind it
pub used_up : (b : Book) (c n f : ℕ) → HasTurn b c n → frame_in_turn b ≡ Some f → (use_frame f b).hands ≡ []
used_up b c n f (inl none) is = ap (filter (λ (x : Hand). not (nat_eq x.frame f))) none
used_up b c n f (inr (g, own)) is =
    let x : Hand = record { frame = g; caller = c; number = n } in
    let here : g ≡ f = some_one g f (sym (ap (λ hands. first_in hands b.free) own) ∙ is) in
    ap (filter (λ (x : Hand). not (nat_eq x.frame f))) own ∙ ap (λ (t : Bool). cond (not t) (x ∷ []) []) (eq-eqb g f here)
  where
    some_one : (m n : ℕ) → Some m ≡ Some n → m ≡ n
    some_one m n e = cc

pub given_up : (per : ℕ) (b : Book) (c n : ℕ) → HasTurn b c n → (give_next per c n b).hands ≡ []
given_up per b c n has = cases (next_frame b c n) (sym (turn_of b c n has))
  where
    given : (f : ℕ) → (use_frame f b).hands ≡ [] → (give per f b).hands ≡ []
    given f used = by_area (is_in_area per b f)
      where
        by_area : (t : Bool) → (let used = use_frame f b in let after : Book = cond t (record used { withdrawn = b.withdrawn ++ f ∷ [] }) (record used { free = used.free ++ f ∷ [] }) in after.hands) ≡ []
        by_area true = used
        by_area false = used

    empty : HasTurn b c n → frame_in_turn b ≡ None → b.hands ≡ []
    empty (inl none) is = none
    empty (inr (f, own)) is = absurd (some_none f (sym (ap (λ hands. first_in hands b.free) own) ∙ is))
      where
        some_none : (m : ℕ) → Some m ≡ None → ⊥
        some_none m e = cc

    cases : (o : Option ℕ) → frame_in_turn b ≡ o → (option_map_or (λ f. give per f b) o b).hands ≡ []
    cases None is = empty has is
    cases (Some f) is = given f (used_up b c n f has is)

-- Words are true at each event of a trail, where this is its sole caller. They are the one law that reads it.
abbrev pub AreTrue : Option ℕ → List Event → Type 0
AreTrue sole [] = ⊤
AreTrue sole (e ∷ past) = IsTrueEvent sole past e × AreTrue sole past

pub words_of : (o : Opening) (sole : Option ℕ) (past : List Event) → AreLawful o sole past → AreTrue sole past
words_of o sole [] good = tt
words_of o sole (e ∷ past) good = (good.0.words, words_of o sole past good.1)

pub with_true : (o : Opening) (was sole : Option ℕ) (past : List Event) (e : Event) → IsLawful o was past e → IsTrueEvent sole past e → IsLawful o sole past e
with_true o was sole past e law words =
    record { legal = law.legal; order = law.order; still = law.still; covered = law.covered; causes = law.causes; words = words; victim = law.victim; withdrawal = law.withdrawal }

pub with_words : (o : Opening) (was sole : Option ℕ) (past : List Event) → AreLawful o was past → AreTrue sole past → AreLawful o sole past
with_words o was sole [] good words = tt
with_words o was sole (e ∷ past) good words =
    (with_true o was sole past e good.0 words.0, with_words o was sole past good.1 words.1)

-- which nothing asks where there is none
pub unasked : (o : Opening) (sole : Option ℕ) (past : List Event) → AreLawful o sole past → AreLawful o None past
unasked o sole past good = with_words o sole None past good (none past)
  where
    none : (past : List Event) → AreTrue None past
    none [] = tt
    none (e ∷ past) = (tt, none past)
