-- What a step does to what is seen of one frame, and to what is optionally told.
use Rattle.std.specs.Prelude.{IsSomeAnd, not, ◌&&◌}
use Rattle.std.specs.Option.{option_map}
use Rattle.std.proofs.Common.{◌≡◌, ℕ, zero, suc, List, [], ◌∷◌, Option, None, Some, ◌<◌, Bool, true, false, cond, length, get_or, set, refl, sym, ap, ◌∙◌, subst, arith, IfSome, IsSome, eq-eqb, length-set}
use Rattle.std.proofs.lemmas.Bool.{false≢true, true≢false, ne_eqb}
use Rattle.std.proofs.lemmas.List.{get_or-set_same, get_or-set_other}
use Rattle.page_ids.specs.Content.{Content}
use Rattle.page_ids.specs.Same.{same_page}
use Rattle.page_ids.specs.declared.ids.PageId.{PageId}
use Rattle.trail.specs.declared.event.Entry.{Entry}
use Rattle.trail.specs.declared.event.Kind.TheVariants as kind
use Rattle.trail.specs.History.{home, home_after, change, changes}
use Rattle.frame_words.specs.Rows.{Row, new_row, reached, published_row, laid_row, held_row}
use Rattle.frame_words.specs.Seen.{FramesSeen, row_at, with_row}
use Rattle.instance_lists.specs.Ledger.{IsVacant}
use Rattle.desk.specs.Steps.{loaded_row}
use Rattle.desk.specs.Tied.{IsTied, OnTold}
use Rattle.instance_lists.proofs.Dirt.{same_self, same_is}
use Rattle.desk.proofs.Keeping.{entry_of}
use mathlib.Core.Logic.{dite}
use native.Mathlib.Decide.{ℕ_discrete}

-- one row changes
pub row_here : (rows : List Row) (f : ℕ) (row : Row) → f < length rows → get_or (set rows f row) f new_row ≡ row
row_here rows f row inside = get_or-set_same rows f row new_row inside

pub row_else : (rows : List Row) (f g : ℕ) (row : Row) → (g ≡ f → ⊥) → get_or (set rows f row) g new_row ≡ get_or rows g new_row
row_else rows f g row other = get_or-set_other rows f g row new_row other

-- what holds of the new row and of all others holds of each
pub each_row : (P : ℕ → Row → Type 0) (rows : List Row) (f : ℕ) (row : Row) → P f row
    → ((g : ℕ) → (g ≡ f → ⊥) → g < length rows → P g (get_or rows g new_row)) → (g : ℕ) → g < length (set rows f row) → P g (get_or (set rows f row) g new_row)
each_row P rows f row one others g below =
    let inside : g < length rows = subst (λ (n : ℕ). g < n) (length-set rows f row) below in
    dite (ℕ_discrete g f)
    (λ same. subst (λ (k : ℕ). P k (get_or (set rows f row) k new_row)) (sym same)
    (subst (P f) (sym (row_here rows f row (subst (λ (k : ℕ). k < length rows) same inside))) one))
    (λ other. subst (P g) (sym (row_else rows f g row other)) (others g other inside))

pub set_twice : (rows : List Row) (f : ℕ) (a b : Row) → set (set rows f a) f b ≡ set rows f b
set_twice [] f a b = refl
set_twice (x ∷ xs) zero a b = refl
set_twice (x ∷ xs) (suc f) a b = ap (λ (l : List Row). x ∷ l) (set_twice xs f a b)

pub set_same : (rows : List Row) (f : ℕ) → set rows f (get_or rows f new_row) ≡ rows
set_same [] f = refl
set_same (x ∷ xs) zero = refl
set_same (x ∷ xs) (suc f) = ap (λ (l : List Row). x ∷ l) (set_same xs f)

-- a fix leaves all images
pub image_held : (rows : List Row) (f g : ℕ) → (get_or (set rows f (held_row (get_or rows f new_row))) g new_row).image ≡ (get_or rows g new_row).image
image_held [] f g = refl
image_held (r ∷ rs) zero zero = refl
image_held (r ∷ rs) zero (suc g) = refl
image_held (r ∷ rs) (suc f) zero = refl
image_held (r ∷ rs) (suc f) (suc g) = image_held rs f g

module _ {T : Type 0} where
  -- what is told stays told as it changes
  pub told_step : (o : Option T) (P Q : T → Type 0) → ((x : T) → o ≡ Some x → P x → Q x) → IfSome o P → IfSome o Q
  told_step None P Q step given = tt
  told_step (Some x) P Q step given = step x refl given

  pub told_map : {U : Type 0} (o : Option T) (f : T → U) (P : T → Type 0) (Q : U → Type 0) → ((x : T) → P x → Q (f x)) → IfSome o P → IfSome (option_map f o) Q
  told_map None f P Q step given = tt
  told_map (Some x) f P Q step given = step x given

  pub some_map : {U : Type 0} (o : Option T) (f : T → U) → IsSome o → IsSome (option_map f o)
  some_map None f is = is
  some_map (Some x) f is = refl

  pub some_mapped : {U : Type 0} (o : Option T) (f : T → U) → IsSome (option_map f o) → IsSome o
  some_mapped None f is = is
  some_mapped (Some x) f is = refl

pub reached_some : (held : Option ℕ) (b : Bool) (image : Option (Option Content)) → IsSome image → IsSome (reached held b image)
reached_some (Some n) b image is = is
reached_some None true None is = is
reached_some None true (Some x) is = refl
reached_some None false image is = is

pub reached_told : (held : Option ℕ) (b : Bool) (image : Option (Option Content)) (P : Content → Type 0) → OnTold image P → OnTold (reached held b image) P
reached_told (Some n) b image P is = is
reached_told None true None P is = tt
reached_told None true (Some x) P is = tt
reached_told None false image P is = is

-- an entry that leaves homes and clocks
pub row_still : (size frames : ℕ) (h : List Entry) (e : Entry) (r : Row) (f : ℕ) → ((p : PageId) → home_after e.kind p (home h p) ≡ home h p) → changes h e.kind f ≡ false
    → IsTied size frames h r f → IsTied size frames (e ∷ h) r f
row_still size frames h e r f homes clocks t = record {
  clock = t.clock ∙ sym (ap (λ (b : Bool). cond b e.place (change h f)) clocks);
  unlatched = t.unlatched;
  resident = λ is. homes r.page ∙ t.resident is;
  vacant = λ is q here. t.vacant is q (sym (homes q) ∙ here);
  there = t.there;
  sized = t.sized;
  told = t.told;
  bare = t.bare;
}

pub row_held : (size frames : ℕ) (h : List Entry) (r : Row) (f : ℕ) → IsTied size frames h r f → IsTied size frames h (held_row r) f
row_held size frames h r f t = record {
  clock = t.clock;
  unlatched = t.unlatched;
  resident = t.resident;
  vacant = t.vacant;
  there = t.there;
  sized = t.sized;
  told = t.told;
  bare = t.bare;
}

-- an image was laid into a frame of the chunk
pub row_laid : (size frames : ℕ) (h : List Entry) (r : Row) (f : ℕ) (c : Content) → f < frames → length c.bytes ≡ size
    → IsTied size frames h r f → IsTied size frames h (laid_row r c) f
row_laid size frames h r f c below fits t = record {
  clock = t.clock;
  unlatched = t.unlatched;
  resident = t.resident;
  vacant = t.vacant;
  there = λ is. refl;
  sized = fits;
  told = λ is away. refl;
  bare = λ beyond. absurd (omega (arith, beyond, below));
}

home_here : (h : List Entry) (place caller number : ℕ) (p : PageId) (f : ℕ) → home (entry_of place caller number (kind.Load p f) ∷ h) p ≡ Some f
home_here h place caller number p f = ap (λ (b : Bool). cond b (Some f) (home h p)) (same_self p)

-- the frame was published for the page that was loaded into it
pub row_loaded : (size frames : ℕ) (h : List Entry) (r : Row) (place caller number : ℕ) (p : PageId) (f : ℕ) → f < frames
    → IsTied size frames h r f → IsTied size frames (entry_of place caller number (kind.Load p f) ∷ h) (published_row r p place) f
row_loaded size frames h r place caller number p f below t = record {
  clock = sym (ap (λ (b : Bool). cond b place (change h f)) (eq-eqb f f refl));
  unlatched = t.unlatched;
  resident = λ is. home_here h place caller number p f;
  vacant = λ is. absurd (true≢false is);
  there = λ is. reached_some r.held (true && not r.latched) r.image (t.there is);
  sized = reached_told r.held (true && not r.latched) r.image (λ c. length c.bytes ≡ size) t.sized;
  told = λ is away. absurd (true≢false away);
  bare = λ beyond. absurd (omega (arith, beyond, below));
}

some_number : (a b : ℕ) → Some a ≡ Some b → a ≡ b
some_number a b same = cc

-- and every other frame is as it was
pub row_other : (size frames : ℕ) (h : List Entry) (r : Row) (place caller number : ℕ) (p : PageId) (f g : ℕ) → (g ≡ f → ⊥) → home h p ≡ None
    → IsTied size frames h r g → IsTied size frames (entry_of place caller number (kind.Load p f) ∷ h) r g
row_other size frames h r place caller number p f g other absent t = record {
  clock = t.clock ∙ sym (ap (λ (b : Bool). cond b place (change h g)) (ne_eqb f g (λ e. other (sym e))));
  unlatched = t.unlatched;
  resident = λ is. kept (same_page p r.page) refl (t.resident is);
  vacant = λ is q here. gone is q (same_page p q) here;
  there = t.there;
  sized = t.sized;
  told = t.told;
  bare = t.bare;
}
  where
    kept : (b : Bool) → same_page p r.page ≡ b → home h r.page ≡ Some g → cond b (Some f) (home h r.page) ≡ Some g
    kept true same here = let none : None ≡ Some g = sym absent ∙ ap (home h) (same_is p r.page same) ∙ here in absurd (cc)
    kept false same here = here

    gone : r.resident ≡ false → (q : PageId) (b : Bool) → cond b (Some f) (home h q) ≡ Some g → ⊥
    gone is q true here = other (sym (some_number f g here))
    gone is q false here = t.vacant is q here

-- a frame that is no page's home isn't resident
pub vacant_away : (size frames : ℕ) (h : List Entry) (r : Row) (f : ℕ) → IsTied size frames h r f → IsVacant h f → r.resident ≡ false
vacant_away size frames h r f t vacant = go r.resident refl
  where
    go : (b : Bool) → r.resident ≡ b → r.resident ≡ false
    go false is = is
    go true is = absurd (vacant r.page (t.resident is))

told_content : (size : ℕ) (image : Option (Option Content)) → IsSomeAnd image (λ told. IsSome told) → OnTold image (λ c. length c.bytes ≡ size)
    → (c : Content) × (image ≡ Some (Some c)) × (length c.bytes ≡ size)
told_content size None is sized = absurd is
told_content size (Some None) is sized = absurd (false≢true is)
told_content size (Some (Some c)) is sized = (c, refl, sized)

-- the image of a frame that is no page's home, with a page's size
pub vacant_image : (size frames : ℕ) (h : List Entry) (r : Row) (f : ℕ) → IsTied size frames h r f → IsVacant h f → f < frames
    → (c : Content) × (r.image ≡ Some (Some c)) × (length c.bytes ≡ size)
vacant_image size frames h r f t vacant below = told_content size r.image (t.told below (vacant_away size frames h r f t vacant)) t.sized

-- a page was read into a frame, and published there
pub loaded_rows : (s t : FramesSeen) (f : ℕ) (p : PageId) (place : ℕ) (c : Content) → f < length s.rows → t ≡ with_row s f (laid_row (row_at s f) c)
    → set t.rows f (published_row (row_at t f) p place) ≡ set s.rows f (loaded_row (row_at s f) p c place)
loaded_rows s t f p place c inside seen =
    let row = laid_row (row_at s f) c in
    ap (λ (x : FramesSeen). set x.rows f (published_row (row_at x f) p place)) seen
    ∙ ap (λ (r : Row). set (set s.rows f row) f (published_row r p place)) (row_here s.rows f row inside)
    ∙ set_twice s.rows f row (published_row row p place)
