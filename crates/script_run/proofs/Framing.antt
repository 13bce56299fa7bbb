-- Frames beside the fixes of a worker.
use Rattle.std.proofs.Common.{◌≡◌, ◌≢◌, ℕ, zero, suc, Bool, true, false, cond, List, [], ◌∷◌, ◌++◌, ◌+◌, ◌-◌, ◌<◌, ◌≤◌, Option, Some, None, IfSome, IsSome, length, refl, ap, ◌∙◌, sym, subst, nat_eq, eq-eqb, set, length-set, arith}
use Rattle.std.specs.Option.{option_map, option_map_or}
use Rattle.std.proofs.lemmas.Bool.Decides.{nat_tests}
use Rattle.std.proofs.lemmas.List.{get_or-set_same, get_or-set_other}
use Rattle.page_ids.specs.Content.{Content}
use Rattle.page_ids.specs.Size.{page_bytes}
use Rattle.page_ids.specs.declared.ids.PageId.{PageId}
use Rattle.page_disk.specs.Disks.{DiskSeen}
use Rattle.trail.specs.History.{home, value}
use Rattle.trail.specs.declared.event.Entry.{Entry}
use Rattle.trail.specs.declared.event.Held.{Held}
use Rattle.frame_words.specs.Rows.{Row, new_row, held_row}
use Rattle.frame_words.specs.Seen.{FramesSeen, History}
use Rattle.frame_words.specs.Plain.{Plain, seen_of, held_of, room_of, unheld_row}
use Rattle.desk.specs.Base.{Opened}
use Rattle.desk.specs.Behind.{IsValueIn}
use Rattle.desk.specs.State.{State}
use Rattle.desk.specs.Steps.{row_in}
use Rattle.desk.specs.Tied.{AreTied, IsTied, OnTold, TellsAll}
use Rattle.script_run.specs.Work.{IsWorkerReady, IsUndisturbed, HasRange, AreHeld, AreHoused, IsBehindIt, fixes_of_frame, given_at}
use mathlib.Core.Logic.{dite}
use native.Mathlib.Decide.{ℕ_discrete}

same_frame : (x : Held) (f : ℕ) (held : List Held) → f ≡ x.frame → fixes_of_frame f (x ∷ held) ≡ fixes_of_frame f held + 1
same_frame x f held same = ap (λ (b : Bool). cond b (fixes_of_frame f held + 1) (fixes_of_frame f held)) (eq-eqb x.frame f (sym same))

not_frame : (m n : ℕ) → n ≢ m → nat_eq m n ≡ false
not_frame m n other = grind (arith, nat_tests, other)

other_frame : (x : Held) (f : ℕ) (held : List Held) → f ≢ x.frame → fixes_of_frame f (x ∷ held) ≡ fixes_of_frame f held
other_frame x f held other = ap (λ (b : Bool). cond b (fixes_of_frame f held + 1) (fixes_of_frame f held)) (not_frame x.frame f other)

few_test : (b : Bool) (n m : ℕ) → n ≤ m → cond b (n + 1) n ≤ m + 1
few_test true n m le = omega (arith, le)
few_test false n m le = omega (arith, le)

fixes_few : (f : ℕ) (held : List Held) → fixes_of_frame f held ≤ length held
fixes_few f [] = omega arith
fixes_few f (x ∷ held) = let le = few_test (nat_eq x.frame f) (fixes_of_frame f held) (length held) (fixes_few f held) in omega (arith, le)

swapped : (a b : Bool) (n : ℕ) → cond a (cond b (n + 1) n + 1) (cond b (n + 1) n) ≡ cond b (cond a (n + 1) n + 1) (cond a (n + 1) n)
swapped true true n = refl
swapped true false n = refl
swapped false true n = refl
swapped false false n = refl

-- the fixes of a frame, in any order
fixes_mid : (f : ℕ) (xs : List Held) (x : Held) (ys : List Held) → fixes_of_frame f (xs ++ x ∷ ys) ≡ fixes_of_frame f (x ∷ (xs ++ ys))
fixes_mid f [] x ys = refl
fixes_mid f (y ∷ xs) x ys = ap (λ n. cond (nat_eq y.frame f) (n + 1) n) (fixes_mid f xs x ys) ∙ swapped (nat_eq y.frame f) (nat_eq x.frame f) (fixes_of_frame f (xs ++ ys))

inside_of : (rows : List Row) (i : ℕ) (row : Row) (f : ℕ) → f < length (set rows i row) → f < length rows
inside_of rows i row f below = subst (λ (n : ℕ). f < n) (length-set rows i row) below

row_here : (rows : List Row) (i : ℕ) (row : Row) (f : ℕ) → f ≡ i → f < length rows → (row_in (set rows i row) f).held ≡ row.held
row_here rows i row f same inside =
    ap (λ k. (row_in (set rows i row) k).held) same ∙ ap (λ (r : Row). r.held) (get_or-set_same rows i row new_row (subst (λ (k : ℕ). k < length rows) same inside))

row_else : (rows : List Row) (i : ℕ) (row : Row) (f : ℕ) → f ≢ i → (row_in (set rows i row) f).held ≡ (row_in rows f).held
row_else rows i row f other = ap (λ (r : Row). r.held) (get_or-set_other rows i f row new_row other)

-- a frame changes, and has one fix more
pub held_with : (rows : List Row) (fixed : List Held) (x : Held) (row : Row) → row.held ≡ option_map (λ n. n + 1) (row_in rows x.frame).held → AreHeld rows fixed → AreHeld (set rows x.frame row) (x ∷ fixed)
held_with rows fixed x row more held = λ f below.
    let inside = inside_of rows x.frame row f below in
    dite (ℕ_discrete f x.frame)
    (λ same. row_here rows x.frame row f same inside ∙ more ∙ ap (λ k. option_map (λ n. n + 1) (row_in rows k).held) (sym same) ∙ ap (option_map (λ n. n + 1)) (held f inside) ∙ ap Some (sym (same_frame x f fixed same)))
    (λ other. row_else rows x.frame row f other ∙ held f inside ∙ ap Some (sym (other_frame x f fixed other)))

-- and nothing else of it changes
pub held_more : (rows : List Row) (fixed : List Held) (x : Held) → AreHeld rows fixed → AreHeld (set rows x.frame (held_row (row_in rows x.frame))) (x ∷ fixed)
held_more rows fixed x held = held_with rows fixed x (held_row (row_in rows x.frame)) refl held

-- a frame changes, and keeps its fixes
pub held_kept : (rows : List Row) (fixed : List Held) (i : ℕ) (row : Row) → row.held ≡ (row_in rows i).held → AreHeld rows fixed → AreHeld (set rows i row) fixed
held_kept rows fixed i row kept held = λ f below.
    let inside = inside_of rows i row f below in
    dite (ℕ_discrete f i)
    (λ same. row_here rows i row f same inside ∙ kept ∙ ap (λ k. (row_in rows k).held) (sym same) ∙ held f inside)
    (λ other. row_else rows i row f other ∙ held f inside)

less_one : (n : ℕ) → n + 1 - 1 ≡ n
less_one n = omega arith

-- one fix less
held_less : (rows : List Row) (xs : List Held) (x : Held) (ys : List Held) → AreHeld rows (xs ++ x ∷ ys) → AreHeld (set rows x.frame (unheld_row (row_in rows x.frame))) (xs ++ ys)
held_less rows xs x ys held = λ f below.
    let row = unheld_row (row_in rows x.frame) in
    let inside = inside_of rows x.frame row f below in
    let was : (row_in rows f).held ≡ Some (fixes_of_frame f (x ∷ (xs ++ ys))) = held f inside ∙ ap Some (fixes_mid f xs x ys) in
    dite (ℕ_discrete f x.frame)
    (λ same. row_here rows x.frame row f same inside ∙ ap (λ k. option_map (λ n. n - 1) (row_in rows k).held) (sym same)
    ∙ ap (option_map (λ n. n - 1)) (was ∙ ap Some (same_frame x f (xs ++ ys) same)) ∙ ap Some (less_one (fixes_of_frame f (xs ++ ys))))
    (λ other. row_else rows x.frame row f other ∙ was ∙ ap Some (other_frame x f (xs ++ ys) other))

-- but for its fixes, each frame is as it was
given_row : (rows : List Row) (f g : ℕ) (held : Option ℕ) → (k : Option ℕ) × (row_in (set rows f (record (row_in rows f) { held = held })) g ≡ record (row_in rows g) { held = k })
given_row [] f g held = (Some 0, refl)
given_row (r ∷ rows) zero zero held = (held, refl)
given_row (r ∷ rows) zero (suc g) held = ((row_in rows g).held, refl)
given_row (r ∷ rows) (suc f) zero held = (r.held, refl)
given_row (r ∷ rows) (suc f) (suc g) held = given_row rows f g held

given_is : (frames : Plain) (f g : ℕ) → (k : Option ℕ) × (row_in (given_at frames f).rows g ≡ record (row_in frames.rows g) { held = k })
given_is frames f g = given_row frames.rows f g (option_map (λ n. n - 1) (row_in frames.rows f).held)

tied_row : (size frames : ℕ) (h : List Entry) (r : Row) (f : ℕ) (k : Option ℕ) → IsTied size frames h r f → IsTied size frames h (record r { held = k }) f
tied_row size frames h r f k tied = record {
  clock = tied.clock;
  unlatched = tied.unlatched;
  resident = tied.resident;
  vacant = tied.vacant;
  there = tied.there;
  sized = tied.sized;
  told = tied.told;
  bare = tied.bare;
}

no_fixes : (o : Option ℕ) → option_map (λ n. n - 1) o ≡ None → o ≡ None
no_fixes None is = refl
no_fixes (Some n) is = absurd (cc)

tied_given : {D : Type 0} (seen : D → DiskSeen) (desk : State D) (frames : Plain) (f : ℕ) → AreTied seen (seen_of frames) desk → AreTied seen (seen_of (given_at frames f)) desk
tied_given seen desk frames f tied =
    let row = unheld_row (row_in frames.rows f) in
    let long : length (given_at frames f).rows ≡ length frames.rows = length-set frames.rows f row in
    record {
      count = long ∙ tied.count;
      whole = subst (λ (n : ℕ). desk.config.frames ≤ n) (sym long) tied.whole;
      rows = λ g below.
          let is = given_is frames f g in
          let T : Row → Type 0 = λ r. IsTied (page_bytes desk.config.page) desk.config.frames desk.history r g in
          subst T (sym is.1) (tied_row (page_bytes desk.config.page) desk.config.frames desk.history (row_in frames.rows g) g is.0 (tied.rows g (inside_of frames.rows f row g below)));
      stamped = λ p g d here dirty.
          let T : Row → Type 0 = λ r. OnTold r.image (λ c. c.lsn ≡ d.newest) in
          subst T (sym (given_is frames f g).1) (tied.stamped p g d here dirty);
      unvisited = refl;
      none_owed = tied.none_owed;
      history = tt;
      known = λ g below none. tied.known g (inside_of frames.rows f row g below) (ap (λ (r : Row). r.image) (sym (given_is frames f g).1) ∙ none);
      shared = λ g below none.
          let inside = inside_of frames.rows f row g below in
          tied.shared g inside (dite (ℕ_discrete g f)
          (λ same. no_fixes (row_in frames.rows g).held (ap (λ k. option_map (λ n. n - 1) (row_in frames.rows k).held) same ∙ sym (row_here frames.rows f row g same inside) ∙ none))
          (λ other. sym (row_else frames.rows f row g other) ∙ none));
      own = tied.own;
      valued = tt;
    }

value_in : (o : Opened) (s t : FramesSeen) (image : Option (Option Content)) (v : Option Content) → s.base ≡ t.base → IsValueIn o s image v → IsValueIn o t image v
value_in o s t None v same is = is
value_in o s t (Some None) v same is = (sym same ∙ is.0, is.1)
value_in o s t (Some (Some c)) v same is = is

-- a fix that is given back leaves the images
pub behind_given : {D : Type 0} (seen : D → DiskSeen) (o : Opened) (desk : State D) (frames : Plain) (f : ℕ) → IsBehindIt seen o desk frames → IsBehindIt seen o desk (given_at frames f)
behind_given seen o desk frames f is = record {
  size = is.size;
  pages = is.pages;
  based = is.based;
  telling = is.telling;
  values = λ p g here.
      let V : Row → Type 0 = λ r. IsValueIn o (seen_of (given_at frames f)) r.image (value o.size o.base desk.history p) in
      subst V (sym (given_is frames f g).1) (value_in o (seen_of frames) (seen_of (given_at frames f)) (row_in frames.rows g).image (value o.size o.base desk.history p) refl (is.values p g here));
  written = is.written;
  unwritten = is.unwritten;
  clean = is.clean;
  valued = is.valued;
}

housed_mid : (h : List Entry) (xs : List Held) (x : Held) (ys : List Held) → AreHoused h (xs ++ x ∷ ys) → AreHoused h (xs ++ ys)
housed_mid h [] x ys was = was.1
housed_mid h (y ∷ xs) x ys was = (was.0, housed_mid h xs x ys was.1)

pub fewer_mid : (xs : List Held) (x : Held) (ys : List Held) → length (xs ++ ys) ≤ length (xs ++ x ∷ ys)
fewer_mid [] x ys = omega arith
fewer_mid (y ∷ xs) x ys = omega (arith, fewer_mid xs x ys)

pub ready_given : {D : Type 0} (seen : D → DiskSeen) (desk : State D) (frames : Plain) (xs : List Held) (x : Held) (ys : List Held) → IsWorkerReady seen desk frames (xs ++ x ∷ ys) → IsWorkerReady seen desk (given_at frames x.frame) (xs ++ ys)
ready_given seen desk frames xs x ys ready = record {
  tied = tied_given seen desk frames x.frame ready.tied;
  hands = ready.hands;
  homes = ready.homes;
  apart = ready.apart;
  housed = housed_mid desk.history xs x ys ready.housed;
  held = held_less frames.rows xs x ys ready.held;
  few = omega (arith, fewer_mid xs x ys, ready.few);
}

-- the frame of a page is at rest between the calls
pub at_rest : {D : Type 0} (seen : D → DiskSeen) (desk : State D) (frames : Plain) (fixed : List Held) (f : ℕ) → IsWorkerReady seen desk frames fixed → f < desk.config.frames → IsUndisturbed frames f
at_rest seen desk frames fixed f ready below =
    let inside : f < length frames.rows = omega (arith, ready.tied.whole, below) in
    record { inside = inside; unvisited = ready.tied.unvisited; unlatched = (ready.tied.rows f inside).unlatched }

mid_home : (h : List Entry) (xs : List Held) (x : Held) (ys : List Held) → AreHoused h (xs ++ x ∷ ys) → (p : PageId) × (home h p ≡ Some x.frame)
mid_home h [] x ys was = (x.page, was.0)
mid_home h (y ∷ xs) x ys was = mid_home h xs x ys was.1

pub rest_mid : {D : Type 0} (seen : D → DiskSeen) (desk : State D) (frames : Plain) (xs : List Held) (x : Held) (ys : List Held) → IsWorkerReady seen desk frames (xs ++ x ∷ ys) → IsUndisturbed frames x.frame
rest_mid seen desk frames xs x ys ready =
    let at = mid_home desk.history xs x ys ready.housed in
    at_rest seen desk frames (xs ++ x ∷ ys) x.frame ready (ready.homes at.0 x.frame at.1)

-- a frame of which there is a fix has one
pub some_held : {D : Type 0} (seen : D → DiskSeen) (desk : State D) (frames : Plain) (xs : List Held) (x : Held) (ys : List Held) → IsWorkerReady seen desk frames (xs ++ x ∷ ys) → 0 < held_of (row_in frames.rows x.frame)
some_held seen desk frames xs x ys ready =
    let rest = rest_mid seen desk frames xs x ys ready in
    let is : (row_in frames.rows x.frame).held ≡ Some (fixes_of_frame x.frame (xs ++ ys) + 1) =
    ready.held x.frame rest.inside ∙ ap Some (fixes_mid x.frame xs x ys ∙ same_frame x x.frame (xs ++ ys) refl) in
    let n : held_of (row_in frames.rows x.frame) ≡ fixes_of_frame x.frame (xs ++ ys) + 1 = ap (λ (h : Option ℕ). option_map_or (λ held. held) h 0) is in
    omega (arith, n)

-- few fixes leave room in each frame's word
pub room_left : {D : Type 0} (seen : D → DiskSeen) (desk : State D) (frames : Plain) (fixed : List Held) (f : ℕ) → IsWorkerReady seen desk frames fixed → f < length frames.rows → 0 < room_of frames f
room_left seen desk frames fixed f ready inside =
    let n : held_of (row_in frames.rows f) ≡ fixes_of_frame f fixed = ap (λ (h : Option ℕ). option_map_or (λ held. held) h 0) (ready.held f inside) in
    omega (arith, n, fixes_few f fixed, ready.few)

none_told : IsSome {T = History} None → ⊥
none_told some = absurd (cc)

image_told : (image : Option (Option Content)) → (image ≡ Some None → ⊥) → IfSome image (λ told. IsSome told)
image_told None told = tt
image_told (Some None) told = absurd (told refl)
image_told (Some (Some c)) told = refl

-- each fix is the worker's, and what each image holds is told
pub all_told : {D : Type 0} (seen : D → DiskSeen) (desk : State D) (frames : Plain) (fixed : List Held) → IsWorkerReady seen desk frames fixed → TellsAll (seen_of frames)
all_told seen desk frames fixed ready = λ f inside.
    let S : Option ℕ → Type 0 = λ held. IsSome held in
    (subst S (sym (ready.held f inside)) refl, image_told (row_in frames.rows f).image (λ none. none_told (ready.tied.known f inside none).0))

has_range : (image : Option (Option Content)) (size at len : ℕ) → IsSome image → (image ≡ Some None → ⊥) → OnTold image (λ c. length c.bytes ≡ size) → 0 < len → 38 ≤ at → at + len ≤ size - 8 → HasRange image at len
has_range None size at len there told sized some header trailer = absurd (cc)
has_range (Some None) size at len there told sized some header trailer = absurd (told refl)
has_range (Some (Some c)) size at len there told sized some header trailer = record { some = some; header = header; trailer = subst (λ (n : ℕ). at + len ≤ n - 8) (sym sized) trailer }

-- the image of a page's frame is told, and has the range
pub range_of : {D : Type 0} (seen : D → DiskSeen) (desk : State D) (frames : Plain) (fixed : List Held) (f at len : ℕ) → IsWorkerReady seen desk frames fixed → f < desk.config.frames
    → 0 < len → 38 ≤ at → at + len ≤ page_bytes desk.config.page - 8 → HasRange (row_in frames.rows f).image at len
range_of seen desk frames fixed f at len ready below some header trailer =
    let inside : f < length frames.rows = omega (arith, ready.tied.whole, below) in
    let row = ready.tied.rows f inside in
    has_range (row_in frames.rows f).image (page_bytes desk.config.page) at len (row.there below) (λ none. none_told (ready.tied.known f inside none).0) row.sized some header trailer
