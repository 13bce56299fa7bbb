-- The pages that a disk in memory keeps.
use Rattle.std.proofs.Common.{◌≡◌, ◌<◌, ℕ, Bool, true, false, cond, List, [], ◌∷◌, ◌++◌, length, take, drop, get_or, ap, sym, subst, ◌∙◌, arith}
use Rattle.std.specs.Prelude.{Option, Some, None, IfSome, IsSomeAnd, All, nat_lt, unwrap_or, if◌then◌else◌}
use Rattle.std.specs.Global.{Vec}
use Rattle.std.specs.BTreeMap.{is_at}
use Rattle.std.proofs.lemmas.Cmp.{eq_by_cmp_equiv}
use Rattle.std.proofs.lemmas.List.{append_assoc, append-nil, map-append, length-append, length-replicate, take_all, drop_all}
use Rattle.std.proofs.lemmas.Grind.{common_steps}
use Rattle.std.proofs.Math.Seq.{get_or-append_seam}
use Rattle.std.proofs.Math.ListN.{get_or-append}
use Rattle.page_ids.proofs.Basics.{pages_total}
use Rattle.page_ids.specs.Same.{page_cmp}
use Rattle.page_ids.specs.declared.ids.PageId.{PageId}
use Rattle.page_disk.specs.Disks.{IsInside}
use Rattle.page_disk.specs.MemoryDisks.{DiskMemory, KeptPage, whole, contents_of, kept_of, pages_of, spaces_of, bytes_in, told_of, IsKept, AreKeptSized}

-- a page is at itself
pub at_itself : (p : PageId) → is_at (page_cmp p) p ≡ true
at_itself p = (eq_by_cmp_equiv pages_total).refl p

-- two lists that keep the same of a page do so behind a third
kept_behind : (front olds news : List (PageId × KeptPage)) (p : PageId) → kept_of olds p ≡ kept_of news p → kept_of (front ++ olds) p ≡ kept_of (front ++ news) p
kept_behind [] olds news p same = same
kept_behind (e ∷ es) olds news p same = ap (cond (is_at (page_cmp p) e.0) (Some e.1)) (kept_behind es olds news p same)

-- the last page of the list goes to the map
pub kept_moves : (told left : List (PageId × Vec ℕ)) (page : PageId) (bytes : Vec ℕ) (old new : List (PageId × KeptPage)) (p : PageId)
    → told ≡ left ++ (page, bytes) ∷ [] → IsKept page (whole bytes.items) old new → kept_of (contents_of left ++ new) p ≡ kept_of (contents_of told ++ old) p
kept_moves told left page bytes old new p split put =
    let turned : kept_of new p ≡ kept_of ((page, whole bytes.items) ∷ old) p = put p ∙ ap (λ b. cond b (Some (whole bytes.items)) (kept_of old p)) ((eq_by_cmp_equiv pages_total).symm page p) in
    let parts : contents_of told ++ old ≡ contents_of left ++ (page, whole bytes.items) ∷ old
    = ap (λ xs. contents_of xs ++ old) split ∙ ap (λ xs. xs ++ old) (map-append _ left ((page, bytes) ∷ [])) ∙ append_assoc (contents_of left) ((page, whole bytes.items) ∷ []) old in
    kept_behind (contents_of left) new ((page, whole bytes.items) ∷ old) p turned ∙ ap (λ xs. kept_of xs p) (sym parts)

-- a page of this size more
pub sized_more : (size : ℕ) (page : PageId) (k : KeptPage) (old new : List (PageId × KeptPage)) → AreKeptSized size old → length k.bytes ≡ size
    → IsKept page k old new → AreKeptSized size new
sized_more size page k old new sized fits put p = rw (put p) (cases (is_at (page_cmp page) p))
  where
    cases : (b : Bool) → IfSome (cond b (Some k) (kept_of old p)) (λ kept. length kept.bytes ≡ size)
    cases true = fits
    cases false = sized p

-- what holds of all holds of the last
pub all_last : {X : Type 0} (P : X → Type 0) (xs ys : List X) (x : X) → xs ≡ ys ++ x ∷ [] → All P xs → P x
all_last P xs ys x split all =
    let long : length ys < length xs = omega (arith, ap length split, length-append ys (x ∷ [])) in
    subst P (ap (λ zs. get_or zs (length ys) x) split ∙ get_or-append_seam ys x [] x) (all (length ys) x long)

-- and of those before it
pub all_before : {X : Type 0} (P : X → Type 0) (xs ys : List X) (x : X) → xs ≡ ys ++ x ∷ [] → All P xs → All P ys
all_before P xs ys x split all k d below =
    let long : k < length xs = omega (arith, ap length split, length-append ys (x ∷ [])) in
    subst P (ap (λ zs. get_or zs k d) split ∙ get_or-append ys (x ∷ []) d k below) (all k d long)

-- every page has so many bytes
pub bytes_sized : (size : ℕ) (k : Option KeptPage) → IfSome k (λ kept. length kept.bytes ≡ size) → length (bytes_in size k) ≡ size
bytes_sized size None fits = length-replicate size 0
bytes_sized size (Some k) fits = fits

-- all bytes of a page put over what it had
pub over_all : (most : ℕ) (bytes before : List ℕ) → most ≡ length bytes → length before ≡ length bytes
    → take most bytes ++ drop (length (take most bytes)) before ≡ bytes
over_all most bytes before all long =
    let front : take most bytes ≡ bytes = ap (λ n. take n bytes) all ∙ take_all (length bytes) bytes (omega arith) in
    ap (λ xs. xs ++ drop (length xs) before) front ∙ ap (λ xs. bytes ++ xs) (drop_all (length bytes) before (omega (arith, long))) ∙ append-nil bytes

-- a page of a space that was written whole is told
pub told_whole : (old new : DiskMemory) (p : PageId) (bytes : List ℕ) → new.spaces ≡ old.spaces → IsInside (spaces_of old) p
    → IsKept p (whole bytes) old.kept new.kept → told_of new p ≡ Some bytes
told_whole old new p bytes spaces inside put =
    let there : kept_of new.kept p ≡ Some (whole bytes) = put p ∙ ap (λ b. cond b (Some (whole bytes)) (kept_of old.kept p)) (at_itself p) in
    rw (there, spaces) (told (pages_of old.spaces p.space) inside)
  where
    told : (n : Option ℕ) → IsSomeAnd n (λ m. p.page < m) → (if nat_lt p.page (unwrap_or n 0) then Some bytes else None) ≡ Some bytes
    told None inside = absurd inside
    told (Some m) inside = grind (arith, common_steps, inside)
