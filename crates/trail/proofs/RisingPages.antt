-- In a trail that is lawful so far, the dirty pages rise by the start of their first change.
use Rattle.std.proofs.Common.{◌≡◌, ℕ, zero, suc, Bool, true, false, not, cond, List, [], ◌∷◌, ◌<◌, ◌≤◌, Option, Some, slice_get, subst, arith}
use Rattle.std.specs.Prelude.{⊤}
use Rattle.page_ids.specs.Same.{same_page}
use Rattle.page_ids.specs.declared.ids.PageId.{PageId}
use Rattle.trail.specs.declared.event.Dirty.{Dirty}
use Rattle.trail.specs.declared.event.Entry.{Entry}
use Rattle.trail.specs.declared.event.Event.{Event}
use Rattle.trail.specs.declared.event.Event.TheVariants as event
use Rattle.trail.specs.declared.event.Kind.{Kind}
use Rattle.trail.specs.declared.event.Kind.TheVariants as kind
use Rattle.trail.specs.Dirt.{dirtied, cleaned, dirty, dirty_after, log_end, log_end_after}
use Rattle.trail.specs.Trails.{Opening, entries, own}
use Rattle.trail.specs.Legal.{IsLegalKind}
use Rattle.trail.specs.Laws.{AreLawful}

-- each of these changed first behind this LSN
abbrev IsBehind : ℕ → List Dirty → Type 0
IsBehind n [] = ⊤
IsBehind n (d ∷ ds) = (n < d.oldest) × IsBehind n ds

-- each changed first before those behind it, and last at or before the log's end
abbrev IsRising : ℕ → List Dirty → Type 0
IsRising end [] = ⊤
IsRising end (d ∷ ds) = (d.oldest < d.newest) × ((d.newest ≤ end) × (IsBehind d.oldest ds × IsRising end ds))

by_test : (P : List Dirty → Type 0) (b : Bool) (xs ys : List Dirty) → P xs → P ys → P (cond b xs ys)
by_test P true xs ys left right = left
by_test P false xs ys left right = right

rising_up : (last end : ℕ) (ds : List Dirty) → last ≤ end → IsRising last ds → IsRising end ds
rising_up last end [] up rising = tt
rising_up last end (d ∷ ds) up rising = (rising.0, (omega (arith, up, rising.1.0), (rising.1.1.0, rising_up last end ds up rising.1.1.1)))

behind_dirtied : (n : ℕ) (p : PageId) (start end : ℕ) (ds : List Dirty) → n < start → IsBehind n ds → IsBehind n (dirtied p start end ds)
behind_dirtied n p start end [] before behind = (before, tt)
behind_dirtied n p start end (d ∷ ds) before behind =
    by_test (IsBehind n) (same_page d.page p) (record d { newest = end } ∷ ds) (d ∷ dirtied p start end ds) behind (behind.0, behind_dirtied n p start end ds before behind.1)

rising_dirtied : (last : ℕ) (p : PageId) (start end : ℕ) (ds : List Dirty) → last ≤ start → start < end → IsRising last ds → IsRising end (dirtied p start end ds)
rising_dirtied last p start end [] behind longer rising = (longer, (omega arith, (tt, tt)))
rising_dirtied last p start end (d ∷ ds) behind longer rising =
    let first : d.oldest < start = omega (arith, behind, rising.0, rising.1.0) in
    by_test (IsRising end) (same_page d.page p) (record d { newest = end } ∷ ds) (d ∷ dirtied p start end ds)
    (omega (arith, first, longer), (omega arith, (rising.1.1.0, rising_up last end ds (omega (arith, behind, longer)) rising.1.1.1)))
    (rising.0, (omega (arith, behind, longer, rising.1.0), (behind_dirtied d.oldest p start end ds first rising.1.1.0, rising_dirtied last p start end ds behind longer rising.1.1.1)))

behind_cleaned : (n : ℕ) (p : PageId) (ds : List Dirty) → IsBehind n ds → IsBehind n (cleaned p ds)
behind_cleaned n p [] behind = tt
behind_cleaned n p (d ∷ ds) behind = by_test (IsBehind n) (not (same_page d.page p)) (d ∷ cleaned p ds) (cleaned p ds) (behind.0, behind_cleaned n p ds behind.1) (behind_cleaned n p ds behind.1)

rising_cleaned : (end : ℕ) (p : PageId) (ds : List Dirty) → IsRising end ds → IsRising end (cleaned p ds)
rising_cleaned end p [] rising = tt
rising_cleaned end p (d ∷ ds) rising =
    by_test (IsRising end) (not (same_page d.page p)) (d ∷ cleaned p ds) (cleaned p ds)
    (rising.0, (rising.1.0, (behind_cleaned d.oldest p ds rising.1.1.0, rising_cleaned end p ds rising.1.1.1))) (rising_cleaned end p ds rising.1.1.1)

rising_after : (o : Opening) (h : List Entry) (mine : List Event) (c n : ℕ) (k : Kind) → IsLegalKind o h mine c n k → IsRising (log_end h) (dirty h)
    → IsRising (log_end_after k (log_end h)) (dirty_after k (dirty h))
rising_after o h mine c n (kind.Load q f) legal rising = rising
rising_after o h mine c n (kind.Fix q f clock now) legal rising = rising
rising_after o h mine c n (kind.Create q f start end now) legal rising =
    let longer : start < end = omega (arith, legal.record_is) in rising_dirtied (log_end h) q start end (dirty h) legal.behind longer rising
rising_after o h mine c n (kind.Put q at bytes start end) legal rising =
    let longer : start < end = omega (arith, legal.record_is) in rising_dirtied (log_end h) q start end (dirty h) legal.behind longer rising
rising_after o h mine c n (kind.Evict q f passed) legal rising = rising
rising_after o h mine c n (kind.Write q lsn upto) legal rising = rising_cleaned (log_end h) q (dirty h) rising
rising_after o h mine c n (kind.Move q from to) legal rising = rising
rising_after o h mine c n (kind.Withdraw from) legal rising = rising
rising_after o h mine c n (kind.Undo from) legal rising = rising
rising_after o h mine c n (kind.Shrink chunks) legal rising = rising
rising_after o h mine c n (kind.Grow chunks) legal rising = rising
rising_after o h mine c n (kind.Resize bytes chunks) legal rising = rising
rising_after o h mine c n (kind.Clean written skipped) legal rising = rising
rising_after o h mine c n (kind.Check lsn) legal rising = rising
rising_after o h mine c n (kind.WatchSet q) legal rising = rising
rising_after o h mine c n (kind.WatchAt q f) legal rising = rising
rising_after o h mine c n (kind.Occurred q arrived) legal rising = rising
rising_after o h mine c n (kind.Unwatch q) legal rising = rising
rising_after o h mine c n (kind.Dump pct ids) legal rising = rising
rising_after o h mine c n (kind.Refused asked why) legal rising = rising

rising : (o : Opening) (sole : Option ℕ) (past : List Event) → AreLawful o sole past → IsRising (log_end (entries past)) (dirty (entries past))
rising o sole [] good = tt
rising o sole (event.Entry e ∷ past) good = rising_after o (entries past) (own e.caller past) e.caller e.number e.kind good.0.legal.kind (rising o sole past good.1)
rising o sole (event.Receipt r ∷ past) good = rising o sole past good.1

behind_found : (n : ℕ) (ds : List Dirty) (j : ℕ) (later : Dirty) → IsBehind n ds → slice_get ds j ≡ Some later → n < later.oldest
behind_found n [] j later behind there = absurd (cc)
behind_found n (d ∷ ds) zero later behind there = let e : d ≡ later = cc in subst (λ (x : Dirty). n < x.oldest) e behind.0
behind_found n (d ∷ ds) (suc j) later behind there = behind_found n ds j later behind.1 there

rising_found : (end : ℕ) (ds : List Dirty) (i j : ℕ) (d later : Dirty) → IsRising end ds → i < j → slice_get ds i ≡ Some d → slice_get ds j ≡ Some later → d.oldest < later.oldest
rising_found end [] i j d later rises before one other = absurd (cc)
rising_found end (x ∷ ds) zero zero d later rises before one other = omega (arith, before)
rising_found end (x ∷ ds) zero (suc j) d later rises before one other =
    let e : x ≡ d = cc in subst (λ (y : Dirty). y.oldest < later.oldest) e (behind_found x.oldest ds j later rises.1.1.0 other)
rising_found end (x ∷ ds) (suc i) zero d later rises before one other = omega (arith, before)
rising_found end (x ∷ ds) (suc i) (suc j) d later rises before one other = rising_found end ds i j d later rises.1.1.1 (omega (arith, before)) one other

within_found : (end : ℕ) (ds : List Dirty) (i : ℕ) (d : Dirty) → IsRising end ds → slice_get ds i ≡ Some d → (d.oldest < d.newest) × (d.newest ≤ end)
within_found end [] i d rises there = absurd (cc)
within_found end (x ∷ ds) zero d rises there = let e : x ≡ d = cc in subst (λ (y : Dirty). (y.oldest < y.newest) × (y.newest ≤ end)) e (rises.0, rises.1.0)
within_found end (x ∷ ds) (suc i) d rises there = within_found end ds i d rises.1.1.1 there

-- of two dirty pages the one in front was changed first
pub dirty_rise : (o : Opening) (sole : Option ℕ) (past : List Event) (i j : ℕ) (d later : Dirty) → AreLawful o sole past → i < j
    → slice_get (dirty (entries past)) i ≡ Some d → slice_get (dirty (entries past)) j ≡ Some later → d.oldest < later.oldest
dirty_rise o sole past i j d later good before one other = rising_found (log_end (entries past)) (dirty (entries past)) i j d later (rising o sole past good) before one other

-- and the log ends at or behind the last change of each
pub dirty_within : (o : Opening) (sole : Option ℕ) (past : List Event) (i : ℕ) (d : Dirty) → AreLawful o sole past → slice_get (dirty (entries past)) i ≡ Some d
    → (d.oldest < d.newest) × (d.newest ≤ log_end (entries past))
dirty_within o sole past i d good there = within_found (log_end (entries past)) (dirty (entries past)) i d (rising o sole past good) there
