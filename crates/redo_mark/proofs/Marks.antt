-- The log's bytes and marks.
use Rattle.std.proofs.Common.{◌≡◌, ℕ, List, [], ◌++◌, ◌+◌, ◌-◌, ◌≤◌, length, take, drop, Some, None, Option, IfSome, IsSomeAnd, MatchOption, Vec, refl, ap, ◌∙◌, sym, arith, append_assoc, slice_range}
use Rattle.std.proofs.lemmas.List.{drop_all, append-nil, take_at, length-append, length-take-le}
use Rattle.std.proofs.lemmas.Grind.{flat_map-append}
use Rattle.std.specs.declared.alloc.Global.{Global}
use Rattle.redo_mark.specs.Device.{Told, Tells, IsOpening}
use Rattle.redo_mark.specs.Records.{sealed}
use Rattle.redo_mark.specs.Logs.{Seen, Grows, IsGrown, IsLater, IsLonger, IsMeasured, Holds, IsKept, IsAllKept, IsKeptAt}
use Rattle.redo_mark.specs.Pending.{IsLog, IsKeptBetween, OnlyWroteBetween, IsMadeDurable, bytes_of, joined}
use Rattle.redo_mark.proofs.Telling.{known, some_is_not_none, tells_then}
use Rattle.redo_mark.proofs.Slices.{take_within, front_of_more, same_slice, slice_more, length-slice, three_parts, front_with}

-- what is seen of a log with these fields
abbrev pub seen_of : ℕ → ℕ → ℕ → ℕ → ℕ → Option Told → List (Vec ℕ Global) → Seen
seen_of first durable end opened faults told pending = record {
  first = first;
  opened = first + opened;
  durable = durable;
  end = end;
  faults = faults;
  bytes = bytes_of opened (durable - first) told pending;
}

pub grows_same : (bytes : Option (List ℕ)) → Grows bytes bytes
grows_same None = refl
grows_same (Some bytes) = ([], sym (append-nil bytes))

pub later_same : (old new : Seen) → new.first ≡ old.first → new.opened ≡ old.opened → old.durable ≤ new.durable → old.end ≤ new.end → old.faults ≤ new.faults
    → new.bytes ≡ old.bytes → IsLater old new
later_same old new first opened durable end faults bytes = record { first = first; opened = opened; durable = durable; end = end; faults = faults; bytes = rw bytes (grows_same old.bytes) }

-- what a log's fields keep
pub kept_of_log : (first durable end opened faults : ℕ) (told : Option Told) (pending : List (Vec ℕ Global))
    → first + opened ≤ durable → end ≡ durable + length (joined pending) → IfSome told (IsKeptBetween opened (durable - first))
    → IsKept (seen_of first durable end opened faults told pending) told
kept_of_log first durable end opened faults None pending low ends settled = tt
kept_of_log first durable end opened faults (Some t) pending low ends settled =
    let n = durable - first in
    let le : opened ≤ n = omega (arith, low) in
    let slice = slice_range t.kept opened n in
    let len : length slice ≡ durable - (first + opened) = length-slice opened n t.kept settled.long ∙ omega arith in (
      take opened t.kept,
      drop n t.kept,
      three_parts opened n t.kept le ∙ ap (λ l. take opened t.kept ++ l ++ drop n t.kept) (sym (take_at slice (joined pending) (durable - (first + opened)) len)),
      ap (λ k. first + k) (length-take-le opened t.kept (omega (arith, le, settled.long))),
      (let sum = length-append slice (joined pending) in omega (arith, sum, len, low, ends)),
    )

-- what a log's fields measure
pub measured_of_log : (first durable end opened faults : ℕ) (told : Option Told) (pending : List (Vec ℕ Global))
    → first + opened ≤ durable → end ≡ durable + length (joined pending) → IfSome told (IsKeptBetween opened (durable - first))
    → IsMeasured (seen_of first durable end opened faults told pending)
measured_of_log first durable end opened faults told pending low ends settled =
    record { low = low; high = omega (arith, ends); bytes = there told settled }
  where
    there : (told : Option Told) → IfSome told (IsKeptBetween opened (durable - first))
        → IfSome (bytes_of opened (durable - first) told pending) (λ bytes. first + opened + length bytes ≡ end)
    there None settled = tt
    there (Some t) settled =
        let slice = slice_range t.kept opened (durable - first) in
        let len = length-slice opened (durable - first) t.kept settled.long in
        let sum = length-append slice (joined pending) in omega (arith, sum, len, low, ends)

-- at its opening nothing is behind the end
pub settled_fresh : (opened durable : ℕ) (told : Option Told) → durable ≡ opened → IfSome told (λ t. opened ≤ length t.kept) → IfSome told (IsKeptBetween opened durable)
settled_fresh opened durable None is inside = tt
settled_fresh opened durable (Some t) is inside = record {
  long = omega (arith, is, inside);
  same = empty t.written ∙ sym (empty t.kept);
}
  where
    empty : (xs : List ℕ) → slice_range xs opened durable ≡ []
    empty xs = let none : durable - opened ≡ 0 = omega (arith, is) in ap (λ k. take k (drop opened xs)) none

-- the bytes of the records where one more is behind them, and its size
pub joined_more : (pending node new : List (Vec ℕ Global)) (piece : List ℕ) → new ≡ pending ++ node → joined node ≡ piece → joined new ≡ joined pending ++ piece
joined_more pending node new piece whole is = ap joined whole ∙ flat_map-append (λ v. v.items) pending node ∙ ap (λ l. joined pending ++ l) is

pub sealed_size : (head : List ℕ) (start n : ℕ) → n ≡ length head → length (sealed head start) ≡ n + 8
sealed_size head start n len = length-append head _ ∙ ap (λ k. k + 8) (sym len)

-- a record that was appended stands at the end
pub holds_appended : (first durable end opened reach faults : ℕ) (told : Option Told) (pending new : List (Vec ℕ Global)) (piece : List ℕ)
    → IsLog first durable end opened reach told pending → joined new ≡ joined pending ++ piece
    → Holds (seen_of first durable (end + length piece) opened faults told new) piece end
holds_appended first durable end opened reach faults told pending new piece log is = record {
  behind = omega (arith, log.low, log.ends);
  within = omega arith;
  there = there told log.settled;
}
  where
    there : (told : Option Told) → IfSome told (IsKeptBetween opened (durable - first))
        → IfSome (bytes_of opened (durable - first) told new) (λ bytes. (before after : List ℕ) × (bytes ≡ before ++ piece ++ after) × (first + opened + length before ≡ end))
    there None settled = tt
    there (Some t) settled =
        let slice = slice_range t.kept opened (durable - first) in
        let len = length-slice opened (durable - first) t.kept settled.long in
        let sum = length-append slice (joined pending) in (
          slice ++ joined pending,
          [],
          ap (λ l. slice ++ l) is ∙ sym (append_assoc slice (joined pending) piece) ∙ sym (append-nil (slice ++ joined pending ++ piece)),
          omega (arith, sum, len, log.low, log.ends),
        )

pub later_appended : (first durable end opened faults more : ℕ) (told : Option Told) (pending new : List (Vec ℕ Global)) (piece : List ℕ)
    → joined new ≡ joined pending ++ piece
    → IsLater (seen_of first durable end opened faults told pending) (seen_of first durable (end + more) opened faults told new)
later_appended first durable end opened faults more told pending new piece is = record {
  first = refl;
  opened = refl;
  durable = omega arith;
  end = omega arith;
  faults = omega arith;
  bytes = there told;
}
  where
    there : (told : Option Told) → Grows (bytes_of opened (durable - first) told pending) (bytes_of opened (durable - first) told new)
    there None = refl
    there (Some t) = (
      piece,
      ap (λ l. slice_range t.kept opened (durable - first) ++ l) is
          ∙ sym (append_assoc (slice_range t.kept opened (durable - first)) (joined pending) piece),
    )

pub longer_appended : (first durable end opened faults : ℕ) (told : Option Told) (pending new : List (Vec ℕ Global)) (piece : List ℕ)
    → joined new ≡ joined pending ++ piece
    → IsLonger (seen_of first durable end opened faults told pending) (seen_of first durable (end + length piece) opened faults told new) piece
longer_appended first durable end opened faults told pending new piece is = record {
  first = refl;
  opened = refl;
  durable = refl;
  end = refl;
  faults = refl;
  bytes = there told;
}
  where
    there : (told : Option Told) → MatchOption (bytes_of opened (durable - first) told pending) (bytes_of opened (durable - first) told new ≡ None)
        (λ bytes. bytes_of opened (durable - first) told new ≡ Some (bytes ++ piece))
    there None = refl
    there (Some t) = ap Some (ap (λ l. slice_range t.kept opened (durable - first) ++ l) is
        ∙ sym (append_assoc (slice_range t.kept opened (durable - first)) (joined pending) piece))

-- where nothing is durable by a cover, the bytes are as before
pub bytes_uncovered : (opened durable from to : ℕ) (old new : Option Told) (pending : List (Vec ℕ Global)) → Tells old new (OnlyWroteBetween from to)
    → bytes_of opened durable new pending ≡ bytes_of opened durable old pending
bytes_uncovered opened durable from to None new pending step = ap (λ o. bytes_of opened durable o pending) step
bytes_uncovered opened durable from to (Some s) None pending step = absurd step
bytes_uncovered opened durable from to (Some s) (Some t) pending step = ap (λ l. Some (slice_range l opened durable ++ joined pending)) step.kept

pub settled_uncovered : (opened durable to : ℕ) (old new : Option Told) → opened ≤ durable → IfSome old (IsKeptBetween opened durable) → Tells old new (OnlyWroteBetween durable to)
    → IfSome new (IsKeptBetween opened durable)
settled_uncovered opened durable to None None le was step = tt
settled_uncovered opened durable to None (Some t) le was step = absurd (some_is_not_none t step)
settled_uncovered opened durable to (Some s) None le was step = absurd step
settled_uncovered opened durable to (Some s) (Some t) le was step = record {
  long = rw step.kept was.long;
  same = same_slice opened durable t.written s.written le step.written ∙ was.same ∙ ap (λ l. slice_range l opened durable) (sym step.kept);
}

-- once the records are durable, the bytes are as before
pub bytes_durable : (opened durable : ℕ) (old new : Option Told) (pending : List (Vec ℕ Global)) → opened ≤ durable → IfSome old (λ t. durable ≤ length t.written)
    → IfSome old (IsKeptBetween opened durable) → Tells old new (IsMadeDurable durable (joined pending))
    → bytes_of opened (durable + length (joined pending)) new [] ≡ bytes_of opened durable old pending
bytes_durable opened durable None new pending le inside was step = ap (λ o. bytes_of opened (durable + length (joined pending)) o []) step
bytes_durable opened durable (Some s) None pending le inside was step = absurd step
bytes_durable opened durable (Some s) (Some t) pending le inside was step =
    let to = durable + length (joined pending) in
    ap (λ l. Some l) (append-nil (slice_range t.kept opened to)
    ∙ ap (λ l. slice_range l opened to) step.kept
    ∙ slice_more opened durable t.written s.written (joined pending) le inside step.written
    ∙ ap (λ l. l ++ joined pending) was.same)

-- and so they are by the log's marks
pub bytes_covered : (opened opened' first durable end : ℕ) (old new : Option Told) (pending none : List (Vec ℕ Global)) → opened' ≡ opened → first + opened ≤ durable
    → end ≡ durable + length (joined pending) → none ≡ [] → IfSome old (λ t. durable - first ≤ length t.written) → IfSome old (IsKeptBetween opened (durable - first))
    → Tells old new (IsMadeDurable (durable - first) (joined pending)) → bytes_of opened' (end - first) new none ≡ bytes_of opened (durable - first) old pending
bytes_covered opened opened' first durable end old new pending none same low ends cleared inside was step =
    let to : end - first ≡ durable - first + length (joined pending) = omega (arith, low, ends) in
    ap (λ n. bytes_of n (end - first) new none) same ∙ ap (λ n. bytes_of opened n new none) to
    ∙ ap (λ l. bytes_of opened (durable - first + length (joined pending)) new l) cleared
    ∙ bytes_durable opened (durable - first) old new pending (omega (arith, low)) inside was step

pub settled_durable : (opened durable to : ℕ) (records : List ℕ) (old new : Option Told) → IfSome new (λ t. to ≤ length t.written)
    → Tells old new (IsMadeDurable durable records) → IfSome new (IsKeptBetween opened to)
settled_durable opened durable to records None None inside step = tt
settled_durable opened durable to records None (Some t) inside step = absurd (some_is_not_none t step)
settled_durable opened durable to records (Some s) None inside step = tt
settled_durable opened durable to records (Some s) (Some t) inside step = record {
  long = rw step.kept inside;
  same = ap (λ l. slice_range l opened to) (sym step.kept);
}

-- what a device holds to which nothing but the log was written
pub grown_longer : (opened durable end to : ℕ) (opening told : Option Told) → end ≤ to
    → Tells opening told (λ s t. IsOpening opened s → IsGrown opened durable end s t) → Tells opening told (λ s t. IsOpening opened s → IsGrown opened durable to s t)
grown_longer opened durable end to None told le grown = grown
grown_longer opened durable end to (Some s) None le grown = grown
grown_longer opened durable end to (Some s) (Some t) le grown = λ was.
    let g = grown was in record { front = g.front; kept = g.kept; exact = g.exact; short = omega (arith, g.short, le) }

pub grown_uncovered : (opened durable end to : ℕ) (opening old new : Option Told) → opened ≤ durable → to ≤ end
    → Tells opening old (λ s t. IsOpening opened s → IsGrown opened durable end s t) → Tells old new (OnlyWroteBetween durable to)
    → Tells opening new (λ s t. IsOpening opened s → IsGrown opened durable end s t)
grown_uncovered opened durable end to opening old new le fits =
    tells_then (λ s t. IsOpening opened s → IsGrown opened durable end s t) (OnlyWroteBetween durable to) (λ s t. IsOpening opened s → IsGrown opened durable end s t)
    (λ s. Unit {0}) (λ t. Unit {0}) opening old new (known opening) (known old)
    (λ s t u a b p q was. let g = p was in record {
      front = take_within opened durable u.written t.written le q.written ∙ g.front;
      kept = ap (take opened) q.kept ∙ g.kept;
      exact = ap length q.kept ∙ g.exact;
      short = omega (arith, q.short, g.short, fits);
    })

pub grown_durable : (opened durable end : ℕ) (records : List ℕ) (opening old new : Option Told) → opened ≤ durable → durable + length records ≡ end
    → IfSome old (λ t. durable ≤ length t.written) → IfSome new (λ t. end ≤ length t.written)
    → Tells opening old (λ s t. IsOpening opened s → IsGrown opened durable end s t) → Tells old new (IsMadeDurable durable records)
    → Tells opening new (λ s t. IsOpening opened s → IsGrown opened end end s t)
grown_durable opened durable end records None None None le sum inside long p q = refl
grown_durable opened durable end records None None (Some u) le sum inside long p q = absurd (some_is_not_none u q)
grown_durable opened durable end records None (Some t) new le sum inside long p q = absurd (some_is_not_none t p)
grown_durable opened durable end records (Some s) None new le sum inside long p q = absurd p
grown_durable opened durable end records (Some s) (Some t) None le sum inside long p q = absurd q
grown_durable opened durable end records (Some s) (Some t) (Some u) le sum inside long p q = λ was.
    let g = p was in
    let front = take_within opened durable u.written t.written le (front_of_more durable (length records) u.written t.written records inside q.written) in
    let len = ap length q.kept in
    record {
      front = front ∙ g.front;
      kept = ap (take opened) q.kept ∙ front ∙ g.front;
      exact = omega (arith, len, long, q.short, g.short, sum);
      short = omega (arith, q.short, g.short, sum);
    }

-- all that is kept, by the log's fields
pub all_kept_of_log : (first durable end opened faults : ℕ) (opening told : Option Told) (pending : List (Vec ℕ Global))
    → first + opened ≤ durable → IfSome told (IsKeptBetween opened (durable - first))
    → Tells opening told (λ s t. IsOpening opened s → IsGrown opened (durable - first) (end - first) s t)
    → IsAllKept opened opening (seen_of first durable end opened faults told pending) told
all_kept_of_log first durable end opened faults None told pending low settled grown = grown
all_kept_of_log first durable end opened faults (Some s) None pending low settled grown = grown
all_kept_of_log first durable end opened faults (Some s) (Some t) pending low settled grown = λ was.
    let g = grown was in
    let n = durable - first in
    let slice = slice_range t.kept opened n in
    let len : length slice ≡ durable - (first + opened) = length-slice opened n t.kept settled.long ∙ omega arith in
    three_parts opened n t.kept (omega (arith, low)) ∙ ap (λ l. take opened t.kept ++ slice ++ l) (drop_all n t.kept (omega (arith, g.exact)))
    ∙ append-nil (take opened t.kept ++ slice) ∙ ap (λ l. l ++ slice) g.kept ∙ ap (λ l. s.kept ++ l) (sym (take_at slice (joined pending) (durable - (first + opened)) len))

-- a record below the durable mark is kept at its LSN
pub kept_piece : (seen : Seen) (told : Option Told) (piece : List ℕ) (start : ℕ) → IsKept seen told → Holds seen piece start → start + length piece ≤ seen.durable
    → IsKeptAt seen.first piece start told
kept_piece seen None piece start kept holds below = tt
kept_piece seen (Some t) piece start kept holds below = there seen.bytes kept holds.there
  where
    there : (bytes : Option (List ℕ))
        → IsSomeAnd bytes (λ bytes. (front rest : List ℕ) × (t.kept ≡ front ++ take (seen.durable - seen.opened) bytes ++ rest) × (seen.first + length front ≡ seen.opened) × (seen.opened + length bytes ≡ seen.end))
        → IfSome bytes (λ bytes. (before after : List ℕ) × (bytes ≡ before ++ piece ++ after) × (seen.opened + length before ≡ start))
        → (before after : List ℕ) × (t.kept ≡ before ++ piece ++ after) × (seen.first + length before ≡ start)
    there None kept holds = absurd kept
    there (Some bytes) kept holds =
        let front = kept.0 in
        let before = holds.0 in
        let after = take (seen.durable - seen.opened - (length before + length piece)) holds.1 in
        let cut : take (seen.durable - seen.opened) bytes ≡ before ++ piece ++ after =
        ap (take (seen.durable - seen.opened)) holds.2 ∙ front_with (seen.durable - seen.opened) before piece holds.1 (omega (arith, holds.3, below)) in (
          front ++ before,
          after ++ kept.1,
          kept.2 ∙ ap (λ l. front ++ l ++ kept.1) cut ∙ turned front before piece after kept.1,
          (let len = length-append front before in omega (arith, len, kept.3, holds.3)),
        )
      where
        turned : (a b c d e : List ℕ) → a ++ (b ++ c ++ d) ++ e ≡ a ++ b ++ c ++ (d ++ e)
        turned a b c d e = append_assoc a (b ++ c ++ d) e ∙ ap (λ l. a ++ l) (append_assoc (b ++ c) d e ∙ append_assoc b c (d ++ e))
            ∙ sym (append_assoc a b (c ++ (d ++ e))) ∙ sym (append_assoc (a ++ b) c (d ++ e))
