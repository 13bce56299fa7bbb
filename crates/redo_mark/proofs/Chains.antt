-- Records one behind the other.
use Rattle.std.proofs.Common.{◌≡◌, ◌≤◌, ◌+◌, ◌-◌, ◌++◌, ℕ, List, [], ◌∷◌, length, Some, None, Option, IfSome, Vec, ap, sym, subst, ◌∙◌, arith, append_assoc, slice_range}
use Rattle.std.specs.Int.{w64, to_be_bytes}
use Rattle.std.specs.declared.alloc.Global.{Global}
use Rattle.std.proofs.lemmas.List.{append-nil, length-append}
use Rattle.redo_mark.specs.Device.{Told}
use Rattle.redo_mark.specs.Pending.{IsKeptBetween, bytes_of, joined}
use Rattle.redo_mark.specs.Records.{FitsRecord, AllFitRecords, AreRecords, head_of, record_of, records_of}
use Rattle.redo_mark.specs.declared.record.Change.{Change}
use Rattle.redo_mark.proofs.Slices.{length-slice}

pub length-record : (c : Change) (start : ℕ) → length (record_of c start) ≡ 21 + length c.bytes
length-record c start = let l = length-append c.bytes (to_be_bytes w64 (start + length (head_of c) + 8)) in omega (arith, l)

fits_more : (cs : List Change) (c : Change) → AllFitRecords cs → FitsRecord c → AllFitRecords (cs ++ c ∷ [])
fits_more [] c all fits = (fits, tt)
fits_more (d ∷ ds) c all fits = (all.0, fits_more ds c all.1 fits)

records_more : (cs : List Change) (c : Change) (start : ℕ) → records_of (cs ++ c ∷ []) start ≡ records_of cs start ++ record_of c (start + length (records_of cs start))
records_more [] c start = append-nil (record_of c start) ∙ ap (record_of c) zero_on
  where
    zero_on : start ≡ start + 0
    zero_on = omega arith
records_more (d ∷ ds) c start =
    let next = start + 21 + length d.bytes in
    let len = length-record d start in
    let sum = length-append (record_of d start) (records_of ds next) in
    let end : next + length (records_of ds next) ≡ start + length (record_of d start ++ records_of ds next) = omega (arith, len, sum) in
    ap (λ l. record_of d start ++ l) (records_more ds c next) ∙ sym (append_assoc (record_of d start) (records_of ds next) (record_of c (next + length (records_of ds next))))
    ∙ ap (λ k. record_of d start ++ records_of ds next ++ record_of c k) end

-- a record that is put at the end of records
pub chain_more : (start end : ℕ) (bytes : List ℕ) (c : Change) → AreRecords start bytes → FitsRecord c → start + length bytes ≡ end → AreRecords start (bytes ++ record_of c end)
chain_more start end bytes c are fits is =
    let place : end ≡ start + length (records_of are.0 start) = sym is ∙ ap (λ l. start + length l) are.2 in (
      are.0 ++ c ∷ [],
      fits_more are.0 c are.1 fits,
      ap (λ l. l ++ record_of c end) are.2 ∙ ap (λ k. records_of are.0 start ++ record_of c k) place ∙ sym (records_more are.0 c start),
    )

pub whole_appended : (first durable end opened : ℕ) (told : Option Told) (pending new : List (Vec ℕ Global)) (c : Change)
    → first + opened ≤ durable → end ≡ durable + length (joined pending) → IfSome told (IsKeptBetween opened (durable - first)) → FitsRecord c
    → joined new ≡ joined pending ++ record_of c end
    → IfSome (bytes_of opened (durable - first) told pending) (AreRecords (first + opened))
    → IfSome (bytes_of opened (durable - first) told new) (AreRecords (first + opened))
whole_appended first durable end opened None pending new c low ends settled fits is was = tt
whole_appended first durable end opened (Some t) pending new c low ends settled fits is was =
    let slice = slice_range t.kept opened (durable - first) in
    let len = length-slice opened (durable - first) t.kept settled.long in
    let sum = length-append slice (joined pending) in
    let more : slice ++ joined pending ++ record_of c end ≡ slice ++ joined new = append_assoc slice (joined pending) (record_of c end) ∙ ap (λ l. slice ++ l) (sym is) in
    subst (AreRecords (first + opened)) more (chain_more (first + opened) end (slice ++ joined pending) c was fits (omega (arith, len, sum, low, ends)))
