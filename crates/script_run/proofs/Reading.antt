-- What the calls of a source come to, one behind the other.
use Rattle.std.proofs.Common.{◌≡◌, ◌≤◌, ◌++◌, ℕ, List, Option, Some, length, ap, ◌∙◌, sym, arith, append_assoc, length-append}
use Rattle.page_ids.specs.Faults.{Rose}
use Rattle.std.proofs.lemmas.Grind.{common_steps}
use Rattle.script_run.specs.Ends.{IsReadErr, IsTakenWithin}
use Rattle.script_run.specs.declared.ends.ReadErr.{ReadErr}
use Rattle.script_run.specs.declared.ends.ReadErr.TheVariants as refusal

rose_later : (first before now : ℕ) → first ≤ before → Rose before now → Rose first now
rose_later first before now le rose = grind (arith, common_steps)

pub later_refusal : (first before now : ℕ) (e : ReadErr) → first ≤ before → IsReadErr before now e → IsReadErr first now e
later_refusal first before now refusal.OutOfMemory le is = tt
later_refusal first before now refusal.Fault le is = rose_later first before now le is

-- these were taken of a source
pub all_taken : (most had : ℕ) (all : List ℕ) (first now : Option (List ℕ)) → length all ≡ had → had ≤ most
    → ((bytes : List ℕ) → first ≡ Some bytes → (rest : List ℕ) × (now ≡ Some rest) × (bytes ≡ all ++ rest)) → IsTakenWithin 0 most first now
all_taken most had all first now long few given = λ bytes e.
    let is = given bytes e in (all, is.0, is.1, is.2, omega (arith, long, few))

-- and more behind them
pub more_taken : (most had : ℕ) (all : List ℕ) (first before now : Option (List ℕ)) → length all ≡ had
    → ((bytes : List ℕ) → first ≡ Some bytes → (rest : List ℕ) × (before ≡ Some rest) × (bytes ≡ all ++ rest))
    → IsTakenWithin had most before now → IsTakenWithin 0 most first now
more_taken most had all first before now long given taken = λ bytes e.
    let was = given bytes e in
    let is = taken was.0 was.1 in (
      all ++ is.0,
      is.1,
      is.2,
      was.2 ∙ ap (λ (b : List ℕ). all ++ b) is.3 ∙ sym (append_assoc all is.0 is.1),
      omega (arith, long, length-append all is.0, is.4),
    )
