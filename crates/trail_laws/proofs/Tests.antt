-- Tests of numbers, and of one of two.
use Rattle.std.proofs.Common.{◌≡◌, ◌<◌, ℕ, Bool, true, false, ◌||◌, refl, nat_eq, arith}
use Rattle.std.proofs.lemmas.Bool.Decides.{nat_tests}

pub number_is : (m n : ℕ) → nat_eq m n ≡ true → m ≡ n
number_is m n h = grind (arith, nat_tests)

pub or_right : (a b : Bool) → b ≡ true → (a || b) ≡ true
or_right true b t = refl
or_right false b t = t

pub other_number : (m n : ℕ) → m < n → nat_eq m n ≡ false
other_number m n less = grind (arith, nat_tests)

pub flipped : (m n : ℕ) → nat_eq m n ≡ false → nat_eq n m ≡ false
flipped m n f = grind (arith, nat_tests)

pub or_parts : (a b : Bool) → (a || b) ≡ false → (a ≡ false) × (b ≡ false)
or_parts true b f = absurd (cc)
or_parts false b f = (refl, f)
