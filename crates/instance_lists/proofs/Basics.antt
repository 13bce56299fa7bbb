-- What two options that are equal say.
use Rattle.std.proofs.Common.{◌≡◌, Some, None}

pub some_same : {A : Type 0} → (a b : A) → Some a ≡ Some b → a ≡ b
some_same a b same = cc

pub none_some : {A : Type 0} → (a : A) → None ≡ Some a → ⊥
none_some a e = cc
