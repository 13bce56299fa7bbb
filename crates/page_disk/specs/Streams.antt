-- What comes from a source and goes to a sink. What is not told is silent.
use Rattle.std.specs.Prelude.{ℕ, List, [], ◌≡◌, ◌++◌, ◌<◌, ◌≤◌, Option, None, Some, Result, IfOk, OnErr, length, take}
use Rattle.page_ids.specs.declared.faults.Failed.{Failed}

-- so many bytes came to the front of `out`, none only where none were left
pub record ComesFrom (before after : Option (List ℕ)) (n : ℕ) (out : List ℕ) : Type 0 where
  pub within : n ≤ length out
  pub bytes : (bytes : List ℕ) → before ≡ Some bytes → (rest : List ℕ) × (after ≡ Some rest) × (bytes ≡ take n out ++ rest) × (n ≡ 0 → bytes ≡ [])

-- A call that failed took nothing. What doesn't tell what it has left, tells it never.
pub record TakesPiece (before after : Option (List ℕ)) (result : Result ℕ Failed) (out : List ℕ) : Type 0 where
  pub ok : IfOk result (λ n. ComesFrom before after n out)
  pub err : OnErr result (after ≡ before)
  pub silent : before ≡ None → after ≡ None

-- so many bytes went from the front of the piece behind what was held
pub record GoesTo (before after : Option (List ℕ)) (n : ℕ) (piece : List ℕ) : Type 0 where
  pub some : 0 < n
  pub within : n ≤ length piece
  pub bytes : (bytes : List ℕ) → before ≡ Some bytes → after ≡ Some (bytes ++ take n piece)

-- A call that failed leaves what was held. What doesn't tell what it holds, tells it never.
pub record PutsPiece (before after : Option (List ℕ)) (result : Result ℕ Failed) (piece : List ℕ) : Type 0 where
  pub ok : IfOk result (λ n. GoesTo before after n piece)
  pub err : OnErr result (after ≡ before)
  pub silent : before ≡ None → after ≡ None
