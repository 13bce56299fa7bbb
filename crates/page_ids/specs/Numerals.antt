-- How numbers are read from text: one decimal spelling each.
use Rattle.std.specs.Prelude.{ℕ, List, [], ◌∷◌, ◌+◌, ◌-◌, ◌*◌, ◌==◌, ◌&&◌, nat_le, nat_lt, Option, None, Some, if◌then◌else◌, length}
use Rattle.std.specs.List.{position_or_len, before_first, after_first}

-- the number below the limit that the digits write when they follow those of n
abbrev pub digits_after : ℕ → ℕ → List ℕ → Option ℕ
digits_after limit n [] = Some n
digits_after limit n (c ∷ cs) = if nat_le 48 c && nat_le c 57 && nat_lt (n * 10 + (c - 48)) limit then digits_after limit (n * 10 + (c - 48)) cs else None

-- the number below the limit that a word writes: digits alone, with no leading zero
abbrev pub number_of : ℕ → List ℕ → Option ℕ
number_of limit [] = None
number_of limit (c ∷ []) = digits_after limit 0 (c ∷ [])
number_of limit (c ∷ d ∷ cs) = if c == 48 then None else digits_after limit 0 (c ∷ d ∷ cs)

-- before and after the first such byte
abbrev pub cut_at : ℕ → List ℕ → Option (List ℕ × List ℕ)
cut_at c bs = if nat_lt (position_or_len (λ b. b == c) bs) (length bs) then Some (before_first (λ b. b == c) bs, after_first (λ b. b == c) bs) else None
