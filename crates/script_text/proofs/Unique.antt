-- Lines make one thing only, and the bytes have one verdict only.
use Rattle.std.proofs.Common.{ℕ, List, [], ◌∷◌, ◌++◌, ◌≡◌, ◌+◌, ◌<◌, ◌≤◌, ◌∙◌, ◌⊎◌, inl, inr, true, false, Some, Result, Ok, Err, length, refl, sym, ap, subst, arith}
use Rattle.std.specs.Prelude.{IfOk, MatchResult}
use Rattle.script_text.specs.declared.lines.Item.{Item}
use Rattle.script_text.specs.declared.reader.ScriptErr.{ScriptErr}
use Rattle.script_text.specs.declared.reader.ScriptErr.TheVariants.{BadLine, OutOfMemory}
use Rattle.script_text.specs.Plan.{Plan}
use Rattle.script_text.specs.declared.script.TheConstants.{SCRIPT_BYTES}
use Rattle.script_text.specs.Reading.{line_says}
use Rattle.script_text.specs.Grammar.{SoFar, step, Line, IsRefusedLine, AreRead, lines_of, nothing_said}
use Rattle.script_text.specs.Faults.{is_faulty}
use Rattle.script_text.specs.Verdict.{IsBadLine, IsScript, IsFaulty, IsBadScript, plan_of}
use Rattle.script_text.proofs.Exact.{spelled_is_read}

line_one : (old a b : SoFar) (line : List ℕ) → Line old line a → Line old line b → a ≡ b
line_one old a b line (i, spelled, stepped) (j, spelled_too, stepped_too) =
    let first : line_says line ≡ Some i = spelled_is_read line i spelled in
    let second : line_says line ≡ Some j = spelled_is_read line j spelled_too in
    let same : i ≡ j = let both : Some i ≡ Some j = sym first ∙ second in cc in
    let here : step old j ≡ Some a = subst (λ (k : Item). step old k ≡ Some a) same stepped in
    let both : Some a ≡ Some b = sym here ∙ stepped_too in cc

pub read_one : (s a b : SoFar) (lines : List (List ℕ)) → AreRead s lines a → AreRead s lines b → a ≡ b
read_one s a b [] r q = r ∙ sym q
read_one s a b (line ∷ lines) (m, first, rest) (n, first_too, rest_too) =
    let same : n ≡ m = line_one s n m line first_too first in
    read_one m a b lines rest (subst (λ (k : SoFar). AreRead k lines b) same rest_too)

-- where lines were read, the next one is taken or bad, never both
bad_ends : (s before last : SoFar) (earlier later : List (List ℕ)) (line : List ℕ) → AreRead s earlier before → IsRefusedLine before line → AreRead s (earlier ++ line ∷ later) last → ⊥
bad_ends s before last [] later line r bad (mid, first, rest) = bad mid (subst (λ (k : SoFar). Line k line mid) (sym r) first)
bad_ends s before last (l ∷ ls) later line (m, first, rest) bad (n, first_too, rest_too) =
    let same : n ≡ m = line_one s n m l first_too first in
    bad_ends m before last ls later line rest bad (subst (λ (k : SoFar). AreRead k (ls ++ line ∷ later) last) same rest_too)

-- there is one first bad line
bad_at : (s b c : SoFar) (xs ys us vs : List (List ℕ)) (x y : List ℕ) → xs ++ x ∷ us ≡ ys ++ y ∷ vs
    → AreRead s xs b → IsRefusedLine b x → AreRead s ys c → IsRefusedLine c y → length xs ≡ length ys
bad_at s b c [] [] us vs x y e rx bx ry by = refl
bad_at s b c [] (l ∷ ys) us vs x y e rx bx (m, first, rest) by =
    let same : x ≡ l = cc in
    absurd (bx m (subst (λ (k : SoFar). Line k x m) (sym rx) (subst (λ (k : List ℕ). Line s k m) (sym same) first)))
bad_at s b c (l ∷ xs) [] us vs x y e (m, first, rest) bx ry by =
    let same : y ≡ l = cc in
    absurd (by m (subst (λ (k : SoFar). Line k y m) (sym ry) (subst (λ (k : List ℕ). Line s k m) (sym same) first)))
bad_at s b c (l ∷ xs) (k ∷ ys) us vs x y e (m, first, rest) bx (n, first_too, rest_too) by =
    let same : k ≡ l = cc in
    let tails : xs ++ x ∷ us ≡ ys ++ y ∷ vs = cc in
    let one : n ≡ m = line_one s n m l (subst (λ (z : List ℕ). Line s z n) same first_too) first in
    let next : length xs ≡ length ys = bad_at m b c xs ys us vs x y tails rest bx (subst (λ (z : SoFar). AreRead z ys c) one rest_too) by in omega (arith, next)

bad_line_one : (lines : List (List ℕ)) (n m : ℕ) → IsBadLine lines n → IsBadLine lines m → n ≡ m
bad_line_one lines n m a b = sym a.number ∙ ap (λ k. k + 1) (bad_at nothing_said a.before b.before a.earlier b.earlier a.later b.later a.line b.line (sym a.whole ∙ b.whole) a.read a.bad b.read b.bad) ∙ b.number

bad_line_ends : (lines : List (List ℕ)) (n : ℕ) (last : SoFar) → IsBadLine lines n → AreRead nothing_said lines last → ⊥
bad_line_ends lines n last a r = bad_ends nothing_said a.before last a.earlier a.later a.line a.read a.bad (subst (λ (ls : List (List ℕ)). AreRead nothing_said ls last) a.whole r)

-- a script asks for one thing
script_one : (bytes : List ℕ) (p q : Plan) → IsScript bytes p → IsScript bytes q → p ≡ q
script_one bytes p q a b = a.asked ∙ ap plan_of (read_one nothing_said a.last b.last (lines_of bytes) a.read b.read) ∙ sym b.asked

-- and is not bad
script_not_bad : (bytes : List ℕ) (p : Plan) (n : ℕ) → IsScript bytes p → IsBadScript bytes n → ⊥
script_not_bad bytes p n a (inl (zero, inl long)) = let short : length bytes ≤ SCRIPT_BYTES = a.short in omega (arith, short, long)
script_not_bad bytes p n a (inl (zero, inr f)) =
    let same : a.last ≡ f.last = read_one nothing_said a.last f.last (lines_of bytes) a.read f.read in
    let both : false ≡ true = sym a.sound ∙ ap (λ s. is_faulty (plan_of s)) same ∙ f.faulty in absurd (cc)
script_not_bad bytes p n a (inr (short, line)) = bad_line_ends (lines_of bytes) n a.last line a.read

-- a fault of the whole and a bad line exclude each other
whole_or_line : (bytes : List ℕ) (n : ℕ) → (SCRIPT_BYTES < length bytes) ⊎ IsFaulty bytes → length bytes ≤ SCRIPT_BYTES → IsBadLine (lines_of bytes) n → ⊥
whole_or_line bytes n (inl long) short line = omega (arith, short, long)
whole_or_line bytes n (inr f) short line = bad_line_ends (lines_of bytes) n f.last line f.read

bad_one : (bytes : List ℕ) (n m : ℕ) → IsBadScript bytes n → IsBadScript bytes m → n ≡ m
bad_one bytes n m (inl (a, x)) (inl (b, y)) = a ∙ sym b
bad_one bytes n m (inl (a, whole)) (inr (short, line)) = absurd (whole_or_line bytes m whole short line)
bad_one bytes n m (inr (short, line)) (inl (a, whole)) = absurd (whole_or_line bytes n whole short line)
bad_one bytes n m (inr (short, line)) (inr (short_too, line_too)) = bad_line_one (lines_of bytes) n m line line_too

-- an answer that is right where it speaks is the one that is asked for
pub only_script : (bytes : List ℕ) (r : Result Plan ScriptErr) → IfOk r (IsScript bytes) → ((n : ℕ) → r ≡ Err (BadLine n) → IsBadScript bytes n)
    → (plan : Plan) → IsScript bytes plan → MatchResult r (λ found. found ≡ plan) (λ e. e ≡ OutOfMemory)
only_script bytes (Ok found) read bad plan h = script_one bytes found plan read h
only_script bytes (Err (BadLine n)) read bad plan h = absurd (script_not_bad bytes plan n h (bad n refl))
only_script bytes (Err OutOfMemory) read bad plan h = refl

pub only_bad : (bytes : List ℕ) (r : Result Plan ScriptErr) → IfOk r (IsScript bytes) → ((n : ℕ) → r ≡ Err (BadLine n) → IsBadScript bytes n)
    → (n : ℕ) → IsBadScript bytes n → (r ≡ Err (BadLine n)) ⊎ (r ≡ Err OutOfMemory)
only_bad bytes (Ok found) read bad n h = absurd (script_not_bad bytes found n read h)
only_bad bytes (Err (BadLine m)) read bad n h = inl (ap (λ k. Err (BadLine k)) (bad_one bytes m n (bad m refl) h))
only_bad bytes (Err OutOfMemory) read bad n h = inr refl
