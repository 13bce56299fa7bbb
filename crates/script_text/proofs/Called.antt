-- Words are taken exactly where they call for something, and what is found is what they call for.
use Rattle.std.proofs.Common.{lit≤, ℕ, List, [], ◌∷◌, ◌≡◌, ◌==◌, ◌<◌, ◌^◌, ◌&&◌, not, Bool, true, false, Option, None, Some, refl, sym, ◌∙◌, ap, subst, arith, rules, ◌⊎◌, inl, inr, ◌++◌, ◌+◌, ◌%◌, ◌≤◌}
use Rattle.std.specs.Prelude.{codes}
use Rattle.std.specs.List.{list_all}
use Rattle.std.specs.Str.{bytes_eq}
use Rattle.std.specs.Fmt.{decimal}
use Rattle.std.proofs.lemmas.Option.{option_and_then_some}
use Rattle.std.proofs.lemmas.Slice.Eq.{bytes_eq-Decides}
use Rattle.std.proofs.lemmas.Bool.{and_parts}
use Rattle.clap.specs.Words.{App, IsAmong, Kinds, Row, Text, fault_of, is_simple, is_simple_and_free, subcommand_of}
use Rattle.clap.specs.declared.error.kind.ErrorKind.{ErrorKind}
use Rattle.clap.specs.declared.error.kind.ErrorKind.TheVariants as kind
use Rattle.page_ids.specs.Numerals.{number_of}
use Rattle.page_ids.proofs.Numbers.{number_of-decimal, number_is}
use Rattle.std.proofs.lemmas.Fmt.{decimal_by_steps}
use Rattle.std.proofs.lemmas.Bool.{ne_eqb}
use Rattle.script_text.specs.Reading.{◌>>=◌}
use Rattle.script_text.specs.CommandLine.{is_word, IsRun, IsCalled}
use Rattle.script_text.specs.Commands.{commands, found}
use Rattle.script_text.specs.declared.program.Program.{Program}
use Rattle.script_text.specs.declared.program.Program.TheVariants.{Run, Check}
use Rattle.script_text.proofs.Commands.{are_free, are_simple, run_taken, run_says, run_alone, run_one, run_two, run_four, check_taken, check_says, check_one, none_refused, other_refused}

no_fault : (k : ErrorKind) (ks faults : Kinds) → faults ≡ k ∷ ks → faults ≡ [] → ⊥
no_fault k ks faults is none = let bad : ◌≡◌ {A = Kinds} (k ∷ ks) [] = sym is ∙ none in cc

empty_word : (words : List Text) → list_all is_word ([] ∷ words) ≡ true → ⊥
empty_word words all = let bad : ◌≡◌ {A = Bool} false true = all in cc

not_dash : (b : Bool) → not b ≡ true → b ≡ false
not_dash false e = refl
not_dash true e = let bad : ◌≡◌ {A = Bool} false true = e in absurd (cc)

-- the first byte of a word is no dash, and the words behind it are words
first_word : (a : ℕ) (x : Text) (words : List Text) → list_all is_word ((a ∷ x) ∷ words) ≡ true → ((a == 45) ≡ false) × (list_all is_word words ≡ true)
first_word a x words all = let parts = and_parts (is_word (a ∷ x)) (list_all is_word words) all in (not_dash (a == 45) parts.0, parts.1)

-- what is found behind `run` is called for
run_called : (rest : List Text) (p : Program) → list_all is_word rest ≡ true → fault_of commands (codes "run" ∷ rest) ≡ []
    → found (subcommand_of commands (codes "run" ∷ rest)) ≡ Some p → IsCalled (codes "run" ∷ rest) p
run_called [] p all none e = absurd (no_fault _ _ _ run_alone none)
run_called ([] ∷ rest) p all none e = absurd (empty_word rest all)
run_called ((a ∷ x) ∷ []) p all none e =
    let one = first_word a x [] all in
    absurd (no_fault _ _ _ (run_one a x one.0) none)
run_called ((a ∷ x) ∷ [] ∷ rest) p all none e = absurd (empty_word rest (first_word a x ([] ∷ rest) all).1)
run_called ((a ∷ x) ∷ (b ∷ y) ∷ []) p all none e =
    let one = first_word a x ((b ∷ y) ∷ []) all in
    let two = first_word b y [] one.1 in
    absurd (no_fault _ _ _ (run_two a b x y one.0 two.0) none)
run_called ((a ∷ x) ∷ (b ∷ y) ∷ [] ∷ rest) p all none e =
    let one = first_word a x ((b ∷ y) ∷ [] ∷ rest) all in
    absurd (empty_word rest (first_word b y ([] ∷ rest) one.1).1)
run_called ((a ∷ x) ∷ (b ∷ y) ∷ (c ∷ z) ∷ []) p all none e =
    let one = first_word a x ((b ∷ y) ∷ (c ∷ z) ∷ []) all in
    let two = first_word b y ((c ∷ z) ∷ []) one.1 in
    let three = first_word c z [] two.1 in
    option_and_then_some _ (number_of (2 ^ 32) (a ∷ x)) p (sym (run_says a b c x y z one.0 two.0 three.0) ∙ e) (λ n read same.
    let number = number_is (2 ^ 32) n (a ∷ x) (lit≤ tt) read in
    let here : Run n (b ∷ y) (c ∷ z) ≡ p = cc in
    let words : codes "run" ∷ (a ∷ x) ∷ (b ∷ y) ∷ (c ∷ z) ∷ [] ≡ codes "run" ∷ decimal n ∷ (b ∷ y) ∷ (c ∷ z) ∷ [] = rw number.0 refl in
    let file : is_word (b ∷ y) ≡ true = rw two.0 refl in
    let log : is_word (c ∷ z) ≡ true = rw three.0 refl in
    subst (λ (q : Program). IsCalled (codes "run" ∷ (a ∷ x) ∷ (b ∷ y) ∷ (c ∷ z) ∷ []) q) here (words, number.1, file, log))
run_called ((a ∷ x) ∷ (b ∷ y) ∷ (c ∷ z) ∷ [] ∷ rest) p all none e =
    let one = first_word a x ((b ∷ y) ∷ (c ∷ z) ∷ [] ∷ rest) all in
    let two = first_word b y ((c ∷ z) ∷ [] ∷ rest) one.1 in
    absurd (empty_word rest (first_word c z ([] ∷ rest) two.1).1)
run_called ((a ∷ x) ∷ (b ∷ y) ∷ (c ∷ z) ∷ (d ∷ w) ∷ more) p all none e =
    let one = first_word a x ((b ∷ y) ∷ (c ∷ z) ∷ (d ∷ w) ∷ more) all in
    let two = first_word b y ((c ∷ z) ∷ (d ∷ w) ∷ more) one.1 in
    let three = first_word c z ((d ∷ w) ∷ more) two.1 in
    let four = first_word d w more three.1 in
    absurd (no_fault _ _ _ (run_four a b c d x y z w more one.0 two.0 three.0 four.0) none)

check_called : (rest : List Text) (p : Program) → list_all is_word rest ≡ true → fault_of commands (codes "check" ∷ rest) ≡ []
    → found (subcommand_of commands (codes "check" ∷ rest)) ≡ Some p → IsCalled (codes "check" ∷ rest) p
check_called [] p all none e =
    let both : Some Check ≡ Some p = sym check_says ∙ e in
    let here : Check ≡ p = cc in
    subst (λ (q : Program). IsCalled (codes "check" ∷ []) q) here refl
check_called ([] ∷ rest) p all none e = absurd (empty_word rest all)
check_called ((a ∷ x) ∷ more) p all none e = absurd (no_fault _ _ _ (check_one a x more (first_word a x more all).0) none)

-- what is found is called for
pub is_called : (words : List Text) (p : Program) → list_all is_word words ≡ true → fault_of commands words ≡ []
    → found (subcommand_of commands words) ≡ Some p → IsCalled words p
is_called [] p all none e = absurd (no_fault _ _ _ none_refused none)
is_called ([] ∷ rest) p all none e = absurd (empty_word rest all)
is_called ((a ∷ x) ∷ rest) p all none e = cases (bytes_eq (codes "run") (a ∷ x)) (bytes_eq (codes "check") (a ∷ x)) refl refl
  where
    Says : Text → Type 0
    Says word = fault_of commands (word ∷ rest) ≡ [] → found (subcommand_of commands (word ∷ rest)) ≡ Some p → IsCalled (word ∷ rest) p

    one : ((a == 45) ≡ false) × (list_all is_word rest ≡ true)
    one = first_word a x rest all

    cases : (r k : Bool) → bytes_eq (codes "run") (a ∷ x) ≡ r → bytes_eq (codes "check") (a ∷ x) ≡ k → IsCalled ((a ∷ x) ∷ rest) p
    cases true k t u =
        let named : codes "run" ≡ a ∷ x = search (rules, bytes_eq-Decides (codes "run") (a ∷ x), t) in
        subst Says named (run_called rest p one.1) none e
    cases false true t u =
        let named : codes "check" ≡ a ∷ x = search (rules, bytes_eq-Decides (codes "check") (a ∷ x), u) in
        subst Says named (check_called rest p one.1) none e
    cases false false t u = absurd (no_fault _ _ _ (other_refused a x rest one.0 t u) none)

-- What words call for is found.
pub record IsFound (given : List Text) (p : Program) : Type 0 where
  pub words : list_all is_word given ≡ true
  pub taken : fault_of commands given ≡ []
  pub says : found (subcommand_of commands given) ≡ Some p

-- a number's first byte is no dash
digits_of : (n : ℕ) → n < 2 ^ 32 → (d : ℕ) × (ds : List ℕ) × (decimal n ≡ d ∷ ds) × ((d == 45) ≡ false)
digits_of n small = decimal_by_steps (λ k w. (d : ℕ) × (ds : List ℕ) × (w ≡ d ∷ ds) × ((d == 45) ≡ false)) one more n (omega (arith, small))
  where
    one : (k : ℕ) → k < 10 → (d : ℕ) × (ds : List ℕ) × ((48 + k) ∷ [] ≡ d ∷ ds) × ((d == 45) ≡ false)
    one k few = (48 + k, [], refl, ne_eqb (48 + k) 45 (λ e. omega (arith, e)))

    more : (k : ℕ) (w : List ℕ) → 10 ≤ k → ((d : ℕ) × (ds : List ℕ) × (w ≡ d ∷ ds) × ((d == 45) ≡ false))
        → (d : ℕ) × (ds : List ℕ) × (w ++ ((48 + k % 10) ∷ []) ≡ d ∷ ds) × ((d == 45) ≡ false)
    more k w big front = (front.0, front.1 ++ ((48 + k % 10) ∷ []), ap (λ (v : List ℕ). v ++ ((48 + k % 10) ∷ [])) front.2, front.3)

run_found_in : (n b c : ℕ) (y z : Text) → n < 2 ^ 32 → (b == 45) ≡ false → (c == 45) ≡ false
    → IsFound (codes "run" ∷ decimal n ∷ (b ∷ y) ∷ (c ∷ z) ∷ []) (Run n (b ∷ y) (c ∷ z))
run_found_in n b c y z small q r =
    let digits = digits_of n small in
    let d = digits.0 in
    let ds = digits.1 in
    let read : number_of (2 ^ 32) (d ∷ ds) ≡ Some n = rw (← digits.2) (number_of-decimal (2 ^ 32) n (omega (arith, small)) small) in
    let says : found (subcommand_of commands (codes "run" ∷ (d ∷ ds) ∷ (b ∷ y) ∷ (c ∷ z) ∷ [])) ≡ Some (Run n (b ∷ y) (c ∷ z)) =
    run_says d b c ds y z digits.3 q r ∙ ap (λ (o : Option ℕ). o >>= λ k. Some (Run k (b ∷ y) (c ∷ z))) read in
    let all : list_all is_word (codes "run" ∷ (d ∷ ds) ∷ (b ∷ y) ∷ (c ∷ z) ∷ []) ≡ true = simp (digits.3, q, r) in
    let there : IsFound (codes "run" ∷ (d ∷ ds) ∷ (b ∷ y) ∷ (c ∷ z) ∷ []) (Run n (b ∷ y) (c ∷ z)) =
    record { words = all; taken = run_taken d b c ds y z digits.3 q r; says = says } in
    subst (λ (w : Text). IsFound (codes "run" ∷ w ∷ (b ∷ y) ∷ (c ∷ z) ∷ []) (Run n (b ∷ y) (c ∷ z))) (sym digits.2) there

run_is_found : (n : ℕ) (file log : Text) → n < 2 ^ 32 → is_word file ≡ true → is_word log ≡ true
    → IsFound (codes "run" ∷ decimal n ∷ file ∷ log ∷ []) (Run n file log)
run_is_found n [] log small f l = let bad : ◌≡◌ {A = Bool} false true = f in absurd (cc)
run_is_found n (b ∷ y) [] small f l = let bad : ◌≡◌ {A = Bool} false true = l in absurd (cc)
run_is_found n (b ∷ y) (c ∷ z) small f l = run_found_in n b c y z small (not_dash (b == 45) f) (not_dash (c == 45) l)

-- what words call for is found
pub is_found : (words : List Text) (p : Program) → IsCalled words p → IsFound words p
is_found words (Run n file log) h =
    subst (λ (w : List Text). IsFound w (Run n file log)) (sym h.0) (run_is_found n file log h.1 h.2 h.3)
is_found words Check h =
    subst (λ (w : List Text). IsFound w Check) (sym h) (record { words = refl; taken = check_taken; says = check_says })

-- The same of a command that is the program's, and of what its parse answered.
module _ (app : App) (given : List Text) (p : Program) (is : app ≡ commands) where
  -- no fault but want of memory
  pub memory_alone : (k : ErrorKind) → IsCalled given p → (is_simple_and_free app ≡ true → (k ≡ kind.OutOfMemory) ⊎ IsAmong k (fault_of app given)) → k ≡ kind.OutOfMemory
  memory_alone k h fails =
      let none : fault_of app given ≡ [] = ap (λ (a : App). fault_of a given) is ∙ (is_found given p h).taken in
      elim (subst (λ (ks : Kinds). (k ≡ kind.OutOfMemory) ⊎ IsAmong k ks) none (fails (ap is_simple_and_free is ∙ are_free))) [
        | inl memory ↦ memory
        | inr among ↦ absurd among
      ]

  -- what was found, by the words
  rows_are : {X : Type 0} (rows : Option (Text × List Row)) → (is_simple app ≡ true → X × (rows ≡ subcommand_of app given)) → found rows ≡ found (subcommand_of commands given)
  rows_are rows has = ap found ((has (ap is_simple is ∙ are_simple)).1 ∙ ap (λ (a : App). subcommand_of a given) is)

  pub parsed_called : {X : Type 0} (rows : Option (Text × List Row)) → list_all is_word given ≡ true → (is_simple app ≡ true → X × (rows ≡ subcommand_of app given))
      → (is_simple_and_free app ≡ true → fault_of app given ≡ []) → found rows ≡ Some p → IsCalled given p
  parsed_called rows all has none e = is_called given p all (sym (ap (λ (a : App). fault_of a given) is) ∙ none (ap is_simple_and_free is ∙ are_free))
      (sym (rows_are rows has) ∙ e)

  pub parsed_found : {X : Type 0} (rows : Option (Text × List Row)) → (is_simple app ≡ true → X × (rows ≡ subcommand_of app given)) → IsCalled given p → found rows ≡ Some p
  parsed_found rows has h = rows_are rows has ∙ (is_found given p h).says
