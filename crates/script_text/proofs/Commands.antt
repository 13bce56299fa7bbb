-- Which words the parser takes, and what it then finds.
use Rattle.std.proofs.Common.{ℕ, List, [], ◌∷◌, ◌≡◌, ◌==◌, ◌^◌, Bool, true, false, Option, None, Some, refl, sym, fold}
use Rattle.std.specs.Prelude.{codes}
use Rattle.std.specs.Str.{bytes_eq}
use Rattle.clap.specs.Words.{Text, fault_of, is_simple, is_simple_and_free, subcommand_of}
use Rattle.clap.specs.declared.error.kind.ErrorKind.TheVariants as kind
use Rattle.clap.specs.Faults.{level_fault, walk_fault}
use Rattle.clap.specs.Kinds.{Kinds}
use Rattle.clap.specs.Simple.{Shape, built, names_of, new_shape}
use Rattle.clap.specs.Walk.{Names, Walk, nothing_held, walk_from, walked}
use Rattle.clap.proofs.FaultLemmas.{stopped_fault}
use Rattle.clap.proofs.OnLiterals.{clap_on_literals}
use Rattle.clap.proofs.WalkLemmas.{walk_stopped}
use Rattle.clap.specs.declared.error.kind.ErrorKind.{ErrorKind}
use Rattle.page_ids.specs.Numerals.{number_of}
use Rattle.script_text.specs.Reading.{◌>>=◌}
use Rattle.script_text.specs.Commands.{commands, found}
use Rattle.script_text.specs.declared.program.Program.TheVariants.{Run, Check}

pub are_free : is_simple_and_free commands ≡ true
are_free = refl

pub are_simple : is_simple commands ≡ true
are_simple = refl

abbrev first_sub : List Shape → Shape
first_sub [] = new_shape []
first_sub (s ∷ subs) = s

abbrev second_sub : List Shape → Shape
second_sub [] = new_shape []
second_sub (s ∷ subs) = first_sub subs

abbrev top : Shape
top = (built commands).top

abbrev names : Names
names = names_of (built commands)

abbrev begin : Walk
begin = walk_from nothing_held

-- a walk that met a command takes all other words to it
stays : (name : Text) (rest : List Text)
    → ◌≡◌ {A = Walk} (fold (walked top.rules names) (record begin { stopped = Some (name, []) }) rest) (record begin { stopped = Some (name, rest) })
stays name rest = sym (walk_stopped top.rules names begin name [] rest)

-- `run` with three words
pub run_taken : (a b c : ℕ) (x y z : Text) → (a == 45) ≡ false → (b == 45) ≡ false → (c == 45) ≡ false
    → fault_of commands (codes "run" ∷ (a ∷ x) ∷ (b ∷ y) ∷ (c ∷ z) ∷ []) ≡ []
unfolding clap_on_literals
run_taken a b c x y z p q r = simp (p, q, r)

pub run_says : (a b c : ℕ) (x y z : Text) → (a == 45) ≡ false → (b == 45) ≡ false → (c == 45) ≡ false
    → found (subcommand_of commands (codes "run" ∷ (a ∷ x) ∷ (b ∷ y) ∷ (c ∷ z) ∷ []))
    ≡ (number_of (2 ^ 32) (a ∷ x) >>= λ n. Some (Run n (b ∷ y) (c ∷ z)))
unfolding clap_on_literals
run_says a b c x y z p q r = simp (p, q, r)

pub run_alone : fault_of commands (codes "run" ∷ []) ≡ kind.MissingRequiredArgument ∷ []
unfolding clap_on_literals
run_alone = refl

pub run_one : (a : ℕ) (x : Text) → (a == 45) ≡ false → fault_of commands (codes "run" ∷ (a ∷ x) ∷ []) ≡ kind.MissingRequiredArgument ∷ []
unfolding clap_on_literals
run_one a x p = simp (p)

pub run_two : (a b : ℕ) (x y : Text) → (a == 45) ≡ false → (b == 45) ≡ false
    → fault_of commands (codes "run" ∷ (a ∷ x) ∷ (b ∷ y) ∷ []) ≡ kind.MissingRequiredArgument ∷ []
unfolding clap_on_literals
run_two a b x y p q = simp (p, q)

-- the command is entered with the words behind it, and refuses them first
run_enters : (rest : List Text) (k : ErrorKind) (ks : Kinds) → level_fault (first_sub (built commands).subs) [] nothing_held rest false [] ≡ k ∷ ks
    → fault_of commands (codes "run" ∷ rest) ≡ k ∷ ks
unfolding clap_on_literals
run_enters rest k ks e = simp (stays (codes "run") rest, stopped_fault top names begin (codes "run", []) rest, e)

run_four_level : (a b c d : ℕ) (x y z w : Text) (more : List Text) → (a == 45) ≡ false → (b == 45) ≡ false → (c == 45) ≡ false → (d == 45) ≡ false
    → level_fault (first_sub (built commands).subs) [] nothing_held ((a ∷ x) ∷ (b ∷ y) ∷ (c ∷ z) ∷ (d ∷ w) ∷ more) false [] ≡ kind.UnknownArgument ∷ []
unfolding clap_on_literals
run_four_level a b c d x y z w more p q r s = simp (p, q, r, s)

pub run_four : (a b c d : ℕ) (x y z w : Text) (more : List Text) → (a == 45) ≡ false → (b == 45) ≡ false → (c == 45) ≡ false → (d == 45) ≡ false
    → fault_of commands (codes "run" ∷ (a ∷ x) ∷ (b ∷ y) ∷ (c ∷ z) ∷ (d ∷ w) ∷ more) ≡ kind.UnknownArgument ∷ []
run_four a b c d x y z w more p q r s = run_enters _ kind.UnknownArgument [] (run_four_level a b c d x y z w more p q r s)

-- `check` alone
pub check_taken : fault_of commands (codes "check" ∷ []) ≡ []
unfolding clap_on_literals
check_taken = refl

pub check_says : found (subcommand_of commands (codes "check" ∷ [])) ≡ Some Check
unfolding clap_on_literals
check_says = refl

check_enters : (rest : List Text) (k : ErrorKind) (ks : Kinds) → level_fault (second_sub (built commands).subs) [] nothing_held rest false [] ≡ k ∷ ks
    → fault_of commands (codes "check" ∷ rest) ≡ k ∷ ks
unfolding clap_on_literals
check_enters rest k ks e = simp (stays (codes "check") rest, stopped_fault top names begin (codes "check", []) rest, e)

check_one_level : (a : ℕ) (x : Text) (more : List Text) → (a == 45) ≡ false
    → level_fault (second_sub (built commands).subs) [] nothing_held ((a ∷ x) ∷ more) false [] ≡ kind.UnknownArgument ∷ []
unfolding clap_on_literals
check_one_level a x more p = simp (p)

pub check_one : (a : ℕ) (x : Text) (more : List Text) → (a == 45) ≡ false → fault_of commands (codes "check" ∷ (a ∷ x) ∷ more) ≡ kind.UnknownArgument ∷ []
check_one a x more p = check_enters _ kind.UnknownArgument [] (check_one_level a x more p)

-- no words, and another first word
pub none_refused : fault_of commands [] ≡ kind.MissingSubcommand ∷ []
unfolding clap_on_literals
none_refused = refl

pub other_refused : (a : ℕ) (x : Text) (more : List Text) → (a == 45) ≡ false → bytes_eq (codes "run") (a ∷ x) ≡ false → bytes_eq (codes "check") (a ∷ x) ≡ false
    → fault_of commands ((a ∷ x) ∷ more) ≡ kind.UnknownArgument ∷ kind.InvalidSubcommand ∷ []
unfolding clap_on_literals
other_refused a x more p q r = simp (p, q, r)
