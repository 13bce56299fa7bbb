-- A command at the end of the last thread.
use Rattle.std.proofs.Common.{ℕ, List, [], ◌∷◌, ◌++◌, ◌≡◌, ◌-◌, ◌<◌, ◌∙◌, length, map, get_or, refl, sym, ap, arith}
use Rattle.std.specs.Prelude.{slice_set}
use Rattle.std.proofs.lemmas.List.{map-set, length-map, get_or-map, length-append}
use Rattle.script_text.specs.Grammar.{with_command}
use Rattle.script_text.specs.declared.script.Command.{Command}

pub command_put : {X : Type 0} (f : X → List Command) (ts : List X) (v d : X) (c : Command) (i : ℕ) → i ≡ length ts - 1 → 0 < length ts → f v ≡ f (get_or ts i d) ++ c ∷ []
    → map f (slice_set ts i v) ≡ with_command (map f ts) c
command_put f ts v d c i at some_thread e =
    let count : length (map f ts) - 1 ≡ i = omega (arith, at, length-map ts f) in
    let last : get_or (map f ts) i [] ≡ f (get_or ts i d) = get_or-map f ts i d [] (omega (arith, at, some_thread)) in
    map-set f ts i v ∙ ap (λ x. slice_set (map f ts) i x) (e ∙ ap (λ x. x ++ c ∷ []) (sym last))
    ∙ ap (λ n. slice_set (map f ts) n (get_or (map f ts) n [] ++ c ∷ [])) (sym count)

get_end : (ts : List (List Command)) (cs : List Command) → get_or (ts ++ cs ∷ []) (length ts) [] ≡ cs
get_end [] cs = refl
get_end (t ∷ ts) cs = get_end ts cs

set_end : (ts : List (List Command)) (cs ds : List Command) → slice_set (ts ++ cs ∷ []) (length ts) ds ≡ ts ++ ds ∷ []
set_end [] cs ds = refl
set_end (t ∷ ts) cs ds = ap (λ x. t ∷ x) (set_end ts cs ds)

-- the threads before the last one stay
pub at_end : (ts : List (List Command)) (cs : List Command) (c : Command) → with_command (ts ++ cs ∷ []) c ≡ ts ++ (cs ++ c ∷ []) ∷ []
at_end ts cs c =
    let all : List (List Command) = ts ++ cs ∷ [] in
    let count : length all - 1 ≡ length ts = omega (arith, length-append ts (cs ∷ [])) in
    ap (λ n. slice_set all n (get_or all n [] ++ c ∷ [])) count ∙ ap (λ last. slice_set all (length ts) (last ++ c ∷ [])) (get_end ts cs) ∙ set_end ts cs (cs ++ c ∷ [])
