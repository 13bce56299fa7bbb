use Rattle.std.proofs.Common.{◌≡◌, ℕ, List, Some, Result, Ok, Err, inl, inr, ◌⊎◌, ap, ◌∙◌, sym, subst}
use Rattle.script_text.specs.Verdict.{IsScript, IsBadScript}
use Rattle.script_text.specs.declared.reader.ScriptErr.{ScriptErr}
use Rattle.script_text.specs.declared.reader.ScriptErr.TheVariants as refusal
use Rattle.script_run.proofs.Answering.{all_script, all_ends, all_bad, bad_all}
use Rattle.script_run.proofs.ends.take_script.Goals as goal

not_bad : {T : Type 0} (r : Result T ScriptErr) (x : T) (n : ℕ) → r ≡ Ok x → (r ≡ Err (refusal.BadLine n)) ⊎ (r ≡ Err refusal.OutOfMemory) → ⊥
not_bad r x n ok (inl bad) = let no : ◌≡◌ {A = Result _ ScriptErr} (Ok x) (Err (refusal.BadLine n)) = sym ok ∙ bad in cc
not_bad r x n ok (inr none) = let no : ◌≡◌ {A = Result _ ScriptErr} (Ok x) (Err refusal.OutOfMemory) = sym ok ∙ none in cc

same_line : {T : Type 0} (r : Result T ScriptErr) (line n : ℕ) → r ≡ Err (refusal.BadLine line) → (r ≡ Err (refusal.BadLine n)) ⊎ (r ≡ Err refusal.OutOfMemory) → line ≡ n
same_line r line n is (inl bad) = let e : ◌≡◌ {A = Result _ ScriptErr} (Err (refusal.BadLine line)) (Err (refusal.BadLine n)) = sym is ∙ bad in cc
same_line r line n is (inr none) = let no : ◌≡◌ {A = Result _ ScriptErr} (Err (refusal.BadLine line)) (Err refusal.OutOfMemory) = sym is ∙ none in absurd (cc)

pub returns-in-Ok-read_script-clause-read : goal.returns-in-Ok-read_script-clause-read
returns-in-Ok-read_script-clause-read g c =
    let S : List ℕ → Type 0 = λ b. IsScript b c.in-Ok-read_script.script in
    let is = subst S c.as_slice.ensures.value c.in-Ok-read_script.ensures.read in
    record {
      script = λ bytes e. let given = c.in-Ok.ensures.given bytes e in all_script bytes c.in-Ok.bytes.items given.0 c.in-Ok-read_script.script given.2 given.3 is;
      ends = λ bytes e. let given = c.in-Ok.ensures.given bytes e in
          given.1 ∙ ap (λ (r : List ℕ). Some r) (all_ends bytes c.in-Ok.bytes.items given.0 c.in-Ok-read_script.script given.2 given.3 is);
    }

pub returns-in-Ok-read_script-clause-bad : goal.returns-in-Ok-read_script-clause-bad
returns-in-Ok-read_script-clause-bad g c = λ bytes n e bad.
    let given = c.in-Ok.ensures.given bytes e in
    let B : List ℕ → Type 0 = λ b. IsBadScript b n in
    not_bad c.read_script.result _ n c.in-Ok-read_script.is (c.read_script.ensures.bad_only n (subst B (sym c.as_slice.ensures.value) (bad_all bytes c.in-Ok.bytes.items given.0 n given.2 given.3 bad)))

pub returns-in-Err-BadLine-clause-refused : goal.returns-in-Err-BadLine-clause-refused
returns-in-Err-BadLine-clause-refused g c = λ bytes e.
    let given = c.in-Ok.ensures.given bytes e in
    let line = c.in-Err-BadLine.line in
    let B : List ℕ → Type 0 = λ b. IsBadScript b line in
    let is : c.read_script.result ≡ Err (refusal.BadLine line) = c.in-Err-BadLine.is ∙ ap (λ x. Err x) c.in-Err-BadLine.field-0-is in
    all_bad bytes c.in-Ok.bytes.items given.0 line given.2 given.3 (subst B c.as_slice.ensures.value (c.read_script.ensures.bad line is))

pub returns-in-Err-BadLine-clause-bad : goal.returns-in-Err-BadLine-clause-bad
returns-in-Err-BadLine-clause-bad g c = λ bytes n e bad.
    let given = c.in-Ok.ensures.given bytes e in
    let line = c.in-Err-BadLine.line in
    let B : List ℕ → Type 0 = λ b. IsBadScript b n in
    let is : c.read_script.result ≡ Err (refusal.BadLine line) = c.in-Err-BadLine.is ∙ ap (λ x. Err x) c.in-Err-BadLine.field-0-is in
    same_line c.read_script.result line n is (c.read_script.ensures.bad_only n (subst B (sym c.as_slice.ensures.value) (bad_all bytes c.in-Ok.bytes.items given.0 n given.2 given.3 bad)))
