use Rattle.std.proofs.Common.{◌≡◌, ◌≢◌, ℕ, ◌⊎◌, inl, inr, refl, ◌∙◌, sym, subst, arith}
use Rattle.script_text.specs.Verdict.{IsBadScript}
use Rattle.script_run.specs.Ends.{IsNoScriptErr, IsBadAt}
use Rattle.script_run.proofs.no_device.check.Goals as goal

status_of : (s : ℕ) → (s ≡ 0) ⊎ (s ≡ 5) ⊎ (s ≡ 7) → (s ≡ 0) ⊎ (s ≡ 3) ⊎ (s ≡ 4) ⊎ (s ≡ 5) ⊎ (s ≡ 7)
status_of s (inl done) = inl done
status_of s (inr (inl cut)) = inr (inr (inr (inl cut)))
status_of s (inr (inr memory)) = inr (inr (inr (inr memory)))

no_fault : (s k : ℕ) → (s ≡ 0) ⊎ (s ≡ 5) ⊎ (s ≡ 7) → (k ≡ 3) ⊎ (k ≡ 4) → s ≢ k
no_fault s k (inl done) (inl three) e = absurd (omega (arith, done, three, e))
no_fault s k (inl done) (inr four) e = absurd (omega (arith, done, four, e))
no_fault s k (inr (inl cut)) (inl three) e = absurd (omega (arith, cut, three, e))
no_fault s k (inr (inl cut)) (inr four) e = absurd (omega (arith, cut, four, e))
no_fault s k (inr (inr memory)) (inl three) e = absurd (omega (arith, memory, three, e))
no_fault s k (inr (inr memory)) (inr four) e = absurd (omega (arith, memory, four, e))

not_printed : (s : ℕ) → s ≡ 3 → (s ≡ 0) ⊎ (s ≡ 5) → ⊥
not_printed s three (inl done) = absurd (omega (arith, three, done))
not_printed s three (inr cut) = absurd (omega (arith, three, cut))

pub returns-in-Ok-clause-checked : goal.returns-in-Ok-clause-checked
returns-in-Ok-clause-checked g c =
    let ended = c.print.ensures in
    record {
      statuses = status_of c.print.result ended.statuses;
      line = λ other. refl;
      printed = λ either. record {
        plan = c.in-Ok.script;
        script = c.in-Ok.ensures.read.script;
        ends = c.in-Ok.ensures.read.ends;
        whole = ended.written;
        cut = λ five. (ended.cut five).1;
      };
      bad = λ three. absurd (no_fault c.print.result 3 ended.statuses (inl refl) three);
      bad_only = λ bytes n e bad. absurd (c.in-Ok.ensures.bad bytes n e bad);
      read_fault = λ four. absurd (no_fault c.print.result 4 ended.statuses (inr refl) four);
      write_fault = λ five. (ended.cut five).0;
    }

pub returns-in-Err-Bad-clause-checked : goal.returns-in-Err-Bad-clause-checked
returns-in-Err-Bad-clause-checked g c = record {
  statuses = inr (inl refl);
  line = λ other. absurd (other refl);
  printed = λ either. absurd (not_printed 3 refl either);
  bad = λ three bytes e. subst (IsBadScript bytes) (sym c.in-Err-Bad.line-is)
      (subst (IsNoScriptErr (g.S.Source.left c.args.input.now) (g.S.Source.fault_count c.args.input.now) (g.S.Source.fault_count c.take_script.new.source))
      c.in-Err-Bad.field-0-is c.in-Err-Bad.ensures.refused bytes e);
  bad_only = λ bytes n e bad. inr (inl (refl, c.in-Err-Bad.line-is ∙ subst (IsBadAt n) c.in-Err-Bad.field-0-is (c.in-Err-Bad.ensures.bad bytes n e bad)));
  read_fault = λ four. absurd (omega (arith, four));
  write_fault = λ five. absurd (omega (arith, five));
}
