use Rattle.std.proofs.Common.{inl, inr, ◌∙◌, sym, subst}
use Rattle.script_text.specs.Verdict.{IsBadScript}
use Rattle.script_run.specs.Ends.{IsNoScriptErr, IsBadAt}
use Rattle.script_run.proofs.Answering.{long_log}
use Rattle.script_run.proofs.runner.run.Goals as goal

pub returns-in-Ok-take_script-clause-usage_only : goal.returns-in-Ok-take_script-clause-usage_only
returns-in-Ok-take_script-clause-usage_only g c = λ none. absurd (none c.in-Ok.ensures.run)

pub returns-in-Ok-take_script-clause-bad_only : goal.returns-in-Ok-take_script-clause-bad_only
returns-in-Ok-take_script-clause-bad_only g c = λ bytes n e bad. absurd (c.in-Ok-take_script.ensures.bad bytes n e bad)

pub returns-in-Ok-take_script-clause-ended : goal.returns-in-Ok-take_script-clause-ended
returns-in-Ok-take_script-clause-ended g c = λ ended.
    record { plan = c.in-Ok-take_script.plan; script = c.in-Ok-take_script.ensures.read.script; run = c.run_script.ensures.ended ended }

pub returns-in-Ok-take_script-clause-read_whole : goal.returns-in-Ok-take_script-clause-read_whole
returns-in-Ok-take_script-clause-read_whole g c = λ ended. c.in-Ok-take_script.ensures.read.ends

pub returns-in-Ok-take_script-clause-asked : goal.returns-in-Ok-take_script-clause-asked
returns-in-Ok-take_script-clause-asked g c = λ fresh.
    let asked = c.run_script.ensures.asked fresh in
    inr (record { plan = c.in-Ok-take_script.plan; script = c.in-Ok-take_script.ensures.read.script; log = asked.0; asked = asked.1 })

pub returns-in-Ok-take_script-clause-bad_script : goal.returns-in-Ok-take_script-clause-bad_script
returns-in-Ok-take_script-clause-bad_script g c = λ three.
    inr (long_log (g.S.Source.left c.args.script.now) (g.H.Shelf.seen c.args.shelf.now).log.told g.H.Redo.RedoDisk.seen c.run_script.result.line c.run_script.result.redo c.in-Ok-take_script.plan
    c.in-Ok-take_script.ensures.read.script c.run_script.ensures.line (c.run_script.ensures.long three))

pub returns-in-Err-Bad-clause-bad_script : goal.returns-in-Err-Bad-clause-bad_script
returns-in-Err-Bad-clause-bad_script g c = λ three. inl (
  (λ bytes e. subst (IsBadScript bytes) (sym c.bare-in-Err-Bad.ensures.line)
      (subst (IsNoScriptErr (g.S.Source.left c.args.script.now) (g.S.Source.fault_count c.args.script.now) (g.S.Source.fault_count c.take_script.new.source))
      c.in-Err-Bad.field-0-is c.in-Err-Bad.ensures.refused bytes e)),
  c.bare-in-Err-Bad.ensures.redo,
)

pub returns-in-Err-Bad-clause-bad_only : goal.returns-in-Err-Bad-clause-bad_only
returns-in-Err-Bad-clause-bad_only g c = λ bytes n e bad.
    inr (inl (c.bare-in-Err-Bad.ensures.status, c.bare-in-Err-Bad.ensures.line ∙ subst (IsBadAt n) c.in-Err-Bad.field-0-is (c.in-Err-Bad.ensures.bad bytes n e bad)))
