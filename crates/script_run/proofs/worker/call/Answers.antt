use Rattle.std.proofs.Common.{◌≡◌, ◌∙◌, ℕ, Bool, true, false, sym, ap}
use Rattle.page_ids.specs.declared.ids.PageId.{PageId}
use Rattle.script_text.specs.declared.script.Command.{Command}
use Rattle.script_text.specs.declared.script.Command.TheVariants as command
use Rattle.script_run.specs.Todo.{is_one_call}
use Rattle.script_run.proofs.worker.call.Goals as goal

-- a scan is several calls
no_scan : (c : Command) (from : PageId) (last now : ℕ) → c ≡ command.Scan from last now → is_one_call c ≡ true → ⊥
no_scan c from last now is one = let bad : ◌≡◌ {A = Bool} false true = sym (ap is_one_call is) ∙ one in absurd (cc)

pub unreachable-requires : goal.unreachable-requires
unreachable-requires g c = no_scan c.args.command.now _ _ _ c.in-Scan.is c.requires.one
