use Rattle.std.proofs.Common.{rules}
use Rattle.page_ids.specs.Fields.{fields, setting_of}
use Rattle.page_ids.specs.declared.config.Field.TheVariants.{Page}
use Rattle.script_text.specs.declared.lines.Item.TheVariants.{Set}
use Rattle.script_text.proofs.Printing.{items_more}
use Rattle.script_text.proofs.printer.push_settings.Goals as goal

pub loop-field-preserved : goal.loop-field-preserved
loop-field-preserved c = items_more (λ name. Set name (setting_of c.args.config.now name)) fields c.loop-field.field-index Page c.loop-field.out.items c.push_setting.new.out.items _ (search rules) (search rules) c.loop-field.invariant
