-- The faults of a whole script, each of whose lines is in the grammar.
use Rattle.std.specs.Prelude.{Bool, true, false, ◌||◌, nat_lt, Option, None, Some}
use Rattle.page_ids.specs.Chunks.{chunks_of}
use Rattle.page_ids.specs.Fields.{unfit_of}
use Rattle.page_ids.specs.declared.config.Config.{Config}
use Rattle.page_ids.specs.declared.config.BadConfig.{BadConfig}
use Rattle.script_text.specs.Plan.{Plan}

abbrev pub is_bad : Option BadConfig → Bool
is_bad None = false
is_bad (Some bad) = true

-- what can't be run yet: several instances, a history that begins behind another place than 0, several chunks at the start
abbrev pub is_unbuilt : Config → Bool
is_unbuilt c = nat_lt 1 c.instances || nat_lt 0 c.first || nat_lt 1 (chunks_of c)

-- no pool can be made with the numbers, or none that can be run yet
abbrev pub is_faulty : Plan → Bool
is_faulty plan = is_bad (unfit_of plan.config) || is_unbuilt plan.config
