-- The limits that every script keeps.
use Rattle.std.specs.Prelude.{◌≡◌, ◌+◌, ◌-◌, ◌<◌, ◌≤◌, ◌^◌, false, length, ⊤}
use Rattle.std.specs.List.{AllByRecursion}
use Rattle.page_ids.specs.Chunks.{chunks_of}
use Rattle.page_ids.specs.Content.{IsRange}
use Rattle.page_ids.specs.Size.{page_bytes}
use Rattle.page_ids.specs.Fields.{IsFit}
use Rattle.page_ids.specs.declared.ids.PageSize.{PageSize}
use Rattle.script_text.specs.Plan.{Plan}
use Rattle.page_ids.specs.Typed.{FitsId, AreBytes}
use Rattle.script_text.specs.Grammar.{all_calls}
use Rattle.script_text.specs.Faults.{is_faulty}
use Rattle.script_text.specs.declared.script.TheConstants.{MOST_CALLS, THREADS}
use Rattle.script_text.specs.declared.script.Command.{Command}
use Rattle.script_text.specs.declared.script.Command.TheVariants.{Fix, Create, Read, Put, Unfix, Scan, Clean, Checkpoint}

-- a command's numbers, each in its range for pages of this size
abbrev pub IsInRange : PageSize → Command → Type 0
IsInRange size (Fix p now) = FitsId p × (now < 2 ^ 64)
IsInRange size (Create p now) = FitsId p × (now < 2 ^ 64)
IsInRange size (Read p at len) = FitsId p × (len ≤ 256) × IsRange (page_bytes size) at len
IsInRange size (Put p at bytes) = FitsId p × (length bytes ≤ 256) × IsRange (page_bytes size) at (length bytes) × AreBytes bytes
IsInRange size (Unfix p) = FitsId p
IsInRange size (Scan from last now) = FitsId from × (from.page ≤ last) × (last - from.page < 4096) × (last < 2 ^ 32) × (now < 2 ^ 64)
IsInRange size (Clean bound) = bound ≤ 16384
IsInRange size Checkpoint = ⊤

-- what every script keeps: of its numbers, of the threads, of the calls of all threads together, and of each command
pub record IsWithin (plan : Plan) : Type 0 where
  pub sound : is_faulty plan ≡ false
  pub config : IsFit plan.config
  pub instances : plan.config.instances ≡ 1
  pub first : plan.config.first ≡ 0
  pub chunks : chunks_of plan.config ≡ 1
  pub threads : length plan.threads ≤ THREADS
  pub calls : all_calls plan.config.instances plan.threads ≤ MOST_CALLS
  pub ranges : AllByRecursion (AllByRecursion (IsInRange plan.config.page)) plan.threads
