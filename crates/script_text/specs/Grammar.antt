-- What the lines of a script make, one after the other: ranges, order and limits.
use Rattle.std.specs.Prelude.{ℕ, Bool, true, false, List, [], ◌∷◌, ◌++◌, ◌≡◌, ◌==◌, ◌+◌, ◌-◌, ◌*◌, ◌&&◌, nat_le, nat_lt, not, Option, None, Some, if◌then◌else◌, length, slice_index_or, slice_set, replicate}
use Rattle.std.specs.List.{slice_split, sum_by}
use Rattle.page_ids.specs.Content.{is_range}
use Rattle.page_ids.specs.Size.{page_bytes}
use Rattle.page_ids.specs.Fields.{is_within, is_settable}
use Rattle.page_ids.specs.declared.config.Config.{Config}
use Rattle.page_ids.specs.declared.ids.PageSize.{PageSize}
use Rattle.page_ids.specs.declared.ids.PageSize.TheVariants.{Kib4, Kib8, Kib16}
use Rattle.script_text.specs.Text.{IsSpelled}
use Rattle.script_text.specs.declared.script.TheConstants.{MOST_CALLS, THREADS}
use Rattle.script_text.specs.declared.script.Command.{Command}
use Rattle.script_text.specs.declared.script.Command.TheVariants.{Fix, Create, Read, Put, Unfix, Scan, Clean, Checkpoint}
use Rattle.page_ids.specs.declared.config.Field.{Field}
use Rattle.page_ids.specs.declared.config.Field.TheVariants.{Page, Instances, Frames, Size, Max, OldPct, OldTime, OldMin, Lsn, First}
use Rattle.script_text.specs.declared.lines.Item.{Item}
use Rattle.script_text.specs.declared.lines.Item.TheVariants.{Nothing, Set, Thread, Does}

-- What the lines so far said: the pool's numbers, which settings were set, the commands of each thread, and how many calls these make.
pub record SoFar : Type 0 where
  pub config : Config
  pub settings : List Bool
  pub threads : List (List Command)
  pub calls : ℕ

-- the pool's numbers where a script sets none
abbrev pub usual : Config
usual = record {
  page = Kib16;
  instances = 1;
  frames = 8192;
  size = 134217728;
  max = 2;
  old_pct = 37;
  old_time = 1000;
  old_min = 512;
  lsn = 8192;
  first = 0;
}

abbrev pub nothing_said : SoFar
nothing_said = record { config = usual; settings = replicate 10 false; threads = []; calls = 0 }

-- the setting's place among those that a script may set
abbrev pub place_of : Field → ℕ
place_of Page = 0
place_of Instances = 1
place_of Frames = 2
place_of Size = 3
place_of Max = 4
place_of OldPct = 5
place_of OldTime = 6
place_of OldMin = 7
place_of Lsn = 8
place_of First = 9

abbrev pub was_set : SoFar → Field → Bool
was_set s name = slice_index_or s.settings (place_of name) false

-- the size of so many bytes
abbrev pub size_of : ℕ → PageSize
size_of n = if n == 4096 then Kib4 else if n == 8192 then Kib8 else Kib16

abbrev pub with_setting : Config → Field → ℕ → Config
with_setting c Page n = record c { page = size_of n }
with_setting c Instances n = record c { instances = n }
with_setting c Frames n = record c { frames = n }
with_setting c Size n = record c { size = n }
with_setting c Max n = record c { max = n }
with_setting c OldPct n = record c { old_pct = n }
with_setting c OldTime n = record c { old_time = n }
with_setting c OldMin n = record c { old_min = n }
with_setting c Lsn n = record c { lsn = n }
with_setting c First n = record c { first = n }

-- the ranges of a command's numbers, for pages of this size
abbrev pub is_in_range : PageSize → Command → Bool
is_in_range size (Fix p now) = true
is_in_range size (Create p now) = true
is_in_range size (Read p at len) = nat_le len 256 && is_range (page_bytes size) at len
is_in_range size (Put p at bytes) = nat_le (length bytes) 256 && is_range (page_bytes size) at (length bytes)
is_in_range size (Unfix p) = true
is_in_range size (Scan from last now) = nat_le from.page last && nat_lt (last - from.page) 4096
is_in_range size (Clean bound) = is_within 0 16384 bound
is_in_range size Checkpoint = true

-- how many calls a command makes of so many instances
abbrev pub calls_of : ℕ → Command → ℕ
calls_of instances (Fix p now) = 1
calls_of instances (Create p now) = 1
calls_of instances (Read p at len) = 1
calls_of instances (Put p at bytes) = 1
calls_of instances (Unfix p) = 1
calls_of instances (Scan from last now) = 3 * (last - from.page + 1)
calls_of instances (Clean bound) = instances
calls_of instances Checkpoint = instances

-- how many calls all of them make
abbrev pub calls_in : ℕ → List Command → ℕ
calls_in instances commands = sum_by (calls_of instances) commands

-- and those of all threads
abbrev pub all_calls : ℕ → List (List Command) → ℕ
all_calls instances threads = sum_by (calls_in instances) threads

-- the command stands at the end of the last thread
abbrev pub with_command : List (List Command) → Command → List (List Command)
with_command threads c = slice_set threads (length threads - 1) (slice_index_or threads (length threads - 1) [] ++ c ∷ [])

-- What an item makes of what was said, where it may stand there: settings come first, each at most once; then the threads in order,
-- each with its commands behind it, which make few calls.
abbrev pub step : SoFar → Item → Option SoFar
step s Nothing = Some s
step s (Set name n) =
    if (length s.threads == 0) && is_settable name n && not (was_set s name)
    then Some (record s { config = with_setting s.config name n; settings = slice_set s.settings (place_of name) true })
    else None
step s (Thread k) =
    if (k == length s.threads + 1) && nat_le k THREADS
    then Some (record s { threads = s.threads ++ [] ∷ [] })
    else None
step s (Does c) =
    if nat_lt 0 (length s.threads) && is_in_range s.config.page c && nat_le (s.calls + calls_of s.config.instances c) MOST_CALLS
    then Some (record s { threads = with_command s.threads c; calls = s.calls + calls_of s.config.instances c })
    else None

-- what a line makes of it
abbrev pub Line : SoFar → List ℕ → SoFar → Type 0
Line old line new = (i : Item) × IsSpelled i line × (step old i ≡ Some new)

-- the line may not stand there
abbrev pub IsRefusedLine : SoFar → List ℕ → Type 0
IsRefusedLine old line = (new : SoFar) → Line old line new → ⊥

-- whether the line may stand there, and what it then makes
abbrev pub Takes : SoFar → List ℕ → Bool → SoFar → Type 0
Takes old line true new = Line old line new
Takes old line false new = IsRefusedLine old line

-- what lines make of it
abbrev pub AreRead : SoFar → List (List ℕ) → SoFar → Type 0
AreRead old [] new = new ≡ old
AreRead old (line ∷ lines) new = (mid : SoFar) × Line old line mid × AreRead mid lines new

-- cut at each newline; what follows the last one is a line too, mostly an empty one
abbrev pub lines_of : List ℕ → List (List ℕ)
lines_of bytes = slice_split (λ b. b == 10) bytes
