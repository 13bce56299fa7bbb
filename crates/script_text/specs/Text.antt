-- How the lines of a script are spelled: words with single spaces between them.
use Rattle.std.specs.Prelude.{ℕ, Bool, true, List, [], ◌∷◌, ◌++◌, ◌≡◌, ◌<◌, ◌^◌, ◌==◌, IsTrue, codes, ⊤}
use Rattle.std.specs.Fmt.{decimal}
use Rattle.std.specs.List.{join_with_byte}
use Rattle.page_ids.specs.Spelling.{page_text, hex}
use Rattle.page_ids.specs.Typed.{FitsId, AreBytes}
use Rattle.page_ids.specs.declared.ids.PageId.{PageId}
use Rattle.script_text.specs.declared.script.Command.{Command}
use Rattle.script_text.specs.declared.script.Command.TheVariants.{Fix, Create, Read, Put, Unfix, Scan, Clean, Checkpoint}
use Rattle.page_ids.specs.declared.config.Field.{Field}
use Rattle.page_ids.specs.declared.config.Field.TheVariants.{Page, Instances, Frames, Size, Max, OldPct, OldTime, OldMin, Lsn, First}
use Rattle.script_text.specs.declared.lines.Item.{Item}
use Rattle.script_text.specs.declared.lines.Item.TheVariants.{Nothing, Set, Thread, Does}

abbrev pub setting_name : Field → List ℕ
setting_name Page = codes "page"
setting_name Instances = codes "instances"
setting_name Frames = codes "frames"
setting_name Size = codes "size"
setting_name Max = codes "max"
setting_name OldPct = codes "old_pct"
setting_name OldTime = codes "old_time"
setting_name OldMin = codes "old_min"
setting_name Lsn = codes "lsn"
setting_name First = codes "first"

-- the pages from this one to the one with this number
abbrev pub range_text : PageId → ℕ → List ℕ
range_text from last = page_text from ++ 45 ∷ decimal last

abbrev pub command_words : Command → List (List ℕ)
command_words (Fix p now) = codes "fix" ∷ page_text p ∷ decimal now ∷ []
command_words (Create p now) = codes "create" ∷ page_text p ∷ decimal now ∷ []
command_words (Read p at len) = codes "read" ∷ page_text p ∷ decimal at ∷ decimal len ∷ []
command_words (Put p at bytes) = codes "put" ∷ page_text p ∷ decimal at ∷ hex bytes ∷ []
command_words (Unfix p) = codes "unfix" ∷ page_text p ∷ []
command_words (Scan from last now) = codes "scan" ∷ range_text from last ∷ decimal now ∷ []
command_words (Clean bound) = codes "clean" ∷ decimal bound ∷ []
command_words Checkpoint = codes "checkpoint" ∷ []

abbrev pub item_words : Item → List (List ℕ)
item_words Nothing = []
item_words (Set name n) = setting_name name ∷ decimal n ∷ []
item_words (Thread k) = codes "thread" ∷ decimal k ∷ []
item_words (Does c) = command_words c

-- a command's numbers and bytes fit their types
abbrev pub IsTyped : Command → Type 0
IsTyped (Fix p now) = FitsId p × (now < 2 ^ 64)
IsTyped (Create p now) = FitsId p × (now < 2 ^ 64)
IsTyped (Read p at len) = FitsId p × (at < 2 ^ 32) × (len < 2 ^ 32)
IsTyped (Put p at bytes) = FitsId p × (at < 2 ^ 32) × AreBytes bytes
IsTyped (Unfix p) = FitsId p
IsTyped (Scan from last now) = FitsId from × (last < 2 ^ 32) × (now < 2 ^ 64)
IsTyped (Clean bound) = bound < 2 ^ 32
IsTyped Checkpoint = ⊤

abbrev pub IsTypedItem : Item → Type 0
IsTypedItem Nothing = ⊤
IsTypedItem (Set name n) = n < 2 ^ 64
IsTypedItem (Thread k) = k < 2 ^ 64
IsTypedItem (Does c) = IsTyped c

-- an empty line, or a comment
abbrev pub is_nothing : List ℕ → Bool
is_nothing [] = true
is_nothing (b ∷ bytes) = b == 35

-- a line says nothing, or it is the one spelling of what it says
abbrev pub IsSpelled : Item → List ℕ → Type 0
IsSpelled Nothing line = IsTrue (is_nothing line)
IsSpelled i line = (line ≡ join_with_byte 32 (item_words i)) × IsTypedItem i
