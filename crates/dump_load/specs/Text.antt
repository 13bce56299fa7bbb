-- The text of a dump, as a relation between whole texts and lists of ids.
use Rattle.std.specs.Prelude.{ℕ, List, [], ◌∷◌, ◌++◌, ◌≡◌, ◌≢◌, ◌==◌, ◌+◌, ◌<◌, ◌≤◌, ◌^◌, false, length, if◌then◌else◌}
use Rattle.std.specs.Fmt.{decimal}
use Rattle.std.specs.List.{AllByRecursion}
use Rattle.page_ids.specs.Typed.{FitsId, ArePages}
use Rattle.page_ids.specs.declared.ids.PageId.{PageId}
use Rattle.dump_load.specs.declared.text.TheConstants.{MOST_IDS}
use Rattle.dump_load.specs.declared.text.DumpErr.{DumpErr}
use Rattle.dump_load.specs.declared.text.DumpErr.TheVariants.{BadLine, TooMany, OutOfMemory}

-- space and page with a comma between them
abbrev pub id_line : PageId → List ℕ
id_line p = decimal p.space ++ 44 ∷ decimal p.page

-- a line for each id, each ended by a newline
abbrev pub dump_text : List PageId → List ℕ
dump_text [] = []
dump_text (p ∷ ps) = id_line p ++ 10 ∷ dump_text ps

-- the text with the newline of its last line, which may be missing
abbrev pub ended : List ℕ → List ℕ
ended [] = []
ended (b ∷ []) = if b == 10 then b ∷ [] else b ∷ 10 ∷ []
ended (b ∷ c ∷ bs) = b ∷ ended (c ∷ bs)

-- the bytes are a dump of these ids
pub record IsDump (bytes : List ℕ) (ids : List PageId) : Type 0 where
  pub typed : ArePages ids
  pub text : ended bytes ≡ dump_text ids
  pub few : length ids ≤ MOST_IDS

-- no id is spelled so
abbrev pub IsNoId : List ℕ → Type 0
IsNoId line = (p : PageId) → FitsId p → line ≢ id_line p

-- this is the first bad line, from 1: those before it are ids, and it is none
pub record IsBadIdLine (bytes : List ℕ) (number : ℕ) : Type 0 where
  pub before : List PageId
  pub line : List ℕ
  pub behind : List ℕ
  pub typed : ArePages before
  pub text : ended bytes ≡ dump_text before ++ (line ++ 10 ∷ behind)
  pub place : length before + 1 ≡ number
  pub few : length before < MOST_IDS
  pub whole : AllByRecursion (λ b. (b == 10) ≡ false) line
  pub bad : IsNoId line

-- this is the first line that is too many: as many ids as may be stand before it
pub record IsTooMany (bytes : List ℕ) (number : ℕ) : Type 0 where
  pub before : List PageId
  pub behind : List ℕ
  pub typed : ArePages before
  pub text : ended bytes ≡ dump_text before ++ behind
  pub more : behind ≢ []
  pub place : length before + 1 ≡ number
  pub full : length before ≡ MOST_IDS

-- the bytes are refused so
abbrev pub IsRefusedDump : List ℕ → DumpErr → Type 0
IsRefusedDump bytes (BadLine line) = IsBadIdLine bytes line
IsRefusedDump bytes (TooMany line) = IsTooMany bytes line
IsRefusedDump bytes OutOfMemory = ⊥
