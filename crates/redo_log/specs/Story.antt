-- The story of a log: one list of bytes that only grows, and marks that never fall.
use Rattle.std.specs.Prelude.{◌≡◌, ◌<◌, ◌≤◌, ◌+◌, ◌++◌, ℕ, List, [], ◌∷◌, length}
use Rattle.redo_log.specs.declared.view.Piece.{Piece}
use Rattle.redo_log.specs.declared.view.Story.{Story}

-- the LSN behind the last record
abbrev pub end_of : Story → ℕ
end_of s = s.opened + length s.bytes

-- the story where these bytes were put at the end
abbrev pub longer : Story → List ℕ → Story
longer s more = record s { bytes = s.bytes ++ more }

-- the record of these bytes that starts at this LSN
abbrev pub piece_at : ℕ → List ℕ → Piece
piece_at start bytes = record { start = start; bytes = bytes }

-- the piece stands in the log at its start
abbrev pub StandsInLog : Story → Piece → Type 0
StandsInLog s p = (before after : List ℕ) × (s.bytes ≡ before ++ p.bytes ++ after) × (s.opened + length before ≡ p.start) × (0 < length p.bytes)

-- how many bytes these pieces have
abbrev pub size_of : List Piece → ℕ
size_of [] = 0
size_of (p ∷ ps) = length p.bytes + size_of ps

abbrev pub StandAll : Story → List Piece → Type 0
StandAll s [] = Unit {0}
StandAll s (p ∷ ps) = StandsInLog s p × StandAll s ps
