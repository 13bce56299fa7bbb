-- How the frames of a pool are counted.
use Rattle.std.specs.Prelude.{ℕ, zero, suc, List, [], ◌∷◌, ◌+◌, ◌-◌, ◌*◌, ◌/◌}
use Rattle.page_ids.specs.Size.{page_bytes}
use Rattle.page_ids.specs.declared.config.Config.{Config}

-- the bytes of one chunk in every instance
abbrev pub unit_of : Config → ℕ
unit_of c = page_bytes c.page * c.frames * c.instances

-- the chunks that so many bytes take: whole ones, in units of every instance
abbrev pub chunks_for : Config → ℕ → ℕ
chunks_for c bytes = (bytes + unit_of c - 1) / unit_of c

-- the chunks of an instance at the start
abbrev pub chunks_of : Config → ℕ
chunks_of c = chunks_for c c.size

-- so many numbers, rising from this one
abbrev pub rising : ℕ → ℕ → List ℕ
rising from zero = []
rising from (suc n) = from ∷ rising (from + 1) n
