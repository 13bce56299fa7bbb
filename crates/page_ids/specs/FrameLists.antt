-- The rules of the free list and the withdraw list of an instance, over plain lists of frames.
use Rattle.std.specs.Prelude.{ℕ, Bool, false, not, List, [], ◌∷◌, ◌++◌, ◌==◌, ◌*◌, Option, None, Some, filter, if◌then◌else◌, nat_le}
use Rattle.std.specs.Option.{option_map_or}
use Rattle.page_ids.specs.Chunks.{rising}

pub record FrameLists : Type 0 where
  pub free : List ℕ
  pub withdrawn : List ℕ

-- no frame is listed
abbrev pub no_frames : FrameLists
no_frames = record { free = []; withdrawn = [] }

-- the front of a list, where it has one
abbrev pub front : List ℕ → Option ℕ
front [] = None
front (f ∷ fs) = Some f

-- a list without a frame, which stands once in it
abbrev pub without : ℕ → List ℕ → List ℕ
without f [] = []
without f (g ∷ gs) = if f == g then gs else g ∷ without f gs

-- whether a frame lies in the area: the chunks from the first withdrawn one upwards, of so many frames each, where one is withdrawn
abbrev pub is_inside : ℕ → Option ℕ → ℕ → Bool
is_inside per area f = option_map_or (λ from. nat_le (from * per) f) area false

-- so many new frames, rising from this one, are free
abbrev pub grown : ℕ → ℕ → FrameLists → FrameLists
grown first n l = record l { free = l.free ++ rising first n }

-- a free frame is taken
abbrev pub taken : ℕ → FrameLists → FrameLists
taken f l = record l { free = without f l.free }

-- a frame is given back: it is withdrawn where it lies in the area, and free where it doesn't
abbrev pub given : Bool → ℕ → FrameLists → FrameLists
given inside f l = if inside then record l { withdrawn = l.withdrawn ++ f ∷ [] } else record l { free = l.free ++ f ∷ [] }

-- the free frames from this one upwards are withdrawn, in their order
abbrev pub withdrawing : ℕ → FrameLists → FrameLists
withdrawing first l = record {
  free = filter (λ f. not (nat_le first f)) l.free;
  withdrawn = l.withdrawn ++ filter (λ f. nat_le first f) l.free;
}

-- the withdrawn frames are free again, in their order
abbrev pub undone : FrameLists → FrameLists
undone l = record { free = l.free ++ l.withdrawn; withdrawn = [] }

-- the withdrawn frames are gone
abbrev pub shrunk : FrameLists → FrameLists
shrunk l = record l { withdrawn = [] }
