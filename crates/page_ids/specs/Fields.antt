-- What the numbers of a pool may be, and which of them is judged to be wrong.
use Rattle.std.specs.Prelude.{ℕ, Bool, List, [], ◌∷◌, ◌+◌, ◌*◌, ◌/◌, ◌-◌, ◌^◌, ◌<◌, ◌≤◌, ◌&&◌, nat_le, Option, None, Some, if◌then◌else◌}
use Rattle.page_ids.specs.Size.{page_bytes, is_page_size}
use Rattle.page_ids.specs.Chunks.{chunks_of}
use Rattle.page_ids.specs.declared.config.Config.{Config}
use Rattle.page_ids.specs.declared.config.Field.{Field}
use Rattle.page_ids.specs.declared.config.Field.TheVariants.{Page, Instances, Frames, Size, Max, OldPct, OldTime, OldMin, Lsn, First}
use Rattle.page_ids.specs.declared.config.BadConfig.{BadConfig}
use Rattle.page_ids.specs.declared.limits.TheConstants.{LAST_LSN, LIMIT, MOST_FRAMES, MOST_BYTES}

-- the least multiple of the unit that is at least so many
abbrev pub rounded : ℕ → ℕ → ℕ
rounded bytes unit = (bytes + unit - 1) / unit * unit

abbrev pub is_within : ℕ → ℕ → ℕ → Bool
is_within low high n = nat_le low n && nat_le n high

-- all fields, in the order in which a script's settings are printed
abbrev pub fields : List Field
fields = Page ∷ Instances ∷ Frames ∷ Size ∷ Max ∷ OldPct ∷ OldTime ∷ OldMin ∷ Lsn ∷ First ∷ []

-- and in the order in which they are judged: the size by the greatest number of chunks, which stands before it
abbrev pub judged : List Field
judged = Page ∷ Instances ∷ Frames ∷ Max ∷ Size ∷ OldPct ∷ OldTime ∷ OldMin ∷ Lsn ∷ First ∷ []

-- the ranges of the fields
abbrev pub is_settable : Field → ℕ → Bool
is_settable Page n = is_page_size n
is_settable Instances n = is_within 1 16 n
is_settable Frames n = is_within 1 8192 n
is_settable Size n = is_within 1 MOST_BYTES n
is_settable Max n = is_within 1 16 n
is_settable OldPct n = is_within 5 95 n
is_settable OldTime n = is_within 0 (2 ^ 32 - 1) n
is_settable OldMin n = is_within 1 16384 n
is_settable Lsn n = is_within 1 (LAST_LSN - 1) n
is_settable First n = is_within 0 LIMIT n

-- the number that the field has
abbrev pub setting_of : Config → Field → ℕ
setting_of c Page = page_bytes c.page
setting_of c Instances = c.instances
setting_of c Frames = c.frames
setting_of c Size = c.size
setting_of c Max = c.max
setting_of c OldPct = c.old_pct
setting_of c OldTime = c.old_time
setting_of c OldMin = c.old_min
setting_of c Lsn = c.lsn
setting_of c First = c.first

-- there is room for the greatest number of chunks: in an instance's table, and in memory for all instances
abbrev pub has_room : Config → Bool
has_room c = nat_le (c.frames * c.max) MOST_FRAMES && nat_le (page_bytes c.page * (c.frames * c.max) * c.instances) MOST_BYTES

-- the field is in its range; the greatest number of chunks has room, and those at the start are no more
abbrev pub is_fit : Config → Field → Bool
is_fit c Max = is_settable Max c.max && has_room c
is_fit c Size = is_settable Size c.size && nat_le (chunks_of c) c.max
is_fit c field = is_settable field (setting_of c field)

-- the first of these fields that isn't fit, with its number
abbrev pub first_unfit : Config → List Field → Option BadConfig
first_unfit c [] = None
first_unfit c (field ∷ fields) = if is_fit c field then first_unfit c fields else Some (record { field = field; value = setting_of c field })

-- what is wrong with a pool's numbers: none where they are all fit
abbrev pub unfit_of : Config → Option BadConfig
unfit_of c = first_unfit c judged

-- the numbers of a pool that can be made
pub record IsFit (c : Config) : Type 0 where
  pub instances : (1 ≤ c.instances) × (c.instances ≤ 16)
  pub frames : (1 ≤ c.frames) × (c.frames ≤ 8192)
  pub size : (1 ≤ c.size) × (c.size ≤ MOST_BYTES)
  pub max : (1 ≤ c.max) × (c.max ≤ 16)
  pub room : c.frames * c.max ≤ MOST_FRAMES
  pub bytes : page_bytes c.page * (c.frames * c.max) * c.instances ≤ MOST_BYTES
  pub chunks : (1 ≤ chunks_of c) × (chunks_of c ≤ c.max)
  pub pct : (5 ≤ c.old_pct) × (c.old_pct ≤ 95)
  pub time : c.old_time < 2 ^ 32
  pub min : (1 ≤ c.old_min) × (c.old_min ≤ 16384)
  pub lsn : (1 ≤ c.lsn) × (c.lsn < LAST_LSN)
  pub first : c.first ≤ LIMIT
