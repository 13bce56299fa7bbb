-- How many places of the history a call needs, by the state before its first entry, or before its undoing where that tells of a later round.
use Rattle.std.specs.Prelude.{ℕ, List, ◌==◌, ◌+◌, ◌-◌, ◌*◌, ◌≤◌, Option, None, Some, IfSome, length, nat_lt, if◌then◌else◌}
use Rattle.std.specs.Option.{option_map_or}
use Rattle.page_ids.specs.Chunks.{chunks_for}
use Rattle.page_ids.specs.Needs.{clean_need, round_need}
use Rattle.page_ids.specs.declared.config.Config.{Config}
use Rattle.page_ids.specs.declared.limits.TheConstants.{ANSWER_NEED, CREATE_NEED, FIX_NEED, GROWTH_NEED, LAST_PLACE, LIMIT}
use Rattle.trail.specs.declared.event.Call.{Call}
use Rattle.trail.specs.declared.event.Call.TheVariants as call
use Rattle.trail.specs.declared.event.Entry.{Entry}
use Rattle.trail.specs.Trails.{mark}
use Rattle.trail.specs.Book.{Area, Book, area_frames, book, is_owner}
use Rattle.trail.specs.Dirt.{dirty}

-- the area that another call is withdrawing
abbrev pub others_area : Book → ℕ → ℕ → Option Area
others_area b c n = if is_owner b c n then None else b.area

-- a resize that can't begin, or finds as many chunks as it asks for, leaves its answer alone
abbrev pub resize_need : Config → Book → ℕ → ℕ → ℕ
resize_need config b bytes target =
    if bytes == 0 then ANSWER_NEED
    else if nat_lt config.max target then ANSWER_NEED
    else if nat_lt target b.chunks then round_need ((b.chunks - target) * config.frames)
    else if target == b.chunks then ANSWER_NEED else GROWTH_NEED

-- A resize in the state of its first entry goes by its target, and by the area that it has opened later on; while another call's area is open it leaves its answer alone.
abbrev pub area_need : Config → Book → ℕ → ℕ → ℕ
area_need config b c n = if is_owner b c n then round_need (length (area_frames config.frames b)) else ANSWER_NEED

-- the calls that take no turn leave receipts alone
abbrev pub need_of : Config → List Entry → ℕ → ℕ → Call → Option ℕ
need_of config h c n (call.Fix p now) = Some FIX_NEED
need_of config h c n (call.Create p now) = Some CREATE_NEED
need_of config h c n (call.Put p at bytes) = Some ANSWER_NEED
need_of config h c n (call.Read p at len) = None
need_of config h c n (call.Unfix p) = None
need_of config h c n (call.Guess p f clock) = None
need_of config h c n (call.Watch p) = Some ANSWER_NEED
need_of config h c n (call.Occurred p) = Some ANSWER_NEED
need_of config h c n (call.Unwatch p) = Some ANSWER_NEED
need_of config h c n (call.Clean bound) = Some (clean_need bound (length (dirty h)))
need_of config h c n call.Check = Some ANSWER_NEED
need_of config h c n (call.Dump pct) = Some ANSWER_NEED
need_of config h c n (call.Resize bytes rounds) =
    let b = book config h in Some (option_map_or (λ (a : Area). area_need config b c n) b.area (resize_need config b bytes (chunks_for config bytes)))

-- the last place that the call may take; a clean of the runner, caller 0, may be the closing flush
abbrev pub limit_of : ℕ → Call → ℕ
limit_of c (call.Clean bound) = if c == 0 then LAST_PLACE else LIMIT
limit_of c _ = LIMIT

-- the places that the call needs are left
abbrev pub HasPlaces : ℕ → Config → List Entry → ℕ → ℕ → Call → Type 0
HasPlaces first config h c n asked = IfSome (need_of config h c n asked) (λ need. mark first h + need ≤ limit_of c asked)
