-- The book of an instance's frames: the chunks, those being withdrawn, the free frames, the withdrawn ones, and those in the hands of calls.
-- It is read from the history, the newest entry first.
use Rattle.std.specs.Prelude.{ℕ, Bool, true, false, not, List, [], ◌∷◌, ◌++◌, ◌==◌, ◌&&◌, ◌-◌, ◌*◌, Option, None, Some, filter, if◌then◌else◌, nat_le}
use Rattle.std.specs.List.{list_any}
use Rattle.std.specs.Option.{option_map_or}
use Rattle.page_ids.specs.Chunks.{chunks_of, rising}
use Rattle.page_ids.specs.FrameLists.{front, without}
use Rattle.page_ids.specs.declared.config.Config.{Config}
use Rattle.trail.specs.declared.event.Call.{Call}
use Rattle.trail.specs.declared.event.Call.TheVariants as call
use Rattle.trail.specs.declared.event.Cause.{Cause}
use Rattle.trail.specs.declared.event.Cause.TheVariants as cause
use Rattle.trail.specs.declared.event.Kind.{Kind}
use Rattle.trail.specs.declared.event.Kind.TheVariants as kind
use Rattle.trail.specs.declared.event.Entry.{Entry}
use Rattle.trail.specs.declared.event.Hand.{Hand}

-- the chunks from `from` on are being withdrawn, by this call
pub record Area : Type 0 where
  pub from : ℕ
  pub caller : ℕ
  pub number : ℕ

pub record Book : Type 0 where
  pub chunks : ℕ
  pub area : Option Area
  pub free : List ℕ
  pub withdrawn : List ℕ
  pub hands : List Hand

-- the newest frame in these hands, or else the front of the free list
abbrev pub first_in : List Hand → List ℕ → Option ℕ
first_in [] free = front free
first_in (x ∷ hands) free = Some x.frame

-- the next frame to be taken, whose hand ever it is in
abbrev pub frame_in_turn : Book → Option ℕ
frame_in_turn b = first_in b.hands b.free

-- whether the frame is in the hand of this call
abbrev pub is_holder : ℕ → ℕ → Hand → Bool
is_holder c n x = (x.caller == c) && (x.number == n)

-- the frame that a call takes: that of its own victim, or else the front of the free list
abbrev pub next_frame : Book → ℕ → ℕ → Option ℕ
next_frame b c n = first_in (filter (is_holder c n) b.hands) b.free

-- whether the frame lies in the chunks being withdrawn, with so many frames in a chunk
abbrev pub is_in_area : ℕ → Book → ℕ → Bool
is_in_area per b f = option_map_or (λ (a : Area). nat_le (a.from * per) f) b.area false

-- whether the call is withdrawing the chunks
abbrev pub is_owner : Book → ℕ → ℕ → Bool
is_owner b c n = option_map_or (λ (a : Area). (a.caller == c) && (a.number == n)) b.area false

-- a frame leaves the free list, or the hand that it is in
abbrev pub use_frame : ℕ → Book → Book
use_frame f b = record b { free = without f b.free; hands = filter (λ (x : Hand). not (x.frame == f)) b.hands }

-- a frame is given back
abbrev pub give : ℕ → ℕ → Book → Book
give per f b = let used = use_frame f b in if is_in_area per b f then record used { withdrawn = b.withdrawn ++ f ∷ [] } else record used { free = used.free ++ f ∷ [] }

-- a call that was refused behind its frame gives back the frame that it took, or would have taken
abbrev pub give_next : ℕ → ℕ → ℕ → Book → Book
give_next per c n b = option_map_or (λ f. give per f b) (next_frame b c n) b

-- whether this refusal may come behind the call's frame
abbrev pub is_late : Call → Cause → Bool
is_late (call.Fix p now) (cause.DiskFault before after) = true
is_late (call.Fix p now) (cause.BadPage bad) = true
is_late (call.Create p now) (cause.DiskFault before after) = true
is_late (call.Create p now) (cause.LogSpent end) = true
is_late _ _ = false

abbrev pub withdraw : Area → ℕ → Book → Book
withdraw a per b = record b {
  area = Some a;
  withdrawn = b.withdrawn ++ filter (λ f. nat_le (a.from * per) f) b.free;
  free = filter (λ f. not (nat_le (a.from * per) f)) b.free;
}

abbrev pub book_after : ℕ → Entry → Kind → Book → Book
book_after per e (kind.Load p f) b = use_frame f b
book_after per e (kind.Fix p f clock now) b = b
book_after per e (kind.Create p f start end now) b = use_frame f b
book_after per e (kind.Put p at bytes start end) b = b
book_after per e (kind.Evict p f passed) b = if is_owner b e.caller e.number then give per f b else record b { hands = record { frame = f; caller = e.caller; number = e.number } ∷ b.hands }
book_after per e (kind.Write p lsn upto) b = b
book_after per e (kind.Move p from to) b = record b { free = without to b.free; withdrawn = b.withdrawn ++ from ∷ [] }
book_after per e (kind.Withdraw from) b = withdraw (record { from = from; caller = e.caller; number = e.number }) per b
book_after per e (kind.Undo from) b = record b { area = None; free = b.free ++ b.withdrawn; withdrawn = [] }
book_after per e (kind.Shrink chunks) b = record b { area = None; chunks = chunks; withdrawn = [] }
book_after per e (kind.Grow chunks) b = record b { chunks = chunks; free = b.free ++ rising (b.chunks * per) ((chunks - b.chunks) * per) }
book_after per e (kind.Resize bytes chunks) b = b
book_after per e (kind.Clean written skipped) b = b
book_after per e (kind.Check lsn) b = b
book_after per e (kind.WatchSet p) b = b
book_after per e (kind.WatchAt p f) b = b
book_after per e (kind.Occurred p arrived) b = b
book_after per e (kind.Unwatch p) b = b
book_after per e (kind.Dump pct ids) b = b
book_after per e (kind.Refused asked why) b = if is_late asked why then give_next per e.caller e.number b else b

-- at the start all frames are free, rising
abbrev pub book_at_start : Config → Book
book_at_start c = record { chunks = chunks_of c; area = None; free = rising 0 (chunks_of c * c.frames); withdrawn = []; hands = [] }

abbrev pub book : Config → List Entry → Book
book c [] = book_at_start c
book c (e ∷ h) = book_after c.frames e e.kind (book c h)

abbrev pub is_in : ℕ → List ℕ → Bool
is_in f fs = list_any (λ g. g == f) fs

-- the frames of the chunks, rising, without those that are withdrawn
abbrev pub frames_there : ℕ → Book → List ℕ
frames_there per b = filter (λ f. not (is_in f b.withdrawn)) (rising 0 (b.chunks * per))

-- the frames of the chunks that are being withdrawn, rising
abbrev pub area_frames : ℕ → Book → List ℕ
area_frames per b = option_map_or (λ (a : Area). rising (a.from * per) ((b.chunks - a.from) * per)) b.area []
