-- The lists that a history gives: what an entry needs of them, and what it leaves.
use Rattle.std.specs.Prelude.{ℕ, false, List, ◌∷◌, ◌≡◌, ◌+◌, ◌≤◌, None, Some, IsSome, ⊤}
use Rattle.page_ids.specs.Chunks.{chunks_of}
use Rattle.page_ids.specs.declared.ids.PageId.{PageId}
use Rattle.page_ids.specs.declared.config.Config.{Config}
use Rattle.trail.specs.declared.event.Kind.{Kind}
use Rattle.trail.specs.declared.event.Kind.TheVariants as kind
use Rattle.trail.specs.declared.event.Entry.{Entry}
use Rattle.trail.specs.History.{home}
use Rattle.trail.specs.Dirt.{is_dirty, log_end}
use Rattle.trail.specs.Book.{book, frame_in_turn}

-- the numbers of the pool, and the history with the newest entry first; for how many entries there is room
pub record Ledger : Type 0 where
  pub config : Config
  pub history : List Entry
  pub room : ℕ

-- the numbers of a pool that starts with one chunk
pub record IsOneChunk (c : Config) : Type 0 where
  pub one : chunks_of c ≡ 1
  pub frames : c.frames ≤ 8192
  pub max : (1 ≤ c.max) × (c.max ≤ 16)
  pub percent : c.old_pct ≤ 100

-- the frame is no page's home
abbrev pub IsVacant : List Entry → ℕ → Type 0
IsVacant h f = (p : PageId) → home h p ≡ Some f → ⊥

-- a page without a home comes into the frame that is next
pub record IsArrival (l : Ledger) (p : PageId) (f : ℕ) : Type 0 where
  pub absent : home l.history p ≡ None
  pub next : frame_in_turn (book l.config l.history) ≡ Some f

-- a page without a home is made in the frame that is next, and the record of that starts at or behind the end of the log
pub record IsMaking (l : Ledger) (p : PageId) (f start end : ℕ) : Type 0 where
  pub absent : home l.history p ≡ None
  pub next : frame_in_turn (book l.config l.history) ≡ Some f
  pub behind : log_end l.history ≤ start
  pub rises : start ≤ end

-- a resident page is changed, and the record of the change starts at or behind the end of the log
pub record IsChange (l : Ledger) (p : PageId) (start end : ℕ) : Type 0 where
  pub resident : IsSome (home l.history p)
  pub behind : log_end l.history ≤ start
  pub rises : start ≤ end

-- a clean page leaves its frame where no frame is free
pub record IsDeparture (l : Ledger) (p : PageId) (f : ℕ) : Type 0 where
  pub resident : home l.history p ≡ Some f
  pub clean : is_dirty l.history p ≡ false
  pub none_free : frame_in_turn (book l.config l.history) ≡ None

-- What an entry needs of the lists. Entries of a kind that no call makes so far may not come.
abbrev pub MayCome : Ledger → Kind → Type 0
MayCome l (kind.Load p f) = IsArrival l p f
MayCome l (kind.Fix p f clock now) = home l.history p ≡ Some f
MayCome l (kind.Create p f start end now) = IsMaking l p f start end
MayCome l (kind.Put p at bytes start end) = IsChange l p start end
MayCome l (kind.Evict p f passed) = IsDeparture l p f
MayCome l (kind.Write p lsn upto) = ⊤
MayCome l (kind.Move p from to) = ⊥
MayCome l (kind.Withdraw from) = ⊥
MayCome l (kind.Undo from) = ⊥
MayCome l (kind.Shrink chunks) = ⊥
MayCome l (kind.Grow chunks) = ⊥
MayCome l (kind.Resize bytes chunks) = ⊥
MayCome l (kind.Clean written skipped) = ⊤
MayCome l (kind.Check lsn) = ⊤
MayCome l (kind.WatchSet p) = ⊥
MayCome l (kind.WatchAt p f) = ⊥
MayCome l (kind.Occurred p arrived) = ⊥
MayCome l (kind.Unwatch p) = ⊥
MayCome l (kind.Dump pct ids) = ⊥
MayCome l (kind.Refused asked why) = ⊤

-- one entry came, and no memory was taken
pub record IsGrownBy (old new : Ledger) (e : Entry) : Type 0 where
  pub config : new.config ≡ old.config
  pub history : new.history ≡ e ∷ old.history
  pub room : old.room ≤ new.room + 1
