-- A history is its list of entries, the newest first. What it says of a page or a frame is a look-up from the newest entry back.
use Rattle.std.specs.Prelude.{ℕ, Bool, false, List, [], ◌∷◌, ◌==◌, Option, None, Some, if◌then◌else◌, find, replicate, unwrap_or}
use Rattle.std.specs.Option.{option_map, option_map_or}
use Rattle.page_ids.specs.Content.{Content, patched}
use Rattle.page_ids.specs.Same.{same_page}
use Rattle.page_ids.specs.declared.ids.PageId.{PageId}
use Rattle.trail.specs.declared.event.Cause.{Cause}
use Rattle.trail.specs.declared.event.Cause.TheVariants as cause
use Rattle.trail.specs.declared.event.Kind.{Kind}
use Rattle.trail.specs.declared.event.Kind.TheVariants as kind
use Rattle.trail.specs.declared.event.Entry.{Entry}
use Rattle.trail.specs.Kinds.{Placing, Changing, Refusing, arrival_in, change_in, refusal_in}

-- The value of a page in the plain page map: at first what the disk gave, then blank where it was created, and with the bytes that were put.
-- Loading, evicting and relocating leave it. Pages have `size` bytes.
abbrev pub value_after : ℕ → Kind → PageId → Option Content → Option Content
value_after size (kind.Load q f) p before = before
value_after size (kind.Fix q f clock now) p before = before
value_after size (kind.Create q f start end now) p before = if same_page q p then Some (record { lsn = end; bytes = replicate size 0 }) else before
value_after size (kind.Put q at bytes start end) p before = if same_page q p then option_map (λ c. patched c at bytes end) before else before
value_after size (kind.Evict q f passed) p before = before
value_after size (kind.Write q lsn upto) p before = before
value_after size (kind.Move q from to) p before = before
value_after size (kind.Withdraw from) p before = before
value_after size (kind.Undo from) p before = before
value_after size (kind.Shrink chunks) p before = before
value_after size (kind.Grow chunks) p before = before
value_after size (kind.Resize bytes chunks) p before = before
value_after size (kind.Clean written skipped) p before = before
value_after size (kind.Check lsn) p before = before
value_after size (kind.WatchSet q) p before = before
value_after size (kind.WatchAt q f) p before = before
value_after size (kind.Occurred q arrived) p before = before
value_after size (kind.Unwatch q) p before = before
value_after size (kind.Dump pct ids) p before = before
value_after size (kind.Refused asked why) p before = before

abbrev pub value : ℕ → (PageId → Option Content) → List Entry → PageId → Option Content
value size base [] p = base p
value size base (e ∷ h) p = value_after size e.kind p (value size base h p)

-- the frame that the page is in
abbrev pub home_after : Kind → PageId → Option ℕ → Option ℕ
home_after (kind.Load q f) p before = if same_page q p then Some f else before
home_after (kind.Fix q f clock now) p before = before
home_after (kind.Create q f start end now) p before = if same_page q p then Some f else before
home_after (kind.Put q at bytes start end) p before = before
home_after (kind.Evict q f passed) p before = if same_page q p then None else before
home_after (kind.Write q lsn upto) p before = before
home_after (kind.Move q from to) p before = if same_page q p then Some to else before
home_after (kind.Withdraw from) p before = before
home_after (kind.Undo from) p before = before
home_after (kind.Shrink chunks) p before = before
home_after (kind.Grow chunks) p before = before
home_after (kind.Resize bytes chunks) p before = before
home_after (kind.Clean written skipped) p before = before
home_after (kind.Check lsn) p before = before
home_after (kind.WatchSet q) p before = before
home_after (kind.WatchAt q f) p before = before
home_after (kind.Occurred q arrived) p before = before
home_after (kind.Unwatch q) p before = before
home_after (kind.Dump pct ids) p before = before
home_after (kind.Refused asked why) p before = before

abbrev pub home : List Entry → PageId → Option ℕ
home [] p = None
home (e ∷ h) p = home_after e.kind p (home h p)

-- the pages that ever came into a frame, each one as often as it came
abbrev pub arrived : List Entry → List PageId
arrived [] = []
arrived (e ∷ h) = option_map_or (λ (a : Placing). a.page ∷ arrived h) (arrival_in e.kind) (arrived h)

-- the page that has the frame as its home
abbrev pub tenant : List Entry → ℕ → Option PageId
tenant h f = find (λ p. option_map_or (λ g. g == f) (home h p) false) (arrived h)

-- whether the entry changes the page or the image of the frame, where it comes after this history
abbrev pub changes : List Entry → Kind → ℕ → Bool
changes h k f = option_map_or (λ (a : Placing). a.frame == f) (arrival_in k)
    (option_map_or (λ (c : Changing). option_map_or (λ g. g == f) (home h c.page) false) (change_in k) false)

-- the modify clock of a frame: the place of its last change, 0 before the first
abbrev pub change : List Entry → ℕ → ℕ
change [] f = 0
change (e ∷ h) f = if changes h e.kind f then e.place else change h f

-- the count of faults that a device's fault leaves
abbrev pub disk_fault : Cause → Option ℕ
disk_fault (cause.DiskFault before after) = Some after
disk_fault _ = None

abbrev pub log_fault : Cause → Option ℕ
log_fault (cause.RedoFault before after) = Some after
log_fault _ = None

-- a refusal that tells a count leaves it; every other entry leaves the one before
abbrev pub disk_faults_after : Kind → ℕ → ℕ
disk_faults_after k last = option_map_or (λ (r : Refusing). unwrap_or (disk_fault r.cause) last) (refusal_in k) last

abbrev pub log_faults_after : Kind → ℕ → ℕ
log_faults_after k last = option_map_or (λ (r : Refusing). unwrap_or (log_fault r.cause) last) (refusal_in k) last

-- the disk's count of faults as the last of its faults told it, 0 before the first
abbrev pub disk_faults : List Entry → ℕ
disk_faults [] = 0
disk_faults (e ∷ h) = disk_faults_after e.kind (disk_faults h)

-- and the log's
abbrev pub log_faults : List Entry → ℕ
log_faults [] = 0
log_faults (e ∷ h) = log_faults_after e.kind (log_faults h)
