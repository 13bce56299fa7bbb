-- What stands on the disk and in the frames behind a history.
use Rattle.std.specs.Prelude.{ℕ, true, false, ◌≡◌, Option, None, Some, IfSome, IsSome}
use Rattle.page_ids.specs.Content.{Content}
use Rattle.page_ids.specs.Layout.{IsPage}
use Rattle.page_ids.specs.Size.{page_bytes}
use Rattle.page_ids.specs.declared.ids.PageId.{PageId}
use Rattle.page_disk.specs.Disks.{DiskSeen, pages_in, Fades}
use Rattle.trail.specs.History.{value, home}
use Rattle.trail.specs.Dirt.{is_dirty}
use Rattle.trail.specs.Saved.{is_written, saved}
use Rattle.frame_words.specs.Seen.{FramesSeen, row_at}
use Rattle.desk.specs.Base.{Opened, IsBase}
use Rattle.desk.specs.State.{State}

-- The image in a page's home is told to be the page's value. Where its content isn't told, the values are.
abbrev pub IsValueIn : Opened → FramesSeen → Option (Option Content) → Option Content → Type 0
IsValueIn o s None v = ⊥
IsValueIn o s (Some None) v = (s.base ≡ Some o.base) × IsSome v
IsValueIn o s (Some (Some c)) v = v ≡ Some c

-- Each image is its page's value, and each told page is what was last written of it. Pages were opened so.
pub record IsBehind {D : Type 0} (seen : D → DiskSeen) (o : Opened) (desk : State D) (frames : FramesSeen) : Type 0 where
  pub size : page_bytes desk.config.page ≡ o.size
  pub pages : (space : ℕ) → o.pages space ≡ pages_in (seen desk.disk).spaces space
  pub based : IsBase o.told o.pages o.base
  -- a disk that told a page goes on to tell
  pub telling : (p : PageId) → IsSome (o.told p) → (seen desk.disk).tells ≡ true
  -- the image in a page's home is the page's value
  pub values : (p : PageId) (f : ℕ) → home desk.history p ≡ Some f → IsValueIn o frames (row_at frames f).image (value o.size o.base desk.history p)
  -- a page that was written is told, if at all, as a page for its value at its latest write
  pub written : (p : PageId) → is_written desk.history p ≡ true → IfSome ((seen desk.disk).told p) (λ bytes. IfSome (saved o.size o.base desk.history p) (λ c. IsPage p bytes c))
  -- a page that never was is told, if at all, as at the opening
  pub unwritten : (p : PageId) → is_written desk.history p ≡ false → Fades (o.told p) ((seen desk.disk).told p)
  -- a clean page is told where it was told at the opening; a write that failed may leave a dirty one untold
  pub clean : (p : PageId) → is_dirty desk.history p ≡ false → IsSome (o.told p) → IsSome ((seen desk.disk).told p)
  -- a page without a value was never written
  pub valued : (p : PageId) → is_written desk.history p ≡ true → IsSome (value o.size o.base desk.history p)

-- a desk with an empty history over a disk that was just opened
pub record IsNewlyOpened (o : Opened) (disk : DiskSeen) : Type 0 where
  pub size_is : disk.size ≡ o.size
  pub pages_are : (space : ℕ) → o.pages space ≡ pages_in disk.spaces space
  pub told_are : (p : PageId) → disk.told p ≡ o.told p
  pub based : IsBase o.told o.pages o.base
