-- What callers see of a page hash: the page of each frame, where it has one. So no frame stands twice; and the frame of each
-- page, which is what the calls are about.
use Rattle.std.specs.Prelude.{ℕ, Bool, false, List, Option, None, Some, ◌≡◌, ◌≢◌, ◌<◌, length, slice_index_or, if◌then◌else◌}
use Rattle.std.specs.List.{position}
use Rattle.page_ids.specs.Same.{same_page}
use Rattle.page_ids.specs.declared.ids.PageId.{PageId}

-- frames below this one can be put in
abbrev pub room : List (Option PageId) → ℕ
room pages = length pages

-- the page of a frame, where it has one
abbrev pub page_in : List (Option PageId) → ℕ → Option PageId
page_in pages f = slice_index_or pages f None

abbrev pub is_page : PageId → Option PageId → Bool
is_page p None = false
is_page p (Some q) = same_page q p

-- the frame of a page, where it is in
abbrev pub home : List (Option PageId) → PageId → Option ℕ
home pages p = position (is_page p) pages

-- no page is in this frame
abbrev pub IsUnused : List (Option PageId) → ℕ → Type 0
IsUnused pages frame = (p : PageId) → home pages p ≢ Some frame

-- this page has this home now, or none, and every other page has the one that it had
pub record IsRehomed (old new : List (Option PageId)) (page : PageId) (to : Option ℕ) : Type 0 where
  pub homes : (p : PageId) → home new p ≡ (if same_page p page then to else home old p)
  pub room_is : room new ≡ room old

-- every page has the home that it had, and there is so much room
pub record IsRoomChanged (old new : List (Option PageId)) (frames : ℕ) : Type 0 where
  pub homes : (p : PageId) → home new p ≡ home old p
  pub room_is : room new ≡ frames

-- no frame is the home of two pages, and each is below the room
pub record IsInOrder (pages : List (Option PageId)) : Type 0 where
  pub once : (p q : PageId) (frame : ℕ) → home pages p ≡ Some frame → home pages q ≡ Some frame → p ≡ q
  pub below : (p : PageId) (frame : ℕ) → home pages p ≡ Some frame → frame < room pages
