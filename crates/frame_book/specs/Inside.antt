-- How a `Book` is kept.
use Rattle.std.specs.Prelude.{◌≤◌, ◌*◌}
use Rattle.link_lists.specs.IndexLists.{IndexList}
use Rattle.page_ids.specs.FrameLists.{FrameLists}
use Rattle.frame_book.specs.declared.book.Book.TheInside.{Inside}
use Rattle.frame_book.specs.View.{View, IsInOrder}

-- both lists by their frames
abbrev pub lists_of : IndexList → IndexList → FrameLists
lists_of free withdrawn = record { free = free.items; withdrawn = withdrawn.items }

-- what is kept as what callers see; the withdraw list grows behind the free list, so its room is that of both
abbrev pub view_of : Inside → View
view_of a = record {
  frames = a.frames;
  max = a.max;
  chunks = a.chunks;
  area = a.area;
  lists = lists_of a.free a.withdrawn;
  room = a.withdrawn.room;
}

-- both lists in order, and room on them for all frames that are there
pub record IsKept (a : Inside) : Type 0 where
  pub order : IsInOrder (view_of a)
  pub enough : a.chunks * a.frames ≤ a.withdrawn.room
  pub more : a.withdrawn.room ≤ a.free.room
