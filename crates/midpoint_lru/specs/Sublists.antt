-- How the list is kept: one index list, whose first part is young and whose last part is old.
use Rattle.std.specs.Prelude.{ℕ, true, false, List, ◌++◌, Option, None, ◌≡◌, ◌<◌, ◌≤◌, length, map, slice_index_or}
use Rattle.link_lists.specs.Grid.{times}
use Rattle.link_lists.specs.Chains.{first}
use Rattle.link_lists.specs.IndexLists.{IndexList}
use Rattle.page_ids.specs.Midpoint.{Listed}
use Rattle.midpoint_lru.specs.declared.sublists.Member.{Member}
use Rattle.midpoint_lru.specs.declared.sublists.Sublists.TheInside.{Inside}
use Rattle.midpoint_lru.specs.Parts.{Parts}

-- what is kept of a frame, by its number
abbrev pub member_of : List Member → ℕ → Member
member_of members frame = slice_index_or members frame (record { first = None; since = 0; is_old = false })

-- a frame of which this is kept as one of the list
abbrev pub listed_as : ℕ → Member → Listed ℕ
listed_as frame member = record { key = frame; first = member.first; since = member.since }

-- a frame as one of the list
abbrev pub listed_of : List Member → ℕ → Listed ℕ
listed_of members frame = listed_as frame (member_of members frame)

-- what is kept as what the calls see
abbrev pub parts_of : Inside → Parts
parts_of a = record { listed = map (listed_of a.members.items) a.list.items; old_len = a.old_len; room = a.list.room }

-- the list is these frames, each once
pub record IsList (list : IndexList) (frames : List ℕ) : Type 0 where
  pub is : list.items ≡ frames
  pub once : (f : ℕ) → times f frames ≤ 1

-- the list is the young ones and then the old ones, the first of which is known, and each has its mark
pub record AreSublists (list : IndexList) (members : List Member) (first_old : Option ℕ) (young old : List ℕ) : Type 0 where
  pub whole : IsList list (young ++ old)
  pub first : first_old ≡ first old
  pub young_marks : (f : ℕ) → 1 ≤ times f young → (member_of members f).is_old ≡ false
  pub old_marks : (f : ℕ) → 1 ≤ times f old → (member_of members f).is_old ≡ true
  pub there : (f : ℕ) → 1 ≤ times f (young ++ old) → f < length members

-- the two sublists, the length of the old one, and a member for every frame that may come
pub record IsKept (a : Inside) : Type 0 where
  pub young : List ℕ
  pub old : List ℕ
  pub are : AreSublists a.list a.members.items a.first_old young old
  pub share : a.old_len ≡ length old
  pub room : a.list.room ≤ length a.members.items
