-- Trails: their events and places, and with what an instance is opened. In look-ups the newest event, entry or receipt stands first.
use Rattle.std.specs.Prelude.{ℕ, List, [], ◌∷◌, ◌≡◌, ◌==◌, ◌+◌, Option, nat_le, nat_lt, if◌then◌else◌}
use Rattle.page_ids.specs.Content.{Content}
use Rattle.page_ids.specs.declared.ids.PageId.{PageId}
use Rattle.page_ids.specs.declared.config.Config.{Config}
use Rattle.trail.specs.declared.event.Entry.{Entry}
use Rattle.trail.specs.declared.event.Receipt.{Receipt}
use Rattle.trail.specs.declared.event.Event.{Event}
use Rattle.trail.specs.declared.event.Event.TheVariants as event

-- a trail: the place before its first entry, and its events in order
pub record Events : Type 0 where
  pub first : ℕ
  pub events : List Event

-- with what an instance is opened: the place before its first entry, the pool's numbers, and the pages' first values where they are told
pub record Opening : Type 0 where
  pub first : ℕ
  pub config : Config
  pub base : Option (PageId → Option Content)

abbrev pub caller_of : Event → ℕ
caller_of (event.Entry e) = e.caller
caller_of (event.Receipt r) = r.caller

abbrev pub number_of : Event → ℕ
number_of (event.Entry e) = e.number
number_of (event.Receipt r) = r.number

-- the history of a trail
abbrev pub entries : List Event → List Entry
entries [] = []
entries (event.Entry e ∷ past) = e ∷ entries past
entries (event.Receipt r ∷ past) = entries past

-- and its receipts
abbrev pub receipts : List Event → List Receipt
receipts [] = []
receipts (event.Entry e ∷ past) = receipts past
receipts (event.Receipt r ∷ past) = r ∷ receipts past

-- a caller's own events
abbrev pub own : ℕ → List Event → List Event
own c [] = []
own c (e ∷ past) = if caller_of e == c then e ∷ own c past else own c past

-- who has an event, each one as often as it has events
abbrev pub callers : List Event → List ℕ
callers [] = []
callers (e ∷ past) = caller_of e ∷ callers past

-- the place of the last entry; at the start the place before the first
abbrev pub mark : ℕ → List Entry → ℕ
mark first [] = first
mark first (e ∷ h) = e.place

-- the greater of two numbers
abbrev pub most : ℕ → ℕ → ℕ
most m n = if nat_le m n then n else m

-- the history before a place
abbrev pub before : ℕ → List Entry → List Entry
before n [] = []
before n (e ∷ h) = if nat_lt e.place n then e ∷ h else before n h

-- the entries have the places after the first one, each one more than that before it
abbrev pub AreNumbered : ℕ → List Entry → Type 0
AreNumbered first [] = Unit {0}
AreNumbered first (e ∷ h) = (e.place ≡ mark first h + 1) × AreNumbered first h
