-- A history with each receipt behind the entry of its place.
use Rattle.std.specs.List.{AllByRecursion, count_by}
use Rattle.std.specs.Prelude.{ℕ, List, [], ◌∷◌, ◌++◌, ◌≡◌, ◌==◌, ◌&&◌, ◌+◌, ◌≤◌, map, sum_by, vec_len, Vec}
use Rattle.std.specs.Ordering.{nat_cmp, ordering_then}
use Rattle.std.specs.declared.cmp.Ordering.{Ordering}
use Rattle.std.specs.List.Sorted.{IsPermutation, IsSorted}
use Rattle.std.specs.declared.alloc.Global.{Global}
use Rattle.trail.specs.declared.event.Entry.{Entry}
use Rattle.trail.specs.declared.event.Receipt.{Receipt}
use Rattle.trail.specs.declared.event.Event.{Event}
use Rattle.trail.specs.declared.event.Event.TheVariants as event
use Rattle.trail.specs.Trails.{mark, AreNumbered, entries}
use Rattle.trail.specs.Legal.{IsInOrder}

-- the receipts of all accounts, account by account, and how many they are
abbrev pub together : List (Vec Receipt Global) → List Receipt
together [] = []
together (account ∷ accounts) = account.items ++ together accounts

abbrev pub receipts_in : List (Vec Receipt Global) → ℕ
receipts_in accounts = sum_by (λ account. vec_len account) accounts

-- entries and receipts as events
abbrev pub entries_told : List Entry → List Event
entries_told es = map (λ (e : Entry). event.Entry e) es

abbrev pub told : List Receipt → List Event
told rs = map (λ (r : Receipt). event.Receipt r) rs

-- where an event stands in a trail: its place, an entry before receipts, and these by caller, then number
abbrev pub rank : Event → ℕ × ℕ × ℕ × ℕ
rank (event.Entry e) = (e.place, 0, 0, 0)
rank (event.Receipt r) = (r.place, 1, r.caller, r.number)

abbrev pub rank_cmp : ℕ × ℕ × ℕ × ℕ → ℕ × ℕ × ℕ × ℕ → Ordering
rank_cmp m n = ordering_then (ordering_then (ordering_then (nat_cmp m.0 n.0) (nat_cmp m.1 n.1)) (nat_cmp m.2 n.2)) (nat_cmp m.3 n.3)

abbrev pub event_cmp : Event → Event → Ordering
event_cmp x y = rank_cmp (rank x) (rank y)

-- The trail of a history and of accounts: their entries and receipts, none lost and none more, by rank.
pub record IsMerged (es : List Entry) (rs : List Receipt) (events : List Event) : Type 0 where
  pub kept : IsPermutation (entries_told es ++ told rs) events
  pub ranked : IsSorted event_cmp events

-- The entries, the newest first, have the places after the first one, and each receipt has one of these or the first.
pub record HavePlaces (first : ℕ) (h : List Entry) (rs : List Receipt) : Type 0 where
  pub numbered : AreNumbered first h
  pub within : AllByRecursion (λ (r : Receipt). (first ≤ r.place) × (r.place ≤ mark first h)) rs

-- no call has more than one of the receipts
abbrev pub HasOneEach : List Receipt → Type 0
HasOneEach rs = (c n : ℕ) → count_by (λ (r : Receipt). (r.caller == c) && (r.number == n)) rs ≤ 1

-- Events, the newest first: receipts of one place stand by caller, then number.
abbrev pub AreInOrder : List Event → Type 0
AreInOrder [] = Unit {0}
AreInOrder (e ∷ past) = IsInOrder past e × AreInOrder past

-- Events, the newest first: each entry has the next place, and each receipt that of the newest entry before it.
abbrev pub IsPlaced : ℕ → List Event → Type 0
IsPlaced first [] = Unit {0}
IsPlaced first (event.Entry e ∷ past) = (e.place ≡ mark first (entries past) + 1) × IsPlaced first past
IsPlaced first (event.Receipt r ∷ past) = (r.place ≡ mark first (entries past)) × IsPlaced first past
