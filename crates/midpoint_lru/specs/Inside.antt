-- How an `Lru` is kept.
use Rattle.std.specs.Prelude.{ℕ, ◌≡◌, ◌≤◌, ◌^◌, ◌==◌, length}
use Rattle.page_ids.specs.Midpoint.{count_of, old_length}
use Rattle.midpoint_lru.specs.declared.lru.Lru.TheInside.{Inside}
use Rattle.midpoint_lru.specs.View.{View}

-- what is kept as what callers see
abbrev pub view_of : Inside → View
view_of a = record {
  numbers = record { pct = a.pct; time = a.time; min = a.min };
  order = record { listed = a.parts.listed; evicts = a.evicts };
  room = a.parts.room;
}

-- Each frame is listed at most once, and only frames below the room are.
pub record AreListedOnce (v : View) : Type 0 where
  pub once : (f : ℕ) → count_of (λ k. k == f) v.order.listed ≤ 1
  pub below : (f : ℕ) → v.room ≤ f → count_of (λ k. k == f) v.order.listed ≡ 0

-- the bounds of the numbers, the frames, and that just so many are old as the rule says
pub record IsKept (a : Inside) : Type 0 where
  pub percent : a.pct ≤ 100
  pub counted : a.evicts ≤ 2 ^ 48
  pub exact : a.parts.old_len ≡ old_length (view_of a).numbers (length a.parts.listed)
  pub frames : AreListedOnce (view_of a)
