-- The lists as a page is made: it comes as one that was read in, is touched, and is dirty.
use Rattle.std.proofs.Common.{◌≡◌, ◌==◌, ◌+◌, ◌≤◌, ℕ, Bool, cond, List, ◌∷◌, set, Option, Some, None, refl, ap, arith, eq-eqb}
use Rattle.page_ids.specs.Midpoint.{numbers_of, read_in}
use Rattle.page_ids.specs.Same.{same_page}
use Rattle.page_ids.specs.declared.ids.PageId.{PageId}
use Rattle.page_ids.specs.declared.config.Config.{Config}
use Rattle.page_ids.proofs.midpoint.Counts.{listed_from_count, count-read_in}
use Rattle.midpoint_lru.specs.View.{View, Has}
use Rattle.flush_list.specs.View.{View as Flush, IsNew}
use Rattle.trail.specs.declared.event.Entry.{Entry}
use Rattle.trail.specs.declared.event.Hand.{Hand}
use Rattle.trail.specs.declared.event.Kind.{Kind}
use Rattle.trail.specs.declared.event.Kind.TheVariants as kind
use Rattle.trail.specs.Trails.{mark}
use Rattle.trail.specs.History.{home, home_after}
use Rattle.trail.specs.Book.{book, book_after}
use Rattle.trail.specs.Dirt.{dirty, dirty_after, log_end, log_end_after}
use Rattle.trail.specs.Order.{order, order_after}
use Rattle.instance_lists.specs.KeptLists.{AreKept, in_turn, newest_in, after_change, after_making}
use Rattle.instance_lists.proofs.Dirt.{same_self}
use Rattle.instance_lists.proofs.ListsFlush.{dirt_put, soil_new}
use Rattle.instance_lists.proofs.ListsOrder.{order_touch}
use Rattle.instance_lists.proofs.ListsKept.{homes_on, book_on, used_on, kept_load}

-- a frame that was read in may be touched
pub read_in_listed : (v : View) (f : ℕ) → Has (record v { order = read_in v.numbers f v.order }) f
read_in_listed v f =
    let came = count-read_in (λ m. m == f) v.numbers f v.order in
    let here : cond {A = ℕ} (f == f) 1 0 ≡ 1 = ap (λ (b : Bool). cond {A = ℕ} b 1 0) (eq-eqb f f refl) in
    listed_from_count ◌==◌ f (read_in v.numbers f v.order).listed (omega (arith, came, here))

-- the same entry, as that of a load
abbrev pub as_load : Entry → PageId → ℕ → Entry
as_load e p f = record e { kind = kind.Load p f }

module _ {c : Config} {h : List Entry} {homes : PageId → Option ℕ} {tenants : List PageId} {free : List ℕ} {hand : Option Hand} {newest : List (Option ℕ)} {flush : Flush} {lru : View} {seats : ℕ}
    (k : AreKept c h homes tenants free hand newest flush lru seats) (e : Entry) (place : e.place ≡ mark c.first h + 1)
    (p : PageId) (f : ℕ) {more : PageId → Option ℕ} {rest : List ℕ} (absent : home h p ≡ None) (turn : in_turn hand free ≡ f ∷ rest)
    (grown : (q : PageId) → more q ≡ cond (same_page p q) (Some f) (homes q)) where
  -- the page comes
  pub kept_first : AreKept c (as_load e p f ∷ h) more (set tenants f p) rest None newest flush (record lru { order = read_in lru.numbers f lru.order }) seats
  kept_first = kept_load k (as_load e p f) place p f more rest refl absent turn grown

  home_first : home (as_load e p f ∷ h) p ≡ Some f
  home_first = ap (λ (b : Bool). cond b (Some f) (home h p)) (same_self p)

  -- it may come to the head of the flush list
  pub first_new : newest_in newest f ≡ None → IsNew flush f
  first_new none = soil_new c (as_load e p f ∷ h) more (set tenants f p) newest flush kept_first.homed kept_first.soiled p f home_first none

  -- all in one entry
  pub kept_create : (now start end : ℕ) → e.kind ≡ kind.Create p f start end now → log_end h ≤ start → start ≤ end
      → AreKept c (e ∷ h) more (set tenants f p) rest None (set newest f (Some end)) (after_change f start (newest_in newest f) flush)
      (after_making f now lru) seats
  kept_create now start end is ahead rises =
      let first = as_load e p f in
      let came = record lru { order = read_in lru.numbers f lru.order } in
      let same : (q : PageId) → home (e ∷ h) q ≡ home (first ∷ h) q = λ q. ap (λ (x : Kind). home_after x q (home h q)) is in
      record {
        one = k.one;
        places = omega (arith, place, k.places);
        homed = homes_on c (first ∷ h) (e ∷ h) more (set tenants f p) same kept_first.homed;
        booked = book_on c (first ∷ h) (e ∷ h) rest None same (ap (λ (x : Kind). book_after c.frames e x (book c h)) is) kept_first.booked;
        used = used_on c (first ∷ h) (e ∷ h) (set tenants f p) rest same kept_first.used;
        soiled = dirt_put c (first ∷ h) more (set tenants f p) newest flush kept_first.homed kept_first.soiled (e ∷ h) p f start end same
            (ap (λ (x : Kind). dirty_after x (dirty h)) is) (ap (λ (x : Kind). log_end_after x (log_end h)) is) home_first ahead rises;
        ordered = order_touch c (first ∷ h) more (set tenants f p) came kept_first.homed kept_first.ordered (e ∷ h) p f now same
            (ap (λ (x : Kind). order_after (numbers_of c) x (order c h)) is) (omega arith) home_first;
        frames = k.frames;
        seated = kept_first.seated;
      }
