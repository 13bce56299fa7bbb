-- The frames of an LRU list by how often each is listed, and where a walk stands.
use Rattle.std.proofs.Common.{◌≡◌, ◌≢◌, ◌∙◌, ◌+◌, ◌<◌, ◌≤◌, ◌==◌, ℕ, cond, inl, inr, Option, Some, None, length, nat_lt, refl, sym, ap, arith}
use Rattle.std.specs.Prelude.{IfSome}
use Rattle.std.specs.Option.{option_map_or}
use Rattle.std.proofs.lemmas.Bool.{cases_eq, cases_lt, eq-eqb, ne_eqb, lt-ltb, le-ltb}
use Rattle.std.proofs.lemmas.List.Sums.{passes_at_first}
use Rattle.page_ids.specs.Midpoint.{Listed, place_of, count_of, read_in, touch}
use Rattle.page_ids.proofs.midpoint.Counts.{listed_from_count, count_from_place, count-read_in, count-touch}
use Rattle.midpoint_lru.specs.View.{View, Has, place_up_to}

-- how often a frame is listed
abbrev pub counted : View → ℕ → ℕ
counted v f = count_of (λ k. k == f) v.order.listed

-- just the frames below this one are listed, each once
abbrev pub AreBelow : ℕ → View → Type 0
AreBelow n v = (f : ℕ) → counted v f ≡ cond (nat_lt f n) 1 0

pub has : (v : View) (f : ℕ) → 0 < counted v f → Has v f
has v f l = listed_from_count ◌==◌ f v.order.listed l

pub has_counted : (v : View) (f : ℕ) → Has v f → 0 < counted v f
has_counted v f l =
    let blank : Listed ℕ = record { key = 0; first = None; since = 0 } in
    count_from_place (λ k. k == f) v.order.listed (place_of ◌==◌ f v.order.listed) blank l (passes_at_first (λ (x : Listed ℕ). x.key == f) v.order.listed blank l)

pub none_below : (f : ℕ) → cond {A = ℕ} (nat_lt f 0) 1 0 ≡ 0
none_below f = ap {B = ℕ} (λ b. cond b 1 0) (le-ltb f 0 (omega arith))

pub is_away : (v : View) (n : ℕ) → AreBelow n v → ¬ Has v n
is_away v n h l = absurd (omega (arith, has_counted v n l, h n, ap {B = ℕ} (λ b. cond b 1 0) (le-ltb n n (omega arith))))

pub is_there : (v : View) (n f : ℕ) → AreBelow n v → f < n → Has v f
is_there v n f h l = has v f (omega (arith, h f, ap {B = ℕ} (λ b. cond b 1 0) (lt-ltb f n l)))

pub one_more : (v : View) (n : ℕ) → AreBelow n v → AreBelow (n + 1) (record v { order = read_in v.numbers n v.order })
one_more v n h f =
    let count = count-read_in (λ k. k == f) v.numbers n v.order in
    elim (cases_eq n f) [
      | inl e ↦
          let here = ap {B = ℕ} (λ b. cond b 1 0) (eq-eqb n f e) in
          let was = ap {B = ℕ} (λ b. cond b 1 0) (le-ltb f n (omega (arith, e))) in
          let is = ap {B = ℕ} (λ b. cond b 1 0) (lt-ltb f (n + 1) (omega (arith, e))) in
          omega (arith, count, h f, here, was, is)
      | inr ne ↦
          let here = ap {B = ℕ} (λ b. cond b 1 0) (ne_eqb n f ne) in
          elim (cases_lt f n) [
            | inl l ↦ omega (arith, count, h f, here, ap {B = ℕ} (λ b. cond b 1 0) (lt-ltb f n l), ap {B = ℕ} (λ b. cond b 1 0) (lt-ltb f (n + 1) (omega (arith, l))))
            | inr g ↦ omega (arith, count, h f, here, ap {B = ℕ} (λ b. cond b 1 0) (le-ltb f n g), ap {B = ℕ} (λ b. cond b 1 0) (le-ltb f (n + 1) (omega (arith, g, ne))))
          ]
    ]

pub touch_keeps : (v : View) (f now : ℕ) → Has v f → Has (record v { order = touch ◌==◌ v.numbers f now v.order }) f
touch_keeps v f now l = has (record v { order = touch ◌==◌ v.numbers f now v.order }) f (omega (arith, has_counted v f l, count-touch ◌==◌ (λ k. k == f) v.numbers f now v.order))

-- how many frames are left of a walk
abbrev pub left : View → Option ℕ → ℕ
left v at = option_map_or (λ f. place_of ◌==◌ f v.order.listed + 1) at 0

pub walks_on : (v : View) (up : ℕ) (r : Option ℕ) → up ≤ length v.order.listed → IfSome r (λ f. place_of ◌==◌ f v.order.listed + 1 ≡ up) → IfSome r (λ f. Has v f)
walks_on v up None le h = tt
walks_on v up (Some f) le h = omega (arith, le, h)

pub walks_less : (v : View) (up : ℕ) (r : Option ℕ) → IfSome r (λ f. place_of ◌==◌ f v.order.listed + 1 ≡ up) → left v r ≤ up
walks_less v up None h = omega arith
walks_less v up (Some f) h = omega (arith, h)
