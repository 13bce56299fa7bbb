-- What the calls that read the lists answer: a walk over frames is one over their pages.
use Rattle.std.proofs.Common.{◌≡◌, ◌∙◌, ◌==◌, ◌+◌, ◌*◌, ◌-◌, ◌<◌, ℕ, zero, suc, Bool, true, false, not, cond, List, [], ◌∷◌, length, Option, Some, None, refl, sym, ap, arith, IfSome, ◌++◌, subst, get_or, append-nil}
use Rattle.std.specs.Prelude.{All, map, slice_get, is_some, reverse, filter}
use Rattle.std.specs.List.{position_or_len}
use Rattle.std.specs.Option.{option_map, option_map_or}
use Rattle.std.proofs.lemmas.List.{append_assoc, reverse-append, length-map, length-reverse}
use Rattle.std.proofs.lemmas.List.Sums.{sum_by-cons}
use Rattle.std.proofs.lemmas.Bool.{ne_eqb}
use Rattle.page_ids.specs.Chunks.{chunks_of, rising}
use Rattle.page_ids.specs.Midpoint.{Listed, Order, rekeyed, count_of}
use Rattle.page_ids.specs.Same.{same_page}
use Rattle.page_ids.specs.declared.ids.PageId.{PageId}
use Rattle.page_ids.specs.declared.config.Config.{Config}
use Rattle.midpoint_lru.specs.View.{View, Has, next_up}
use Rattle.flush_list.specs.View.{View as Flush}
use Rattle.trail.specs.declared.event.Entry.{Entry}
use Rattle.trail.specs.declared.event.Hand.{Hand}
use Rattle.trail.specs.Book.{Book, book, frame_in_turn, frames_there, is_in}
use Rattle.trail.specs.Dirt.{dirty, log_end}
use Rattle.trail.specs.Order.{order}
use Rattle.trail.specs.Victim.{from_the_tail}
use Rattle.trail.specs.History.{home}
use Rattle.instance_lists.specs.Ledger.{IsVacant}
use Rattle.instance_lists.specs.KeptLists.{AreKept, KeepsHomes, KeepsOrder, Absent, in_turn, tenant_in}
use Rattle.instance_lists.specs.Walk.{AreOrderly, is_in_frame, first_home, next_home, part_of}
use Rattle.instance_lists.proofs.Dirt.{same_is}
use Rattle.instance_lists.proofs.ListsFlush.{logged_of, count_is}
use Rattle.instance_lists.proofs.Walks.{dirty_part, clean_part}
use Rattle.instance_lists.proofs.ListsKept.{front_is, front_none, next_is, vacant_from}
use Rattle.instance_lists.proofs.ListsOrder.{listed_home, is_listed, count_home, told_apart}

-- the page of one that is listed
abbrev key_in : Listed PageId → PageId
key_in x = x.key

abbrev key_of : Listed ℕ → ℕ
key_of x = x.key

-- the frame before a place
abbrev pick : Option ℕ → List (Listed ℕ) → ℕ → Option ℕ
pick before xs i = cond (i == 0) before (option_map key_of (slice_get xs (i - 1)))

-- the frame before the first one that passes the test, and the last frame where none does
abbrev frame_before : (ℕ → Bool) → Option ℕ → List (Listed ℕ) → Option ℕ
frame_before test before [] = before
frame_before test before (x ∷ xs) = cond (test x.key) before (frame_before test (Some x.key) xs)

pick_next : (before : Option ℕ) (x : Listed ℕ) (xs : List (Listed ℕ)) (j : ℕ) → pick before (x ∷ xs) (1 + j) ≡ pick (Some x.key) xs j
pick_next before x xs j =
    let back : 1 + j - 1 ≡ j = omega arith in
    ap (λ (b : Bool). cond b before (option_map key_of (slice_get (x ∷ xs) (1 + j - 1)))) (ne_eqb (1 + j) 0 (λ e. absurd (omega (arith, e))))
    ∙ ap (λ (k : ℕ). option_map key_of (slice_get (x ∷ xs) k)) back ∙ at j
  where
    at : (j : ℕ) → option_map key_of (slice_get (x ∷ xs) j) ≡ pick (Some x.key) xs j
    at zero = refl
    at (suc j) =
        let back : suc j - 1 ≡ j = omega arith in
        sym (ap (λ (b : Bool). cond b (Some x.key) (option_map key_of (slice_get xs (suc j - 1)))) (ne_eqb (suc j) 0 (λ e. absurd (omega (arith, e))))
        ∙ ap (λ (k : ℕ). option_map key_of (slice_get xs k)) back)

pick_is : (test : ℕ → Bool) (before : Option ℕ) (xs : List (Listed ℕ)) → pick before xs (position_or_len (λ x. test x.key) xs) ≡ frame_before test before xs
pick_is test before [] = refl
pick_is test before (x ∷ xs) = by_test (test x.key) (pick_is test (Some x.key) xs)
  where
    by_test : (b : Bool) → pick (Some x.key) xs (position_or_len (λ x. test x.key) xs) ≡ frame_before test (Some x.key) xs
        → pick before (x ∷ xs) (cond (not b) (1 + position_or_len (λ x. test x.key) xs) 0) ≡ cond b before (frame_before test (Some x.key) xs)
    by_test true next = refl
    by_test false next = pick_next before x xs (position_or_len (λ x. test x.key) xs) ∙ next

none_passes : (xs : List (Listed ℕ)) → length xs ≡ position_or_len (λ (x : Listed ℕ). false) xs
none_passes [] = refl
none_passes (x ∷ xs) = let next = none_passes xs in omega (arith, next)

module _ (h : List Entry) (g : ℕ → PageId) where
  -- the pages of the frames, from the tail
  abbrev turned : List (Listed ℕ) → List PageId
  turned xs = reverse (map (λ (x : Listed PageId). x.key) (map (rekeyed g) xs))

  -- each frame is its page's home
  abbrev AreHomes : List (Listed ℕ) → Type 0
  AreHomes xs = All (λ x. home h (g x.key) ≡ Some x.key) xs

  homes_behind : (x : Listed ℕ) (xs : List (Listed ℕ)) → AreHomes (x ∷ xs) → AreHomes xs
  homes_behind x xs homes i d inside = homes (suc i) d (omega arith)

  turned_on : (x : Listed ℕ) (xs : List (Listed ℕ)) (done : List PageId) → turned (x ∷ xs) ++ done ≡ turned xs ++ g x.key ∷ done
  turned_on x xs done =
      let keys = map (λ (y : Listed PageId). y.key) (map (rekeyed g) xs) in
      let last : reverse (g x.key ∷ keys) ≡ reverse keys ++ g x.key ∷ [] = reverse-append (g x.key ∷ []) keys in
      ap (λ (l : List PageId). l ++ done) last ∙ append_assoc (reverse keys) (g x.key ∷ []) done

  -- the last frame is that of the first page from the tail
  tail_is : (xs : List (Listed ℕ)) (was : Option ℕ) (done : List PageId) → AreHomes xs → was ≡ first_home h done
      → frame_before (λ f. false) was xs ≡ first_home h (turned xs ++ done)
  tail_is [] was done homes e = e
  tail_is (x ∷ xs) was done homes e =
      tail_is xs (Some x.key) (g x.key ∷ done) (homes_behind x xs homes) (sym (homes 0 x (omega arith))) ∙ ap (first_home h) (sym (turned_on x xs done))

  in_frame : (f : ℕ) (p : PageId) (m : ℕ) → home h p ≡ Some m → is_in_frame h f p ≡ (m == f)
  in_frame f p m here = ap (λ (o : Option ℕ). option_map_or (λ m. m == f) o false) here

  -- pages of other frames are walked past
  others_passed : (f : ℕ) (xs : List (Listed ℕ)) (rest : List PageId) → AreHomes xs → count_of (λ m. m == f) xs ≡ 0
      → next_home h (Some f) (turned xs ++ rest) ≡ next_home h (Some f) rest
  others_passed f [] rest homes none = refl
  others_passed f (x ∷ xs) rest homes none =
      let sum = sum_by-cons (λ (y : Listed ℕ). cond {A = ℕ} (y.key == f) 1 0) x xs in
      ap (next_home h (Some f)) (turned_on x xs rest)
      ∙ others_passed f xs (g x.key ∷ rest) (homes_behind x xs homes) (omega (arith, none, sum))
      ∙ by_test (x.key == f) refl (omega (arith, none, sum))
    where
      by_test : (b : Bool) → (x.key == f) ≡ b → cond {A = ℕ} (x.key == f) 1 0 ≡ 0
          → cond (is_in_frame h f (g x.key)) (first_home h rest) (next_home h (Some f) rest) ≡ next_home h (Some f) rest
      by_test true is none = let one = ap (λ (b : Bool). cond {A = ℕ} b 1 0) is in absurd (omega (arith, one, none))
      by_test false is none = ap (λ (b : Bool). cond b (first_home h rest) (next_home h (Some f) rest)) (in_frame f (g x.key) x.key (homes 0 x (omega arith)) ∙ is)

  -- the frame before one that is listed once is that of the next page towards the head
  next_up_is : (f : ℕ) (xs : List (Listed ℕ)) (was : Option ℕ) (done : List PageId) → AreHomes xs → was ≡ first_home h done → count_of (λ m. m == f) xs ≡ 1
      → frame_before (λ m. m == f) was xs ≡ next_home h (Some f) (turned xs ++ done)
  next_up_is f [] was done homes e once = absurd (omega (arith, once))
  next_up_is f (x ∷ xs) was done homes e once =
      by_test (x.key == f) refl
      (λ one. next_up_is f xs (Some x.key) (g x.key ∷ done) (homes_behind x xs homes) (sym here) one)
      ∙ ap (next_home h (Some f)) (sym (turned_on x xs done))
    where
      here : home h (g x.key) ≡ Some x.key
      here = homes 0 x (omega arith)

      sum : count_of (λ m. m == f) (x ∷ xs) ≡ cond {A = ℕ} (x.key == f) 1 0 + count_of (λ m. m == f) xs
      sum = sum_by-cons (λ (y : Listed ℕ). cond {A = ℕ} (y.key == f) 1 0) x xs

      by_test : (b : Bool) → (x.key == f) ≡ b
          → (count_of (λ m. m == f) xs ≡ 1 → frame_before (λ m. m == f) (Some x.key) xs ≡ next_home h (Some f) (turned xs ++ g x.key ∷ done))
          → cond (x.key == f) was (frame_before (λ m. m == f) (Some x.key) xs) ≡ next_home h (Some f) (turned xs ++ g x.key ∷ done)
      by_test true is next =
          let weight = ap (λ (b : Bool). cond {A = ℕ} b 1 0) is in
          ap (λ (b : Bool). cond b was (frame_before (λ m. m == f) (Some x.key) xs)) is ∙ e
          ∙ sym (ap (λ (b : Bool). cond b (first_home h done) (next_home h (Some f) done)) (in_frame f (g x.key) x.key here ∙ is))
          ∙ sym (others_passed f xs (g x.key ∷ done) (homes_behind x xs homes) (omega (arith, once, sum, weight)))
      by_test false is next =
          let weight = ap (λ (b : Bool). cond {A = ℕ} b 1 0) is in
          ap (λ (b : Bool). cond b was (frame_before (λ m. m == f) (Some x.key) xs)) is ∙ next (omega (arith, once, sum, weight))

-- How often a page is listed, and its frame.
counts_renamed : (g : ℕ → PageId) (pages : PageId → Bool) (test : ℕ → Bool) (xs : List (Listed ℕ)) → All (λ x. pages (g x.key) ≡ test x.key) xs → count_of pages (map (rekeyed g) xs) ≡ count_of test xs
counts_renamed g pages test [] alike = refl
counts_renamed g pages test (x ∷ xs) alike =
    let first = ap (λ (b : Bool). cond {A = ℕ} b 1 0) (alike 0 x (omega arith)) in
    let rest = counts_renamed g pages test xs (λ i d l. alike (suc i) d (omega arith)) in
    let named = sum_by-cons (λ (y : Listed PageId). cond {A = ℕ} (pages y.key) 1 0) (rekeyed g x) (map (rekeyed g) xs) in
    let plain = sum_by-cons (λ (y : Listed ℕ). cond {A = ℕ} (test y.key) 1 0) x xs in
    omega (arith, first, rest, named, plain)

count_none : (xs : List (Listed ℕ)) → count_of (λ f. false) xs ≡ 0
count_none [] = refl
count_none (x ∷ xs) = let sum = sum_by-cons (λ (y : Listed ℕ). 0) x xs in let rest = count_none xs in omega (arith, sum, rest)

-- nothing is withdrawn
none_out : (fs : List ℕ) → filter (λ f. not (is_in f [])) fs ≡ fs
none_out [] = refl
none_out (f ∷ fs) = ap (λ (l : List ℕ). f ∷ l) (none_out fs)

module _ (c : Config) (h : List Entry) (homes : PageId → Option ℕ) (tenants : List PageId) (lru : View) (homed : KeepsHomes c h homes tenants) (k : KeepsOrder c h tenants lru) where
  pub has_all : (after : Option ℕ) → IfSome after (λ f. (p : PageId) × (home h p ≡ Some f)) → IfSome after (λ f. Has lru f)
  has_all None there = tt
  has_all (Some f) there = is_listed c h homes tenants lru homed k there.0 f there.1

  each_home : All (λ x. home h (tenant_in tenants x.key) ≡ Some x.key) lru.order.listed
  each_home i d inside = listed_home c h homes tenants lru homed k i d inside

  pub walk_is : (after : Option ℕ) → IfSome after (λ f. (p : PageId) × (home h p ≡ Some f)) → next_up after lru.order.listed ≡ next_home h after (from_the_tail c h)
  walk_is after there =
      over after there ∙ ap (next_home h after) (append-nil (turned h (tenant_in tenants) lru.order.listed))
      ∙ ap (λ (o : Order PageId). next_home h after (reverse (map (λ (x : Listed PageId). x.key) o.listed))) (sym k.order_is)
    where
      over : (after : Option ℕ) → IfSome after (λ f. (p : PageId) × (home h p ≡ Some f)) → next_up after lru.order.listed ≡ next_home h after (turned h (tenant_in tenants) lru.order.listed ++ [])
      over None there = ap (pick None lru.order.listed) (none_passes lru.order.listed) ∙ pick_is (λ f. false) None lru.order.listed
          ∙ tail_is h (tenant_in tenants) lru.order.listed None [] each_home refl
      over (Some f) there = pick_is (λ m. m == f) None lru.order.listed
          ∙ next_up_is h (tenant_in tenants) f lru.order.listed None [] each_home refl (count_home c h homes tenants lru homed k there.0 f there.1)

  listed_once : (p : PageId) → count_of (λ q. same_page q p) (order c h).listed ≡ cond {A = ℕ} (is_some (home h p)) 1 0
  listed_once p = ap (λ (o : Order PageId). count_of (λ q. same_page q p) o.listed) k.order_is ∙ by_home (home h p) refl
    where
      other : (q : PageId) (f : ℕ) → home h q ≡ Some f → home h p ≡ None → (b : Bool) → same_page q p ≡ b → same_page q p ≡ false
      other q f there none true same = let bad : Some f ≡ None = sym there ∙ ap (home h) (same_is q p same) ∙ none in absurd (cc)
      other q f there none false same = same

      by_home : (o : Option ℕ) → home h p ≡ o → count_of (λ q. same_page q p) (map (rekeyed (tenant_in tenants)) lru.order.listed) ≡ cond {A = ℕ} (is_some o) 1 0
      by_home None none =
          counts_renamed (tenant_in tenants) (λ q. same_page q p) (λ f. false) lru.order.listed
          (λ i d l. other (tenant_in tenants (get_or lru.order.listed i d).key) _ (each_home i d l) none (same_page (tenant_in tenants (get_or lru.order.listed i d).key) p) refl)
          ∙ count_none lru.order.listed
      by_home (Some f) here =
          counts_renamed (tenant_in tenants) (λ q. same_page q p) (λ m. m == f) lru.order.listed
          (λ i d l. ap (same_page (tenant_in tenants (get_or lru.order.listed i d).key)) (sym (homed.tenants_are p f here)) ∙ told_apart c h homes tenants lru homed k p f here i d l)
          ∙ count_home c h homes tenants lru homed k p f here

module _ (c : Config) (h : List Entry) (homes : PageId → Option ℕ) (tenants : List PageId) (free : List ℕ) (hand : Option Hand) (newest : List (Option ℕ)) (flush : Flush) (lru : View) (seats : ℕ) (k : AreKept c h homes tenants free hand newest flush lru seats) where
  alone : (p q : PageId) (f : ℕ) → home h p ≡ Some f → home h q ≡ Some f → q ≡ p
  alone p q f here there = sym (k.homed.tenants_are q f there) ∙ k.homed.tenants_are p f here

  pub orderly : AreOrderly c h
  orderly = record {
    listed = listed_once c h homes tenants lru k.homed k.ordered;
    alone = alone;
    below = k.homed.housed;
    logged = λ p d. logged_of (dirty h) (log_end h) p d k.soiled.logged;
    no_area = ap (λ (b : Book). b.area) k.booked.book_is;
    there = ap (frames_there c.frames) k.booked.book_is ∙ none_out (rising 0 (chunks_of c * c.frames)) ∙ ap (rising 0) chunk;
  }
    where
      chunk : chunks_of c * c.frames ≡ c.frames
      chunk = ap (λ n. n * c.frames) k.one ∙ one_time c.frames
        where
          one_time : (n : ℕ) → 1 * n ≡ n
          one_time n = omega arith

  pub next_vacant : (o : Option ℕ) → o ≡ frame_in_turn (book c h) → IfSome o (λ f. IsVacant h f)
  next_vacant None is = tt
  next_vacant (Some f) is = vacant_from c h free hand f _ k.booked (front_is (in_turn hand free) f (sym (next_is c h free hand k.booked) ∙ sym is))

  -- where no frame is next, each one is the home of the page that it had last
  pub all_used : (o : Option ℕ) → o ≡ frame_in_turn (book c h) → o ≡ None → (f : ℕ) → f < c.frames → (p : PageId) × (home h p ≡ Some f)
  all_used o is none f below =
      let turn = front_none (in_turn hand free) (sym (next_is c h free hand k.booked) ∙ sym is ∙ none) in
      (tenant_in tenants f, k.used f below (subst (λ (l : List ℕ). Absent f l) (sym turn) tt))

  -- as many pages are dirty as the flush list has, and the others are clean
  pub dirty_count : length flush.listed ≡ length (part_of c h true)
  dirty_count = count_is c h homes tenants newest flush k.homed k.soiled ∙ sym (dirty_part c h orderly k.soiled.clean)

  pub whole_count : length (part_of c h false) + length flush.listed ≡ length lru.order.listed
  whole_count =
      let tail : length (from_the_tail c h) ≡ length (order c h).listed = length-reverse (map key_in (order c h).listed) ∙ length-map (order c h).listed key_in in
      let frames : length (order c h).listed ≡ length lru.order.listed = ap (λ (o : Order PageId). length o.listed) k.ordered.order_is ∙ length-map lru.order.listed (rekeyed (tenant_in tenants)) in
      omega (arith, clean_part c h, dirty_count, tail, frames)

pub home_below : (o : Option ℕ) (n : ℕ) → ((f : ℕ) → o ≡ Some f → f < n) → IfSome o (λ f. f < n)
home_below None n all = tt
home_below (Some f) n all = all f refl

pub home_only : (c : Config) (h : List Entry) (homes : PageId → Option ℕ) (tenants : List PageId) (p : PageId) (o : Option ℕ) → KeepsHomes c h homes tenants → o ≡ home h p
    → IfSome o (λ f. (q : PageId) → home h q ≡ Some f → q ≡ p)
home_only c h homes tenants p None k e = tt
home_only c h homes tenants p (Some f) k e = λ q there. sym (k.tenants_are q f there) ∙ k.tenants_are p f (sym e)
