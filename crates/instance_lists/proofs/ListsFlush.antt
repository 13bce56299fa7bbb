-- The flush list of frames stays the history's list of dirty pages, read backwards, each by its home.
use Rattle.std.proofs.Common.{◌≡◌, ◌≢◌, ◌∙◌, ◌==◌, ◌+◌, ◌<◌, ◌≤◌, ◌++◌, ◌||◌, ◌⊎◌, ℕ, suc, Bool, true, false, not, cond, List, [], ◌∷◌, length, set, reverse, Option, Some, None, refl, sym, ap, subst, arith, inl, inr, eq-eqb, append-nil, IsSome, IsSomeAnd}
use Rattle.std.specs.Prelude.{All, map, is_some, slice_index_or, unwrap_or}
use Rattle.std.specs.Option.{option_map}
use Rattle.std.proofs.lemmas.List.{reverse-append, map-append, length-map, length-reverse, length-set, get_or_default, get_or-set_same, get_or-set_other}
use Rattle.std.proofs.lemmas.List.Elements.{All-nil, All-cons, All-head, All-tail, All-push, All-map, All-filter, All-weaker, filter-append}
use Rattle.std.proofs.lemmas.List.Sums.{passes_at_first}
use Rattle.std.proofs.lemmas.Bool.{cases_eq, ne_eqb, eqb-true}
use Rattle.page_ids.specs.Same.{same_page}
use Rattle.page_ids.specs.declared.ids.PageId.{PageId}
use Rattle.page_ids.specs.declared.config.Config.{Config}
use Rattle.flush_list.specs.View.{Node, View as Flush, Has, IsNew, IsNewest, place_of, without, last_or, tail_of}
use Rattle.trail.specs.declared.event.Dirty.{Dirty}
use Rattle.trail.specs.declared.event.Entry.{Entry}
use Rattle.trail.specs.History.{home}
use Rattle.trail.specs.Dirt.{dirty, dirtied, cleaned, dirt_of, is_dirty, log_end}
use Rattle.instance_lists.specs.Ledger.{IsVacant}
use Rattle.instance_lists.specs.KeptLists.{KeepsHomes, KeepsDirty, AreLogged, tenant_in, node_of, dirty_lsn, newest_in, after_change, after_write}
use Rattle.instance_lists.proofs.Basics.{some_same, none_some}
use Rattle.instance_lists.proofs.Dirt.{no_way, same_self, same_is, dirtied_here, dirtied_other, dirtied_is, cleaned_of, cleaned_absent}

not_some : {A : Type 0} → (o : Option A) → is_some o ≡ false → o ≡ None
not_some None is = refl
not_some (Some a) is = absurd (no_way is)

-- what was read at a place below the length
pub read_at : {A : Type 0} → (xs : List A) (i : ℕ) (d x : A) → x ≡ slice_index_or xs i x → i < length xs → x ≡ slice_index_or xs i d
read_at xs i d x is below = is ∙ get_or_default xs i x d below

-- and the page that was read of a frame
pub tenant_at : (tenants : List PageId) (f : ℕ) (p : PageId) → p ≡ slice_index_or tenants f p → f < length tenants → p ≡ tenant_in tenants f
tenant_at tenants f = read_at tenants f (record { space = 0; page = 0 })

-- The dirty pages as they stand in the flush list.
abbrev pub nodes : List Entry → List Dirty → List Node
nodes h ds = map (node_of h) (reverse ds)

nodes_on : (h : List Entry) (d : Dirty) (ds : List Dirty) → nodes h (d ∷ ds) ≡ nodes h ds ++ node_of h d ∷ []
nodes_on h d ds = ap (map (node_of h)) (reverse-append (d ∷ []) ds) ∙ map-append (node_of h) (reverse ds) (d ∷ [])

all_backwards : (P : Dirty → Type 0) (ds : List Dirty) → All P ds → All P (reverse ds)
all_backwards P [] all = all
all_backwards P (d ∷ ds) all =
    subst (λ (l : List Dirty). All P l) (sym (reverse-append (d ∷ []) ds)) (All-push P (reverse ds) d (all_backwards P ds (All-tail P d ds all)) (All-head P d ds all))

-- a page that is dirty among fewer is so among more, and the first one is
more_dirty : (d : Dirty) (ds : List Dirty) (q : PageId) → is_some (dirt_of ds q) ≡ true → is_some (dirt_of (d ∷ ds) q) ≡ true
more_dirty d ds q is = by_test (same_page d.page q)
  where
    by_test : (b : Bool) → is_some (cond b (Some d) (dirt_of ds q)) ≡ true
    by_test true = refl
    by_test false = is

first_dirty : (d : Dirty) (ds : List Dirty) → is_some (dirt_of (d ∷ ds) d.page) ≡ true
first_dirty d ds = ap (λ (b : Bool). is_some (cond b (Some d) (dirt_of ds d.page))) (same_self d.page)

-- homes that stay
kept_nodes : (h new : List Entry) (ds : List Dirty) → ((q : PageId) → is_some (dirt_of ds q) ≡ true → home new q ≡ home h q) → nodes h ds ≡ nodes new ds
kept_nodes h new [] stay = refl
kept_nodes h new (d ∷ ds) stay =
    nodes_on h d ds
    ∙ ap (λ (l : List Node). l ++ node_of h d ∷ []) (kept_nodes h new ds (λ q is. stay q (more_dirty d ds q is)))
    ∙ ap (λ (o : Option ℕ). let n : Node = record { frame = unwrap_or o 0; oldest = d.oldest } in nodes new ds ++ n ∷ []) (sym (stay d.page (first_dirty d ds)))
    ∙ sym (nodes_on new d ds)

-- a page that is changed again
nodes_again : (h : List Entry) (p : PageId) (start end : ℕ) (ds : List Dirty) → is_some (dirt_of ds p) ≡ true → nodes h (dirtied p start end ds) ≡ nodes h ds
nodes_again h p start end [] is = absurd (no_way (sym is))
nodes_again h p start end (d ∷ ds) is = by_test (same_page d.page p) is (nodes_again h p start end ds)
  where
    by_test : (b : Bool) → is_some (cond b (Some d) (dirt_of ds p)) ≡ true → (is_some (dirt_of ds p) ≡ true → nodes h (dirtied p start end ds) ≡ nodes h ds)
        → nodes h (cond b (record d { newest = end } ∷ ds) (d ∷ dirtied p start end ds)) ≡ nodes h (d ∷ ds)
    by_test true is next = nodes_on h (record d { newest = end }) ds ∙ sym (nodes_on h d ds)
    by_test false is next = nodes_on h d (dirtied p start end ds) ∙ ap (λ (l : List Node). l ++ node_of h d ∷ []) (next is) ∙ sym (nodes_on h d ds)

-- a clean page that is changed
dirtied_last : (p : PageId) (start end : ℕ) (ds : List Dirty) → dirt_of ds p ≡ None → dirtied p start end ds ≡ ds ++ record { page = p; oldest = start; newest = end } ∷ []
dirtied_last p start end [] none = refl
dirtied_last p start end (d ∷ ds) none = by_test (same_page d.page p) none (dirtied_last p start end ds)
  where
    by_test : (b : Bool) → cond b (Some d) (dirt_of ds p) ≡ None → (dirt_of ds p ≡ None → dirtied p start end ds ≡ ds ++ record { page = p; oldest = start; newest = end } ∷ [])
        → cond b (record d { newest = end } ∷ ds) (d ∷ dirtied p start end ds) ≡ (d ∷ ds) ++ record { page = p; oldest = start; newest = end } ∷ []
    by_test true none next = absurd (none_some d (sym none))
    by_test false none next = ap (λ (l : List Dirty). d ∷ l) (next none)

nodes_anew : (h : List Entry) (p : PageId) (f start end : ℕ) (ds : List Dirty) → home h p ≡ Some f → dirt_of ds p ≡ None
    → nodes h (dirtied p start end ds) ≡ record { frame = f; oldest = start } ∷ nodes h ds
nodes_anew h p f start end ds here none =
    let last : Dirty = record { page = p; oldest = start; newest = end } in
    ap (nodes h) (dirtied_last p start end ds none)
    ∙ ap (map (node_of h)) (reverse-append ds (last ∷ []))
    ∙ ap (λ (o : Option ℕ). let n : Node = record { frame = unwrap_or o 0; oldest = start } in n ∷ nodes h ds) here

-- a list that ends in the frame's node, or has it before, has it
has_last : (f : ℕ) (xs : List Node) (y : Node) → y.frame ≡ f → place_of f (xs ++ y ∷ []) < length (xs ++ y ∷ [])
has_last f [] y e =
    let here : place_of f (y ∷ []) ≡ 0 = ap (λ (b : Bool). cond {A = ℕ} (not b) 1 0) (eq-eqb _ _ e) in
    omega (arith, here)
has_last f (x ∷ xs) y e = by_test (x.frame == f) (has_last f xs y e)
  where
    by_test : (b : Bool) → place_of f (xs ++ y ∷ []) < length (xs ++ y ∷ []) → cond (not b) (1 + place_of f (xs ++ y ∷ [])) 0 < suc (length (xs ++ y ∷ []))
    by_test true next = omega arith
    by_test false next = omega (arith, next)

has_before : (f : ℕ) (xs : List Node) (y : Node) → place_of f xs < length xs → place_of f (xs ++ y ∷ []) < length (xs ++ y ∷ [])
has_before f [] y there = absurd (omega (arith, there))
has_before f (x ∷ xs) y there = by_test (x.frame == f) there (has_before f xs y)
  where
    by_test : (b : Bool) → cond (not b) (1 + place_of f xs) 0 < suc (length xs) → (place_of f xs < length xs → place_of f (xs ++ y ∷ []) < length (xs ++ y ∷ []))
        → cond (not b) (1 + place_of f (xs ++ y ∷ [])) 0 < suc (length (xs ++ y ∷ []))
    by_test true there next = omega arith
    by_test false there next = let less = next (omega (arith, there)) in omega (arith, less)

-- a dirty page's home is listed
nodes_has : (h : List Entry) (p : PageId) (f : ℕ) (ds : List Dirty) → home h p ≡ Some f → is_some (dirt_of ds p) ≡ true → place_of f (nodes h ds) < length (nodes h ds)
nodes_has h p f [] here is = absurd (no_way (sym is))
nodes_has h p f (d ∷ ds) here is =
    subst (λ (l : List Node). place_of f l < length l) (sym (nodes_on h d ds)) (by_test (same_page d.page p) refl is (nodes_has h p f ds here))
  where
    by_test : (b : Bool) → same_page d.page p ≡ b → is_some (cond b (Some d) (dirt_of ds p)) ≡ true
        → (is_some (dirt_of ds p) ≡ true → place_of f (nodes h ds) < length (nodes h ds))
        → place_of f (nodes h ds ++ node_of h d ∷ []) < length (nodes h ds ++ node_of h d ∷ [])
    by_test true same is next =
        has_last f (nodes h ds) (node_of h d) (ap (λ (q : PageId). unwrap_or (home h q) 0) (same_is d.page p same) ∙ ap (λ (o : Option ℕ). unwrap_or o 0) here)
    by_test false same is next = has_before f (nodes h ds) (node_of h d) (next is)

-- the page's frame is among those of dirty pages that have homes just where the page is
module _ (h : List Entry) (p : PageId) (f : ℕ) (here : home h p ≡ Some f) (alone : (q : PageId) → home h q ≡ Some f → q ≡ p) where
  own_frame : (q : PageId) → home h q ≡ Some (unwrap_or (home h q) 0) → (unwrap_or (home h q) 0 == f) ≡ same_page q p
  own_frame q housed = elim (cases_eq (unwrap_or (home h q) 0) f) [
    | inl e ↦
        let one : q ≡ p = alone q (housed ∙ ap (λ (m : ℕ). Some m) e) in
        eq-eqb _ _ e ∙ sym (ap (λ (r : PageId). same_page r p) one ∙ same_self p)
    | inr ne ↦ ne_eqb _ _ ne ∙ sym (other (same_page q p) refl ne)
  ]
    where
      other : (b : Bool) → same_page q p ≡ b → unwrap_or (home h q) 0 ≢ f → b ≡ false
      other true same ne = absurd (ne (ap (λ (r : PageId). unwrap_or (home h r) 0) (same_is q p same) ∙ ap (λ (o : Option ℕ). unwrap_or o 0) here))
      other false same ne = refl

  frames_away : (ds : List Dirty) → ((q : PageId) → is_some (dirt_of ds q) ≡ true → home h q ≡ Some (unwrap_or (home h q) 0)) → dirt_of ds p ≡ None
      → All (λ d. (node_of h d).frame ≢ f) ds
  frames_away [] housed none = All-nil (λ d. (node_of h d).frame ≢ f)
  frames_away (d ∷ ds) housed none = by_test (same_page d.page p) refl none (frames_away ds (λ q is. housed q (more_dirty d ds q is)))
    where
      by_test : (b : Bool) → same_page d.page p ≡ b → cond b (Some d) (dirt_of ds p) ≡ None
          → (dirt_of ds p ≡ None → All (λ d. (node_of h d).frame ≢ f) ds) → All (λ d. (node_of h d).frame ≢ f) (d ∷ ds)
      by_test true same none next = absurd (none_some d (sym none))
      by_test false same none next =
          All-cons (λ d. (node_of h d).frame ≢ f) d ds (λ e. no_way (sym (eq-eqb _ _ e) ∙ own_frame d.page (housed d.page (first_dirty d ds)) ∙ same)) (next none)

  nodes_away : (ds : List Dirty) → ((q : PageId) → is_some (dirt_of ds q) ≡ true → home h q ≡ Some (unwrap_or (home h q) 0)) → dirt_of ds p ≡ None
      → ¬ (place_of f (nodes h ds) < length (nodes h ds))
  nodes_away ds housed none there =
      let away = All-map (λ (x : Node). x.frame ≢ f) (node_of h) (reverse ds) (all_backwards (λ d. (node_of h d).frame ≢ f) ds (frames_away ds housed none)) in
      let blank : Node = record { frame = f; oldest = 0 } in
      away (place_of f (nodes h ds)) blank there (eqb-true _ _ (passes_at_first (λ (x : Node). x.frame == f) (nodes h ds) blank there))

  nodes_without : (ds : List Dirty) → ((q : PageId) → is_some (dirt_of ds q) ≡ true → home h q ≡ Some (unwrap_or (home h q) 0)) → nodes h (cleaned p ds) ≡ without f (nodes h ds)
  nodes_without [] housed = refl
  nodes_without (d ∷ ds) housed =
      by_test (same_page d.page p) (nodes_without ds (λ q is. housed q (more_dirty d ds q is)))
      ∙ ap (λ (b : Bool). without f (nodes h ds) ++ cond (not b) (node_of h d ∷ []) []) (sym (own_frame d.page (housed d.page (first_dirty d ds))))
      ∙ sym (filter-append (λ (x : Node). not (x.frame == f)) (nodes h ds) (node_of h d ∷ []))
      ∙ ap (without f) (sym (nodes_on h d ds))
    where
      by_test : (b : Bool) → nodes h (cleaned p ds) ≡ without f (nodes h ds)
          → nodes h (cond (not b) (d ∷ cleaned p ds) (cleaned p ds)) ≡ without f (nodes h ds) ++ cond (not b) (node_of h d ∷ []) []
      by_test true next = next ∙ sym (append-nil (without f (nodes h ds)))
      by_test false next = nodes_on h d (cleaned p ds) ∙ ap (λ (l : List Node). l ++ node_of h d ∷ []) next

-- The LSNs of dirty pages.
logged_after : (ds : List Dirty) (p : PageId) (n start end : ℕ) → n ≤ start → start ≤ end → AreLogged n ds → AreLogged end (dirtied p start end ds)
logged_after [] p n start end ahead rises logged = All-cons (λ d. (d.oldest ≤ end) × (d.newest ≤ end)) _ [] (rises, omega arith) (All-nil (λ d. (d.oldest ≤ end) × (d.newest ≤ end)))
logged_after (d ∷ ds) p n start end ahead rises logged =
    by_test (same_page d.page p) (logged_after ds p n start end ahead rises (All-tail (λ d. (d.oldest ≤ n) × (d.newest ≤ n)) d ds logged))
  where
    first : (d.oldest ≤ n) × (d.newest ≤ n)
    first = All-head (λ d. (d.oldest ≤ n) × (d.newest ≤ n)) d ds logged

    by_test : (b : Bool) → AreLogged end (dirtied p start end ds) → AreLogged end (cond b (record d { newest = end } ∷ ds) (d ∷ dirtied p start end ds))
    by_test true next =
        All-cons (λ d. (d.oldest ≤ end) × (d.newest ≤ end)) (record d { newest = end }) ds (omega (arith, first.0, ahead, rises), omega arith)
        (All-weaker (λ d. (d.oldest ≤ n) × (d.newest ≤ n)) (λ d. (d.oldest ≤ end) × (d.newest ≤ end)) (λ x b. (omega (arith, b.0, ahead, rises), omega (arith, b.1, ahead, rises))) ds
        (All-tail (λ d. (d.oldest ≤ n) × (d.newest ≤ n)) d ds logged))
    by_test false next =
        All-cons (λ d. (d.oldest ≤ end) × (d.newest ≤ end)) d (dirtied p start end ds) (omega (arith, first.0, ahead, rises), omega (arith, first.1, ahead, rises)) next

pub logged_of : (ds : List Dirty) (n : ℕ) (p : PageId) (d : Dirty) → AreLogged n ds → dirt_of ds p ≡ Some d → d.newest ≤ n
logged_of [] n p d logged is = absurd (none_some d is)
logged_of (x ∷ ds) n p d logged is = by_test (same_page x.page p) is (logged_of ds n p d (All-tail (λ d. (d.oldest ≤ n) × (d.newest ≤ n)) x ds logged))
  where
    by_test : (b : Bool) → cond b (Some x) (dirt_of ds p) ≡ Some d → (dirt_of ds p ≡ Some d → d.newest ≤ n) → d.newest ≤ n
    by_test true is next = subst (λ (o : Option Dirty). Rattle.std.specs.Prelude.IfSome o (λ y. y.newest ≤ n)) is (All-head (λ d. (d.oldest ≤ n) × (d.newest ≤ n)) x ds logged).1
    by_test false is next = next is

newest_first : (h : List Entry) (start : ℕ) (ds : List Dirty) → All (λ d. d.oldest ≤ start) ds → IsNewest start (map (node_of h) ds)
newest_first h start [] all = tt
newest_first h start (d ∷ ds) all = All-head (λ d. d.oldest ≤ start) d ds all

newest_here : (ds : List Dirty) (p : PageId) (start end : ℕ) → option_map (λ (d : Dirty). d.newest) (dirt_of (dirtied p start end ds) p) ≡ Some end
newest_here ds p start end = by_dirt (dirt_of (dirtied p start end ds) p) (dirtied_here ds p start end)
  where
    by_dirt : (o : Option Dirty) → IsSomeAnd o (λ d. (d.page ≡ p) × (d.newest ≡ end)) → option_map (λ (d : Dirty). d.newest) o ≡ Some end
    by_dirt None is = absurd is
    by_dirt (Some d) is = ap (λ (m : ℕ). Some m) is.1

-- whether a page is dirty, by its newest LSN
some_newest : (o : Option Dirty) → is_some (option_map (λ (d : Dirty). d.newest) o) ≡ is_some o
some_newest None = refl
some_newest (Some d) = refl

-- the tail is the page that was dirty first
last_is : (before : Option Node) (xs : List Node) (y : Node) → last_or before (xs ++ y ∷ []) ≡ Some y
last_is before [] y = refl
last_is before (x ∷ xs) y = last_is (Some x) xs y

tail_is : (h : List Entry) (d : Dirty) (rest : List Dirty) → tail_of (nodes h (d ∷ rest)) ≡ Some (node_of h d)
tail_is h d rest = ap tail_of (nodes_on h d rest) ∙ last_is None (nodes h rest) (node_of h d)

-- the first one of the dirty pages, whose frame the tail is
record IsFirst (h : List Entry) (newest : List (Option ℕ)) (flush : Flush) (f : ℕ) : Type 0 where
  pub first : Dirty
  pub rest : List Dirty
  pub dirty_are : dirty h ≡ first ∷ rest
  pub here : home h first.page ≡ Some f
  pub oldest : option_map (λ x. x.oldest) (tail_of flush.listed) ≡ Some first.oldest
  pub last : newest_in newest f ≡ Some first.newest

-- what is known of it
pub record IsOldest (h : List Entry) (d : Dirty) : Type 0 where
  pub some : (rest : List Dirty) × (dirty h ≡ d ∷ rest)
  pub resident : IsSome (home h d.page)
  pub logged : d.newest ≤ log_end h
  pub early : d.oldest ≤ log_end h

module _ (c : Config) (h : List Entry) (homes : PageId → Option ℕ) (tenants : List PageId) (newest : List (Option ℕ)) (flush : Flush) (homed : KeepsHomes c h homes tenants) (k : KeepsDirty c h newest flush) where
  alone : (p : PageId) (f : ℕ) → home h p ≡ Some f → (q : PageId) → home h q ≡ Some f → q ≡ p
  alone p f here q there = sym (homed.tenants_are q f there) ∙ homed.tenants_are p f here

  housed : (q : PageId) → is_some (dirt_of (dirty h) q) ≡ true → home h q ≡ Some (unwrap_or (home h q) 0)
  housed q is = by_home (home h q) refl
    where
      by_home : (o : Option ℕ) → home h q ≡ o → o ≡ Some (unwrap_or o 0)
      by_home None none = absurd (no_way (sym is ∙ k.clean q none))
      by_home (Some f) here = refl

  pub is_soiled : (p : PageId) (f : ℕ) → home h p ≡ Some f → is_some (newest_in newest f) ≡ is_dirty h p
  is_soiled p f here = ap (is_some {T = ℕ}) (k.newest_are p f here) ∙ some_newest (dirt_of (dirty h) p)

  pub soil_new : (p : PageId) (f : ℕ) → home h p ≡ Some f → newest_in newest f ≡ None → IsNew flush f
  soil_new p f here none =
      let clean : dirt_of (dirty h) p ≡ None = not_some (dirt_of (dirty h) p) (sym (is_soiled p f here) ∙ ap (is_some {T = ℕ}) none) in
      record {
        room = omega (arith, k.room_is, homed.housed p f here);
        away = λ there. nodes_away h p f here (alone p f here) (dirty h) housed clean (subst (λ (l : List Node). place_of f l < length l) k.listed_are there);
      }

  pub soil_latest : (start : ℕ) → log_end h ≤ start → IsNewest start flush.listed
  soil_latest start ahead =
      let all = All-weaker (λ d. (d.oldest ≤ log_end h) × (d.newest ≤ log_end h)) (λ d. d.oldest ≤ start) (λ d b. omega (arith, b.0, ahead)) (dirty h) k.logged in
      subst (λ (l : List Node). IsNewest start l) (sym k.listed_are) (newest_first h start (reverse (dirty h)) (all_backwards (λ d. d.oldest ≤ start) (dirty h) all))

  pub clean_has : (p : PageId) (f : ℕ) → home h p ≡ Some f → is_some (newest_in newest f) ≡ true → Has flush f
  clean_has p f here some =
      subst (λ (l : List Node). place_of f l < length l) (sym k.listed_are) (nodes_has h p f (dirty h) here (sym (is_soiled p f here) ∙ some))

  pub count_is : length flush.listed ≡ length (dirty h)
  count_is = ap (length {A = Node}) k.listed_are ∙ length-map (reverse (dirty h)) (node_of h) ∙ length-reverse (dirty h)

  pub none_first : option_map (λ (x : Node). x.frame) (tail_of flush.listed) ≡ None → dirty h ≡ []
  none_first none = by_dirty (dirty h) (ap (λ (l : List Node). option_map (λ (x : Node). x.frame) (tail_of l)) (sym k.listed_are) ∙ none)
    where
      by_dirty : (ds : List Dirty) → option_map (λ (x : Node). x.frame) (tail_of (nodes h ds)) ≡ None → ds ≡ []
      by_dirty [] none = refl
      by_dirty (d ∷ rest) none = absurd (none_some _ (sym none ∙ ap (option_map (λ (x : Node). x.frame)) (tail_is h d rest)))

  first_is : (f : ℕ) → option_map (λ (x : Node). x.frame) (tail_of flush.listed) ≡ Some f → IsFirst h newest flush f
  first_is f is = by_dirty (dirty h) refl
    where
      by_dirty : (ds : List Dirty) → dirty h ≡ ds → IsFirst h newest flush f
      by_dirty [] are =
          let none : option_map (λ (x : Node). x.frame) (tail_of flush.listed) ≡ None = ap (λ (l : List Node). option_map (λ (x : Node). x.frame) (tail_of l)) (k.listed_are ∙ ap (nodes h) are) in
          absurd (none_some f (sym none ∙ is))
      by_dirty (d ∷ rest) are =
          let tail : tail_of flush.listed ≡ Some (node_of h d) = ap tail_of (k.listed_are ∙ ap (nodes h) are) ∙ tail_is h d rest in
          let found : dirt_of (dirty h) d.page ≡ Some d = ap (λ (l : List Dirty). dirt_of l d.page) are ∙ ap (λ (b : Bool). cond b (Some d) (dirt_of rest d.page)) (same_self d.page) in
          let frame : unwrap_or (home h d.page) 0 ≡ f = some_same _ f (sym (ap (option_map (λ (x : Node). x.frame)) tail) ∙ is) in
          let here : home h d.page ≡ Some f = housed d.page (ap (is_some {T = Dirty}) found) ∙ ap (λ (m : ℕ). Some m) frame in
          record {
            first = d;
            rest = rest;
            dirty_are = are;
            here = here;
            oldest = ap (option_map (λ (x : Node). x.oldest)) tail;
            last = k.newest_are d.page f here ∙ ap (option_map (λ (x : Dirty). x.newest)) found;
          }

  pub tail_below : (f : ℕ) → option_map (λ (x : Node). x.frame) (tail_of flush.listed) ≡ Some f → f < c.frames
  tail_below f is = let found = first_is f is in homed.housed found.first.page f found.here

  pub tail_soiled : (f : ℕ) → option_map (λ (x : Node). x.frame) (tail_of flush.listed) ≡ Some f → is_some (newest_in newest f) ≡ true
  tail_soiled f is = let found = first_is f is in ap (is_some {T = ℕ}) found.last

  pub oldest_is : (f : ℕ) (p : PageId) (first last : ℕ) → option_map (λ (x : Node). x.frame) (tail_of flush.listed) ≡ Some f → p ≡ tenant_in tenants f
      → option_map (λ (x : Node). x.oldest) (tail_of flush.listed) ≡ Some first → newest_in newest f ≡ Some last → IsOldest h (record { page = p; oldest = first; newest = last })
  oldest_is f p first last is page from to =
      let found = first_is f is in
      let d = found.first in
      let own : p ≡ d.page = page ∙ homed.tenants_are d.page f found.here in
      let start : first ≡ d.oldest = some_same first d.oldest (sym from ∙ found.oldest) in
      let end : last ≡ d.newest = some_same last d.newest (sym to ∙ found.last) in
      let same : ◌≡◌ {A = Dirty} (record { page = p; oldest = first; newest = last }) d = λ i. record { page = own i; oldest = start i; newest = end i } in
      let logged = All-head (λ d. (d.oldest ≤ log_end h) × (d.newest ≤ log_end h)) d found.rest (subst (λ (l : List Dirty). AreLogged (log_end h) l) found.dirty_are k.logged) in
      subst (λ (x : Dirty). IsOldest h x) (sym same) (record {
        some = (found.rest, found.dirty_are);
        resident = ap (is_some {T = ℕ}) found.here;
        logged = logged.1;
        early = logged.0;
      })

  module _ (new : List Entry) where
    pub dirt_on : ((p : PageId) → home new p ≡ home h p) → dirty new ≡ dirty h → log_end new ≡ log_end h → KeepsDirty c new newest flush
    dirt_on same stays ends = record {
      listed_are = k.listed_are ∙ kept_nodes h new (dirty h) (λ q is. same q) ∙ ap (nodes new) (sym stays);
      room_is = k.room_is;
      clean = λ p none. ap (λ (l : List Dirty). is_some (dirt_of l p)) stays ∙ k.clean p (sym (same p) ∙ none);
      newest_are = λ p f here. k.newest_are p f (sym (same p) ∙ here) ∙ ap (λ (l : List Dirty). option_map (λ (d : Dirty). d.newest) (dirt_of l p)) (sym stays);
      vacant = λ f none. k.vacant f (λ p here. none p (same p ∙ here));
      newest_count = k.newest_count;
      logged = subst (λ (n : ℕ). AreLogged n (dirty new)) (sym ends) (subst (λ (l : List Dirty). AreLogged (log_end h) l) (sym stays) k.logged);
    }

    pub dirt_load : (p : PageId) (f : ℕ) → ((q : PageId) → home new q ≡ cond (same_page p q) (Some f) (home h q)) → dirty new ≡ dirty h → log_end new ≡ log_end h
        → home h p ≡ None → IsVacant h f → KeepsDirty c new newest flush
    dirt_load p f after stays ends absent free = record {
      listed_are = k.listed_are ∙ kept_nodes h new (dirty h) (λ q is. after q ∙ stay q (same_page p q) refl is) ∙ ap (nodes new) (sym stays);
      room_is = k.room_is;
      clean = λ q none. ap (λ (l : List Dirty). is_some (dirt_of l q)) stays ∙ k.clean q (was q (same_page p q) (sym (after q) ∙ none));
      newest_are = λ q g here. newest_are q g (same_page p q) refl (sym (after q) ∙ here) ∙ ap (λ (l : List Dirty). option_map (λ (d : Dirty). d.newest) (dirt_of l q)) (sym stays);
      vacant = λ g none. k.vacant g (λ q here. none q (after q ∙ there q g (same_page p q) refl here));
      newest_count = k.newest_count;
      logged = subst (λ (n : ℕ). AreLogged n (dirty new)) (sym ends) (subst (λ (l : List Dirty). AreLogged (log_end h) l) (sym stays) k.logged);
    }
      where
        away : (q : PageId) → same_page p q ≡ true → home h q ≡ None
        away q same = ap (home h) (sym (same_is p q same)) ∙ absent

        stay : (q : PageId) (b : Bool) → same_page p q ≡ b → is_some (dirt_of (dirty h) q) ≡ true → cond b (Some f) (home h q) ≡ home h q
        stay q true same is = absurd (no_way (sym is ∙ k.clean q (away q same)))
        stay q false same is = refl

        was : (q : PageId) (b : Bool) → cond b (Some f) (home h q) ≡ None → home h q ≡ None
        was q true none = absurd (none_some f (sym none))
        was q false none = none

        newest_are : (q : PageId) (g : ℕ) (b : Bool) → same_page p q ≡ b → cond b (Some f) (home h q) ≡ Some g → newest_in newest g ≡ dirty_lsn h q
        newest_are q g true same here =
            ap (newest_in newest) (sym (some_same f g here)) ∙ k.vacant f free
            ∙ sym (ap (option_map (λ (d : Dirty). d.newest)) (not_some (dirt_of (dirty h) q) (k.clean q (away q same))))
        newest_are q g false same here = k.newest_are q g here

        there : (q : PageId) (g : ℕ) (b : Bool) → same_page p q ≡ b → home h q ≡ Some g → cond b (Some f) (home h q) ≡ Some g
        there q g true same here = absurd (none_some g (sym (away q same) ∙ here))
        there q g false same here = here

    pub dirt_evict : (p : PageId) (f : ℕ) → ((q : PageId) → home new q ≡ cond (same_page p q) None (home h q)) → dirty new ≡ dirty h → log_end new ≡ log_end h
        → home h p ≡ Some f → is_dirty h p ≡ false → KeepsDirty c new newest flush
    dirt_evict p f after stays ends here clean = record {
      listed_are = k.listed_are ∙ kept_nodes h new (dirty h) (λ q is. after q ∙ stay q (same_page p q) refl is) ∙ ap (nodes new) (sym stays);
      room_is = k.room_is;
      clean = λ q none. ap (λ (l : List Dirty). is_some (dirt_of l q)) stays ∙ was q (same_page p q) refl (sym (after q) ∙ none);
      newest_are = λ q g there. newest_are q g (same_page p q) (sym (after q) ∙ there) ∙ ap (λ (l : List Dirty). option_map (λ (d : Dirty). d.newest) (dirt_of l q)) (sym stays);
      vacant = λ g none. vacant g none (cases_eq g f);
      newest_count = k.newest_count;
      logged = subst (λ (n : ℕ). AreLogged n (dirty new)) (sym ends) (subst (λ (l : List Dirty). AreLogged (log_end h) l) (sym stays) k.logged);
    }
      where
        clean_too : (q : PageId) → same_page p q ≡ true → is_dirty h q ≡ false
        clean_too q same = ap (is_dirty h) (sym (same_is p q same)) ∙ clean

        stay : (q : PageId) (b : Bool) → same_page p q ≡ b → is_some (dirt_of (dirty h) q) ≡ true → cond b None (home h q) ≡ home h q
        stay q true same is = absurd (no_way (sym is ∙ clean_too q same))
        stay q false same is = refl

        was : (q : PageId) (b : Bool) → same_page p q ≡ b → cond b None (home h q) ≡ None → is_dirty h q ≡ false
        was q true same none = clean_too q same
        was q false same none = k.clean q none

        newest_are : (q : PageId) (g : ℕ) (b : Bool) → cond b None (home h q) ≡ Some g → newest_in newest g ≡ dirty_lsn h q
        newest_are q g true there = absurd (none_some g there)
        newest_are q g false there = k.newest_are q g there

        there : (q : PageId) (g : ℕ) (b : Bool) → same_page p q ≡ b → g ≢ f → home h q ≡ Some g → cond b None (home h q) ≡ Some g
        there q g true same ne at = absurd (ne (some_same g f (sym at ∙ ap (home h) (sym (same_is p q same)) ∙ here)))
        there q g false same ne at = at

        vacant : (g : ℕ) → IsVacant new g → (g ≡ f) ⊎ (g ≢ f) → newest_in newest g ≡ None
        vacant g none (inl same) =
            ap (newest_in newest) same ∙ k.newest_are p f here ∙ ap (option_map (λ (d : Dirty). d.newest)) (not_some (dirt_of (dirty h) p) clean)
        vacant g none (inr ne) = k.vacant g (λ q at. none q (after q ∙ there q g (same_page p q) refl ne at))

    pub dirt_put : (p : PageId) (f start end : ℕ) → ((q : PageId) → home new q ≡ home h q) → dirty new ≡ dirtied p start end (dirty h) → log_end new ≡ end
        → home h p ≡ Some f → log_end h ≤ start → start ≤ end → KeepsDirty c new (set newest f (Some end)) (after_change f start (newest_in newest f) flush)
    dirt_put p f start end same stays ends here ahead rises = record {
      listed_are = listed (newest_in newest f) (k.newest_are p f here) ∙ kept_nodes h new (dirtied p start end (dirty h)) (λ q is. same q) ∙ ap (nodes new) (sym stays);
      room_is = room (newest_in newest f);
      clean = λ q none. ap (λ (l : List Dirty). is_some (dirt_of l q)) stays ∙ dirtied_is (dirty h) p q start end ∙ clean q (same_page p q) refl (sym (same q) ∙ none);
      newest_are = λ q g there. newest_are q g (same_page p q) refl (sym (same q) ∙ there) ∙ ap (λ (l : List Dirty). option_map (λ (d : Dirty). d.newest) (dirt_of l q)) (sym stays);
      vacant = λ g none. get_or-set_other newest f g (Some end) None (λ at. none p (same p ∙ here ∙ ap (λ (m : ℕ). Some m) (sym at))) ∙ k.vacant g (λ q at. none q (same q ∙ at));
      newest_count = length-set newest f (Some end) ∙ k.newest_count;
      logged = subst (λ (n : ℕ). AreLogged n (dirty new)) (sym ends) (subst (λ (l : List Dirty). AreLogged end l) (sym stays) (logged_after (dirty h) p (log_end h) start end ahead rises k.logged));
    }
      where
        listed : (o : Option ℕ) → o ≡ dirty_lsn h p → (after_change f start o flush).listed ≡ nodes h (dirtied p start end (dirty h))
        listed None is =
            ap (λ (l : List Node). let n : Node = record { frame = f; oldest = start } in n ∷ l) k.listed_are
            ∙ sym (nodes_anew h p f start end (dirty h) here (not_some (dirt_of (dirty h) p) (sym (some_newest (dirt_of (dirty h) p)) ∙ ap (is_some {T = ℕ}) (sym is))))
        listed (Some n) is =
            k.listed_are ∙ sym (nodes_again h p start end (dirty h) (sym (some_newest (dirt_of (dirty h) p)) ∙ ap (is_some {T = ℕ}) (sym is)))

        room : (o : Option ℕ) → (after_change f start o flush).room ≡ c.frames
        room None = k.room_is
        room (Some n) = k.room_is

        clean : (q : PageId) (b : Bool) → same_page p q ≡ b → home h q ≡ None → (b || is_dirty h q) ≡ false
        clean q true is none = absurd (none_some f (sym none ∙ ap (home h) (sym (same_is p q is)) ∙ here))
        clean q false is none = k.clean q none

        newest_are : (q : PageId) (g : ℕ) (b : Bool) → same_page p q ≡ b → home h q ≡ Some g
            → newest_in (set newest f (Some end)) g ≡ option_map (λ (d : Dirty). d.newest) (dirt_of (dirtied p start end (dirty h)) q)
        newest_are q g true is there =
            let one : p ≡ q = same_is p q is in
            let at : f ≡ g = some_same f g (sym here ∙ ap (home h) one ∙ there) in
            ap (newest_in (set newest f (Some end))) (sym at)
            ∙ get_or-set_same newest f (Some end) None (omega (arith, k.newest_count, homed.housed p f here))
            ∙ sym (newest_here (dirty h) p start end)
            ∙ ap (λ (r : PageId). option_map (λ (d : Dirty). d.newest) (dirt_of (dirtied p start end (dirty h)) r)) one
        newest_are q g false is there =
            get_or-set_other newest f g (Some end) None (λ at. no_way (sym (same_self p) ∙ ap (same_page p) (sym (alone p f here q (there ∙ ap (λ (m : ℕ). Some m) at))) ∙ is))
            ∙ k.newest_are q g there
            ∙ ap (option_map (λ (d : Dirty). d.newest)) (sym (dirtied_other (dirty h) p q start end is))

    pub dirt_write : (p : PageId) (f : ℕ) → ((q : PageId) → home new q ≡ home h q) → dirty new ≡ cleaned p (dirty h) → log_end new ≡ log_end h
        → home h p ≡ Some f → KeepsDirty c new (set newest f None) (after_write f (newest_in newest f) flush)
    dirt_write p f same stays ends here = record {
      listed_are = listed (newest_in newest f) (k.newest_are p f here) ∙ kept_nodes h new (cleaned p (dirty h)) (λ q is. same q) ∙ ap (nodes new) (sym stays);
      room_is = room (newest_in newest f);
      clean = λ q none. ap (λ (l : List Dirty). is_some (dirt_of l q)) stays ∙ ap (is_some {T = Dirty}) (cleaned_of (dirty h) p q) ∙ clean q (same_page p q) (k.clean q (sym (same q) ∙ none));
      newest_are = λ q g there. newest_are q g (same_page p q) refl (sym (same q) ∙ there)
          ∙ ap (option_map (λ (d : Dirty). d.newest)) (sym (cleaned_of (dirty h) p q))
          ∙ ap (λ (l : List Dirty). option_map (λ (d : Dirty). d.newest) (dirt_of l q)) (sym stays);
      vacant = λ g none. get_or-set_other newest f g None None (λ at. none p (same p ∙ here ∙ ap (λ (m : ℕ). Some m) (sym at))) ∙ k.vacant g (λ q at. none q (same q ∙ at));
      newest_count = length-set newest f None ∙ k.newest_count;
      logged = subst (λ (n : ℕ). AreLogged n (dirty new)) (sym ends) (subst (λ (l : List Dirty). AreLogged (log_end h) l) (sym stays)
          (All-filter (λ (d : Dirty). not (same_page d.page p)) (λ d. (d.oldest ≤ log_end h) × (d.newest ≤ log_end h)) (dirty h) k.logged));
    }
      where
        listed : (o : Option ℕ) → o ≡ dirty_lsn h p → (after_write f o flush).listed ≡ nodes h (cleaned p (dirty h))
        listed None is =
            k.listed_are
            ∙ ap (nodes h) (sym (cleaned_absent (dirty h) p (not_some (dirt_of (dirty h) p) (sym (some_newest (dirt_of (dirty h) p)) ∙ ap (is_some {T = ℕ}) (sym is)))))
        listed (Some n) is = ap (without f) k.listed_are ∙ sym (nodes_without h p f here (alone p f here) (dirty h) housed)

        room : (o : Option ℕ) → (after_write f o flush).room ≡ c.frames
        room None = k.room_is
        room (Some n) = k.room_is

        clean : (q : PageId) (b : Bool) → is_dirty h q ≡ false → is_some (cond b None (dirt_of (dirty h) q)) ≡ false
        clean q true was = refl
        clean q false was = was

        newest_are : (q : PageId) (g : ℕ) (b : Bool) → same_page p q ≡ b → home h q ≡ Some g
            → newest_in (set newest f None) g ≡ option_map (λ (d : Dirty). d.newest) (cond b None (dirt_of (dirty h) q))
        newest_are q g true is there =
            let at : f ≡ g = some_same f g (sym here ∙ ap (home h) (same_is p q is) ∙ there) in
            ap (newest_in (set newest f None)) (sym at) ∙ get_or-set_same newest f None None (omega (arith, k.newest_count, homed.housed p f here))
        newest_are q g false is there =
            get_or-set_other newest f g None None (λ at. no_way (sym (same_self p) ∙ ap (same_page p) (sym (alone p f here q (there ∙ ap (λ (m : ℕ). Some m) at))) ∙ is))
            ∙ k.newest_are q g there

    -- a page without a home has nothing to clean
    pub dirt_write_away : (p : PageId) → ((q : PageId) → home new q ≡ home h q) → dirty new ≡ cleaned p (dirty h) → log_end new ≡ log_end h → home h p ≡ None → KeepsDirty c new newest flush
    dirt_write_away p same stays ends absent = dirt_on same (stays ∙ cleaned_absent (dirty h) p (not_some (dirt_of (dirty h) p) (k.clean p absent))) ends
