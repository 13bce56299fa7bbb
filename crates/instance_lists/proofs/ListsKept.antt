-- The lists stay those of the history as entries come.
use Rattle.std.proofs.Common.{◌≡◌, ◌≢◌, ◌∙◌, ◌==◌, ◌+◌, ◌<◌, ◌≤◌, ◌++◌, ℕ, Bool, true, false, not, cond, List, [], ◌∷◌, length, filter, set, drop, reverse, Option, Some, None, refl, sym, ap, subst, arith, inl, inr, eq-eqb}
use Rattle.std.specs.Option.{option_map_or, option_to_list}
use Rattle.std.proofs.lemmas.List.{reverse-append, get_or-set_same, get_or-set_other, length-set}
use Rattle.std.proofs.lemmas.Bool.{cases_eq}
use Rattle.page_ids.specs.Midpoint.{Numbers, Order, numbers_of, read_in, touch, evict}
use Rattle.page_ids.specs.Same.{same_page}
use Rattle.page_ids.specs.declared.ids.PageId.{PageId}
use Rattle.page_ids.specs.declared.config.Config.{Config}
use Rattle.page_ids.specs.declared.frame_word.Word.{Word}
use Rattle.midpoint_lru.specs.View.{View, IsNew}
use Rattle.flush_list.specs.View.{View as Flush}
use Rattle.trail.specs.declared.event.Call.{Call}
use Rattle.trail.specs.declared.event.Cause.{Cause}
use Rattle.trail.specs.declared.event.Dirty.{Dirty}
use Rattle.trail.specs.declared.event.Entry.{Entry}
use Rattle.trail.specs.declared.event.Kind.{Kind}
use Rattle.trail.specs.declared.event.Kind.TheVariants as kind
use Rattle.trail.specs.Trails.{mark}
use Rattle.trail.specs.History.{home, home_after}
use Rattle.trail.specs.declared.event.Hand.{Hand}
use Rattle.page_ids.specs.FrameLists.{without, front}
use Rattle.trail.specs.Book.{Book, book, book_after, first_in, give, give_next, is_holder, is_late, frame_in_turn, use_frame}
use Rattle.trail.specs.Dirt.{dirty, dirty_after, is_dirty, log_end, log_end_after}
use Rattle.trail.specs.Order.{order, order_after}
use Rattle.instance_lists.specs.Ledger.{Ledger, IsVacant}
use Rattle.instance_lists.specs.KeptLists.{AreKept, KeepsHomes, KeepsBook, KeepsDirty, Absent, AreOnceBelow, in_turn, turned, own_hand, others_hand, plain_book, tenant_in, is_quiet, AreOthersUsed, newest_in, after_change, after_write}
use Rattle.instance_lists.proofs.Basics.{some_same, none_some}
use Rattle.instance_lists.proofs.Dirt.{no_way, same_self, same_is, same_turned}
use Rattle.instance_lists.proofs.ListsFlush.{dirt_on, dirt_load, dirt_evict, dirt_put, dirt_write, dirt_write_away}
use Rattle.instance_lists.proofs.ListsOrder.{is_new, order_on, order_fix, order_load, order_evict}

-- The frames in turn.
first_turn : (hand : Option Hand) (free : List ℕ) → first_in (option_to_list hand) free ≡ front (in_turn hand free)
first_turn None free = refl
first_turn (Some x) free = refl

pub front_is : (l : List ℕ) (f : ℕ) → front l ≡ Some f → l ≡ f ∷ drop 1 l
front_is [] f e = absurd (none_some f e)
front_is (g ∷ gs) f e = ap (λ (m : ℕ). m ∷ gs) (some_same g f e)

pub front_none : (l : List ℕ) → front l ≡ None → l ≡ []
front_none [] e = refl
front_none (g ∷ gs) e = absurd (none_some g (sym e))

pub turn_empty : (hand : Option Hand) (free : List ℕ) → in_turn hand free ≡ [] → (hand ≡ None) × (free ≡ [])
turn_empty None free e = (refl, e)
turn_empty (Some x) free e = absurd (cc)

without_absent : (f : ℕ) (l : List ℕ) → Absent f l → without f l ≡ l
without_absent f [] away = refl
without_absent f (g ∷ gs) away = elim (cases_eq f g) [
  | inl e ↦ absurd (away.0 e)
  | inr ne ↦ ap (λ (b : Bool). cond b gs (g ∷ without f gs)) (Rattle.std.proofs.lemmas.Bool.ne_eqb f g ne) ∙ ap (λ (l : List ℕ). g ∷ l) (without_absent f gs away.1)
]

-- what is left of the free frames as the next one is taken
without_next : (hand : Option Hand) (free : List ℕ) (f : ℕ) (rest : List ℕ) → in_turn hand free ≡ f ∷ rest → Absent f rest → without f free ≡ rest
without_next None [] f rest e away = absurd (cc)
without_next None (g ∷ gs) f rest e away =
    let here : g ≡ f = cc in
    let others : gs ≡ rest = cc in
    ap (λ (b : Bool). cond b gs (g ∷ without f gs)) (eq-eqb f g (sym here)) ∙ others
without_next (Some x) free f rest e away =
    let others : free ≡ rest = cc in
    ap (without f) others ∙ without_absent f rest away

-- and of the one in hand
used_hand : (hand : Option Hand) (free : List ℕ) (f : ℕ) (rest : List ℕ) → in_turn hand free ≡ f ∷ rest → filter (λ (x : Hand). not (x.frame == f)) (option_to_list hand) ≡ []
used_hand None free f rest e = refl
used_hand (Some x) free f rest e =
    let here : x.frame ≡ f = cc in
    ap (λ (b : Bool). cond (not b) (x ∷ []) []) (eq-eqb x.frame f here)

absent_last : (f g : ℕ) (fs : List ℕ) → f ≢ g → Absent f fs → Absent f (fs ++ g ∷ [])
absent_last f g [] ne a = (ne, tt)
absent_last f g (x ∷ fs) ne a = (a.0, absent_last f g fs ne a.1)

frames_last : (n g : ℕ) (fs : List ℕ) → g < n → Absent g fs → AreOnceBelow n fs → AreOnceBelow n (fs ++ g ∷ [])
frames_last n g [] lt a fs = (lt, tt, tt)
frames_last n g (x ∷ xs) lt a fs = (fs.0, absent_last x g xs (λ e. a.0 (sym e)) fs.1, frames_last n g xs lt a.1 fs.2)

absent_before_last : (f g : ℕ) (fs : List ℕ) → Absent f (fs ++ g ∷ []) → (f ≢ g) × Absent f fs
absent_before_last f g [] a = (a.0, tt)
absent_before_last f g (x ∷ fs) a = let rest = absent_before_last f g fs a.1 in (rest.0, (a.0, rest.1))

length-last : (fs : List ℕ) (g : ℕ) → length (fs ++ g ∷ []) ≡ length fs + 1
length-last [] g = omega arith
length-last (x ∷ fs) g = let rest = length-last fs g in omega (arith, rest)

-- who is taken has no page
pub vacant_from : (c : Config) (h : List Entry) (free : List ℕ) (hand : Option Hand) (f : ℕ) (rest : List ℕ) → KeepsBook c h free hand → in_turn hand free ≡ f ∷ rest → IsVacant h f
vacant_from c h free hand f rest k e p here =
    let away : Absent f (f ∷ rest) = subst (λ (l : List ℕ). Absent f l) e (k.taken p f here) in
    away.0 refl

-- the next frame is the first in turn
pub next_is : (c : Config) (h : List Entry) (free : List ℕ) (hand : Option Hand) → KeepsBook c h free hand → frame_in_turn (book c h) ≡ front (in_turn hand free)
next_is c h free hand k = ap frame_in_turn k.book_is ∙ first_turn hand free

-- Homes.
pub homes_on : (c : Config) (h new : List Entry) (homes : PageId → Option ℕ) (tenants : List PageId) → ((p : PageId) → home new p ≡ home h p) → KeepsHomes c h homes tenants → KeepsHomes c new homes tenants
homes_on c h new homes tenants same k = record {
  homes_are = λ p. k.homes_are p ∙ sym (same p);
  housed = λ p f here. k.housed p f (sym (same p) ∙ here);
  tenants_are = λ p f here. k.tenants_are p f (sym (same p) ∙ here);
  tenant_count = k.tenant_count;
}

homes_load : (c : Config) (h new : List Entry) (homes more : PageId → Option ℕ) (tenants : List PageId) (p : PageId) (f : ℕ)
    → ((q : PageId) → home new q ≡ cond (same_page p q) (Some f) (home h q)) → ((q : PageId) → more q ≡ cond (same_page p q) (Some f) (homes q))
    → f < c.frames → IsVacant h f → KeepsHomes c h homes tenants → KeepsHomes c new more (set tenants f p)
homes_load c h new homes more tenants p f after grown below none k = record {
  homes_are = λ q. grown q ∙ ap (cond (same_page p q) (Some f)) (k.homes_are q) ∙ sym (after q);
  housed = λ q g here. housed q g (same_page p q) (sym (after q) ∙ here);
  tenants_are = λ q g here. tenant q g (same_page p q) refl (sym (after q) ∙ here);
  tenant_count = length-set tenants f p ∙ k.tenant_count;
}
  where
    nowhere : PageId
    nowhere = record { space = 0; page = 0 }

    housed : (q : PageId) (g : ℕ) (b : Bool) → cond b (Some f) (home h q) ≡ Some g → g < c.frames
    housed q g true here = omega (arith, below, some_same f g here)
    housed q g false here = k.housed q g here

    tenant : (q : PageId) (g : ℕ) (b : Bool) → same_page p q ≡ b → cond b (Some f) (home h q) ≡ Some g → tenant_in (set tenants f p) g ≡ q
    tenant q g true same here =
        ap (tenant_in (set tenants f p)) (sym (some_same f g here)) ∙ get_or-set_same tenants f p nowhere (omega (arith, below, k.tenant_count)) ∙ same_is p q same
    tenant q g false same here =
        get_or-set_other tenants f g p nowhere (λ e. none q (here ∙ ap (λ (m : ℕ). Some m) e)) ∙ k.tenants_are q g here

homes_evict : (c : Config) (h new : List Entry) (homes less : PageId → Option ℕ) (tenants : List PageId) (p : PageId)
    → ((q : PageId) → home new q ≡ cond (same_page p q) None (home h q)) → ((q : PageId) → less q ≡ cond (same_page p q) None (homes q))
    → KeepsHomes c h homes tenants → KeepsHomes c new less tenants
homes_evict c h new homes less tenants p after grown k = record {
  homes_are = λ q. grown q ∙ ap (cond (same_page p q) None) (k.homes_are q) ∙ sym (after q);
  housed = λ q g here. k.housed q g (was q g (same_page p q) (sym (after q) ∙ here));
  tenants_are = λ q g here. k.tenants_are q g (was q g (same_page p q) (sym (after q) ∙ here));
  tenant_count = k.tenant_count;
}
  where
    was : (q : PageId) (g : ℕ) (b : Bool) → cond b None (home h q) ≡ Some g → home h q ≡ Some g
    was q g true here = absurd (none_some g here)
    was q g false here = here

-- The book.
pub book_on : (c : Config) (h new : List Entry) (free : List ℕ) (hand : Option Hand) → ((p : PageId) → home new p ≡ home h p) → book c new ≡ book c h → KeepsBook c h free hand → KeepsBook c new free hand
book_on c h new free hand same stays k = record {
  book_is = stays ∙ k.book_is;
  distinct = k.distinct;
  taken = λ p f here. k.taken p f (sym (same p) ∙ here);
}

book_load : (c : Config) (h new : List Entry) (free rest : List ℕ) (hand : Option Hand) (p : PageId) (f : ℕ)
    → ((q : PageId) → home new q ≡ cond (same_page p q) (Some f) (home h q)) → book c new ≡ use_frame f (book c h) → in_turn hand free ≡ f ∷ rest
    → KeepsBook c h free hand → KeepsBook c new rest None
book_load c h new free rest hand p f after used turn k =
    let frames : AreOnceBelow c.frames (f ∷ rest) = subst (λ (l : List ℕ). AreOnceBelow c.frames l) turn k.distinct in
    record {
      book_is = used ∙ ap (use_frame f) k.book_is
          ∙ ap (λ (l : List ℕ). plain_book c l (filter (λ (x : Hand). not (x.frame == f)) (option_to_list hand))) (without_next hand free f rest turn frames.1)
          ∙ ap (plain_book c rest) (used_hand hand free f rest turn);
      distinct = frames.2;
      taken = λ q g here. taken q g frames.1 (same_page p q) (sym (after q) ∙ here);
    }
  where
    taken : (q : PageId) (g : ℕ) → Absent f rest → (b : Bool) → cond b (Some f) (home h q) ≡ Some g → Absent g rest
    taken q g away true here = subst (λ (m : ℕ). Absent m rest) (some_same f g here) away
    taken q g away false here = let all : Absent g (f ∷ rest) = subst (λ (l : List ℕ). Absent g l) turn (k.taken q g here) in all.1

book_evict : (c : Config) (h new : List Entry) (homes : PageId → Option ℕ) (tenants : List PageId) (free : List ℕ) (hand : Option Hand) (e : Entry) (p : PageId) (f : ℕ) (passed : List (ℕ × Word))
    → ((q : PageId) → home new q ≡ cond (same_page p q) None (home h q)) → book c new ≡ book_after c.frames e (kind.Evict p f passed) (book c h) → in_turn hand free ≡ [] → home h p ≡ Some f
    → KeepsHomes c h homes tenants → KeepsBook c h free hand → KeepsBook c new free (Some (record { frame = f; caller = e.caller; number = e.number }))
book_evict c h new homes tenants free hand e p f passed after used turn here homed k = record {
  book_is = used ∙ ap (book_after c.frames e (kind.Evict p f passed)) k.book_is
      ∙ ap (λ (o : Option Hand). plain_book c free (record { frame = f; caller = e.caller; number = e.number } ∷ option_to_list o)) none.0;
  distinct = subst (λ (l : List ℕ). AreOnceBelow c.frames (f ∷ l)) (sym none.1) (homed.housed p f here, tt, tt);
  taken = λ q g there. subst (λ (l : List ℕ). Absent g (f ∷ l)) (sym none.1) (away q g (same_page p q) refl (sym (after q) ∙ there), tt);
}
  where
    none : (hand ≡ None) × (free ≡ [])
    none = turn_empty hand free turn

    away : (q : PageId) (g : ℕ) (b : Bool) → same_page p q ≡ b → cond b None (home h q) ≡ Some g → g ≢ f
    away q g true same there e = none_some g there
    away q g false same there e =
        let one : p ≡ q = sym (homed.tenants_are p f here) ∙ ap (tenant_in tenants) (sym e) ∙ homed.tenants_are q g there in
        no_way (sym (ap (same_page p) (sym one) ∙ same_self p) ∙ same)

-- frames in another order
record AreTurned (old new : List ℕ) : Type 0 where
  pub frames : (n : ℕ) → AreOnceBelow n old → AreOnceBelow n new
  pub away : (f : ℕ) → Absent f old → Absent f new
  pub back : (f : ℕ) → Absent f new → Absent f old
  pub long : length new ≡ length old

turned_round : (l : List ℕ) → AreTurned l (turned l)
turned_round [] = record { frames = λ n fs. fs; away = λ f a. a; back = λ f a. a; long = refl }
turned_round (g ∷ rest) = record {
  frames = λ n fs. frames_last n g rest fs.0 fs.1 fs.2;
  away = λ f a. absent_last f g rest a.0 a.1;
  back = λ f a. absent_before_last f g rest a;
  long = let last = length-last rest g in omega (arith, last);
}

turned_behind : (f : ℕ) (old new : List ℕ) → AreTurned old new → AreTurned (f ∷ old) (f ∷ new)
turned_behind f old new t = record {
  frames = λ n fs. (fs.0, t.away f fs.1, t.frames n fs.2);
  away = λ g a. (a.0, t.away g a.1);
  back = λ g a. (a.0, t.back g a.1);
  long = omega (arith, t.long);
}

turned_frames : (caller number : ℕ) (hand : Option Hand) (free : List ℕ) → AreTurned (in_turn hand free) (in_turn (others_hand caller number hand) (turned (in_turn (own_hand caller number hand) free)))
turned_frames caller number None free = turned_round free
turned_frames caller number (Some x) free = cases (is_holder caller number x)
  where
    cases : (b : Bool) → AreTurned (x.frame ∷ free) (in_turn (cond b None (Some x)) (turned (in_turn (cond b (Some x) None) free)))
    cases true = turned_round (x.frame ∷ free)
    cases false = turned_behind x.frame free (turned free) (turned_round free)

-- the frame at the front goes to the back of the free ones
given_front : (c : Config) (hands : List Hand) (free : List ℕ) → ((g : ℕ) (gs : List ℕ) → free ≡ g ∷ gs → filter (λ (x : Hand). not (x.frame == g)) hands ≡ hands)
    → option_map_or (λ f. give c.frames f (plain_book c free hands)) (front free) (plain_book c free hands) ≡ plain_book c (turned free) hands
given_front c hands [] others = refl
given_front c hands (g ∷ gs) others =
    ap (λ (b : Bool). plain_book c (cond b gs (g ∷ without g gs) ++ g ∷ []) (filter (λ (x : Hand). not (x.frame == g)) hands)) (eq-eqb g g refl)
    ∙ ap (plain_book c (gs ++ g ∷ [])) (others g gs refl)

-- a call that was refused gives its frame back, and leaves the one in another's hand
given_is : (c : Config) (free : List ℕ) (hand : Option Hand) (caller number : ℕ) → AreOnceBelow c.frames (in_turn hand free)
    → give_next c.frames caller number (plain_book c free (option_to_list hand)) ≡ plain_book c (turned (in_turn (own_hand caller number hand) free)) (option_to_list (others_hand caller number hand))
given_is c free None caller number frames = given_front c [] free (λ g gs is. refl)
given_is c free (Some x) caller number frames = cases (is_holder caller number x)
  where
    others : (g : ℕ) (gs : List ℕ) → free ≡ g ∷ gs → filter (λ (x : Hand). not (x.frame == g)) (x ∷ []) ≡ x ∷ []
    others g gs is =
        let away : Absent x.frame (g ∷ gs) = subst (λ (l : List ℕ). Absent x.frame l) is frames.1 in
        ap (λ (t : Bool). cond (not t) (x ∷ []) []) (Rattle.std.proofs.lemmas.Bool.ne_eqb x.frame g away.0)

    cases : (t : Bool) → option_map_or (λ f. give c.frames f (plain_book c free (x ∷ []))) (first_in (cond t (x ∷ []) []) free) (plain_book c free (x ∷ []))
        ≡ plain_book c (turned (in_turn (cond t (Some x) None) free)) (option_to_list (cond t None (Some x)))
    cases true =
        ap (λ (l : List ℕ). plain_book c (l ++ x.frame ∷ []) (filter (λ (y : Hand). not (y.frame == x.frame)) (x ∷ []))) (without_absent x.frame free frames.1)
        ∙ ap (λ (t : Bool). plain_book c (free ++ x.frame ∷ []) (cond (not t) (x ∷ []) [])) (eq-eqb x.frame x.frame refl)
    cases false = given_front c (x ∷ []) free others

book_late : (c : Config) (h new : List Entry) (free : List ℕ) (hand : Option Hand) (caller number : ℕ) → ((p : PageId) → home new p ≡ home h p) → book c new ≡ give_next c.frames caller number (book c h)
    → KeepsBook c h free hand → KeepsBook c new (turned (in_turn (own_hand caller number hand) free)) (others_hand caller number hand)
book_late c h new free hand caller number same gave k =
    let turn = turned_frames caller number hand free in
    record {
      book_is = gave ∙ ap (give_next c.frames caller number) k.book_is ∙ given_is c free hand caller number k.distinct;
      distinct = turn.frames c.frames k.distinct;
      taken = λ p f here. turn.away f (k.taken p f (sym (same p) ∙ here));
    }

-- The frames that are not in turn.
pub used_on : (c : Config) (h new : List Entry) (tenants : List PageId) (fs : List ℕ) → ((p : PageId) → home new p ≡ home h p) → AreOthersUsed c h tenants fs → AreOthersUsed c new tenants fs
used_on c h new tenants fs same k = λ f below away. same (tenant_in tenants f) ∙ k f below away

used_load : (c : Config) (h new : List Entry) (tenants : List PageId) (p : PageId) (f : ℕ) (rest : List ℕ)
    → ((q : PageId) → home new q ≡ cond (same_page p q) (Some f) (home h q)) → home h p ≡ None → f < length tenants → AreOthersUsed c h tenants (f ∷ rest) → AreOthersUsed c new (set tenants f p) rest
used_load c h new tenants p f rest after absent below k = λ g inside away. elim (cases_eq g f) [
  | inl e ↦
      let own : tenant_in (set tenants f p) g ≡ p = ap (tenant_in (set tenants f p)) e ∙ get_or-set_same tenants f p nowhere below in
      ap (home new) own ∙ after p ∙ ap (λ (b : Bool). cond b (Some f) (home h p)) (same_self p) ∙ ap (λ (m : ℕ). Some m) (sym e)
  | inr ne ↦
      let q = tenant_in tenants g in
      ap (home new) (get_or-set_other tenants f g p nowhere ne) ∙ after q ∙ stays g q (same_page p q) refl (k g inside (ne, away))
]
  where
    nowhere : PageId
    nowhere = record { space = 0; page = 0 }

    stays : (g : ℕ) (q : PageId) (b : Bool) → same_page p q ≡ b → home h q ≡ Some g → cond b (Some f) (home h q) ≡ Some g
    stays g q true same was = absurd (none_some g (sym absent ∙ ap (home h) (same_is p q same) ∙ was))
    stays g q false same was = was

used_evict : (c : Config) (h new : List Entry) (tenants : List PageId) (p : PageId) (f : ℕ) (free : List ℕ)
    → ((q : PageId) → home new q ≡ cond (same_page p q) None (home h q)) → home h p ≡ Some f → AreOthersUsed c h tenants [] → AreOthersUsed c new tenants (f ∷ free)
used_evict c h new tenants p f free after here k = λ g inside away.
    let q = tenant_in tenants g in
    after q ∙ stays g q away.0 (same_page p q) refl (k g inside tt)
  where
    stays : (g : ℕ) (q : PageId) → g ≢ f → (b : Bool) → same_page p q ≡ b → home h q ≡ Some g → cond b None (home h q) ≡ Some g
    stays g q ne true same was = absurd (ne (some_same g f (sym was ∙ sym (ap (home h) (same_is p q same)) ∙ here)))
    stays g q ne false same was = was

used_late : (c : Config) (h new : List Entry) (tenants : List PageId) (fs gs : List ℕ) → ((p : PageId) → home new p ≡ home h p) → AreTurned fs gs → AreOthersUsed c h tenants fs → AreOthersUsed c new tenants gs
used_late c h new tenants fs gs same turn k = λ f below away. same (tenant_in tenants f) ∙ k f below (turn.back f away)

-- What a quiet entry leaves.
record IsQuiet (k : Kind) : Type 0 where
  pub homes : (p : PageId) (before : Option ℕ) → home_after k p before ≡ before
  pub books : (per : ℕ) (e : Entry) (b : Book) → book_after per e k b ≡ b
  pub dirt : (ds : List Dirty) → dirty_after k ds ≡ ds
  pub ends : (n : ℕ) → log_end_after k n ≡ n
  pub orders : (n : Numbers) (o : Order PageId) → order_after n k o ≡ o

in_time : (b : Bool) (x y : Book) → not b ≡ true → cond b y x ≡ x
in_time true x y quiet = absurd (no_way (sym quiet))
in_time false x y quiet = refl

leaves : (k : Kind) → is_quiet k ≡ true → IsQuiet k
leaves (kind.Load p f) quiet = absurd (no_way (sym quiet))
leaves (kind.Fix p f clock now) quiet = absurd (no_way (sym quiet))
leaves (kind.Create p f start end now) quiet = absurd (no_way (sym quiet))
leaves (kind.Put p at bytes start end) quiet = absurd (no_way (sym quiet))
leaves (kind.Evict p f passed) quiet = absurd (no_way (sym quiet))
leaves (kind.Write p lsn upto) quiet = absurd (no_way (sym quiet))
leaves (kind.Move p from to) quiet = absurd (no_way (sym quiet))
leaves (kind.Withdraw from) quiet = absurd (no_way (sym quiet))
leaves (kind.Undo from) quiet = absurd (no_way (sym quiet))
leaves (kind.Shrink chunks) quiet = absurd (no_way (sym quiet))
leaves (kind.Grow chunks) quiet = absurd (no_way (sym quiet))
leaves (kind.Resize bytes chunks) quiet = record { homes = λ q b. refl; books = λ per e b. refl; dirt = λ ds. refl; ends = λ n. refl; orders = λ n o. refl }
leaves (kind.Clean written skipped) quiet = record { homes = λ q b. refl; books = λ per e b. refl; dirt = λ ds. refl; ends = λ n. refl; orders = λ n o. refl }
leaves (kind.Check lsn) quiet = record { homes = λ q b. refl; books = λ per e b. refl; dirt = λ ds. refl; ends = λ n. refl; orders = λ n o. refl }
leaves (kind.WatchSet p) quiet = record { homes = λ q b. refl; books = λ per e b. refl; dirt = λ ds. refl; ends = λ n. refl; orders = λ n o. refl }
leaves (kind.WatchAt p f) quiet = record { homes = λ q b. refl; books = λ per e b. refl; dirt = λ ds. refl; ends = λ n. refl; orders = λ n o. refl }
leaves (kind.Occurred p arrived) quiet = record { homes = λ q b. refl; books = λ per e b. refl; dirt = λ ds. refl; ends = λ n. refl; orders = λ n o. refl }
leaves (kind.Unwatch p) quiet = record { homes = λ q b. refl; books = λ per e b. refl; dirt = λ ds. refl; ends = λ n. refl; orders = λ n o. refl }
leaves (kind.Dump pct ids) quiet = record { homes = λ q b. refl; books = λ per e b. refl; dirt = λ ds. refl; ends = λ n. refl; orders = λ n o. refl }
leaves (kind.Refused asked why) quiet = record { homes = λ q b. refl; books = λ per e b. in_time (is_late asked why) b (give_next per e.caller e.number b) quiet; dirt = λ ds. refl; ends = λ n. refl; orders = λ n o. refl }

module _ {c : Config} {h : List Entry} {homes : PageId → Option ℕ} {tenants : List PageId} {free : List ℕ} {hand : Option Hand} {newest : List (Option ℕ)} {flush : Flush} {lru : View} {seats : ℕ}
    (k : AreKept c h homes tenants free hand newest flush lru seats) (e : Entry) (place : e.place ≡ mark c.first h + 1) where
  placed : e.place ≡ c.first + length (e ∷ h)
  placed = omega (arith, place, k.places)

  pub kept_quiet : is_quiet e.kind ≡ true → AreKept c (e ∷ h) homes tenants free hand newest flush lru seats
  kept_quiet quiet =
      let q = leaves e.kind quiet in
      let same : (p : PageId) → home (e ∷ h) p ≡ home h p = λ p. q.homes p (home h p) in
      record {
        one = k.one;
        places = placed;
        homed = homes_on c h (e ∷ h) homes tenants same k.homed;
        booked = book_on c h (e ∷ h) free hand same (q.books c.frames e (book c h)) k.booked;
        used = used_on c h (e ∷ h) tenants (in_turn hand free) same k.used;
        soiled = dirt_on c h homes tenants newest flush k.homed k.soiled (e ∷ h) same (q.dirt (dirty h)) (q.ends (log_end h));
        ordered = order_on c h homes tenants lru k.homed k.ordered e same (q.orders (numbers_of c) (order c h));
        frames = k.frames;
        seated = k.seated;
      }

  pub kept_fix : (p : PageId) (f clock now : ℕ) → e.kind ≡ kind.Fix p f clock now → home h p ≡ Some f
      → AreKept c (e ∷ h) homes tenants free hand newest flush (record lru { order = touch ◌==◌ lru.numbers f now lru.order }) seats
  kept_fix p f clock now is here =
      let same : (q : PageId) → home (e ∷ h) q ≡ home h q = λ q. ap (λ (x : Kind). home_after x q (home h q)) is in
      record {
        one = k.one;
        places = placed;
        homed = homes_on c h (e ∷ h) homes tenants same k.homed;
        booked = book_on c h (e ∷ h) free hand same (ap (λ (x : Kind). book_after c.frames e x (book c h)) is) k.booked;
        used = used_on c h (e ∷ h) tenants (in_turn hand free) same k.used;
        soiled = dirt_on c h homes tenants newest flush k.homed k.soiled (e ∷ h) same (ap (λ (x : Kind). dirty_after x (dirty h)) is) (ap (λ (x : Kind). log_end_after x (log_end h)) is);
        ordered = order_fix c h homes tenants lru k.homed k.ordered e p f clock now is here;
        frames = k.frames;
        seated = k.seated;
      }

  -- an entry that leaves all lists but that of dirty pages
  kept_dirt : (more : List (Option ℕ)) (flushed : Flush) → ((q : PageId) → home (e ∷ h) q ≡ home h q) → book c (e ∷ h) ≡ book c h → order c (e ∷ h) ≡ order c h
      → KeepsDirty c (e ∷ h) more flushed → AreKept c (e ∷ h) homes tenants free hand more flushed lru seats
  kept_dirt more flushed same books orders soiled = record {
    one = k.one;
    places = placed;
    homed = homes_on c h (e ∷ h) homes tenants same k.homed;
    booked = book_on c h (e ∷ h) free hand same books k.booked;
    used = used_on c h (e ∷ h) tenants (in_turn hand free) same k.used;
    soiled = soiled;
    ordered = order_on c h homes tenants lru k.homed k.ordered e same orders;
    frames = k.frames;
    seated = k.seated;
  }

  pub kept_put : (p : PageId) (f at : ℕ) (bytes : List ℕ) (start end : ℕ) → e.kind ≡ kind.Put p at bytes start end → home h p ≡ Some f → log_end h ≤ start → start ≤ end
      → AreKept c (e ∷ h) homes tenants free hand (set newest f (Some end)) (after_change f start (newest_in newest f) flush) lru seats
  kept_put p f at bytes start end is here ahead rises =
      let same : (q : PageId) → home (e ∷ h) q ≡ home h q = λ q. ap (λ (x : Kind). home_after x q (home h q)) is in
      kept_dirt (set newest f (Some end)) (after_change f start (newest_in newest f) flush) same (ap (λ (x : Kind). book_after c.frames e x (book c h)) is)
      (ap (λ (x : Kind). order_after (numbers_of c) x (order c h)) is)
      (dirt_put c h homes tenants newest flush k.homed k.soiled (e ∷ h) p f start end same (ap (λ (x : Kind). dirty_after x (dirty h)) is) (ap (λ (x : Kind). log_end_after x (log_end h)) is) here ahead rises)

  pub kept_write : (p : PageId) (f lsn upto : ℕ) → e.kind ≡ kind.Write p lsn upto → home h p ≡ Some f
      → AreKept c (e ∷ h) homes tenants free hand (set newest f None) (after_write f (newest_in newest f) flush) lru seats
  kept_write p f lsn upto is here =
      let same : (q : PageId) → home (e ∷ h) q ≡ home h q = λ q. ap (λ (x : Kind). home_after x q (home h q)) is in
      kept_dirt (set newest f None) (after_write f (newest_in newest f) flush) same (ap (λ (x : Kind). book_after c.frames e x (book c h)) is)
      (ap (λ (x : Kind). order_after (numbers_of c) x (order c h)) is)
      (dirt_write c h homes tenants newest flush k.homed k.soiled (e ∷ h) p f same (ap (λ (x : Kind). dirty_after x (dirty h)) is) (ap (λ (x : Kind). log_end_after x (log_end h)) is) here)

  pub kept_write_away : (p : PageId) (lsn upto : ℕ) → e.kind ≡ kind.Write p lsn upto → home h p ≡ None → AreKept c (e ∷ h) homes tenants free hand newest flush lru seats
  kept_write_away p lsn upto is absent =
      let same : (q : PageId) → home (e ∷ h) q ≡ home h q = λ q. ap (λ (x : Kind). home_after x q (home h q)) is in
      kept_dirt newest flush same (ap (λ (x : Kind). book_after c.frames e x (book c h)) is) (ap (λ (x : Kind). order_after (numbers_of c) x (order c h)) is)
      (dirt_write_away c h homes tenants newest flush k.homed k.soiled (e ∷ h) p same (ap (λ (x : Kind). dirty_after x (dirty h)) is) (ap (λ (x : Kind). log_end_after x (log_end h)) is) absent)

  pub kept_load : (p : PageId) (f : ℕ) (more : PageId → Option ℕ) (rest : List ℕ) → e.kind ≡ kind.Load p f → home h p ≡ None → in_turn hand free ≡ f ∷ rest
      → ((q : PageId) → more q ≡ cond (same_page p q) (Some f) (homes q))
      → AreKept c (e ∷ h) more (set tenants f p) rest None newest flush (record lru { order = read_in lru.numbers f lru.order }) seats
  kept_load p f more rest is absent turn grown =
      let after : (q : PageId) → home (e ∷ h) q ≡ cond (same_page p q) (Some f) (home h q) = λ q. ap (λ (x : Kind). home_after x q (home h q)) is in
      let none : IsVacant h f = vacant_from c h free hand f rest k.booked turn in
      let frames : AreOnceBelow c.frames (f ∷ rest) = subst (λ (l : List ℕ). AreOnceBelow c.frames l) turn k.booked.distinct in
      let long : length (in_turn hand free) ≡ length (f ∷ rest) = ap (length {A = ℕ}) turn in
      record {
        one = k.one;
        places = placed;
        homed = homes_load c h (e ∷ h) homes more tenants p f after grown frames.0 none k.homed;
        booked = book_load c h (e ∷ h) free rest hand p f after (ap (λ (x : Kind). book_after c.frames e x (book c h)) is) turn k.booked;
        used = used_load c h (e ∷ h) tenants p f rest after absent (omega (arith, frames.0, k.homed.tenant_count)) (subst (λ (l : List ℕ). AreOthersUsed c h tenants l) turn k.used);
        soiled = dirt_load c h homes tenants newest flush k.homed k.soiled (e ∷ h) p f after (ap (λ (x : Kind). dirty_after x (dirty h)) is) (ap (λ (x : Kind). log_end_after x (log_end h)) is) absent none;
        ordered = order_load c h homes tenants lru k.homed k.ordered e p f is absent none frames.0;
        frames = k.frames;
        seated = omega (arith, long, k.seated);
      }

  pub kept_evict : (p : PageId) (f : ℕ) (passed : List (ℕ × Word)) (less : PageId → Option ℕ) → e.kind ≡ kind.Evict p f passed → home h p ≡ Some f → is_dirty h p ≡ false → in_turn hand free ≡ []
      → ((q : PageId) → less q ≡ cond (same_page p q) None (homes q))
      → AreKept c (e ∷ h) less tenants free (Some (record { frame = f; caller = e.caller; number = e.number })) newest flush (record lru { order = evict ◌==◌ f lru.order }) seats
  kept_evict p f passed less is here clean turn left =
      let after : (q : PageId) → home (e ∷ h) q ≡ cond (same_page p q) None (home h q) = λ q. ap (λ (x : Kind). home_after x q (home h q)) is in
      let below = k.homed.housed p f here in
      let short : length free ≡ 0 = ap (length {A = ℕ}) (turn_empty hand free turn).1 in
      record {
        one = k.one;
        places = placed;
        homed = homes_evict c h (e ∷ h) homes less tenants p after left k.homed;
        booked = book_evict c h (e ∷ h) homes tenants free hand e p f passed after (ap (λ (x : Kind). book_after c.frames e x (book c h)) is) turn here k.homed k.booked;
        used = used_evict c h (e ∷ h) tenants p f free after here (subst (λ (l : List ℕ). AreOthersUsed c h tenants l) turn k.used);
        soiled = dirt_evict c h homes tenants newest flush k.homed k.soiled (e ∷ h) p f after (ap (λ (x : Kind). dirty_after x (dirty h)) is) (ap (λ (x : Kind). log_end_after x (log_end h)) is) here clean;
        ordered = order_evict c h homes tenants lru k.homed k.ordered e p f passed is here;
        frames = k.frames;
        seated = omega (arith, short, below, k.frames);
      }

  pub kept_late : (asked : Call) (why : Cause) → e.kind ≡ kind.Refused asked why → is_late asked why ≡ true
      → AreKept c (e ∷ h) homes tenants (turned (in_turn (own_hand e.caller e.number hand) free)) (others_hand e.caller e.number hand) newest flush lru seats
  kept_late asked why is late =
      let same : (q : PageId) → home (e ∷ h) q ≡ home h q = λ q. ap (λ (x : Kind). home_after x q (home h q)) is in
      let gave : book c (e ∷ h) ≡ give_next c.frames e.caller e.number (book c h) =
      ap (λ (x : Kind). book_after c.frames e x (book c h)) is ∙ ap (λ (b : Bool). cond b (give_next c.frames e.caller e.number (book c h)) (book c h)) late in
      let turn = turned_frames e.caller e.number hand free in
      record {
        one = k.one;
        places = placed;
        homed = homes_on c h (e ∷ h) homes tenants same k.homed;
        booked = book_late c h (e ∷ h) free hand e.caller e.number same gave k.booked;
        used = used_late c h (e ∷ h) tenants (in_turn hand free) _ same turn k.used;
        soiled = dirt_on c h homes tenants newest flush k.homed k.soiled (e ∷ h) same (ap (λ (x : Kind). dirty_after x (dirty h)) is) (ap (λ (x : Kind). log_end_after x (log_end h)) is);
        ordered = order_on c h homes tenants lru k.homed k.ordered e same (ap (λ (x : Kind). order_after (numbers_of c) x (order c h)) is);
        frames = k.frames;
        seated = omega (arith, turn.long, k.seated);
      }

-- lists that are equal to those, over a history that is equal to this one
pub kept_as : {c : Config} {h new : List Entry} {homes : PageId → Option ℕ} {tenants : List PageId} {free free' : List ℕ} {hand hand' : Option Hand} {newest newest' : List (Option ℕ)} {flush flush' : Flush} {lru lru' : View} {seats seats' : ℕ}
    → new ≡ h → free' ≡ free → hand' ≡ hand → newest' ≡ newest → flush' ≡ flush → lru' ≡ lru → seats' ≡ seats
    → AreKept c h homes tenants free hand newest flush lru seats → AreKept c new homes tenants free' hand' newest' flush' lru' seats'
kept_as {c} {h} {new} {homes} {tenants} {free} {free'} {hand} {hand'} {newest} {newest'} {flush} {flush'} {lru} {lru'} {seats} {seats'} same frees hands marks dirt order room k =
    let H : List Entry → Type 0 = λ x. AreKept c x homes tenants free' hand' newest' flush' lru' seats' in
    let F : List ℕ → Type 0 = λ x. AreKept c h homes tenants x hand' newest' flush' lru' seats' in
    let N : Option Hand → Type 0 = λ x. AreKept c h homes tenants free x newest' flush' lru' seats' in
    let M : List (Option ℕ) → Type 0 = λ x. AreKept c h homes tenants free hand x flush' lru' seats' in
    let D : Flush → Type 0 = λ x. AreKept c h homes tenants free hand newest x lru' seats' in
    let L : View → Type 0 = λ x. AreKept c h homes tenants free hand newest flush x seats' in
    let S : ℕ → Type 0 = λ x. AreKept c h homes tenants free hand newest flush lru x in
    subst H (sym same) (subst F (sym frees) (subst N (sym hands) (subst M (sym marks) (subst D (sym dirt) (subst L (sym order) (subst S (sym room) k))))))

-- a page came or left, as the hash tells it
pub rehomed : (old : PageId → Option ℕ) {new : PageId → Option ℕ} (p : PageId) (to : Option ℕ) → ((q : PageId) → new q ≡ cond (same_page q p) to (old q)) → (q : PageId) → new q ≡ cond (same_page p q) to (old q)
rehomed old p to came q = came q ∙ ap (λ (b : Bool). cond b to (old q)) (same_turned q p)

-- the history after a push
pub pushed : (old : List Entry) {new : List Entry} {e : Entry} → new ≡ old ++ e ∷ [] → reverse new ≡ e ∷ reverse old
pushed old {new} {e} grown = ap reverse grown ∙ reverse-append old (e ∷ [])

-- What holds of the ledger holds of the lists that it is seen from.
module _ {seen l : Ledger} (is : seen ≡ l) where
  pub next_place : (e : Entry) → e.place ≡ mark l.config.first l.history + 1 → e.place ≡ mark seen.config.first seen.history + 1
  next_place e = subst (λ (x : Ledger). e.place ≡ mark x.config.first x.history + 1) (sym is)

  pub seen_behind : (start : ℕ) → log_end l.history ≤ start → log_end seen.history ≤ start
  seen_behind start = subst (λ (x : Ledger). log_end x.history ≤ start) (sym is)

  pub seen_home : (p : PageId) (f : ℕ) → home l.history p ≡ Some f → home seen.history p ≡ Some f
  seen_home p f = subst (λ (x : Ledger). home x.history p ≡ Some f) (sym is)

-- A page without a home, and the frame that is next: it is the first in turn, and what the hash and the LRU list need of both.
pub record Comes (c : Config) (h : List Entry) (homes : PageId → Option ℕ) (free : List ℕ) (hand : Option Hand) (lru : View) (p : PageId) (f : ℕ) : Type 0 where
  pub absent : home h p ≡ None
  pub turn : in_turn hand free ≡ f ∷ drop 1 (in_turn hand free)
  pub below : f < c.frames
  pub unfiled : homes p ≡ None
  pub unused : (q : PageId) → homes q ≢ Some f
  pub new : IsNew lru f

pub comes : {seen l : Ledger} {homes : PageId → Option ℕ} {tenants : List PageId} {free : List ℕ} {hand : Option Hand} {newest : List (Option ℕ)} {flush : Flush} {lru : View} {seats : ℕ}
    → seen ≡ l → AreKept seen.config seen.history homes tenants free hand newest flush lru seats → (p : PageId) (f : ℕ)
    → home l.history p ≡ None → frame_in_turn (book l.config l.history) ≡ Some f → Comes seen.config seen.history homes free hand lru p f
comes {seen} {l} {homes} {tenants} {free} {hand} {newest} {flush} {lru} is k p f away following =
    let c = seen.config in
    let h = seen.history in
    let absent = subst (λ (x : Ledger). home x.history p ≡ None) (sym is) away in
    let next = subst (λ (x : Ledger). frame_in_turn (book x.config x.history) ≡ Some f) (sym is) following in
    let turn = front_is (in_turn hand free) f (sym (next_is c h free hand k.booked) ∙ next) in
    let frames = subst (λ (fs : List ℕ). AreOnceBelow c.frames fs) turn k.booked.distinct in
    let vacant = vacant_from c h free hand f _ k.booked turn in
    record {
      absent = absent;
      turn = turn;
      below = frames.0;
      unfiled = k.homed.homes_are p ∙ absent;
      unused = λ q here. vacant q (sym (k.homed.homes_are q) ∙ here);
      new = is_new c h homes tenants lru k.homed k.ordered f vacant frames.0;
    }
