-- The LRU list of frames stays the history's list of pages under other names.
use Rattle.std.proofs.Common.{◌≡◌, ◌≢◌, ◌∙◌, ◌==◌, ◌<◌, ◌≤◌, ℕ, Bool, true, false, cond, List, ◌∷◌, length, get_or, set, Option, Some, None, refl, sym, ap, subst, arith, inl, inr}
use Rattle.std.specs.Option.{option_map_or}
use Rattle.std.proofs.lemmas.List.{get_or-set_same, get_or-set_other}
use Rattle.std.proofs.lemmas.List.Sums.{passes_at_first}
use Rattle.std.proofs.lemmas.Bool.{cases_eq, eq-eqb, ne_eqb, eqb-true}
use Rattle.page_ids.specs.Midpoint.{Numbers, Listed, numbers_of, count_of, read_in, touch, evict, under, IsToldApart}
use Rattle.page_ids.specs.Same.{same_page}
use Rattle.page_ids.specs.declared.ids.PageId.{PageId}
use Rattle.page_ids.specs.declared.config.Config.{Config}
use Rattle.page_ids.specs.declared.frame_word.Word.{Word}
use Rattle.page_ids.proofs.midpoint.Counts.{listed_from_count, count_from_place, count-read_in, count-touch, count-evict}
use Rattle.page_ids.proofs.midpoint.Renaming.{read_in-under, touch-under, evict-under, under-same}
use Rattle.midpoint_lru.specs.View.{View, Has, IsNew}
use Rattle.trail.specs.declared.event.Entry.{Entry}
use Rattle.trail.specs.declared.event.Kind.{Kind}
use Rattle.trail.specs.declared.event.Kind.TheVariants as kind
use Rattle.trail.specs.History.{home, home_after}
use Rattle.trail.specs.Order.{order, order_after}
use Rattle.instance_lists.specs.Ledger.{IsVacant}
use Rattle.instance_lists.specs.Walk.{is_in_frame}
use Rattle.instance_lists.specs.KeptLists.{KeepsHomes, KeepsOrder, tenant_in}
use Rattle.instance_lists.proofs.Basics.{some_same}
use Rattle.instance_lists.proofs.Dirt.{same_self, same_is}
use Rattle.instance_lists.proofs.Walks.{in_frame}

abbrev pub times : ℕ → View → ℕ
times f lru = count_of (λ g. g == f) lru.order.listed

abbrev is_frame : Option ℕ → ℕ → Bool
is_frame o f = option_map_or (λ g. g == f) o false

-- a look-up that is the frame, and one that is not
pub at_frame : (o : Option ℕ) (f : ℕ) → o ≡ Some f → is_frame o f ≡ true
at_frame o f e = ap (λ o. is_frame o f) e ∙ eq-eqb f f refl

pub off_frame : (o : Option ℕ) (f : ℕ) → (o ≡ Some f → ⊥) → is_frame o f ≡ false
off_frame None f never = refl
off_frame (Some g) f never = ne_eqb g f (λ e. never (ap (λ (m : ℕ). Some m) e))

one_passes : (b : Bool) → 0 < cond {A = ℕ} b 1 0 → b ≡ true
one_passes true some = refl
one_passes false some = absurd (omega (arith, some))

module _ (c : Config) (h : List Entry) (homes : PageId → Option ℕ) (tenants : List PageId) (lru : View) (homed : KeepsHomes c h homes tenants) (k : KeepsOrder c h tenants lru) where
  -- a page's home is listed once, and a vacant frame is not
  pub count_home : (p : PageId) (f : ℕ) → home h p ≡ Some f → times f lru ≡ 1
  count_home p f here =
      let at : is_in_frame h f (tenant_in tenants f) ≡ true = ap (λ q. is_in_frame h f q) (homed.tenants_are p f here) ∙ at_frame (home h p) f here in
      k.counted f ∙ ap (λ (b : Bool). cond {A = ℕ} b 1 0) at

  pub count_vacant : (f : ℕ) → IsVacant h f → times f lru ≡ 0
  count_vacant f none = k.counted f ∙ ap (λ (b : Bool). cond {A = ℕ} b 1 0) (off_frame (home h (tenant_in tenants f)) f (none (tenant_in tenants f)))

  -- who is listed is the home of the page that it had last
  pub listed_home : (i : ℕ) (d : Listed ℕ) → i < length lru.order.listed → home h (tenant_in tenants (get_or lru.order.listed i d).key) ≡ Some (get_or lru.order.listed i d).key
  listed_home i d inside =
      let f = (get_or lru.order.listed i d).key in
      let least = count_from_place (λ g. g == f) lru.order.listed i d inside (eq-eqb f f refl) in
      in_frame (home h (tenant_in tenants f)) f (one_passes (is_in_frame h f (tenant_in tenants f)) (omega (arith, least, k.counted f)))

  pub is_listed : (p : PageId) (f : ℕ) → home h p ≡ Some f → Has lru f
  is_listed p f here = listed_from_count ◌==◌ f lru.order.listed (omega (arith, count_home p f here))

  pub is_new : (f : ℕ) → IsVacant h f → f < c.frames → IsNew lru f
  is_new f none below = record {
    room = omega (arith, below, k.room_is);
    away = λ there.
        let blank : Listed ℕ = record { key = f; first = None; since = 0 } in
        let here = passes_at_first (λ (x : Listed ℕ). x.key == f) lru.order.listed blank there in
        absurd (omega (arith, count_from_place (λ g. g == f) lru.order.listed _ blank there here, count_vacant f none));
  }

  -- pages tell their frames apart
  pub told_apart : (p : PageId) (f : ℕ) → home h p ≡ Some f → IsToldApart ◌==◌ same_page (tenant_in tenants) f lru.order.listed
  told_apart p f here i d inside =
      let g = (get_or lru.order.listed i d).key in
      let own : home h (tenant_in tenants f) ≡ Some f = ap (home h) (homed.tenants_are p f here) ∙ here in
      apart (tenant_in tenants g) (tenant_in tenants f) g f (listed_home i d inside) own (ap (tenant_in tenants))
    where
      by_test : (q r : PageId) (g f : ℕ) → home h q ≡ Some g → home h r ≡ Some f → g ≢ f → (b : Bool) → same_page q r ≡ b → b ≡ false
      by_test q r g f there own ne true same = absurd (ne (some_same g f (sym there ∙ ap (home h) (same_is q r same) ∙ own)))
      by_test q r g f there own ne false same = refl

      apart : (q r : PageId) (g f : ℕ) → home h q ≡ Some g → home h r ≡ Some f → (g ≡ f → q ≡ r) → same_page q r ≡ (g == f)
      apart q r g f there own alike = elim (cases_eq g f) [
        | inl e ↦ ap (same_page q) (sym (alike e)) ∙ same_self q ∙ sym (eq-eqb g f e)
        | inr ne ↦ by_test q r g f there own ne (same_page q r) refl ∙ sym (ne_eqb g f ne)
      ]

  -- an entry that leaves homes and order
  pub order_on : (e : Entry) → ((p : PageId) → home (e ∷ h) p ≡ home h p) → order c (e ∷ h) ≡ order c h → KeepsOrder c (e ∷ h) tenants lru
  order_on e same stays = record {
    numbers_are = k.numbers_are;
    room_is = k.room_is;
    order_is = stays ∙ k.order_is;
    counted = λ f. k.counted f ∙ sym (ap (λ (o : Option ℕ). cond {A = ℕ} (is_frame o f) 1 0) (same (tenant_in tenants f)));
    evicts = omega (arith, k.evicts);
  }

  -- a longer history in which a resident page was touched
  pub order_touch : (new : List Entry) (p : PageId) (f now : ℕ) → ((q : PageId) → home new q ≡ home h q) → order c new ≡ touch same_page (numbers_of c) p now (order c h) → length h ≤ length new
      → home h p ≡ Some f → KeepsOrder c new tenants (record lru { order = touch ◌==◌ lru.numbers f now lru.order })
  order_touch new p f now same touched longer here =
      let o = lru.order in
      let page : p ≡ tenant_in tenants f = sym (homed.tenants_are p f here) in
      record {
        numbers_are = k.numbers_are;
        room_is = k.room_is;
        order_is = touched
            ∙ ap (touch same_page (numbers_of c) p now) k.order_is
            ∙ ap (λ (n : Numbers). touch same_page n p now (under (tenant_in tenants) o)) (sym k.numbers_are)
            ∙ ap (λ (q : PageId). touch same_page lru.numbers q now (under (tenant_in tenants) o)) page
            ∙ sym (touch-under ◌==◌ same_page (tenant_in tenants) lru.numbers f now o (told_apart p f here));
        counted = λ g. count-touch ◌==◌ (λ m. m == g) lru.numbers f now o ∙ k.counted g
            ∙ sym (ap (λ (o : Option ℕ). cond {A = ℕ} (is_frame o g) 1 0) (same (tenant_in tenants g)));
        evicts = omega (arith, k.evicts, longer);
      }

  pub order_fix : (e : Entry) (p : PageId) (f clock now : ℕ) → e.kind ≡ kind.Fix p f clock now → home h p ≡ Some f
      → KeepsOrder c (e ∷ h) tenants (record lru { order = touch ◌==◌ lru.numbers f now lru.order })
  order_fix e p f clock now is here =
      order_touch (e ∷ h) p f now (λ q. ap (λ (x : Kind). home_after x q (home h q)) is) (ap (λ (x : Kind). order_after (numbers_of c) x (order c h)) is) (omega arith) here

  -- a frame's count after a page came into f or left it
  other_home : (b : Bool) (o was : Option ℕ) (g : ℕ) → (b ≡ true → is_frame was g ≡ is_frame o g) → is_frame (cond b o was) g ≡ is_frame was g
  other_home true o was g alike = sym (alike refl)
  other_home false o was g alike = refl

  pub order_load : (e : Entry) (p : PageId) (f : ℕ) → e.kind ≡ kind.Load p f → home h p ≡ None → IsVacant h f → f < c.frames
      → KeepsOrder c (e ∷ h) (set tenants f p) (record lru { order = read_in lru.numbers f lru.order })
  order_load e p f is absent none below =
      let o = lru.order in
      let t = set tenants f p in
      let nowhere : PageId = record { space = 0; page = 0 } in
      let own : tenant_in t f ≡ p = get_or-set_same tenants f p nowhere (omega (arith, below, homed.tenant_count)) in
      let homes_are : (q : PageId) → home (e ∷ h) q ≡ cond (same_page p q) (Some f) (home h q) = λ q. ap (λ (x : Kind). home_after x q (home h q)) is in
      let names : under (tenant_in tenants) o ≡ under (tenant_in t) o = under-same (tenant_in tenants) (tenant_in t) o (λ i d inside.
      let g = (get_or o.listed i d).key in
      sym (get_or-set_other tenants f g p nowhere (λ same. none (tenant_in tenants g) (listed_home i d inside ∙ ap (λ (m : ℕ). Some m) same)))) in
      record {
        numbers_are = k.numbers_are;
        room_is = k.room_is;
        order_is = ap (λ (x : Kind). order_after (numbers_of c) x (order c h)) is
            ∙ ap (read_in (numbers_of c) p) (k.order_is ∙ names)
            ∙ ap (λ (n : Numbers). read_in n p (under (tenant_in t) o)) (sym k.numbers_are)
            ∙ ap (λ (q : PageId). read_in lru.numbers q (under (tenant_in t) o)) (sym own)
            ∙ sym (read_in-under (tenant_in t) lru.numbers f o);
        counted = λ g. counted g t homes_are own (λ ne. get_or-set_other tenants f g p nowhere (λ e. ne (sym e)));
        evicts = omega (arith, k.evicts);
      }
    where
      counted : (g : ℕ) (t : List PageId) → ((q : PageId) → home (e ∷ h) q ≡ cond (same_page p q) (Some f) (home h q)) → tenant_in t f ≡ p → (f ≢ g → tenant_in t g ≡ tenant_in tenants g)
          → count_of (λ m. m == g) (read_in lru.numbers f lru.order).listed ≡ cond {A = ℕ} (is_in_frame (e ∷ h) g (tenant_in t g)) 1 0
      counted g t homes_are own others = elim (cases_eq f g) [
        | inl same ↦
            let came = count-read_in (λ m. m == g) lru.numbers f lru.order in
            let here : cond {A = ℕ} (f == g) 1 0 ≡ 1 = ap (λ (b : Bool). cond {A = ℕ} b 1 0) (eq-eqb f g same) in
            let was : times g lru ≡ 0 = subst (λ (m : ℕ). times m lru ≡ 0) same (count_vacant f none) in
            let there : home (e ∷ h) (tenant_in t g) ≡ Some g = ap (λ (m : ℕ). home (e ∷ h) (tenant_in t m)) (sym same) ∙ ap (home (e ∷ h)) own ∙ homes_are p
            ∙ ap (λ (b : Bool). cond b (Some f) (home h p)) (same_self p) ∙ ap (λ (m : ℕ). Some m) same in
            let is_one : cond {A = ℕ} (is_in_frame (e ∷ h) g (tenant_in t g)) 1 0 ≡ 1 = ap (λ (b : Bool). cond {A = ℕ} b 1 0) (at_frame (home (e ∷ h) (tenant_in t g)) g there) in
            omega (arith, came, here, was, is_one)
        | inr ne ↦
            let came = count-read_in (λ m. m == g) lru.numbers f lru.order in
            let here : cond {A = ℕ} (f == g) 1 0 ≡ 0 = ap (λ (b : Bool). cond {A = ℕ} b 1 0) (ne_eqb f g ne) in
            let q = tenant_in tenants g in
            let alike : is_in_frame (e ∷ h) g (tenant_in t g) ≡ is_in_frame h g q = ap (λ r. is_in_frame (e ∷ h) g r) (others ne) ∙ ap (λ (o : Option ℕ). is_frame o g) (homes_are q)
            ∙ other_home (same_page p q) (Some f) (home h q) g (λ same. ap (λ (o : Option ℕ). is_frame o g) (ap (home h) (sym (same_is p q same)) ∙ absent) ∙ sym (ne_eqb f g ne)) in
            let count : cond {A = ℕ} (is_in_frame (e ∷ h) g (tenant_in t g)) 1 0 ≡ cond {A = ℕ} (is_in_frame h g q) 1 0 = ap (λ (b : Bool). cond {A = ℕ} b 1 0) alike in
            omega (arith, came, here, k.counted g, count)
      ]

  pub order_evict : (e : Entry) (p : PageId) (f : ℕ) (passed : List (ℕ × Word)) → e.kind ≡ kind.Evict p f passed → home h p ≡ Some f
      → KeepsOrder c (e ∷ h) tenants (record lru { order = evict ◌==◌ f lru.order })
  order_evict e p f passed is here =
      let o = lru.order in
      let page : p ≡ tenant_in tenants f = sym (homed.tenants_are p f here) in
      let homes_are : (q : PageId) → home (e ∷ h) q ≡ cond (same_page p q) None (home h q) = λ q. ap (λ (x : Kind). home_after x q (home h q)) is in
      record {
        numbers_are = k.numbers_are;
        room_is = k.room_is;
        order_is = ap (λ (x : Kind). order_after (numbers_of c) x (order c h)) is
            ∙ ap (evict same_page p) k.order_is
            ∙ ap (λ (q : PageId). evict same_page q (under (tenant_in tenants) o)) page
            ∙ sym (evict-under ◌==◌ same_page (tenant_in tenants) f o (told_apart p f here));
        counted = λ g. counted g homes_are;
        evicts = omega (arith, k.evicts);
      }
    where
      alike : (g x : ℕ) → (x == f) ≡ true → (x == g) ≡ (f == g)
      alike g x e = ap (λ (m : ℕ). m == g) (eqb-true x f e)

      counted : (g : ℕ) → ((q : PageId) → home (e ∷ h) q ≡ cond (same_page p q) None (home h q))
          → count_of (λ m. m == g) (evict ◌==◌ f lru.order).listed ≡ cond {A = ℕ} (is_in_frame (e ∷ h) g (tenant_in tenants g)) 1 0
      counted g homes_are =
          let went = count-evict ◌==◌ (λ m. m == g) f lru.order (alike g) (is_listed p f here) in
          let q = tenant_in tenants g in
          elim (cases_eq f g) [
            | inl same ↦
                let one : cond {A = ℕ} (f == g) 1 0 ≡ 1 = ap (λ (b : Bool). cond {A = ℕ} b 1 0) (eq-eqb f g same) in
                let was : times g lru ≡ 1 = subst (λ (m : ℕ). times m lru ≡ 1) same (count_home p f here) in
                let own : q ≡ p = ap (tenant_in tenants) (sym same) ∙ homed.tenants_are p f here in
                let gone : home (e ∷ h) q ≡ None = ap (home (e ∷ h)) own ∙ homes_are p ∙ ap (λ (b : Bool). cond b None (home h p)) (same_self p) in
                let none : cond {A = ℕ} (is_in_frame (e ∷ h) g q) 1 0 ≡ 0 = ap (λ (o : Option ℕ). cond {A = ℕ} (is_frame o g) 1 0) gone in
                omega (arith, went, one, was, none)
            | inr ne ↦
                let zero : cond {A = ℕ} (f == g) 1 0 ≡ 0 = ap (λ (b : Bool). cond {A = ℕ} b 1 0) (ne_eqb f g ne) in
                let stays : is_in_frame (e ∷ h) g q ≡ is_in_frame h g q = ap (λ (o : Option ℕ). is_frame o g) (homes_are q)
                ∙ other_home (same_page p q) None (home h q) g (λ same. ap (λ (o : Option ℕ). is_frame o g) (ap (home h) (sym (same_is p q same)) ∙ here) ∙ ne_eqb f g ne) in
                let count : cond {A = ℕ} (is_in_frame (e ∷ h) g q) 1 0 ≡ cond {A = ℕ} (is_in_frame h g q) 1 0 = ap (λ (b : Bool). cond {A = ℕ} b 1 0) stays in
                omega (arith, went, zero, k.counted g, count)
          ]
