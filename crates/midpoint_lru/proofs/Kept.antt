-- What the view of the sublists tells of their list, and what a call leaves as a view.
use Rattle.std.proofs.Common.{◌≡◌, ◌∙◌, ◌-◌, ◌<◌, ◌≤◌, ◌==◌, ◌++◌, ◌∷◌, [], ℕ, Bool, true, false, cond, List, Option, None, Some, not, nat_lt, length, get_or, refl, sym, ap, subst, arith}
use Rattle.std.specs.Prelude.{map, slice_get}
use Rattle.std.specs.Global.{Vec}
use Rattle.std.proofs.lemmas.List.{length-map, append-nil, get_or_default}
use mir.Val.{bool_byte}
use Rattle.link_lists.specs.Grid.{times}
use Rattle.link_lists.specs.Chains.{last}
use Rattle.link_lists.specs.IndexLists.{IndexList, Has, IsNew}
use Rattle.link_lists.proofs.Times.{times-append, placed, none_before, last_stands}
use Rattle.page_ids.specs.Midpoint.{Listed, place_of}
use Rattle.page_ids.proofs.Basics.{some_same}
use Rattle.midpoint_lru.specs.declared.sublists.Member.{Member}
use Rattle.midpoint_lru.specs.declared.sublists.Sublists.TheInside.{Inside}
use Rattle.midpoint_lru.specs.Parts.{Parts, IsIn, IsOut, young}
use Rattle.midpoint_lru.specs.Sublists.{listed_as, member_of, listed_of, parts_of, IsKept}
use Rattle.midpoint_lru.proofs.Listed.{Walked, walked, stands, none_stands, got, place_is}
use Rattle.midpoint_lru.proofs.Steps.{Leaves, blank, marked, with_more}

byte_is : (b : Bool) → bool_byte b ≡ cond b 1 0
byte_is true = refl
byte_is false = refl

module _ (a : Inside) (p : Parts) (is : parts_of a ≡ p) (k : IsKept a) where
  pub list_is : map (listed_of a.members.items) (k.young ++ k.old) ≡ p.listed
  list_is = ap (map (listed_of a.members.items)) (sym k.are.whole.is) ∙ ap (λ (p : Parts). p.listed) is

  pub room_is : p.room ≡ a.list.room
  room_is = ap (λ (p : Parts). p.room) (sym is)

  pub old_is : p.old_len ≡ a.old_len
  old_is = ap (λ (p : Parts). p.old_len) (sym is)

  pub is_in : (f : ℕ) → IsIn p f → 1 ≤ times f (k.young ++ k.old)
  is_in f h = stands a.members.items f (k.young ++ k.old) (subst (λ ys. place_of ◌==◌ f ys < length ys) (sym list_is) h)

  pub is_out : (f : ℕ) → ¬ IsIn p f → times f (k.young ++ k.old) ≡ 0
  is_out f h = none_stands a.members.items f (k.young ++ k.old) (λ l. h (subst (λ ys. place_of ◌==◌ f ys < length ys) list_is l))

  pub is_new : (f : ℕ) → IsOut p f → IsNew a.list f
  is_new f h = record { room = omega (arith, h.room, room_is); away = ap (times f) k.are.whole.is ∙ is_out f h.away }

  pub has : (f : ℕ) → IsIn p f → Has a.list f
  has f h = omega (arith, ap (times f) k.are.whole.is, is_in f h)

  pub within : (f : ℕ) → IsIn p f → f < a.members.len
  within f h = omega (arith, k.are.there f (is_in f h), a.members.ok.0)

  pub last_within : (f : ℕ) → last k.young ≡ Some f → f < length a.members.items
  last_within f at = k.are.there f (omega (arith, last_stands k.young f at, times-append f k.young k.old))

  -- more members, where the same is kept of the listed frames
  pub more : (ms : Vec Member) (l : IndexList) → length a.members.items ≤ length ms.items
      → ((f : ℕ) → f < length a.members.items → member_of ms.items f ≡ member_of a.members.items f) → l.items ≡ a.list.items
      → Leaves l ms.items a.first_old p.listed a.old_len
  more ms l longer same items =
      subst (λ ys. Leaves l ms.items a.first_old ys a.old_len) list_is
      (with_more a.list l a.members.items a.first_old k.young k.old k.are ms.items a.old_len k.share longer (λ f there. same f (k.are.there f there))
      (record { is = items ∙ k.are.whole.is; once = k.are.whole.once }))

  -- a listed frame as it is found, and its mark
  pub found_is : (f : ℕ) → IsIn p f → slice_get p.listed (place_of ◌==◌ f p.listed) ≡ Some (listed_of a.members.items f)
  found_is f h = by_split (placed f (k.young ++ k.old) (is_in f h))
    where
      by_split : (front back : List ℕ) × (k.young ++ k.old ≡ front ++ f ∷ back) → slice_get p.listed (place_of ◌==◌ f p.listed) ≡ Some (listed_of a.members.items f)
      by_split t =
          subst (λ (ys : List (Listed ℕ)). slice_get ys (place_of ◌==◌ f ys) ≡ Some (listed_of a.members.items f)) (ap (map (listed_of a.members.items)) (sym t.2) ∙ list_is)
          (got a.members.items f t.0 t.1 (none_before f t.0 t.1 (subst (λ ys. times f ys ≤ 1) t.2 (k.are.whole.once f))))

  pub mark_is : (f : ℕ) → IsIn p f → (member_of a.members.items f).is_old ≡ not (nat_lt (place_of ◌==◌ f p.listed) (young p))
  mark_is f h =
      marked a.list a.list a.members.items a.first_old k.young k.old k.are f (is_in f h) a.old_len k.share
      ∙ ap (λ (ys : List (Listed ℕ)). not (nat_lt (place_of ◌==◌ f ys) (length ys - a.old_len))) list_is
      ∙ ap (λ n. not (nat_lt (place_of ◌==◌ f p.listed) (length p.listed - n))) (sym old_is)

  -- a listed frame as it is read
  module _ (f : ℕ) (h : IsIn p f) (m : Member) (at : m ≡ get_or a.members.items f m) where
    pub read_is : m ≡ member_of a.members.items f
    read_is = at ∙ get_or_default a.members.items f m blank (k.are.there f (is_in f h))

    pub read_as : (x : Listed ℕ) → slice_get p.listed (place_of ◌==◌ f p.listed) ≡ Some x → listed_as f m ≡ x
    read_as x there = ap (listed_as f) read_is ∙ some_same (sym (found_is f h) ∙ there)

    pub counts_as : (n : ℕ) → n ≡ bool_byte m.is_old → n ≡ cond (member_of a.members.items f).is_old 1 0
    counts_as n byte = byte ∙ byte_is m.is_old ∙ ap (λ (y : Member). cond y.is_old 1 0) read_is

  -- what is found from behind the tail, and from a frame
  pub from_tail : (after r : Option ℕ) → after ≡ None → r ≡ last a.list.items → Walked p.listed after r
  from_tail after r none is =
      let whole = append-nil (k.young ++ k.old) in
      subst (λ o. Walked p.listed o r) (sym none)
      (subst (λ ys. Walked ys None r) (ap (map (listed_of a.members.items)) whole ∙ list_is)
      (walked a.members.items None r (k.young ++ k.old) [] (subst (λ ys. (x : ℕ) → times x ys ≤ 1) (sym whole) k.are.whole.once)
      (ap (λ ys. length (map (listed_of a.members.items) ys)) whole ∙ length-map (k.young ++ k.old) (listed_of a.members.items)) (is ∙ ap last k.are.whole.is)))

  pub from_frame : (after r : Option ℕ) (f : ℕ) → after ≡ Some f → IsIn p f → ((front back : List ℕ) → a.list.items ≡ front ++ f ∷ back → r ≡ last front) → Walked p.listed after r
  from_frame after r f some h before =
      let t = placed f a.list.items (has f h) in
      let whole = sym k.are.whole.is ∙ t.2 in
      let once = subst (λ ys. (x : ℕ) → times x ys ≤ 1) whole k.are.whole.once in
      subst (λ o. Walked p.listed o r) (sym some)
      (subst (λ ys. Walked ys (Some f) r) (ap (map (listed_of a.members.items)) (sym whole) ∙ list_is)
      (walked a.members.items (Some f) r t.0 (f ∷ t.1) once (place_is a.members.items f t.0 t.1 (none_before f t.0 t.1 (once f))) (before t.0 t.1 t.2)))

-- what a call leaves, as a view
pub seen : (l : IndexList) (ms : List Member) (first_old : Option ℕ) (listed : List (Listed ℕ)) (old_len room : ℕ) (b : Leaves l ms first_old listed old_len)
    → l.room ≡ room → ◌≡◌ {A = Parts} (record { listed = map (listed_of ms) l.items; old_len = old_len; room = l.room }) (record { listed = listed; old_len = old_len; room = room })
seen l ms first_old listed old_len room b same =
    ap (λ ys. let w : Parts = record { listed = ys; old_len = old_len; room = l.room } in w) (ap (map (listed_of ms)) b.are.whole.is ∙ b.listed_is)
    ∙ ap (λ r. let w : Parts = record { listed = listed; old_len = old_len; room = r } in w) same

-- the same where as many are old and there is as much room
pub seen_still : (a : Inside) (p : Parts) → parts_of a ≡ p → (l : IndexList) (ms : List Member) (first_old : Option ℕ) (listed : List (Listed ℕ)) → Leaves l ms first_old listed a.old_len
    → l.room ≡ a.list.room → ◌≡◌ {A = Parts} (record { listed = map (listed_of ms) l.items; old_len = a.old_len; room = l.room }) (record p { listed = listed })
seen_still a p is l ms first_old listed b same =
    seen l ms first_old listed a.old_len a.list.room b same
    ∙ ap (λ (q : Parts). let w : Parts = record q { listed = listed } in w) is

-- and what is kept then
pub kept : (l : IndexList) (ms : Vec Member) (first_old : Option ℕ) (listed : List (Listed ℕ)) (old_len : ℕ) → Leaves l ms.items first_old listed old_len
    → l.room ≤ length ms.items → IsKept (record { list = l; old_len = old_len; first_old = first_old; members = ms })
kept l ms first_old listed old_len b room = record { young = b.young; old = b.old; are = b.are; share = b.share_is; room = room }
