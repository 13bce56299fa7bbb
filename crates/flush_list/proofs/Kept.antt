-- What the view of a `Flush` tells of its list.
use Rattle.std.proofs.Common.{◌≡◌, ◌<◌, ◌≤◌, ◌∙◌, ◌+◌, ◌++◌, ◌∷◌, ℕ, List, length, get_or, Option, None, Some, sym, ap, subst, arith}
use Rattle.std.specs.Prelude.{map, AllPairs, IfSome}
use Rattle.std.specs.Option.{option_map}
use Rattle.std.specs.Global.{Vec}
use Rattle.link_lists.specs.Grid.{times}
use Rattle.link_lists.specs.Chains.{last}
use Rattle.link_lists.specs.IndexLists as index
use Rattle.link_lists.specs.IndexLists.{IndexList}
use Rattle.link_lists.proofs.Times.{last_stands, placed, none_before}
use Rattle.flush_list.specs.declared.flush.Flush.TheInside.{Inside}
use Rattle.flush_list.specs.View.{Node, View, Has, IsNew, place_of, next_up}
use Rattle.flush_list.specs.Inside.{node_of, view_of, IsKept}
use Rattle.flush_list.proofs.Frames.{stands, none_stands, nodes_agree, before_is, before_place}

-- the frame before another, and its place
abbrev pub IsBefore : List Node → ℕ → Option ℕ → Type 0
IsBefore listed f r = (r ≡ option_map (λ (x : Node). x.frame) (next_up f listed)) × IfSome r (λ n. place_of n listed + 1 ≡ place_of f listed)

module _ (a : Inside) (v : View) (is : view_of a ≡ v) where
  pub listed_is : map (node_of a.oldest.items) a.list.items ≡ v.listed
  listed_is = ap (λ (v : View). v.listed) is

  pub room_is : a.list.room ≡ v.room
  room_is = ap (λ (v : View). v.room) is

  pub falling_is : IsKept a → AllPairs (λ x y. y.oldest ≤ x.oldest) v.listed
  falling_is k = subst (λ (xs : List Node). AllPairs (λ x y. y.oldest ≤ x.oldest) xs) listed_is k.falling

  pub is_in : (f : ℕ) → Has v f → index.Has a.list f
  is_in f h = stands a.oldest.items f a.list.items (subst (λ (w : View). Has w f) (sym is) h)

  pub is_new : (f : ℕ) → IsNew v f → index.IsNew a.list f
  is_new f h = record {
    room = omega (arith, h.room, room_is);
    away = none_stands a.oldest.items f a.list.items (subst (λ (w : View). IsNew w f) (sym is) h).away;
  }

  -- what is found before a frame
  pub before_seen : (f : ℕ) (r : Option ℕ) → Has v f → index.IsInOrder a.list → ((front back : List ℕ) → a.list.items ≡ front ++ f ∷ back → r ≡ last front) → IsBefore v.listed f r
  before_seen f r h order before =
      let t = placed f a.list.items (is_in f h) in
      let once = subst (λ (xs : List ℕ). (x : ℕ) → times x xs ≤ 1) t.2 order.once in
      subst (λ ys. IsBefore ys f r) (ap (map (node_of a.oldest.items)) (sym t.2) ∙ listed_is) (
        before t.0 t.1 t.2 ∙ sym (before_is a.oldest.items None f t.0 t.1 (none_before f t.0 t.1 (once f))),
        before_place a.oldest.items f t.0 t.1 r once (before t.0 t.1 t.2),
      )

-- a list of frames as a view with the room of another one
pub seen : (v : View) (os : List ℕ) (l : IndexList) (listed : List Node) → l.room ≡ v.room → map (node_of os) l.items ≡ listed
    → ◌≡◌ {A = View} (record { listed = map (node_of os) l.items; room = l.room }) (record v { listed = listed })
seen v os l listed room e =
    ap (λ r. let w : View = record { listed = map (node_of os) l.items; room = r } in w) room
    ∙ ap (λ ys. let w : View = record { listed = ys; room = v.room } in w) e

module _ (a : Inside) (k : IsKept a) (order : index.IsInOrder a.list) where
  -- the tail has an oldest LSN
  pub tail_within : (f : ℕ) → last a.list.items ≡ Some f → f < length a.oldest.items
  tail_within f at = omega (arith, order.below f (last_stands a.list.items f at), k.room)

  -- the nodes are the same where those of before keep their oldest LSNs
  pub nodes_same : (os : List ℕ) → ((i : ℕ) → i < length a.oldest.items → get_or os i 0 ≡ get_or a.oldest.items i 0)
      → map (node_of os) a.list.items ≡ map (node_of a.oldest.items) a.list.items
  nodes_same os same = nodes_agree a.oldest.items os a.list.items (λ f there. same f (omega (arith, order.below f there, k.room)))

  -- what is kept where there are more oldest LSNs
  pub kept_longer : (os : Vec ℕ) (l : IndexList) → ((i : ℕ) → i < length a.oldest.items → get_or os.items i 0 ≡ get_or a.oldest.items i 0)
      → l.items ≡ a.list.items → l.room ≤ length os.items → IsKept (record { list = l; oldest = os })
  kept_longer os l same items room = record {
    room = room;
    falling = subst (λ (xs : List Node). AllPairs (λ x y. y.oldest ≤ x.oldest) xs) (sym (ap (map (node_of os.items)) items ∙ nodes_same os.items same)) k.falling;
  }
