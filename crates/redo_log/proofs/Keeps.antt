-- Each step keeps the rule of the marks.
use Rattle.std.proofs.Common.{◌≡◌, ◌≢◌, ℕ, zero, suc, ◌+◌, ◌-◌, ◌≤◌, ◌<◌, min, max, true, false, true≢false, List, [], ◌∷◌, ◌++◌, length, set, refl, sym, ap, ◌∙◌, subst, arith, le_refl, length-append}
use mathlib.Core.Option.{some, some-injective, some-ne-none}
use lib.ListN.{get_elem?}
use Rattle.atomic_table.proofs.Lists.{set_else}
use Rattle.crossbeam_utils.specs.Register.{Turns, Forks, Merges}
use Rattle.redo_log.specs.declared.view.Piece.{Piece}
use Rattle.redo_log.specs.declared.view.Story.{Story}
use Rattle.redo_log.specs.declared.view.View.{View}
use Rattle.redo_log.specs.Story.{end_of, longer, size_of, StandAll}
use Rattle.redo_log.specs.Marks.{words_of, no_story, blank, first_view, Fits, IsSoundStory, total, share_of, bytes_of, met_of, Kept, taken, left, keeper_of, again, shared, less, joined, looked, told, appended, begun, raised, Looks, Opens, Rises, AppendsPiece}
use Rattle.redo_log.proofs.Views.{each_set, each_new, each_two, total_set, total_new, part_le, has_all}
use Rattle.redo_log.proofs.Pieces.{stand_all_more, stands_new, stand_all_append, size-append, same_bytes, none_stand}

off : false ≡ true → ⊥
off e = true≢false (sym e)

blank_fits : (s : Story) (lost keeper j : ℕ) → Fits s lost keeper j blank
blank_fits s lost keeper j =
    record { end = omega arith; durable = omega arith; faults = omega arith; pieces = tt; lost_le = omega arith; none = λ _ _. (refl, refl); keeps = λ is. absurd (off is) }

-- what a view knows that isn't the keeper's stays so under another keeper
others_fit : (s : Story) (lost keeper keeper' by j : ℕ) (u : View) → by ≡ keeper → j ≢ by → Fits s lost keeper j u → Fits s lost keeper' j u
others_fit s lost keeper keeper' by j u mine apart g =
    record { end = g.end; durable = g.durable; faults = g.faults; pieces = g.pieces; lost_le = g.lost_le; none = g.none; keeps = λ is. absurd (apart ((g.keeps is).0 ∙ sym mine)) }

pub begins : Kept (0 ∷ 0 ∷ 0 ∷ []) (first_view ∷ [])
begins = record { story = no_story; keeper = 0; lost = 0; words = refl; sound = record { low = omega arith; high = omega arith }; each = λ j v e. one j v e; shares = omega arith; bytes = λ _. refl; mets = λ _. refl }
  where
    first : Fits no_story 0 0 0 first_view
    first = record { end = omega arith; durable = omega arith; faults = omega arith; pieces = tt; lost_le = omega arith; none = λ _ _. (refl, refl); keeps = λ _. (refl, refl) }

    one : (j : ℕ) (v : View) → get_elem? (first_view ∷ []) j ≡ some v → Fits no_story 0 0 j v
    one zero v e = subst (Fits no_story 0 0 0) (some-injective first_view v e) first
    one (suc j) v e = absurd (some-ne-none v (sym e))

-- no view has bytes or faults without a share, where none is lost
no_bytes : (s : Story) (lost keeper j : ℕ) (u : View) → lost ≡ 0 → Fits s lost keeper j u → share_of u ≡ 0 → bytes_of u ≡ 0
no_bytes s lost keeper j u whole g is = ap size_of (g.none whole is).0

no_faults : (s : Story) (lost keeper j : ℕ) (u : View) → lost ≡ 0 → Fits s lost keeper j u → share_of u ≡ 0 → met_of u ≡ 0
no_faults s lost keeper j u whole g is = (g.none whole is).1

pub looks : (by : ℕ) (v : View) → Turns Kept by v (λ x. x) Looks
looks by v x views r at =
    let f = r.each by v at in
    let w = looked v r.story in
    let shares = total_set share_of views by v w at in
    let bytes = total_set bytes_of views by v w at in
    let mets = total_set met_of views by v w at in
    let here : Fits r.story r.lost r.keeper by w = record {
      end = le_refl (end_of r.story);
      durable = le_refl r.story.durable;
      faults = le_refl r.story.faults;
      pieces = f.pieces;
      lost_le = f.lost_le;
      none = f.none;
      keeps = f.keeps;
    } in (
      w,
      record {
        story = r.story;
        keeper = r.keeper;
        lost = r.lost;
        words = r.words;
        sound = r.sound;
        each = each_set (Fits r.story r.lost r.keeper) views by w here (λ j u _. r.each j u);
        shares = omega (arith, shares, r.shares);
        bytes = λ whole. let was = r.bytes whole in omega (arith, bytes, was);
        mets = λ whole. let was = r.mets whole in omega (arith, mets, was);
      },
      record {
        words = r.words;
        end = f.end;
        durable = f.durable;
        faults = f.faults;
        high = r.sound.high;
        same = (refl, refl, refl, refl, refl, refl);
        whole = λ is.
            let mine : r.story ≡ v.story = sym (f.keeps is).1 in
            let long = ap (λ (s : Story). length s.bytes) mine in
            let count = ap (λ (s : Story). s.faults) mine in (
              seen r.story mine,
              subst IsSoundStory mine r.sound,
              subst (λ (s : Story). StandAll s v.pieces) mine f.pieces,
              λ all.
                  let le = part_le share_of views by v at in
                  let none : r.lost ≡ 0 = omega (arith, le, all, r.shares) in
                  let mine : total share_of views ≡ share_of v = omega (arith, le, all, r.shares) in (
                    sym (has_all share_of bytes_of views by v at (λ j u e. no_bytes r.story r.lost r.keeper j u none (r.each j u e)) mine) ∙ r.bytes none ∙ long,
                    sym (has_all share_of met_of views by v at (λ j u e. no_faults r.story r.lost r.keeper j u none (r.each j u e)) mine) ∙ r.mets none ∙ count,
                  ),
            );
      },
    )
  where
    seen : (s : Story) → s ≡ v.story → looked v s ≡ told v v.story
    seen s is = ap (looked v) is

-- the story goes on: no mark falls, and what stood stands
pub record IsNext (s t : Story) : Type 0 where
  pub end : end_of s ≤ end_of t
  pub durable : s.durable ≤ t.durable
  pub faults : s.faults ≤ t.faults
  pub sound : IsSoundStory t
  pub stand : (ps : List Piece) → StandAll s ps → StandAll t ps

-- the keeper goes on with the story
goes_on : (by : ℕ) (v w : View) (t : Story) (words : List ℕ) (then : View → List ℕ → List ℕ → View → Type 0) → v.keeps ≡ true → IsNext v.story t
    → ((lost keeper : ℕ) → Fits v.story lost keeper by v → Fits t lost keeper by w) → w.share ≡ v.share → length v.story.bytes + bytes_of w ≡ length t.bytes + bytes_of v
    → v.story.faults + w.met ≡ t.faults + v.met
    → words ≡ words_of t → ((x : List ℕ) → then v x words w) → Turns Kept by v (λ _. words) then
goes_on by v w t words then has next fits share grown more are tells x views r at =
    let f = r.each by v at in let mine = f.keeps has in
    let shares = total_set share_of views by v w at in
    let bytes = total_set bytes_of views by v w at in
    let mets = total_set met_of views by v w at in
    let count = ap (λ (s : Story). s.faults) mine.1 in
    let long = ap (λ (s : Story). length s.bytes) mine.1 in
    let was : Fits v.story r.lost r.keeper by v = subst (λ (s : Story). Fits s r.lost r.keeper by v) (sym mine.1) f in
    let others : (j : ℕ) (u : View) → j ≢ by → get_elem? views j ≡ some u → Fits t r.lost r.keeper j u = λ j u apart e.
    let g : Fits v.story r.lost r.keeper j u = subst (λ (s : Story). Fits s r.lost r.keeper j u) (sym mine.1) (r.each j u e) in
    record {
      end = omega (arith, g.end, next.end);
      durable = omega (arith, g.durable, next.durable);
      faults = omega (arith, g.faults, next.faults);
      pieces = next.stand u.pieces g.pieces;
      lost_le = g.lost_le;
      none = g.none;
      keeps = λ is. absurd (apart ((g.keeps is).0 ∙ sym mine.0));
    } in (
      w,
      record {
        story = t;
        keeper = r.keeper;
        lost = r.lost;
        words = are;
        sound = next.sound;
        each = each_set (Fits t r.lost r.keeper) views by w (fits r.lost r.keeper was) others;
        shares = omega (arith, shares, share, r.shares);
        bytes = λ whole. let was = r.bytes whole in omega (arith, bytes, grown, long, was);
        mets = λ whole. let was = r.mets whole in omega (arith, mets, more, count, was);
      },
      tells x,
    )

told_fits : (by : ℕ) (v : View) (t : Story) → IsNext v.story t → (lost keeper : ℕ) → Fits v.story lost keeper by v → Fits t lost keeper by (told v t)
told_fits by v t next lost keeper f = record {
  end = le_refl (end_of t);
  durable = le_refl t.durable;
  faults = le_refl t.faults;
  pieces = next.stand v.pieces f.pieces;
  lost_le = f.lost_le;
  none = f.none;
  keeps = λ is. ((f.keeps is).0, refl);
}

pub appends : (by : ℕ) (v : View) (p : Piece) (words : List ℕ) → v.keeps ≡ true → p.start ≡ end_of v.story → words ≡ words_of (longer v.story p.bytes)
    → 0 < length p.bytes → IsSoundStory v.story → 0 < v.share + v.lost → Turns Kept by v (λ _. words) (AppendsPiece p)
appends by v p words has is are long sound share =
    let t = longer v.story p.bytes in
    let len = length-append v.story.bytes p.bytes in
    let next : IsNext v.story t = record {
      end = omega (arith, len);
      durable = le_refl v.story.durable;
      faults = le_refl v.story.faults;
      sound = record { low = sound.low; high = omega (arith, len, sound.high) };
      stand = stand_all_more v.story p.bytes;
    } in
    goes_on by v (appended v p) t words (AppendsPiece p) has next (λ lost keeper f. let g = told_fits by v t next lost keeper f in record {
      end = g.end;
      durable = g.durable;
      faults = g.faults;
      pieces = stand_all_append t v.pieces (p ∷ []) g.pieces (stands_new v.story p is long, tt);
      lost_le = g.lost_le;
      none = λ whole none. absurd (omega (arith, whole, none, g.lost_le, share));
      keeps = g.keeps;
    }) refl (let size = size-append v.pieces (p ∷ []) in omega (arith, len, size)) refl are (λ _. refl)

-- the log is opened
pub opens : (by : ℕ) (v : View) (end faults : ℕ) → v.keeps ≡ true → v.story ≡ no_story → v.met ≡ 0 → 0 < v.share + v.lost → Turns Kept by v (λ _. end ∷ end ∷ faults ∷ []) Opens
opens by v end faults has none clean share =
    let t : Story = record { opened = end; bytes = []; durable = end; faults = faults } in
    let zero_on : end ≡ end + 0 = omega arith in
    let next : IsNext v.story t = subst (λ (s : Story). IsNext s t) (sym none) record {
      end = omega arith;
      durable = omega arith;
      faults = omega arith;
      sound = record { low = le_refl end; high = omega arith };
      stand = λ ps. none_stand no_story t ps refl;
    } in
    let empty = ap (λ (s : Story). length s.bytes) none in
    let sound = ap (λ (s : Story). s.faults) none in
    goes_on by v (begun v end end faults) t (end ∷ end ∷ faults ∷ []) Opens has next (λ lost keeper f. let g = told_fits by v t next lost keeper f in record {
      end = g.end;
      durable = g.durable;
      faults = g.faults;
      pieces = g.pieces;
      lost_le = g.lost_le;
      none = λ whole none. absurd (omega (arith, whole, none, g.lost_le, share));
      keeps = g.keeps;
    }) refl (omega (arith, empty)) (omega (arith, sound, clean)) (ap (λ (n : ℕ). n ∷ end ∷ faults ∷ []) zero_on) (λ _. refl)

-- the marks rise
pub rises : (by : ℕ) (v : View) (end durable faults : ℕ) → v.keeps ≡ true → end ≡ end_of v.story → v.story.durable ≤ durable → v.story.faults ≤ faults
    → v.story.opened ≤ durable → durable ≤ end → 0 < v.share + v.lost → Turns Kept by v (λ _. end ∷ durable ∷ faults ∷ []) Rises
rises by v end durable faults has is up more low high share =
    let t : Story = record v.story { durable = durable; faults = faults } in
    let next : IsNext v.story t = record {
      end = le_refl (end_of v.story);
      durable = up;
      faults = more;
      sound = record { low = low; high = omega (arith, is, high) };
      stand = λ ps. same_bytes v.story t ps refl refl;
    } in
    goes_on by v (raised v durable faults) t (end ∷ durable ∷ faults ∷ []) Rises has next (λ lost keeper f. let g = told_fits by v t next lost keeper f in record {
      end = g.end;
      durable = g.durable;
      faults = g.faults;
      pieces = g.pieces;
      lost_le = g.lost_le;
      none = λ whole none. absurd (omega (arith, whole, none, g.lost_le, share));
      keeps = g.keeps;
    }) refl refl (omega (arith, more)) (ap (λ (n : ℕ). n ∷ durable ∷ faults ∷ []) is) (λ _. refl)

-- a view is cut in two
forked : (x : List ℕ) (views : List View) (r : Kept x views) (lost keeper by : ℕ) (v a b : View) → r.lost ≤ lost → get_elem? views by ≡ some v
    → Fits r.story lost keeper by a → Fits r.story lost keeper (length (set views by a)) b
    → share_of a + share_of b + min 1 lost ≤ share_of v + min 1 r.lost → bytes_of a + bytes_of b ≡ bytes_of v
    → met_of a + met_of b ≡ met_of v
    → ((j : ℕ) (u : View) → j ≢ by → get_elem? views j ≡ some u → Fits r.story lost keeper j u) → Kept x (set views by a ++ b ∷ [])
forked x views r lost keeper by v a b up at mine last share size count others =
    let shares = total_set share_of views by v a at in
    let more_shares = total_new share_of (set views by a) b in
    let bytes = total_set bytes_of views by v a at in
    let more_bytes = total_new bytes_of (set views by a) b in
    let mets = total_set met_of views by v a at in
    let more_mets = total_new met_of (set views by a) b in
    record {
      story = r.story;
      keeper = keeper;
      lost = lost;
      words = r.words;
      sound = r.sound;
      each = each_new (Fits r.story lost keeper) views by a b mine last others;
      shares = omega (arith, shares, more_shares, share, r.shares);
      bytes = λ whole. let was = r.bytes (omega (arith, whole, up)) in omega (arith, bytes, more_bytes, size, was);
      mets = λ whole. let was = r.mets (omega (arith, whole, up)) in omega (arith, mets, more_mets, count, was);
    }

pub splits : (by : ℕ) (v : View) → Forks Kept by v v (again v)
splits by v x views r at =
    let f = r.each by v at in
    let new : Fits r.story r.lost r.keeper (length (set views by v)) (again v) =
    record { end = f.end; durable = f.durable; faults = f.faults; pieces = tt; lost_le = omega arith; none = λ _ _. (refl, refl); keeps = λ is. absurd (off is) } in
    forked x views r r.lost r.keeper by v v (again v) (le_refl r.lost) at f new (omega arith) (omega arith) (omega arith) (λ j u _. r.each j u)

-- what a view knows stays so where more shares are lost
still_fits : (s : Story) (lost more keeper j : ℕ) (u : View) → Fits s lost keeper j u → Fits s (lost + more) keeper j u
still_fits s lost more keeper j u g = record {
  end = g.end;
  durable = g.durable;
  faults = g.faults;
  pieces = g.pieces;
  lost_le = omega (arith, g.lost_le);
  none = λ whole. g.none (omega (arith, whole));
  keeps = g.keeps;
}

pub shares : (by : ℕ) (v : View) → 0 < v.share + v.lost → Forks Kept by v (less v) (shared v)
shares by v part x views r at =
    let more = 2 - v.share in
    let f = r.each by v at in
    let old : Fits r.story (r.lost + more) r.keeper by (less v) = record {
      end = f.end;
      durable = f.durable;
      faults = f.faults;
      pieces = f.pieces;
      lost_le = omega (arith, f.lost_le);
      none = λ whole none. absurd (omega (arith, whole, none));
      keeps = f.keeps;
    } in
    let new : Fits r.story (r.lost + more) r.keeper (length (set views by (less v))) (shared v) = record {
      end = f.end;
      durable = f.durable;
      faults = f.faults;
      pieces = tt;
      lost_le = omega (arith, f.lost_le);
      none = λ _ _. (refl, refl);
      keeps = λ is. absurd (off is);
    } in
    forked x views r (r.lost + more) r.keeper by v (less v) (shared v) (omega arith) at old new (omega (arith, part, f.lost_le)) (omega arith) (omega arith)
    (λ j u _ e. still_fits r.story r.lost more r.keeper j u (r.each j u e))

pub gives : (by : ℕ) (v : View) → v.keeps ≡ false → Forks Kept by v blank v
gives by v idle x views r at =
    let f = r.each by v at in
    let new : Fits r.story r.lost r.keeper (length (set views by blank)) v = record {
      end = f.end;
      durable = f.durable;
      faults = f.faults;
      pieces = f.pieces;
      lost_le = f.lost_le;
      none = f.none;
      keeps = λ is. absurd (off (sym idle ∙ is));
    } in
    forked x views r r.lost r.keeper by v blank v (le_refl r.lost) at (blank_fits r.story r.lost r.keeper by) new (omega arith) (omega arith) (omega arith) (λ j u _. r.each j u)

pub hands : (by : ℕ) (v : View) → v.keeps ≡ true → Forks Kept by v (left v) (keeper_of v)
hands by v has x views r at =
    let f = r.each by v at in let mine = f.keeps has in let n : ℕ = length (set views by (left v)) in
    let old : Fits r.story r.lost n by (left v) =
    record { end = f.end; durable = f.durable; faults = f.faults; pieces = f.pieces; lost_le = f.lost_le; none = f.none; keeps = λ is. absurd (off is) } in
    let new : Fits r.story r.lost n n (keeper_of v) =
    record { end = omega arith; durable = omega arith; faults = omega arith; pieces = tt; lost_le = omega arith; none = λ _ _. (refl, refl); keeps = λ _. (refl, mine.1) } in
    forked x views r r.lost n by v (left v) (keeper_of v) (le_refl r.lost) at old new (omega arith) (omega arith) (omega arith)
    (λ j u apart e. others_fit r.story r.lost r.keeper n by j u mine.0 apart (r.each j u e))

-- a view takes in another
merged : (x : List ℕ) (views : List View) (r : Kept x views) (keeper by other : ℕ) (v w a : View) → get_elem? views by ≡ some v
    → get_elem? (set views by a) other ≡ some w → Fits r.story r.lost keeper by a → share_of a ≡ share_of v + share_of w
    → (r.lost ≡ 0 → (bytes_of a ≡ bytes_of v + bytes_of w) × (met_of a ≡ met_of v + met_of w))
    → ((j : ℕ) (u : View) → j ≢ by → j ≢ other → get_elem? views j ≡ some u → Fits r.story r.lost keeper j u) → Kept x (set (set views by a) other blank)
merged x views r keeper by other v w a at there mine share both others =
    let shares = total_set share_of views by v a at in
    let last_shares = total_set share_of (set views by a) other w blank there in
    let bytes = total_set bytes_of views by v a at in
    let last_bytes = total_set bytes_of (set views by a) other w blank there in
    let mets = total_set met_of views by v a at in
    let last_mets = total_set met_of (set views by a) other w blank there in
    record {
      story = r.story;
      keeper = keeper;
      lost = r.lost;
      words = r.words;
      sound = r.sound;
      each = each_two (Fits r.story r.lost keeper) views by other a blank mine (blank_fits r.story r.lost keeper other) others;
      shares = omega (arith, shares, last_shares, share, r.shares);
      bytes = λ whole. let was = r.bytes whole in let size = (both whole).0 in omega (arith, bytes, last_bytes, size, was);
      mets = λ whole. let was = r.mets whole in let count = (both whole).1 in omega (arith, mets, last_mets, count, was);
    }

no_pieces : (a b : List Piece) → a ≡ [] → b ≡ [] → a ++ b ≡ []
no_pieces [] b one two = two
no_pieces (p ∷ ps) b one two = absurd (cc)

pub joins : (by : ℕ) (v : View) (other : ℕ) (w : View) → Merges Kept by v other w (joined v w) blank
joins by v other w x views r at apart there =
    let f = r.each by v at in
    let g = r.each other w (sym (set_else views by other (joined v w) apart) ∙ there) in
    let here : Fits r.story r.lost r.keeper by (joined v w) = record {
      end = omega (arith, f.end, g.end);
      durable = omega (arith, f.durable, g.durable);
      faults = omega (arith, f.faults, g.faults);
      pieces = stand_all_append r.story v.pieces w.pieces f.pieces g.pieces;
      lost_le = omega (arith, f.lost_le, g.lost_le);
      none = λ whole none.
          let mine = f.none whole (omega (arith, none)) in let other = g.none whole (omega (arith, none)) in
          (no_pieces v.pieces w.pieces mine.0 other.0, omega (arith, mine.1, other.1));
      keeps = f.keeps;
    } in
    merged x views r r.keeper by other v w (joined v w) at there here refl (λ _. (size-append v.pieces w.pieces, refl)) (λ j u _ _. r.each j u)

-- a view becomes the keeper's
pub takes : (by : ℕ) (v : View) (other : ℕ) (w : View) → w.keeps ≡ true → w.share ≡ 0 → Merges Kept by v other w (taken v w) blank
takes by v other w has none x views r at apart there =
    let f = r.each by v at in
    let g = r.each other w (sym (set_else views by other (taken v w) apart) ∙ there) in
    let mine = g.keeps has in
    let here : Fits r.story r.lost by by (taken v w) =
    record { end = f.end; durable = f.durable; faults = f.faults; pieces = f.pieces; lost_le = f.lost_le; none = f.none; keeps = λ _. (refl, mine.1) } in
    merged x views r by by other v w (taken v w) at there here (omega (arith, none))
    (λ whole.
    let size = no_bytes r.story r.lost r.keeper other w whole g none in
    let count = no_faults r.story r.lost r.keeper other w whole g none in
    (omega (arith, size), omega (arith, count)))
    (λ j u _ away e. others_fit r.story r.lost r.keeper by other j u mine.0 away (r.each j u e))
