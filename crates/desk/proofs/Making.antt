-- How frames stand to a desk, and what stands on the disk, as a page is made in a frame: laid blank, published, and fixed.
use Rattle.std.specs.Prelude.{not, ◌&&◌}
use Rattle.std.specs.Option.{is_some, option_map}
use Rattle.std.proofs.Common.{◌≡◌, ℕ, List, ◌∷◌, Option, None, Some, IsSomeAnd, ◌<◌, ◌≤◌, ◌^◌, ◌+◌, Bool, true, false, cond, length, get_or, set, refl, sym, ap, ◌∙◌, subst, IfSome, IsSome, eq-eqb, nat_eq, length-set}
use Rattle.std.proofs.lemmas.List.{length-replicate}
use Rattle.page_ids.specs.Instances.{instance_of}
use Rattle.page_ids.specs.Content.{Content}
use Rattle.page_ids.specs.Same.{same_page}
use Rattle.page_ids.specs.Size.{page_bytes}
use Rattle.page_ids.specs.declared.config.Config.{Config}
use Rattle.page_ids.specs.declared.ids.PageId.{PageId}
use Rattle.page_ids.specs.declared.frame_word.Word.{Word}
use Rattle.page_disk.specs.Disks.{DiskSeen}
use Rattle.trail.specs.Trails.{mark}
use Rattle.trail.specs.declared.event.Dirty.{Dirty}
use Rattle.trail.specs.declared.event.Entry.{Entry}
use Rattle.trail.specs.declared.event.Kind.TheVariants as kind
use Rattle.trail.specs.History.{home, change, value}
use Rattle.trail.specs.Dirt.{dirty, dirtied, dirt_of, is_dirty}
use Rattle.frame_words.specs.Appends.{appended, extended}
use Rattle.frame_words.specs.Conditions.{MayPublish}
use Rattle.frame_words.specs.Rows.{Row, new_row, published_row, laid_row, held_row}
use Rattle.frame_words.specs.Seen.{FramesSeen, History, row_at, with_row, noted, visited, is_owed}
use Rattle.desk.specs.Base.{Opened}
use Rattle.desk.specs.Behind.{IsBehind, IsValueIn}
use Rattle.desk.specs.Creating.{blank_at, made_row}
use Rattle.instance_lists.specs.Ledger.{IsVacant}
use Rattle.desk.specs.Ledger.{entry_behind}
use Rattle.desk.specs.Loads.{MayFix}
use Rattle.desk.specs.Making.{shown}
use Rattle.desk.specs.State.{State}
use Rattle.desk.specs.Steps.{loaded_row}
use Rattle.desk.specs.Tied.{AreTied, IsTied, OnTold, IsOwn}
use Rattle.desk.specs.Victims.{AreSettled}
use Rattle.desk.specs.declared.calls.Caller.{Caller}
use Rattle.desk.proofs.Behind.{made, value_in}
use Rattle.desk.proofs.BehindParts.{dirty_here, dirty_other}
use Rattle.instance_lists.proofs.Dirt.{same_self, same_is, no_way, dirtied_here, dirtied_other}
use Rattle.desk.proofs.Fixing.{settled_loaded, settled_held}
use Rattle.desk.proofs.Loading.{visiting, IsBased, value_published}
use Rattle.desk.proofs.Rows.{row_here, row_else, each_row, set_twice, told_step, told_map, some_map, some_mapped, row_held, row_loaded, row_other, reached_told, vacant_away}
use Rattle.desk.proofs.Tying.{history_of, told_on, held_none, reached_none, below_rows, based}

-- the frames as the page was made: its fix is held at once
abbrev pub finished : FramesSeen → Entry → ℕ → PageId → ℕ → Word → FramesSeen
finished s e f p place w = record (noted (appended s e) f w) { rows = set s.rows f (held_row (published_row (row_at s f) p place)); owed = None }

-- the visit that follows the publish of a create is a held fix
pub finished_is : (s t u : FramesSeen) (first : ℕ) (h : List Entry) (by : Caller) (p : PageId) (f start end now n : ℕ) (w : Word) → f < length s.rows
    → t ≡ shown s (entry_behind first h by (kind.Create p f start end now)) f p n → u ≡ visited t f w → u ≡ finished s (entry_behind first h by (kind.Create p f start end now)) f p n w
finished_is s t u first h by p f start end now n w inside publish visit =
    let e = entry_behind first h by (kind.Create p f start end now) in
    let row = published_row (row_at s f) p n in
    let v = shown s e f p n in
    let owed : is_owed v f ≡ true = ap (λ (r : Row). r.resident && nat_eq f f) (row_here s.rows f row inside) ∙ eq-eqb f f refl in
    visit
    ∙ ap (λ (x : FramesSeen). visited x f w) publish
    ∙ ap (λ (b : Bool). cond b (record (with_row (noted v f w) f (held_row (row_at v f))) { owed = None }) (visiting v f w)) owed
    ∙ ap (λ (r : Row). let x : FramesSeen = record (with_row (noted v f w) f (held_row r)) { owed = None } in x) (row_here s.rows f row inside)
    ∙ ap (λ (rows : List Row). let x : FramesSeen = record (noted (appended s e) f w) { rows = rows; owed = None } in x) (set_twice s.rows f row (held_row row))

-- and what each frame's row came to, from before the blank page was laid
pub made_rows : (s t : FramesSeen) (f : ℕ) (p : PageId) (place : ℕ) (c : Content) → f < length s.rows → t ≡ with_row s f (laid_row (row_at s f) c)
    → set t.rows f (held_row (published_row (row_at t f) p place)) ≡ set s.rows f (made_row (row_at s f) p c place)
made_rows s t f p place c inside seen =
    let row = laid_row (row_at s f) c in
    ap (λ (x : FramesSeen). set x.rows f (held_row (published_row (row_at x f) p place))) seen
    ∙ ap (λ (r : Row). set (set s.rows f row) f (held_row (published_row r p place))) (row_here s.rows f row inside)
    ∙ set_twice s.rows f row (held_row (published_row row p place))

pub settled_made : (rows now : List Row) (f : ℕ) (p : PageId) (c : Content) (n : ℕ) → f < length rows → (get_or rows f new_row).latched ≡ false → now ≡ set rows f (made_row (get_or rows f new_row) p c n)
    → AreSettled rows → AreSettled now
settled_made rows now f p c n inside unlatched is settled =
    let row = loaded_row (get_or rows f new_row) p c n in
    let mid = set rows f row in
    let held : set mid f (held_row (get_or mid f new_row)) ≡ set rows f (held_row row) = ap (λ (r : Row). set mid f (held_row r)) (row_here rows f row inside) ∙ set_twice rows f row (held_row row) in
    settled_held mid now f (is ∙ sym held) (settled_loaded rows mid f p c n unlatched refl settled)

-- a frame under a history that has the same homes and clocks
row_alike : (size frames : ℕ) (h new : List Entry) (r : Row) (f : ℕ) → ((p : PageId) → home new p ≡ home h p) → change new f ≡ change h f → IsTied size frames h r f → IsTied size frames new r f
row_alike size frames h new r f homes clocks t = record {
  clock = t.clock ∙ sym clocks;
  unlatched = t.unlatched;
  resident = λ is. homes r.page ∙ t.resident is;
  vacant = λ is q here. t.vacant is q (sym (homes q) ∙ here);
  there = t.there;
  sized = t.sized;
  told = t.told;
  bare = t.bare;
}

module _ {T : Type 0} where
  told_any : (o : Option T) (P : T → Type 0) → ((x : T) → P x) → IfSome o P
  told_any None P any = tt
  told_any (Some x) P any = any x

-- who may fix may do so behind a change of a row
pub fix_with : {D : Type 0} (s t : FramesSeen) (desk : State D) (by : Caller) (p : PageId) (f : ℕ) (row : Row) → t ≡ with_row s f row → MayFix s desk by p → MayFix t desk by p
fix_with s t desk by p f row is may = subst (λ (x : FramesSeen). MayFix x desk by p) (sym is) (record { turn = may.turn; own = may.own; few = may.few })

-- a blank page has the page's size
pub blank_fits : (size lsn : ℕ) → length (blank_at size lsn).bytes ≡ size
blank_fits size lsn = length-replicate size 0

module _ {D : Type 0} (seen : D → DiskSeen) where
  -- the page's value is blank from then on, and so is its image
  pub behind_made : (o : Opened) (c : Config) (n : ℕ) (h : List Entry) (d : D) (s : FramesSeen) (by : Caller) (p : PageId) (f start end now : ℕ) (w : Word)
      → f < length s.rows → IsVacant h f → (row_at s f).image ≡ Some (Some (blank_at (page_bytes c.page) end)) → ((row_at s f).held ≡ None → IsSome s.base) → IsBased o s
      → IsBehind seen o (made c n h d) s
      → IsBehind seen o (made c n (entry_behind c.first h by (kind.Create p f start end now) ∷ h) d)
      (finished s (entry_behind c.first h by (kind.Create p f start end now)) f p (mark c.first h + 1) w)
  behind_made o c n h d s by p f start end now w inside vacant image shared based b = record {
    size = b.size;
    pages = b.pages;
    based = b.based;
    telling = b.telling;
    values = λ q g at. values q g (same_page p q) refl at;
    written = b.written;
    unwritten = b.unwritten;
    clean = λ q is was. b.clean q (cleaned q (same_page p q) refl is) was;
    valued = λ q is. valued (same_page p q) (value o.size o.base h q) (b.valued q is);
  }
    where
      e : Entry
      e = entry_behind c.first h by (kind.Create p f start end now)

      row : Row
      row = held_row (published_row (row_at s f) p (mark c.first h + 1))

      t : FramesSeen
      t = finished s e f p (mark c.first h + 1) w

      here : IsValueIn o t (row_at t f).image (Some (blank_at (page_bytes c.page) end))
      here = subst (λ (r : Row). IsValueIn o t r.image (Some (blank_at (page_bytes c.page) end))) (sym (row_here s.rows f row inside))
          (value_published o t (row_at s f).held (true && not (row_at s f).latched) (row_at s f).image (blank_at (page_bytes c.page) end) image shared based)

      values : (q : PageId) (g : ℕ) (x : Bool) → same_page p q ≡ x → cond x (Some f) (home h q) ≡ Some g
          → IsValueIn o t (row_at t g).image (cond x (Some (blank_at o.size end)) (value o.size o.base h q))
      values q g true same at =
          let there : f ≡ g = cc in
          subst (λ (k : ℕ). IsValueIn o t (row_at t k).image (Some (blank_at o.size end))) there
          (subst (λ (m : ℕ). IsValueIn o t (row_at t f).image (Some (blank_at m end))) b.size here)
      values q g false other at = value_in o s t _ _ _ _ refl (ap (λ (r : Row). r.image) (row_else s.rows f g row (λ same. vacant q (at ∙ ap (λ (k : ℕ). Some k) same)))) refl (b.values q g at)

      cleaned : (q : PageId) (x : Bool) → same_page p q ≡ x → is_some (dirt_of (dirtied p start end (dirty h)) q) ≡ false → is_dirty h q ≡ false
      cleaned q true same is = absurd (no_way (sym (dirty_here p q start end (dirty h) same) ∙ is))
      cleaned q false other is = sym (dirty_other p q start end (dirty h) other) ∙ is

      valued : (x : Bool) (v : Option Content) → IsSome v → IsSome (cond x (Some (blank_at o.size end)) v)
      valued true v is = refl
      valued false v is = is

  -- a page that had no home was made in a frame that was none, where it lay blank
  pub tied_made : (c : Config) (n : ℕ) (h : List Entry) (d : D) (s : FramesSeen) (by : Caller) (p : PageId) (f start end now : ℕ) (w : Word)
      → f < c.frames → IsVacant h f → home h p ≡ None → IsOwn s (made c n h d) p
      → (row_at s f).image ≡ Some (Some (blank_at (page_bytes c.page) end)) → AreTied seen s (made c n h d)
      → AreTied seen (finished s (entry_behind c.first h by (kind.Create p f start end now)) f p (mark c.first h + 1) w)
      (made c n (entry_behind c.first h by (kind.Create p f start end now) ∷ h) d)
  tied_made c n h d s by p f start end now w below vacant absent ours image t =
      let e = entry_behind c.first h by (kind.Create p f start end now) in
      let first = entry_behind c.first h by (kind.Load p f) in
      let place = mark c.first h + 1 in
      let shown_row = published_row (row_at s f) p place in
      let row = held_row shown_row in
      let size = page_bytes c.page in
      let inside : f < length s.rows = below_rows seen s (made c n h d) f t below in
      let named : IsSome s.history × IsSome s.base → IsSome (option_map (extended e) s.history) × IsSome s.base = λ x. (some_map s.history (extended e) x.0, x.1) in
      let alike : (g : ℕ) (r : Row) → IsTied size c.frames (first ∷ h) r g → IsTied size c.frames (e ∷ h) r g = λ g r x. row_alike size c.frames (first ∷ h) (e ∷ h) r g (λ q. refl) refl x in
      record {
        count = length-set s.rows f row ∙ t.count;
        whole = subst (λ (n : ℕ). c.frames ≤ n) (sym (length-set s.rows f row)) t.whole;
        rows = each_row (λ g r. IsTied size c.frames (e ∷ h) r g) s.rows f row
            (alike f row (row_held size c.frames (first ∷ h) shown_row f (row_loaded size c.frames h (row_at s f) place by.pass by.number p f below (t.rows f inside))))
            (λ g other here. alike g (row_at s g) (row_other size c.frames h (row_at s g) place by.pass by.number p f g other absent (t.rows g here)));
        stamped = λ q g x here dirt. stamped inside q g x (same_page p q) refl here dirt;
        unvisited = t.unvisited;
        none_owed = refl;
        history = told_on seen s c n h e t.history;
        known = each_row (λ g r. r.image ≡ Some None → IsSome (option_map (extended e) s.history) × IsSome s.base) s.rows f row
            (λ is. named (t.shared f inside (reached_none (row_at s f).held (true && not (row_at s f).latched) (row_at s f).image (blank_at size end) image is)))
            (λ g other here is. named (t.known g here is));
        shared = each_row (λ g r. r.held ≡ None → IsSome (option_map (extended e) s.history) × IsSome s.base) s.rows f row
            (λ is. named (t.shared f inside (held_none (row_at s f).held is))) (λ g other here is. named (t.shared g here is));
        own = λ is q g here. own (some_mapped s.history (extended e) is) q g (same_page p q) refl here;
        valued = told_step s.base (λ base. (o : Opened) × (o.base ≡ base) × IsBehind seen o (made c n h d) s)
            (λ base. (o : Opened) × (o.base ≡ base) × IsBehind seen o (made c n (e ∷ h) d) (finished s e f p place w))
            (λ base is v. (
              v.0,
              v.1,
              behind_made v.0 c n h d s by p f start end now w inside vacant image (λ none. (t.shared f inside none).1) (based seen v.0 s base v.1 is) v.2,
            )) t.valued;
      }
    where
      row : Row
      row = held_row (published_row (row_at s f) p (mark c.first h + 1))

      newest : (q : PageId) (x : Dirty) → same_page p q ≡ true → dirt_of (dirtied p start end (dirty h)) q ≡ Some x → x.newest ≡ end
      newest q x same dirt =
          let one : dirt_of (dirtied p start end (dirty h)) p ≡ Some x = ap (dirt_of (dirtied p start end (dirty h))) (same_is p q same) ∙ dirt in
          (subst (λ (d : Option Dirty). IsSomeAnd d (λ y. (y.page ≡ p) × (y.newest ≡ end))) one (dirtied_here (dirty h) p start end)).1

      stamped : f < length s.rows → (q : PageId) (g : ℕ) (x : Dirty) (b : Bool) → same_page p q ≡ b → cond b (Some f) (home h q) ≡ Some g → dirt_of (dirtied p start end (dirty h)) q ≡ Some x
          → OnTold (get_or (set s.rows f row) g new_row).image (λ y. y.lsn ≡ x.newest)
      stamped inside q g x true same here dirt =
          let there : f ≡ g = cc in
          let lsn : OnTold (row_at s f).image (λ y. y.lsn ≡ x.newest) = subst (λ (i : Option (Option Content)). OnTold i (λ y. y.lsn ≡ x.newest)) (sym image) (sym (newest q x same dirt)) in
          subst (λ (k : ℕ). OnTold (get_or (set s.rows f row) k new_row).image (λ y. y.lsn ≡ x.newest)) there
          (subst (λ (r : Row). OnTold r.image (λ y. y.lsn ≡ x.newest)) (sym (row_here s.rows f row inside))
          (reached_told (row_at s f).held (true && not (row_at s f).latched) (row_at s f).image (λ y. y.lsn ≡ x.newest) lsn))
      stamped inside q g x false other here dirt = subst (λ (r : Row). OnTold r.image (λ y. y.lsn ≡ x.newest))
          (sym (row_else s.rows f g row (λ same. vacant q (here ∙ ap (λ (k : ℕ). Some k) same)))) (t.stamped q g x here (sym (dirtied_other (dirty h) p q start end other) ∙ dirt))

      own : IsSome s.history → (q : PageId) (g : ℕ) (b : Bool) → same_page p q ≡ b → cond b (Some f) (home h q) ≡ Some g → instance_of q c.instances ≡ n
      own is q g true same here = subst (λ (r : PageId). instance_of r c.instances ≡ n) (same_is p q same) (ours is)
      own is q g false same here = t.own is q g here

  -- a page that lies blank in its frame may be published, its entry appended
  pub may_show : (c : Config) (n : ℕ) (h : List Entry) (d : D) (s : FramesSeen) (by : Caller) (p : PageId) (f start end now : ℕ)
      → f < c.frames → IsVacant h f → mark c.first h + 1 < 2 ^ 48 → (row_at s f).image ≡ Some (Some (blank_at (page_bytes c.page) end)) → AreTied seen s (made c n h d)
      → MayPublish (appended s (entry_behind c.first h by (kind.Create p f start end now))) f p (mark c.first h + 1)
  may_show c n h d s by p f start end now below vacant early image t =
      let e = entry_behind c.first h by (kind.Create p f start end now) in
      let place = mark c.first h + 1 in
      let inside : f < length s.rows = below_rows seen s (made c n h d) f t below in
      record {
        inside = inside;
        away = vacant_away (page_bytes c.page) c.frames h (row_at s f) f (t.rows f inside) vacant;
        laid = ap is_some image;
        early = early;
        home_is = told_map s.history (extended e) (λ x. x ≡ history_of c n h) (λ x. (home x.entries p ≡ Some f) × (place ≡ change x.entries f))
            (λ x is. (ap (λ (b : Bool). cond b (Some f) (home x.entries p)) (same_self p), sym (ap (λ (b : Bool). cond b place (change x.entries f)) (eq-eqb f f refl)))) t.history;
        value_is = told_map s.history (extended e) (λ x. x ≡ history_of c n h)
            (λ x. IfSome s.base (λ base. (row_at s f).image ≡ Some (value (page_bytes x.config.page) base x.entries p)))
            (λ x is. told_any s.base (λ base. (row_at s f).image ≡ Some (value (page_bytes x.config.page) base (e ∷ x.entries) p))
            (λ base. image ∙ ap (λ (y : History). Some (Some (blank_at (page_bytes y.config.page) end))) (sym is)
            ∙ sym (ap (λ (b : Bool). Some (cond b (Some (blank_at (page_bytes x.config.page) end)) (value (page_bytes x.config.page) base x.entries p))) (same_self p)))) t.history;
      }
