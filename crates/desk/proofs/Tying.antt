-- How frames stand to a desk, step by step; and when each call may be made.
use Rattle.std.specs.Prelude.{not, ◌&&◌}
use Rattle.std.specs.Option.{is_some, option_map, option_map_or}
use Rattle.std.proofs.Common.{◌≡◌, ℕ, List, ◌∷◌, Option, None, Some, ◌<◌, ◌≤◌, ◌^◌, ◌+◌, Bool, true, false, cond, length, get_or, set, refl, sym, ap, ◌∙◌, subst, arith, IfSome, IsSome, eq-eqb, nat_eq, length-set}
use Rattle.page_ids.specs.Instances.{instance_of}
use Rattle.page_ids.specs.Content.{Content}
use Rattle.page_ids.specs.Layout.{IsPage}
use Rattle.page_ids.specs.Same.{same_page}
use Rattle.page_ids.specs.Size.{page_bytes}
use Rattle.page_ids.specs.declared.config.Config.{Config}
use Rattle.page_ids.specs.declared.ids.PageId.{PageId}
use Rattle.page_ids.specs.declared.frame_word.Word.{Word}
use Rattle.page_disk.specs.Disks.{DiskSeen, IsInside, IsSameDisk}
use Rattle.trail.specs.Trails.{mark}
use Rattle.trail.specs.declared.event.Call.{Call}
use Rattle.trail.specs.declared.event.Cause.{Cause}
use Rattle.trail.specs.declared.event.Dirty.{Dirty}
use Rattle.trail.specs.declared.event.Entry.{Entry}
use Rattle.trail.specs.declared.event.Kind.{Kind}
use Rattle.trail.specs.declared.event.Kind.TheVariants as kind
use Rattle.trail.specs.History.{home, home_after, change, value}
use Rattle.trail.specs.Dirt.{dirty, dirt_of, is_dirty}
use Rattle.frame_words.specs.Appends.{appended, extended}
use Rattle.frame_words.specs.Conditions.{MayPublish}
use Rattle.frame_words.specs.Rows.{Row, new_row, reached, published_row, lifted_row, laid_row, held_row}
use Rattle.frame_words.specs.Seen.{FramesSeen, History, row_at, with_row, noted, visited, is_owed}
use Rattle.desk.specs.Base.{Opened}
use Rattle.desk.specs.Behind.{IsBehind}
use Rattle.instance_lists.specs.Ledger.{Ledger, IsVacant, MayCome}
use Rattle.desk.specs.Ledger.{entry_behind}
use Rattle.desk.specs.State.{State, AreInside}
use Rattle.desk.specs.Steps.{IsAppended, next_entry}
use Rattle.desk.specs.Tied.{AreTied, IsTied, OnTold, IsOwn}
use Rattle.desk.specs.declared.calls.Caller.{Caller}
use Rattle.instance_lists.proofs.Dirt.{same_self, same_is, no_way}
use Rattle.desk.proofs.Behind.{made, appended_is, behind_same, read_value}
use Rattle.desk.proofs.Rows.{row_here, row_else, each_row, set_twice, set_same, image_held, told_step, told_map, some_map, some_mapped, row_still, row_held, row_laid, row_loaded, row_other, vacant_away}
use Rattle.desk.proofs.Loading.{inside_below, visiting, loaded, IsBased, behind_laid, behind_refused, behind_fixed, behind_loaded}

-- the history that a desk's frames tell, where they tell one
abbrev pub history_of : Config → ℕ → List Entry → History
history_of c n h = record { config = c; instance = n; entries = h }

never : (b : Bool) → (b && false) ≡ false
never true = refl
never false = refl

-- where no create waits for its visit, a visit is one that is taken back
visited_is : (s : FramesSeen) (f : ℕ) (w : Word) → s.owed ≡ None → visited s f w ≡ visiting s f w
visited_is s f w none =
    let unowed : is_owed s f ≡ false = ap (λ (o : Option ℕ). (row_at s f).resident && option_map_or (λ (g : ℕ). nat_eq g f) o false) none ∙ never (row_at s f).resident in
    ap (λ (b : Bool). cond b (record (with_row (noted s f w) f (held_row (row_at s f))) { owed = None }) (visiting s f w)) unowed

-- a visit became a held fix
pub granted : (s m t : FramesSeen) (f : ℕ) (w : Word) (e : Entry) → s.owed ≡ None → m ≡ visited s f w → t ≡ appended m e → t ≡ appended (visiting s f w) e
granted s m t f w e none visit entry = entry ∙ ap (λ (x : FramesSeen). appended x e) (visit ∙ visited_is s f w none)

-- an image was lifted, and one is laid
pub relaid : (s m t : FramesSeen) (f : ℕ) (c : Content) → f < length s.rows → m ≡ with_row s f (lifted_row (row_at s f)) → t ≡ with_row m f (laid_row (row_at m f) c)
    → t ≡ with_row s f (laid_row (row_at s f) c)
relaid s m t f c inside lifted laid =
    let row = lifted_row (row_at s f) in
    laid ∙ ap (λ (x : FramesSeen). with_row x f (laid_row (row_at x f) c)) lifted
    ∙ ap (λ (r : Row). with_row (with_row s f row) f (laid_row r c)) (row_here s.rows f row inside)
    ∙ ap (λ (rows : List Row). record s { rows = rows }) (set_twice s.rows f row (laid_row (row_at s f) c))

-- a load was appended, and its frame published
pub published : (s m t : FramesSeen) (first : ℕ) (h : List Entry) (by : Caller) (p : PageId) (f n : ℕ) → m ≡ appended s (entry_behind first h by (kind.Load p f))
    → t ≡ with_row m f (published_row (row_at m f) p n) → n ≡ mark first h + 1 → t ≡ loaded s (entry_behind first h by (kind.Load p f)) f p (mark first h + 1)
published s m t first h by p f n entry row place =
    row ∙ ap (λ (x : FramesSeen). with_row x f (published_row (row_at x f) p n)) entry ∙ ap (λ k. loaded s (entry_behind first h by (kind.Load p f)) f p k) place

-- with the content that it had nothing has changed
pub laid_again : (s : FramesSeen) (f : ℕ) (c : Content) → (row_at s f).image ≡ Some (Some c) → with_row s f (laid_row (row_at s f) c) ≡ s
laid_again s f c image =
    ap (λ (i : Option (Option Content)). with_row s f (record (row_at s f) { image = i })) (sym image)
    ∙ ap (λ (rows : List Row). record s { rows = rows }) (set_same s.rows f)

-- resident pages lie in their spaces as an entry comes
pub come_inside : (spaces : ℕ → Option ℕ) (l : Ledger) (h : List Entry) (k : Kind) → MayCome l k → ((p : PageId) (f : ℕ) → k ≡ kind.Load p f → IsInside spaces p)
    → ((p : PageId) (f start end now : ℕ) → k ≡ kind.Create p f start end now → IsInside spaces p) → AreInside spaces h → (p : PageId) (f : ℕ) → home_after k p (home h p) ≡ Some f → IsInside spaces p
come_inside spaces l h (kind.Load q g) may new made inside p f here = go (same_page q p) refl here
  where
    go : (b : Bool) → same_page q p ≡ b → cond b (Some g) (home h p) ≡ Some f → IsInside spaces p
    go true same here = subst (λ (r : PageId). IsInside spaces r) (same_is q p same) (new q g refl)
    go false other here = inside p f here
come_inside spaces l h (kind.Fix q g clock now) may new made inside p f here = inside p f here
come_inside spaces l h (kind.Create q g start end now) may new made inside p f here = go (same_page q p) refl here
  where
    go : (b : Bool) → same_page q p ≡ b → cond b (Some g) (home h p) ≡ Some f → IsInside spaces p
    go true same here = subst (λ (r : PageId). IsInside spaces r) (same_is q p same) (made q g start end now refl)
    go false other here = inside p f here
come_inside spaces l h (kind.Put q at bytes start end) may new made inside p f here = inside p f here
come_inside spaces l h (kind.Evict q g passed) may new made inside p f here = go (same_page q p) here
  where
    go : (b : Bool) → cond b None (home h p) ≡ Some f → IsInside spaces p
    go true here = absurd (cc)
    go false here = inside p f here
come_inside spaces l h (kind.Write q lsn upto) may new made inside p f here = inside p f here
come_inside spaces l h (kind.Move q from to) may new made inside p f here = absurd may
come_inside spaces l h (kind.Withdraw from) may new made inside p f here = absurd may
come_inside spaces l h (kind.Undo from) may new made inside p f here = absurd may
come_inside spaces l h (kind.Shrink chunks) may new made inside p f here = absurd may
come_inside spaces l h (kind.Grow chunks) may new made inside p f here = absurd may
come_inside spaces l h (kind.Resize bytes chunks) may new made inside p f here = absurd may
come_inside spaces l h (kind.Clean written skipped) may new made inside p f here = inside p f here
come_inside spaces l h (kind.Check lsn) may new made inside p f here = inside p f here
come_inside spaces l h (kind.WatchSet q) may new made inside p f here = absurd may
come_inside spaces l h (kind.WatchAt q g) may new made inside p f here = absurd may
come_inside spaces l h (kind.Occurred q arrived) may new made inside p f here = absurd may
come_inside spaces l h (kind.Unwatch q) may new made inside p f here = absurd may
come_inside spaces l h (kind.Dump pct ids) may new made inside p f here = absurd may
come_inside spaces l h (kind.Refused asked why) may new made inside p f here = inside p f here

pub held_none : (held : Option ℕ) → option_map (λ (n : ℕ). n + 1) held ≡ None → held ≡ None
held_none None e = refl
held_none (Some n) e = absurd (cc)

pub reached_none : (held : Option ℕ) (b : Bool) (image : Option (Option Content)) (c : Content) → image ≡ Some (Some c) → reached held b image ≡ Some None → held ≡ None
reached_none None b image c is e = refl
reached_none (Some n) b image c is e = let bad : Some (Some c) ≡ Some None = sym is ∙ e in absurd (cc)

clean_none : (o : Option Dirty) (d : Dirty) → is_some o ≡ false → o ≡ Some d → ⊥
clean_none o d clean is = no_way (sym (ap is_some is) ∙ clean)

module _ {D : Type 0} (seen : D → DiskSeen) where
  abbrev Tied : FramesSeen → State D → Type 0
  Tied s desk = AreTied seen s desk

  abbrev Valued : FramesSeen → State D → (PageId → Option Content) → Type 0
  Valued s desk base = (o : Opened) × (o.base ≡ base) × IsBehind seen o desk s

  -- one entry was appended, and the frames are known
  pub tied_on : (old new : State D) (by : Caller) (k : Kind) (t u : FramesSeen) → IsAppended old new by k → new.disk ≡ old.disk → t ≡ u
      → Tied u (made old.config old.instance (next_entry old by k ∷ old.history) old.disk) → Tied t new
  tied_on old new by k t u a disk shown given = subst (λ (x : State D). Tied t x) (sym (appended_is old new by k a disk))
      (subst (λ (x : FramesSeen). Tied x (made old.config old.instance (next_entry old by k ∷ old.history) old.disk)) (sym shown) given)

  pub based : (o : Opened) (s : FramesSeen) (base : PageId → Option Content) → o.base ≡ base → s.base ≡ Some base → IsBased o s
  based o s base is told = subst (λ (b : Option (PageId → Option Content)). IfSome b (λ (x : PageId → Option Content). x ≡ o.base)) (sym told) (sym is)

  -- the disk is as before
  pub tied_same : (c : Config) (n : ℕ) (h : List Entry) (d e : D) (s : FramesSeen) → IsSameDisk (seen d) (seen e)
      → Tied s (made c n h d) → Tied s (made c n h e)
  tied_same c n h d e s same t = record {
    count = t.count;
    whole = t.whole;
    rows = t.rows;
    stamped = t.stamped;
    unvisited = t.unvisited;
    none_owed = t.none_owed;
    history = t.history;
    known = t.known;
    shared = t.shared;
    own = t.own;
    valued = told_step s.base (Valued s (made c n h d)) (Valued s (made c n h e))
        (λ base is v. (v.0, v.1, behind_same seen v.0 c n h d e s same v.2)) t.valued;
  }

  -- a frame of the chunk
  pub below_rows : (s : FramesSeen) (desk : State D) (f : ℕ) → Tied s desk → f < desk.config.frames → f < length s.rows
  below_rows s desk f t below = omega (arith, t.whole, below)

  -- an image was laid into a frame that is no page's home
  pub tied_laid : (desk : State D) (s : FramesSeen) (f : ℕ) (content : Content) → f < desk.config.frames → IsVacant desk.history f → length content.bytes ≡ page_bytes desk.config.page
      → Tied s desk → Tied (with_row s f (laid_row (row_at s f) content)) desk
  tied_laid desk s f content below vacant fits t =
      let row = laid_row (row_at s f) content in
      let inside : f < length s.rows = below_rows s desk f t below in
      let size = page_bytes desk.config.page in
      let frames = desk.config.frames in
      record {
        count = length-set s.rows f row ∙ t.count;
        whole = subst (λ (n : ℕ). frames ≤ n) (sym (length-set s.rows f row)) t.whole;
        rows = each_row (λ g r. IsTied size frames desk.history r g) s.rows f row
            (row_laid size frames desk.history (row_at s f) f content below fits (t.rows f inside)) (λ g other here. t.rows g here);
        stamped = λ p g d here dirt. subst (λ (r : Row). OnTold r.image (λ c. c.lsn ≡ d.newest))
            (sym (row_else s.rows f g row (λ e. vacant p (here ∙ ap (λ (k : ℕ). Some k) e)))) (t.stamped p g d here dirt);
        unvisited = t.unvisited;
        none_owed = t.none_owed;
        history = t.history;
        known = each_row (λ g r. r.image ≡ Some None → IsSome s.history × IsSome s.base) s.rows f row (λ e. absurd (cc)) (λ g other here. t.known g here);
        shared = each_row (λ g r. r.held ≡ None → IsSome s.history × IsSome s.base) s.rows f row (t.shared f inside) (λ g other here. t.shared g here);
        own = t.own;
        valued = told_step s.base (Valued s desk) (Valued (with_row s f row) desk)
            (λ base is v. (v.0, v.1, behind_laid seen v.0 desk s f row vacant v.2)) t.valued;
      }

  pub told_on : (s : FramesSeen) (c : Config) (n : ℕ) (h : List Entry) (e : Entry) → IfSome s.history (λ x. x ≡ history_of c n h)
      → IfSome (option_map (extended e) s.history) (λ x. x ≡ history_of c n (e ∷ h))
  told_on s c n h e is = told_map s.history (extended e) (λ x. x ≡ history_of c n h) (λ x. x ≡ history_of c n (e ∷ h)) (λ x same. ap (extended e) same) is

  -- a call was refused
  pub tied_refused : (c : Config) (n : ℕ) (h : List Entry) (d : D) (s : FramesSeen) (by : Caller) (asked : Call) (why : Cause) → Tied s (made c n h d)
      → Tied (appended s (entry_behind c.first h by (kind.Refused asked why))) (made c n (entry_behind c.first h by (kind.Refused asked why) ∷ h) d)
  tied_refused c n h d s by asked why t =
      let e = entry_behind c.first h by (kind.Refused asked why) in
      record {
        count = t.count;
        whole = t.whole;
        rows = λ f below. row_still (page_bytes c.page) c.frames h e (row_at s f) f (λ p. refl) refl (t.rows f below);
        stamped = t.stamped;
        unvisited = t.unvisited;
        none_owed = t.none_owed;
        history = told_on s c n h e t.history;
        known = λ f below is. (some_map s.history (extended e) (t.known f below is).0, (t.known f below is).1);
        shared = λ f below is. (some_map s.history (extended e) (t.shared f below is).0, (t.shared f below is).1);
        own = λ is. t.own (some_mapped s.history (extended e) is);
        valued = told_step s.base (Valued s (made c n h d)) (Valued (appended s e) (made c n (e ∷ h) d))
            (λ base is v. (v.0, v.1, behind_refused seen v.0 c n h d s by asked why v.2)) t.valued;
      }

  -- a fix was granted
  pub tied_fixed : (c : Config) (n : ℕ) (h : List Entry) (d : D) (s : FramesSeen) (by : Caller) (p : PageId) (f clock now : ℕ) (w : Word) → f < length s.rows → Tied s (made c n h d)
      → Tied (appended (visiting s f w) (entry_behind c.first h by (kind.Fix p f clock now))) (made c n (entry_behind c.first h by (kind.Fix p f clock now) ∷ h) d)
  tied_fixed c n h d s by p f clock now w inside t =
      let e = entry_behind c.first h by (kind.Fix p f clock now) in
      let row = held_row (row_at s f) in
      let size = page_bytes c.page in
      let still : (g : ℕ) (r : Row) → IsTied size c.frames h r g → IsTied size c.frames (e ∷ h) r g = λ g r x. row_still size c.frames h e r g (λ p. refl) refl x in
      let named : IsSome s.history × IsSome s.base → IsSome (option_map (extended e) s.history) × IsSome s.base = λ x. (some_map s.history (extended e) x.0, x.1) in
      record {
        count = length-set s.rows f row ∙ t.count;
        whole = subst (λ (n : ℕ). c.frames ≤ n) (sym (length-set s.rows f row)) t.whole;
        rows = each_row (λ g r. IsTied size c.frames (e ∷ h) r g) s.rows f row
            (still f row (row_held size c.frames h (row_at s f) f (t.rows f inside))) (λ g other here. still g (row_at s g) (t.rows g here));
        stamped = λ q g x here dirt. subst (λ (i : Option (Option Content)). OnTold i (λ c. c.lsn ≡ x.newest)) (sym (image_held s.rows f g)) (t.stamped q g x here dirt);
        unvisited = refl;
        none_owed = t.none_owed;
        history = told_on s c n h e t.history;
        known = each_row (λ g r. r.image ≡ Some None → IsSome (option_map (extended e) s.history) × IsSome s.base) s.rows f row
            (λ is. named (t.known f inside is)) (λ g other here is. named (t.known g here is));
        shared = each_row (λ g r. r.held ≡ None → IsSome (option_map (extended e) s.history) × IsSome s.base) s.rows f row
            (λ is. named (t.shared f inside (held_none (row_at s f).held is))) (λ g other here is. named (t.shared g here is));
        own = λ is. t.own (some_mapped s.history (extended e) is);
        valued = told_step s.base (Valued s (made c n h d)) (Valued (appended (visiting s f w) e) (made c n (e ∷ h) d))
            (λ base is v. (v.0, v.1, behind_fixed seen v.0 c n h d s by p f clock now w v.2)) t.valued;
      }

  -- a clean page that had no home was read in
  pub tied_loaded : (c : Config) (n : ℕ) (h : List Entry) (d : D) (s : FramesSeen) (by : Caller) (p : PageId) (f : ℕ) (content : Content)
      → f < c.frames → IsVacant h f → home h p ≡ None → is_dirty h p ≡ false → IsInside (seen d).spaces p → IsOwn s (made c n h d) p
      → (row_at s f).image ≡ Some (Some content) → IfSome ((seen d).told p) (λ bytes. IsPage p bytes content) → Tied s (made c n h d)
      → Tied (loaded s (entry_behind c.first h by (kind.Load p f)) f p (mark c.first h + 1)) (made c n (entry_behind c.first h by (kind.Load p f) ∷ h) d)
  tied_loaded c n h d s by p f content below vacant absent clean within ours image read t =
      let e = entry_behind c.first h by (kind.Load p f) in
      let place = mark c.first h + 1 in
      let row = published_row (row_at s f) p place in
      let size = page_bytes c.page in
      let inside : f < length s.rows = below_rows s (made c n h d) f t below in
      let named : IsSome s.history × IsSome s.base → IsSome (option_map (extended e) s.history) × IsSome s.base = λ x. (some_map s.history (extended e) x.0, x.1) in
      record {
        count = length-set s.rows f row ∙ t.count;
        whole = subst (λ (n : ℕ). c.frames ≤ n) (sym (length-set s.rows f row)) t.whole;
        rows = each_row (λ g r. IsTied size c.frames (e ∷ h) r g) s.rows f row
            (row_loaded size c.frames h (row_at s f) place by.pass by.number p f below (t.rows f inside))
            (λ g other here. row_other size c.frames h (row_at s g) place by.pass by.number p f g other absent (t.rows g here));
        stamped = λ q g x here dirt. stamped q g x (same_page p q) refl here dirt;
        unvisited = t.unvisited;
        none_owed = t.none_owed;
        history = told_on s c n h e t.history;
        known = each_row (λ g r. r.image ≡ Some None → IsSome (option_map (extended e) s.history) × IsSome s.base) s.rows f row
            (λ is. named (t.shared f inside (reached_none (row_at s f).held (true && not (row_at s f).latched) (row_at s f).image content image is)))
            (λ g other here is. named (t.known g here is));
        shared = each_row (λ g r. r.held ≡ None → IsSome (option_map (extended e) s.history) × IsSome s.base) s.rows f row
            (λ is. named (t.shared f inside is)) (λ g other here is. named (t.shared g here is));
        own = λ is q g here. own (some_mapped s.history (extended e) is) q g (same_page p q) refl here;
        valued = told_step s.base (Valued s (made c n h d)) (Valued (loaded s e f p place) (made c n (e ∷ h) d))
            (λ base is v. (
              v.0,
              v.1,
              behind_loaded seen v.0 c n h d s by p f content inside vacant clean within image read
                  (λ none. (t.shared f inside none).1) (based v.0 s base v.1 is) v.2,
            )) t.valued;
      }
    where
      stamped : (q : PageId) (g : ℕ) (x : Dirty) (b : Bool) → same_page p q ≡ b → cond b (Some f) (home h q) ≡ Some g → dirt_of (dirty h) q ≡ Some x
          → OnTold (get_or (set s.rows f (published_row (row_at s f) p (mark c.first h + 1))) g new_row).image (λ c. c.lsn ≡ x.newest)
      stamped q g x true same here dirt = absurd (clean_none (dirt_of (dirty h) q) x (subst (λ (r : PageId). is_dirty h r ≡ false) (same_is p q same) clean) dirt)
      stamped q g x false same here dirt = subst (λ (r : Row). OnTold r.image (λ c. c.lsn ≡ x.newest))
          (sym (row_else s.rows f g (published_row (row_at s f) p (mark c.first h + 1)) (λ e. vacant q (here ∙ ap (λ (k : ℕ). Some k) e)))) (t.stamped q g x here dirt)

      own : IsSome s.history → (q : PageId) (g : ℕ) (b : Bool) → same_page p q ≡ b → cond b (Some f) (home h q) ≡ Some g → instance_of q c.instances ≡ n
      own is q g true same here = subst (λ (r : PageId). instance_of r c.instances ≡ n) (same_is p q same) (ours is)
      own is q g false same here = t.own is q g here

  -- a page that was loaded may be published
  pub may_publish : (c : Config) (n : ℕ) (h : List Entry) (d : D) (s : FramesSeen) (by : Caller) (p : PageId) (f : ℕ) (content : Content)
      → f < c.frames → IsVacant h f → is_dirty h p ≡ false → IsInside (seen d).spaces p → mark c.first h + 1 < 2 ^ 48
      → (row_at s f).image ≡ Some (Some content) → IfSome ((seen d).told p) (λ bytes. IsPage p bytes content) → Tied s (made c n h d)
      → MayPublish (appended s (entry_behind c.first h by (kind.Load p f))) f p (mark c.first h + 1)
  may_publish c n h d s by p f content below vacant clean within early image read t =
      let e = entry_behind c.first h by (kind.Load p f) in
      let place = mark c.first h + 1 in
      let inside : f < length s.rows = below_rows s (made c n h d) f t below in
      record {
        inside = inside;
        away = vacant_away (page_bytes c.page) c.frames h (row_at s f) f (t.rows f inside) vacant;
        laid = ap is_some image;
        early = early;
        home_is = told_map s.history (extended e) (λ x. x ≡ history_of c n h) (λ x. (home x.entries p ≡ Some f) × (place ≡ change x.entries f))
            (λ x is. (ap (λ (b : Bool). cond b (Some f) (home x.entries p)) (same_self p), sym (ap (λ (b : Bool). cond b place (change x.entries f)) (eq-eqb f f refl)))) t.history;
        value_is = told_map s.history (extended e) (λ x. x ≡ history_of c n h)
            (λ x. IfSome s.base (λ base. (row_at s f).image ≡ Some (value (page_bytes x.config.page) base x.entries p)))
            (λ x is. told_step s.base (Valued s (made c n h d)) (λ base. (row_at s f).image ≡ Some (value (page_bytes x.config.page) base x.entries p))
            (λ base here v. image ∙ sym (ap (λ (y : Option Content). Some y) (valued base v x is))) t.valued) t.history;
      }
    where
      valued : (base : PageId → Option Content) → Valued s (made c n h d) base → (x : History) → x ≡ history_of c n h → value (page_bytes x.config.page) base x.entries p ≡ Some content
      valued base v x is =
          ap (λ (y : History). value (page_bytes y.config.page) base y.entries p) is
          ∙ ap (λ (m : ℕ). value m base h p) v.2.size
          ∙ ap (λ (b : PageId → Option Content). value v.0.size b h p) (sym v.1)
          ∙ read_value seen v.0 (made c n h d) s p content v.2 (inside_below (seen d).spaces p within) clean read
