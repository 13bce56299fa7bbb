-- What stands on the disk and in the frames, as a page leaves its frame.
use Rattle.std.proofs.Common.{◌≡◌, ℕ, Bool, true, false, cond, List, ◌∷◌, Option, Some, None, refl, ap, ◌∙◌, sym, subst, IfSome, IsSome}
use Rattle.std.specs.Option.{is_some, unwrap_or}
use Rattle.page_ids.specs.Content.{Content}
use Rattle.page_ids.specs.Layout.{IsPage}
use Rattle.page_ids.specs.Same.{same_page}
use Rattle.page_ids.specs.declared.config.Config.{Config}
use Rattle.page_ids.specs.declared.frame_word.Word.{Word}
use Rattle.page_ids.specs.declared.ids.PageId.{PageId}
use Rattle.page_disk.specs.Disks.{DiskSeen, Fades, IsOtherwiseSame}
use Rattle.trail.specs.declared.event.Entry.{Entry}
use Rattle.trail.specs.declared.event.Kind.{Kind}
use Rattle.trail.specs.declared.event.Kind.TheVariants as kind
use Rattle.trail.specs.History.{value, home}
use Rattle.trail.specs.Dirt.{cleaned, dirty, dirt_of, is_dirty}
use Rattle.trail.specs.Saved.{is_written, saved}
use Rattle.frame_words.specs.Seen.{FramesSeen, row_at}
use Rattle.desk.specs.Base.{Opened}
use Rattle.desk.specs.Behind.{IsBehind, IsValueIn}
use Rattle.desk.specs.State.{State}
use Rattle.instance_lists.proofs.Dirt.{no_way, same_is}
use Rattle.desk.proofs.BehindParts.{IsStill, clean_other, fades_keeps}

-- a desk of these parts
abbrev pub desk_of : {D : Type 0} → Config → ℕ → List Entry → D → State D
desk_of c n h d = record { config = c; instance = n; history = h; disk = d }

abbrev pub entry_at : ℕ → ℕ → ℕ → Kind → Entry
entry_at place caller number k = record { place = place; caller = caller; number = number; kind = k }

-- a value is the same in frames with the same base
pub value_in : (o : Opened) (s t : FramesSeen) (image : Option (Option Content)) (v : Option Content) → t.base ≡ s.base → IsValueIn o s image v → IsValueIn o t image v
value_in o s t None v same is = is
value_in o s t (Some None) v same is = (same ∙ is.0, is.1)
value_in o s t (Some (Some c)) v same is = is

module _ {D : Type 0} (seen : D → DiskSeen) (o : Opened) where
  abbrev Stands : State D → FramesSeen → Type 0
  Stands desk s = IsBehind seen o desk s

  -- frames are known by their rows and the base
  pub behind_frames : (desk : State D) (s t : FramesSeen) → t.rows ≡ s.rows → t.base ≡ s.base → Stands desk s → Stands desk t
  behind_frames desk s t rows base b = record {
    size = b.size;
    pages = b.pages;
    based = b.based;
    telling = b.telling;
    values = λ p f at.
        let R : List Rattle.frame_words.specs.Rows.Row → Type 0 = λ r. IsValueIn o t (Rattle.desk.specs.Steps.row_in r f).image (value o.size o.base desk.history p) in
        subst R (sym rows) (value_in o s t (row_at s f).image (value o.size o.base desk.history p) base (b.values p f at));
    written = b.written;
    unwritten = b.unwritten;
    clean = b.clean;
    valued = b.valued;
  }

  -- a desk is known by its parts
  pub behind_parts : (new : State D) (s : FramesSeen) (c : Config) (n : ℕ) (h : List Entry) (d : D) → new.config ≡ c → new.instance ≡ n → new.history ≡ h → new.disk ≡ d
      → Stands (desk_of c n h d) s → Stands new s
  behind_parts new s c n h d config instance history disk b =
      let C : Config → Type 0 = λ x. Stands (desk_of x new.instance new.history new.disk) s in
      let N : ℕ → Type 0 = λ x. Stands (desk_of c x new.history new.disk) s in
      let H : List Entry → Type 0 = λ x. Stands (desk_of c n x new.disk) s in
      let D : D → Type 0 = λ x. Stands (desk_of c n h x) s in
      subst C (sym config) (subst N (sym instance) (subst H (sym history) (subst D (sym disk) b)))

  -- an entry that neither loads, changes nor writes a page
  pub behind_quiet : (c : Config) (n : ℕ) (h : List Entry) (d : D) (s : FramesSeen) (e : Entry) → IsStill e.kind → Stands (desk_of c n h d) s → Stands (desk_of c n (e ∷ h) d) s
  behind_quiet c n h d s e still b = record {
    size = b.size;
    pages = b.pages;
    based = b.based;
    telling = b.telling;
    values = λ p f at.
        let V : Option Content → Type 0 = λ v. IsValueIn o s (row_at s f).image v in
        subst V (sym (still.values o.size p (value o.size o.base h p))) (b.values p f (sym (still.homes p (home h p)) ∙ at));
    written = λ p is.
        let P : Option Content → Type 0 = λ v. IfSome ((seen d).told p) (λ bytes. IfSome v (λ c. IsPage p bytes c)) in
        subst P (sym (still.saves p (value o.size o.base h p) (saved o.size o.base h p))) (b.written p (sym (still.writes p (is_written h p)) ∙ is));
    unwritten = λ p is. b.unwritten p (sym (still.writes p (is_written h p)) ∙ is);
    clean = λ p is was. b.clean p (ap (λ ds. is_some (dirt_of ds p)) (sym (still.dirts (dirty h))) ∙ is) was;
    valued = λ p is. ap is_some (still.values o.size p (value o.size o.base h p)) ∙ b.valued p (sym (still.writes p (is_written h p)) ∙ is);
  }

  left_home : (b : Bool) (before : Option ℕ) (g : ℕ) → cond b None before ≡ Some g → before ≡ Some g
  left_home true before g is = absurd (cc)
  left_home false before g is = is

  -- a page left its frame
  pub behind_evict : (c : Config) (n : ℕ) (h : List Entry) (d : D) (s : FramesSeen) (place caller number : ℕ) (p : PageId) (f : ℕ) (passed : List (ℕ × Word))
      → Stands (desk_of c n h d) s → Stands (desk_of c n (entry_at place caller number (kind.Evict p f passed) ∷ h) d) s
  behind_evict c n h d s place caller number p f passed b = record {
    size = b.size;
    pages = b.pages;
    based = b.based;
    telling = b.telling;
    values = λ q g at. b.values q g (left_home (same_page p q) (home h q) g at);
    written = b.written;
    unwritten = b.unwritten;
    clean = b.clean;
    valued = b.valued;
  }

  -- a page's image was written
  pub behind_wrote : (c : Config) (n : ℕ) (h : List Entry) (s : FramesSeen) (d e : D) (place caller number : ℕ) (p : PageId) (lsn upto : ℕ) (content : Content) (bytes : List ℕ)
      → value o.size o.base h p ≡ Some content → IsPage p bytes content → IsOtherwiseSame p (seen d) (seen e)
      → ((seen d).tells ≡ true → (seen e).told p ≡ Some bytes) → ((seen e).tells ≡ false → (seen e).told p ≡ None)
      → Stands (desk_of c n h d) s → Stands (desk_of c n (entry_at place caller number (kind.Write p lsn upto) ∷ h) e) s
  behind_wrote c n h s d e place caller number p lsn upto content bytes is_value page others ok silent b = record {
    size = b.size;
    pages = λ space. b.pages space ∙ ap (λ (x : Option ℕ). unwrap_or x 0) (sym (others.spaces_are space));
    based = b.based;
    telling = λ q is. others.telling ∙ b.telling q is;
    values = b.values;
    written = λ q is. written q (same_page p q) refl is;
    unwritten = λ q is. unwritten q (same_page p q) refl is;
    clean = λ q is was. clean q (same_page p q) refl is was;
    valued = λ q is. valued q (same_page p q) refl is;
  }
    where
      now_page : (t : Bool) → (seen d).tells ≡ t → IfSome ((seen e).told p) (λ x. IfSome (value o.size o.base h p) (λ y. IsPage p x y))
      now_page true is =
          let P : Option (List ℕ) → Type 0 = λ x. IfSome x (λ x. IfSome (value o.size o.base h p) (λ y. IsPage p x y)) in
          let Q : Option Content → Type 0 = λ v. IfSome v (λ y. IsPage p bytes y) in
          subst P (sym (ok is)) (subst Q (sym is_value) page)
      now_page false is =
          let P : Option (List ℕ) → Type 0 = λ x. IfSome x (λ x. IfSome (value o.size o.base h p) (λ y. IsPage p x y)) in
          let none : (seen e).told p ≡ None = silent (others.telling ∙ is) in
          subst P (sym none) tt

      written : (q : PageId) (t : Bool) → same_page p q ≡ t → cond t true (is_written h q) ≡ true
          → IfSome ((seen e).told q) (λ x. IfSome (cond t (value o.size o.base h q) (saved o.size o.base h q)) (λ y. IsPage q x y))
      written q true same is =
          let P : PageId → Type 0 = λ r. IfSome ((seen e).told r) (λ x. IfSome (value o.size o.base h r) (λ y. IsPage r x y)) in
          subst P (same_is p q same) (now_page (seen d).tells refl)
      written q false other is =
          let P : Option (List ℕ) → Type 0 = λ t. IfSome t (λ x. IfSome (saved o.size o.base h q) (λ y. IsPage q x y)) in
          subst P (sym (others.bytes q other)) (b.written q is)

      unwritten : (q : PageId) (t : Bool) → same_page p q ≡ t → cond t true (is_written h q) ≡ false → Fades (o.told q) ((seen e).told q)
      unwritten q true same is = absurd (no_way is)
      unwritten q false other is =
          let P : Option (List ℕ) → Type 0 = λ t. Fades (o.told q) t in
          subst P (sym (others.bytes q other)) (b.unwritten q is)

      clean : (q : PageId) (t : Bool) → same_page p q ≡ t → is_some (dirt_of (cleaned p (dirty h)) q) ≡ false → IsSome (o.told q) → IsSome ((seen e).told q)
      clean q true same is was =
          let P : PageId → Type 0 = λ r. IsSome ((seen e).told r) in
          subst P (same_is p q same) (ap is_some (ok (b.telling q was)))
      clean q false other is was = ap is_some (others.bytes q other) ∙ b.clean q (sym (clean_other p q (dirty h) other) ∙ is) was

      valued : (q : PageId) (t : Bool) → same_page p q ≡ t → cond t true (is_written h q) ≡ true → IsSome (value o.size o.base h q)
      valued q true same is = ap (λ r. is_some (value o.size o.base h r)) (sym (same_is p q same)) ∙ ap is_some is_value
      valued q false other is = b.valued q is

  -- a write failed: the page, which stays dirty, is told as before or not at all
  pub behind_unwritten : (c : Config) (n : ℕ) (h : List Entry) (s : FramesSeen) (d e : D) (p : PageId) → is_dirty h p ≡ true
      → IsOtherwiseSame p (seen d) (seen e) → Fades ((seen d).told p) ((seen e).told p)
      → Stands (desk_of c n h d) s → Stands (desk_of c n h e) s
  behind_unwritten c n h s d e p dirty_is others fades b = record {
    size = b.size;
    pages = λ space. b.pages space ∙ ap (λ (x : Option ℕ). unwrap_or x 0) (sym (others.spaces_are space));
    based = b.based;
    telling = λ q is. others.telling ∙ b.telling q is;
    values = b.values;
    written = λ q is. fades_keeps ((seen d).told q) ((seen e).told q) (λ x. IfSome (saved o.size o.base h q) (λ y. IsPage q x y)) (all q (same_page p q) refl) (b.written q is);
    unwritten = λ q is. fades_keeps ((seen d).told q) ((seen e).told q) (λ x. o.told q ≡ Some x) (all q (same_page p q) refl) (b.unwritten q is);
    clean = λ q is was. clean q (same_page p q) refl is was;
    valued = b.valued;
  }
    where
      itself : (t : Option (List ℕ)) → Fades t t
      itself None = tt
      itself (Some t) = refl

      all : (q : PageId) (t : Bool) → same_page p q ≡ t → Fades ((seen d).told q) ((seen e).told q)
      all q true same =
          let P : PageId → Type 0 = λ r. Fades ((seen d).told r) ((seen e).told r) in
          subst P (same_is p q same) fades
      all q false other =
          let P : Option (List ℕ) → Type 0 = λ t. Fades ((seen d).told q) t in
          subst P (sym (others.bytes q other)) (itself ((seen d).told q))

      clean : (q : PageId) (t : Bool) → same_page p q ≡ t → is_dirty h q ≡ false → IsSome (o.told q) → IsSome ((seen e).told q)
      clean q true same is was = absurd (no_way (sym dirty_is ∙ ap (is_dirty h) (same_is p q same) ∙ is))
      clean q false other is was = ap is_some (others.bytes q other) ∙ b.clean q is was
