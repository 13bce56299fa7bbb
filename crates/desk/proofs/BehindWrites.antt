-- What stands on the disk and in the frames behind a history, after a put, a write and an answer.
use Rattle.std.proofs.Common.{◌≡◌, ◌≢◌, ℕ, Bool, true, false, cond, List, ◌∷◌, ◌<◌, ◌||◌, Option, Some, None, length, refl, ap, ◌∙◌, sym, subst, IfSome, IsSome}
use Rattle.std.proofs.lemmas.List.{get_or-set_same, get_or-set_other}
use Rattle.std.specs.Option.{is_some, option_map, unwrap_or}
use Rattle.page_ids.specs.Content.{Content, patched}
use Rattle.page_ids.specs.Layout.{IsPage}
use Rattle.page_ids.specs.Same.{same_page}
use Rattle.page_ids.specs.declared.ids.PageId.{PageId}
use Rattle.page_ids.specs.declared.lists.Words.{Words}
use Rattle.page_disk.specs.Disks.{DiskSeen, Fades, IsSameDisk, IsOtherwiseSame}
use Rattle.trail.specs.declared.event.Call.{Call}
use Rattle.trail.specs.declared.event.Cause.{Cause}
use Rattle.trail.specs.declared.event.Dirty.{Dirty}
use Rattle.trail.specs.declared.event.Entry.{Entry}
use Rattle.trail.specs.declared.event.Kind.{Kind}
use Rattle.trail.specs.declared.event.Kind.TheVariants as kind
use Rattle.trail.specs.History.{value, value_after, home, home_after, changes}
use Rattle.trail.specs.Dirt.{dirtied, cleaned, dirty, dirty_after, dirt_of, is_dirty}
use Rattle.trail.specs.Saved.{is_written, written_after, saved, saved_after}
use Rattle.frame_words.specs.Appends.{appended, fixed_frame, owed_after}
use Rattle.frame_words.specs.Rows.{Row}
use Rattle.frame_words.specs.Seen.{FramesSeen, row_at, with_row}
use Rattle.desk.specs.Base.{Opened}
use Rattle.desk.specs.Behind.{IsBehind, IsValueIn}
use Rattle.desk.specs.State.{State}
use Rattle.desk.specs.Steps.{next_entry}
use Rattle.desk.specs.declared.calls.Caller.{Caller}
use Rattle.instance_lists.proofs.Dirt.{no_way, same_is, same_self, dirtied_is, dirtied_other, cleaned_of}

-- a page that was changed is dirty, and every other one is as it was
soiled_here : (q p : PageId) (start end : ℕ) (ds : List Dirty) → same_page q p ≡ true → is_some (dirt_of (dirtied q start end ds) p) ≡ true
soiled_here q p start end ds same = dirtied_is ds q p start end ∙ ap (λ (b : Bool). b || is_some (dirt_of ds p)) same

soiled_other : (q p : PageId) (start end : ℕ) (ds : List Dirty) → same_page q p ≡ false → is_some (dirt_of (dirtied q start end ds) p) ≡ is_some (dirt_of ds p)
soiled_other q p start end ds other = ap (is_some {T = Dirty}) (dirtied_other ds q p start end other)

-- a write leaves every other page
left_other : (q p : PageId) (ds : List Dirty) → same_page q p ≡ false → is_some (dirt_of (cleaned q ds) p) ≡ is_some (dirt_of ds p)
left_other q p ds other = ap (is_some {T = Dirty}) (cleaned_of ds q p ∙ ap (λ (b : Bool). cond b None (dirt_of ds p)) other)

-- a page that is told as before, or no longer, keeps what is known where it is told
faded : (old new : Option (List ℕ)) (P : List ℕ → Type 0) → Fades old new → IfSome old P → IfSome new P
faded old None P fades is = tt
faded old (Some bytes) P fades is = (let Q : Option (List ℕ) → Type 0 = λ o. IfSome o P in subst Q fades is)

-- an entry that neither loads, changes, writes nor moves a page
pub record IsAnswer (k : Kind) : Type 0 where
  pub homes : (p : PageId) (before : Option ℕ) → home_after k p before ≡ before
  pub clocks : (h : List Entry) (f : ℕ) → changes h k f ≡ false
  pub values : (size : ℕ) (p : PageId) (before : Option Content) → value_after size k p before ≡ before
  pub writes : (p : PageId) (before : Bool) → written_after k p before ≡ before
  pub saves : (p : PageId) (now before : Option Content) → saved_after k p now before ≡ before
  pub dirts : (before : List Dirty) → dirty_after k before ≡ before
  pub fixed : fixed_frame k ≡ None
  pub owes : owed_after k None ≡ None

pub refused_answer : (c : Call) (why : Cause) → IsAnswer (kind.Refused c why)
refused_answer c why = record { homes = λ q b. refl; clocks = λ h f. refl; values = λ size q b. refl; writes = λ q b. refl; saves = λ q v b. refl; dirts = λ b. refl; fixed = refl; owes = refl }

pub clean_answer : (n : ℕ) (skipped : Words) → IsAnswer (kind.Clean n skipped)
clean_answer n skipped = record { homes = λ q b. refl; clocks = λ h f. refl; values = λ size q b. refl; writes = λ q b. refl; saves = λ q v b. refl; dirts = λ b. refl; fixed = refl; owes = refl }

-- the row of a settled frame, which nobody else reaches
abbrev pub settled : PageId → ℕ → Content → ℕ → Row
settled p clock c n = record { resident = true; clock = clock; page = p; latched = false; image = Some (Some c); held = Some n }

pub row_here : (s : FramesSeen) (f : ℕ) (r : Row) → f < length s.rows → row_at (with_row s f r) f ≡ r
row_here s f r inside = get_or-set_same s.rows f r _ inside

pub row_there : (s : FramesSeen) (f g : ℕ) (r : Row) → g ≢ f → row_at (with_row s f r) g ≡ row_at s g
row_there s f g r ne = get_or-set_other s.rows f g r _ ne

-- a desk of these parts
abbrev pub desk_of : {D : Type 0} → State D → List Entry → D → State D
desk_of desk h d = record { config = desk.config; instance = desk.instance; history = h; disk = d }

module _ {D : Type 0} (seen : D → DiskSeen) (o : Opened) where
  abbrev Stands : State D → FramesSeen → Type 0
  Stands desk s = IsBehind seen o desk s

  -- only rows and first values are spoken of
  pub behind_rows : (desk : State D) (s t : FramesSeen) → t.rows ≡ s.rows → t.base ≡ s.base → Stands desk s → Stands desk t
  behind_rows desk s t rows base b = record {
    size = b.size;
    pages = b.pages;
    based = b.based;
    telling = b.telling;
    values = λ p f at.
        let R : FramesSeen → Type 0 = λ x. IsValueIn o x (row_at x f).image (value o.size o.base desk.history p) in
        let made = λ (rs : List Row) (bs : Option (PageId → Option Content)). record t { rows = rs; base = bs } in
        let same : t ≡ record t { rows = s.rows; base = s.base } = ap (λ rs. made rs t.base) rows ∙ ap (made s.rows) base in
        subst R (sym same) (b.values p f at);
    written = b.written;
    unwritten = b.unwritten;
    clean = b.clean;
    valued = b.valued;
  }

  -- the image of a settled home is the page's value
  pub settled_value : (desk : State D) (s : FramesSeen) (p : PageId) (f clock n : ℕ) (c : Content) → home desk.history p ≡ Some f → row_at s f ≡ settled p clock c n
      → Stands desk s → value o.size o.base desk.history p ≡ Some c
  settled_value desk s p f clock n c here row b =
      let R : Row → Type 0 = λ r. IsValueIn o s r.image (value o.size o.base desk.history p) in
      subst R row (b.values p f here)

  -- the disk is as before
  pub behind_disk : (desk : State D) (s : FramesSeen) (e : D) → IsSameDisk (seen desk.disk) (seen e)
      → Stands desk s → Stands (desk_of desk desk.history e) s
  behind_disk desk s e same b = record {
    size = b.size;
    pages = λ space. b.pages space ∙ ap (λ (x : Option ℕ). unwrap_or x 0) (sym (same.spaces_are space));
    based = b.based;
    telling = λ p is. same.telling ∙ b.telling p is;
    values = b.values;
    written = λ p is.
        let P : Option (List ℕ) → Type 0 = λ t. IfSome t (λ bytes. IfSome (saved o.size o.base desk.history p) (λ c. IsPage p bytes c)) in
        subst P (sym (same.bytes p)) (b.written p is);
    unwritten = λ p is.
        let P : Option (List ℕ) → Type 0 = λ t. Fades (o.told p) t in
        subst P (sym (same.bytes p)) (b.unwritten p is);
    clean = λ p is was. ap is_some (same.bytes p) ∙ b.clean p is was;
    valued = b.valued;
  }

  -- an answer was appended
  pub behind_answer : (desk : State D) (s : FramesSeen) (e : Entry) → IsAnswer e.kind → Stands desk s → Stands (desk_of desk (e ∷ desk.history) desk.disk) s
  behind_answer desk s e k b =
      let h = desk.history in
      let d = desk.disk in record {
        size = b.size;
        pages = b.pages;
        based = b.based;
        telling = b.telling;
        values = λ p f at.
            let V : Option Content → Type 0 = λ v. IsValueIn o s (row_at s f).image v in
            subst V (sym (k.values o.size p (value o.size o.base h p))) (b.values p f (sym (k.homes p (home h p)) ∙ at));
        written = λ p is.
            let P : Option Content → Type 0 = λ x. IfSome ((seen d).told p) (λ bytes. IfSome x (λ c. IsPage p bytes c)) in
            subst P (sym (k.saves p (value o.size o.base h p) (saved o.size o.base h p))) (b.written p (sym (k.writes p (is_written h p)) ∙ is));
        unwritten = λ p is. b.unwritten p (sym (k.writes p (is_written h p)) ∙ is);
        clean = λ p is was. b.clean p (ap (λ ds. is_some (dirt_of ds p)) (sym (k.dirts (dirty h))) ∙ is) was;
        valued = λ p is. ap is_some (k.values o.size p (value o.size o.base h p)) ∙ b.valued p (sym (k.writes p (is_written h p)) ∙ is);
      }

  -- bytes of a page in a settled home were changed
  pub behind_put : (desk : State D) (s : FramesSeen) (by : Caller) (p : PageId) (f at : ℕ) (bytes : List ℕ) (start end clock place n : ℕ) (c : Content)
      → f < length s.rows → home desk.history p ≡ Some f → row_at s f ≡ settled p clock c n → ((q : PageId) → home desk.history q ≡ Some f → q ≡ p)
      → Stands desk s
      → Stands (desk_of desk (next_entry desk by (kind.Put p at bytes start end) ∷ desk.history) desk.disk)
      (with_row (appended s (next_entry desk by (kind.Put p at bytes start end))) f (settled p place (patched c at bytes end) n))
  behind_put desk s by p f at bytes start end clock place n c inside here row only b = record {
    size = b.size;
    pages = b.pages;
    based = b.based;
    telling = b.telling;
    values = λ q g there. values q g there (same_page p q) refl;
    written = b.written;
    unwritten = b.unwritten;
    clean = λ q is was. clean q is was (same_page p q) refl;
    valued = λ q is. valued q (b.valued q is) (same_page p q);
  }
    where
      h : List Entry
      h = desk.history

      e : Entry
      e = next_entry desk by (kind.Put p at bytes start end)

      new : FramesSeen
      new = with_row (appended s e) f (settled p place (patched c at bytes end) n)

      values : (q : PageId) (g : ℕ) → home h q ≡ Some g → (t : Bool) → same_page p q ≡ t
          → IsValueIn o new (row_at new g).image (cond t (option_map (λ x. patched x at bytes end) (value o.size o.base h q)) (value o.size o.base h q))
      values q g there true same =
          let page : p ≡ q = same_is p q same in
          let was : value o.size o.base h p ≡ Some c = settled_value desk s p f clock n c here row b in
          let is : value o.size o.base h q ≡ Some c = ap (value o.size o.base h) (sym page) ∙ was in
          let homes : Some g ≡ Some f = sym there ∙ ap (home h) (sym page) ∙ here in
          let frames : g ≡ f = cc in
          let at_f : row_at new f ≡ settled p place (patched c at bytes end) n = row_here (appended s e) f _ inside in
          let at_g : row_at new g ≡ settled p place (patched c at bytes end) n = ap (row_at new) frames ∙ at_f in
          let R : Row → Type 0 = λ r. IsValueIn o new r.image (option_map (λ x. patched x at bytes end) (value o.size o.base h q)) in
          subst R (sym at_g) (ap (option_map (λ x. patched x at bytes end)) is)
      values q g there false other =
          let away : g ≢ f = λ same. no_way (sym (same_self p) ∙ ap (same_page p) (sym (only q (there ∙ ap (λ m. Some m) same))) ∙ other) in
          let R : Row → Type 0 = λ r. IsValueIn o new r.image (value o.size o.base h q) in
          subst R (sym (row_there (appended s e) f g _ away)) (b.values q g there)

      clean : (q : PageId) → is_some (dirt_of (dirtied p start end (dirty h)) q) ≡ false → IsSome (o.told q) → (t : Bool) → same_page p q ≡ t → IsSome ((seen desk.disk).told q)
      clean q is was true same = absurd (no_way (sym (soiled_here p q start end (dirty h) same) ∙ is))
      clean q is was false other = b.clean q (sym (soiled_other p q start end (dirty h) other) ∙ is) was

      mapped : (v : Option Content) → IsSome v → IsSome (option_map (λ x. patched x at bytes end) v)
      mapped None is = is
      mapped (Some x) is = refl

      valued : (q : PageId) → IsSome (value o.size o.base h q) → (t : Bool)
          → IsSome (cond t (option_map (λ x. patched x at bytes end) (value o.size o.base h q)) (value o.size o.base h q))
      valued q is true = mapped (value o.size o.base h q) is
      valued q is false = is

  -- the image of a settled home was written
  pub behind_write : (desk : State D) (s : FramesSeen) (by : Caller) (d : D) (p : PageId) (f lsn upto clock n : ℕ) (c : Content) (bytes : List ℕ)
      → home desk.history p ≡ Some f → row_at s f ≡ settled p clock c n → IsPage p bytes c → IsOtherwiseSame p (seen desk.disk) (seen d)
      → ((seen desk.disk).tells ≡ true → (seen d).told p ≡ Some bytes) → ((seen d).tells ≡ false → (seen d).told p ≡ None)
      → Stands desk s
      → Stands (desk_of desk (next_entry desk by (kind.Write p lsn upto) ∷ desk.history) d) (appended s (next_entry desk by (kind.Write p lsn upto)))
  behind_write desk s by d p f lsn upto clock n c bytes here row page others ok silent b = record {
    size = b.size;
    pages = λ space. b.pages space ∙ ap (λ (x : Option ℕ). unwrap_or x 0) (sym (others.spaces_are space));
    based = b.based;
    telling = λ q is. others.telling ∙ b.telling q is;
    values = b.values;
    written = λ q is. written q (same_page p q) refl is;
    unwritten = λ q is. unwritten q (same_page p q) refl is;
    clean = λ q is was. clean q (same_page p q) refl is was;
    valued = λ q is. valued q (same_page p q) refl is;
  }
    where
      h : List Entry
      h = desk.history

      is_value : value o.size o.base h p ≡ Some c
      is_value = settled_value desk s p f clock n c here row b

      now_page : (t : Bool) → (seen desk.disk).tells ≡ t → IfSome ((seen d).told p) (λ x. IfSome (value o.size o.base h p) (λ y. IsPage p x y))
      now_page true is =
          let P : Option (List ℕ) → Type 0 = λ x. IfSome x (λ x. IfSome (value o.size o.base h p) (λ y. IsPage p x y)) in
          let Q : Option Content → Type 0 = λ v. IfSome v (λ y. IsPage p bytes y) in
          subst P (sym (ok is)) (subst Q (sym is_value) page)
      now_page false is =
          let P : Option (List ℕ) → Type 0 = λ x. IfSome x (λ x. IfSome (value o.size o.base h p) (λ y. IsPage p x y)) in
          let none : (seen d).told p ≡ None = silent (others.telling ∙ is) in
          subst P (sym none) tt

      written : (q : PageId) (t : Bool) → same_page p q ≡ t → cond t true (is_written h q) ≡ true
          → IfSome ((seen d).told q) (λ x. IfSome (cond t (value o.size o.base h q) (saved o.size o.base h q)) (λ y. IsPage q x y))
      written q true same is =
          let P : PageId → Type 0 = λ r. IfSome ((seen d).told r) (λ x. IfSome (value o.size o.base h r) (λ y. IsPage r x y)) in
          subst P (same_is p q same) (now_page (seen desk.disk).tells refl)
      written q false other is =
          let P : Option (List ℕ) → Type 0 = λ t. IfSome t (λ x. IfSome (saved o.size o.base h q) (λ y. IsPage q x y)) in
          subst P (sym (others.bytes q other)) (b.written q is)

      unwritten : (q : PageId) (t : Bool) → same_page p q ≡ t → cond t true (is_written h q) ≡ false → Fades (o.told q) ((seen d).told q)
      unwritten q true same is = absurd (no_way is)
      unwritten q false other is =
          let P : Option (List ℕ) → Type 0 = λ t. Fades (o.told q) t in
          subst P (sym (others.bytes q other)) (b.unwritten q is)

      clean : (q : PageId) (t : Bool) → same_page p q ≡ t → is_some (dirt_of (cleaned p (dirty h)) q) ≡ false → IsSome (o.told q) → IsSome ((seen d).told q)
      clean q true same is was =
          let P : PageId → Type 0 = λ r. IsSome ((seen d).told r) in
          subst P (same_is p q same) (ap is_some (ok (b.telling q was)))
      clean q false other is was = ap is_some (others.bytes q other) ∙ b.clean q (sym (left_other p q (dirty h) other) ∙ is) was

      valued : (q : PageId) (t : Bool) → same_page p q ≡ t → cond t true (is_written h q) ≡ true → IsSome (value o.size o.base h q)
      valued q true same is = ap (λ r. is_some (value o.size o.base h r)) (sym (same_is p q same)) ∙ ap is_some is_value
      valued q false other is = b.valued q is

  -- a write failed: the page, which stays dirty, is told as before or not at all
  pub behind_failed : (desk : State D) (s : FramesSeen) (d : D) (p : PageId) → is_dirty desk.history p ≡ true
      → IsOtherwiseSame p (seen desk.disk) (seen d) → Fades ((seen desk.disk).told p) ((seen d).told p)
      → Stands desk s → Stands (desk_of desk desk.history d) s
  behind_failed desk s d p dirty_is others fades b = record {
    size = b.size;
    pages = λ space. b.pages space ∙ ap (λ (x : Option ℕ). unwrap_or x 0) (sym (others.spaces_are space));
    based = b.based;
    telling = λ q is. others.telling ∙ b.telling q is;
    values = b.values;
    written = λ q is. faded ((seen desk.disk).told q) ((seen d).told q) (λ x. IfSome (saved o.size o.base h q) (λ y. IsPage q x y)) (all q (same_page p q) refl) (b.written q is);
    unwritten = λ q is. faded ((seen desk.disk).told q) ((seen d).told q) (λ x. o.told q ≡ Some x) (all q (same_page p q) refl) (b.unwritten q is);
    clean = λ q is was. clean q (same_page p q) refl is was;
    valued = b.valued;
  }
    where
      h : List Entry
      h = desk.history

      itself : (t : Option (List ℕ)) → Fades t t
      itself None = tt
      itself (Some t) = refl

      all : (q : PageId) (t : Bool) → same_page p q ≡ t → Fades ((seen desk.disk).told q) ((seen d).told q)
      all q true same = (let P : PageId → Type 0 = λ r. Fades ((seen desk.disk).told r) ((seen d).told r) in subst P (same_is p q same) fades)
      all q false other = (let P : Option (List ℕ) → Type 0 = λ t. Fades ((seen desk.disk).told q) t in subst P (sym (others.bytes q other)) (itself ((seen desk.disk).told q)))

      clean : (q : PageId) (t : Bool) → same_page p q ≡ t → is_dirty h q ≡ false → IsSome (o.told q) → IsSome ((seen d).told q)
      clean q true same is was = absurd (no_way (sym dirty_is ∙ ap (is_dirty h) (same_is p q same) ∙ is))
      clean q false other is was = ap is_some (others.bytes q other) ∙ b.clean q is was
