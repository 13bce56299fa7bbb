-- What stands on the disk and in the frames behind a history, step by step.
use Rattle.std.proofs.Common.{◌≡◌, ℕ, Bool, true, false, cond, List, [], ◌∷◌, ◌<◌, Option, Some, None, refl, ap, ◌∙◌, sym, subst, IfSome, IsSome, MatchOption, Result, Err}
use Rattle.std.specs.Option.{is_some, unwrap_or}
use Rattle.page_ids.specs.Content.{Content}
use Rattle.page_ids.specs.Layout.{IsPage}
use Rattle.page_ids.specs.Refusal.{IsBadPage}
use Rattle.page_ids.specs.Same.{same_page}
use Rattle.page_ids.specs.Size.{page_bytes}
use Rattle.page_ids.specs.declared.config.Config.{Config}
use Rattle.page_ids.specs.declared.ids.PageId.{PageId}
use Rattle.page_ids.specs.declared.layout.BadPage.{BadPage}
use Rattle.page_disk.specs.Disks.{DiskSeen, pages_in, Fades, IsSameDisk}
use Rattle.trail.specs.declared.event.Entry.{Entry}
use Rattle.trail.specs.declared.event.Kind.{Kind}
use Rattle.trail.specs.declared.event.Kind.TheVariants as kind
use Rattle.trail.specs.History.{value, home}
use Rattle.trail.specs.Dirt.{dirty, dirt_of, is_dirty}
use Rattle.trail.specs.Saved.{is_written, saved}
use Rattle.frame_words.specs.Seen.{FramesSeen, row_at}
use Rattle.desk.specs.Base.{Opened, IsGiven}
use Rattle.desk.specs.Behind.{IsBehind, IsNewlyOpened, IsValueIn}
use Rattle.instance_lists.specs.Ledger.{IsVacant}
use Rattle.desk.specs.State.{State}
use Rattle.desk.specs.Steps.{IsAppended, next_entry}
use Rattle.desk.specs.declared.calls.FixErr.{FixErr}
use Rattle.desk.specs.declared.calls.Caller.{Caller}
use Rattle.trail.proofs.DirtyPages.{clean_saved, first_saved}
use Rattle.instance_lists.proofs.Dirt.{no_way, same_is}
use Rattle.desk.proofs.Keeping.{entry_of}
use Rattle.desk.proofs.BehindParts.{IsStill, given_content, given_none, IsClean, stands}

-- a desk of these parts
abbrev pub made : {D : Type 0} → Config → ℕ → List Entry → D → State D
made c n h d = record { config = c; instance = n; history = h; disk = d }

-- a desk is known by its parts
pub made_is : {D : Type 0} (desk : State D) (c : Config) (n : ℕ) (h : List Entry) (d : D) → desk.config ≡ c → desk.instance ≡ n → desk.history ≡ h → desk.disk ≡ d → desk ≡ made c n h d
made_is desk c n h d config instance history disk = λ i. record { config = config i; instance = instance i; history = history i; disk = disk i }

-- one entry more, with the same disk
pub appended_is : {D : Type 0} (old new : State D) (by : Caller) (k : Kind) → IsAppended old new by k → new.disk ≡ old.disk
    → new ≡ made old.config old.instance (next_entry old by k ∷ old.history) old.disk
appended_is old new by k a disk = made_is new old.config old.instance (next_entry old by k ∷ old.history) old.disk a.config a.instance a.history disk

pub err_is : {A : Type 0} (x y : FixErr) → ◌≡◌ {A = Result A FixErr} (Err x) (Err y) → x ≡ y
err_is x y e = cc

-- what an image is stays, where the image, the value and what is told of first values stay
pub value_in : (o : Opened) (s t : FramesSeen) (i j : Option (Option Content)) (v w : Option Content) → t.base ≡ s.base → j ≡ i → w ≡ v → IsValueIn o s i v → IsValueIn o t j w
value_in o s t i j v w base image is given = subst (λ (x : Option (Option Content)). IsValueIn o t x w) (sym image) (subst (λ (x : Option Content). IsValueIn o t i x) (sym is) (go i given))
  where
    go : (x : Option (Option Content)) → IsValueIn o s x v → IsValueIn o t x v
    go None g = g
    go (Some None) g = (base ∙ g.0, g.1)
    go (Some (Some c)) g = g

module _ {D : Type 0} (seen : D → DiskSeen) (o : Opened) where
  abbrev Stands : State D → FramesSeen → Type 0
  Stands desk s = IsBehind seen o desk s

  -- what is known of a clean page inside its space
  pub clean_page : (desk : State D) (s : FramesSeen) (p : PageId) → Stands desk s → p.page < pages_in (seen desk.disk).spaces p.space → is_dirty desk.history p ≡ false
      → IsClean p (o.told p) (o.base p) ((seen desk.disk).told p) (is_written desk.history p) (value o.size o.base desk.history p) (saved o.size o.base desk.history p)
  clean_page desk s p b inside clean =
      let N : ℕ → Type 0 = λ n. p.page < n in
      let given : IsGiven (o.told p) p (o.base p) = b.based p (subst N (sym (b.pages p.space)) inside) in record {
        given = given;
        told_is = b.clean p clean (ap is_some given.tells);
        written = b.written p;
        unwritten = b.unwritten p;
        valued = b.valued p;
        same = clean_saved o.size o.base desk.history p clean;
        first_is = first_saved o.size o.base desk.history p;
      }

  -- a clean page's value is what its bytes on the disk are a page of
  pub clean_given : (desk : State D) (s : FramesSeen) (p : PageId) → Stands desk s → p.page < pages_in (seen desk.disk).spaces p.space → is_dirty desk.history p ≡ false
      → IsGiven ((seen desk.disk).told p) p (value o.size o.base desk.history p)
  clean_given desk s p b inside clean = stands p _ _ _ _ _ _ (clean_page desk s p b inside clean)

  -- what was read of it is its value
  pub read_value : (desk : State D) (s : FramesSeen) (p : PageId) (c : Content) → Stands desk s → p.page < pages_in (seen desk.disk).spaces p.space → is_dirty desk.history p ≡ false
      → IfSome ((seen desk.disk).told p) (λ bytes. IsPage p bytes c) → value o.size o.base desk.history p ≡ Some c
  read_value desk s p c b inside clean read = given_content _ p _ c (clean_given desk s p b inside clean) read

  -- and where the bytes that were read are no page, it has none
  pub read_none : (desk : State D) (s : FramesSeen) (p : PageId) (bytes : List ℕ) (bad : BadPage) → Stands desk s → p.page < pages_in (seen desk.disk).spaces p.space → is_dirty desk.history p ≡ false
      → IfSome ((seen desk.disk).told p) (λ here. bytes ≡ here) → IsBadPage p bytes bad → value o.size o.base desk.history p ≡ None
  read_none desk s p bytes bad b inside clean known is = given_none _ p _ bytes bad (clean_given desk s p b inside clean) known is

  -- the disk is as before
  pub behind_same : (c : Config) (n : ℕ) (h : List Entry) (d e : D) (s : FramesSeen) → IsSameDisk (seen d) (seen e)
      → Stands (made c n h d) s → Stands (made c n h e) s
  behind_same c n h d e s same b = record {
    size = b.size;
    pages = λ space. b.pages space ∙ ap (λ (x : Option ℕ). unwrap_or x 0) (sym (same.spaces_are space));
    based = b.based;
    telling = λ p is. same.telling ∙ b.telling p is;
    values = b.values;
    written = λ p is.
        let P : Option (List ℕ) → Type 0 = λ t. IfSome t (λ bytes. IfSome (saved o.size o.base h p) (λ c. IsPage p bytes c)) in
        subst P (sym (same.bytes p)) (b.written p is);
    unwritten = λ p is.
        let P : Option (List ℕ) → Type 0 = λ t. Fades (o.told p) t in
        subst P (sym (same.bytes p)) (b.unwritten p is);
    clean = λ p is was. ap is_some (same.bytes p) ∙ b.clean p is was;
    valued = b.valued;
  }

  -- an entry that neither loads, changes nor writes a page
  pub behind_still : (c : Config) (n : ℕ) (h : List Entry) (d : D) (e : Entry) (s : FramesSeen) → IsStill e.kind
      → Stands (made c n h d) s → Stands (made c n (e ∷ h) d) s
  behind_still c n h d e s still b = record {
    size = b.size;
    pages = b.pages;
    based = b.based;
    telling = b.telling;
    values = λ p f at. subst (λ (v : Option Content). IsValueIn o s (row_at s f).image v) (sym (still.values o.size p (value o.size o.base h p)))
        (b.values p f (sym (still.homes p (home h p)) ∙ at));
    written = λ p is.
        let P : Option Content → Type 0 = λ s. IfSome ((seen d).told p) (λ bytes. IfSome s (λ c. IsPage p bytes c)) in
        subst P (sym (still.saves p (value o.size o.base h p) (saved o.size o.base h p))) (b.written p (sym (still.writes p (is_written h p)) ∙ is));
    unwritten = λ p is. b.unwritten p (sym (still.writes p (is_written h p)) ∙ is);
    clean = λ p is was. b.clean p (ap (λ ds. is_some (dirt_of ds p)) (sym (still.dirts (dirty h))) ∙ is) was;
    valued = λ p is. ap is_some (still.values o.size p (value o.size o.base h p)) ∙ b.valued p (sym (still.writes p (is_written h p)) ∙ is);
  }

  -- images changed that are no page's
  pub behind_seen : (desk : State D) (s t : FramesSeen) → t.base ≡ s.base
      → ((p : PageId) (f : ℕ) → home desk.history p ≡ Some f → (row_at t f).image ≡ (row_at s f).image) → Stands desk s → Stands desk t
  behind_seen desk s t base images b = record {
    size = b.size;
    pages = b.pages;
    based = b.based;
    telling = b.telling;
    values = λ p f at. value_in o s t _ _ _ _ base (images p f at) refl (b.values p f at);
    written = b.written;
    unwritten = b.unwritten;
    clean = b.clean;
    valued = b.valued;
  }

  -- a page was read into a frame that was no home
  pub behind_load : (c : Config) (n : ℕ) (h : List Entry) (d : D) (s t : FramesSeen) (place caller number : ℕ) (p : PageId) (f : ℕ) (content : Content)
      → t.base ≡ s.base → ((g : ℕ) → (g ≡ f → ⊥) → (row_at t g).image ≡ (row_at s g).image) → IsValueIn o t (row_at t f).image (Some content)
      → IsVacant h f → value o.size o.base h p ≡ Some content
      → Stands (made c n h d) s → Stands (made c n (entry_of place caller number (kind.Load p f) ∷ h) d) t
  behind_load c n h d s t place caller number p f content base images here fresh is b = record {
    size = b.size;
    pages = b.pages;
    based = b.based;
    telling = b.telling;
    values = λ q g at. go q g (same_page p q) refl at;
    written = b.written;
    unwritten = b.unwritten;
    clean = b.clean;
    valued = b.valued;
  }
    where
      go : (q : PageId) (g : ℕ) (x : Bool) → same_page p q ≡ x → cond x (Some f) (home h q) ≡ Some g → IsValueIn o t (row_at t g).image (value o.size o.base h q)
      go q g true same at =
          let there : f ≡ g = cc in
          subst (λ (k : ℕ). IsValueIn o t (row_at t k).image (value o.size o.base h q)) there
          (subst (λ (v : Option Content). IsValueIn o t (row_at t f).image v) (sym is ∙ ap (value o.size o.base h) (same_is p q same)) here)
      go q g false other at = value_in o s t _ _ _ _ base (images g (λ e. fresh q (at ∙ ap (λ (k : ℕ). Some k) e))) refl (b.values q g at)

  -- nothing happened yet
  pub behind_open : (c : Config) (n : ℕ) (d : D) (s : FramesSeen) → ((p : PageId) → (seen d).tells ≡ false → (seen d).told p ≡ None) → (seen d).size ≡ page_bytes c.page
      → IsNewlyOpened o (seen d) → Stands (made c n [] d) s
  behind_open c n d s silent size_is opened = record {
    size = sym size_is ∙ opened.size_is;
    pages = opened.pages_are;
    based = opened.based;
    telling = λ p is. telling p is (seen d).tells refl;
    values = λ p f at. absurd (none_home f at);
    written = λ p is. absurd (no_way (sym is));
    unwritten = λ p is. as_opened (o.told p) ((seen d).told p) (opened.told_are p);
    clean = λ p is was. ap is_some (opened.told_are p) ∙ was;
    valued = λ p is. absurd (no_way (sym is));
  }
    where
      none_home : (f : ℕ) → None ≡ Some f → ⊥
      none_home f e = cc

      telling : (p : PageId) → IsSome (o.told p) → (t : Bool) → (seen d).tells ≡ t → (seen d).tells ≡ true
      telling p is true e = e
      telling p is false e = absurd (no_way (sym (ap is_some (opened.told_are p) ∙ is) ∙ ap is_some (silent p e)))

      as_opened : (old new : Option (List ℕ)) → new ≡ old → Fades old new
      as_opened old None e = tt
      as_opened old (Some t) e = sym e

  -- where nothing is dirty, the disk has the values: each told page inside its space is one for its value, or is told as at the opening where it has none
  pub at_rest : (desk : State D) (s : FramesSeen) → Stands desk s → dirty desk.history ≡ [] → (p : PageId) → p.page < o.pages p.space
      → IfSome ((seen desk.disk).told p) (λ bytes. MatchOption (value o.size o.base desk.history p) (o.told p ≡ Some bytes) (λ c. IsPage p bytes c))
  at_rest desk s b none p inside = go ((seen desk.disk).told p) refl (value o.size o.base desk.history p) refl
    where
      clean : is_dirty desk.history p ≡ false
      clean = ap (λ ds. is_some (dirt_of ds p)) none

      within : p.page < pages_in (seen desk.disk).spaces p.space
      within = (let N : ℕ → Type 0 = λ n. p.page < n in subst N (b.pages p.space) inside)

      stood : IsGiven ((seen desk.disk).told p) p (value o.size o.base desk.history p)
      stood = clean_given desk s p b within clean

      never : (w : Bool) → is_written desk.history p ≡ w → value o.size o.base desk.history p ≡ None → is_written desk.history p ≡ false
      never false is none_is = is
      never true is none_is = absurd (no_way (sym (ap is_some (sym none_is) ∙ b.valued p is)))

      go : (t : Option (List ℕ)) → (seen desk.disk).told p ≡ t → (v : Option Content) → value o.size o.base desk.history p ≡ v
          → IfSome t (λ bytes. MatchOption v (o.told p ≡ Some bytes) (λ c. IsPage p bytes c))
      go None is v has = tt
      go (Some bytes) is None has =
          let F : Option (List ℕ) → Type 0 = λ t. Fades (o.told p) t in
          subst F is (b.unwritten p (never (is_written desk.history p) refl has))
      go (Some bytes) is (Some c) has =
          let same : Some stood.bytes ≡ Some bytes = sym stood.tells ∙ is in
          let bytes_are : stood.bytes ≡ bytes = cc in
          let V : Option Content → Type 0 = λ v. MatchOption v ((d : Content) → IsPage p stood.bytes d → ⊥) (λ d. IsPage p stood.bytes d) in
          let page : IsPage p stood.bytes c = subst V has stood.content in
          let B : List ℕ → Type 0 = λ x. IsPage p x c in
          subst B bytes_are page
