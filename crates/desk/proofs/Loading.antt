-- What stands on the disk and in the frames as a page is read in, a fix is granted, or a call is refused.
use Rattle.std.specs.Prelude.{not, ◌&&◌}
use Rattle.std.specs.Option.{is_some, unwrap_or}
use Rattle.std.proofs.Common.{◌≡◌, ℕ, List, ◌∷◌, Option, None, Some, ◌<◌, ◌+◌, Bool, true, false, length, refl, sym, ap, ◌∙◌, subst, IfSome, IsSome, IsSomeAnd}
use Rattle.std.proofs.lemmas.Bool.{false≢true}
use Rattle.page_ids.specs.Content.{Content}
use Rattle.page_ids.specs.Layout.{IsPage}
use Rattle.page_ids.specs.declared.config.Config.{Config}
use Rattle.page_ids.specs.declared.ids.PageId.{PageId}
use Rattle.page_ids.specs.declared.frame_word.Word.{Word}
use Rattle.page_disk.specs.Disks.{DiskSeen, pages_in, IsInside}
use Rattle.trail.specs.Trails.{mark}
use Rattle.trail.specs.declared.event.Call.{Call}
use Rattle.trail.specs.declared.event.Cause.{Cause}
use Rattle.trail.specs.declared.event.Entry.{Entry}
use Rattle.trail.specs.declared.event.Kind.{Kind}
use Rattle.trail.specs.declared.event.Kind.TheVariants as kind
use Rattle.trail.specs.Dirt.{is_dirty}
use Rattle.frame_words.specs.Appends.{appended}
use Rattle.frame_words.specs.Rows.{Row, reached, published_row}
use Rattle.frame_words.specs.Seen.{FramesSeen, row_at, with_row, noted}
use Rattle.desk.specs.Base.{Opened}
use Rattle.desk.specs.Behind.{IsBehind, IsValueIn}
use Rattle.instance_lists.specs.Ledger.{IsVacant}
use Rattle.desk.specs.Ledger.{entry_behind}
use Rattle.desk.specs.State.{State}
use Rattle.desk.specs.Steps.{IsAppended, next_entry}
use Rattle.desk.specs.declared.calls.Caller.{Caller}
use Rattle.desk.proofs.Behind.{made, appended_is, behind_seen, behind_still, behind_load, read_value}
use Rattle.desk.proofs.BehindParts.{fix_still, refused_still}
use Rattle.desk.proofs.Rows.{row_here, row_else, image_held}

pub inside_below : (spaces : ℕ → Option ℕ) (p : PageId) → IsInside spaces p → p.page < pages_in spaces p.space
inside_below spaces p inside = go (spaces p.space) inside
  where
    go : (o : Option ℕ) → IsSomeAnd o (λ n. p.page < n) → p.page < unwrap_or o 0
    go None is = absurd is
    go (Some n) is = is

-- the visit of a frame began, and no create waits for its visit
abbrev pub visiting : FramesSeen → ℕ → Word → FramesSeen
visiting s f w = record (noted s f w) { visit = Some f }

-- a page was published in the frame into which it was read
abbrev pub loaded : FramesSeen → Entry → ℕ → PageId → ℕ → FramesSeen
loaded s e f p place = with_row (appended s e) f (published_row (row_at s f) p place)

-- first values that are told are these
abbrev pub IsBased : Opened → FramesSeen → Type 0
IsBased o s = IfSome s.base (λ base. base ≡ o.base)

-- a page with an image has a value
pub value_some : (o : Opened) (s : FramesSeen) (image : Option (Option Content)) (v : Option Content) → IsValueIn o s image v → IsSome v
value_some o s None v is = absurd is
value_some o s (Some None) v is = is.1
value_some o s (Some (Some c)) v is = ap is_some is

base_is : (base : Option (PageId → Option Content)) (first : PageId → Option Content) → IsSome base → IfSome base (λ b. b ≡ first) → base ≡ Some first
base_is None first some is = absurd (false≢true some)
base_is (Some b) first some is = ap (λ (x : PageId → Option Content). Some x) is

-- an image that is published is the page's value, whether others can reach it or not
pub value_published : (o : Opened) (s : FramesSeen) (held : Option ℕ) (b : Bool) (image : Option (Option Content)) (content : Content) → image ≡ Some (Some content)
    → (held ≡ None → IsSome s.base) → IsBased o s → IsValueIn o s (reached held b image) (Some content)
value_published o s held b image content is shared based = subst (λ (i : Option (Option Content)). IsValueIn o s (reached held b i) (Some content)) (sym is) (go held b shared)
  where
    go : (held : Option ℕ) (b : Bool) → (held ≡ None → IsSome s.base) → IsValueIn o s (reached held b (Some (Some content))) (Some content)
    go (Some n) b shared = refl
    go None true shared = (base_is s.base o.base (shared refl) based, refl)
    go None false shared = refl

module _ {D : Type 0} (seen : D → DiskSeen) (o : Opened) where
  abbrev Stands : State D → FramesSeen → Type 0
  Stands desk s = IsBehind seen o desk s

  -- one entry was appended, and the frames are known
  pub behind_on : (old new : State D) (by : Caller) (k : Kind) (t u : FramesSeen) → IsAppended old new by k → new.disk ≡ old.disk → t ≡ u
      → Stands (made old.config old.instance (next_entry old by k ∷ old.history) old.disk) u → Stands new t
  behind_on old new by k t u a disk shown b = subst (λ (x : State D). Stands x t) (sym (appended_is old new by k a disk))
      (subst (λ (x : FramesSeen). Stands (made old.config old.instance (next_entry old by k ∷ old.history) old.disk) x) (sym shown) b)

  -- an image was laid into a frame that is no page's home
  pub behind_laid : (desk : State D) (s : FramesSeen) (f : ℕ) (row : Row) → IsVacant desk.history f → Stands desk s → Stands desk (with_row s f row)
  behind_laid desk s f row vacant b = behind_seen seen o desk s (with_row s f row) refl
      (λ p g here. ap (λ (r : Row). r.image) (row_else s.rows f g row (λ e. vacant p (here ∙ ap (λ (k : ℕ). Some k) e)))) b

  pub behind_refused : (c : Config) (n : ℕ) (h : List Entry) (d : D) (s : FramesSeen) (by : Caller) (asked : Call) (why : Cause)
      → Stands (made c n h d) s
      → Stands (made c n (entry_behind c.first h by (kind.Refused asked why) ∷ h) d) (appended s (entry_behind c.first h by (kind.Refused asked why)))
  behind_refused c n h d s by asked why b =
      let e = entry_behind c.first h by (kind.Refused asked why) in
      behind_seen seen o (made c n (e ∷ h) d) s (appended s e) refl (λ p f here. refl)
      (behind_still seen o c n h d e s (refused_still asked why) b)

  pub behind_fixed : (c : Config) (n : ℕ) (h : List Entry) (d : D) (s : FramesSeen) (by : Caller) (p : PageId) (f clock now : ℕ) (w : Word)
      → Stands (made c n h d) s
      → Stands (made c n (entry_behind c.first h by (kind.Fix p f clock now) ∷ h) d) (appended (visiting s f w) (entry_behind c.first h by (kind.Fix p f clock now)))
  behind_fixed c n h d s by p f clock now w b =
      let e = entry_behind c.first h by (kind.Fix p f clock now) in
      behind_seen seen o (made c n (e ∷ h) d) s (appended (visiting s f w) e) refl (λ q g here. image_held s.rows f g)
      (behind_still seen o c n h d e s (fix_still p f clock now) b)

  -- a clean page was read into a frame, whose image is then its value
  pub behind_loaded : (c : Config) (n : ℕ) (h : List Entry) (d : D) (s : FramesSeen) (by : Caller) (p : PageId) (f : ℕ) (content : Content)
      → f < length s.rows → IsVacant h f → is_dirty h p ≡ false → IsInside (seen d).spaces p → (row_at s f).image ≡ Some (Some content)
      → IfSome ((seen d).told p) (λ bytes. IsPage p bytes content) → ((row_at s f).held ≡ None → IsSome s.base) → IsBased o s
      → Stands (made c n h d) s
      → Stands (made c n (entry_behind c.first h by (kind.Load p f) ∷ h) d) (loaded s (entry_behind c.first h by (kind.Load p f)) f p (mark c.first h + 1))
  behind_loaded c n h d s by p f content inside vacant clean within image read shared based b =
      let e = entry_behind c.first h by (kind.Load p f) in
      let row = published_row (row_at s f) p (mark c.first h + 1) in
      let t = loaded s e f p (mark c.first h + 1) in
      behind_load seen o c n h d s t (mark c.first h + 1) by.pass by.number p f content refl
      (λ g other. ap (λ (r : Row). r.image) (row_else s.rows f g row other))
      (subst (λ (r : Row). IsValueIn o t r.image (Some content)) (sym (row_here s.rows f row inside))
      (value_published o t (row_at s f).held (true && not (row_at s f).latched) (row_at s f).image content image shared based))
      vacant (read_value seen o (made c n h d) s p content b (inside_below (seen d).spaces p within) clean read) b
