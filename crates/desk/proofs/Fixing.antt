-- A whole fix, put together from its steps.
use Rattle.std.proofs.Common.{◌≡◌, ◌<◌, ◌≤◌, ◌+◌, ℕ, Bool, true, false, cond, not, ◌&&◌, List, Option, None, Some, IfSome, IsSome, IsSomeAnd, length, set, refl, ap, ◌∙◌, sym, subst, arith, inl, inr, length-set}
use Rattle.std.specs.Prelude.{MatchOption, ⊤}
use Rattle.std.specs.Option.{is_some, option_map}
use Rattle.page_ids.specs.Content.{Content}
use Rattle.page_ids.specs.Same.{same_page}
use Rattle.page_ids.specs.declared.ids.PageId.{PageId}
use Rattle.page_ids.specs.declared.layout.BadPage.{BadPage}
use Rattle.page_disk.specs.Disks.{DiskSeen, pages_in, IsInside, IsSameDisk}
use Rattle.redo_mark.specs.Logs.{Seen}
use Rattle.trail.specs.declared.event.Call.TheVariants as call
use Rattle.trail.specs.declared.event.Dirty.{Dirty}
use Rattle.trail.specs.declared.event.Entry.{Entry}
use Rattle.trail.specs.declared.event.Held.{Held}
use Rattle.trail.specs.declared.event.Kind.{Kind}
use Rattle.trail.specs.Book.{book, frame_in_turn}
use Rattle.trail.specs.History.{home, value}
use Rattle.trail.specs.Dirt.{dirty, dirt_of, is_dirty, cleaned, log_end, log_end_after}
use Rattle.frame_words.specs.Rows.{Row, reached, held_row}
use Rattle.frame_words.specs.Seen.{FramesSeen}
use Rattle.desk.specs.Changes.{LeavesDesk, changed_row}
use Rattle.desk.specs.Fixing.{IsFixRefusal, NeedsNoVictim, IsUnlogged, fix_err_of}
use Rattle.desk.specs.Loads.{MayFix, IsOneMore}
use Rattle.desk.specs.Logged.{IsLogged, IsLoggedKind, IsUpTo}
use Rattle.desk.specs.State.{State}
use Rattle.desk.specs.Steps.{IsAppended, IsLoadRefusal, row_in, loaded_row}
use Rattle.desk.specs.Victims.{IsRowSettled, AreSettled, IsCleanedFirst, IsHad, IsUnhad, IsUnforced, LeavesTurn}
use Rattle.desk.specs.declared.calls.Caller.{Caller}
use Rattle.desk.specs.declared.calls.FixErr.{FixErr}
use Rattle.desk.specs.declared.calls.FixErr.TheVariants as refusal
use Rattle.desk.specs.declared.calls.FrameErr.{FrameErr}
use Rattle.desk.specs.declared.calls.FrameErr.TheVariants as unhad
use Rattle.instance_lists.proofs.Dirt.{cleaned_of, no_way}
use Rattle.desk.proofs.Logging.{upto_more}
use Rattle.desk.specs.Ledger.{entry_behind}
use Rattle.desk.proofs.Evicting.{has_turn, still_few, still_own}
use Rattle.desk.proofs.Rows.{each_row}

-- an entry that tells nothing of the log
pub one_more : {D : Type 0} (old new : State D) (by : Caller) (k : Kind) → ((x : Seen) → IsLoggedKind x k) → ((n : ℕ) → log_end_after k n ≡ n) → ((m : ℕ) → IsUpTo m k) → IsAppended old new by k
    → IsOneMore old.history new.history
one_more old new by k kinds ends marks a = record {
  count = let e = ap (length {A = Entry}) a.history in omega (arith, e);
  logged = λ x is. subst (λ (l : List Entry). IsLogged x l) (sym a.history) (kinds x, is);
  ends = ap log_end a.history ∙ ends (log_end old.history);
  upto = λ m h were. upto_more m h old.history new.history (entry_behind old.config.first old.history by k) (marks m) a.history were;
}

-- a step that leaves numbers and what the disk tells
pub leaves_told : {D : Type 0} (seen : D → DiskSeen) (old new : State D)
    → new.config ≡ old.config → new.instance ≡ old.instance → IsSameDisk (seen old.disk) (seen new.disk) → LeavesDesk seen old new
leaves_told seen old new config instance same = record {
  config = config;
  instance = instance;
  sizes = same.sizes;
  telling = same.telling;
  spaces_are = same.spaces_are;
  later = same.later;
}

pub settled_set : (rows : List Row) (f : ℕ) (r : Row) → (f < length rows → r.resident ≡ true → IsRowSettled r) → AreSettled rows → AreSettled (set rows f r)
settled_set rows f r here settled = λ g l. each_row (λ k x. k < length rows → x.resident ≡ true → IsRowSettled x) rows f r here (λ k other below inside. settled k below) g l
    (subst (λ (n : ℕ). g < n) (length-set rows f r) l)

-- an image that was read in, and published, is told where the fixes are
pub settled_loaded : (rows now : List Row) (f : ℕ) (p : PageId) (c : Content) (n : ℕ) → (row_in rows f).latched ≡ false → now ≡ set rows f (loaded_row (row_in rows f) p c n)
    → AreSettled rows → AreSettled now
settled_loaded rows now f p c n unlatched is settled = subst AreSettled (sym is)
    (settled_set rows f (loaded_row (row_in rows f) p c n) (λ inside resident. go (row_in rows f).held (true && not (row_in rows f).latched) (ap (λ (b : Bool). true && not b) unlatched)) settled)
  where
    go : (held : Option ℕ) (b : Bool) → b ≡ true
        → MatchOption held (IfSome (reached held b (Some (Some c))) (λ told. told ≡ None)) (λ n. IfSome (reached held b (Some (Some c))) (λ told. IsSome told))
    go (Some n) b is = refl
    go None true is = refl
    go None false is = absurd (cc)

pub settled_held : (rows now : List Row) (f : ℕ) → now ≡ set rows f (held_row (row_in rows f)) → AreSettled rows → AreSettled now
settled_held rows now f is settled = subst AreSettled (sym is)
    (settled_set rows f (held_row (row_in rows f)) (λ inside resident. go (row_in rows f).held (row_in rows f).image (settled f inside resident)) settled)
  where
    go : (held : Option ℕ) (image : Option (Option Content)) → MatchOption held (IfSome image (λ told. told ≡ None)) (λ n. IfSome image (λ told. IsSome told))
        → MatchOption (option_map (λ (n : ℕ). n + 1) held) (IfSome image (λ told. told ≡ None)) (λ n. IfSome image (λ told. IsSome told))
    go None image is = is
    go (Some n) image is = is

-- an image that was changed is told, as the fixes are
pub settled_put : (rows now : List Row) (f : ℕ) (c : Content) (n : ℕ) → ((g : ℕ) → g < length rows → IsSome (row_in rows g).held × IfSome (row_in rows g).image (λ told. IsSome told))
    → now ≡ set rows f (changed_row (row_in rows f) c n) → AreSettled rows → AreSettled now
settled_put rows now f c n alone is settled = subst AreSettled (sym is)
    (settled_set rows f (changed_row (row_in rows f) c n) (λ inside resident. go (row_in rows f).held ((row_in rows f).resident && true) (alone f inside).0) settled)
  where
    go : (held : Option ℕ) (b : Bool) → IsSome held
        → MatchOption held (IfSome (reached held b (Some (Some c))) (λ told. told ≡ None)) (λ n. IfSome (reached held b (Some (Some c))) (λ told. IsSome told))
    go (Some n) b is = refl
    go None b is = absurd (no_way (sym is))

cleaned_value : (first : ℕ) (by : Caller) (q : PageId) (old mid : List Entry) (size : ℕ) (base : PageId → Option Content) (p : PageId) → IsCleanedFirst first by q old mid
    → value size base mid p ≡ value size base old p
cleaned_value first by q old mid size base p (inl clean) = ap (λ (h : List Entry). value size base h p) clean.1
cleaned_value first by q old mid size base p (inr wrote) = ap (λ (h : List Entry). value size base h p) wrote.entry

-- a page that leaves its frame leaves all values
pub had_value : {D : Type 0} (old had : State D) (rows now : List Row) (by : Caller) (f size : ℕ) (base : PageId → Option Content) (p : PageId) → IsHad old had rows now by f
    → value size base had.history p ≡ value size base old.history p
had_value old had rows now by f size base p (inl free) = ap (λ (x : State _). value size base x.history p) free.same
had_value old had rows now by f size base p (inr gone) =
    ap (λ (h : List Entry). value size base h p) gone.history ∙ cleaned_value old.config.first by gone.page old.history gone.mid size base p gone.cleaned

clean_without : (q p : PageId) (ds : List Dirty) → is_some (dirt_of ds p) ≡ false → is_some (dirt_of (cleaned q ds) p) ≡ false
clean_without q p ds clean = ap (is_some {T = Dirty}) (cleaned_of ds q p) ∙ go (same_page q p)
  where
    go : (b : Bool) → is_some (cond b None (dirt_of ds p)) ≡ false
    go true = refl
    go false = clean

cleaned_clean : (first : ℕ) (by : Caller) (q : PageId) (old mid : List Entry) (p : PageId) → IsCleanedFirst first by q old mid → is_dirty old p ≡ false → is_dirty mid p ≡ false
cleaned_clean first by q old mid p (inl same) clean = ap (λ (h : List Entry). is_dirty h p) same.1 ∙ clean
cleaned_clean first by q old mid p (inr wrote) clean = ap (λ (h : List Entry). is_dirty h p) wrote.entry ∙ clean_without q p (dirty old) clean

-- and no page is dirty then that was clean
pub had_clean : {D : Type 0} (old had : State D) (rows now : List Row) (by : Caller) (f : ℕ) (p : PageId) → IsHad old had rows now by f → is_dirty old.history p ≡ false → is_dirty had.history p ≡ false
had_clean old had rows now by f p (inl free) clean = ap (λ (x : State _). is_dirty x.history p) free.same ∙ clean
had_clean old had rows now by f p (inr gone) clean =
    ap (λ (h : List Entry). is_dirty h p) gone.history ∙ cleaned_clean old.config.first by gone.page old.history gone.mid p gone.cleaned clean

-- the caller may go on with its fix
pub still_may : {D : Type 0} (s t : FramesSeen) (old new : State D) (by : Caller) (p : PageId) → LeavesTurn s t → new.config ≡ old.config → new.instance ≡ old.instance → MayFix s old by p → MayFix t new by p
still_may s t old new by p left config instance may = record {
  turn = has_turn s t by left may.turn;
  own = still_own s t old new p left config instance may.own;
  few = still_few s t left may.few;
}

-- what refuses a fix before any hold is looked at
pub any_open : (o : Option (List Held)) → IfSome o (λ x. ⊤)
any_open None = tt
any_open (Some x) = tt

pub few_held : (o : Option (List Held)) (held : ℕ) → held < 64 → IfSome o (λ x. (length x ≡ held) × (held ≤ 64)) → IfSome o (λ x. length x < 64)
few_held None held few is = tt
few_held (Some x) held few is = let same = is.0 in omega (arith, few, same)

pub full_held : (o : Option (List Held)) (held : ℕ) → 64 ≤ held → IfSome o (λ x. (length x ≡ held) × (held ≤ 64)) → IfSome o (λ x. length x ≡ 64)
full_held None held full is = tt
full_held (Some x) held full is = let same = is.0 in let most = is.1 in omega (arith, full, same, most)

pub still_inside : {D : Type 0} (seen : D → DiskSeen) (d e : D) (p : PageId) → ((n : ℕ) → (seen e).spaces n ≡ (seen d).spaces n) → IsInside (seen d).spaces p → IsInside (seen e).spaces p
still_inside seen d e p same is = subst (λ (o : Option ℕ). IsSomeAnd o (λ n. p.page < n)) (sym (same p.space)) is

module _ {D : Type 0} (seen : D → DiskSeen) where
  -- no frame was had
  pub unhad_refused : (old new : State D) (rows now : List Row) (by : Caller) (held : ℕ) (p : PageId) (moment durable was is : ℕ) (e : FrameErr) → p.page < pages_in (seen old.disk).spaces p.space → held < 64
      → home old.history p ≡ None → now ≡ rows → IsUnhad old new rows by p (call.Fix p moment) (seen old.disk).faults (seen new.disk).faults durable was is e
      → IsFixRefusal seen old new rows now by held p moment durable was is (fix_err_of e)
  unhad_refused old new rows now by held p moment durable was is unhad.OutOfMemory within few absent same un = (un, same)
  unhad_refused old new rows now by held p moment durable was is (unhad.AllFixed words) within few absent same un =
      (within, few, record { absent = absent; full = un.0; entry = un.1; disk = un.2 }, same)
  unhad_refused old new rows now by held p moment durable was is (unhad.RedoFault before after) within few absent same un =
      (within, few, record { absent = absent; rose = un.0; entry = un.1 }, same, un.2, un.3)
  unhad_refused old new rows now by held p moment durable was is (unhad.DiskFault before after) within few absent same un =
      (within, few, inl (record { absent = absent; rose = un.0; entry = un.1 }, same, un.2))

  -- a frame was had, and the page not read
  pub unread_refused : (old had new : State D) (rows cleared now : List Row) (by : Caller) (held : ℕ) (p : PageId) (moment durable was is f : ℕ) (e : FixErr) → p.page < pages_in (seen old.disk).spaces p.space → held < 64
      → home old.history p ≡ None → (seen old.disk).faults ≤ (seen had.disk).faults → (seen had.disk).told p ≡ (seen old.disk).told p → IsHad old had rows cleared by f → now ≡ cleared → IsLoadRefusal seen had new by p moment e
      → IsFixRefusal seen old new rows now by held p moment durable was is e
  unread_refused old had new rows cleared now by held p moment durable was is f e within few absent later still had_is same un =
      subst (λ (r : List Row). IsFixRefusal seen old new rows r by held p moment durable was is e) (sym same) (go e un)
    where
      go : (e : FixErr) → IsLoadRefusal seen had new by p moment e → IsFixRefusal seen old new rows cleared by held p moment durable was is e
      go refusal.OutOfMemory un = absurd un
      go (refusal.NoSuchPage pages) un = absurd un
      go (refusal.HoldFull full) un = absurd un
      go (refusal.AllFixed words) un = absurd un
      go (refusal.RedoFault before after) un = absurd un
      go (refusal.DiskFault before after) un = (within, few, inr (record { absent = absent; had = had; frame = f; frame_is = had_is; page_told = still; because = (later, un) }))
      go (refusal.BadPage bad) un = (within, few, record { absent = absent; had = had; frame = f; frame_is = had_is; page_told = still; because = un })

-- the log is as it was where no device failed
pub unforced_unlogged : {L : Type 0} (x y : L) (e : FrameErr) → IsUnforced x y e → IsUnlogged x y (fix_err_of e)
unforced_unlogged x y unhad.OutOfMemory same = same
unforced_unlogged x y (unhad.AllFixed words) same = same
unforced_unlogged x y (unhad.RedoFault before after) same = tt
unforced_unlogged x y (unhad.DiskFault before after) same = tt

-- nothing was read where no frame was had
pub unhad_no_bad : (e : FrameErr) (bad : BadPage) → fix_err_of e ≡ refusal.BadPage bad → ⊥
unhad_no_bad unhad.OutOfMemory bad is = absurd (cc)
unhad_no_bad (unhad.AllFixed words) bad is = absurd (cc)
unhad_no_bad (unhad.RedoFault before after) bad is = absurd (cc)
unhad_no_bad (unhad.DiskFault before after) bad is = absurd (cc)

pub unlogged_load : {D L : Type 0} (seen : D → DiskSeen) (old new : State D) (by : Caller) (p : PageId) (now : ℕ) (x y : L) (e : FixErr) → IsLoadRefusal seen old new by p now e → IsUnlogged x y e
unlogged_load seen old new by p now x y refusal.OutOfMemory un = absurd un
unlogged_load seen old new by p now x y (refusal.NoSuchPage pages) un = absurd un
unlogged_load seen old new by p now x y (refusal.HoldFull held) un = absurd un
unlogged_load seen old new by p now x y (refusal.AllFixed words) un = absurd un
unlogged_load seen old new by p now x y (refusal.RedoFault before after) un = tt
unlogged_load seen old new by p now x y (refusal.DiskFault before after) un = tt
unlogged_load seen old new by p now x y (refusal.BadPage bad) un = tt

none_some : {A : Type 0} (o : Option A) → o ≡ None → IsSome o → ⊥
none_some None none some = no_way (sym some)
none_some (Some x) none some = absurd (cc)

-- no frame is free, though one is
pub not_free : {P : Type 0} (o : Option ℕ) → o ≡ None → IsSome o → P
not_free o none some = absurd (none_some o none some)

-- a page that is not resident, inside its space, for a caller that holds fewer fixes than it may
pub needs_a_frame : {D P : Type 0} (seen : D → DiskSeen) (old : State D) (held : ℕ) (p : PageId) → home old.history p ≡ None → p.page < pages_in (seen old.disk).spaces p.space → held < 64
    → (IsSome (frame_in_turn (book old.config old.history)) → P) → NeedsNoVictim seen old held p → P
needs_a_frame seen old held p absent within few free (inl resident) = absurd (none_some (home old.history p) absent resident)
needs_a_frame seen old held p absent within few free (inr (inl outside)) = absurd (omega (arith, within, outside))
needs_a_frame seen old held p absent within few free (inr (inr (inl full))) = absurd (omega (arith, few, full))
needs_a_frame seen old held p absent within few free (inr (inr (inr some))) = free some
