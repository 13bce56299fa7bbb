-- Which entries may come, kind by kind, from what the desk's answers say of them.
use Rattle.std.proofs.Common.{◌≡◌, ◌<◌, ◌≤◌, ℕ, Bool, true, false, not, cond, List, [], ◌∷◌, ◌++◌, ◌+◌, ◌&&◌, inl, inr, Option, Some, None, IfSome, IsSome, IsTrue, length, filter, refl, ap, ◌∙◌, sym, subst, eq-eqb, nat_eq, arith}
use Rattle.std.specs.Prelude.{is_some, take}
use Rattle.std.specs.Option.{option_map, option_map_or}
use Rattle.page_ids.specs.Chunks.{chunks_for}
use Rattle.page_ids.specs.Same.{same_page}
use Rattle.page_ids.specs.declared.ids.PageId.{PageId}
use Rattle.page_ids.specs.declared.frame_word.Word.{Word}
use Rattle.page_ids.specs.declared.limits.TheConstants.{MOST_FIXES, MOST_WATCHES}
use Rattle.trail.specs.declared.event.Call.{Call}
use Rattle.trail.specs.declared.event.Call.TheVariants as call
use Rattle.trail.specs.declared.event.Cause.{Cause}
use Rattle.trail.specs.declared.event.Kind.{Kind}
use Rattle.trail.specs.declared.event.Kind.TheVariants as kind
use Rattle.trail.specs.declared.event.Entry.{Entry}
use Rattle.trail.specs.declared.event.Event.{Event}
use Rattle.trail.specs.declared.event.Event.TheVariants as event
use Rattle.trail.specs.Trails.{AreNumbered, Opening, entries, mark}
use Rattle.trail.specs.Kinds.{Writing, departure_in, write_in}
use Rattle.trail.specs.History.{home}
use Rattle.trail.specs.Book.{book}
use Rattle.trail.specs.Dirt.{dirt_of, dirty, is_dirty, log_end, pages_of}
use Rattle.trail.specs.Watches.{Watch, other_watches, watch_of}
use Rattle.trail.specs.Calls.{before_call, made, open_fixes}
use Rattle.trail.specs.Preceding.{AreOfResize, AreWrites, GotFrame, MayPrecede, MayPrecedeRefusal, kinds}
use Rattle.trail.specs.Legal.{IsCheckpoint, IsClean, IsCreate, IsFix, IsLegalKind, IsLoad, IsPut, IsResized, IsTogether, dumped, is_resize, written_pages}
use Rattle.trail.specs.Covered.{IsCoveredWrite}
use Rattle.trail.specs.Needs.{others_area}
use Rattle.trail.specs.Causes.{IsCausedKind}
use Rattle.trail.specs.Victim.{IsSought, IsVictimKind, IsVictimOf, before_write}
use Rattle.trail.specs.Withdrawal.{IsGrow, IsMove, IsShrink, IsUndo, IsWithdraw, IsWithdrawalKind}
use Rattle.trail.specs.Promises.{IsOfSpaces}
use Rattle.page_ids.proofs.Basics.{same_self}
use Rattle.trail.proofs.DirtyPages.{is_cleaned}
use Rattle.trail.proofs.LookUps.{all_came, none_passed}
use Rattle.trail_laws.specs.Accounts.{entries_of}
use Rattle.trail_laws.specs.SoFar.{IsFixedByNone, TellSpaces}
use Rattle.trail_laws.specs.Adding.{HasBegun, MayAsk, IsCalling, IsResizing, IsUnderWay, MayAdd, MayRefuse}
use Rattle.trail_laws.proofs.Calling.{under_way}
use Rattle.trail_laws.proofs.Asking.{began, granted, is_held, is_watched, may_watch, none_due_create, none_due_resize, not_full}

-- the call's entries are the newest of the history
pub together_by : (first : ℕ) (h base pending : List Entry) → h ≡ pending ++ base → IsTogether (mark first h + 1) pending
together_by first h base [] is = tt
together_by first h base (e ∷ pending) is = inl (ap (λ l. mark first l + 1) is)

-- an entry of a call whose entries so far are these
by_parts : (o : Opening) (pages : ℕ → ℕ) (h : List Entry) (accounts : ℕ → List Event) (c n : ℕ) (pending : List Entry) (k : Kind) → IsUnderWay (accounts c) n pending → IsTogether (mark o.first h + 1) pending
    → MayPrecede h pending k → IsLegalKind o h (accounts c) c n k → IfSome (departure_in k) (λ d. IsFixedByNone accounts d.page) → IfSome (write_in k) (λ w. IsCoveredWrite h w.page w.lsn w.upto)
    → ((past : List Event) → TellSpaces pages past → IsCausedKind o past h (accounts c) c n k) → IsVictimKind o.config h c n k → IsWithdrawalKind o.config h c n k → IsOfSpaces pages k → MayAdd o pages h accounts c n k
by_parts o pages h accounts c n pending k calling together before legal still covered causes victim withdrawal spaces =
    let T : List Entry → Type 0 = λ l. IsTogether (mark o.first h + 1) l in
    let B : List Entry → Type 0 = λ l. MayPrecede h l k in
    record {
      together = subst T (sym calling.made_are) together;
      before = subst B (sym calling.made_are) before;
      kind = legal;
      still = still;
      covered = covered;
      causes = causes;
      victim = victim;
      withdrawal = withdrawal;
      spaces = spaces;
    }

-- the page is read into the frame that the call takes
pub loads : (o : Opening) (pages : ℕ → ℕ) (h base : List Entry) (accounts : ℕ → List Event) (c n : ℕ) (pending : List Entry) (p : PageId) (f : ℕ) → HasBegun h base (accounts c) n pending
    → IsLoad o h c n p f → MayAdd o pages h accounts c n (kind.Load p f)
loads o pages h base accounts c n pending p f begun legal =
    by_parts o pages h accounts c n pending (kind.Load p f) (under_way (accounts c) n pending begun.calling) (together_by o.first h base pending begun.grown) tt legal tt tt (λ past told. tt) tt tt (record { inside = tt; told = tt })

-- a fix of a page that is in the frame, at first or behind the entries with which the frame was had
pub fixes : (o : Opening) (pages : ℕ → ℕ) (h base : List Entry) (accounts : ℕ → List Event) (c n : ℕ) (pending : List Entry) (p : PageId) (f clock now : ℕ) → AreNumbered o.first h → HasBegun h base (accounts c) n pending
    → MayPrecede h pending (kind.Fix p f clock now) → IsFix h p f clock → MayAsk o pages base c n (call.Fix p now) → length (open_fixes (accounts c)) < MOST_FIXES → MayAdd o pages h accounts c n (kind.Fix p f clock now)
fixes o pages h base accounts c n pending p f clock now numbered begun before legal ask few =
    by_parts o pages h accounts c n pending (kind.Fix p f clock now) (under_way (accounts c) n pending begun.calling) (together_by o.first h base pending begun.grown) before legal tt tt
    (granted o pages h base (accounts c) c n (call.Fix p now) (began o.first h base (accounts c) n pending numbered begun) ask (not_full (accounts c) few)) tt tt (record { inside = ask.inside; told = tt })

-- a blank page in the frame that the call takes
pub creates : (o : Opening) (pages : ℕ → ℕ) (h base : List Entry) (accounts : ℕ → List Event) (c n : ℕ) (pending : List Entry) (p : PageId) (f start end now : ℕ) → AreNumbered o.first h → HasBegun h base (accounts c) n pending
    → GotFrame p (kinds pending) → IsCreate o h c n p f start end → MayAsk o pages base c n (call.Create p now) → length (open_fixes (accounts c)) < MOST_FIXES → MayAdd o pages h accounts c n (kind.Create p f start end now)
creates o pages h base accounts c n pending p f start end now numbered begun got legal ask few =
    by_parts o pages h accounts c n pending (kind.Create p f start end now) (under_way (accounts c) n pending begun.calling) (together_by o.first h base pending begun.grown) got legal tt tt
    (granted o pages h base (accounts c) c n (call.Create p now) (began o.first h base (accounts c) n pending numbered begun) ask (none_due_create o h (accounts c) c n p now few legal.absent)) tt tt (record { inside = ask.inside; told = tt })

none_of : {A : Type 0} (P : A → Type 0) (o : Option A) → o ≡ None → IfSome o P
none_of P None is = tt
none_of P (Some x) is = absurd (cc)

-- A call that leaves its answer alone: nothing came before it.
alone : (o : Opening) (pages : ℕ → ℕ) (h : List Entry) (accounts : ℕ → List Event) (c n : ℕ) (k : Kind) → IsCalling (accounts c) n [] → MayPrecede h [] k → IsLegalKind o h (accounts c) c n k → departure_in k ≡ None → write_in k ≡ None
    → ((past : List Event) → TellSpaces pages past → IsCausedKind o past h (accounts c) c n k) → IsVictimKind o.config h c n k → IsWithdrawalKind o.config h c n k → IsOfSpaces pages k → MayAdd o pages h accounts c n k
alone o pages h accounts c n k calling before legal stays unwritten causes victim withdrawal spaces =
    by_parts o pages h accounts c n [] k (under_way (accounts c) n [] calling) tt before legal (none_of _ (departure_in k) stays) (none_of _ (write_in k) unwritten) causes victim withdrawal spaces

-- such a call began where it is answered
pub begins : (h : List Entry) (mine : List Event) (n : ℕ) → IsCalling mine n [] → HasBegun h h mine n []
begins h mine n calling = record { calling = calling; grown = refl }

here : (first : ℕ) (h : List Entry) (mine : List Event) (n : ℕ) → AreNumbered first h → IsCalling mine n [] → before_call (made n mine) h ≡ h
here first h mine n numbered calling = began first h h mine n [] numbered (begins h mine n calling)

pub puts : (o : Opening) (pages : ℕ → ℕ) (h : List Entry) (accounts : ℕ → List Event) (c n : ℕ) (p : PageId) (at : ℕ) (bytes : List ℕ) (start end : ℕ) → AreNumbered o.first h → IsCalling (accounts c) n []
    → IsPut o h (accounts c) p at bytes start end → MayAsk o pages h c n (call.Put p at bytes) → MayAdd o pages h accounts c n (kind.Put p at bytes start end)
puts o pages h accounts c n p at bytes start end numbered calling legal ask =
    alone o pages h accounts c n (kind.Put p at bytes start end) calling refl legal refl refl
    (granted o pages h h (accounts c) c n (call.Put p at bytes) (here o.first h (accounts c) n numbered calling) ask (is_held (accounts c) p legal.held)) tt tt (record { inside = tt; told = tt })

pub checks : (o : Opening) (pages : ℕ → ℕ) (h : List Entry) (accounts : ℕ → List Event) (c n lsn : ℕ) → AreNumbered o.first h → IsCalling (accounts c) n []
    → IsCheckpoint (dirty h) (log_end h) lsn → MayAsk o pages h c n call.Check → MayAdd o pages h accounts c n (kind.Check lsn)
checks o pages h accounts c n lsn numbered calling legal ask =
    alone o pages h accounts c n (kind.Check lsn) calling refl legal refl refl
    (granted o pages h h (accounts c) c n call.Check (here o.first h (accounts c) n numbered calling) ask refl) tt tt (record { inside = tt; told = tt })

pub sets_watch : (o : Opening) (pages : ℕ → ℕ) (h : List Entry) (accounts : ℕ → List Event) (c n : ℕ) (p : PageId) → AreNumbered o.first h → IsCalling (accounts c) n []
    → home h p ≡ None → other_watches h c p < MOST_WATCHES → MayAsk o pages h c n (call.Watch p) → MayAdd o pages h accounts c n (kind.WatchSet p)
sets_watch o pages h accounts c n p numbered calling absent few ask =
    alone o pages h accounts c n (kind.WatchSet p) calling refl absent refl refl
    (granted o pages h h (accounts c) c n (call.Watch p) (here o.first h (accounts c) n numbered calling) ask (may_watch h c p (λ none. few))) tt tt (record { inside = ask.inside; told = tt })

pub finds_page : (o : Opening) (pages : ℕ → ℕ) (h : List Entry) (accounts : ℕ → List Event) (c n : ℕ) (p : PageId) (f : ℕ) → AreNumbered o.first h → IsCalling (accounts c) n []
    → home h p ≡ Some f → MayAsk o pages h c n (call.Watch p) → MayAdd o pages h accounts c n (kind.WatchAt p f)
finds_page o pages h accounts c n p f numbered calling resident ask =
    alone o pages h accounts c n (kind.WatchAt p f) calling refl resident refl refl
    (granted o pages h h (accounts c) c n (call.Watch p) (here o.first h (accounts c) n numbered calling) ask (may_watch h c p (λ none. absurd (both none)))) tt tt (record { inside = ask.inside; told = tt })
  where
    both : home h p ≡ None → ⊥
    both none = let bad : None ≡ Some f = sym none ∙ resident in absurd (cc)

watching : {A : Type 0} (found : Option A) {B : Type 0} (test : A → B) (x : B) → option_map test found ≡ Some x → IsSome found
watching None test x is = absurd (cc)
watching (Some w) test x is = refl

pub has_occurred : (o : Opening) (pages : ℕ → ℕ) (h : List Entry) (accounts : ℕ → List Event) (c n : ℕ) (p : PageId) (arrived : Bool) → AreNumbered o.first h → IsCalling (accounts c) n []
    → option_map (λ (w : Watch). w.occurred) (watch_of h c p) ≡ Some arrived → MayAsk o pages h c n (call.Occurred p) → MayAdd o pages h accounts c n (kind.Occurred p arrived)
has_occurred o pages h accounts c n p arrived numbered calling occurred ask =
    alone o pages h accounts c n (kind.Occurred p arrived) calling refl occurred refl refl
    (granted o pages h h (accounts c) c n (call.Occurred p) (here o.first h (accounts c) n numbered calling) ask (is_watched h c p (watching (watch_of h c p) (λ (w : Watch). w.occurred) arrived occurred))) tt tt (record { inside = tt; told = tt })

pub gives_watch_up : (o : Opening) (pages : ℕ → ℕ) (h : List Entry) (accounts : ℕ → List Event) (c n : ℕ) (p : PageId) → AreNumbered o.first h → IsCalling (accounts c) n []
    → IsSome (watch_of h c p) → MayAsk o pages h c n (call.Unwatch p) → MayAdd o pages h accounts c n (kind.Unwatch p)
gives_watch_up o pages h accounts c n p numbered calling watched ask =
    alone o pages h accounts c n (kind.Unwatch p) calling refl watched refl refl
    (granted o pages h h (accounts c) c n (call.Unwatch p) (here o.first h (accounts c) n numbered calling) ask (is_watched h c p watched)) tt tt (record { inside = tt; told = tt })

pub dumps : (o : Opening) (pages : ℕ → ℕ) (h : List Entry) (accounts : ℕ → List Event) (c n pct : ℕ) (ids : List PageId) → AreNumbered o.first h → IsCalling (accounts c) n []
    → ids ≡ dumped o.config h pct → MayAsk o pages h c n (call.Dump pct) → MayAdd o pages h accounts c n (kind.Dump pct ids)
dumps o pages h accounts c n pct ids numbered calling first ask =
    alone o pages h accounts c n (kind.Dump pct ids) calling refl first refl refl
    (granted o pages h h (accounts c) c n (call.Dump pct) (here o.first h (accounts c) n numbered calling) ask refl) tt tt (record { inside = tt; told = tt })

-- a write of a dirty page with its newest LSN, the log durable up to there
pub writes : (o : Opening) (pages : ℕ → ℕ) (h : List Entry) (accounts : ℕ → List Event) (c n : ℕ) (pending : List Entry) (p : PageId) (lsn upto : ℕ) → IsUnderWay (accounts c) n pending → IsTogether (mark o.first h + 1) pending
    → IsCoveredWrite h p lsn upto → MayAdd o pages h accounts c n (kind.Write p lsn upto)
writes o pages h accounts c n pending p lsn upto calling together covered =
    by_parts o pages h accounts c n pending (kind.Write p lsn upto) calling together tt tt tt covered (λ past told. tt) tt tt (record { inside = tt; told = tt })

-- a victim that nobody has fixed leaves its frame
pub evicts : (o : Opening) (pages : ℕ → ℕ) (h : List Entry) (accounts : ℕ → List Event) (c n : ℕ) (pending : List Entry) (p : PageId) (f : ℕ) (passed : List (ℕ × Word)) → IsUnderWay (accounts c) n pending
    → IsTogether (mark o.first h + 1) pending → IsFixedByNone accounts p → IsVictimOf o.config h c n p f passed → MayAdd o pages h accounts c n (kind.Evict p f passed)
evicts o pages h accounts c n pending p f passed calling together free victim =
    by_parts o pages h accounts c n pending (kind.Evict p f passed) calling together tt tt free tt (λ past told. tt) victim tt (record { inside = tt; told = tt })

-- A clean is answered behind its writes, which are of the pages that were dirty first; none was skipped.
pub cleans : (o : Opening) (pages : ℕ → ℕ) (h base : List Entry) (accounts : ℕ → List Event) (c n : ℕ) (pending : List Entry) (written : ℕ) (skipped : List (ℕ × Word)) → AreNumbered o.first h → HasBegun h base (accounts c) n pending
    → AreWrites (kinds pending) → IsClean h pending written skipped → MayAsk o pages base c n (call.Clean written) → MayAdd o pages h accounts c n (kind.Clean written skipped)
cleans o pages h base accounts c n pending written skipped numbered begun all legal ask =
    let C : List Entry → Type 0 = λ l. IsClean h l written skipped in
    by_parts o pages h accounts c n pending (kind.Clean written skipped) (under_way (accounts c) n pending begun.calling) (together_by o.first h base pending begun.grown) all (subst C (sym begun.calling.made_are) legal) tt tt
    (granted o pages h base (accounts c) c n (call.Clean written) (began o.first h base (accounts c) n pending numbered begun) ask refl) tt tt (record { inside = tt; told = tt })

pub clean_of : (first : ℕ) (h base : List Entry) (mine : List Event) (n : ℕ) (pending : List Entry) (written : ℕ) → AreNumbered first h → HasBegun h base mine n pending → written ≡ length pending
    → written_pages pending ≡ take written (pages_of (dirty base)) → IsClean h pending written []
clean_of first h base mine n pending written numbered begun count oldest =
    let at : before_call pending h ≡ base = ap (λ l. before_call l h) (sym begun.calling.made_are) ∙ began first h base mine n pending numbered begun in
    let came = take (length pending + 0) (pages_of (dirty (before_call pending h))) in
    let is : came ≡ take written (pages_of (dirty base)) =
    let same : length pending + 0 ≡ written = omega (arith, count) in ap (λ m. take m (pages_of (dirty (before_call pending h)))) same ∙ ap (λ l. take written (pages_of (dirty l))) at in
    record {
      count = count;
      oldest = oldest ∙ sym is ∙ sym (all_came h came);
      passed = sym (ap length (none_passed h came));
      latched = tt;
    }

-- The steps of a resize.
pub withdraws : (o : Opening) (pages : ℕ → ℕ) (h : List Entry) (accounts : ℕ → List Event) (c n from : ℕ) → IsCalling (accounts c) n [] → IsWithdraw (book o.config h) from → MayAdd o pages h accounts c n (kind.Withdraw from)
withdraws o pages h accounts c n from calling withdrawal =
    alone o pages h accounts c n (kind.Withdraw from) calling tt tt refl refl (λ past told. tt) tt withdrawal (record { inside = tt; told = tt })

pub grows : (o : Opening) (pages : ℕ → ℕ) (h : List Entry) (accounts : ℕ → List Event) (c n chunks : ℕ) → IsCalling (accounts c) n [] → IsGrow o.config (book o.config h) chunks → MayAdd o pages h accounts c n (kind.Grow chunks)
grows o pages h accounts c n chunks calling grow =
    alone o pages h accounts c n (kind.Grow chunks) calling tt tt refl refl (λ past told. tt) tt grow (record { inside = tt; told = tt })

-- the entries of a resize need not follow each other
pub resizing_together : (place : ℕ) (pending : List Entry) → IsTrue (is_resize pending) → IsTogether place pending
resizing_together place [] resize = tt
resizing_together place (e ∷ pending) resize = inr resize

in_resize : (o : Opening) (pages : ℕ → ℕ) (h : List Entry) (accounts : ℕ → List Event) (c n : ℕ) (pending : List Entry) (k : Kind) → IsResizing (accounts c) n pending → MayPrecede h pending k → IsLegalKind o h (accounts c) c n k
    → IfSome (departure_in k) (λ d. IsFixedByNone accounts d.page) → write_in k ≡ None → ((past : List Event) → TellSpaces pages past → IsCausedKind o past h (accounts c) c n k) → IsVictimKind o.config h c n k → IsWithdrawalKind o.config h c n k
    → IsOfSpaces pages k → MayAdd o pages h accounts c n k
in_resize o pages h accounts c n pending k resizing before legal still unwritten causes victim withdrawal spaces =
    by_parts o pages h accounts c n pending k resizing.under_way (resizing_together (mark o.first h + 1) pending resizing.begun) before legal still (none_of _ (write_in k) unwritten) causes victim withdrawal spaces

pub moves : (o : Opening) (pages : ℕ → ℕ) (h : List Entry) (accounts : ℕ → List Event) (c n : ℕ) (pending : List Entry) (p : PageId) (from to : ℕ) → IsResizing (accounts c) n pending
    → IsFixedByNone accounts p → IsMove o.config h c n p from to → MayAdd o pages h accounts c n (kind.Move p from to)
moves o pages h accounts c n pending p from to resizing free move =
    in_resize o pages h accounts c n pending (kind.Move p from to) resizing tt tt free refl (λ past told. tt) tt move (record { inside = tt; told = tt })

pub shrinks : (o : Opening) (pages : ℕ → ℕ) (h : List Entry) (accounts : ℕ → List Event) (c n : ℕ) (pending : List Entry) (chunks : ℕ) → IsResizing (accounts c) n pending
    → IsShrink o.config (book o.config h) c n chunks → MayAdd o pages h accounts c n (kind.Shrink chunks)
shrinks o pages h accounts c n pending chunks resizing shrink =
    in_resize o pages h accounts c n pending (kind.Shrink chunks) resizing tt tt tt refl (λ past told. tt) tt shrink (record { inside = tt; told = tt })

pub undoes : (o : Opening) (pages : ℕ → ℕ) (h : List Entry) (accounts : ℕ → List Event) (c n : ℕ) (pending : List Entry) (from : ℕ) → IsResizing (accounts c) n pending
    → IsUndo (book o.config h) c n from → MayAdd o pages h accounts c n (kind.Undo from)
undoes o pages h accounts c n pending from resizing undo =
    in_resize o pages h accounts c n pending (kind.Undo from) resizing tt tt tt refl (λ past told. tt) tt undo (record { inside = tt; told = tt })

-- A resize is answered, at first or behind its steps; where it began its places were left.
pub resizes : (o : Opening) (pages : ℕ → ℕ) (h base : List Entry) (accounts : ℕ → List Event) (c n : ℕ) (pending : List Entry) (bytes chunks : ℕ) → IsUnderWay (accounts c) n pending → IsTogether (mark o.first h + 1) pending
    → before_call pending h ≡ base → AreOfResize pending → IsResized o.config (book o.config h) bytes chunks → MayAsk o pages base c n (call.Resize bytes 0) → 1 ≤ bytes → chunks_for o.config bytes ≤ o.config.max
    → others_area (book o.config h) c n ≡ None → MayAdd o pages h accounts c n (kind.Resize bytes chunks)
resizes o pages h base accounts c n pending bytes chunks calling together at steps legal ask some fits none =
    by_parts o pages h accounts c n pending (kind.Resize bytes chunks) calling together steps legal tt tt
    (granted o pages h base (accounts c) c n (call.Resize bytes 0) (ap (λ l. before_call l h) calling.made_are ∙ at) ask (none_due_resize o h (accounts c) c n bytes 0 some fits none)) tt tt (record { inside = tt; told = tt })

-- A refusal is an entry where its cause holds, and the call's entries may stand before it.
pub refuses : (o : Opening) (pages : ℕ → ℕ) (h : List Entry) (accounts : ℕ → List Event) (c n : ℕ) (pending : List Entry) (asked : Call) (why : Cause) → IsUnderWay (accounts c) n pending → IsTogether (mark o.first h + 1) pending
    → MayPrecedeRefusal h pending asked why → MayRefuse o pages h (accounts c) c n asked why → MayAdd o pages h accounts c n (kind.Refused asked why)
refuses o pages h accounts c n pending asked why calling together before may =
    by_parts o pages h accounts c n pending (kind.Refused asked why) calling together before tt tt tt may.causes tt tt (record { inside = may.spaces.inside; told = may.spaces.told })

-- A victim that was clean, of a call that has made nothing.
pub made_own : (n : ℕ) (mine : List Event) → made n mine ≡ filter (λ (e : Entry). nat_eq e.number n) (entries mine)
made_own n [] = refl
made_own n (event.Entry e ∷ mine) = cases (nat_eq e.number n) (made_own n mine)
  where
    cases : (b : Bool) → made n mine ≡ filter (λ (e : Entry). nat_eq e.number n) (entries mine) → cond b (e ∷ made n mine) (made n mine) ≡ cond b (e ∷ filter (λ (e : Entry). nat_eq e.number n) (entries mine)) (filter (λ (e : Entry). nat_eq e.number n) (entries mine))
    cases true is = ap (λ l. e ∷ l) is
    cases false is = is
made_own n (event.Receipt r ∷ mine) = made_own n mine

nothing_written : (c n : ℕ) (p : PageId) (h : List Entry) → filter (λ (e : Entry). nat_eq e.number n) (entries_of c h) ≡ [] → before_write c n p h ≡ h
nothing_written c n p [] none = refl
nothing_written c n p (e ∷ h) none = cases (nat_eq e.caller c) (nat_eq e.number n) refl refl
  where
    never : nat_eq e.caller c ≡ true → nat_eq e.number n ≡ true → ⊥
    never a b =
        let F : List Entry → List Entry = λ l. filter (λ (x : Entry). nat_eq x.number n) l in
        let own : entries_of c (e ∷ h) ≡ e ∷ entries_of c h = ap (λ (t : Bool). cond t (e ∷ entries_of c h) (entries_of c h)) a in
        let here : F (e ∷ entries_of c h) ≡ e ∷ F (entries_of c h) = ap (λ (t : Bool). cond t (e ∷ F (entries_of c h)) (F (entries_of c h))) b in
        let bad : e ∷ F (entries_of c h) ≡ [] = sym here ∙ ap F (sym own) ∙ none in absurd (cc)

    written : Bool
    written = option_map_or (λ (w : Writing). same_page w.page p) (write_in e.kind) false

    cases : (a b : Bool) → nat_eq e.caller c ≡ a → nat_eq e.number n ≡ b → cond (nat_eq e.caller c && nat_eq e.number n && written) h (e ∷ h) ≡ e ∷ h
    cases true true ta tb = absurd (never ta tb)
    cases true false ta tb = ap (λ (t : Bool). cond (t && nat_eq e.number n && written) h (e ∷ h)) ta ∙ ap (λ (t : Bool). cond (t && written) h (e ∷ h)) tb
    cases false b ta tb = ap (λ (t : Bool). cond (t && nat_eq e.number n && written) h (e ∷ h)) ta

pub clean_victim : (o : Opening) (h : List Entry) (mine : List Event) (c n : ℕ) (p : PageId) (f : ℕ) (passed : List (ℕ × Word)) → IsCalling mine n [] → entries mine ≡ entries_of c h
    → IsSought o.config h p passed → is_dirty h p ≡ false → home h p ≡ Some f → IsVictimOf o.config h c n p f passed
clean_victim o h mine c n p f passed calling kept sought clean housed =
    let S : List Entry → Type 0 = λ l. IsSought o.config l p passed in
    let none : filter (λ (e : Entry). nat_eq e.number n) (entries_of c h) ≡ [] = ap (filter (λ (e : Entry). nat_eq e.number n)) (sym kept) ∙ sym (made_own n mine) ∙ calling.made_are in
    record { sought = subst S (sym (nothing_written c n p h none)) sought; clean = clean; housed = housed }

-- a victim that was dirty, behind its write by the same call
pub written_victim : (o : Opening) (h : List Entry) (e : Entry) (p : PageId) (lsn upto f : ℕ) (passed : List (ℕ × Word)) → e.kind ≡ kind.Write p lsn upto
    → IsSought o.config h p passed → home h p ≡ Some f → IsVictimOf o.config (e ∷ h) e.caller e.number p f passed
written_victim o h e p lsn upto f passed is sought housed =
    let S : List Entry → Type 0 = λ l. IsSought o.config l p passed in
    let C : Kind → Type 0 = λ k. is_some (dirt_of (Rattle.trail.specs.Dirt.dirty_after k (dirty h)) p) ≡ false in
    let H : Kind → Type 0 = λ k. Rattle.trail.specs.History.home_after k p (home h p) ≡ Some f in
    let back : before_write e.caller e.number p (e ∷ h) ≡ h =
    ap (λ (t : Bool). cond (t && nat_eq e.number e.number && written e.kind) h (e ∷ h)) (eq-eqb e.caller e.caller refl) ∙ ap (λ (t : Bool). cond (t && written e.kind) h (e ∷ h)) (eq-eqb e.number e.number refl)
    ∙ ap (λ k. cond (written k) h (e ∷ h)) is ∙ ap (λ (t : Bool). cond t h (e ∷ h)) (same_self p) in
    record {
      sought = subst S (sym back) sought;
      clean = subst C (sym is) (is_cleaned p p (dirty h) ∙ ap (λ (t : Bool). not t && is_some (dirt_of (dirty h) p)) (same_self p));
      housed = subst H (sym is) housed;
    }
  where
    written : Kind → Bool
    written k = option_map_or (λ (w : Writing). same_page w.page p) (write_in k) false
