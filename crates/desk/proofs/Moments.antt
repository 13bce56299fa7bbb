-- What a call keeps, put together from what its steps keep.
use Rattle.std.proofs.Common.{◌≡◌, false, ◌<◌, ◌≤◌, ◌+◌, ◌^◌, ℕ, List, [], ◌∷◌, Option, IfSome, length, refl, ap, ◌∙◌, sym, subst, arith, inl, inr, ◌⊎◌, None}
use Rattle.std.specs.Prelude.{Some, IsSomeAnd, unwrap_or}
use Rattle.page_ids.specs.Content.{Content}
use Rattle.page_ids.specs.declared.config.Config.{Config}
use Rattle.page_ids.specs.declared.ids.PageId.{PageId}
use Rattle.page_ids.specs.declared.layout.BadPage.{BadPage}
use Rattle.page_disk.specs.Disks.{DiskSeen, pages_in, IsInside}
use Rattle.redo_mark.specs.Device.{RedoSeen}
use Rattle.redo_mark.specs.Logs as log
use Rattle.redo_mark.specs.Logs.{Holds, IsLater, IsLonger, IsKept}
use Rattle.redo_mark.specs.Records.{head_of, sealed}
use Rattle.redo_mark.specs.declared.record.Change.{Change}
use Rattle.trail.specs.declared.event.Call.{Call}
use Rattle.trail.specs.declared.event.Call.TheVariants as call
use Rattle.trail.specs.declared.event.Cause.{Cause}
use Rattle.trail.specs.declared.event.Entry.{Entry}
use Rattle.trail.specs.declared.event.Kind.{Kind}
use Rattle.trail.specs.declared.event.Kind.TheVariants as kind
use Rattle.trail.specs.declared.event.Cause.TheVariants as cause
use Rattle.trail.specs.Dirt.{is_dirty, log_end, log_end_after}
use Rattle.trail.specs.History.{home}
use Rattle.trail.specs.Words.{cause_words}
use Rattle.frame_words.specs.Seen.{FramesSeen}
use Rattle.desk.specs.Answers.{IsAsked, IsRefusable, Had, Unhad, MayTake, Uncreated, Unfixed}
use Rattle.desk.specs.Base.{Opened}
use Rattle.desk.specs.Behind.{IsBehind}
use Rattle.desk.specs.Changes.{LeavesDesk}
use Rattle.desk.specs.Claimed.{HasLooked}
use Rattle.desk.specs.Creating.{IsCreateRefusal, LeavesLog, create_err_of}
use Rattle.desk.specs.Fixing.{IsFixRefusal, IsUnlogged, fix_err_of}
use Rattle.desk.specs.Ledger.{entry_behind}
use Rattle.desk.specs.Loads.{IsOneMore, MayFix}
use Rattle.desk.specs.Logged.{IsLogged, IsLoggedKind, IsMarkBehind, AreUpTo, IsUpTo}
use Rattle.desk.specs.Moments.{LogSeen, log_seen, Moment, moment, IsEmptyHanded, IsAtRest, IsBetweenSteps, IsReady, Follows, Came, KeepsTo, Keeps, Proceeds, UsesLog, IsAsLong, Adds, IsSameDevice}
use Rattle.desk.specs.State.{State}
use Rattle.desk.specs.Steps.{IsAppended, OnlyReads, RefusesCall, next_entry}
use Rattle.desk.specs.Tied.{AreTied}
use Rattle.desk.specs.Victims.{AreSettled, AsksFor, MustCover}
use Rattle.desk.specs.declared.calls.Caller.{Caller}
use Rattle.desk.specs.declared.calls.CreateErr.{CreateErr}
use Rattle.desk.specs.declared.calls.FixErr.{FixErr}
use Rattle.desk.specs.declared.calls.FixErr.TheVariants as unfix
use Rattle.desk.specs.declared.calls.FrameErr.{FrameErr}
use Rattle.desk.proofs.Claims.{tied_looked, behind_looked}
use Rattle.desk.proofs.Cleaning.{later_same, later_on, leaves_on}
use Rattle.desk.proofs.Coming.{follows_none, came_none, came_one, came_on}
use Rattle.desk.proofs.Creating.{unhad_create, unforced_unused}
use Rattle.desk.proofs.Evicting.{leaves_more, leaves_none}
use Rattle.desk.proofs.Fixing.{leaves_told, any_open, few_held, full_held, still_inside, had_clean, still_may, unhad_refused, unforced_unlogged, unhad_no_bad, needs_a_frame}
use Rattle.desk.proofs.Hands.{hand_still}
use Rattle.desk.proofs.Loading.{inside_below}
use Rattle.desk.proofs.Logging.{logged_later, upto_none, upto_more}

-- a page below the end of its space lies inside
pub inside_of : (spaces : ℕ → Option ℕ) (p : PageId) → p.page < pages_in spaces p.space → IsInside spaces p
inside_of spaces p below = go (spaces p.space) below
  where
    go : (n : Option ℕ) → p.page < unwrap_or n 0 → IsSomeAnd n (λ m. p.page < m)
    go None below = absurd (omega (arith, below))
    go (Some m) below = below

-- what is seen of a log is as it was where the log is, which else had to be made durable
pub seen_same : {R M : Type 0} (seen : R → RedoSeen) (was is : log.State R) → (is ≡ was) ⊎ M → (log_seen seen is ≡ log_seen seen was) ⊎ M
seen_same seen was is (inl same) = inl (ap (log_seen seen) same)
seen_same seen was is (inr must) = inr must

-- a record was appended to a log to which nothing else was
pub adds_of : (old mid new : LogSeen) (c : Change) (draft : List ℕ) (start : ℕ) → IsAsLong old mid → draft ≡ head_of c → start ≡ mid.seen.end → IsLonger mid.seen new.seen (sealed draft start) → Holds new.seen (sealed draft start) start
    → Adds old new c start
adds_of old mid new c draft start as_long same here longer holds = record {
  start_is = here ∙ as_long;
  holds = subst (λ (d : List ℕ). Holds new.seen (sealed d start) start) same holds;
  end = subst (λ (d : List ℕ). new.seen.end ≡ start + length (sealed d start)) same (longer.end ∙ ap (λ (n : ℕ). n + length (sealed draft start)) (sym here));
}

module _ {D : Type 0} where
  -- the log's device was not used by a step behind a search that used it only where it had to
  pub device_used : (m : Moment D) (mid new : LogSeen) → new.told ≡ mid.told → new.seen.durable ≡ mid.seen.durable → (mid ≡ m.log) ⊎ MustCover m.desk m.frames.rows m.log.seen.durable
      → IsSameDevice m.log new ⊎ MustCover m.desk m.frames.rows m.log.seen.durable
  device_used m mid new told durable (inl same) = inl (record { told_is = told ∙ ap (λ (l : LogSeen). l.told) same; durable_is = durable ∙ ap (λ (l : LogSeen). l.seen.durable) same })
  device_used m mid new told durable (inr must) = inr must

  pub uses_none : (m : Moment D) → UsesLog m m
  uses_none m = record { upto = upto_none m.log.seen.durable m.desk.history; mark = inl refl }

  -- an entry that is no write was appended behind a use of the log, whose durable mark stayed
  pub uses_more : (l m n : Moment D) (by : Caller) (k : Kind) → ((mark : ℕ) → IsUpTo mark k) → IsAppended m.desk n.desk by k → n.log.seen.durable ≡ m.log.seen.durable → UsesLog l m → UsesLog l n
  uses_more l m n by k quiet a durable x = record {
    upto = subst (λ (d : ℕ). AreUpTo d l.desk.history n.desk.history) (sym durable)
        (upto_more m.log.seen.durable l.desk.history m.desk.history n.desk.history (entry_behind m.desk.config.first m.desk.history by k) (quiet m.log.seen.durable) a.history x.upto);
    mark = subst (λ (d : ℕ). IsMarkBehind l.log.seen d) (sym durable) x.mark;
  }

  -- one entry more behind a use of the log
  pub uses_one : (l m n : Moment D) → IsOneMore m.desk.history n.desk.history → n.log ≡ m.log → UsesLog l m → UsesLog l n
  uses_one l m n one same x = subst (λ (g : LogSeen). UsesLog l (moment n.desk n.frames g)) (sym same) (record { upto = one.upto m.log.seen.durable l.desk.history x.upto; mark = x.mark })

  -- a refusal does not use the log
  pub uses_refused : (m n : Moment D) (by : Caller) (asked : Call) (why : Cause) → RefusesCall m.desk n.desk by asked why → n.log ≡ m.log → UsesLog m n
  uses_refused m n by asked why a same =
      uses_more m m n by (kind.Refused asked why) (λ mark. tt) a (ap (λ (l : LogSeen). l.seen.durable) same) (uses_none m)

module _ {D : Type 0} (seen : D → DiskSeen) where
  -- nothing happened
  pub keeps_none : (m : Moment D) → IsAtRest seen m.desk m.frames → Keeps seen 0 m m
  keeps_none m rest = record {
    count = omega arith;
    rest = rest;
    desk = leaves_none seen m.desk;
    came = came_none m.desk m.desk m.frames m.frames refl (follows_none m.frames m.frames refl);
    later = later_same m.log.seen;
    opening = refl;
    kept = λ is. is;
    logged = λ is. is;
    known = λ is. is;
    behind = λ o based before. before;
  }

  -- a call that is at rest may go on, and steps that leave no frame in hand are a call
  pub under_way : (desk : State D) (s : FramesSeen) (by : Caller) → IsAtRest seen desk s → IsBetweenSteps seen by desk s
  under_way desk s by rest = record { tied = rest.tied; settled = rest.settled; hand = inl rest.hands }

  keeps_ending : {Leaves : State D → FramesSeen → Type 0} (Ends : State D → FramesSeen → Type 0) (most : ℕ) (m n : Moment D) → KeepsTo seen Leaves most m n → Ends n.desk n.frames → KeepsTo seen Ends most m n
  keeps_ending Ends most m n k rest = record {
    count = k.count;
    rest = rest;
    desk = k.desk;
    came = k.came;
    later = k.later;
    opening = k.opening;
    kept = k.kept;
    logged = k.logged;
    known = k.known;
    behind = k.behind;
  }

  pub keeps_going : (most : ℕ) (m n : Moment D) (by : Caller) → Keeps seen most m n → Proceeds seen by most m n
  keeps_going most m n by k = keeps_ending (IsBetweenSteps seen by) most m n k (under_way n.desk n.frames by k.rest)

  pub keeps_ended : (most : ℕ) (m n : Moment D) (by : Caller) → Proceeds seen by most m n → IsEmptyHanded n.desk → Keeps seen most m n
  keeps_ended most m n by k none = keeps_ending (IsAtRest seen) most m n k (record { tied = k.rest.tied; settled = k.rest.settled; hands = none })

  -- more entries might have been appended
  pub keeps_most : {Leaves : State D → FramesSeen → Type 0} (a b : ℕ) (m n : Moment D) → a ≤ b → KeepsTo seen Leaves a m n → KeepsTo seen Leaves b m n
  keeps_most a b m n le k = record {
    count = omega (arith, le, k.count);
    rest = k.rest;
    desk = k.desk;
    came = k.came;
    later = k.later;
    opening = k.opening;
    kept = k.kept;
    logged = k.logged;
    known = k.known;
    behind = k.behind;
  }

  -- room was made, and nothing else happened
  pub keeps_reserved : (most : ℕ) (old new : State D) (s : FramesSeen) (l : LogSeen) → new ≡ old → IsAtRest seen old s → Keeps seen most (moment old s l) (moment new s l)
  keeps_reserved most old new s l same rest = subst (λ (d : State D). Keeps seen most (moment old s l) (moment d s l)) (sym same) (keeps_most 0 most (moment old s l) (moment old s l) (omega arith) (keeps_none (moment old s l) rest))

  -- one step behind another
  pub keeps_on : {Leaves Ends : State D → FramesSeen → Type 0} (a b : ℕ) (l m n : Moment D) → KeepsTo seen Leaves a l m → KeepsTo seen Ends b m n → KeepsTo seen Ends (a + b) l n
  keeps_on a b l m n x y = record {
    count = omega (arith, x.count, y.count);
    rest = y.rest;
    desk = leaves_on seen l.desk m.desk n.desk x.desk y.desk;
    came = came_on l.desk m.desk n.desk l.frames m.frames n.frames x.came y.came;
    later = later_on l.log.seen m.log.seen n.log.seen x.later y.later;
    opening = y.opening ∙ x.opening;
    kept = λ is. y.kept (x.kept is);
    logged = λ is. y.logged (x.logged is);
    known = λ is. y.known (x.known is);
    behind = λ o based before. y.behind o (subst (λ (b : Option (PageId → Option Content)). IfSome b (λ base. base ≡ o.base)) (sym x.came.view.base) based) (x.behind o based before);
  }

  -- one entry came which tells nothing of the log, and the disk was used
  pub keeps_more : (old new : State D) (s t : FramesSeen) (l : LogSeen) → IsOneMore old.history new.history → LeavesDesk seen old new → IsAtRest seen new t → Came old new s t
      → ((o : Opened) → IfSome s.base (λ base. base ≡ o.base) → IsBehind seen o old s → IsBehind seen o new t) → Keeps seen 1 (moment old s l) (moment new t l)
  keeps_more old new s t l one desk rest came behind = record {
    count = let e = one.count in omega (arith, e);
    rest = rest;
    desk = desk;
    came = came;
    later = later_same l.seen;
    opening = refl;
    kept = λ is. is;
    logged = one.logged l.seen;
    known = λ is. let e = one.ends in omega (arith, e, is);
    behind = behind;
  }

  -- one entry was appended, and the log has of it what it needs
  pub keeps_entry : (old new : State D) (s t : FramesSeen) (l : LogSeen) (by : Caller) (k : Kind) → IsAppended old new by k → new.disk ≡ old.disk
      → IsLoggedKind l.seen k → (log_end old.history ≤ l.seen.end → log_end_after k (log_end old.history) ≤ l.seen.end) → IsAtRest seen new t → Follows (next_entry old by k ∷ []) s t
      → ((o : Opened) → IfSome s.base (λ base. base ≡ o.base) → IsBehind seen o old s → IsBehind seen o new t) → Keeps seen 1 (moment old s l) (moment new t l)
  keeps_entry old new s t l by k a disk logged known rest view behind = record {
    count = let e = ap (length {A = Entry}) a.history in omega (arith, e);
    rest = rest;
    desk = leaves_more seen old old new (leaves_none seen old) a.config a.instance disk;
    came = came_one old new s t by k a view;
    later = later_same l.seen;
    opening = refl;
    kept = λ is. is;
    logged = λ is. subst (λ (h : List Entry). IsLogged l.seen h) (sym a.history) (logged, is);
    known = λ is. let e = ap log_end a.history in let k = known is in omega (arith, e, k);
    behind = behind;
  }

  -- the log alone went on
  pub keeps_log : (Leaves : State D → FramesSeen → Type 0) (desk : State D) (s : FramesSeen) (l k : LogSeen) → Leaves desk s → IsLater l.seen k.seen → k.opening ≡ l.opening → IsKept k.seen k.told
      → KeepsTo seen Leaves 0 (moment desk s l) (moment desk s k)
  keeps_log Leaves desk s l k rest later opening kept = record {
    count = omega arith;
    rest = rest;
    desk = leaves_none seen desk;
    came = came_none desk desk s s refl (follows_none s s refl);
    later = later;
    opening = opening;
    kept = λ before. kept;
    logged = λ is. logged_later l.seen k.seen desk.history later is;
    known = λ is. let e = later.end in omega (arith, e, is);
    behind = λ o based before. before;
  }

  pub read_under_way : (old mid : State D) (s t : FramesSeen) (by : Caller) → OnlyReads seen old mid → t ≡ s → AreTied seen t mid → IsBetweenSteps seen by old s → IsBetweenSteps seen by mid t
  read_under_way old mid s t by reads same tied rest = record {
    tied = tied;
    settled = subst (λ (x : FramesSeen). AreSettled x.rows) (sym same) rest.settled;
    hand = hand_still old mid by reads.config reads.history rest.hand;
  }

  -- the disk alone was read
  pub keeps_read : (Leaves : State D → FramesSeen → Type 0) (old mid : State D) (s t : FramesSeen) (l : LogSeen) → OnlyReads seen old mid
      → t ≡ s → Leaves mid t → ((o : Opened) → IsBehind seen o old s → IsBehind seen o mid t) → KeepsTo seen Leaves 0 (moment old s l) (moment mid t l)
  keeps_read Leaves old mid s t l reads same rest behind = record {
    count = let e = ap (length {A = Entry}) reads.history in omega (arith, e);
    rest = rest;
    desk = leaves_told seen old mid reads.config reads.instance reads.disk;
    came = came_none old mid s t reads.history (follows_none s t same);
    later = later_same l.seen;
    opening = refl;
    kept = λ is. is;
    logged = λ is. subst (λ (h : List Entry). IsLogged l.seen h) (sym reads.history) is;
    known = λ is. let e = ap log_end reads.history in omega (arith, e, is);
    behind = λ o based before. behind o before;
  }

  -- the frames were looked at
  pub rest_looked : (s t : FramesSeen) (desk : State D) → HasLooked s t → IsAtRest seen desk s → IsAtRest seen desk t
  rest_looked s t desk looked rest = record { tied = tied_looked seen s t desk looked rest.tied; settled = subst AreSettled (sym (ap (λ (u : FramesSeen). u.rows) looked.is)) rest.settled; hands = rest.hands }

  pub keeps_looked : (desk : State D) (s t : FramesSeen) (l : LogSeen) → HasLooked s t → IsAtRest seen desk s → Keeps seen 0 (moment desk s l) (moment desk t l)
  keeps_looked desk s t l looked rest = record {
    count = omega arith;
    rest = rest_looked s t desk looked rest;
    desk = leaves_none seen desk;
    came = came_none desk desk s t refl (record { turn = ap (λ (u : FramesSeen). u.turn) looked.is; opened = ap (λ (u : FramesSeen). u.opened) looked.is; history = ap (λ (u : FramesSeen). u.history) looked.is; base = ap (λ (u : FramesSeen). u.base) looked.is });
    later = later_same l.seen;
    opening = refl;
    kept = λ is. is;
    logged = λ is. is;
    known = λ is. is;
    behind = λ o based before. behind_looked seen o s t desk looked before;
  }

  -- places for the entries that are still to come
  pub places_on : {Leaves : State D → FramesSeen → Type 0} (a b : ℕ) (m n : Moment D) → KeepsTo seen Leaves a m n → m.desk.config.first + length m.desk.history + (a + b) < 2 ^ 48 → n.desk.config.first + length n.desk.history + b < 2 ^ 48
  places_on a b m n k places =
      let first = ap (λ (c : Config). c.first) k.desk.config in let count = k.count in omega (arith, first, count, places)

  -- the caller's page may come into the frame that was had
  pub take_on : {Leaves : State D → FramesSeen → Type 0} (a : ℕ) (m n : Moment D) (by : Caller) (p : PageId) (f : ℕ) → Had seen m n by p f → KeepsTo seen Leaves a m n → MayTake seen m.frames m.desk by p → MayTake seen n.frames n.desk by p
  take_on a m n by p f had k may = record {
    caller = still_may m.frames n.frames m.desk n.desk by p had.turn k.desk.config k.desk.instance may.caller;
    absent = had.sought.absent;
    inside = still_inside seen m.desk.disk n.desk.disk p k.desk.spaces_are may.inside;
    clean = had_clean m.desk n.desk m.frames.rows n.frames.rows by f p had.had may.clean;
  }

  -- no page is made for which no frame was had
  pub unhad_created : (m n : Moment D) (by : Caller) (held : ℕ) (p : PageId) (now : ℕ) (e : FrameErr) → held < 64 → MayTake seen m.frames m.desk by p → Unhad seen m n by p (call.Create p now) e
      → Uncreated seen m n by held p now (create_err_of e)
  unhad_created m n by held p now e few may u = record {
    refused = unhad_create seen m.desk n.desk m.frames.rows n.frames.rows by held p now m.log.seen.durable m.log.seen.end n.log.seen.end m.log.seen.faults n.log.seen.faults e
        (inside_below (seen m.desk.disk).spaces p may.inside) few may.absent u.unmoved u.refused;
    unused = unforced_unused m.log n.log e u.unforced;
    log = u.sought.log;
    as_long = u.sought.as_long;
    covered = device_used m n.log n.log refl refl u.sought.covered;
  }

  -- no page is fixed for which no frame was had
  pub unhad_fixed : (m n : Moment D) (by : Caller) (held : ℕ) (p : PageId) (now : ℕ) (e : FrameErr) → held < 64 → MayTake seen m.frames m.desk by p → Unhad seen m n by p (call.Fix p now) e
      → Unfixed seen m n by held p now (fix_err_of e)
  unhad_fixed m n by held p now e few may u = record {
    refused = unhad_refused seen m.desk n.desk m.frames.rows n.frames.rows by held p now m.log.seen.durable m.log.seen.faults n.log.seen.faults e
        (inside_below (seen m.desk.disk).spaces p may.inside) few may.absent u.unmoved u.refused;
    log = u.sought.log;
    as_long = u.sought.as_long;
    idle = needs_a_frame seen m.desk held p may.absent (inside_below (seen m.desk.disk).spaces p may.inside) few u.sought.free;
    covered = u.sought.covered;
    unused = unforced_unlogged m.log n.log e u.unforced;
    unsound = λ o bad before is. absurd (unhad_no_bad e bad is);
  }

  -- a fix was refused, and the log was not used
  pub unfixed_still : (old new : State D) (s t : FramesSeen) (l : LogSeen) (by : Caller) (held : ℕ) (p : PageId) (now : ℕ) (e : FixErr) (why : Cause)
      → IsFixRefusal seen old new s.rows t.rows by held p now l.seen.durable l.seen.faults l.seen.faults e → RefusesCall old new by (call.Fix p now) why → IsUnlogged l l e → ((bad : BadPage) → e ≡ unfix.BadPage bad → ⊥)
      → Unfixed seen (moment old s l) (moment new t l) by held p now e
  unfixed_still old new s t l by held p now e why refused entry unused sound = record {
    refused = refused;
    log = uses_refused (moment old s l) (moment new t l) by (call.Fix p now) why entry refl;
    as_long = refl;
    idle = λ none. refl;
    covered = inl refl;
    unused = unused;
    unsound = λ o bad before is. absurd (sound bad is);
  }

  -- and so a create
  pub uncreated_still : (old new : State D) (s t : FramesSeen) (l : LogSeen) (by : Caller) (held : ℕ) (p : PageId) (now : ℕ) (e : CreateErr) (why : Cause)
      → IsCreateRefusal seen old new s.rows t.rows by held p now l.seen.durable l.seen.end l.seen.end l.seen.faults l.seen.faults e → RefusesCall old new by (call.Create p now) why → LeavesLog l l e
      → Uncreated seen (moment old s l) (moment new t l) by held p now e
  uncreated_still old new s t l by held p now e why refused entry unused = record {
    refused = refused;
    unused = unused;
    log = uses_refused (moment old s l) (moment new t l) by (call.Create p now) why entry refl;
    as_long = refl;
    covered = device_used (moment old s l) l l refl refl (inl refl);
  }

  -- Behind the tests that fix and create share: the page of a caller that may fix it may come into a frame, where it has none.
  pub may_fix : (m : Moment D) (by : Caller) (held : ℕ) (p : PageId) → IsReady seen m by → IsAsked m.frames m.desk held p → held < 64 → MayFix m.frames m.desk by p
  may_fix m by held p ready asked few = record { turn = ready.turn; own = asked.own; few = few_held m.frames.opened held few asked.held_is }

  pub may_take : (m : Moment D) (by : Caller) (held : ℕ) (p : PageId) → IsReady seen m by → IsAsked m.frames m.desk held p → held < 64 → p.page < pages_in (seen m.desk.disk).spaces p.space
      → home m.desk.history p ≡ None → is_dirty m.desk.history p ≡ false → MayTake seen m.frames m.desk by p
  may_take m by held p ready asked few within absent clean = record {
    caller = may_fix m by held p ready asked few;
    absent = absent;
    inside = inside_of (seen m.desk.disk).spaces p within;
    clean = clean;
  }

  -- each of those tests may refuse the call
  pub outside_refusable : (m : Moment D) (by : Caller) (held : ℕ) (p : PageId) (asked : Call) (pages : ℕ) → IsReady seen m by → IsAsked m.frames m.desk held p → AsksFor p asked → cause_words asked (cause.NoSuchPage pages) ≡ []
      → IsRefusable m.frames m.desk by p asked (cause.NoSuchPage pages)
  outside_refusable m by held p asked pages ready is for_page words = record { turn = ready.turn; own = is.own; for_page = for_page; may = record { words = words; fits = any_open m.frames.opened } }

  pub full_refusable : (m : Moment D) (by : Caller) (held : ℕ) (p : PageId) (asked : Call) (full : ℕ) → IsReady seen m by → IsAsked m.frames m.desk held p → AsksFor p asked → cause_words asked (cause.HoldFull full) ≡ [] → 64 ≤ held
      → IsRefusable m.frames m.desk by p asked (cause.HoldFull full)
  full_refusable m by held p asked full ready is for_page words most = record { turn = ready.turn; own = is.own; for_page = for_page; may = record { words = words; fits = full_held m.frames.opened held most is.held_is } }
