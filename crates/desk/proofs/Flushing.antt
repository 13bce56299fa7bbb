-- Writes of dirty pages with a cover of the log, a sync and an answer behind them.
use Rattle.std.proofs.Common.{◌≡◌, ◌<◌, ◌≤◌, ◌+◌, ◌⊎◌, ◌∷◌, ℕ, Bool, true, false, List, [], length, refl, ap, ◌∙◌, sym, subst, arith, inl, inr}
use Rattle.std.specs.Prelude.{IsTrue, IsSome, Result, Ok, Err}
use Rattle.page_ids.specs.declared.config.Config.{Config}
use Rattle.page_ids.specs.declared.lists.Words.{Words}
use Rattle.page_ids.specs.declared.ids.PageId.{PageId}
use Rattle.page_disk.specs.Disks.{DiskSeen, IsSameDisk, IsOtherwiseSame}
use Rattle.redo_mark.specs.Logs.{Seen}
use Rattle.trail.specs.declared.event.Call.TheVariants as call
use Rattle.trail.specs.declared.event.Cause.{Cause}
use Rattle.trail.specs.declared.event.Dirty.{Dirty}
use Rattle.trail.specs.declared.event.Entry.{Entry}
use Rattle.trail.specs.declared.event.Kind.{Kind}
use Rattle.trail.specs.declared.event.Kind.TheVariants as kind
use Rattle.trail.specs.Dirt.{dirty, log_end}
use Rattle.trail.specs.History.{home}
use Rattle.frame_words.specs.Appends.{appended}
use Rattle.frame_words.specs.Seen.{FramesSeen}
use Rattle.desk.specs.Base.{Opened}
use Rattle.desk.specs.Behind.{IsBehind}
use Rattle.desk.specs.Changes.{IsWriteBack, WritesBack, IsWriteFault, IsForced, LeavesDesk, AreMarked, IsCleanedBy}
use Rattle.desk.specs.Claimed.{cause_of}
use Rattle.desk.specs.Cleans.{IsFirstCovered, IsUnwrittenMark, IsCleanMark, MayWriteBack, LeavesRoom, IsFirstDirty, IsFirstAhead, NeedsNoLog, NeedsLog, IsStop, IsNeeded, StaysPut, WroteFirst, UnwroteFirst, Flushed, Unflushed, LeavesClean, IsUncleaned, IsCleanRefusal, HasCleaned, clean_err_of}
use Rattle.desk.specs.Ledger.{entry_behind}
use Rattle.desk.specs.Reads.{RoseWithin}
use Rattle.desk.specs.Moments.{LogSeen, Moment, moment, HasRoomFor, IsAtRest, Keeps}
use Rattle.desk.specs.State.{State, DeskWithRoom}
use Rattle.desk.specs.Steps.{IsAppended, next_entry}
use Rattle.desk.specs.Tied.{HasTurn}
use Rattle.desk.specs.Victims.{AreSettled}
use Rattle.desk.specs.Writing.{Covers, IsLeftAt}
use Rattle.desk.specs.declared.calls.Caller.{Caller}
use Rattle.desk.specs.declared.calls.Cleaned.{Cleaned}
use Rattle.desk.specs.declared.calls.CleanErr.{CleanErr}
use Rattle.desk.specs.declared.calls.CleanErr.TheVariants as unclean
use Rattle.desk.specs.declared.flush.WriteErr.{WriteErr}
use Rattle.desk.specs.declared.flush.WriteErr.TheVariants as unwritten
use Rattle.desk.proofs.Changing.{cleaned_tied, cleaned_behind, refused_tied, refused_behind, synced_tied, synced_behind}
use Rattle.desk.proofs.Cleaning.{writes_count, writes_more, fault_wider, forced_same, forced_behind, marked_none, marked_on, marked_cleaned, marked_refused}
use Rattle.desk.proofs.Coming.{follows_one}
use Rattle.desk.proofs.Evicting.{fault_logged}
use Rattle.desk.proofs.Hands.{hands_on, hands_refused, hands_still}
use Rattle.desk.proofs.Moments.{keeps_none, keeps_most, keeps_on, keeps_entry, keeps_log, keeps_read}

-- where nothing is to be synced, a stop and a need are the same with a sync
stop_sooner : (written most : ℕ) (sync : Bool) (left : List Dirty) → IsStop written most false left → IsStop written most sync left
stop_sooner written most sync left (inl some) = inl some
stop_sooner written most sync left (inr none) = let bad : false ≡ true = none.0 in absurd (cc)

need_sooner : (written most : ℕ) (sync : Bool) (left : List Dirty) (log : Seen) (e : WriteErr) → IsNeeded written most false left log e → IsNeeded written most sync left log e
need_sooner written most sync left log (unwritten.RedoFault before after) (inl ahead) = inl ahead
need_sooner written most sync left log (unwritten.RedoFault before after) (inr none) = let bad : false ≡ true = none.0 in absurd (cc)
need_sooner written most sync left log (unwritten.DiskFault before after) stop = stop_sooner written most sync left stop

pub first_is : (h : List Entry) (d : Dirty) → ((rest : List Dirty) × (dirty h ≡ d ∷ rest)) → IsSome (home h d.page) → d.newest ≤ log_end h → IsFirstDirty h d
first_is h d front resident logged = record { rest = front.0; first_is = front.1; resident = resident; logged = logged }

-- the page that is dirty first was needed
pub first_needed : {D : Type 0} (old new : D) (written most : ℕ) (d : Dirty) (rest left : List Dirty) (log : Seen) (e : WriteErr) → written < most → left ≡ d ∷ rest
    → IsForced old new (log.durable < d.newest) e → IsNeeded written most false left log e
first_needed old new written most d rest left log (unwritten.RedoFault before after) below is forced =
    inl (below, subst (λ (l : List Dirty). IsFirstAhead l log.durable) (sym is) forced.0)
first_needed old new written most d rest left log (unwritten.DiskFault before after) below is forced = inl (below, let n = ap (length {A = Dirty}) is in omega (arith, n))

-- the sync needs the log where that isn't durable up to its end, and else the disk
cover_needed : (written most : ℕ) (left : List Dirty) (log : Seen) (e : WriteErr) → (written ≡ most) ⊎ (left ≡ []) → log.durable < log.end → IsNeeded written most true left log e
cover_needed written most left log (unwritten.RedoFault before after) all behind = inr (refl, all, behind)
cover_needed written most left log (unwritten.DiskFault before after) all behind = inr (refl, all)

sync_needed : {D : Type 0} (old new : D) (written most : ℕ) (left : List Dirty) (log : Seen) (e : WriteErr) → (written ≡ most) ⊎ (left ≡ []) → IsForced old new ⊥ e → IsNeeded written most true left log e
sync_needed old new written most left log (unwritten.RedoFault before after) all forced = absurd forced.0
sync_needed old new written most left log (unwritten.DiskFault before after) all forced = inr (refl, all)

-- the page that is dirty first is the one whose write failed
left_first : (durable end now : ℕ) (d : Dirty) (rest left : List Dirty) (e : WriteErr) → left ≡ d ∷ rest → IsLeftAt durable end d.newest now e → IsUnwrittenMark durable end left now e
left_first durable end now d rest left (unwritten.RedoFault before after) is at = at
left_first durable end now d rest left (unwritten.DiskFault before after) is at = subst (λ (l : List Dirty). IsFirstCovered durable end l now) (sym is) at

-- what a refused clean says of the mark
left_refused : (mark end now : ℕ) (left : List Dirty) (e : WriteErr) → IsUnwrittenMark mark end left now e → IsCleanMark mark end left now (Err (clean_err_of e))
left_refused mark end now left (unwritten.RedoFault before after) at = at
left_refused mark end now left (unwritten.DiskFault before after) at = at

-- nothing is written where nothing is to be
none_written : (written most : ℕ) (ds : List Dirty) → written ≤ most → written ≤ length ds → (most ≡ 0) ⊎ (ds ≡ []) → written ≡ 0
none_written written most ds le few (inl none) = omega (arith, le, none)
none_written written most ds le few (inr clean) = let n = ap (length {A = Dirty}) clean in omega (arith, few, n)

unstopped : (written most : ℕ) (sync : Bool) (was left : List Dirty) → IsStop written most sync left → sync ≡ false → length was ≡ length left + written → (most ≡ 0) ⊎ (was ≡ []) → ⊥
unstopped written most sync was left (inl some) unsynced all (inl none) = omega (arith, some.0, none)
unstopped written most sync was left (inl some) unsynced all (inr clean) = let n = ap (length {A = Dirty}) clean in omega (arith, some.1, all, n)
unstopped written most sync was left (inr rest) unsynced all few = let bad : true ≡ false = sym rest.0 ∙ unsynced in absurd (cc)

-- a sync needs no log that is durable up to its end
pub sync_not_needed : {D : Type 0} (m : Moment D) (most : ℕ) (sync : Bool) → sync ≡ true → NeedsNoLog m most sync → m.log.seen.end ≤ m.log.seen.durable
sync_not_needed m most sync is (inl whole) = whole
sync_not_needed m most sync is (inr none) = let bad : true ≡ false = sym is ∙ none.0 in absurd (cc)

-- a page more was written
pub one_more : {A : Type 0} (n : ℕ) → (n + 1 ≡ 0) ⊎ A → A
one_more n (inl none) = absurd (omega (arith, none))
one_more n (inr a) = a

-- a clean that is answered otherwise found memory
pub answered_so : {A : Type 0} (r : Result Cleaned CleanErr) → (r ≡ Err unclean.OutOfMemory) ⊎ A → (r ≡ Err unclean.OutOfMemory → ⊥) → A
answered_so r (inl is) other = absurd (other is)
answered_so r (inr a) other = a

pub or_still : {A B C : Type 0} → (B → C) → A ⊎ B → A ⊎ C
or_still on (inl a) = inl a
or_still on (inr b) = inr (on b)

-- the counts of a fault by other names
-- a device that failed is told as such
pub no_memory : {X : Type 0} (e : WriteErr) (r : CleanErr) → r ≡ clean_err_of e → (let x : Result X CleanErr = Err r in x ≡ Err unclean.OutOfMemory) → ⊥
no_memory (unwritten.RedoFault before after) r same bad = absurd (cc)
no_memory (unwritten.DiskFault before after) r same bad = absurd (cc)

module _ {D : Type 0} (seen : D → DiskSeen) where
  -- a page was written, or could not be, and nothing else happened
  pub leaves_written : (old new : State D) (p : PageId) → new ≡ record old { disk = new.disk } → IsOtherwiseSame p (seen old.disk) (seen new.disk) → LeavesDesk seen old new
  leaves_written old new p kept others = record {
    config = ap (λ (x : State D). x.config) kept;
    instance = ap (λ (x : State D). x.instance) kept;
    sizes = others.sizes;
    telling = others.telling;
    spaces_are = others.spaces_are;
    later = others.later;
  }

  -- So many pages were written, the oldest first, and each says the durable mark behind it.
  pub record AreWritten (m n : Moment D) (by : Caller) (written : ℕ) : Type 0 where
    pub writes : WritesBack m.desk.config.first by written m.desk.history n.desk.history
    pub marked : AreMarked m.log.seen.durable m.log.seen.end n.log.seen.durable m.desk.history n.desk.history
    pub keeps : Keeps seen written m n
    pub put : StaysPut seen m n by
    pub unused : written ≡ 0 → n.desk.disk ≡ m.desk.disk

  pub written_none : (m : Moment D) (by : Caller) → IsAtRest seen m.desk m.frames → HasTurn m.frames by → AreWritten m m by 0
  written_none m by rest turn = record {
    writes = refl;
    marked = marked_none m.log.seen.durable m.log.seen.end m.desk.history;
    keeps = keeps_none seen m rest;
    put = record { unmoved = refl; turn = turn; end = refl; behind = λ o before. before };
    unused = λ none. refl;
  }

  -- and one page more
  pub written_more : (m l n : Moment D) (by : Caller) (written : ℕ) → AreWritten m l by written → Keeps seen 1 l n → StaysPut seen l n by → WroteFirst l n by → AreWritten m n by (written + 1)
  written_more m l n by written x keeps put wrote =
      let back = subst (λ (c : Config). IsWriteBack c.first by l.desk.history n.desk.history) x.keeps.desk.config wrote.back in
      let marked = subst (λ (end : ℕ). AreMarked l.log.seen.durable end n.log.seen.durable l.desk.history n.desk.history) x.put.end wrote.marked in
      record {
        writes = writes_more m.desk.config.first by written m.desk.history l.desk.history n.desk.history x.writes back;
        marked = marked_on m.log.seen.durable m.log.seen.end l.log.seen.durable n.log.seen.durable m.desk.history l.desk.history n.desk.history x.marked marked;
        keeps = keeps_on seen written 1 m l n x.keeps keeps;
        put = record { unmoved = put.unmoved ∙ x.put.unmoved; turn = put.turn; end = put.end ∙ x.put.end; behind = λ o before. put.behind o (x.put.behind o before) };
        unused = λ none. absurd (omega (arith, none));
      }

  -- as many as were asked, or all that were dirty
  pub written_all : (m n : Moment D) (by : Caller) (most written : ℕ) → AreWritten m n by written → written ≤ most → (written ≡ most) ⊎ (dirty n.desk.history ≡ []) → Flushed seen m n by most false written
  written_all m n by most written x le all =
      let count = writes_count m.desk.config.first by written m.desk.history n.desk.history x.writes in
      record {
        writes = x.writes;
        mark = n.log.seen.durable;
        marked = x.marked;
        most_is = le;
        few = omega (arith, count.0);
        all = all;
        unused = λ unsynced none. x.unused none;
        synced = λ is. let bad : false ≡ true = is in absurd (cc);
        whole = λ is. let bad : false ≡ true = is in absurd (cc);
        left = λ unsynced. refl;
      }

  pub written_full : (m n : Moment D) (by : Caller) (most written : ℕ) → AreWritten m n by written → written ≡ most → Flushed seen m n by most false most
  written_full m n by most written x full =
      subst (λ (k : ℕ). Flushed seen m n by most false k) full (written_all m n by most written x (omega (arith, full)) (inl full))

  -- the next one could not be written
  pub unwritten_next : (m l n : Moment D) (by : Caller) (most written : ℕ) (first : Dirty) (e : WriteErr) → AreWritten m l by written → written < most → IsFirstDirty l.desk.history first
      → UnwroteFirst seen l n first e → Unflushed seen m n by most false e
  unwritten_next m l n by most written first e x below is failed =
      let back = sym failed.still in
      let count = writes_count m.desk.config.first by written m.desk.history l.desk.history x.writes in
      let some = ap (length {A = Dirty}) is.first_is in
      let left = ap (λ (h : List Entry). length (dirty h)) failed.still in
      record {
        written = written;
        writes = subst (λ (h : List Entry). WritesBack m.desk.config.first by written m.desk.history h) back x.writes;
        mark = l.log.seen.durable;
        marked = subst (λ (h : List Entry). AreMarked m.log.seen.durable m.log.seen.end l.log.seen.durable m.desk.history h) back x.marked;
        most_is = omega (arith, below);
        few = omega (arith, count.0);
        stop = inl (below, omega (arith, some, left));
        needed = first_needed l.desk.disk n.desk.disk written most first is.rest (dirty n.desk.history) n.log.seen e below (ap dirty failed.still ∙ is.first_is) failed.forced;
        fault = fault_wider (seen l.desk.disk).faults (seen n.desk.disk).faults l.log.seen.faults n.log.seen.faults (seen m.desk.disk).faults m.log.seen.faults e x.keeps.desk.later x.keeps.later.faults failed.fault;
        unused = λ none. forced_behind m.desk.disk l.desk.disk n.desk.disk e (x.unused none) (λ lt. tt) failed.forced;
        left = λ unsynced. left_first l.log.seen.durable m.log.seen.end n.log.seen.durable first is.rest (dirty n.desk.history) e (ap dirty failed.still ∙ is.first_is)
            (subst (λ (end : ℕ). IsLeftAt l.log.seen.durable end first.newest n.log.seen.durable e) x.put.end failed.left);
      }

  pub written_few : (m n : Moment D) (by : Caller) (written : ℕ) → AreWritten m n by written → length (dirty m.desk.history) ≡ length (dirty n.desk.history) + written
  written_few m n by written x = (writes_count m.desk.config.first by written m.desk.history n.desk.history x.writes).0

  -- no page was written, or the log is durable up to its end, where the log is not needed
  pub not_needed : (m n : Moment D) (by : Caller) (most written : ℕ) → AreWritten m n by written → written ≤ most → NeedsNoLog m most false → (written ≡ 0) ⊎ (m.log.seen.end ≤ m.log.seen.durable)
  not_needed m n by most written x le (inl whole) = inr whole
  not_needed m n by most written x le (inr none) = inl (none_written written most (dirty m.desk.history) le (let few = written_few m n by written x in omega (arith, few)) none.1)

  pub next_not_needed : (m n : Moment D) (by : Caller) (most written : ℕ) (first : Dirty) → AreWritten m n by written → written < most → IsFirstDirty n.desk.history first → NeedsNoLog m most false
      → m.log.seen.end ≤ m.log.seen.durable
  next_not_needed m n by most written first x below is (inl whole) = whole
  next_not_needed m n by most written first x below is (inr none) = absurd (some_left none.1)
    where
      some_left : (most ≡ 0) ⊎ (dirty m.desk.history ≡ []) → ⊥
      some_left (inl nothing) = omega (arith, below, nothing)
      some_left (inr clean) =
          let few = written_few m n by written x in
          let was = ap (length {A = Dirty}) clean in
          let some = ap (length {A = Dirty}) is.first_is in
          omega (arith, few, was, some)

  -- then it is durable up to the next page's newest change
  pub durable_next : (m l : Moment D) (by : Caller) (written : ℕ) (first : Dirty) → AreWritten m l by written → IsFirstDirty l.desk.history first → log_end m.desk.history ≤ m.log.seen.end
      → m.log.seen.end ≤ m.log.seen.durable → first.newest ≤ l.log.seen.durable
  durable_next m l by written first x is known whole =
      let logged = is.logged in
      let ends = x.keeps.known known in
      let end = x.put.end in
      let later = x.keeps.later.durable in
      omega (arith, logged, ends, end, later, whole)

  -- the log was covered behind a step, and then the disk synced
  pub covered_keeps : (a : ℕ) (m : Moment D) (mid : State D) (t : FramesSeen) (l k : LogSeen) → Keeps seen a m (moment mid t l) → Covers l k → Keeps seen a m (moment mid t k)
  covered_keeps a m mid t l k x c = keeps_most seen (a + 0) a m (moment mid t k) (omega arith) (keeps_on seen a 0 m (moment mid t l) (moment mid t k) x (keeps_log seen (IsAtRest seen) mid t l k x.rest c.later c.opening c.kept))

  pub synced_keeps : (a : ℕ) (m : Moment D) (mid new : State D) (t : FramesSeen) (k : LogSeen) → LeavesDesk seen mid new → new.history ≡ mid.history → IsSameDisk (seen mid.disk) (seen new.disk)
      → Keeps seen a m (moment mid t k) → Keeps seen a m (moment new t k)
  synced_keeps a m mid new t k left history same x =
      keeps_most seen (a + 0) a m (moment new t k) (omega arith) (keeps_on seen a 0 m (moment mid t k) (moment new t k) x
      (keeps_read seen (IsAtRest seen) mid new t t k (record { config = left.config; instance = left.instance; history = history; disk = same }) refl (record {
        tied = synced_tied seen t mid new left.config left.instance history same x.rest.tied;
        settled = x.rest.settled;
        hands = hands_still mid new left.config history x.rest.hands;
      })
      (λ o before. synced_behind seen o t mid new left.config left.instance history same before)))

  pub covered_put : (m : Moment D) (mid : State D) (t : FramesSeen) (l k : LogSeen) (by : Caller) → StaysPut seen m (moment mid t l) by → Covers l k → StaysPut seen m (moment mid t k) by
  covered_put m mid t l k by x c = record { unmoved = x.unmoved; turn = x.turn; end = c.end ∙ x.end; behind = x.behind }

  pub synced_put : (m : Moment D) (mid new : State D) (t : FramesSeen) (k : LogSeen) (by : Caller) → LeavesDesk seen mid new → new.history ≡ mid.history → IsSameDisk (seen mid.disk) (seen new.disk)
      → StaysPut seen m (moment mid t k) by → StaysPut seen m (moment new t k) by
  synced_put m mid new t k by left history same x =
      record { unmoved = x.unmoved; turn = x.turn; end = x.end; behind = λ o before. synced_behind seen o t mid new left.config left.instance history same (x.behind o before) }

  -- a device failed in the writes, in the cover of the log, or in the sync
  pub unflushed_sooner : (m n : Moment D) (by : Caller) (most : ℕ) (sync : Bool) (e : WriteErr) → Unflushed seen m n by most false e → Unflushed seen m n by most sync e
  unflushed_sooner m n by most sync e x = record {
    written = x.written;
    writes = x.writes;
    mark = x.mark;
    marked = x.marked;
    most_is = x.most_is;
    few = x.few;
    stop = stop_sooner x.written most sync (dirty n.desk.history) x.stop;
    needed = need_sooner x.written most sync (dirty n.desk.history) n.log.seen e x.needed;
    fault = x.fault;
    unused = x.unused;
    left = λ unsynced. x.left refl;
  }

  pub uncovered : (m : Moment D) (mid : State D) (t : FramesSeen) (l k : LogSeen) (by : Caller) (most written : ℕ) (e : WriteErr) → Keeps seen (length (dirty m.desk.history)) m (moment mid t l)
      → Flushed seen m (moment mid t l) by most false written → ((first last : ℕ) → IsWriteFault first last l.seen.faults k.seen.faults e) → k.seen.durable < k.seen.end
      → Unflushed seen m (moment mid t k) by most true e
  uncovered m mid t l k by most written e x ok fault behind = record {
    written = written;
    writes = ok.writes;
    mark = ok.mark;
    marked = ok.marked;
    most_is = ok.most_is;
    few = ok.few;
    stop = inr (refl, ok.all);
    needed = cover_needed written most (dirty mid.history) k.seen e ok.all behind;
    fault = fault_wider (seen m.desk.disk).faults (seen mid.disk).faults l.seen.faults k.seen.faults (seen m.desk.disk).faults m.log.seen.faults e (omega arith) x.later.faults
        (fault (seen m.desk.disk).faults (seen mid.disk).faults);
    unused = λ none. forced_same m.desk.disk mid.disk e (ok.unused refl none);
    left = λ unsynced. let bad : true ≡ false = unsynced in absurd (cc);
  }

  pub unsynced : (m : Moment D) (mid new : State D) (t : FramesSeen) (l k : LogSeen) (by : Caller) (most written : ℕ) (e : WriteErr) → Keeps seen (length (dirty m.desk.history)) m (moment mid t l)
      → Flushed seen m (moment mid t l) by most false written → new.history ≡ mid.history → ((first last : ℕ) → IsWriteFault (seen mid.disk).faults (seen new.disk).faults first last e) → IsForced mid.disk new.disk ⊥ e
      → Unflushed seen m (moment new t k) by most true e
  unsynced m mid new t l k by most written e x ok history fault forced =
      let back = sym history in
      let all = subst (λ (h : List Entry). (written ≡ most) ⊎ (dirty h ≡ [])) back ok.all in
      record {
        written = written;
        writes = subst (λ (h : List Entry). WritesBack m.desk.config.first by written m.desk.history h) back ok.writes;
        mark = ok.mark;
        marked = subst (λ (h : List Entry). AreMarked m.log.seen.durable m.log.seen.end ok.mark m.desk.history h) back ok.marked;
        most_is = ok.most_is;
        few = ok.few;
        stop = inr (refl, all);
        needed = sync_needed mid.disk new.disk written most (dirty new.history) k.seen e all forced;
        fault = fault_wider (seen mid.disk).faults (seen new.disk).faults m.log.seen.faults k.seen.faults (seen m.desk.disk).faults m.log.seen.faults e x.desk.later (omega arith) (fault m.log.seen.faults k.seen.faults);
        unused = λ none. forced_behind m.desk.disk mid.disk new.disk e (ok.unused refl none) (λ no. tt) forced;
        left = λ unsynced. let bad : true ≡ false = unsynced in absurd (cc);
      }

  -- the log was covered and the disk synced
  pub flushed_synced : (m : Moment D) (mid new : State D) (t : FramesSeen) (l k : LogSeen) (by : Caller) (most written : ℕ) → Flushed seen m (moment mid t l) by most false written
      → new.history ≡ mid.history → IsTrue (seen new.disk).synced → k.seen.durable ≡ k.seen.end → Flushed seen m (moment new t k) by most true written
  flushed_synced m mid new t l k by most written ok history synced whole =
      let back = sym history in record {
        writes = subst (λ (h : List Entry). WritesBack m.desk.config.first by written m.desk.history h) back ok.writes;
        mark = ok.mark;
        marked = subst (λ (h : List Entry). AreMarked m.log.seen.durable m.log.seen.end ok.mark m.desk.history h) back ok.marked;
        most_is = ok.most_is;
        few = ok.few;
        all = subst (λ (h : List Entry). (written ≡ most) ⊎ (dirty h ≡ [])) back ok.all;
        unused = λ unsynced none. let bad : true ≡ false = unsynced in absurd (cc);
        synced = λ is. synced;
        whole = λ is. whole;
        left = λ unsynced. let bad : true ≡ false = unsynced in absurd (cc);
      }

  -- the answer has its place and its room behind the writes
  pub answer_fits : (old new : DeskWithRoom D) (by : Caller) (most n : ℕ) → MayWriteBack most old → LeavesDesk seen old.state new.state → LeavesRoom old new
      → WritesBack old.state.config.first by n old.state.history new.state.history → n ≤ most → n ≤ length (dirty old.state.history) → HasRoomFor 1 new
  answer_fits old new by most n may left room writes le few =
      let count = writes_count old.state.config.first by n old.state.history new.state.history writes in
      let first = ap (λ (c : Config). c.first) left.config in
      let places = may.places in
      let enough = may.room n le few in
      record { places = omega (arith, places, count.1, first, few); room = omega (arith, count.1, enough, room) }

  -- what the answer of a clean leaves
  pub record IsAnswered (mid new : State D) (t u : FramesSeen) (k : LogSeen) (by : Caller) (answer : Kind) : Type 0 where
    pub entry : IsAppended mid new by answer
    pub dirt : dirty new.history ≡ dirty mid.history
    pub disk : new.disk ≡ mid.disk
    pub unmoved : u.rows ≡ t.rows
    pub keeps : Keeps seen 1 (moment mid t k) (moment new u k)
    pub marked : (durable end mark : ℕ) (old : List Entry) → AreMarked durable end mark old mid.history → AreMarked durable end mark old new.history
    pub behind : (o : Opened) → IsBehind seen o mid t → IsBehind seen o new u

  pub answered_clean : (mid new : State D) (t u : FramesSeen) (k : LogSeen) (by : Caller) (n : ℕ) (skipped : Words) → IsAppended mid new by (kind.Clean n skipped) → new.disk ≡ mid.disk
      → u ≡ appended t (next_entry mid by (kind.Clean n skipped)) → IsAtRest seen mid t → IsAnswered mid new t u k by (kind.Clean n skipped)
  answered_clean mid new t u k by n skipped a disk looks rest =
      let rows : u.rows ≡ t.rows = ap (λ (x : FramesSeen). x.rows) looks in
      let on : (o : Opened) → IsBehind seen o mid t → IsBehind seen o new u = λ o before. cleaned_behind seen o t u mid new by n skipped a disk looks before in
      record {
        entry = a;
        dirt = ap dirty a.history;
        disk = disk;
        unmoved = rows;
        keeps = keeps_entry seen mid new t u k by (kind.Clean n skipped) a disk tt (λ known. known)
            (record { tied = cleaned_tied seen t u mid new by n skipped a disk looks rest.tied; settled = subst AreSettled (sym rows) rest.settled; hands = hands_on mid new by _ a (λ b. refl) rest.hands })
            (follows_one t u (next_entry mid by (kind.Clean n skipped)) looks) (λ o based before. on o before);
        marked = λ durable end mark old is. marked_cleaned durable end mark mid.config.first by old mid.history new.history n skipped a.history is;
        behind = on;
      }

  -- a refusal that is told by another name of its cause
  pub refused_so : (mid new : State D) (t u : FramesSeen) (by : Caller) (bound : ℕ) (e : WriteErr) (why : Cause) → why ≡ cause_of e
      → IsAppended mid new by (kind.Refused (call.Clean bound) why) → u ≡ appended t (next_entry mid by (kind.Refused (call.Clean bound) why))
      → IsAppended mid new by (kind.Refused (call.Clean bound) (cause_of e)) × (u ≡ appended t (next_entry mid by (kind.Refused (call.Clean bound) (cause_of e))))
  refused_so mid new t u by bound e why is a looks =
      subst (λ (w : Cause). IsAppended mid new by (kind.Refused (call.Clean bound) w) × (u ≡ appended t (next_entry mid by (kind.Refused (call.Clean bound) w)))) is (a, looks)

  pub answered_refusal : (mid new : State D) (t u : FramesSeen) (k : LogSeen) (by : Caller) (bound : ℕ) (e : WriteErr) → IsAppended mid new by (kind.Refused (call.Clean bound) (cause_of e)) → new.disk ≡ mid.disk
      → u ≡ appended t (next_entry mid by (kind.Refused (call.Clean bound) (cause_of e))) → IsAtRest seen mid t → IsAnswered mid new t u k by (kind.Refused (call.Clean bound) (cause_of e))
  answered_refusal mid new t u k by bound e a disk looks rest =
      let rows : u.rows ≡ t.rows = ap (λ (x : FramesSeen). x.rows) looks in
      let on : (o : Opened) → IsBehind seen o mid t → IsBehind seen o new u = λ o before. refused_behind seen o t u mid new by (call.Clean bound) (cause_of e) a disk looks before in
      record {
        entry = a;
        dirt = ap dirty a.history;
        disk = disk;
        unmoved = rows;
        keeps = keeps_entry seen mid new t u k by (kind.Refused (call.Clean bound) (cause_of e)) a disk (fault_logged k.seen (call.Clean bound) e) (λ known. known)
            (record { tied = refused_tied seen t u mid new by (call.Clean bound) (cause_of e) a disk looks rest.tied; settled = subst AreSettled (sym rows) rest.settled; hands = hands_refused mid new by (call.Clean bound) (cause_of e) a (inl rest.hands) (inl rest.hands) })
            (follows_one t u (next_entry mid by (kind.Refused (call.Clean bound) (cause_of e))) looks) (λ o based before. on o before);
        marked = λ durable end mark old is. marked_refused durable end mark mid.config.first by old mid.history new.history (call.Clean bound) (cause_of e) a.history is;
        behind = on;
      }

  module _ (m : Moment D) (mid new : State D) (t u : FramesSeen) (k : LogSeen) (by : Caller) (bound : ℕ) (sync : Bool) where
    -- what a clean leaves behind its answer, and behind its refusal
    pub answer_leaves : StaysPut seen m (moment mid t k) by → (NeedsNoLog m bound sync → k ≡ m.log)
        → (n : ℕ) (answer : Kind) → Flushed seen m (moment mid t k) by bound sync n → IsAnswered mid new t u k by answer → (c : Cleaned) → LeavesClean seen m (moment new u k) bound sync (Ok c)
    answer_leaves put idle n answer ok a c = record {
      unmoved = a.unmoved ∙ put.unmoved;
      end = put.end;
      mark = ok.mark;
      marked = a.marked m.log.seen.durable m.log.seen.end ok.mark m.desk.history ok.marked;
      left = ok.left;
      unused = λ unsynced done. a.disk ∙ ok.unused unsynced (none_written n bound (dirty m.desk.history) ok.most_is ok.few done);
      unlogged = idle;
      behind = λ o before. a.behind o (put.behind o before);
    }

    pub refusal_leaves : StaysPut seen m (moment mid t k) by → (NeedsNoLog m bound sync → k ≡ m.log)
        → (e : WriteErr) (answer : Kind) → Unflushed seen m (moment mid t k) by bound sync e → IsAnswered mid new t u k by answer → LeavesClean seen m (moment new u k) bound sync (Err (clean_err_of e))
    refusal_leaves put idle e answer un a =
        let count = writes_count m.desk.config.first by un.written m.desk.history mid.history un.writes in
        record {
          unmoved = a.unmoved ∙ put.unmoved;
          end = put.end;
          mark = un.mark;
          marked = a.marked m.log.seen.durable m.log.seen.end un.mark m.desk.history un.marked;
          left = λ unsynced. left_refused un.mark m.log.seen.end k.seen.durable (dirty new.history) e
              (subst (λ (ds : List Dirty). IsUnwrittenMark un.mark m.log.seen.end ds k.seen.durable e) (sym a.dirt) (un.left unsynced));
          unused = λ unsynced done. absurd (unstopped un.written bound sync (dirty m.desk.history) (dirty mid.history) un.stop unsynced count.0 done);
          unlogged = idle;
          behind = λ o before. a.behind o (put.behind o before);
        }

    module _ (kept : LeavesDesk seen m.desk mid) where
      cleaned_by : (n : ℕ) (answer : Kind) → WritesBack m.desk.config.first by n m.desk.history mid.history → IsAppended mid new by answer → IsCleanedBy m.desk new by n answer
      cleaned_by n answer writes a = record {
        mid = mid.history;
        writes = writes;
        history = a.history ∙ ap (λ (c : Config). entry_behind c.first mid.history by answer ∷ mid.history) kept.config;
        config = a.config ∙ kept.config;
        instance = a.instance ∙ kept.instance;
      }

      -- a clean was answered behind its writes
      pub clean_answered : (n : ℕ) (skipped none : Words) → skipped ≡ [] → none ≡ [] → Flushed seen m (moment mid t k) by bound sync n → IsAnswered mid new t u k by (kind.Clean n skipped)
          → HasCleaned seen m (moment new u k) by bound sync (record { written = n; skipped = none })
      clean_answered n skipped none skips nothing ok a = record {
        cleaned = record {
          cleaned = subst (λ (w : Words). IsCleanedBy m.desk new by n (kind.Clean n w)) skips (cleaned_by n (kind.Clean n skipped) ok.writes a.entry);
          most = ok.most_is;
          all = subst (λ (ds : List Dirty). (n ≡ bound) ⊎ (ds ≡ [])) (sym a.dirt) ok.all;
        };
        none_skipped = nothing;
        synced = λ is. subst (λ (d : D). IsTrue (seen d).synced) (sym a.disk) (ok.synced is);
        whole = ok.whole;
      }

      uncleaned_is : (e : WriteErr) (un : Unflushed seen m (moment mid t k) by bound sync e) → IsAnswered mid new t u k by (kind.Refused (call.Clean bound) (cause_of e)) → IsUncleaned m.desk new by bound sync (cause_of e)
      uncleaned_is e un a = record {
        written = un.written;
        cleaned = cleaned_by un.written (kind.Refused (call.Clean bound) (cause_of e)) un.writes a.entry;
        most = un.most_is;
        stop = subst (λ (ds : List Dirty). IsStop un.written bound sync ds) (sym a.dirt) un.stop;
      }

      -- a clean was refused behind its writes
      pub clean_refused : (e : WriteErr) → Unflushed seen m (moment mid t k) by bound sync e → IsAnswered mid new t u k by (kind.Refused (call.Clean bound) (cause_of e))
          → IsCleanRefusal seen m (moment new u k) by bound sync (clean_err_of e)
      unfolding uncleaned_is
      clean_refused (unwritten.RedoFault before after) un a = (
        un.fault,
        uncleaned_is (unwritten.RedoFault before after) un a,
        subst (λ (ds : List Dirty). NeedsLog un.written bound sync ds k.seen) (sym a.dirt) un.needed,
        λ none. a.disk ∙ (un.unused none).1,
      )
      clean_refused (unwritten.DiskFault before after) un a = (
        subst (λ (d : D). RoseWithin (seen m.desk.disk).faults (seen d).faults before after) (sym a.disk) un.fault,
        uncleaned_is (unwritten.DiskFault before after) un a,
      )
