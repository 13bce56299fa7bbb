-- What a thread's clean and its checkpoint do: the writes and the answer are lawful behind the trail so far.
use Rattle.std.proofs.Common.{◌≡◌, ℕ, List, [], ◌∷◌, ◌++◌, ◌+◌, ◌<◌, ◌≤◌, ◌⊎◌, true, false, refl, ap, ◌∙◌, sym, subst, drop, take, arith, inl, inr, None, Some}
use Rattle.std.specs.Prelude.{unwrap_or}
use Rattle.page_disk.specs.Disks.{DiskSeen}
use Rattle.redo_mark.specs.Logs.{Seen}
use Rattle.trail.proofs.Judging.{unasked, with_words, words_of}
use Rattle.trail.specs.declared.event.Dirty.{Dirty}
use Rattle.trail.specs.declared.event.Entry.{Entry}
use Rattle.trail.specs.declared.event.Held.{Held}
use Rattle.trail.specs.declared.event.Event.{Event}
use Rattle.trail.specs.declared.event.Event.TheVariants as event
use Rattle.trail.specs.declared.event.Kind.{Kind}
use Rattle.trail.specs.declared.event.Kind.TheVariants as kind
use Rattle.trail.specs.declared.event.Call.TheVariants as call
use Rattle.trail.specs.declared.event.Cause.TheVariants as cause
use Rattle.page_ids.specs.declared.config.Config.{Config}
use Rattle.page_ids.specs.declared.limits.TheConstants.{ANSWER_NEED, LIMIT}
use Rattle.trail.specs.Trails.{entries, mark, Opening}
use Rattle.trail.specs.Book.{Book, book}
use Rattle.trail.specs.History.{disk_faults, disk_faults_after, log_faults, log_faults_after}
use Rattle.trail.specs.Dirt.{dirty, log_end, pages_of}
use Rattle.trail.specs.Calls.{held_after_kind}
use Rattle.trail.specs.Legal.{IsCheckpoint, written_pages}
use Rattle.desk.specs.State.{State}
use Rattle.desk.specs.Steps.{next_entry}
use Rattle.desk.specs.Ledger.{entry_behind}
use Rattle.desk.specs.Logged.{IsLogged}
use Rattle.desk.specs.Reads.{RoseWithin}
use Rattle.desk.specs.Changes.{WritesBack, IsCleanedBy, IsCleaned}
use Rattle.desk.specs.Checks.{IsChecked, redo_start}
use Rattle.script_text.specs.declared.script.Command.TheVariants as command
use Rattle.script_run.specs.Openings.{Start, AreFaultsWithin}
use Rattle.script_run.specs.Todo.{Answers, HistoryGoesOn, WritesAll}
use Rattle.script_run.specs.Work.{Working, AreSteady, HasPlayed, Does, FixesFall, with_answer}
use Rattle.script_run.proofs.Fixes.{falling_up}
use Rattle.script_run.proofs.Flushing.{FrontLeaves, Flushed, flushed}
use Rattle.script_run.proofs.Closing.{Closes, clean_closes, fault_closes}
use Rattle.script_run.proofs.Growing.{me, left_same, Moves, placed, so_far_placed, so_far_after, so_far_answer, lawful_entry}
use Rattle.script_run.proofs.Doing.{reached}
use Rattle.script_run.proofs.Progress.{append_nil}
use Rattle.script_run.proofs.Values.{faults_up}

module _ {D : Type 0} (seen : D → DiskSeen) (o : Opening) (start : Start) (old new : State D) (was is : Seen) (w : Working) (past : List Event) (so : HasPlayed seen o start old was w past []) (moves : Moves seen old new was is) where
  -- the call's writes stand behind the trail so far
  abbrev Wrote : ℕ → List Entry → Type 0
  Wrote n mid = Flushed (me w) o start (seen new.disk).faults is.faults past n mid

  wrote : (n : ℕ) (k : Kind) (cleaned : IsCleanedBy old new (me w) n k) → FrontLeaves → Wrote n cleaned.mid
  wrote n k cleaned front =
      let E : List Entry → Type 0 = λ h. AreFaultsWithin start (seen new.disk).faults is.faults h in
      let W : ℕ → List Entry → Type 0 = λ first h. WritesBack first (me w) n h cleaned.mid in
      let F : ℕ → Type 0 = λ first. W first old.history in
      flushed (me w) o start (seen new.disk).faults is.faults past n cleaned.mid front (unasked o (Some w.pass) past so.good) so.promised so.calls
      (subst E (sym so.entries_are) (faults_up start (seen old.disk).faults was.faults (seen new.disk).faults is.faults old.history moves.left.later moves.later so.faults))
      (subst (W o.first) (sym so.entries_are) (subst F so.first_is cleaned.writes))

  -- no frame is in hand behind them
  hand_behind : (n : ℕ) (mid : List Entry) (f : Wrote n mid) → (book old.config mid).hands ≡ []
  hand_behind n mid f =
      let H : Config → List Entry → Type 0 = λ c h. (book c h).hands ≡ [] in
      subst (λ c. H c mid) (sym so.config_is) (ap (λ (b : Book). b.hands) f.book_is ∙ subst (λ h. H o.config h) (sym so.entries_are) (subst (λ c. H c old.history) so.config_is (so.empty_handed refl)))

  -- what is so between the last of them and the answer
  so_far_writes : (n : ℕ) (mid : List Entry) (f : Wrote n mid) → IsLogged is mid → HasPlayed seen o start (placed old new mid) is w (f.writes ++ past) f.made
  so_far_writes n mid f logged = record {
    good = with_words o None (Some w.pass) (f.writes ++ past) f.good (f.exact (Some w.pass) (words_of o (Some w.pass) past so.good));
    promised = f.promised;
    entries_are = f.entries_are;
    receipts_are = f.receipts_are ∙ so.receipts_are;
    first_is = so.first_is;
    config_is = so.config_is;
    pages_are = λ s. so.pages_are s ∙ ap (λ n. unwrap_or n 0) (sym (moves.left.spaces_are s));
    logged = logged;
    faults = f.faults;
    last_fault = omega (arith, f.last_fault, ap disk_faults so.entries_are, so.last_fault, moves.left.later);
    last_log_fault = omega (arith, f.last_log_fault, ap log_faults so.entries_are, so.last_log_fault, moves.later);
    low_is = omega (arith, so.low_is, moves.left.later);
    low_log = omega (arith, so.low_log, moves.later);
    calls = f.calls;
    steady = f.steady (subst (λ (h : List Entry). AreSteady h) (sym so.entries_are) so.steady);
    empty_handed = λ none. hand_behind n mid f;
    held = f.held w.pass ∙ so.held;
    falling = so.falling;
    alone = f.alone so.alone;
  }

  room_here : mark old.config.first old.history + 16385 ≤ LIMIT → mark o.first (entries past) + 16385 ≤ LIMIT
  room_here room =
      let R : ℕ → List Entry → Type 0 = λ m h. mark m h + 16385 ≤ LIMIT in
      subst (λ h. R o.first h) (sym so.entries_are) (subst (λ m. R m old.history) so.first_is room)

  -- the answer of a clean comes behind its writes
  does_answer : (bound n : ℕ) (k : Kind) (cleaned : IsCleanedBy old new (me w) n k) (f : Wrote n cleaned.mid) → Closes (me w) start (seen new.disk).faults is.faults o (f.writes ++ past) k
      → disk_faults_after k (disk_faults cleaned.mid) ≤ (seen new.disk).faults → log_faults_after k (log_faults cleaned.mid) ≤ is.faults
      → held_after_kind w.next k w.fixed ≡ w.fixed
      → ((h : List Entry) → HistoryGoesOn (event.Entry (entry_behind old.config.first cleaned.mid (me w) k) ∷ f.writes ++ past) h
      → Answers h w.pass (command.Clean bound) past (event.Entry (entry_behind old.config.first cleaned.mid (me w) k)))
      → Does seen o start new is (with_answer w k) past (command.Clean bound)
  does_answer bound n k cleaned f c last last_log kept answers =
      let e : Entry = entry_behind old.config.first cleaned.mid (me w) k in
      let I : List Entry → Type 0 = λ h. IsLogged is h in
      let F : List Held → Type 0 = λ fixes. FixesFall (w.next + 1) fixes in
      let all : IsLogged is (e ∷ cleaned.mid) = subst I cleaned.history moves.logged in
      let there = so_far_writes n cleaned.mid f all.1 in
      let at = placed old new cleaned.mid in
      record {
        answer = event.Entry e;
        before = f.writes;
        quiet = f.silent;
        so_far = so_far_after seen o start old new is (with_answer w k) (event.Entry e ∷ f.writes ++ past) [] (e ∷ cleaned.mid) moves.left cleaned.history
            (so_far_answer seen o start at is w (f.writes ++ past) f.made k there (record {
              logged = all.0;
              within = c.within;
              last = last;
              last_log = last_log;
              lawful = lawful_entry seen o start at is w (f.writes ++ past) f.made (entries past) k there f.began (c.before cleaned.mid f.made f.are_writes) c.legal c.still c.covered c.causes c.victim c.withdrawal;
              promised = c.promised;
              exact = c.exact cleaned.mid w.fixed;
            }) c.answers (subst F (sym kept) (falling_up w.next (w.next + 1) w.fixed (omega arith) so.falling)) c.steady
            (c.handless old.config.frames e (book old.config cleaned.mid) (hand_behind n cleaned.mid f)));
        answers = answers;
      }

  last_faults : (n : ℕ) (mid : List Entry) → Wrote n mid → (disk_faults mid ≤ (seen new.disk).faults) × (log_faults mid ≤ is.faults)
  last_faults n mid f = (
    omega (arith, f.last_fault, ap disk_faults so.entries_are, so.last_fault, moves.left.later),
    omega (arith, f.last_log_fault, ap log_faults so.entries_are, so.last_log_fault, moves.later),
  )

  -- where nothing is left dirty, the pages that were written are all that were
  all_written : (h : List Entry) (n : ℕ) (mid : List Entry) (f : Wrote n mid) (e : Entry) → dirty mid ≡ [] → HistoryGoesOn (event.Entry e ∷ f.writes ++ past) h → WritesAll h n (event.Entry e)
  all_written h n mid f e none goes =
      record {
        later = goes.0;
        before = entries (f.writes ++ past);
        stands = goes.1;
        all = ap (λ l. pages_of (dirty l)) (ap (drop n) f.entries_are ∙ f.before) ∙ f.pages ∙ ap (λ ds. written_pages f.made ++ pages_of ds) none
            ∙ append_nil (written_pages f.made) ∙ sym (ap written_pages (ap (take n) f.entries_are ∙ f.taken));
      }

  -- fewer than the bound
  fewer : (h : List Entry) (bound n : ℕ) (cleaned : IsCleanedBy old new (me w) n (kind.Clean n [])) (f : Wrote n cleaned.mid) → (n ≡ bound) ⊎ (dirty new.history ≡ []) → n < bound
      → HistoryGoesOn (event.Entry (entry_behind old.config.first cleaned.mid (me w) (kind.Clean n [])) ∷ f.writes ++ past) h
      → WritesAll h n (event.Entry (entry_behind old.config.first cleaned.mid (me w) (kind.Clean n [])))
  fewer h bound n cleaned f (inl full) less goes = absurd (omega (arith, full, less))
  fewer h bound n cleaned f (inr none) less goes =
      all_written h n cleaned.mid f (entry_behind old.config.first cleaned.mid (me w) (kind.Clean n [])) (sym (ap dirty cleaned.history) ∙ none) goes

  pub does_clean : (bound n : ℕ) → FrontLeaves → IsCleaned old new (me w) bound n → bound ≤ 16384 → mark old.config.first old.history + 16385 ≤ LIMIT → Does seen o start new is (with_answer w (kind.Clean n [])) past (command.Clean bound)
  does_clean bound n front is_cleaned bounded room =
      let cleaned = is_cleaned.cleaned in
      let f = wrote n (kind.Clean n []) cleaned front in
      let last = last_faults n cleaned.mid f in
      does_answer bound n (kind.Clean n []) cleaned f (clean_closes (me w) start (seen new.disk).faults is.faults o past n cleaned.mid f (omega (arith, is_cleaned.most, bounded)) (room_here room)) last.0 last.1 refl
      (λ h goes. inl (n, refl, is_cleaned.most, λ less. fewer h bound n cleaned f is_cleaned.all less goes))

  -- the log failed
  pub does_uncovered_clean : (bound n before after : ℕ) → FrontLeaves → IsCleanedBy old new (me w) n (kind.Refused (call.Clean bound) (cause.RedoFault before after)) → n ≤ bound → RoseWithin was.faults is.faults before after
      → bound ≤ 16384 → mark old.config.first old.history + 16385 ≤ LIMIT → Does seen o start new is (with_answer w (kind.Refused (call.Clean bound) (cause.RedoFault before after))) past (command.Clean bound)
  does_uncovered_clean bound n before after front cleaned most rose bounded room =
      let k = kind.Refused (call.Clean bound) (cause.RedoFault before after) in
      let f = wrote n k cleaned front in
      let last = last_faults n cleaned.mid f in
      does_answer bound n k cleaned f
      (fault_closes (me w) start (seen old.disk).faults (seen new.disk).faults was.faults is.faults o past n cleaned.mid f bound true before after so.low_is so.low_log
      (omega (arith, ap disk_faults so.entries_are, so.last_fault)) (omega (arith, ap log_faults so.entries_are, so.last_log_fault)) rose.rose rose most bounded (room_here room))
      last.0 (omega (arith, rose.last)) refl (λ h goes. inr (cause.RedoFault before after, refl))

  -- the disk failed
  pub does_unwritten_clean : (bound n before after : ℕ) → FrontLeaves → IsCleanedBy old new (me w) n (kind.Refused (call.Clean bound) (cause.DiskFault before after)) → n ≤ bound
      → RoseWithin (seen old.disk).faults (seen new.disk).faults before after → bound ≤ 16384 → mark old.config.first old.history + 16385 ≤ LIMIT
      → Does seen o start new is (with_answer w (kind.Refused (call.Clean bound) (cause.DiskFault before after))) past (command.Clean bound)
  does_unwritten_clean bound n before after front cleaned most rose bounded room =
      let k = kind.Refused (call.Clean bound) (cause.DiskFault before after) in
      let f = wrote n k cleaned front in
      let last = last_faults n cleaned.mid f in
      does_answer bound n k cleaned f
      (fault_closes (me w) start (seen old.disk).faults (seen new.disk).faults was.faults is.faults o past n cleaned.mid f bound false before after so.low_is so.low_log
      (omega (arith, ap disk_faults so.entries_are, so.last_fault)) (omega (arith, ap log_faults so.entries_are, so.last_log_fault)) rose.rose rose most bounded (room_here room))
      (omega (arith, rose.last)) last.1 refl (λ h goes. inr (cause.DiskFault before after, refl))

checkpoint_legal : (ds : List Dirty) (end last lsn : ℕ) → lsn ≡ redo_start ds last → end ≤ last → IsCheckpoint ds end lsn
checkpoint_legal [] end last lsn same behind = let here : lsn ≡ last = same in omega (arith, here, behind)
checkpoint_legal (d ∷ ds) end last lsn same behind = same

-- a checkpoint comes alone
pub does_check : {D : Type 0} (seen : D → DiskSeen) (o : Opening) (start : Start) (old new : State D) (log : Seen) (w : Working) (past : List Event) (lsn : ℕ)
    → HasPlayed seen o start old log w past [] → IsChecked old new (me w) log.end lsn → log_end old.history ≤ log.end → (IsLogged log old.history → IsLogged log new.history)
    → mark old.config.first old.history + ANSWER_NEED ≤ LIMIT → Does seen o start new log (with_answer w (kind.Check lsn)) past command.Checkpoint
does_check seen o start old new log w past lsn so checked known logged room =
    let k = kind.Check lsn in
    let e : Entry = next_entry old (me w) k in
    let left = left_same seen old new checked.entry.config checked.entry.instance checked.disk in
    let moves : Moves seen old new log log = record { left = left; later = omega arith; logged = logged so.logged } in
    let I : List Entry → Type 0 = λ h. IsLogged log h in
    let all : IsLogged log (e ∷ old.history) = subst I checked.entry.history moves.logged in
    let there = so_far_placed seen o start old new log log w past so moves all.1 in
    let C : List Entry → Type 0 = λ h. IsCheckpoint (dirty h) (log_end h) lsn in
    let desk = placed old new old.history in
    record {
      answer = event.Entry e;
      before = [];
      quiet = refl;
      so_far = so_far_after seen o start old new log (with_answer w k) (event.Entry e ∷ past) [] (e ∷ old.history) left checked.entry.history
          (so_far_answer seen o start desk log w past [] k there (record {
            logged = all.0;
            within = tt;
            last = there.last_fault;
            last_log = there.last_log_fault;
            lawful = lawful_entry seen o start desk log w past [] old.history k there refl refl
                (subst C (sym so.entries_are) (checkpoint_legal (dirty old.history) (log_end old.history) log.end lsn checked.lsn_is known)) tt tt
                (record { reached = reached seen o start old log w past [] old.history call.Check ANSWER_NEED so refl refl room tt; none_due = refl }) tt tt;
            promised = (record { inside = tt; told = tt }, tt);
            exact = tt;
          }) refl (falling_up w.next (w.next + 1) w.fixed (omega arith) so.falling) refl (so.empty_handed refl));
      answers = λ h goes. (lsn, refl);
    }
