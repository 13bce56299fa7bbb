-- What a command leaves of desk and worker, apart from laws.
use Rattle.std.proofs.Common.{◌≡◌, ℕ, zero, suc, Bool, true, false, cond, List, [], ◌∷◌, ◌++◌, ◌+◌, ◌<◌, ◌≤◌, Option, Some, None, length, refl, ap, ◌∙◌, sym, subst, IsSome, arith, slice_get, drop, take, reverse, append_assoc}
use Rattle.std.proofs.lemmas.List.{reverse-append}
use Rattle.page_ids.specs.Content.{patched}
use Rattle.page_ids.specs.Same.{same_page}
use Rattle.page_ids.specs.declared.ids.PageId.{PageId}
use Rattle.page_ids.specs.declared.config.Config.{Config}
use Rattle.page_disk.specs.Disks.{DiskSeen}
use Rattle.redo_mark.specs.Logs.{Seen, Grows, IsLater}
use Rattle.trail.specs.declared.event.Entry.{Entry}
use Rattle.trail.specs.declared.event.Held.{Held}
use Rattle.trail.specs.declared.event.Kind.{Kind}
use Rattle.trail.specs.declared.event.Kind.TheVariants as kind
use Rattle.trail.specs.declared.event.Call.{Call}
use Rattle.trail.specs.declared.event.Call.TheVariants as call
use Rattle.trail.specs.declared.event.Cause.{Cause}
use Rattle.trail.specs.declared.event.Cause.TheVariants as cause
use Rattle.trail.specs.declared.event.Note.{Note}
use Rattle.trail.specs.History.{home}
use Rattle.trail.specs.Dirt.{log_end}
use Rattle.trail.specs.Calls.{held_after_kind, held_after_note, newest_fix}
use Rattle.desk.specs.declared.calls.Granted.{Granted}
use Rattle.desk.specs.declared.calls.PutDone.{PutDone}
use Rattle.frame_words.specs.Plain.{Plain, seen_of, held_of}
use Rattle.frame_words.specs.Rows.{Row}
use Rattle.desk.specs.State.{State}
use Rattle.desk.specs.Base.{Opened}
use Rattle.desk.specs.Changes.{IsPutBy, IsSpentBy, WritesBack, IsCleanedBy, changed_row}
use Rattle.desk.specs.Checks.{IsChecked}
use Rattle.desk.specs.Ledger.{entry_behind}
use Rattle.desk.specs.Moments.{IsEmptyHanded}
use Rattle.desk.specs.Steps.{IsHit, IsLoaded, IsAppended, next_entry, row_in, loaded_row}
use Rattle.desk.specs.Tied.{AreTied}
use Rattle.desk.specs.Victims.{IsHad}
use Rattle.desk.specs.Fixing.{IsMiss}
use Rattle.desk.specs.declared.calls.Caller.{Caller}
use Rattle.script_run.specs.Work.{Working, AreHoused, AreHeld, IsWorkerReady, IsUndisturbed, IsBehindIt, Along, with_answer, with_note, given_at}
use Rattle.script_run.proofs.Fixes.{one_page, split_at, reverse_around}
use Rattle.script_run.proofs.Values.{Leaves, fix_leaves, put_leaves, write_leaves, check_leaves, refused_leaves}
use Rattle.script_run.proofs.Growing.{me, Left, left_same, left_more}
use Rattle.script_run.proofs.Staying.{Stays, stays_ready, stays_rows, stays_at, stays_quiet, stays_load, stays_had}
use Rattle.script_run.proofs.Framing.{held_more, held_kept, ready_given, behind_given, rest_mid, some_held}

nil_behind : (xs : List ℕ) → xs ≡ xs ++ []
nil_behind [] = refl
nil_behind (x ∷ xs) = ap (λ t. x ∷ t) (nil_behind xs)

grows_here : (bytes : Option (List ℕ)) → Grows bytes bytes
grows_here None = refl
grows_here (Some bytes) = ([], nil_behind bytes)

grows_more : (a b c : Option (List ℕ)) → Grows a b → Grows b c → Grows a c
grows_more None None None f g = refl
grows_more None None (Some c) f g = absurd (cc)
grows_more None (Some b) c f g = absurd (cc)
grows_more (Some a) None c f g = absurd f
grows_more (Some a) (Some b) None f g = absurd g
grows_more (Some a) (Some b) (Some c) f g = (f.0 ++ g.0, g.1 ∙ ap (λ t. t ++ g.0) f.1 ∙ append_assoc a f.0 g.0)

pub later_here : (log : Seen) → IsLater log log
later_here log = record { first = refl; opened = refl; durable = omega arith; end = omega arith; faults = omega arith; bytes = grows_here log.bytes }

pub later_more : (a b c : Seen) → IsLater a b → IsLater b c → IsLater a c
later_more a b c f g = record {
  first = g.first ∙ f.first;
  opened = g.opened ∙ f.opened;
  durable = omega (arith, f.durable, g.durable);
  end = omega (arith, f.end, g.end);
  faults = omega (arith, f.faults, g.faults);
  bytes = grows_more a.bytes b.bytes c.bytes f.bytes g.bytes;
}

-- what each call of the desk keeps
abbrev pub Keeps : {D : Type 0} → (D → DiskSeen) → State D → State D → Plain → Plain → Type 0
Keeps seen old new before after = (o : Opened) → IsBehindIt seen o old before → IsBehindIt seen o new after

abbrev pub Ties : {D : Type 0} → (D → DiskSeen) → State D → Plain → Type 0
Ties seen desk frames = AreTied seen (seen_of frames) desk × IsEmptyHanded desk

-- a call's entries came, and its answer
along_by : {D : Type 0} (seen : D → DiskSeen) (old new : State D) (before after : Plain) (was is : Seen) (w : Working) (k : Kind) → Left seen old new → length new.history ≤ length old.history + 16385
    → (IsWorkerReady seen old before w.fixed → Stays new.config new.history after.rows (with_answer w k).fixed × (length (with_answer w k).fixed ≤ 64))
    → Keeps seen old new before after → Ties seen new after → IsLater was is → log_end new.history ≤ is.end
    → Along seen 1 old new before after was is w (with_answer w k)
along_by seen old new before after was is w k left grown stays behind tied later known = record {
  left = left;
  grown = grown;
  pass = refl;
  next = refl;
  ready = λ ready. let is = stays ready in record { tied = tied.0; hands = tied.1; homes = is.0.homes; apart = is.0.apart; housed = is.0.housed; held = is.0.held; few = is.1 };
  behind = behind;
  log = later;
  known = λ _. known;
}

-- at most four came
pub along_of : {D : Type 0} (seen : D → DiskSeen) (old new : State D) (before after : Plain) (was is : Seen) (w : Working) (k : Kind) → Left seen old new → length new.history ≤ length old.history + 4
    → (IsWorkerReady seen old before w.fixed → Stays new.config new.history after.rows (with_answer w k).fixed × (length (with_answer w k).fixed ≤ 64))
    → Keeps seen old new before after → Ties seen new after → IsLater was is → log_end new.history ≤ is.end
    → Along seen 1 old new before after was is w (with_answer w k)
along_of seen old new before after was is w k left grown stays behind tied later known = along_by seen old new before after was is w k left (omega (arith, grown)) stays behind tied later known

-- a fix is granted where the page is
stays_hit : {D : Type 0} {rows more : List Row} (mid new : State D) (w : Working) (p : PageId) (now : ℕ) (g : Granted) → IsHit mid new rows more (me w) p now g
    → Stays mid.config mid.history rows w.fixed → Stays new.config new.history more (with_answer w (kind.Fix p g.frame g.clock now)).fixed
stays_hit {D} {rows} {more} mid new w p now g hit was =
    let k = kind.Fix p g.frame g.clock now in
    let e : Entry = next_entry mid (me w) k in
    let x : Held = record { page = p; frame = g.frame; number = w.next } in
    let R : List Row → Type 0 = λ rows. AreHeld rows (x ∷ w.fixed) in
    let there = stays_quiet mid.config mid.history e rows w.fixed (fix_leaves p g.frame g.clock now) was in
    stays_at mid.config new.config (e ∷ mid.history) new.history more (x ∷ w.fixed) hit.entry.config hit.entry.history
    (record { homes = there.homes; apart = there.apart; housed = (hit.resident, there.housed); held = subst R (sym hit.rows_are) (held_more rows w.fixed x was.held) })

pub along_hit : {D : Type 0} (seen : D → DiskSeen) (old new : State D) (before after : Plain) (was is : Seen) (w : Working) (p : PageId) (now : ℕ) (g : Granted)
    → IsHit old new before.rows after.rows (me w) p now g → length w.fixed < 64 → Left seen old new → length new.history ≤ length old.history + 4
    → Keeps seen old new before after → Ties seen new after → IsLater was is → log_end new.history ≤ is.end
    → Along seen 1 old new before after was is w (with_answer w (kind.Fix p g.frame g.clock now))
along_hit seen old new before after was is w p now g hit few left grown behind tied later known =
    along_of seen old new before after was is w (kind.Fix p g.frame g.clock now) left grown
    (λ ready. (stays_hit old new w p now g hit (stays_ready seen old before w.fixed ready), omega (arith, few))) behind tied later known

-- the page was read in
stays_loaded : {D : Type 0} {rows more : List Row} (seen : D → DiskSeen) (had mid : State D) (w : Working) (p : PageId) (f : ℕ) → IsLoaded seen had mid rows more (me w) p f
    → Stays had.config had.history rows w.fixed → Stays mid.config mid.history more w.fixed
stays_loaded {D} {rows} {more} seen had mid w p f loaded was =
    let x : Entry = next_entry had (me w) (kind.Load p f) in
    let R : List Row → Type 0 = λ rows. AreHeld rows w.fixed in
    let held : AreHeld more w.fixed = subst R (sym loaded.rows_are) (held_kept rows w.fixed f (loaded_row (row_in rows f) p loaded.content x.place) refl was.held) in
    stays_at had.config mid.config (x ∷ had.history) mid.history more w.fixed loaded.entry.config loaded.entry.history
    (stays_load had.config had.history x.place x.caller x.number p f more w.fixed loaded.absent loaded.fresh loaded.below (stays_rows had.config had.history rows more w.fixed held was))

pub along_miss : {D : Type 0} (seen : D → DiskSeen) (old new : State D) (before after : Plain) (was is : Seen) (w : Working) (p : PageId) (now : ℕ) (g : Granted)
    → IsMiss seen old new before.rows after.rows (me w) p now g → length w.fixed < 64 → Left seen old new → length new.history ≤ length old.history + 4
    → Keeps seen old new before after → Ties seen new after → IsLater was is → log_end new.history ≤ is.end
    → Along seen 1 old new before after was is w (with_answer w (kind.Fix p g.frame g.clock now))
along_miss seen old new before after was is w p now g miss few left grown behind tied later known =
    along_of seen old new before after was is w (kind.Fix p g.frame g.clock now) left grown
    (λ ready. (stays_hit miss.mid new w p now g miss.hit (stays_loaded seen miss.had miss.mid w p g.frame miss.loaded (stays_had seen old miss.had before w g.frame ready miss.frame_is)), omega (arith, few)))
    behind tied later known

-- an entry that leaves every home and every fix, behind those by which a frame may have been had
stays_entry : {D : Type 0} (had new : State D) (rows : List Row) (w : Working) (k : Kind) → IsAppended had new (me w) k → Leaves k → held_after_kind w.next k w.fixed ≡ w.fixed → length w.fixed ≤ 64
    → Stays had.config had.history rows w.fixed → Stays new.config new.history rows (with_answer w k).fixed × (length (with_answer w k).fixed ≤ 64)
stays_entry had new rows w k entry leaves kept few was =
    let e : Entry = next_entry had (me w) k in
    let F : List Held → Type 0 = λ fixed. Stays new.config new.history rows fixed in (
      subst F (sym kept) (stays_at had.config new.config (e ∷ had.history) new.history rows w.fixed entry.config entry.history (stays_quiet had.config had.history e rows w.fixed leaves was)),
      omega (arith, few, ap (length {A = Held}) kept),
    )

stays_moved : {D : Type 0} (seen : D → DiskSeen) (desk : State D) (before after : Plain) (fixed : List Held) → (AreHeld before.rows fixed → AreHeld after.rows fixed) → IsWorkerReady seen desk before fixed
    → Stays desk.config desk.history after.rows fixed
stays_moved seen desk before after fixed rows ready = stays_rows desk.config desk.history before.rows after.rows fixed (rows ready.held) (stays_ready seen desk before fixed ready)

rows_stay : (before after : Plain) (fixed : List Held) → after.rows ≡ before.rows → AreHeld before.rows fixed → AreHeld after.rows fixed
rows_stay before after fixed same held = let R : List Row → Type 0 = λ rows. AreHeld rows fixed in subst R (sym same) held

-- a refusal that comes alone
pub along_refused : {D : Type 0} (seen : D → DiskSeen) (old new : State D) (before after : Plain) (was is : Seen) (w : Working) (c : Call) (why : Cause)
    → IsAppended old new (me w) (kind.Refused c why) → after.rows ≡ before.rows → Left seen old new → length new.history ≤ length old.history + 4
    → Keeps seen old new before after → Ties seen new after → IsLater was is → log_end new.history ≤ is.end
    → Along seen 1 old new before after was is w (with_answer w (kind.Refused c why))
along_refused seen old new before after was is w c why entry unmoved left grown behind tied later known =
    let k = kind.Refused c why in
    along_of seen old new before after was is w k left grown
    (λ ready. stays_entry old new after.rows w k entry (refused_leaves c why) refl ready.few (stays_moved seen old before after w.fixed (rows_stay before after w.fixed unmoved) ready)) behind tied later known

-- and one behind a frame that was had
pub along_unread : {D : Type 0} (seen : D → DiskSeen) (old had new : State D) (before after : Plain) (was is : Seen) (w : Working) (c : Call) (why : Cause) (f : ℕ)
    → IsHad old had before.rows after.rows (me w) f → IsAppended had new (me w) (kind.Refused c why) → Left seen old new → length new.history ≤ length old.history + 4
    → Keeps seen old new before after → Ties seen new after → IsLater was is → log_end new.history ≤ is.end
    → Along seen 1 old new before after was is w (with_answer w (kind.Refused c why))
along_unread seen old had new before after was is w c why f frame_is entry left grown behind tied later known =
    let k = kind.Refused c why in
    along_of seen old new before after was is w k left grown
    (λ ready. stays_entry had new after.rows w k entry (refused_leaves c why) refl ready.few (stays_had seen old had before w f ready frame_is)) behind tied later known

-- pages were written, one after the other
stays_writes : (config : Config) (first : ℕ) (by : Caller) (n : ℕ) (old mid : List Entry) (rows : List Row) (fixed : List Held) → WritesBack first by n old mid → Stays config old rows fixed → Stays config mid rows fixed
stays_writes config first by zero old mid rows fixed same was = stays_at config config old mid rows fixed refl same was
stays_writes config first by (suc n) old mid rows fixed (between, writes, back) was =
    let x : Entry = entry_behind first between by (kind.Write back.oldest.page back.oldest.newest back.upto) in
    stays_at config config (x ∷ between) mid rows fixed refl back.entry
    (stays_quiet config between x rows fixed (write_leaves back.oldest.page back.oldest.newest back.upto) (stays_writes config first by n old between rows fixed writes was))

-- an entry for each
writes_longer : (first : ℕ) (by : Caller) (n : ℕ) (old mid : List Entry) → WritesBack first by n old mid → length mid ≡ length old + n
writes_longer first by zero old mid same = let long = ap (length {A = Entry}) same in omega (arith, long)
writes_longer first by (suc n) old mid (between, writes, back) =
    let long = ap (length {A = Entry}) back.entry in let rest = writes_longer first by n old between writes in omega (arith, long, rest)

-- a clean, and what answers it
pub along_cleaned : {D : Type 0} (seen : D → DiskSeen) (old new : State D) (before after : Plain) (was is : Seen) (w : Working) (n : ℕ) (k : Kind)
    → IsCleanedBy old new (me w) n k → n ≤ 16384 → Leaves k → held_after_kind w.next k w.fixed ≡ w.fixed → after.rows ≡ before.rows → Left seen old new
    → Keeps seen old new before after → Ties seen new after → IsLater was is → log_end new.history ≤ is.end
    → Along seen 1 old new before after was is w (with_answer w k)
along_cleaned seen old new before after was is w n k cleaned most leaves kept unmoved left behind tied later known =
    let e : Entry = entry_behind old.config.first cleaned.mid (me w) k in
    let F : List Held → Type 0 = λ fixed. Stays new.config new.history after.rows fixed in
    let long = writes_longer old.config.first (me w) n old.history cleaned.mid cleaned.writes in
    let all = ap (length {A = Entry}) cleaned.history in
    along_by seen old new before after was is w k left (omega (arith, long, all, most))
    (λ ready. (
      subst F (sym kept) (stays_at old.config new.config (e ∷ cleaned.mid) new.history after.rows w.fixed cleaned.config cleaned.history
          (stays_quiet old.config cleaned.mid e after.rows w.fixed leaves (stays_writes old.config old.config.first (me w) n old.history cleaned.mid after.rows w.fixed cleaned.writes
          (stays_moved seen old before after w.fixed (rows_stay before after w.fixed unmoved) ready)))),
      omega (arith, ready.few, ap (length {A = Held}) kept),
    )) behind tied later known

one_entry : {D : Type 0} (old new : State D) (by : Caller) (k : Kind) → IsAppended old new by k → length new.history ≤ length old.history + 4
one_entry old new by k entry = omega (arith, ap (length {A = Entry}) entry.history)

pub along_put : {D : Type 0} (seen : D → DiskSeen) (old new : State D) (before after : Plain) (was is : Seen) (w : Working) (p : PageId) (at : ℕ) (bytes : List ℕ) (done : PutDone)
    → (by : IsPutBy old new before.rows after.rows (me w) p at bytes done) → Keeps seen old new before after → Ties seen new after → IsLater was is → log_end new.history ≤ is.end
    → Along seen 1 old new before after was is w (with_answer w (kind.Put p at bytes by.start done.lsn))
along_put {D} seen old new before after was is w p at bytes done by behind tied later known =
    let k = kind.Put p at bytes by.start done.lsn in
    let R : List Row → Type 0 = λ rows. AreHeld rows w.fixed in
    let rows : AreHeld before.rows w.fixed → AreHeld after.rows w.fixed =
    λ held. subst R (sym by.rows_are) (held_kept before.rows w.fixed by.frame (changed_row (row_in before.rows by.frame) (patched by.content at bytes done.lsn) done.place) refl held) in
    along_of seen old new before after was is w k (left_same seen old new by.entry.config by.entry.instance by.disk) (one_entry old new (me w) k by.entry)
    (λ ready. stays_entry old new after.rows w k by.entry (put_leaves p at bytes by.start done.lsn) refl ready.few (stays_moved seen old before after w.fixed rows ready)) behind tied later known

pub along_spent : {D : Type 0} (seen : D → DiskSeen) (old new : State D) (before after : Plain) (was is : Seen) (w : Working) (p : PageId) (at : ℕ) (bytes : List ℕ) (end : ℕ)
    → IsSpentBy old new (me w) p at bytes was.end is.end end → after.rows ≡ before.rows → Keeps seen old new before after → Ties seen new after → IsLater was is → log_end new.history ≤ is.end
    → Along seen 1 old new before after was is w (with_answer w (kind.Refused (call.Put p at bytes) (cause.LogSpent end)))
along_spent seen old new before after was is w p at bytes end spent unmoved behind tied later known =
    along_refused seen old new before after was is w (call.Put p at bytes) (cause.LogSpent end) spent.entry unmoved
    (left_same seen old new spent.entry.config spent.entry.instance spent.disk) (one_entry old new (me w) (kind.Refused (call.Put p at bytes) (cause.LogSpent end)) spent.entry) behind tied later known

-- a checkpoint
pub along_checked : {D : Type 0} (seen : D → DiskSeen) (old new : State D) (frames : Plain) (log : Seen) (w : Working) (lsn : ℕ)
    → IsChecked old new (me w) log.end lsn → Keeps seen old new frames frames → (Ties seen old frames → Ties seen new frames) → log_end new.history ≤ log.end
    → Along seen 1 old new frames frames log log w (with_answer w (kind.Check lsn))
along_checked seen old new frames log w lsn checked behind tied known =
    let k = kind.Check lsn in
    let long = one_entry old new (me w) k checked.entry in
    record {
      left = left_same seen old new checked.entry.config checked.entry.instance checked.disk;
      grown = omega (arith, long);
      pass = refl;
      next = refl;
      ready = λ ready.
          let is = stays_entry old new frames.rows w k checked.entry (check_leaves lsn) refl ready.few (stays_ready seen old frames w.fixed ready) in
          let still = tied (ready.tied, ready.hands) in
          record { tied = still.0; hands = still.1; homes = is.0.homes; apart = is.0.apart; housed = is.0.housed; held = is.0.held; few = is.1 };
      behind = behind;
      log = later_here log;
      known = λ _. known;
    }

-- a receipt that gives no fix back, or the fix that its call got
pub along_kept : {D : Type 0} (seen : D → DiskSeen) (desk : State D) (frames : Plain) (log : Seen) (w : Working) (n : Note) → held_after_note w.next n w.fixed ≡ w.fixed → Along seen 1 desk desk frames frames log log w (with_note desk w n)
along_kept seen desk frames log w n kept =
    let H : List Held → Type 0 = λ held. IsWorkerReady seen desk frames held in
    record {
      left = left_same seen desk desk refl refl refl;
      grown = omega arith;
      pass = refl;
      next = refl;
      ready = λ was. subst H (sym kept) was;
      behind = λ o was. was;
      log = later_here log;
      known = λ was. was;
    }

pub along_more : {D : Type 0} (seen : D → DiskSeen) (n m : ℕ) (old mid new : State D) (before between after : Plain) (was then is : Seen) (w u v : Working)
    → Along seen n old mid before between was then w u → Along seen m mid new between after then is u v → Along seen (n + m) old new before after was is w v
along_more seen n m old mid new before between after was then is w u v a b = record {
  left = left_more seen old mid new a.left b.left;
  grown = omega (arith, a.grown, b.grown);
  pass = b.pass ∙ a.pass;
  next = omega (arith, a.next, b.next);
  ready = λ was. b.ready (a.ready was);
  behind = λ o was. b.behind o (a.behind o was);
  log = later_more was then is a.log b.log;
  known = λ was. b.known (a.known was);
}

newest_test : (b : Bool) (h : List Entry) (y x : Held) (held : List Held) (p : PageId) → same_page y.page p ≡ b → cond b (Some y) (newest_fix held p) ≡ Some x → home h y.page ≡ Some y.frame
    → (newest_fix held p ≡ Some x → home h p ≡ Some x.frame) → home h p ≡ Some x.frame
newest_test true h y x held p test newest here more = let same : y ≡ x = cc in ap (home h) (sym (one_page y.page p test)) ∙ here ∙ ap (λ (z : Held). Some z.frame) same
newest_test false h y x held p test newest here more = more newest

-- a page that is held is in the frame of its newest fix
pub newest_home : (h : List Entry) (held : List Held) (p : PageId) (x : Held) → AreHoused h held → newest_fix held p ≡ Some x → home h p ≡ Some x.frame
newest_home h [] p x housed newest = absurd (cc)
newest_home h (y ∷ held) p x housed newest = newest_test (same_page y.page p) h y x held p refl newest housed.0 (newest_home h held p x housed.1)

some_home : (h : List Entry) (held : List Held) (p : PageId) (found : Option Held) → newest_fix held p ≡ found → AreHoused h held → IsSome found → IsSome (home h p)
some_home h held p None newest housed some = absurd (cc)
some_home h held p (Some x) newest housed some = let S : Option ℕ → Type 0 = λ f. IsSome f in subst S (sym (newest_home h held p x housed newest)) refl

pub held_resident : (h : List Entry) (held : List Held) (p : PageId) → AreHoused h held → IsSome (newest_fix held p) → IsSome (home h p)
held_resident h held p housed some = some_home h held p (newest_fix held p) refl housed some

-- the fix at a place, among the others
around_fix : (items : List Held) (i : ℕ) (h : Held) → slice_get items i ≡ Some h → reverse items ≡ reverse (drop (suc i) items) ++ h ∷ reverse (take i items)
around_fix items i h here = ap reverse (split_at items i h here) ∙ reverse_around (take i items) h (drop (suc i) items)

-- its frame is at rest, and has a fix
pub rest_at : {D : Type 0} (seen : D → DiskSeen) (desk : State D) (frames : Plain) (items : List Held) (i : ℕ) (h : Held) → slice_get items i ≡ Some h → IsWorkerReady seen desk frames (reverse items) → IsUndisturbed frames h.frame
rest_at seen desk frames items i h here ready =
    let B : List Held → Type 0 = λ held. IsWorkerReady seen desk frames held in
    rest_mid seen desk frames (reverse (drop (suc i) items)) h (reverse (take i items)) (subst B (around_fix items i h here) ready)

pub held_at : {D : Type 0} (seen : D → DiskSeen) (desk : State D) (frames : Plain) (items : List Held) (i : ℕ) (h : Held) → slice_get items i ≡ Some h → IsWorkerReady seen desk frames (reverse items) → 0 < held_of (row_in frames.rows h.frame)
held_at seen desk frames items i h here ready =
    let B : List Held → Type 0 = λ held. IsWorkerReady seen desk frames held in
    some_held seen desk frames (reverse (drop (suc i) items)) h (reverse (take i items)) (subst B (around_fix items i h here) ready)

-- one fix less
pub along_removed : {D : Type 0} (seen : D → DiskSeen) (desk : State D) (frames : Plain) (log : Seen) (w v : Working) (items left : List Held) (i : ℕ) (h : Held)
    → w.fixed ≡ reverse items → v.fixed ≡ reverse left → left ≡ take i items ++ drop (suc i) items → slice_get items i ≡ Some h → v.pass ≡ w.pass → v.next ≡ w.next + 1
    → Along seen 1 desk desk frames (given_at frames h.frame) log log w v
along_removed seen desk frames log w v items left i h old new is here pass next =
    let parts : w.fixed ≡ reverse (drop (suc i) items) ++ h ∷ reverse (take i items) = old ∙ around_fix items i h here in
    let now : v.fixed ≡ reverse (drop (suc i) items) ++ reverse (take i items) = new ∙ ap reverse is ∙ reverse-append (take i items) (drop (suc i) items) in
    let B : List Held → Type 0 = λ held. IsWorkerReady seen desk frames held in
    let A : List Held → Type 0 = λ held. IsWorkerReady seen desk (given_at frames h.frame) held in
    record {
      left = left_same seen desk desk refl refl refl;
      grown = omega arith;
      pass = pass;
      next = next;
      ready = λ was. subst A (sym now) (ready_given seen desk frames (reverse (drop (suc i) items)) h (reverse (take i items)) (subst B parts was));
      behind = λ o was. behind_given seen o desk frames h.frame was;
      log = later_here log;
      known = λ was. was;
    }
