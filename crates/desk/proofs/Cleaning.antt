-- Writes of dirty pages, one after the other, and what they leave.
use Rattle.std.proofs.Common.{◌≡◌, ◌≤◌, ◌+◌, ◌++◌, ◌∷◌, ℕ, zero, suc, true, List, [], Option, None, Some, length, refl, ap, ◌∙◌, sym, subst, arith, append_assoc, append-nil}
use Rattle.std.specs.Prelude.{⊤}
use Rattle.std.specs.Option.{is_some}
use Rattle.page_ids.specs.declared.ids.PageId.{PageId}
use Rattle.page_ids.specs.declared.lists.Words.{Words}
use Rattle.redo_mark.specs.Logs.{Seen, IsLater, Grows}
use Rattle.trail.specs.declared.event.Call.{Call}
use Rattle.trail.specs.declared.event.Cause.{Cause}
use Rattle.page_disk.specs.Disks.{DiskSeen}
use Rattle.trail.specs.declared.event.Dirty.{Dirty}
use Rattle.trail.specs.declared.event.Entry.{Entry}
use Rattle.trail.specs.declared.event.Kind.TheVariants as kind
use Rattle.trail.specs.Dirt.{dirty, dirt_of, is_dirty, cleaned}
use Rattle.desk.specs.Changes.{IsWriteBack, WritesBack, IsWriteFault, IsForced, LeavesDesk, covered_to, mark_at, mark_behind, AllSayMarks, AreMarked}
use Rattle.desk.specs.Ledger.{entry_behind}
use Rattle.desk.specs.Logged.{IsUpTo}
use Rattle.desk.specs.Reads.{RoseWithin}
use Rattle.desk.specs.State.{State}
use Rattle.desk.specs.declared.calls.Caller.{Caller}
use Rattle.desk.specs.declared.flush.WriteErr.{WriteErr}
use Rattle.desk.specs.declared.flush.WriteErr.TheVariants as unwritten
use Rattle.instance_lists.proofs.Dirt.{AreApart, dirty_apart, cleaned_front, same_self}

pub front_dirty : (h : List Entry) (d : Dirty) (rest : List Dirty) → dirty h ≡ d ∷ rest → is_dirty h d.page ≡ true
front_dirty h d rest e = ap (λ (ds : List Dirty). is_some (dirt_of ds d.page)) e ∙ here
  where
    here : is_some (dirt_of (d ∷ rest) d.page) ≡ true
    here = rw (same_self d.page) refl

-- a write makes one page clean
pub written_less : (first : ℕ) (by : Caller) (old new : List Entry) → IsWriteBack first by old new → length (dirty old) ≡ length (dirty new) + 1
written_less first by old new w =
    let after : dirty new ≡ w.rest = ap dirty w.entry ∙ ap (cleaned w.oldest.page) w.first_is ∙ cleaned_front w.oldest w.rest (subst AreApart w.first_is (dirty_apart old)) in
    let before = ap (length {A = Dirty}) w.first_is in
    let now = ap (length {A = Dirty}) after in
    omega (arith, before, now)

pub written_longer : (first : ℕ) (by : Caller) (old new : List Entry) → IsWriteBack first by old new → length new ≡ length old + 1
written_longer first by old new w = let e = ap (length {A = Entry}) w.entry in omega (arith, e)

pub writes_more : (first : ℕ) (by : Caller) (n : ℕ) (old mid new : List Entry) → WritesBack first by n old mid → IsWriteBack first by mid new → WritesBack first by (n + 1) old new
writes_more first by n old mid new writes w =
    let one : suc n ≡ n + 1 = omega arith in
    let all : WritesBack first by (suc n) old new = (mid, writes, w) in
    subst (λ (m : ℕ). WritesBack first by m old new) one all

-- so many pages are clean, and so many entries were appended
pub writes_count : (first : ℕ) (by : Caller) (n : ℕ) (old new : List Entry) → WritesBack first by n old new → (length (dirty old) ≡ length (dirty new) + n) × (length new ≡ length old + n)
writes_count first by zero old new same =
    let d = ap (λ (h : List Entry). length (dirty h)) same in
    let l = ap (length {A = Entry}) same in
    (omega (arith, d), omega (arith, l))
writes_count first by (suc n) old new writes =
    let rest = writes_count first by n old writes.0 writes.1 in
    (omega (arith, rest.0, written_less first by writes.0 new writes.2), omega (arith, rest.1, written_longer first by writes.0 new writes.2))

mark_on : (durable end : ℕ) (came more : List Entry) → mark_behind durable end (more ++ came) ≡ mark_behind (mark_behind durable end came) end more
mark_on durable end came [] = refl
mark_on durable end came (e ∷ more) = ap (λ (m : ℕ). mark_at m end e.kind) (mark_on durable end came more)

say_on : (durable end : ℕ) (came more : List Entry) → AllSayMarks durable end came → AllSayMarks (mark_behind durable end came) end more → AllSayMarks durable end (more ++ came)
say_on durable end came [] said says = said
say_on durable end came (e ∷ more) said says =
    (subst (λ (m : ℕ). IsUpTo (mark_at m end e.kind) e.kind) (sym (mark_on durable end came more)) says.0, say_on durable end came more said says.1)

-- no entry came; more entries did; a page was written; an entry came that is no write
pub marked_none : (durable end : ℕ) (h : List Entry) → AreMarked durable end durable h h
marked_none durable end h = record { came = []; split = refl; each = tt; now_is = refl }

pub marked_on : (durable end now after : ℕ) (old mid new : List Entry) → AreMarked durable end now old mid → AreMarked now end after mid new → AreMarked durable end after old new
marked_on durable end now after old mid new a b = record {
  came = b.came ++ a.came;
  split = b.split ∙ ap (λ (l : List Entry). b.came ++ l) a.split ∙ sym (append_assoc b.came a.came old);
  each = say_on durable end a.came b.came a.each (subst (λ (m : ℕ). AllSayMarks m end b.came) a.now_is b.each);
  now_is = b.now_is ∙ ap (λ (m : ℕ). mark_behind m end b.came) a.now_is ∙ sym (mark_on durable end a.came b.came);
}

pub marked_write : (durable end now first : ℕ) (by : Caller) (old new : List Entry) (p : PageId) (lsn upto : ℕ) → now ≡ covered_to durable end lsn → upto ≡ now
    → new ≡ entry_behind first old by (kind.Write p lsn upto) ∷ old → AreMarked durable end now old new
marked_write durable end now first by old new p lsn upto now_is upto_is is =
    record { came = entry_behind first old by (kind.Write p lsn upto) ∷ []; split = is; each = (upto_is ∙ now_is, tt); now_is = now_is }

marked_quiet : (durable end now : ℕ) (old mid new : List Entry) (e : Entry) → ((m : ℕ) → IsUpTo m e.kind) → ((m : ℕ) → mark_at m end e.kind ≡ m) → new ≡ e ∷ mid
    → AreMarked durable end now old mid → AreMarked durable end now old new
marked_quiet durable end now old mid new e quiet still is a = record {
  came = e ∷ a.came;
  split = is ∙ ap (λ (l : List Entry). e ∷ l) a.split;
  each = (quiet (mark_behind durable end (e ∷ a.came)), a.each);
  now_is = a.now_is ∙ sym (still (mark_behind durable end a.came));
}

pub marked_cleaned : (durable end now first : ℕ) (by : Caller) (old mid new : List Entry) (n : ℕ) (skipped : Words) → new ≡ entry_behind first mid by (kind.Clean n skipped) ∷ mid
    → AreMarked durable end now old mid → AreMarked durable end now old new
marked_cleaned durable end now first by old mid new n skipped is a = marked_quiet durable end now old mid new (entry_behind first mid by (kind.Clean n skipped)) (λ m. tt) (λ m. refl) is a

pub marked_refused : (durable end now first : ℕ) (by : Caller) (old mid new : List Entry) (asked : Call) (why : Cause) → new ≡ entry_behind first mid by (kind.Refused asked why) ∷ mid
    → AreMarked durable end now old mid → AreMarked durable end now old new
marked_refused durable end now first by old mid new asked why is a = marked_quiet durable end now old mid new (entry_behind first mid by (kind.Refused asked why)) (λ m. tt) (λ m. refl) is a

grows_same : (x : Option (List ℕ)) → Grows x x
grows_same None = refl
grows_same (Some a) = ([], sym (append-nil a))

grows_on : (x y z : Option (List ℕ)) → Grows x y → Grows y z → Grows x z
grows_on None None z a b = b
grows_on None (Some y) z a b = absurd (cc)
grows_on (Some x) None z a b = absurd a
grows_on (Some x) (Some y) None a b = absurd b
grows_on (Some x) (Some y) (Some z) a b = (a.0 ++ b.0, b.1 ∙ ap (λ (l : List ℕ). l ++ b.0) a.1 ∙ append_assoc x a.0 b.0)

pub later_same : (s : Seen) → IsLater s s
later_same s = record { first = refl; opened = refl; durable = omega arith; end = omega arith; faults = omega arith; bytes = grows_same s.bytes }

pub later_on : (a b c : Seen) → IsLater a b → IsLater b c → IsLater a c
later_on a b c x y = record {
  first = y.first ∙ x.first;
  opened = y.opened ∙ x.opened;
  durable = omega (arith, x.durable, y.durable);
  end = omega (arith, x.end, y.end);
  faults = omega (arith, x.faults, y.faults);
  bytes = grows_on a.bytes b.bytes c.bytes x.bytes y.bytes;
}

pub rose_wider : (was is first last before after : ℕ) → first ≤ was → is ≤ last → RoseWithin was is before after → RoseWithin first last before after
rose_wider was is first last before after lt le r = record { first = omega (arith, lt, r.first); last = omega (arith, le, r.last); rose = r.rose }

-- within a longer call
pub fault_wider : (disk_was disk_is log_was log_is disk log : ℕ) (e : WriteErr) → disk ≤ disk_was → log ≤ log_was → IsWriteFault disk_was disk_is log_was log_is e → IsWriteFault disk disk_is log log_is e
fault_wider disk_was disk_is log_was log_is disk log (unwritten.RedoFault before after) d l is = rose_wider log_was log_is log log_is before after l (omega arith) is
fault_wider disk_was disk_is log_was log_is disk log (unwritten.DiskFault before after) d l is = rose_wider disk_was disk_is disk disk_is before after d (omega arith) is

module _ {D : Type 0} (seen : D → DiskSeen) where
  pub leaves_same : (s : State D) → LeavesDesk seen s s
  leaves_same s = record { config = refl; instance = refl; sizes = refl; telling = refl; spaces_are = λ n. refl; later = omega arith }

  pub leaves_on : (a b c : State D) → LeavesDesk seen a b → LeavesDesk seen b c → LeavesDesk seen a c
  leaves_on a b c x y = record {
    config = y.config ∙ x.config;
    instance = y.instance ∙ x.instance;
    sizes = y.sizes ∙ x.sizes;
    telling = y.telling ∙ x.telling;
    spaces_are = λ n. y.spaces_are n ∙ x.spaces_are n;
    later = omega (arith, x.later, y.later);
  }

-- where nothing changed, nothing was forced
pub forced_same : {D : Type 0} (old new : D) (e : WriteErr) → new ≡ old → IsForced old new ⊤ e
forced_same old new (unwritten.RedoFault before after) same = (tt, same)
forced_same old new (unwritten.DiskFault before after) same = tt

-- and a failure behind a step that left the disk, which is no failure of the log
pub forced_behind : {D A : Type 0} (old mid new : D) (e : WriteErr) → mid ≡ old → (A → ⊤) → IsForced mid new A e → IsForced old new ⊤ e
forced_behind old mid new (unwritten.RedoFault before after) same on forced = (tt, forced.1 ∙ same)
forced_behind old mid new (unwritten.DiskFault before after) same on forced = tt
