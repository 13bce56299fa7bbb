-- A clean: pages are written one after the other behind a trail in which nothing of their caller is under way. The closing flush is one.
use Rattle.std.proofs.Common.{◌≡◌, ℕ, zero, suc, Bool, true, false, cond, List, [], ◌∷◌, ◌++◌, ◌+◌, ◌&&◌, Option, None, Some, length, drop, take, refl, ap, ◌∙◌, sym, subst, nat_eq, filter, append_assoc, ◌≤◌, arith}
use Rattle.page_ids.specs.declared.ids.PageId.{PageId}
use Rattle.trail.specs.declared.event.Dirty.{Dirty}
use Rattle.trail.specs.declared.event.Entry.{Entry}
use Rattle.trail.specs.declared.event.Kind.{Kind}
use Rattle.trail.specs.declared.event.Kind.TheVariants as kind
use Rattle.trail.specs.declared.event.Event.{Event}
use Rattle.trail.specs.declared.event.Event.TheVariants as event
use Rattle.std.specs.List.{AllByRecursion}
use Rattle.std.specs.Option.{option_map_or}
use Rattle.trail.specs.Alone.{IsTrueEvent, IsTrueKind}
use Rattle.trail.proofs.Judging.{AreTrue}
use Rattle.trail.specs.Trails.{mark, entries, number_of, own, receipts, caller_of, Opening}
use Rattle.trail.specs.Kinds.{Placing, grant_in}
use Rattle.trail.specs.Book.{book}
use Rattle.trail.specs.History.{disk_faults, log_faults}
use Rattle.trail.specs.Dirt.{dirty, dirt_of, pages_of}
use Rattle.trail.specs.Calls.{is_answer, held_by, made as made_by, open_fixes}
use Rattle.trail.specs.Legal.{IsTogether, written_pages}
use Rattle.trail.specs.Preceding.{AreWrites, kinds}
use Rattle.trail.specs.Laws.{IsLawful, AreLawful}
use Rattle.trail.specs.Promises.{ArePromised}
use Rattle.desk.specs.declared.calls.Caller.{Caller}
use Rattle.desk.specs.Changes.{IsWriteBack, WritesBack}
use Rattle.desk.specs.Ledger.{entry_behind}
use Rattle.script_run.specs.Openings.{Start, AreFaultsWithin}
use Rattle.script_run.specs.Runs.{AreOfOneThread}
use Rattle.script_run.specs.Work.{AreOf, AreSteady, IsWorkersCall}
use Rattle.script_run.proofs.Fixes.{same_self}
use Rattle.script_run.proofs.Calling.{calling_under, numbered_by, own_more, together_by}

-- the runner's one call
abbrev pub runner : Caller
runner = record { pass = 0; number = 1 }

-- the first dirty page leaves by its write
abbrev pub FrontLeaves : Type 0
FrontLeaves = (h : List Entry) (e : Entry) (d : Dirty) (rest : List Dirty) (lsn upto : ℕ) → dirty h ≡ d ∷ rest → e.kind ≡ kind.Write d.page lsn upto → dirty (e ∷ h) ≡ rest

-- so many writes of this call stand behind this trail, and led to this history
pub record Flushed (by : Caller) (o : Opening) (start : Start) (disk log : ℕ) (past : List Event) (n : ℕ) (mid : List Entry) : Type 0 where
  pub writes : List Event
  pub made : List Entry
  pub good : AreLawful o None (writes ++ past)
  pub promised : ArePromised o start.pages (writes ++ past)
  pub entries_are : entries (writes ++ past) ≡ mid
  pub receipts_are : receipts (writes ++ past) ≡ receipts past
  pub calls : IsWorkersCall (own by.pass (writes ++ past)) by.number made
  pub began : mid ≡ made ++ entries past
  pub are_writes : AreWrites (kinds made)
  pub count : length made ≡ n
  pub taken : take n mid ≡ made
  pub before : drop n mid ≡ entries past
  pub pages : pages_of (dirty (entries past)) ≡ written_pages made ++ pages_of (dirty mid)
  pub quiet : (k : ℕ) → filter (λ e. nat_eq (caller_of e) k && is_answer e) (writes ++ past) ≡ filter (λ e. nat_eq (caller_of e) k && is_answer e) past
  pub silent : filter is_answer writes ≡ []
  pub held : (c : ℕ) → held_by (writes ++ past) c ≡ held_by past c
  pub faults : AreFaultsWithin start disk log mid
  pub last_fault : disk_faults mid ≡ disk_faults (entries past)
  pub last_log_fault : log_faults mid ≡ log_faults (entries past)
  pub steady : AreSteady (entries past) → AreSteady mid
  pub book_is : book o.config mid ≡ book o.config (entries past)
  pub ours : by.pass ≤ 1 → AreOfOneThread past → AreOfOneThread (writes ++ past)
  pub alone : AreOf by.pass past → AreOf by.pass (writes ++ past)
  pub others : (c : ℕ) → nat_eq by.pass c ≡ false → own c (writes ++ past) ≡ own c past
  pub by_it : AreOf by.pass writes
  pub numbers : AllByRecursion (λ (e : Event). number_of e ≡ by.number) writes
  pub exact : (sole : Option ℕ) → AreTrue sole past → AreTrue sole (writes ++ past)

skip : {A : Type 0} (b : Bool) (x y : A) → b ≡ false → cond b x y ≡ y
skip true x y bad = absurd (cc)
skip false x y e = refl

skip_both : {A : Type 0} (b : Bool) (x y : A) → cond (b && false) x y ≡ y
skip_both true x y = refl
skip_both false x y = refl

found_first : (ds : List Dirty) (d : Dirty) (rest : List Dirty) → ds ≡ d ∷ rest → dirt_of ds d.page ≡ Some d
found_first ds d rest is = ap (λ (l : List Dirty). dirt_of l d.page) is ∙ ap (λ (b : Bool). cond b (Some d) (dirt_of rest d.page)) (same_self d.page)

flushed_none : (by : Caller) (o : Opening) (start : Start) (disk log : ℕ) (past : List Event) → AreLawful o None past → ArePromised o start.pages past → IsWorkersCall (own by.pass past) by.number []
    → AreFaultsWithin start disk log (entries past) → Flushed by o start disk log past 0 (entries past)
flushed_none by o start disk log past good promised calls faults = record {
  writes = [];
  made = [];
  good = good;
  promised = promised;
  entries_are = refl;
  receipts_are = refl;
  calls = calls;
  began = refl;
  are_writes = tt;
  count = refl;
  taken = refl;
  before = refl;
  pages = refl;
  quiet = λ k. refl;
  silent = refl;
  held = λ c. refl;
  faults = faults;
  last_fault = refl;
  last_log_fault = refl;
  steady = λ was. was;
  book_is = refl;
  ours = λ few was. was;
  alone = λ was. was;
  others = λ c other. refl;
  by_it = tt;
  numbers = tt;
  exact = λ sole was. was;
}

held_one : (b : Bool) (e : Entry) (mine : List Event) → grant_in e.kind ≡ None → open_fixes (cond b (event.Entry e ∷ mine) mine) ≡ open_fixes mine
held_one true e mine none = ap (λ (g : Option Placing). option_map_or (λ (x : Placing). record { page = x.page; frame = x.frame; number = e.number } ∷ open_fixes mine) g (open_fixes mine)) none
held_one false e mine none = refl

true_write : (sole : Option ℕ) (past : List Event) (e : Entry) (p : PageId) (lsn upto : ℕ) → e.kind ≡ kind.Write p lsn upto → IsTrueEvent sole past (event.Entry e)
true_write None past e p lsn upto is = tt
true_write (Some c) past e p lsn upto is = let K : Kind → Type 0 = λ k. IsTrueKind (entries past) (held_by past c) k in subst K (sym is) tt

flushed_more : (by : Caller) (o : Opening) (start : Start) (disk log : ℕ) (past : List Event) (n : ℕ) (mid new : List Entry) → FrontLeaves
    → Flushed by o start disk log past n mid → IsWriteBack o.first by mid new → Flushed by o start disk log past (suc n) new
flushed_more by o start disk log past n mid new front f back =
    let d = back.oldest in
    let k = kind.Write d.page d.newest back.upto in
    let x : Entry = entry_behind o.first mid by k in
    let e : Event = event.Entry x in
    let so : List Event = f.writes ++ past in
    let found : dirt_of (dirty mid) d.page ≡ Some d = found_first (dirty mid) d back.rest back.first_is in
    let D : List Entry → Type 0 = λ h. dirt_of (dirty h) d.page ≡ Some d in
    let T : ℕ → Type 0 = λ m. IsTogether m (made_by by.number (own by.pass so)) in
    let place : mark o.first mid + 1 ≡ mark o.first (entries so) + 1 = ap (λ h. mark o.first h + 1) (sym f.entries_are) in
    let lawful : IsLawful o None so e = record {
      legal = record {
        place = place;
        number = numbered_by (own by.pass so) by.number f.made f.calls;
        together = subst T (sym place) (subst (λ made. IsTogether (mark o.first (entries so) + 1) made) (sym f.calls.made_are) (together_by o.first f.made (entries past) (entries so) (f.entries_are ∙ f.began)));
        before = tt;
        kind = tt;
      };
      order = tt;
      still = tt;
      covered = record { dirt = d; is_dirty = subst D (sym f.entries_are) found; newest = refl; logged = back.covered };
      causes = tt;
      words = tt;
      victim = tt;
      withdrawal = tt;
    } in
    let left : dirty new ≡ back.rest = ap dirty back.entry ∙ front mid x d back.rest d.newest back.upto back.first_is refl in
    let F : List Entry → Type 0 = λ h. AreFaultsWithin start disk log h in
    let S : List Entry → Type 0 = λ h. AreSteady h in
    let C : List Event → Type 0 = λ mine. IsWorkersCall mine by.number (x ∷ f.made) in
    record {
      writes = e ∷ f.writes;
      made = x ∷ f.made;
      good = (lawful, f.good);
      promised = ((record { inside = tt; told = tt }, tt), f.promised);
      entries_are = ap (λ h. x ∷ h) f.entries_are ∙ sym back.entry;
      receipts_are = f.receipts_are;
      calls = subst C (sym (own_more by.pass e so refl)) (calling_under x (own by.pass so) by.number f.made f.calls refl refl);
      began = back.entry ∙ ap (λ h. x ∷ h) f.began;
      are_writes = (refl, f.are_writes);
      count = ap suc f.count;
      taken = ap (take (suc n)) back.entry ∙ ap (λ l. x ∷ l) f.taken;
      before = ap (drop (suc n)) back.entry ∙ f.before;
      pages = f.pages ∙ ap (λ ds. written_pages f.made ++ pages_of ds) back.first_is ∙ sym (append_assoc (written_pages f.made) (d.page ∷ []) (pages_of back.rest))
          ∙ ap (λ ds. (written_pages f.made ++ d.page ∷ []) ++ pages_of ds) (sym left);
      quiet = λ c. skip_both (nat_eq by.pass c) (e ∷ filter (λ y. nat_eq (caller_of y) c && is_answer y) so) (filter (λ y. nat_eq (caller_of y) c && is_answer y) so) ∙ f.quiet c;
      silent = f.silent;
      held = λ c. held_one (nat_eq by.pass c) x (own c so) refl ∙ f.held c;
      faults = subst F (sym back.entry) (tt, f.faults);
      last_fault = ap disk_faults back.entry ∙ f.last_fault;
      last_log_fault = ap log_faults back.entry ∙ f.last_log_fault;
      steady = λ was. subst S (sym back.entry) (refl, f.steady was);
      book_is = ap (book o.config) back.entry ∙ f.book_is;
      ours = λ few was. (few, f.ours few was);
      alone = λ was. (refl, f.alone was);
      others = λ c other. skip (nat_eq by.pass c) (e ∷ own c so) (own c so) other ∙ f.others c other;
      by_it = (refl, f.by_it);
      numbers = (refl, f.numbers);
      exact = λ sole was. (true_write sole so x d.page d.newest back.upto refl, f.exact sole was);
    }

-- so many writes behind a trail
pub flushed : (by : Caller) (o : Opening) (start : Start) (disk log : ℕ) (past : List Event) (n : ℕ) (mid : List Entry) → FrontLeaves
    → AreLawful o None past → ArePromised o start.pages past → IsWorkersCall (own by.pass past) by.number [] → AreFaultsWithin start disk log (entries past)
    → WritesBack o.first by n (entries past) mid → Flushed by o start disk log past n mid
flushed by o start disk log past zero mid front good promised calls faults writes =
    let P : List Entry → Type 0 = λ h. Flushed by o start disk log past 0 h in
    subst P (sym writes) (flushed_none by o start disk log past good promised calls faults)
flushed by o start disk log past (suc n) mid front good promised calls faults (before, writes, back) =
    flushed_more by o start disk log past n before mid front (flushed by o start disk log past n before front good promised calls faults writes) back

-- each write back takes one
pub write_backs : (first : ℕ) (by : Caller) (n : ℕ) (old new : List Entry) → FrontLeaves → WritesBack first by n old new → n + length (dirty new) ≡ length (dirty old)
write_backs first by zero old new front is = let same = ap (λ h. length (dirty h)) is in omega (arith, same)
write_backs first by (suc n) old new front (mid, writes, back) =
    let d = back.oldest in
    let before = write_backs first by n old mid front writes in
    let x : Entry = entry_behind first mid by (kind.Write d.page d.newest back.upto) in
    let left : dirty new ≡ back.rest = ap dirty back.entry ∙ front mid x d back.rest d.newest back.upto back.first_is refl in
    let a : length (dirty new) ≡ length back.rest = ap (length {A = Dirty}) left in
    let b : length (dirty mid) ≡ suc (length back.rest) = ap (length {A = Dirty}) back.first_is in
    omega (arith, before, a, b)
