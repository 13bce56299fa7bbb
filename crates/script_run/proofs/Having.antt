-- How a frame is had within a fix: nothing comes before the read, or the evict of another page, behind its write where it was dirty.
use Rattle.std.proofs.Common.{◌≡◌, ℕ, Bool, true, false, cond, not, List, [], ◌∷◌, ◌++◌, ◌<◌, ◌&&◌, ◌⊎◌, Option, Some, None, IfSome, length, refl, ap, ◌∙◌, sym, subst, nat_eq, eq-eqb, filter, arith, inl, inr}
use Rattle.std.specs.Option.{is_some}
use Rattle.page_ids.specs.Content.{Content}
use Rattle.page_ids.specs.Same.{same_page}
use Rattle.page_ids.specs.declared.config.Config.{Config}
use Rattle.page_ids.specs.declared.frame_word.Word.{Word}
use Rattle.page_ids.specs.declared.ids.PageId.{PageId}
use Rattle.page_disk.specs.Disks.{DiskSeen}
use Rattle.redo_mark.specs.Logs.{Seen}
use Rattle.trail.specs.declared.event.Dirty.{Dirty}
use Rattle.trail.specs.declared.event.Entry.{Entry}
use Rattle.trail.specs.declared.event.Held.{Held}
use Rattle.trail.specs.declared.event.Event.{Event}
use Rattle.trail.specs.declared.event.Event.TheVariants as event
use Rattle.trail.specs.declared.event.Kind.TheVariants as kind
use Rattle.trail.specs.Trails.{callers, entries, own, Opening}
use Rattle.trail.specs.History.{home, change, value, disk_faults}
use Rattle.trail.specs.Dirt.{cleaned, dirty, dirt_of, is_dirty}
use Rattle.trail.specs.Calls.{calls_of, is_answer, held_by, newest_fix, open_fixes}
use Rattle.trail.specs.Preceding.{GotFrame, kinds}
use Rattle.trail.specs.Book.{book}
use Rattle.trail.proofs.Judging.{HasTurn, of_all}
use Rattle.trail.specs.Still.{IsUnfixed}
use Rattle.trail.specs.Victim.{IsSought, before_write}
use Rattle.frame_words.specs.Plain.{Plain}
use Rattle.frame_words.specs.Rows.{Row}
use Rattle.desk.specs.Ledger.{entry_behind}
use Rattle.desk.specs.State.{State}
use Rattle.desk.specs.Steps.{row_in}
use Rattle.desk.specs.Logged.{IsLogged}
use Rattle.desk.specs.Victims.{IsCleanedFirst, IsWrittenBack, IsEvicted, IsHad}
use Rattle.script_run.specs.Openings.{Start}
use Rattle.script_run.specs.Work.{Working, HasPlayed, IsWorkerReady, AreOf, fixes_of_frame}
use Rattle.script_run.proofs.Fixes.{same_self, one_page, number_is}
use Rattle.script_run.proofs.Handing.{evict_hand, none_withdrawn}
use Rattle.script_run.proofs.Calling.{most_parts, next_by, other_number, own_more}
use Rattle.script_run.proofs.Growing.{me, placed, logged_rest, lawful_entry, so_far_under}
use Rattle.script_run.proofs.Exact.{exact_words, none_newest}

-- What stands before a page is read in, at this history: the call had these entries, and no answer.
pub record Readied {D : Type 0} (seen : D → DiskSeen) (o : Opening) (start : Start) (old new : State D) (log : Seen) (w : Working) (past : List Event) (p : PageId) (h : List Entry) : Type 0 where
  pub made : List Entry
  pub more : List Event
  pub quiet : filter is_answer more ≡ []
  pub so_far : HasPlayed seen o start (placed old new h) log w (more ++ past) made
  pub began : h ≡ made ++ old.history
  pub got : GotFrame p (kinds made)
  -- no frame is in another call's hand
  pub turn : HasTurn (book old.config h) w.pass w.next
  pub faults : disk_faults h ≡ disk_faults old.history
  pub values : (size : ℕ) (base : PageId → Option Content) → value size base h p ≡ value size base old.history p

-- a frame was free, or none is needed
abbrev pub readied_none : {D : Type 0} (seen : D → DiskSeen) (o : Opening) (start : Start) (old new : State D) (log : Seen) (w : Working) (past : List Event) (p : PageId)
    → HasPlayed seen o start (placed old new old.history) log w past [] → Readied seen o start old new log w past p old.history
readied_none seen o start old new log w past p so = record {
  made = [];
  more = [];
  quiet = refl;
  so_far = so;
  began = refl;
  got = tt;
  turn = inl (so.empty_handed refl);
  faults = refl;
  values = λ size base. refl;
}

skip_second : (a b c : Bool) (h g : List Entry) → b ≡ false → cond (a && b && c) h g ≡ g
skip_second true true c h g bad = absurd (cc)
skip_second true false c h g e = refl
skip_second false b c h g e = refl

-- a call that was not begun wrote nothing
pub no_write_before : (past : List Event) (c n : ℕ) (p : PageId) → AreOf c past → calls_of (own c past) < n → before_write c n p (entries past) ≡ entries past
no_write_before [] c n p of less = refl
no_write_before (event.Entry e ∷ past) c n p of less =
    let C : List Event → Type 0 = λ mine. calls_of mine < n in
    let parts = most_parts e.number (calls_of (own c past)) n (subst C (own_more c (event.Entry e) past of.0) less) in
    skip_second (nat_eq e.caller c) (nat_eq e.number n) _ (entries past) (e ∷ entries past) (other_number e.number n parts.0)
no_write_before (event.Receipt r ∷ past) c n p of less =
    let C : List Event → Type 0 = λ mine. calls_of mine < n in
    let parts = most_parts r.number (calls_of (own c past)) n (subst C (own_more c (event.Receipt r) past of.0) less) in
    no_write_before past c n p of.1 parts.1

-- another caller has no event
own_none : (past : List Event) (k c : ℕ) → AreOf k past → nat_eq k c ≡ false → own c past ≡ []
own_none [] k c of other = refl
own_none (e ∷ past) k c of other = ap (λ (b : Bool). cond b (e ∷ own c past) (own c past)) (ap (λ m. nat_eq m c) of.0 ∙ other) ∙ own_none past k c of.1 other

-- so a page that the worker does not hold is nobody's
unfixed_by : (past : List Event) (k : ℕ) (p : PageId) → AreOf k past → newest_fix (held_by past k) p ≡ None → IsUnfixed past p
unfixed_by past k p of none = of_all _ (callers past) (λ c. cases c (nat_eq k c) refl)
  where
    cases : (c : ℕ) (b : Bool) → nat_eq k c ≡ b → newest_fix (held_by past c) p ≡ None
    cases c true t = ap (λ n. newest_fix (held_by past n) p) (sym (number_is k c t)) ∙ none
    cases c false t = ap (λ mine. newest_fix (open_fixes mine) p) (own_none past k c of t)

clean_again : (p : PageId) (ds : List Dirty) → dirt_of (cleaned p ds) p ≡ None
clean_again p [] = refl
clean_again p (d ∷ ds) = pick (same_page d.page p) refl (clean_again p ds)
  where
    pick : (b : Bool) → same_page d.page p ≡ b → dirt_of (cleaned p ds) p ≡ None → dirt_of (cond (not b) (d ∷ cleaned p ds) (cleaned p ds)) p ≡ None
    pick true e none = none
    pick false e none = ap (λ (b : Bool). cond b (Some d) (dirt_of (cleaned p ds) p)) e ∙ none

-- the victim is clean, behind its write where it was dirty
record Swept {D : Type 0} (seen : D → DiskSeen) (o : Opening) (start : Start) (old new : State D) (log : Seen) (w : Working) (past : List Event) (q : PageId) (mid : List Entry) : Type 0 where
  made : List Entry
  more : List Event
  quiet : filter is_answer more ≡ []
  so_far : HasPlayed seen o start (placed old new mid) log w (more ++ past) made
  began : mid ≡ made ++ old.history
  form : (kinds made ≡ []) ⊎ ((lsn : ℕ) × (upto : ℕ) × (kinds made ≡ kind.Write q lsn upto ∷ []))
  clean : is_dirty mid q ≡ false
  before : before_write w.pass w.next q mid ≡ old.history
  hands : (book old.config mid).hands ≡ []
  homes : (p : PageId) → home mid p ≡ home old.history p
  changes : (f : ℕ) → change mid f ≡ change old.history f
  faults : disk_faults mid ≡ disk_faults old.history
  values : (size : ℕ) (base : PageId → Option Content) (p : PageId) → value size base mid p ≡ value size base old.history p

swept_clean : {D : Type 0} (seen : D → DiskSeen) (o : Opening) (start : Start) (old new : State D) (log : Seen) (w : Working) (past : List Event) (q : PageId)
    → HasPlayed seen o start (placed old new old.history) log w past [] → is_dirty old.history q ≡ false → Swept seen o start old new log w past q old.history
swept_clean seen o start old new log w past q so clean =
    let B : List Entry → Type 0 = λ h. before_write w.pass w.next q h ≡ h in
    record {
      made = [];
      more = [];
      quiet = refl;
      so_far = so;
      began = refl;
      form = inl refl;
      clean = clean;
      before = subst B so.entries_are (no_write_before past w.pass w.next q so.alone (let count = next_by (own w.pass past) w.next so.calls in omega (arith, count)));
      hands = so.empty_handed refl;
      homes = λ p. refl;
      changes = λ f. refl;
      faults = refl;
      values = λ size base p. refl;
    }

own_write : (a b c : Bool) (h g : List Entry) → a ≡ true → b ≡ true → c ≡ true → cond (a && b && c) h g ≡ h
own_write true true true h g x y z = refl
own_write true true false h g x y z = absurd (cc)
own_write true false c h g x y z = absurd (cc)
own_write false b c h g x y z = absurd (cc)

swept_written : {D : Type 0} (seen : D → DiskSeen) (o : Opening) (start : Start) (old new : State D) (log : Seen) (w : Working) (past : List Event) (q : PageId) (mid : List Entry)
    → HasPlayed seen o start (placed old new old.history) log w past [] → IsLogged log mid → IsWrittenBack old.config.first (me w) q old.history mid → Swept seen o start old new log w past q mid
swept_written seen o start old new log w past q mid so logged back =
    let k = kind.Write q back.dirt.newest back.upto in
    let at = placed old new old.history in
    let x : Entry = entry_behind old.config.first old.history (me w) k in
    let I : List Entry → Type 0 = λ h. IsLogged log h in
    let all : IsLogged log (x ∷ old.history) = subst I back.entry logged in
    let D : List Entry → Type 0 = λ h. dirt_of (dirty h) q ≡ Some back.dirt in
    let lawful = lawful_entry seen o start at log w past [] old.history k so refl tt tt tt
    (record { dirt = back.dirt; is_dirty = subst D (sym so.entries_are) back.was_dirty; newest = refl; logged = back.covered }) tt tt tt in
    let there : Swept seen o start old new log w past q (x ∷ old.history) = record {
      made = x ∷ [];
      more = event.Entry x ∷ [];
      quiet = refl;
      so_far = so_far_under seen o start at log w past [] k so
          (record { logged = all.0; within = tt; last = so.last_fault; last_log = so.last_log_fault; lawful = lawful; promised = (record { inside = tt; told = tt }, tt); exact = tt }) refl refl refl;
      began = refl;
      form = inr (back.dirt.newest, back.upto, refl);
      clean = ap is_some (clean_again q (dirty old.history));
      before = own_write (nat_eq w.pass w.pass) (nat_eq w.next w.next) (same_page q q) old.history (x ∷ old.history) (eq-eqb w.pass w.pass refl) (eq-eqb w.next w.next refl) (same_self q);
      hands = so.empty_handed refl;
      homes = λ p. refl;
      changes = λ f. refl;
      faults = refl;
      values = λ size base p. refl;
    } in
    let S : List Entry → Type 0 = λ h. Swept seen o start old new log w past q h in
    subst S (sym back.entry) there

swept : {D : Type 0} (seen : D → DiskSeen) (o : Opening) (start : Start) (old new : State D) (log : Seen) (w : Working) (past : List Event) (q : PageId) (mid : List Entry)
    → HasPlayed seen o start (placed old new old.history) log w past [] → IsLogged log mid → IsCleanedFirst old.config.first (me w) q old.history mid → Swept seen o start old new log w past q mid
swept seen o start old new log w past q mid so logged (inl (clean, same)) =
    let S : List Entry → Type 0 = λ h. Swept seen o start old new log w past q h in
    subst S (sym same) (swept_clean seen o start old new log w past q so clean)
swept seen o start old new log w past q mid so logged (inr back) = swept_written seen o start old new log w past q mid so logged back

-- a page with a home is another one than a page without
other_page : (h : List Entry) (q p : PageId) (f : ℕ) → home h q ≡ Some f → home h p ≡ None → same_page q p ≡ false
other_page h q p f here absent = cases (same_page q p) refl
  where
    cases : (b : Bool) → same_page q p ≡ b → b ≡ false
    cases true same = let bad : Some f ≡ None = sym here ∙ ap (home h) (one_page q p same) ∙ absent in absurd (cc)
    cases false same = refl

no_fixes : (held : Option ℕ) (n : ℕ) → held ≡ Some n → IfSome held (λ k. k ≡ 0) → n ≡ 0
no_fixes None n is none = absurd (cc)
no_fixes (Some k) n is none = let same : k ≡ n = cc in sym same ∙ none

-- the victim's frame has no fix, so the worker does not hold the page
pub victim_free : {D : Type 0} {cleared : List Row} (seen : D → DiskSeen) (old had : State D) (frames : Plain) (w : Working) (f : ℕ) → IsWorkerReady seen old frames w.fixed
    → (evicted : IsEvicted old had frames.rows cleared (me w) f) → newest_fix w.fixed evicted.page ≡ None
victim_free seen old had frames w f ready evicted =
    let below = ready.homes evicted.page f evicted.housed in
    let inside : f < length frames.rows = omega (arith, ready.tied.whole, below) in
    none_newest old.history w.fixed evicted.page f ready.housed evicted.housed (no_fixes (row_in frames.rows f).held (fixes_of_frame f w.fixed) (ready.held f inside) evicted.unfixed)

-- the law of the victim, over the trail so far
sought_here : (c d : Config) (caller number : ℕ) (p : PageId) (passed : List (ℕ × Word)) (h mid there : List Entry) → IsSought c h p passed → d ≡ c → there ≡ mid → before_write caller number p mid ≡ h
    → IsSought d (before_write caller number p there) p passed
sought_here c d caller number p passed h mid there sought config at before =
    let S : Config → List Entry → Type 0 = λ config l. IsSought config l p passed in
    subst (λ config. S config (before_write caller number p there)) (sym config)
    (subst (λ l. S c (before_write caller number p l)) (sym at) (subst (λ l. S c l) (sym before) sought))

-- a page left its frame
readied_evicted : {D : Type 0} {cleared : List Row} (seen : D → DiskSeen) (o : Opening) (start : Start) (old new had : State D) (frames : Plain) (log : Seen) (w : Working) (past : List Event) (p : PageId) (f : ℕ)
    → HasPlayed seen o start (placed old new old.history) log w past [] → IsWorkerReady seen old frames w.fixed → IsLogged log had.history → home old.history p ≡ None
    → IsEvicted old had frames.rows cleared (me w) f → Readied seen o start old new log w past p had.history
readied_evicted seen o start old new had frames log w past p f so ready logged absent evicted =
    let q = evicted.page in
    let mid = evicted.mid in
    let k = kind.Evict q f evicted.passed in
    let x : Entry = entry_behind old.config.first mid (me w) k in
    let s = swept seen o start old new log w past q mid so (logged_rest log x mid had.history evicted.history logged) evicted.cleaned in
    let now : List Event = s.more ++ past in
    let N : List Held → Type 0 = λ held. newest_fix held q ≡ None in
    let H : List Entry → Type 0 = λ h. home h q ≡ Some f in
    let C : List Entry → Type 0 = λ h. is_dirty h q ≡ false in
    let lawful = lawful_entry seen o start (placed old new mid) log w now s.made old.history k s.so_far s.began tt tt
    (unfixed_by now w.pass q s.so_far.alone (subst N (sym s.so_far.held) (victim_free seen old had frames w f ready evicted))) tt tt
    (record {
      sought = sought_here old.config o.config w.pass w.next q evicted.passed old.history mid (entries now) evicted.sought (sym so.config_is) s.so_far.entries_are s.before;
      clean = subst C (sym s.so_far.entries_are) s.clean;
      housed = subst H (sym s.so_far.entries_are) (s.homes q ∙ evicted.housed);
    }) tt in
    let closed = none_withdrawn old.config mid s.so_far.steady in
    let there : Readied seen o start old new log w past p (x ∷ mid) = record {
      made = x ∷ s.made;
      more = event.Entry x ∷ s.more;
      quiet = s.quiet;
      so_far = so_far_under seen o start (placed old new mid) log w now s.made k s.so_far (record {
        logged = tt;
        within = tt;
        last = s.so_far.last_fault;
        last_log = s.so_far.last_log_fault;
        lawful = lawful;
        promised = (record { inside = tt; told = tt }, evicted.rising);
        exact = exact_words seen old frames w.fixed mid evicted.passed s.homes s.changes ready evicted.found;
      }) refl refl refl;
      began = ap (λ l. x ∷ l) s.began;
      got = (other_page old.history q p f evicted.housed absent, s.form);
      turn = inr (f, evict_hand old.config.frames x q f evicted.passed (book old.config mid) closed s.hands);
      faults = s.faults;
      values = λ size base. s.values size base p;
    } in
    let R : List Entry → Type 0 = λ h. Readied seen o start old new log w past p h in
    subst R (sym evicted.history) there

pub readied : {D : Type 0} {cleared : List Row} (seen : D → DiskSeen) (o : Opening) (start : Start) (old new had : State D) (frames : Plain) (log : Seen) (w : Working) (past : List Event) (p : PageId) (f : ℕ)
    → HasPlayed seen o start (placed old new old.history) log w past [] → IsWorkerReady seen old frames w.fixed → IsLogged log had.history → home old.history p ≡ None
    → IsHad old had frames.rows cleared (me w) f → Readied seen o start old new log w past p had.history
readied seen o start old new had frames log w past p f so ready logged absent (inl free) =
    let R : List Entry → Type 0 = λ h. Readied seen o start old new log w past p h in
    subst R (sym (ap (λ (s : State _). s.history) free.same)) (readied_none seen o start old new log w past p so)
readied seen o start old new had frames log w past p f so ready logged absent (inr evicted) =
    readied_evicted seen o start old new had frames log w past p f so ready logged absent evicted

-- what was logged before the frame was had
pub logged_before : {D : Type 0} {rows cleared : List Row} (old had : State D) (log : Seen) (by : Rattle.desk.specs.declared.calls.Caller.Caller) (f : ℕ) → IsHad old had rows cleared by f → IsLogged log had.history → IsLogged log old.history
logged_before old had log by f (inl free) logged = let I : List Entry → Type 0 = λ h. IsLogged log h in subst I (ap (λ (s : State _). s.history) free.same) logged
logged_before old had log by f (inr evicted) logged =
    cases evicted.cleaned (logged_rest log (entry_behind old.config.first evicted.mid by (kind.Evict evicted.page f evicted.passed)) evicted.mid had.history evicted.history logged)
  where
    cases : IsCleanedFirst old.config.first by evicted.page old.history evicted.mid → IsLogged log evicted.mid → IsLogged log old.history
    cases (inl (clean, same)) there = let I : List Entry → Type 0 = λ h. IsLogged log h in subst I same there
    cases (inr back) there = logged_rest log (entry_behind old.config.first old.history by (kind.Write evicted.page back.dirt.newest back.upto)) old.history evicted.mid back.entry there

-- a frame is had with the same pool
pub had_config : {D : Type 0} {rows cleared : List Row} (old had : State D) (by : Rattle.desk.specs.declared.calls.Caller.Caller) (f : ℕ) → IsHad old had rows cleared by f → had.config ≡ old.config
had_config old had by f (inl free) = ap (λ (s : State _). s.config) free.same
had_config old had by f (inr evicted) = evicted.config
