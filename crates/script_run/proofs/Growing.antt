-- How the trail so far grows by an event.
use Rattle.std.proofs.Common.{◌≡◌, ◌<◌, ℕ, List, [], ◌∷◌, ◌++◌, ◌+◌, ◌≤◌, Option, Some, None, true, false, refl, ap, ◌∙◌, sym, subst, IfSome, length, arith, inr}
use Rattle.std.specs.Prelude.{unwrap_or}
use Rattle.page_ids.specs.declared.config.Config.{Config}
use Rattle.page_disk.specs.Disks.{DiskSeen}
use Rattle.redo_mark.specs.Logs.{Seen}
use Rattle.trail.specs.declared.event.Entry.{Entry}
use Rattle.trail.specs.declared.event.Held.{Held}
use Rattle.trail.specs.declared.event.Event.{Event}
use Rattle.trail.specs.declared.event.Event.TheVariants as event
use Rattle.trail.specs.declared.event.Note.{Note}
use Rattle.trail.specs.declared.event.Kind.{Kind}
use Rattle.page_ids.specs.declared.limits.TheConstants.{LIMIT}
use Rattle.trail.specs.Trails.{AreNumbered, mark, entries, own, Opening}
use Rattle.trail.specs.History.{disk_faults, disk_faults_after, log_faults, log_faults_after}
use Rattle.trail.specs.Calls.{calls_of, made, held_by, held_after_kind, held_after_note, open_fixes}
use Rattle.trail.specs.Kinds.{departure_in, kind_answers, write_in}
use Rattle.trail.specs.Book.{book}
use Rattle.trail.specs.Legal.{IsLegalKind, IsLegalNote, IsInOrder, IsTogether}
use Rattle.trail.specs.Preceding.{MayPrecede, MayPrecedeNote}
use Rattle.trail.specs.Still.{IsUnfixed}
use Rattle.trail.specs.Covered.{IsCoveredWrite}
use Rattle.trail.specs.Withdrawal.{IsWithdrawalKind}
use Rattle.trail.specs.Alone.{IsTrueEvent, IsTrueKind, IsTrueNote}
use Rattle.trail.specs.Causes.{IsCausedKind, IsCausedNote}
use Rattle.trail.specs.Victim.{IsVictimKind}
use Rattle.trail.specs.Laws.{IsLawful}
use Rattle.trail.specs.Promises.{IsPromised}
use Rattle.trail.proofs.Judging.{with_true}
use Rattle.desk.specs.declared.calls.Caller.{Caller}
use Rattle.desk.specs.Changes.{LeavesDesk}
use Rattle.desk.specs.State.{State}
use Rattle.desk.specs.Steps.{next_entry}
use Rattle.desk.specs.Logged.{IsLogged, IsLoggedKind}
use Rattle.script_run.specs.Openings.{Start, IsKindWithin}
use Rattle.script_run.specs.Work.{IsWorkersCall, leaves_chunks, Working, HasPlayed, AreOf, FixesFall, with_answer, with_note, next_receipt}
use Rattle.script_run.proofs.Fixes.{falling_note}
use Rattle.script_run.proofs.Values.{faults_up}
use Rattle.script_run.proofs.Calling.{own_more, calling_answer, calling_receipt, calling_under, marks, numbered_by, next_by, numbered_entries, together_by}

abbrev pub me : Working → Caller
me w = record { pass = w.pass; number = w.next }

abbrev pub Left : {D : Type 0} → (D → DiskSeen) → State D → State D → Type 0
Left seen old new = LeavesDesk seen old new

pub left_same : {D : Type 0} (seen : D → DiskSeen) (old new : State D) → new.config ≡ old.config → new.instance ≡ old.instance → new.disk ≡ old.disk → Left seen old new
left_same {D} seen old new config instance disk =
    let F : D → Type 0 = λ d. (seen old.disk).faults ≤ (seen d).faults in
    record {
      config = config;
      instance = instance;
      sizes = ap (λ (d : D). (seen d).size) disk;
      telling = ap (λ (d : D). (seen d).tells) disk;
      spaces_are = λ s. ap (λ d. (seen d).spaces s) disk;
      later = subst F (sym disk) (omega arith);
    }

pub left_more : {D : Type 0} (seen : D → DiskSeen) (a b c : State D) → Left seen a b → Left seen b c → Left seen a c
left_more seen a b c f g = record {
  config = g.config ∙ f.config;
  instance = g.instance ∙ f.instance;
  sizes = g.sizes ∙ f.sizes;
  telling = g.telling ∙ f.telling;
  spaces_are = λ s. g.spaces_are s ∙ f.spaces_are s;
  later = omega (arith, f.later, g.later);
}

pub on_some : {A : Type 0} → (v : Option A) (P Q : A → Type 0) → ((x : A) → v ≡ Some x → P x → Q x) → IfSome v P → IfSome v Q
on_some None P Q f h = h
on_some (Some x) P Q f h = f x refl h

-- What a call leaves of desk and log, beside the images: no count fell, and the log has what the history says.
pub record Moves {D : Type 0} (seen : D → DiskSeen) (old new : State D) (was is : Seen) : Type 0 where
  pub left : Left seen old new
  pub later : was.faults ≤ is.faults
  pub logged : IsLogged is new.history

-- the desk within a call: it has this history, and the disk as it is after the call
abbrev pub placed : {D : Type 0} → State D → State D → List Entry → State D
placed old new h = record { config = old.config; instance = old.instance; history = h; disk = new.disk }

pub logged_rest : (log : Seen) (e : Entry) (h new : List Entry) → new ≡ e ∷ h → IsLogged log new → IsLogged log h
logged_rest log e h new grown logged = let I : List Entry → Type 0 = λ l. IsLogged log l in let all : IsLogged log (e ∷ h) = subst I grown logged in all.1

-- the trail so far, beside the devices as they are after the call
pub so_far_placed : {D : Type 0} (seen : D → DiskSeen) (o : Opening) (start : Start) (old new : State D) (was is : Seen) (w : Working) (past : List Event)
    → HasPlayed seen o start old was w past [] → Moves seen old new was is → IsLogged is old.history → HasPlayed seen o start (placed old new old.history) is w past []
so_far_placed seen o start old new was is w past so moves logged = record {
  good = so.good;
  promised = so.promised;
  entries_are = so.entries_are;
  receipts_are = so.receipts_are;
  first_is = so.first_is;
  config_is = so.config_is;
  pages_are = λ s. so.pages_are s ∙ ap (λ n. unwrap_or n 0) (sym (moves.left.spaces_are s));
  logged = logged;
  faults = faults_up start (seen old.disk).faults was.faults (seen new.disk).faults is.faults old.history moves.left.later moves.later so.faults;
  last_fault = omega (arith, so.last_fault, moves.left.later);
  last_log_fault = omega (arith, so.last_log_fault, moves.later);
  low_is = omega (arith, so.low_is, moves.left.later);
  low_log = omega (arith, so.low_log, moves.later);
  calls = so.calls;
  steady = so.steady;
  empty_handed = so.empty_handed;
  held = so.held;
  falling = so.falling;
  alone = so.alone;
}

-- and at the end of the call
pub so_far_after : {D : Type 0} (seen : D → DiskSeen) (o : Opening) (start : Start) (old new : State D) (log : Seen) (w : Working) (past : List Event) (pending : List Entry) (h : List Entry)
    → Left seen old new → new.history ≡ h → HasPlayed seen o start (placed old new h) log w past pending → HasPlayed seen o start new log w past pending
so_far_after {D} seen o start old new log w past pending h left grown so =
    let make : Config → ℕ → List Entry → State D = λ c i l. record { config = c; instance = i; history = l; disk = new.disk } in
    let S : State D → Type 0 = λ desk. HasPlayed seen o start desk log w past pending in
    subst (λ c. S (make c new.instance new.history)) (sym left.config)
    (subst (λ i. S (make old.config i new.history)) (sym left.instance) (subst (λ l. S (make old.config old.instance l)) (sym grown) so))

-- what the next entry of the worker's call adds
pub record Adds {D : Type 0} (seen : D → DiskSeen) (o : Opening) (start : Start) (desk : State D) (log : Seen) (w : Working) (past : List Event) (k : Kind) : Type 0 where
  pub logged : IsLoggedKind log k
  pub within : IsKindWithin start (seen desk.disk).faults log.faults k
  pub last : disk_faults_after k (disk_faults desk.history) ≤ (seen desk.disk).faults
  pub last_log : log_faults_after k (log_faults desk.history) ≤ log.faults
  pub lawful : IsLawful o None past (event.Entry (next_entry desk (me w) k))
  pub promised : IsPromised o start.pages (entries past) (own w.pass past) (event.Entry (next_entry desk (me w) k))
  pub exact : IsTrueKind desk.history w.fixed k

-- the desk behind that entry
abbrev pub grown : {D : Type 0} → State D → Working → Kind → State D
grown desk w k = record desk { history = next_entry desk (me w) k ∷ desk.history }

exact_kind : {D : Type 0} (seen : D → DiskSeen) (o : Opening) (start : Start) (desk : State D) (log : Seen) (w : Working) (past : List Event) (pending : List Entry) (k : Kind)
    → HasPlayed seen o start desk log w past pending → IsTrueKind desk.history w.fixed k
    → IsTrueEvent (Some w.pass) past (event.Entry (next_entry desk (me w) k))
exact_kind seen o start desk log w past pending k so exact =
    let X : List Entry → List Held → Type 0 = λ h held. IsTrueKind h held k in
    subst (λ h. X h (held_by past w.pass)) (sym so.entries_are) (subst (λ held. X desk.history held) (sym so.held) exact)

held_more : (w : Working) (e : Entry) (past : List Event) → e.caller ≡ w.pass → e.number ≡ w.next → held_by past w.pass ≡ w.fixed → held_by (event.Entry e ∷ past) w.pass ≡ held_after_kind w.next e.kind w.fixed
held_more w e past is number held = ap open_fixes (own_more w.pass (event.Entry e) past is) ∙ ap (λ n. held_after_kind n e.kind (held_by past w.pass)) number ∙ ap (held_after_kind w.next e.kind) held

-- an entry that is the answer of the worker's call
pub so_far_answer : {D : Type 0} (seen : D → DiskSeen) (o : Opening) (start : Start) (desk : State D) (log : Seen) (w : Working) (past : List Event) (pending : List Entry) (k : Kind)
    → HasPlayed seen o start desk log w past pending → Adds seen o start desk log w past k → kind_answers k ≡ true → FixesFall (w.next + 1) (held_after_kind w.next k w.fixed)
    → leaves_chunks k ≡ true → (book desk.config (next_entry desk (me w) k ∷ desk.history)).hands ≡ []
    → HasPlayed seen o start (grown desk w k) log (with_answer w k) (event.Entry (next_entry desk (me w) k) ∷ past) []
so_far_answer seen o start desk log w past pending k so adds answers falls keeps handless =
    let e : Entry = next_entry desk (me w) k in
    let C : List Event → Type 0 = λ mine. IsWorkersCall mine (w.next + 1) [] in
    record {
      good = (with_true o None (Some w.pass) past (event.Entry e) adds.lawful (exact_kind seen o start desk log w past pending k so adds.exact), so.good);
      promised = (adds.promised, so.promised);
      entries_are = ap (λ h. e ∷ h) so.entries_are;
      receipts_are = so.receipts_are;
      first_is = so.first_is;
      config_is = so.config_is;
      pages_are = so.pages_are;
      logged = (adds.logged, so.logged);
      faults = (adds.within, so.faults);
      last_fault = adds.last;
      last_log_fault = adds.last_log;
      low_is = so.low_is;
      low_log = so.low_log;
      calls = subst C (sym (own_more w.pass (event.Entry e) past refl)) (calling_answer e (own w.pass past) w.next pending so.calls refl answers);
      steady = (keeps, so.steady);
      empty_handed = λ none. handless;
      held = held_more w e past refl refl so.held;
      falling = falls;
      alone = (refl, so.alone);
    }

-- an entry before the answer
pub so_far_under : {D : Type 0} (seen : D → DiskSeen) (o : Opening) (start : Start) (desk : State D) (log : Seen) (w : Working) (past : List Event) (pending : List Entry) (k : Kind)
    → HasPlayed seen o start desk log w past pending → Adds seen o start desk log w past k → kind_answers k ≡ false → held_after_kind w.next k w.fixed ≡ w.fixed → leaves_chunks k ≡ true
    → HasPlayed seen o start (grown desk w k) log w (event.Entry (next_entry desk (me w) k) ∷ past) (next_entry desk (me w) k ∷ pending)
so_far_under seen o start desk log w past pending k so adds silent kept keeps =
    let e : Entry = next_entry desk (me w) k in
    let C : List Event → Type 0 = λ mine. IsWorkersCall mine w.next (e ∷ pending) in
    record {
      good = (with_true o None (Some w.pass) past (event.Entry e) adds.lawful (exact_kind seen o start desk log w past pending k so adds.exact), so.good);
      promised = (adds.promised, so.promised);
      entries_are = ap (λ h. e ∷ h) so.entries_are;
      receipts_are = so.receipts_are;
      first_is = so.first_is;
      config_is = so.config_is;
      pages_are = so.pages_are;
      logged = (adds.logged, so.logged);
      faults = (adds.within, so.faults);
      last_fault = adds.last;
      last_log_fault = adds.last_log;
      low_is = so.low_is;
      low_log = so.low_log;
      calls = subst C (sym (own_more w.pass (event.Entry e) past refl)) (calling_under e (own w.pass past) w.next pending so.calls refl silent);
      steady = (keeps, so.steady);
      empty_handed = λ none. absurd (some_made e pending none);
      held = held_more w e past refl refl so.held ∙ kept;
      falling = so.falling;
      alone = (refl, so.alone);
    }
  where
    some_made : (e : Entry) (made : List Entry) → e ∷ made ≡ [] → ⊥
    some_made e made none = cc

-- a receipt; the worker's receipts tell no words
pub so_far_receipt : {D : Type 0} (seen : D → DiskSeen) (o : Opening) (start : Start) (desk : State D) (log : Seen) (w : Working) (past : List Event) (n : Note)
    → HasPlayed seen o start desk log w past [] → IsLawful o None past (event.Receipt (next_receipt desk w n)) → IsPromised o start.pages (entries past) (own w.pass past) (event.Receipt (next_receipt desk w n))
    → IsTrueNote (entries past) (held_by past w.pass) n
    → HasPlayed seen o start desk log (with_note desk w n) (event.Receipt (next_receipt desk w n) ∷ past) []
so_far_receipt {D} seen o start desk log w past n so lawful promised exact =
    let r = next_receipt desk w n in
    let C : List Event → Type 0 = λ mine. IsWorkersCall mine (w.next + 1) [] in
    let mine = own_more w.pass (event.Receipt r) past refl in
    record {
      good = (with_true o None (Some w.pass) past (event.Receipt r) lawful exact, so.good);
      promised = (promised, so.promised);
      entries_are = so.entries_are;
      receipts_are = ap (λ rs. r ∷ rs) so.receipts_are;
      first_is = so.first_is;
      config_is = so.config_is;
      pages_are = so.pages_are;
      logged = so.logged;
      faults = so.faults;
      last_fault = so.last_fault;
      last_log_fault = so.last_log_fault;
      low_is = so.low_is;
      low_log = so.low_log;
      calls = subst C (sym mine) (calling_receipt r (own w.pass past) w.next [] so.calls refl);
      steady = so.steady;
      empty_handed = so.empty_handed;
      held = ap open_fixes mine ∙ ap (held_after_note w.next n) so.held;
      falling = falling_note w.next n w.fixed so.falling;
      alone = (refl, so.alone);
    }

-- A lawful entry of the worker's call, which began at the history `base`.
pub lawful_entry : {D : Type 0} (seen : D → DiskSeen) (o : Opening) (start : Start) (desk : State D) (log : Seen) (w : Working) (past : List Event) (pending base : List Entry) (k : Kind)
    → HasPlayed seen o start desk log w past pending → desk.history ≡ pending ++ base → MayPrecede desk.history pending k → IsLegalKind o (entries past) (own w.pass past) w.pass w.next k
    → IfSome (departure_in k) (λ d. IsUnfixed past d.page) → IfSome (write_in k) (λ v. IsCoveredWrite (entries past) v.page v.lsn v.upto)
    → IsCausedKind o past (entries past) (own w.pass past) w.pass w.next k → IsVictimKind o.config (entries past) w.pass w.next k → IsWithdrawalKind o.config (entries past) w.pass w.next k
    → IsLawful o None past (event.Entry (next_entry desk (me w) k))
lawful_entry seen o start desk log w past pending base k so stands before legal still covered causes victim withdrawal =
    let P : List Entry → List Entry → Type 0 = λ h made. MayPrecede h made k in
    let T : ℕ → Type 0 = λ n. IsTogether n (made w.next (own w.pass past)) in
    let place : mark desk.config.first desk.history + 1 ≡ mark o.first (entries past) + 1 = ap (λ n. mark n desk.history + 1) so.first_is ∙ ap (λ h. mark o.first h + 1) (sym so.entries_are) in
    record {
      legal = record {
        place = place;
        number = numbered_by (own w.pass past) w.next pending so.calls;
        together = subst T (sym place) (subst (λ made. IsTogether (mark o.first (entries past) + 1) made) (sym so.calls.made_are) (together_by o.first pending base (entries past) (so.entries_are ∙ stands)));
        before = subst (λ made. P (entries past) made) (sym so.calls.made_are) (subst (λ h. P h pending) (sym so.entries_are) before);
        kind = legal;
      };
      order = tt;
      still = still;
      covered = covered;
      causes = causes;
      words = tt;
      victim = victim;
      withdrawal = withdrawal;
    }

last_number : (r : Rattle.trail.specs.declared.event.Receipt.Receipt) (c n : ℕ) (past : List Event) → r.caller ≡ c → AreOf c past → calls_of (own c (event.Receipt r ∷ past)) < n → r.number < n
last_number r c n past is of less =
    let parts = Rattle.script_run.proofs.Calling.most_parts r.number (calls_of (own c past)) n (subst (λ (m : ℕ). m < n) (ap calls_of (own_more c (event.Receipt r) past is)) less) in parts.0

in_order_of : (desk_place : ℕ) (past : List Event) (c n : ℕ) (note : Note) → AreOf c past → calls_of (own c past) < n
    → IsInOrder past (event.Receipt (record { place = desk_place; caller = c; number = n; note = note }))
in_order_of place [] c n note of less = tt
in_order_of place (event.Entry e ∷ past) c n note of less = tt
in_order_of place (event.Receipt r ∷ past) c n note of less = inr (of.0, last_number r c n past of.0 of.1 less)

-- a lawful receipt of the worker's call; the worker is the only caller, so its receipts rise
pub lawful_receipt : {D : Type 0} (seen : D → DiskSeen) (o : Opening) (start : Start) (desk : State D) (log : Seen) (w : Working) (past : List Event) (n : Note)
    → HasPlayed seen o start desk log w past [] → MayPrecedeNote (entries past) [] n → IsLegalNote o (entries past) (own w.pass past) n → IsCausedNote o past (entries past) (own w.pass past) w.pass w.next n
    → IsLawful o None past (event.Receipt (next_receipt desk w n))
lawful_receipt seen o start desk log w past n so before legal causes = record {
  legal = record {
    place = ap (λ m. mark m desk.history) so.first_is ∙ ap (mark o.first) (sym so.entries_are);
    number = numbered_by (own w.pass past) w.next [] so.calls;
    before = subst (λ (entries_made : List Entry). MayPrecedeNote (entries past) entries_made n) (sym so.calls.made_are) before;
    note = legal;
  };
  order = in_order_of (mark desk.config.first desk.history) past w.pass w.next n so.alone (let c = next_by (own w.pass past) w.next so.calls in omega (arith, c));
  still = tt;
  covered = tt;
  causes = causes;
  words = tt;
  victim = tt;
  withdrawal = tt;
}

-- the places behind the mark, counted by entries
pub room_of : {D : Type 0} (seen : D → DiskSeen) (o : Opening) (start : Start) (desk : State D) (log : Seen) (w : Working) (past : List Event) (pending : List Entry) (need : ℕ)
    → HasPlayed seen o start desk log w past pending → desk.config.first + length desk.history + need ≤ LIMIT → mark desk.config.first desk.history + need ≤ LIMIT
room_of seen o start desk log w past pending need so room =
    let N : ℕ → List Entry → Type 0 = λ n h. AreNumbered n h in
    let numbered : AreNumbered desk.config.first desk.history = subst (λ n. N n desk.history) (sym so.first_is) (subst (λ h. N o.first h) so.entries_are (numbered_entries _ o past so.good)) in
    let count = marks desk.config.first desk.history numbered in
    omega (arith, count, room)
