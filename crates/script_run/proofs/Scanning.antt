-- A scan: each page is fixed, read and given back, on its own fix.
use Rattle.std.proofs.Common.{◌≡◌, ℕ, suc, Bool, true, false, cond, List, [], ◌∷◌, ◌++◌, ◌+◌, ◌-◌, ◌⊎◌, inl, inr, Option, Some, Result, Ok, Err, MatchOption, length, refl, ap, ◌∙◌, sym, subst, nat_eq, eq-eqb, filter, reverse, append_assoc, arith}
use Rattle.std.specs.Prelude.{OnOk}
use Rattle.std.proofs.lemmas.List.{reverse-append}
use Rattle.std.proofs.lemmas.List.Elements.{filter-append}
use Rattle.page_ids.specs.Same.{same_page}
use Rattle.page_ids.specs.declared.ids.PageId.{PageId}
use Rattle.page_disk.specs.Disks.{DiskSeen}
use Rattle.redo_mark.specs.Logs.{Seen}
use Rattle.trail.specs.declared.event.Call.TheVariants as call
use Rattle.trail.specs.declared.event.Cause.TheVariants as cause
use Rattle.trail.specs.declared.event.Note.TheVariants as note
use Rattle.trail.specs.declared.event.Held.{Held}
use Rattle.trail.specs.declared.event.Entry.{Entry}
use Rattle.trail.specs.declared.event.Kind.TheVariants as kind
use Rattle.trail.specs.declared.event.Event.{Event}
use Rattle.trail.specs.declared.event.Event.TheVariants as event
use Rattle.trail.specs.Trails.{Opening, caller_of, entries, own}
use Rattle.trail.specs.Calls.{held_after, held_after_kind, held_after_note, held_by, newest_fix, is_answer}
use Rattle.desk.specs.State.{State}
use Rattle.frame_words.specs.Plain.{Plain}
use Rattle.script_text.specs.Grammar.{calls_of}
use Rattle.script_text.specs.declared.script.Command.{Command}
use Rattle.script_text.specs.declared.script.Command.TheVariants as command
use Rattle.script_run.specs.Openings.{Start}
use Rattle.script_run.specs.Todo.{is_one_call, IsEntryOf, IsReceiptOf, IsRefusal, LooksAt}
use Rattle.script_run.specs.Work.{Working, HasPlayed, Does}
use Rattle.script_run.specs.Several.{AlongFew, Done, Looked, Scanned}
use Rattle.script_run.proofs.Along.{along_more, later_here}
use Rattle.script_run.proofs.Growing.{left_same}
use Rattle.script_run.proofs.Fixes.{same_self}
use Rattle.script_run.proofs.Progress.{answers_answer, goes_here, held_pick, held_quiet}

pub on_two : {T E : Type 0} (r : Result T E) (P Q R : Type 0) → (P → Q → R) → OnOk r P → OnOk r Q → OnOk r R
on_two (Ok x) P Q R f p q = f p q
on_two (Err e) P Q R f p q = tt

pub one_call : (c : Command) → is_one_call c ≡ true → calls_of 1 c ≡ 1
one_call (command.Fix p now) one = refl
one_call (command.Create p now) one = refl
one_call (command.Read p at len) one = refl
one_call (command.Put p at bytes) one = refl
one_call (command.Unfix p) one = refl
one_call (command.Scan from last now) one = let bad : ◌≡◌ {A = Bool} false true = one in absurd (cc)
one_call (command.Clean bound) one = refl
one_call command.Checkpoint one = refl

-- no call at all
pub along_none : {D : Type 0} (seen : D → DiskSeen) (desk : State D) (frames : Plain) (log : Seen) (w : Working) → AlongFew seen 0 desk desk frames frames log log w w
along_none seen desk frames log w = (
  0,
  omega arith,
  record {
    left = left_same seen desk desk refl refl refl;
    grown = omega arith;
    pass = refl;
    next = omega arith;
    ready = λ was. was;
    behind = λ o was. was;
    log = later_here log;
    known = λ was. was;
  },
)

pub few_more : {D : Type 0} (seen : D → DiskSeen) (n m : ℕ) (old mid new : State D) (before between after : Plain) (was then is : Seen) (w u v : Working)
    → AlongFew seen n old mid before between was then w u → AlongFew seen m mid new between after then is u v → AlongFew seen (n + m) old new before after was is w v
few_more seen n m old mid new before between after was then is w u v (i, few, first) (j, less, rest) =
    (i + j, omega (arith, few, less), along_more seen i j old mid new before between after was then is w u v first rest)

-- the caller's own newest event does to its fixes what it says
held_own : (e : Event) (past : List Event) (k : ℕ) → caller_of e ≡ k → held_by (e ∷ past) k ≡ held_after e (held_by past k)
held_own e past k mine = held_pick (nat_eq (caller_of e) k) e (own k past) ∙ ap (λ (b : Bool). cond b (held_after e (held_by past k)) (held_by past k)) (eq-eqb (caller_of e) k mine)

-- the fixes behind a call, from those before it
held_behind : {D : Type 0} (seen : D → DiskSeen) (o : Opening) (start : Start) (desk : State D) (log : Seen) (v : Working) (e : Event) (before past : List Event) (fixed : List Held)
    → HasPlayed seen o start desk log v (e ∷ before ++ past) [] → filter is_answer before ≡ [] → held_by past v.pass ≡ fixed → v.fixed ≡ held_after e fixed
held_behind seen o start desk log v e before past fixed so quiet were =
    sym so.held ∙ held_own e (before ++ past) v.pass so.alone.0 ∙ ap (held_after e) (held_quiet before past v.pass quiet ∙ were)

-- the fix that an entry granted
abbrev granted_by : PageId → ℕ → Entry → Held
granted_by p frame e = record { page = p; frame = frame; number = e.number }

is_granted : (p : PageId) (e : Entry) (frame clock now : ℕ) (fixed : List Held) → e.kind ≡ kind.Fix p frame clock now → held_after (event.Entry e) fixed ≡ granted_by p frame e ∷ fixed
is_granted p e frame clock now fixed is = ap (λ k. held_after_kind e.number k fixed) is

newest_own : (p : PageId) (x : Held) (fixed : List Held) → x.page ≡ p → newest_fix (x ∷ fixed) p ≡ Some x
newest_own p x fixed same = ap (λ (b : Bool). cond b (Some x) (newest_fix fixed p)) (ap (λ q. same_page q p) same ∙ same_self p)

refusal_keeps : (e : Event) (p : PageId) (now : ℕ) (fixed : List Held) → IsRefusal (call.Fix p now) e → held_after e fixed ≡ fixed
refusal_keeps (event.Entry e) p now fixed (why, is) = ap (λ k. held_after_kind e.number k fixed) is
refusal_keeps (event.Receipt r) p now fixed (why, is) = ap (λ n. held_after_note r.number n fixed) is

copied_keeps : (e : Event) (p : PageId) (at clock : ℕ) (bytes : List ℕ) (fixed : List Held) → IsReceiptOf (note.Copied p at bytes clock) e → held_after e fixed ≡ fixed
copied_keeps (event.Entry e) p at clock bytes fixed none = absurd none
copied_keeps (event.Receipt r) p at clock bytes fixed is = ap (λ n. held_after_note r.number n fixed) is

abbrev AnswersFix : PageId → ℕ → Event → Type 0
AnswersFix p now e = ((frame : ℕ) × (clock : ℕ) × IsEntryOf (kind.Fix p frame clock now) e) ⊎ IsRefusal (call.Fix p now) e

-- where as many fixes are held as before, the fix was refused
refused_fix : (p : PageId) (now : ℕ) (e : Event) (fixed : List Held) → length (held_after e fixed) ≡ length fixed → AnswersFix p now e → IsRefusal (call.Fix p now) e
refused_fix p now (event.Entry x) fixed same (inl (frame, clock, is)) =
    let more : length (held_after (event.Entry x) fixed) ≡ suc (length fixed) = ap (length {A = Held}) (is_granted p x frame clock now fixed is) in absurd (omega (arith, more, same))
refused_fix p now (event.Receipt r) fixed same (inl (frame, clock, none)) = absurd none
refused_fix p now e fixed same (inr refused) = refused

-- where not, it was granted by its entry
record IsGrant (p : PageId) (now : ℕ) (e : Event) : Type 0 where
  pub entry : Entry
  pub frame : ℕ
  pub clock : ℕ
  pub is : e ≡ event.Entry entry
  pub granted : entry.kind ≡ kind.Fix p frame clock now

granted_fix : (p : PageId) (now : ℕ) (e : Event) (fixed : List Held) → (length (held_after e fixed) ≡ length fixed → ⊥) → AnswersFix p now e → IsGrant p now e
granted_fix p now (event.Entry x) fixed other (inl (frame, clock, is)) = record { entry = x; frame = frame; clock = clock; is = refl; granted = is }
granted_fix p now (event.Receipt r) fixed other (inl (frame, clock, none)) = absurd none
granted_fix p now e fixed other (inr refused) = absurd (other (ap (length {A = Held}) (refusal_keeps e p now fixed refused)))

lone : (e : Event) (before : List Event) → is_answer e ≡ true → filter is_answer before ≡ [] → filter is_answer (e ∷ before) ≡ e ∷ []
lone e before answers quiet = ap (λ (b : Bool). cond b (e ∷ filter is_answer before) (filter is_answer before)) answers ∙ ap (λ xs. e ∷ xs) quiet

pub looked_refused : {D : Type 0} (seen : D → DiskSeen) (o : Opening) (start : Start) (old new : State D) (was is : Seen) (w v : Working) (past : List Event) (p : PageId) (now : ℕ)
    → HasPlayed seen o start old was w past [] → v.pass ≡ w.pass → length v.fixed ≡ length w.fixed → Does seen o start new is v past (command.Fix p now)
    → Looked seen o start new is v past p now
looked_refused seen o start old new was is w v past p now so pass same d =
    let all : List Event = d.answer ∷ d.before ++ past in
    let were : held_by past v.pass ≡ w.fixed = ap (held_by past) pass ∙ so.held in
    let fixed : v.fixed ≡ held_after d.answer w.fixed = held_behind seen o start new is v d.answer d.before past w.fixed d.so_far d.quiet were in
    let told = d.answers (entries all) (goes_here all) in
    let answers = answers_answer (entries all) v.pass (command.Fix p now) past d.answer told in
    let refused = refused_fix p now d.answer w.fixed (sym (ap (length {A = Held}) fixed) ∙ same) told in
    record { more = d.answer ∷ d.before; so_far = d.so_far; looks = inr (d.answer, ap reverse (lone d.answer d.before answers d.quiet), refused) }

pub looked_granted : {D : Type 0} (seen : D → DiskSeen) (o : Opening) (start : Start) (old new : State D) (was is : Seen) (w v u z : Working) (past : List Event) (p : PageId) (now : ℕ)
    → HasPlayed seen o start old was w past [] → v.pass ≡ w.pass → (length v.fixed ≡ length w.fixed → ⊥) → (d : Does seen o start new is v past (command.Fix p now))
    → u.pass ≡ v.pass → (b : Does seen o start new is u (d.answer ∷ d.before ++ past) (command.Read p 38 4))
    → z.pass ≡ u.pass → Does seen o start new is z (b.answer ∷ b.before ++ (d.answer ∷ d.before ++ past)) (command.Unfix p)
    → Looked seen o start new is z past p now
looked_granted seen o start old new was is w v u z past p now so pass other d pass_read b pass_unfix g =
    let first : List Event = d.answer ∷ d.before ++ past in
    let second : List Event = b.answer ∷ b.before ++ first in
    let third : List Event = g.answer ∷ g.before ++ second in
    let were : held_by past v.pass ≡ w.fixed = ap (held_by past) pass ∙ so.held in
    let fixed : v.fixed ≡ held_after d.answer w.fixed = held_behind seen o start new is v d.answer d.before past w.fixed d.so_far d.quiet were in
    let told = d.answers (entries first) (goes_here first) in
    let grant : IsGrant p now d.answer = granted_fix p now d.answer w.fixed (λ same. other (ap (length {A = Held}) fixed ∙ same)) told in
    let x : Held = granted_by p grant.frame grant.entry in
    let held : v.fixed ≡ x ∷ w.fixed = fixed ∙ ap (λ e. held_after e w.fixed) grant.is ∙ is_granted p grant.entry grant.frame grant.clock now w.fixed grant.granted in
    let held_read : held_by first u.pass ≡ x ∷ w.fixed = ap (held_by first) pass_read ∙ d.so_far.held ∙ held in
    let R : List Held → Type 0 = λ fixes. MatchOption (newest_fix fixes p) (IsReceiptOf (note.Refused (call.Read p 38 4) cause.Unheld) b.answer)
    (λ held. (bytes : List ℕ) × (clock : ℕ) × (length bytes ≡ 4) × IsReceiptOf (note.Copied p 38 bytes clock) b.answer) in
    let N : Option Held → Type 0 = λ found. MatchOption found (IsReceiptOf (note.Refused (call.Read p 38 4) cause.Unheld) b.answer)
    (λ held. (bytes : List ℕ) × (clock : ℕ) × (length bytes ≡ 4) × IsReceiptOf (note.Copied p 38 bytes clock) b.answer) in
    let read = subst N (newest_own p x w.fixed refl) (subst R held_read (b.answers (entries second) (goes_here second))) in
    let left : u.fixed ≡ x ∷ w.fixed = held_behind seen o start new is u b.answer b.before first (x ∷ w.fixed) b.so_far b.quiet held_read ∙ copied_keeps b.answer p 38 read.1 read.0 (x ∷ w.fixed) read.3 in
    let held_unfix : held_by second z.pass ≡ x ∷ w.fixed = ap (held_by second) pass_unfix ∙ b.so_far.held ∙ left in
    let U : List Held → Type 0 = λ fixes. MatchOption (newest_fix fixes p) (IsReceiptOf (note.Refused (call.Unfix p) cause.Unheld) g.answer) (λ held. IsReceiptOf (note.Unfixed p held.frame held.number) g.answer) in
    let V : Option Held → Type 0 = λ found. MatchOption found (IsReceiptOf (note.Refused (call.Unfix p) cause.Unheld) g.answer) (λ held. IsReceiptOf (note.Unfixed p held.frame held.number) g.answer) in
    let back : IsReceiptOf (note.Unfixed p grant.frame grant.entry.number) g.answer = subst V (newest_own p x w.fixed refl) (subst U held_unfix (g.answers (entries third) (goes_here third))) in
    let one : filter is_answer (d.answer ∷ d.before) ≡ d.answer ∷ [] = lone d.answer d.before (answers_answer (entries first) v.pass (command.Fix p now) past d.answer told) d.quiet in
    let two : filter is_answer (b.answer ∷ b.before) ≡ b.answer ∷ [] =
    lone b.answer b.before (answers_answer (entries second) u.pass (command.Read p 38 4) first b.answer (b.answers (entries second) (goes_here second))) b.quiet in
    let three : filter is_answer (g.answer ∷ g.before) ≡ g.answer ∷ [] =
    lone g.answer g.before (answers_answer (entries third) z.pass (command.Unfix p) second g.answer (g.answers (entries third) (goes_here third))) g.quiet in
    let own : List Event = d.answer ∷ d.before in
    let between : List Event = b.answer ∷ b.before in
    let last : List Event = g.answer ∷ g.before in
    let together : (last ++ (between ++ own)) ++ past ≡ third = append_assoc last (between ++ own) past ∙ ap (λ l. last ++ l) (append_assoc between own past) in
    let all : filter is_answer (last ++ (between ++ own)) ≡ g.answer ∷ b.answer ∷ event.Entry grant.entry ∷ [] =
    filter-append is_answer last (between ++ own) ∙ ap (λ l. filter is_answer last ++ l) (filter-append is_answer between own)
    ∙ ap (λ l. l ++ (filter is_answer between ++ filter is_answer own)) three ∙ ap (λ l. g.answer ∷ (l ++ filter is_answer own)) two
    ∙ ap (λ l. g.answer ∷ b.answer ∷ l) (one ∙ ap (λ e. e ∷ []) grant.is) in
    let S : List Event → Type 0 = λ l. HasPlayed seen o start new is z l [] in
    record {
      more = last ++ (between ++ own);
      so_far = subst S (sym together) g.so_far;
      looks = inl (record {
        fix = grant.entry;
        frame = grant.frame;
        clock = grant.clock;
        bytes = read.0;
        seen = read.1;
        read = b.answer;
        unfix = g.answer;
        answers_are = ap reverse all;
        granted = grant.granted;
        four = read.2;
        copied = read.3;
        unfixed = back;
      });
    }

pub scanned_none : {D : Type 0} (seen : D → DiskSeen) (o : Opening) (start : Start) (desk : State D) (log : Seen) (w : Working) (past : List Event) (from : PageId) (now : ℕ)
    → HasPlayed seen o start desk log w past [] → Scanned seen o start desk log w past from now 0
scanned_none seen o start desk log w past from now so = record { more = []; so_far = so; scans = refl }

pub scanned_more : {D : Type 0} (seen : D → DiskSeen) (o : Opening) (start : Start) (desk new : State D) (was is : Seen) (w v : Working) (past : List Event) (from p : PageId) (now i n : ℕ)
    → n ≡ i + 1 → p ≡ record { space = from.space; page = from.page + i } → (s : Scanned seen o start desk was w past from now i) → Looked seen o start new is v (s.more ++ past) p now
    → Scanned seen o start new is v past from now n
scanned_more seen o start desk new was is w v past from p now i n next here s l =
    let C : ℕ → Type 0 = λ k. Scanned seen o start new is v past from now k in
    let S : List Event → Type 0 = λ all. HasPlayed seen o start new is v all [] in
    let L : PageId → Type 0 = λ q. LooksAt q now (reverse (filter is_answer l.more)) in
    let suc_is : n ≡ suc i = omega (arith, next) in
    subst C (sym suc_is) (record {
      more = l.more ++ s.more;
      so_far = subst S (sym (append_assoc l.more s.more past)) l.so_far;
      scans = (
        reverse (filter is_answer s.more),
        reverse (filter is_answer l.more),
        ap reverse (filter-append is_answer l.more s.more) ∙ reverse-append (filter is_answer l.more) (filter is_answer s.more),
        s.scans,
        subst L here l.looks,
      );
    })

pub done_scan : {D : Type 0} (seen : D → DiskSeen) (o : Opening) (start : Start) (desk : State D) (log : Seen) (w : Working) (past : List Event) (from : PageId) (last now : ℕ)
    → Scanned seen o start desk log w past from now (last - from.page + 1) → Done seen o start desk log w past (command.Scan from last now)
done_scan seen o start desk log w past from last now s = record { more = s.more; so_far = s.so_far; makes = λ h goes. s.scans }
