-- Commands are done one after the other, and then what is held is given back.
use Rattle.std.proofs.Common.{◌≡◌, ℕ, Bool, true, false, cond, List, [], ◌∷◌, ◌++◌, ◌⊎◌, inl, inr, Option, Some, None, MatchOption, length, refl, ap, ◌∙◌, sym, subst, nat_eq, filter, reverse, append_assoc, eq-eqb}
use Rattle.std.proofs.lemmas.List.{reverse-append, reverse-reverse}
use Rattle.std.proofs.lemmas.List.Elements.{filter-append}
use Rattle.page_ids.specs.declared.ids.PageId.{PageId}
use Rattle.page_disk.specs.Disks.{DiskSeen}
use Rattle.trail.specs.declared.event.Call.{Call}
use Rattle.trail.specs.declared.event.Call.TheVariants as call
use Rattle.trail.specs.declared.event.Cause.TheVariants as cause
use Rattle.trail.specs.declared.event.Note.TheVariants as note
use Rattle.trail.specs.declared.event.Held.{Held}
use Rattle.trail.specs.declared.event.Entry.{Entry}
use Rattle.trail.specs.declared.event.Kind.{Kind}
use Rattle.trail.specs.declared.event.Kind.TheVariants as kind
use Rattle.trail.specs.declared.event.Event.{Event}
use Rattle.trail.specs.declared.event.Event.TheVariants as event
use Rattle.trail.specs.Trails.{Opening, caller_of, entries, own}
use Rattle.trail.specs.Calls.{held_after, held_by, held_after_kind, newest_fix, is_answer, given_back, open_fixes}
use Rattle.trail.specs.Kinds.{kind_answers}
use Rattle.desk.specs.State.{State}
use Rattle.script_text.specs.declared.script.Command.{Command}
use Rattle.script_text.specs.declared.script.Command.TheVariants as command
use Rattle.script_run.specs.Todo.{is_one_call, Answers, Makes, HistoryGoesOn, Todo, GivesBack, IsReceiptOf, IsEntryOf, IsRefusal}
use Rattle.redo_mark.specs.Logs.{Seen}
use Rattle.script_run.specs.Openings.{Start}
use Rattle.script_run.specs.Work.{Working, HasPlayed, Does, Progress, Ending, Worked, with_note}
use Rattle.script_run.specs.Several.{Done}
use Rattle.script_run.proofs.Fixes.{same_self}
use Rattle.script_run.proofs.Doing.{does_unfix}

-- what a command has for its answer depends on the fixes that are held alone
answers_along : (h : List Entry) (k : ℕ) (c : Command) (past earlier : List Event) (e : Event) → held_by past k ≡ held_by earlier k → Answers h k c past e → Answers h k c earlier e
answers_along h k (command.Fix p now) past earlier e same a = a
answers_along h k (command.Create p now) past earlier e same a = a
answers_along h k (command.Read p at len) past earlier e same a =
    let M : List Held → Type 0 = λ fixes. MatchOption (newest_fix fixes p) (IsReceiptOf (note.Refused (call.Read p at len) cause.Unheld) e)
    (λ held. (bytes : List ℕ) × (clock : ℕ) × (length bytes ≡ len) × IsReceiptOf (note.Copied p at bytes clock) e) in
    subst M same a
answers_along h k (command.Put p at bytes) past earlier e same a =
    let M : List Held → Type 0 = λ fixes. MatchOption (newest_fix fixes p) (IsReceiptOf (note.Refused (call.Put p at bytes) cause.Unheld) e)
    (λ held. ((from : ℕ) × (end : ℕ) × IsEntryOf (kind.Put p at bytes from end) e) ⊎ IsRefusal (call.Put p at bytes) e) in
    subst M same a
answers_along h k (command.Unfix p) past earlier e same a =
    let M : List Held → Type 0 = λ fixes. MatchOption (newest_fix fixes p) (IsReceiptOf (note.Refused (call.Unfix p) cause.Unheld) e) (λ held. IsReceiptOf (note.Unfixed p held.frame held.number) e) in
    subst M same a
answers_along h k (command.Clean bound) past earlier e same a = a
answers_along h k command.Checkpoint past earlier e same a = a
answers_along h k (command.Scan from last now) past earlier e same a = a

-- and so its answers
makes_along : (h : List Entry) (k : ℕ) (c : Command) (past earlier mine : List Event) → held_by past k ≡ held_by earlier k → Makes h k c past mine → Makes h k c earlier mine
makes_along h k (command.Scan from last now) past earlier mine same scans = scans
makes_along h k (command.Fix p now) past earlier mine same (e, one, a) = (e, one, answers_along h k (command.Fix p now) past earlier e same a)
makes_along h k (command.Create p now) past earlier mine same (e, one, a) = (e, one, answers_along h k (command.Create p now) past earlier e same a)
makes_along h k (command.Read p at len) past earlier mine same (e, one, a) = (e, one, answers_along h k (command.Read p at len) past earlier e same a)
makes_along h k (command.Put p at bytes) past earlier mine same (e, one, a) = (e, one, answers_along h k (command.Put p at bytes) past earlier e same a)
makes_along h k (command.Unfix p) past earlier mine same (e, one, a) = (e, one, answers_along h k (command.Unfix p) past earlier e same a)
makes_along h k (command.Clean bound) past earlier mine same (e, one, a) = (e, one, answers_along h k (command.Clean bound) past earlier e same a)
makes_along h k command.Checkpoint past earlier mine same (e, one, a) = (e, one, answers_along h k command.Checkpoint past earlier e same a)

-- one call has one answer
makes_one : (h : List Entry) (k : ℕ) (c : Command) (past : List Event) (e : Event) → is_one_call c ≡ true → Answers h k c past e → Makes h k c past (e ∷ [])
makes_one h k (command.Scan from last now) past e one a = absurd a
makes_one h k (command.Fix p now) past e one a = (e, refl, a)
makes_one h k (command.Create p now) past e one a = (e, refl, a)
makes_one h k (command.Read p at len) past e one a = (e, refl, a)
makes_one h k (command.Put p at bytes) past e one a = (e, refl, a)
makes_one h k (command.Unfix p) past e one a = (e, refl, a)
makes_one h k (command.Clean bound) past e one a = (e, refl, a)
makes_one h k command.Checkpoint past e one a = (e, refl, a)

-- a history that goes on from some events goes on from those before them
goes_back : (e : Event) (past : List Event) (h : List Entry) → HistoryGoesOn (e ∷ past) h → HistoryGoesOn past h
goes_back (event.Entry e) past h (later, is) = (later ++ e ∷ [], is ∙ sym (append_assoc later (e ∷ []) (entries past)))
goes_back (event.Receipt r) past h goes = goes

pub goes_back_all : (more past : List Event) (h : List Entry) → HistoryGoesOn (more ++ past) h → HistoryGoesOn past h
goes_back_all [] past h goes = goes
goes_back_all (e ∷ more) past h goes = goes_back_all more past h (goes_back e (more ++ past) h goes)

-- the history of some events goes on from them
pub goes_here : (past : List Event) → HistoryGoesOn past (entries past)
goes_here past = ([], refl)

quiet_kind : (n : ℕ) (k : Kind) (held : List Held) → kind_answers k ≡ false → held_after_kind n k held ≡ held
quiet_kind n (kind.Load p f) held silent = refl
quiet_kind n (kind.Fix p f clock now) held silent = absurd (cc)
quiet_kind n (kind.Create p f start end now) held silent = absurd (cc)
quiet_kind n (kind.Put p at bytes start end) held silent = refl
quiet_kind n (kind.Evict p f passed) held silent = refl
quiet_kind n (kind.Write p lsn upto) held silent = refl
quiet_kind n (kind.Move p from to) held silent = refl
quiet_kind n (kind.Withdraw from) held silent = refl
quiet_kind n (kind.Undo from) held silent = refl
quiet_kind n (kind.Shrink chunks) held silent = refl
quiet_kind n (kind.Grow chunks) held silent = refl
quiet_kind n (kind.Resize bytes chunks) held silent = refl
quiet_kind n (kind.Clean written skipped) held silent = refl
quiet_kind n (kind.Check lsn) held silent = refl
quiet_kind n (kind.WatchSet p) held silent = refl
quiet_kind n (kind.WatchAt p f) held silent = refl
quiet_kind n (kind.Occurred p arrived) held silent = refl
quiet_kind n (kind.Unwatch p) held silent = refl
quiet_kind n (kind.Dump pct ids) held silent = refl
quiet_kind n (kind.Refused asked why) held silent = refl

no_answer : (b : Bool) (e : Event) (es : List Event) → cond b (e ∷ es) es ≡ [] → (b ≡ false) × (es ≡ [])
no_answer true e es h = absurd (cc)
no_answer false e es h = (refl, h)

held_more : (b : Bool) (e : Event) (mine : List Event) → held_after e (open_fixes mine) ≡ open_fixes mine → open_fixes (cond b (e ∷ mine) mine) ≡ open_fixes mine
held_more true e mine same = same
held_more false e mine same = refl

-- events that are no answers hold nothing
pub held_quiet : (before past : List Event) (k : ℕ) → filter is_answer before ≡ [] → held_by (before ++ past) k ≡ held_by past k
held_quiet [] past k quiet = refl
held_quiet (event.Entry e ∷ before) past k quiet =
    let none = no_answer (kind_answers e.kind) (event.Entry e) (filter is_answer before) quiet in
    held_more (nat_eq e.caller k) (event.Entry e) (own k (before ++ past)) (quiet_kind e.number e.kind (held_by (before ++ past) k) none.0) ∙ held_quiet before past k none.1
held_quiet (event.Receipt r ∷ before) past k quiet = absurd (cc)

pub held_pick : (b : Bool) (e : Event) (mine : List Event) → open_fixes (cond b (e ∷ mine) mine) ≡ cond b (held_after e (open_fixes mine)) (open_fixes mine)
held_pick true e mine = refl
held_pick false e mine = refl

-- an answer does the same to the fixes, whatever stood between
pub held_along : (e : Event) (past earlier : List Event) (k : ℕ) → held_by past k ≡ held_by earlier k → held_by (e ∷ past) k ≡ held_by (e ∷ earlier) k
held_along e past earlier k same =
    held_pick (nat_eq (caller_of e) k) e (own k past) ∙ ap (λ held. cond (nat_eq (caller_of e) k) (held_after e held) held) same ∙ sym (held_pick (nat_eq (caller_of e) k) e (own k earlier))

refusal_answers : (e : Entry) (c : Call) → IsRefusal c (event.Entry e) → kind_answers e.kind ≡ true
refusal_answers e c (why, is) = ap kind_answers is

no_receipt : (found : Option Held) (e : Entry) (A : Type 0) (B : Held → Type 0) → (A → ⊥) → ((h : Held) → B h → ⊥) → MatchOption found A B → kind_answers e.kind ≡ true
no_receipt None e A B a b m = absurd (a m)
no_receipt (Some h) e A B a b m = absurd (b h m)

put_answers : (found : Option Held) (e : Entry) (p : PageId) (at : ℕ) (bytes : List ℕ)
    → MatchOption found (IsReceiptOf (note.Refused (call.Put p at bytes) cause.Unheld) (event.Entry e)) (λ held. ((from : ℕ) × (end : ℕ) × IsEntryOf (kind.Put p at bytes from end) (event.Entry e)) ⊎ IsRefusal (call.Put p at bytes) (event.Entry e))
    → kind_answers e.kind ≡ true
put_answers None e p at bytes a = absurd a
put_answers (Some held) e p at bytes (inl done) = ap kind_answers done.2
put_answers (Some held) e p at bytes (inr refused) = refusal_answers e (call.Put p at bytes) refused

-- an answer of a command answers
pub answers_answer : (h : List Entry) (k : ℕ) (c : Command) (past : List Event) (e : Event) → Answers h k c past e → is_answer e ≡ true
answers_answer h k c past (event.Receipt r) a = refl
answers_answer h k (command.Fix p now) past (event.Entry e) (inl granted) = ap kind_answers granted.2
answers_answer h k (command.Fix p now) past (event.Entry e) (inr refused) = refusal_answers e (call.Fix p now) refused
answers_answer h k (command.Create p now) past (event.Entry e) (inl granted) = ap kind_answers granted.3
answers_answer h k (command.Create p now) past (event.Entry e) (inr refused) = refusal_answers e (call.Create p now) refused
answers_answer h k (command.Read p at len) past (event.Entry e) a = no_receipt (newest_fix (held_by past k) p) e _ _ (λ x. x) (λ h x. x.3) a
answers_answer h k (command.Put p at bytes) past (event.Entry e) a = put_answers (newest_fix (held_by past k) p) e p at bytes a
answers_answer h k (command.Unfix p) past (event.Entry e) a = no_receipt (newest_fix (held_by past k) p) e _ _ (λ x. x) (λ h x. x) a
answers_answer h k (command.Clean bound) past (event.Entry e) (inl cleaned) = ap kind_answers cleaned.1
answers_answer h k (command.Clean bound) past (event.Entry e) (inr refused) = refusal_answers e (call.Clean bound) refused
answers_answer h k command.Checkpoint past (event.Entry e) (lsn, is) = ap kind_answers is
answers_answer h k (command.Scan from last now) past (event.Entry e) a = absurd a

quiet_test : (b : Bool) (e : Event) (es xs : List Event) → b ≡ false → xs ≡ es → cond b (e ∷ xs) xs ≡ es
quiet_test true e es xs bad same = absurd (cc)
quiet_test false e es xs f same = same

filter_quiet : (before more : List Event) → filter is_answer before ≡ [] → filter is_answer (before ++ more) ≡ filter is_answer more
filter_quiet [] more quiet = refl
filter_quiet (e ∷ before) more quiet =
    let none = no_answer (is_answer e) e (filter is_answer before) quiet in
    quiet_test (is_answer e) e (filter is_answer more) (filter is_answer (before ++ more)) none.0 (filter_quiet before more none.1)

-- the answers, with one more
pub filter_answer : (e : Event) (before more done : List Event) → is_answer e ≡ true → filter is_answer before ≡ [] → filter is_answer more ≡ done → filter is_answer (e ∷ before ++ more) ≡ e ∷ done
filter_answer e before more done answers quiet are =
    ap (λ (b : Bool). cond b (e ∷ filter is_answer (before ++ more)) (filter is_answer (before ++ more))) answers ∙ ap (λ xs. e ∷ xs) (filter_quiet before more quiet ∙ are)

around : (e : Event) (done tail : List Event) → reverse (e ∷ done) ++ tail ≡ reverse done ++ e ∷ tail
around e done tail = ap (λ xs. xs ++ tail) (reverse-append (e ∷ []) done) ∙ append_assoc (reverse done) (e ∷ []) tail

pub append_nil : {A : Type 0} → (xs : List A) → xs ++ [] ≡ xs
append_nil [] = refl
append_nil (x ∷ xs) = ap (λ t. x ∷ t) (append_nil xs)

-- events do to the fixes what their answers do
held_answers : (more past earlier : List Event) (k : ℕ) → held_by past k ≡ held_by earlier k → held_by (more ++ past) k ≡ held_by (filter is_answer more ++ earlier) k
held_answers [] past earlier k same = same
held_answers (e ∷ more) past earlier k same = cases (is_answer e) refl (held_answers more past earlier k same)
  where
    cases : (b : Bool) → is_answer e ≡ b → held_by (more ++ past) k ≡ held_by (filter is_answer more ++ earlier) k
        → held_by (e ∷ more ++ past) k ≡ held_by (cond b (e ∷ filter is_answer more) (filter is_answer more) ++ earlier) k
    cases true t next = held_along e (more ++ past) (filter is_answer more ++ earlier) k next
    cases false t next = held_quiet (e ∷ []) (more ++ past) k (ap (λ (b : Bool). cond b (e ∷ []) []) t) ∙ next

-- a command that is one call was done
pub done_one : {D : Type 0} (seen : D → DiskSeen) (o : Opening) (start : Start) (desk : State D) (log : Seen) (w : Working) (past : List Event) (c : Command) → is_one_call c ≡ true
    → Does seen o start desk log w past c → Done seen o start desk log w past c
done_one seen o start desk log w past c one does =
    let now : List Event = does.answer ∷ does.before ++ past in
    let answers : is_answer does.answer ≡ true = answers_answer (entries now) w.pass c past does.answer (does.answers (entries now) (goes_here now)) in
    let lone : filter is_answer (does.answer ∷ does.before) ≡ does.answer ∷ [] =
    ap (λ (b : Bool). cond b (does.answer ∷ filter is_answer does.before) (filter is_answer does.before)) answers ∙ ap (λ xs. does.answer ∷ xs) does.quiet in
    record {
      more = does.answer ∷ does.before;
      so_far = does.so_far;
      makes = λ h goes.
          let M : List Event → Type 0 = λ mine. Makes h w.pass c past mine in
          subst M (sym (ap reverse lone)) (makes_one h w.pass c past does.answer one (does.answers h goes));
    }

pub progress_more : {D : Type 0} (seen : D → DiskSeen) (o : Opening) (start : Start) (desk new : State D) (was is : Seen) (w v : Working) (past : List Event) (commands : List Command) (c : Command) (rest : List Command)
    → v.pass ≡ w.pass → (so : Progress seen o start desk was w past commands (c ∷ rest)) → Done seen o start new is v (so.more ++ past) c → Progress seen o start new is v past commands rest
progress_more seen o start desk new was is w v past commands c rest pass so does =
    let H : ℕ → Type 0 = λ k. held_by (so.more ++ past) k ≡ held_by (so.done ++ past) k in
    let held : held_by (so.more ++ past) v.pass ≡ held_by (so.done ++ past) v.pass = subst H (sym pass) so.held in
    let L : ℕ → Type 0 = λ k. (h : List Entry) (tail : List Event) → HistoryGoesOn (so.more ++ past) h → Todo h k (c ∷ rest) (so.done ++ past) tail → Todo h k commands past (reverse so.done ++ tail) in
    let left = subst L (sym pass) so.left in
    let did : List Event = filter is_answer does.more in
    let all : does.more ++ (so.more ++ past) ≡ (does.more ++ so.more) ++ past = sym (append_assoc does.more so.more past) in
    let done : did ++ (so.done ++ past) ≡ (did ++ so.done) ++ past = sym (append_assoc did so.done past) in
    let S : List Event → Type 0 = λ p. HasPlayed seen o start new is v p [] in
    record {
      more = does.more ++ so.more;
      done = did ++ so.done;
      so_far = subst S all does.so_far;
      done_are = filter-append is_answer does.more so.more ∙ ap (λ xs. did ++ xs) so.done_are;
      held = ap (λ p. held_by p v.pass) (sym all) ∙ held_answers does.more (so.more ++ past) (so.done ++ past) v.pass held ∙ ap (λ p. held_by p v.pass) done;
      left = λ h tail goes t.
          let G : List Event → Type 0 = λ l. HistoryGoesOn l h in
          let here : HistoryGoesOn (does.more ++ (so.more ++ past)) h = subst G (sym all) goes in
          let mine : List Event = reverse did in
          let E : List Event → Type 0 = λ earlier. Todo h v.pass rest earlier tail in
          let others : Todo h v.pass rest (reverse mine ++ (so.done ++ past)) tail = subst E (sym (ap (λ xs. xs ++ (so.done ++ past)) (reverse-reverse did) ∙ done)) t in
          let one : Todo h v.pass (c ∷ rest) (so.done ++ past) (mine ++ tail) =
          (mine, tail, refl, makes_along h v.pass c (so.more ++ past) (so.done ++ past) mine held (does.makes h here), others) in
          let T : List Event → Type 0 = λ l. Todo h v.pass commands past l in
          subst T (sym (ap (λ xs. xs ++ tail) (reverse-append did so.done) ∙ append_assoc (reverse so.done) mine tail))
          (left h (mine ++ tail) (goes_back_all does.more (so.more ++ past) h here) one);
    }

pub ending_start : {D : Type 0} (seen : D → DiskSeen) (o : Opening) (start : Start) (desk : State D) (log : Seen) (w : Working) (past : List Event) (commands : List Command) → Progress seen o start desk log w past commands [] → Ending seen o start desk log w past commands
ending_start seen o start desk log w past commands so = record {
  more = so.more;
  done = so.done;
  so_far = so.so_far;
  done_are = so.done_are;
  left = λ h tail goes back. let G : List Held → Type 0 = λ held. GivesBack held tail in so.left h tail goes (subst G (sym so.so_far.held ∙ so.held) back);
}

pub ending_more : {D : Type 0} (seen : D → DiskSeen) (o : Opening) (start : Start) (desk : State D) (log : Seen) (w : Working) (past : List Event) (commands : List Command) (h : Held) (rest : List Held)
    → w.fixed ≡ h ∷ rest → Ending seen o start desk log w past commands → Ending seen o start desk log (with_note desk w (note.Unfixed h.page h.frame h.number)) past commands
ending_more seen o start desk log w past commands h rest first so =
    let v : Working = with_note desk w (note.Unfixed h.page h.frame h.number) in
    let newest : newest_fix w.fixed h.page ≡ Some h = ap (λ held. newest_fix held h.page) first ∙ ap (λ (b : Bool). cond b (Some h) (newest_fix rest h.page)) (same_self h.page) in
    let does : Does seen o start desk log v (so.more ++ past) (command.Unfix h.page) = does_unfix seen o start desk log w (so.more ++ past) h.page h so.so_far newest in
    let left_over : v.fixed ≡ rest = ap (given_back h.number) first ∙ ap (λ (b : Bool). cond b rest (h ∷ given_back h.number rest)) (eq-eqb h.number h.number refl) in
    let here : newest_fix (held_by (so.more ++ past) w.pass) h.page ≡ Some h = ap (λ fixes. newest_fix fixes h.page) so.so_far.held ∙ newest in
    let M : Option Held → Type 0 = λ found. MatchOption found (IsReceiptOf (note.Refused (call.Unfix h.page) cause.Unheld) does.answer) (λ held. IsReceiptOf (note.Unfixed h.page held.frame held.number) does.answer) in
    let now : List Event = does.answer ∷ (does.before ++ (so.more ++ past)) in
    let answer : IsReceiptOf (note.Unfixed h.page h.frame h.number) does.answer = subst M here (does.answers (entries now) (goes_here now)) in
    let all : does.answer ∷ (does.before ++ (so.more ++ past)) ≡ does.answer ∷ ((does.before ++ so.more) ++ past) = ap (λ t. does.answer ∷ t) (sym (append_assoc does.before so.more past)) in
    let S : List Event → Type 0 = λ p. HasPlayed seen o start desk log v p [] in
    record {
      more = does.answer ∷ does.before ++ so.more;
      done = does.answer ∷ so.done;
      so_far = subst S all does.so_far;
      done_are = filter_answer does.answer does.before so.more so.done (answers_answer (entries now) v.pass (command.Unfix h.page) (so.more ++ past) does.answer (does.answers (entries now) (goes_here now))) does.quiet so.done_are;
      left = λ hist tail goes back.
          let L : List Event → Type 0 = λ l. HistoryGoesOn l hist in
          let was : HistoryGoesOn (so.more ++ past) hist = goes_back_all (does.answer ∷ does.before) (so.more ++ past) hist (subst L (sym all) goes) in
          let T : List Event → Type 0 = λ t. Todo hist v.pass commands past t in
          let G : List Held → Type 0 = λ held. GivesBack held tail in
          let F : List Held → Type 0 = λ held. GivesBack held (does.answer ∷ tail) in
          subst T (sym (around does.answer so.done tail)) (so.left hist (does.answer ∷ tail) was (subst F (sym first) (answer, subst G left_over back)));
    }

pub worked : {D : Type 0} (seen : D → DiskSeen) (o : Opening) (start : Start) (desk : State D) (log : Seen) (w : Working) (past : List Event) (commands : List Command) → w.fixed ≡ [] → Ending seen o start desk log w past commands → Worked seen o start desk log w past commands
worked seen o start desk log w past commands none so =
    let G : List Held → Type 0 = λ held. GivesBack held [] in
    record {
      more = so.more;
      so_far = so.so_far;
      none = none;
      todo = λ h goes.
          let T : List Event → Type 0 = λ t. Todo h w.pass commands past t in
          subst T (append_nil (reverse so.done) ∙ ap reverse (sym so.done_are)) (so.left h [] goes (subst G (sym none) tt));
    }
