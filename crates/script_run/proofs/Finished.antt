-- A worker that is done, with the runner's writes and its closing entry, makes the trail of a run.
use Rattle.std.proofs.Common.{◌≡◌, ℕ, Bool, true, false, cond, List, [], ◌∷◌, ◌++◌, ◌+◌, ◌<◌, ◌≤◌, ◌&&◌, ◌||◌, Option, Some, None, IfSome, length, refl, ap, ◌∙◌, sym, subst, nat_eq, eq-eqb, filter, reverse, arith, inl, inr}
use Rattle.std.proofs.lemmas.Bool.Decides.{nat_tests}
use Rattle.std.proofs.lemmas.List.{reverse-append, reverse-reverse}
use Rattle.std.proofs.lemmas.List.Elements.{filter-append}
use Rattle.page_ids.specs.Content.{Content}
use Rattle.page_ids.specs.declared.ids.PageId.{PageId}
use Rattle.page_ids.specs.declared.config.Config.{Config}
use Rattle.page_disk.specs.Disks.{DiskSeen, pages_in}
use Rattle.page_disk.specs.declared.shelf.FaultAt.{FaultAt}
use Rattle.redo_mark.specs.Logs.{Seen}
use Rattle.trail.specs.declared.event.Entry.{Entry}
use Rattle.trail.specs.declared.event.Receipt.{Receipt}
use Rattle.trail.specs.declared.event.Kind.{Kind}
use Rattle.trail.specs.declared.event.Event.{Event}
use Rattle.trail.specs.declared.event.Event.TheVariants as event
use Rattle.std.specs.List.{AllByRecursion, list_all, list_any}
use Rattle.page_ids.specs.declared.limits.TheConstants.{LIMIT}
use Rattle.trail.specs.declared.event.Held.{Held}
use Rattle.trail.specs.Trails.{Events, mark, entries, receipts, caller_of, number_of, own, Opening}
use Rattle.trail.specs.Book.{book}
use Rattle.trail.specs.Legal.{IsNumbered, IsTogether}
use Rattle.trail.specs.Preceding.{MayPrecede}
use Rattle.trail.specs.Withdrawal.{AreFollowed}
use Rattle.trail.specs.History.{disk_faults, log_faults}
use Rattle.trail.specs.Dirt.{dirty}
use Rattle.trail.specs.Calls.{calls_of, is_answer, is_answered, held_by, made as made_by}
use Rattle.trail.specs.Alone.{IsTrueEvent, IsTrueKind, closing_number, is_of_flush, only_caller, other_callers, sole_of}
use Rattle.trail.proofs.Judging.{AreTrue, unasked, with_words, words_of}
use Rattle.trail.specs.Laws.{IsLawful, IsSettled, AreLawful}
use Rattle.trail.specs.Promises.{ArePromised}
use Rattle.trail.specs.Merging.{AreInOrder, IsMerged, IsPlaced}
use Rattle.desk.specs.State.{State}
use Rattle.desk.specs.Steps.{IsNewDesk}
use Rattle.desk.specs.Logged.{IsLogged}
use Rattle.desk.specs.Changes.{WritesBack}
use Rattle.desk.specs.Ledger.{entry_behind}
use Rattle.script_text.specs.declared.script.Command.{Command}
use Rattle.script_run.specs.Todo.{HistoryGoesOn, Todo, answers_of}
use Rattle.script_run.specs.Openings.{Start, opening_of, AreFaultsWithin}
use Rattle.script_run.specs.Work.{Working, HasPlayed, Worked, AreOf, AreSteady, IsWorkersCall}
use Rattle.script_run.specs.Runs.{IsRunOf, IsClosingClean, IsFlushedWith, AreOfOneThread, closing_of}
use Rattle.script_run.proofs.Calling.{calling_at_start, most_parts, numbered_by, own_all, own_more, together_by}
use Rattle.script_run.proofs.Handing.{all_followed}
use Rattle.script_run.proofs.Growing.{room_of}
use Rattle.script_run.proofs.Flushing.{FrontLeaves, Flushed, flushed, runner}
use Rattle.script_run.proofs.Closing.{Closes, clean_closes, fault_closes}
use Rattle.script_run.proofs.Progress.{append_nil, goes_back_all, goes_here}
use Rattle.script_run.proofs.Values.{faults_up}

-- before the first call
pub so_far_new : {D : Type 0} (seen : D → DiskSeen) (config : Config) (base : Option (PageId → Option Content)) (start : Start) (desk : State D) (log : Seen) (w : Working) (pass : ℕ) (disk : D)
    → IsNewDesk desk config 0 disk → w ≡ record { pass = pass; next = 1; fixed = []; account = [] } → ((s : ℕ) → start.pages s ≡ pages_in (seen disk).spaces s)
    → start.disk_faults ≤ (seen disk).faults → start.log_faults ≤ log.faults
    → HasPlayed seen (opening_of config base) start desk log w [] []
so_far_new {D} seen config base start desk log w pass disk fresh new same disk_low log_low =
    let W : Working → Type 0 = λ x. HasPlayed seen (opening_of config base) start desk log x [] [] in
    let none : desk.history ≡ [] = fresh.history in
    subst W (sym new) (record {
      good = tt;
      promised = tt;
      entries_are = sym none;
      receipts_are = refl;
      first_is = ap (λ c. c.first) fresh.config_is;
      config_is = fresh.config_is;
      pages_are = λ s. same s ∙ ap (λ d. pages_in (seen d).spaces s) (sym fresh.disk_is);
      logged = let I : List Entry → Type 0 = λ h. IsLogged log h in subst I (sym none) tt;
      faults = let F : List Entry → Type 0 = λ h. AreFaultsWithin start (seen desk.disk).faults log.faults h in subst F (sym none) tt;
      last_fault = let L : List Entry → Type 0 = λ h. disk_faults h ≤ (seen desk.disk).faults in subst L (sym none) (omega arith);
      last_log_fault = let L : List Entry → Type 0 = λ h. log_faults h ≤ log.faults in subst L (sym none) (omega arith);
      low_is = let L : D → Type 0 = λ d. start.disk_faults ≤ (seen d).faults in subst L (sym fresh.disk_is) disk_low;
      low_log = log_low;
      calls = calling_at_start;
      steady = let F : List Entry → Type 0 = λ h. AreSteady h in subst F (sym none) tt;
      empty_handed = λ made. ap (λ h. (book desk.config h).hands) none;
      held = refl;
      falling = tt;
      alone = tt;
    })

number_is : (m n : ℕ) → nat_eq m n ≡ true → m ≡ n
number_is m n h = grind (arith, nat_tests)

-- of another caller there is nothing
apart : (a k c : ℕ) → a ≡ k → nat_eq k c ≡ false → nat_eq a c ≡ false
apart a k c same other = ap (λ n. nat_eq n c) same ∙ other

answers_own_step : (a b : Bool) (e : Event) (xs ys : List Event) → a ≡ true → xs ≡ ys → cond (a && b) (e ∷ xs) xs ≡ cond b (e ∷ ys) ys
answers_own_step true true e xs ys own same = ap (λ t. e ∷ t) same
answers_own_step true false e xs ys own same = same
answers_own_step false b e xs ys own same = absurd (cc)

answers_own : (past : List Event) (k : ℕ) → AreOf k past → filter (λ e. nat_eq (caller_of e) k && is_answer e) past ≡ filter is_answer past
answers_own [] k of = refl
answers_own (e ∷ past) k of = answers_own_step (nat_eq (caller_of e) k) (is_answer e) e _ _ (eq-eqb (caller_of e) k of.0) (answers_own past k of.1)

answers_other_step : (a b : Bool) (e : Event) (xs : List Event) → a ≡ false → xs ≡ [] → cond (a && b) (e ∷ xs) xs ≡ []
answers_other_step true b e xs other none = absurd (cc)
answers_other_step false b e xs other none = none

answers_other : (past : List Event) (k c : ℕ) → AreOf k past → nat_eq k c ≡ false → filter (λ e. nat_eq (caller_of e) c && is_answer e) past ≡ []
answers_other [] k c of other = refl
answers_other (e ∷ past) k c of other = answers_other_step (nat_eq (caller_of e) c) (is_answer e) e _ (apart (caller_of e) k c of.0 other) (answers_other past k c of.1 other)

one_more : (b : Bool) (x : Event) (xs : List Event) → reverse xs ++ cond b (x ∷ []) [] ≡ reverse (cond b (x ∷ xs) xs)
one_more true x xs = sym (reverse-append (x ∷ []) xs)
one_more false x xs = append_nil (reverse xs)

filter_reverse : (p : Event → Bool) (xs : List Event) → filter p (reverse xs) ≡ reverse (filter p xs)
filter_reverse p [] = refl
filter_reverse p (x ∷ xs) =
    ap (filter p) (reverse-append (x ∷ []) xs) ∙ filter-append p (reverse xs) (x ∷ []) ∙ ap (λ l. l ++ cond (p x) (x ∷ []) []) (filter_reverse p xs) ∙ one_more (p x) x (filter p xs)

ours : (past : List Event) → AreOf 1 past → AreOfOneThread past
ours [] of = tt
ours (e ∷ past) of = (omega (arith, of.0), ours past of.1)

own_other : (past : List Event) (k c : ℕ) → AreOf k past → nat_eq k c ≡ false → own c past ≡ []
own_other [] k c of other = refl
own_other (e ∷ past) k c of other = ap (λ (b : Bool). cond b (e ∷ own c past) (own c past)) (apart (caller_of e) k c of.0 other) ∙ own_other past k c of.1 other

-- each of the worker's calls has its answer
all_answered : (sole : Option ℕ) (o : Opening) (mine : List Event) (c n : ℕ) (past : List Event) → AreLawful o sole past → AreOf c past → calls_of (own c past) < n → ((k : ℕ) → 1 ≤ k → k < n → is_answered k mine ≡ true)
    → AllByRecursion (λ (e : Event). is_answered (number_of e) mine ≡ true) past
all_answered sole o mine c n [] good of less settled = tt
all_answered sole o mine c n (e ∷ past) good of less settled =
    let C : List Event → Type 0 = λ l. calls_of l < n in
    let parts = most_parts (number_of e) (calls_of (own c past)) n (subst C (own_more c e past of.0) less) in
    (settled (number_of e) (first_number sole o past e good.0) parts.0, all_answered _ o mine c n past good.1 of.1 parts.1 settled)
  where
    open_first : (mine : List Event) (m : ℕ) → IsNumbered mine m → 1 ≤ m
    open_first mine m (inl next) = omega (arith, next)
    open_first mine m (inr waits) = waits.first

    first_number : (s : Option ℕ) (o : Opening) (past : List Event) (e : Event) → IsLawful o s past e → 1 ≤ number_of e
    first_number s o past (event.Entry x) law = open_first (own x.caller past) x.number law.legal.number
    first_number s o past (event.Receipt r) law = open_first (own r.caller past) r.number law.legal.number

settled_by : (o : Opening) (whole : List Event) (mine : List Event) (c : ℕ) (past : List Event) → AreOf c past → own c whole ≡ mine → AllByRecursion (λ (e : Event). is_answered (number_of e) mine ≡ true) past
    → AllByRecursion (IsSettled o whole) past
settled_by o whole mine c [] of is all = tt
settled_by o whole mine c (e ∷ past) of is all =
    let A : List Event → Type 0 = λ l. is_answered (number_of e) l ≡ true in
    (inl (subst A (sym (ap (λ k. own k whole) of.0 ∙ is)) all.0), settled_by o whole mine c past of.1 is all.1)

-- events of the runner's call, which is answered
flush_settled : (o : Opening) (whole : List Event) (flush rest : List Event) → AreOf 0 flush → AllByRecursion (λ (e : Event). number_of e ≡ 1) flush → is_answered 1 (own 0 whole) ≡ true
    → AllByRecursion (IsSettled o whole) rest → AllByRecursion (IsSettled o whole) (flush ++ rest)
flush_settled o whole [] rest of one answered all = all
flush_settled o whole (e ∷ flush) rest of one answered all =
    (inl (ap (λ n. is_answered n (own (caller_of e) whole)) one.0 ∙ ap (λ k. is_answered 1 (own k whole)) of.0 ∙ answered), flush_settled o whole flush rest of.1 one.1 answered all)

-- the one caller of a trail with an event of the worker is the worker
is_one : (l : List ℕ) (c : ℕ) → only_caller l ≡ Some c → list_any (λ d. nat_eq d 1) l ≡ true → c ≡ 1
is_one [] c is any = absurd (cc)
is_one (d ∷ ds) c is any = cases (list_all (λ x. nat_eq x d) ds) refl is
  where
    same : (a b : ℕ) → Some a ≡ Some b → a ≡ b
    same a b e = cc

    eq_of : (m n : ℕ) → nat_eq m n ≡ true → m ≡ n
    eq_of m n t = grind (arith, nat_tests)

    and_left : (a b : Bool) → (a && b) ≡ true → a ≡ true
    and_left true b t = refl
    and_left false b t = absurd (cc)

    and_right : (a b : Bool) → (a && b) ≡ true → b ≡ true
    and_right true b t = t
    and_right false b t = absurd (cc)

    search_all : (xs : List ℕ) → list_all (λ x. nat_eq x d) xs ≡ true → list_any (λ x. nat_eq x 1) xs ≡ true → d ≡ 1
    search_all [] all some = absurd (cc)
    search_all (x ∷ xs) all some = pick (nat_eq x 1) refl some (λ more. search_all xs (and_right (nat_eq x d) (list_all (λ y. nat_eq y d) xs) all) more)
      where
        pick : (b : Bool) → nat_eq x 1 ≡ b → (b || list_any (λ y. nat_eq y 1) xs) ≡ true → (list_any (λ y. nat_eq y 1) xs ≡ true → d ≡ 1) → d ≡ 1
        pick true t some rest = sym (eq_of x d (and_left (nat_eq x d) (list_all (λ y. nat_eq y d) xs) all)) ∙ eq_of x 1 t
        pick false t some rest = rest some

    head : (b : Bool) → nat_eq d 1 ≡ b → (b || list_any (λ x. nat_eq x 1) ds) ≡ true → list_all (λ x. nat_eq x d) ds ≡ true → d ≡ 1
    head true t some all = eq_of d 1 t
    head false t some all = search_all ds all some

    cases : (b : Bool) → list_all (λ x. nat_eq x d) ds ≡ b → cond b (Some d) None ≡ Some c → c ≡ 1
    cases true all e = sym (same d c e) ∙ head (nat_eq d 1) refl any all
    cases false all e = absurd (cc)

any_right : (a b : Bool) → b ≡ true → (a || b) ≡ true
any_right true b t = refl
any_right false b t = t

worker_there : (closing : Option ℕ) (flush : List Event) (e : Event) (rest : List Event) → caller_of e ≡ 1 → list_any (λ d. nat_eq d 1) (other_callers closing (flush ++ e ∷ rest)) ≡ true
worker_there closing [] e rest is = cases (is_of_flush closing e) flushing
  where
    and_false : (a b : Bool) → a ≡ false → (a && b) ≡ false
    and_false true b f = absurd (cc)
    and_false false b f = refl

    flushing : is_of_flush closing e ≡ false
    flushing = and_false (nat_eq (caller_of e) 0) _ (ap (λ n. nat_eq n 0) is)

    cases : (b : Bool) → b ≡ false → list_any (λ d. nat_eq d 1) (cond b (other_callers closing rest) (caller_of e ∷ other_callers closing rest)) ≡ true
    cases true bad = absurd (cc)
    cases false f = ap (λ (b : Bool). b || list_any (λ d. nat_eq d 1) (other_callers closing rest)) (ap (λ n. nat_eq n 1) is)
worker_there closing (x ∷ flush) e rest is = cases (is_of_flush closing x) (worker_there closing flush e rest is)
  where
    cases : (b : Bool) → list_any (λ d. nat_eq d 1) (other_callers closing (flush ++ e ∷ rest)) ≡ true
        → list_any (λ d. nat_eq d 1) (cond b (other_callers closing (flush ++ e ∷ rest)) (caller_of x ∷ other_callers closing (flush ++ e ∷ rest))) ≡ true
    cases true more = more
    cases false more = any_right (nat_eq (caller_of x) 1) (list_any (λ d. nat_eq d 1) (other_callers closing (flush ++ e ∷ rest))) more

-- the worker's events, whoever is alone
worker_true : (flush more : List Event) (closing : Option ℕ) → AreOf 1 more → AreTrue (Some 1) more → AreTrue (only_caller (other_callers closing (flush ++ more))) more
worker_true flush [] closing of exact = tt
worker_true flush (e ∷ rest) closing of exact = cases (only_caller (other_callers closing (flush ++ e ∷ rest))) refl
  where
    none : (l : List Event) → AreTrue None l
    none [] = tt
    none (x ∷ l) = (tt, none l)

    cases : (sole : Option ℕ) → only_caller (other_callers closing (flush ++ e ∷ rest)) ≡ sole → AreTrue sole (e ∷ rest)
    cases None is = none (e ∷ rest)
    cases (Some c) is =
        let X : ℕ → Type 0 = λ n. AreTrue (Some n) (e ∷ rest) in
        subst X (sym (is_one (other_callers closing (flush ++ e ∷ rest)) c is (worker_there closing flush e rest of.0))) exact

-- the closing entry
close_true : (sole : Option ℕ) (past : List Event) (e : Entry) (k : Kind) → e.kind ≡ k → ((held : List Held) → IsTrueKind (entries past) held k) → IsTrueEvent sole past (event.Entry e)
close_true None past e k is exact = tt
close_true (Some c) past e k is exact = let K : Kind → Type 0 = λ x. IsTrueKind (entries past) (held_by past c) x in subst K (sym is) (exact (held_by past c))

closes : (start : Start) (disk_was disk_is log_was log_is : ℕ) (o : Opening) (past : List Event) (n : ℕ) (mid : List Entry) (f : Flushed runner o start disk_is log_is past n mid) (fault : Option FaultAt)
    → start.disk_faults ≤ disk_was → start.log_faults ≤ log_was → disk_faults (entries past) ≤ disk_was → log_faults (entries past) ≤ log_was
    → IfSome fault (λ f. IsFlushedWith disk_was disk_is log_was log_is f) → n ≤ 16384 → mark o.first (entries past) + 16385 ≤ LIMIT → Closes runner start disk_is log_is o (f.writes ++ past) (closing_of fault n)
closes start disk_was disk_is log_was log_is o past n mid f None low low_log last last_log flush most room = clean_closes runner start disk_is log_is o past n mid f most room
closes start disk_was disk_is log_was log_is o past n mid f (Some fault) low low_log last last_log flush most room =
    fault_closes runner start disk_was disk_is log_was log_is o past n mid f 16384 fault.log fault.before fault.after low low_log last last_log flush.where_is.rose flush.counts most (omega arith) room

placed : (sole : Option ℕ) (o : Opening) (past : List Event) → AreLawful o sole past → IsPlaced o.first past
placed sole o [] good = tt
placed sole o (event.Entry e ∷ past) good = (good.0.legal.place, placed _ o past good.1)
placed sole o (event.Receipt r ∷ past) good = (good.0.legal.place, placed _ o past good.1)

in_order : (sole : Option ℕ) (o : Opening) (past : List Event) → AreLawful o sole past → AreInOrder past
in_order sole o [] good = tt
in_order sole o (e ∷ past) good = (good.0.order, in_order _ o past good.1)

-- what merging gives
abbrev pub Merges : Type 0
Merges = (first : ℕ) (past : List Event) (es : List Entry) (rs : List Receipt) (events : List Event) → IsPlaced first past → AreInOrder past → entries past ≡ reverse es → receipts past ≡ reverse rs → IsMerged es rs events → events ≡ reverse past

-- what a worker leaves, with the runner's writes and its closing entry, is a run
pub finished : {D : Type 0} (seen : D → DiskSeen) (o : Opening) (start : Start) (desk new : State D) (was is : Seen) (w : Working) (commands : List Command) (fault : Option FaultAt) (history : List Entry) (account : List Receipt) (trail : Events)
    → FrontLeaves → w.pass ≡ 1 → Worked seen o start desk was w [] commands → (closed : IsClosingClean desk new fault) → IfSome fault (λ f. IsFlushedWith (seen desk.disk).faults (seen new.disk).faults was.faults is.faults f)
    → reverse history ≡ new.history → reverse account ≡ w.account → Merges → trail.first ≡ o.first
    → IsMerged history account trail.events
    → (seen desk.disk).faults ≤ (seen new.disk).faults → was.faults ≤ is.faults → desk.config.first + length desk.history + 16385 ≤ LIMIT
    → IsRunOf o start.pages commands fault trail × (entries (reverse trail.events) ≡ new.history) × AreFaultsWithin start (seen new.disk).faults is.faults new.history
finished {D} seen o start desk new was is w commands fault history account trail front pass done closed flush history_is account_is law first merges later later_log left =
    let n = closed.written in
    let k = closing_of fault n in
    let more = done.more in
    let S : List Event → Type 0 = λ past. HasPlayed seen o start desk was w past [] in
    let so = subst S (append_nil more) done.so_far in
    let room = room_of seen o start desk was w more [] 16385 so left in
    let O : ℕ → Type 0 = λ c. AreOf c more in
    let of_one : AreOf 1 more = subst O pass so.alone in
    let E1 : ℕ → Type 0 = λ n. AreTrue (Some n) more in
    let exact : AreTrue (Some 1) more = subst E1 pass (words_of o (Some w.pass) more so.good) in
    let none : own 0 more ≡ [] = own_other more 1 0 of_one refl in
    let calls : IsWorkersCall (own 0 more) 1 [] = let C : List Event → Type 0 = λ mine. IsWorkersCall mine 1 [] in subst C (sym none) calling_at_start in
    let R : ℕ → List Entry → Type 0 = λ m h. mark m h + 16385 ≤ LIMIT in
    let room_here : mark o.first (entries more) + 16385 ≤ LIMIT = subst (λ h. R o.first h) (sym so.entries_are) (subst (λ m. R m desk.history) so.first_is room) in
    let disk_is = (seen new.disk).faults in
    let E : List Entry → Type 0 = λ h. AreFaultsWithin start disk_is is.faults h in
    let faults : AreFaultsWithin start disk_is is.faults (entries more) =
    subst E (sym so.entries_are) (faults_up start (seen desk.disk).faults was.faults disk_is is.faults desk.history later later_log so.faults) in
    let W : ℕ → List Entry → Type 0 = λ m h. WritesBack m runner n h closed.cleaned.mid in
    let WF : ℕ → Type 0 = λ m. W m desk.history in
    let writes : WritesBack o.first runner n (entries more) closed.cleaned.mid = subst (W o.first) (sym so.entries_are) (subst WF so.first_is closed.cleaned.writes) in
    let f = flushed runner o start disk_is is.faults more n closed.cleaned.mid front (unasked o (Some w.pass) more so.good) so.promised calls faults writes in
    let L : List Entry → Type 0 = λ h. disk_faults h ≤ (seen desk.disk).faults in
    let G : List Entry → Type 0 = λ h. log_faults h ≤ was.faults in
    let c = closes start (seen desk.disk).faults disk_is was.faults is.faults o more n closed.cleaned.mid f fault so.low_is so.low_log
    (subst L (sym so.entries_are) so.last_fault) (subst G (sym so.entries_are) so.last_log_fault) flush closed.most room_here in
    let entry : Entry = entry_behind desk.config.first closed.cleaned.mid runner k in
    let close : Event = event.Entry entry in
    let before : List Event = f.writes ++ more in
    let place : mark desk.config.first closed.cleaned.mid + 1 ≡ mark o.first (entries before) + 1 = ap (λ m. mark m closed.cleaned.mid + 1) so.first_is ∙ ap (λ h. mark o.first h + 1) (sym f.entries_are) in
    let T : ℕ → Type 0 = λ m. IsTogether m (made_by 1 (own 0 before)) in
    let M : List Entry → Type 0 = λ made. MayPrecede (entries before) made k in
    let lawful : IsLawful o None before close = record {
      legal = record {
        place = place;
        number = numbered_by (own 0 before) 1 f.made f.calls;
        together = subst T (sym place) (subst (λ made. IsTogether (mark o.first (entries before) + 1) made) (sym f.calls.made_are) (together_by o.first f.made (entries more) (entries before) (f.entries_are ∙ f.began)));
        before = subst M (sym f.calls.made_are) (c.before (entries before) f.made f.are_writes);
        kind = c.legal;
      };
      order = tt;
      still = c.still;
      covered = c.covered;
      causes = c.causes;
      words = tt;
      victim = c.victim;
      withdrawal = c.withdrawal;
    } in
    let past : List Event = close ∷ before in
    let good : AreLawful o None past = (lawful, f.good) in
    let all : entries past ≡ new.history = ap (λ h. entry ∷ h) f.entries_are ∙ sym closed.cleaned.history in
    let es : entries past ≡ reverse history = all ∙ sym history_is in
    let rs : receipts past ≡ reverse account = f.receipts_are ∙ so.receipts_are ∙ sym account_is in
    let events : trail.events ≡ reverse past = law o.first past history account trail.events (placed _ o past good) (in_order _ o past good) es rs merges in
    let back : reverse trail.events ≡ past = ap reverse events ∙ reverse-reverse past in
    let mine : (caller : ℕ) → Event → Bool = λ caller e. nat_eq (caller_of e) caller && is_answer e in
    let answers : (caller : ℕ) → answers_of caller trail.events ≡ reverse (filter (mine caller) past) = λ caller. ap (answers_of caller) events ∙ filter_reverse (mine caller) past in
    let mine_one : own 1 past ≡ more = f.others 1 refl ∙ own_all 1 more of_one in
    let runs_last : is_answered 1 (own 0 past) ≡ true = ap (λ (b : Bool). b || is_answered 1 (own 0 before)) c.answers in
    let N : ℕ → Type 0 = λ n. IsWorkersCall (own n more) w.next [] in
    let calling : IsWorkersCall (own 1 more) w.next [] = subst N pass so.calls in
    let B : List Event → Type 0 = λ l. IsWorkersCall l w.next [] in
    let count : calls_of (own 1 more) + 1 ≡ w.next = calling.count in
    let settled : AllByRecursion (λ (e : Event). is_answered (number_of e) more ≡ true) more =
    all_answered _ o more 1 w.next more so.good of_one (omega (arith, count)) (subst B (own_all 1 more of_one) calling).settled in
    let answered : AllByRecursion (IsSettled o past) past =
    flush_settled o past (close ∷ f.writes) more (refl, f.by_it) (refl, f.numbers) runs_last (settled_by o past more 1 more of_one mine_one settled) in
    let steady : AreSteady (entries past) = let S : List Entry → Type 0 = λ h. AreSteady h in (c.steady, subst S (sym f.entries_are) (f.steady (subst S (sym so.entries_are) so.steady))) in
    let sole = sole_of past in
    let true_all : AreTrue sole past = (close_true sole before entry k refl (c.exact (entries before)), f.exact sole (worker_true (close ∷ f.writes) more (closing_number past) of_one exact)) in
    let P : List Event → Type 0 = λ l. AreLawful o (sole_of l) l in
    let Q : List Event → Type 0 = λ l. ArePromised o start.pages l in
    let U : List Event → Type 0 = λ l. AllByRecursion (IsSettled o l) l in
    let V : List Event → Type 0 = λ l. AreFollowed l None (entries l) in
    let A : List Event → Type 0 = λ l. AreOfOneThread l in
    let T : List Event → Type 0 = λ l. Todo (entries (reverse trail.events)) 1 commands [] l in
    let K : ℕ → Type 0 = λ m. Todo (entries (reverse trail.events)) m commands [] (reverse (filter is_answer more)) in
    let C : List Entry → Type 0 = λ h. dirty h ≡ [] in
    let goes : HistoryGoesOn (more ++ []) (entries (reverse trail.events)) =
    subst (λ l. HistoryGoesOn l (entries (reverse trail.events))) (sym (append_nil more)) (goes_back_all (close ∷ f.writes) more (entries (reverse trail.events)) (subst (λ l. HistoryGoesOn past (entries l)) (sym back) (goes_here past))) in
    let here : entries (reverse trail.events) ≡ new.history = ap entries back ∙ all in (
      record {
        lawful = record {
          first = first;
          each = subst P (sym back) (with_words o None sole past good true_all);
          answered = subst U (sym back) answered;
          followed = subst V (sym back) (all_followed past None (entries past) steady);
        };
        promised = subst Q (sym back) (c.promised, f.promised);
        todo = subst T (sym (answers 1 ∙ ap reverse (f.quiet 1 ∙ answers_own more 1 of_one))) (subst K pass (done.todo (entries (reverse trail.events)) goes));
        close = close;
        written = n;
        closed = answers 0 ∙ ap (λ (b : Bool). reverse (cond b (close ∷ filter (mine 0) before) (filter (mine 0) before))) c.answers
            ∙ ap (λ l. reverse (close ∷ l)) (f.quiet 0 ∙ answers_other more 1 0 of_one refl);
        closing_is = refl;
        last = (before, back);
        others = subst A (sym back) (omega arith, f.ours (omega arith) (ours more of_one));
        clean = λ fine. subst C (sym here) (closed.clean fine);
      },
      here,
      subst E (sym closed.cleaned.history) (c.within, f.faults),
    )
