use Rattle.std.proofs.Common.{◌≡◌, ◌<◌, ◌≤◌, ◌+◌, ℕ, List, Option, IfSome, length, refl, ap, ◌∙◌, sym, subst, arith, inl}
use Rattle.page_ids.specs.declared.frame_word.Word.{Word}
use Rattle.trail.specs.declared.event.Entry.{Entry}
use Rattle.trail.specs.declared.event.Kind.TheVariants as kind
use Rattle.trail.specs.History.{home}
use Rattle.frame_words.specs.Appends.{FitsRefusal}
use Rattle.frame_words.specs.Conditions.{AreFound}
use Rattle.frame_words.specs.Rows.{Row, published_row}
use Rattle.frame_words.specs.Seen.{FramesSeen}
use Rattle.desk.specs.Changes.{IsWriteFault, IsForced}
use Rattle.desk.specs.Claimed.{cause_of}
use Rattle.desk.specs.Moments.{moment, log_seen}
use Rattle.desk.specs.Steps.{row_in}
use Rattle.desk.specs.Victims.{AreSettled, IsAhead, IsUnhad, IsUnforced}
use Rattle.desk.proofs.Claims.{behind_looked}
use Rattle.desk.proofs.Coming.{came_gone, came_back, gone_turn}
use Rattle.desk.proofs.Evicting.{other_page, must_write, must_cover, looked_turn, turn_on, taken_turn, taken_rows, taken_but, taken_behind, taken_back, settled_claimed, evicted_is, unhad_fault, appended_on, cleaned_length, cleaned_home, evict_absent, refused_absent, log_appended, fault_logged, leaves_more}
use Rattle.desk.proofs.Finding.{stopped_are}
use Rattle.desk.proofs.Fixing.{still_may, not_free}
use Rattle.desk.proofs.Hands.{hands_still, hands_refused, hands_cleaned, hand_given}
use Rattle.desk.proofs.Moments.{keeps_going, keeps_looked, keeps_most, keeps_on, rest_looked, seen_same, uses_none}
use Rattle.desk.proofs.Asking.{fault_fits, fault_none, unforced_fault}
use Rattle.desk.proofs.PassedWords.{AreInOrder, each_some, at_some, at_none}
use Rattle.desk.proofs.Values.{behind_frames}
use Rattle.desk.proofs.desk.Desk.evict.Goals as goal

pub clean_first-requires-clause-but : goal.clean_first-requires-clause-but
clean_first-requires-clause-but g c = λ κs within.
    let P = g.D.PageDisk in
    let v = c.in-Ok-Some.victim in
    let taken = at_some c.in-Ok-Some.field-0 _ v c.in-Ok-Some.ensures.taken c.in-Ok-Some.field-0-is in
    taken_but P.seen (g.F.Frames.seen c.args.frames.now) (g.F.Frames.seen c.seek.new.frames) c.args.self.now.state v.page v.frame v.clock
    c.requires.ready.rest.tied c.requires.full.orderly c.requires.full.none_free taken

pub let_go-requires-clause-found : goal.let_go-requires-clause-found
let_go-requires-clause-found g c = λ κs within.
    let s = g.F.Frames.seen c.args.frames.now in
    let t = g.F.Frames.seen c.seek.new.frames in
    let u = g.F.Frames.seen c.clean_first.new.frames in
    let old = c.args.self.now.state in
    let v = c.in-Ok-Some.victim in
    let words = c.in_order.result.items in
    let stops = at_some c.in-Ok-Some.field-0 _ v c.in-Ok-Some.ensures.stops c.in-Ok-Some.field-0-is in
    let are = stopped_are old.config old.history s.rows t.found v.page c.seek.new.passed.items words c.requires.full.orderly stops c.in_order.ensures.same c.in_order.ensures.rising in
    subst (λ (l : List (ℕ × Word)). IfSome u.found (λ now. AreFound now l)) (sym c.of.ensures)
    (subst (λ (o : Option (List (ℕ × Word))). IfSome o (λ now. AreFound now words)) (sym c.in-Ok.ensures.left.found) are.noted)

pub refuse_full-requires-clause-rest : goal.refuse_full-requires-clause-rest
refuse_full-requires-clause-rest g c = λ κs within.
    let S = g.D.PageDisk.seen in
    let looked = at_none c.in-Ok-None.field-0 _ c.in-Ok-None.ensures.looked c.in-Ok-None.field-0-is in
    rest_looked S (g.F.Frames.seen c.args.frames.now) (g.F.Frames.seen c.seek.new.frames) c.args.self.now.state looked c.requires.ready.rest

pub refuse_full-requires-clause-asked : goal.refuse_full-requires-clause-asked
refuse_full-requires-clause-asked g c = λ κs within.
    let s = g.F.Frames.seen c.args.frames.now in
    let t = g.F.Frames.seen c.seek.new.frames in
    let old = c.args.self.now.state in
    let looked = at_none c.in-Ok-None.field-0 _ c.in-Ok-None.ensures.looked c.in-Ok-None.field-0-is in
    let asked = c.requires.asked in
    record { caller = still_may s t old old c.args.by c.args.page (looked_turn s t looked) refl refl asked.caller; absent = asked.absent; inside = asked.inside; clean = asked.clean }

pub returns-in-Ok-None-clause-keeps : goal.returns-in-Ok-None-clause-keeps
returns-in-Ok-None-clause-keeps g c =
    let S = g.D.PageDisk.seen in
    let l = log_seen g.R.RedoDisk.seen c.args.redo.now in
    let looked = at_none c.in-Ok-None.field-0 _ c.in-Ok-None.ensures.looked c.in-Ok-None.field-0-is in
    keeps_going S 2 _ _ c.args.by (keeps_most S 1 2 _ _ (omega arith) (keeps_on S 0 1 _ (moment c.args.self.now.state (g.F.Frames.seen c.seek.new.frames) l) _ (keeps_looked S c.args.self.now.state _ _ l looked c.requires.ready.rest) (c.refuse_full.ensures.keeps l)))

pub returns-in-Ok-None-clause-answers : goal.returns-in-Ok-None-clause-answers
returns-in-Ok-None-clause-answers g c =
    let S = g.D.PageDisk.seen in
    let s = g.F.Frames.seen c.args.frames.now in
    let t = g.F.Frames.seen c.seek.new.frames in
    let old = c.args.self.now.state in
    let new = c.refuse_full.new.self.state in
    let l = log_seen g.R.RedoDisk.seen c.args.redo.now in
    let looked = at_none c.in-Ok-None.field-0 _ c.in-Ok-None.ensures.looked c.in-Ok-None.field-0-is in
    let rows = ap (λ (u : FramesSeen). u.rows) looked.is in
    let r = c.refuse_full.ensures.answers l in
    record {
      sought = record {
        absent = r.sought.absent;
        page_told = r.sought.page_told;
        free = λ some. refl;
        covered = inl refl;
        log = record { upto = r.sought.log.upto; mark = r.sought.log.mark };
        as_long = refl;
        behind = λ o before. r.sought.behind o (behind_looked S o s t old looked before);
      };
      refused = subst (λ (x : List Row). IsUnhad old new x c.args.by c.args.page c.args.call (S old.disk).faults (S new.disk).faults l.seen.durable l.seen.faults l.seen.faults c.refuse_full.result) rows r.refused;
      unmoved = r.unmoved ∙ rows;
      unforced = r.unforced;
      hands = r.hands;
    }

pub returns-in-Err-clause-keeps : goal.returns-in-Err-clause-keeps
returns-in-Err-clause-keeps g c =
    let S = g.D.PageDisk.seen in
    keeps_going S 2 _ _ c.args.by (keeps_most S 0 2 _ _ (omega arith) (keeps_looked S c.args.self.now.state _ _ (log_seen g.R.RedoDisk.seen c.args.redo.now) c.in-Err.ensures.looked c.requires.ready.rest))

pub returns-in-Err-clause-answers : goal.returns-in-Err-clause-answers
returns-in-Err-clause-answers g c =
    let looked = c.in-Err.ensures.looked in
    let used = uses_none (moment c.args.self.now.state (g.F.Frames.seen c.args.frames.now) (log_seen g.R.RedoDisk.seen c.args.redo.now)) in
    record {
      sought = record {
        absent = c.requires.asked.absent;
        page_told = refl;
        free = λ some. refl;
        covered = inl refl;
        log = record { upto = used.upto; mark = used.mark };
        as_long = refl;
        behind = λ o before. behind_looked g.D.PageDisk.seen o (g.F.Frames.seen c.args.frames.now) (g.F.Frames.seen c.seek.new.frames) c.args.self.now.state looked before;
      };
      refused = refl;
      unmoved = ap (λ (u : FramesSeen). u.rows) looked.is;
      unforced = refl;
      hands = c.requires.ready.rest.hands;
    }

pub returns-in-Ok-clause-keeps : goal.returns-in-Ok-clause-keeps
returns-in-Ok-clause-keeps g c =
    let P = g.D.PageDisk in
    let s = g.F.Frames.seen c.args.frames.now in
    let t = g.F.Frames.seen c.seek.new.frames in
    let u = g.F.Frames.seen c.let_go.new.frames in
    let old = c.args.self.now.state in
    let mid = c.clean_first.new.self.state in
    let new = c.let_go.new.self.state in
    let v = c.in-Ok-Some.victim in
    let rest = c.requires.ready.rest in
    let orderly = c.requires.full.orderly in
    let taken = at_some c.in-Ok-Some.field-0 _ v c.in-Ok-Some.ensures.taken c.in-Ok-Some.field-0-is in
    let clean = c.in-Ok.ensures in
    let gone = c.let_go.ensures in
    let below = orderly.below v.page v.frame taken.housed in
    let whole = rest.tied.whole in
    let log = log_appended g.R.RedoDisk.seen c.args.redo.now c.clean_first.new.redo old.history mid new c.args.by (kind.Evict v.page v.frame c.of.result) (λ x. tt) (λ n. refl) (λ m. tt) gone.appends.entry clean.log in
    record {
      count = let first = cleaned_length old.config.first c.args.by v.page old.history mid.history clean.answers.cleaned in let last = ap (length {A = Entry}) gone.appends.entry.history in omega (arith, first, last);
      rest = record {
        tied = gone.tied;
        settled = settled_claimed s.rows u.rows v.frame taken.claimed.image (omega (arith, below, whole)) (ap (λ (x : FramesSeen). x.rows) gone.seen ∙ clean.left.rows ∙ taken_rows s t old.history v.page v.frame v.clock taken) rest.settled;
        hand = hand_given mid new c.args.by v.page v.frame c.of.result gone.appends.entry (hands_cleaned old mid c.args.by v.page clean.left.desk.config clean.answers.cleaned rest.hands);
      };
      desk = leaves_more P.seen old mid new clean.left.desk gone.appends.entry.config gone.appends.entry.instance gone.appends.disk;
      came = came_gone old mid new s u c.args.by v.page v.frame c.of.result rest.tied.history gone.tied.history
          (turn_on s t u (taken_turn s t old.history v.page v.frame v.clock taken) (turn_on t (g.F.Frames.seen c.clean_first.new.frames) u clean.left.turn (gone_turn _ _ mid c.args.by v.page v.frame c.of.result gone.seen))) clean.left.desk.config clean.left.desk.instance clean.answers.cleaned gone.appends.entry;
      later = log.later;
      opening = log.opening;
      kept = log.kept;
      logged = log.logged;
      known = log.known;
      behind = λ o based before. gone.behind o (clean.left.behind o (taken_behind P.seen o s t old v.page v.frame v.clock rest.tied orderly taken before));
    }

pub returns-in-Ok-clause-answers : goal.returns-in-Ok-clause-answers
returns-in-Ok-clause-answers g c =
    let P = g.D.PageDisk in
    let s = g.F.Frames.seen c.args.frames.now in
    let t = g.F.Frames.seen c.seek.new.frames in
    let m = g.F.Frames.seen c.clean_first.new.frames in
    let u = g.F.Frames.seen c.let_go.new.frames in
    let old = c.args.self.now.state in
    let mid = c.clean_first.new.self.state in
    let new = c.let_go.new.self.state in
    let v = c.in-Ok-Some.victim in
    let words = c.in_order.result.items in
    let tied = c.requires.ready.rest.tied in
    let full = c.requires.full in
    let taken = at_some c.in-Ok-Some.field-0 _ v c.in-Ok-Some.ensures.taken c.in-Ok-Some.field-0-is in
    let stops = at_some c.in-Ok-Some.field-0 _ v c.in-Ok-Some.ensures.stops c.in-Ok-Some.field-0-is in
    let sorted = stopped_are old.config old.history s.rows t.found v.page c.seek.new.passed.items words full.orderly stops c.in_order.ensures.same c.in_order.ensures.rising in
    let are = subst (λ (l : List (ℕ × Word)). AreInOrder old.history s.rows t.found stops.before l) (sym c.of.ensures) sorted in
    let clean = c.in-Ok.ensures in
    let gone = c.let_go.ensures in
    let log = log_appended g.R.RedoDisk.seen c.args.redo.now c.clean_first.new.redo old.history mid new c.args.by (kind.Evict v.page v.frame c.of.result) (λ x. tt) (λ n. refl) (λ m. tt) gone.appends.entry clean.log in
    record {
      sought = record {
        absent = evict_absent mid new c.args.by v.page c.args.page v.frame c.of.result gone.appends.entry (cleaned_home old.config.first c.args.by v.page c.args.page old.history mid.history clean.answers.cleaned ∙ c.requires.asked.absent);
        page_told = ap (λ (d : g.row.D.Denot). (P.seen d).told c.args.page) gone.appends.disk ∙ clean.left.others c.args.page (other_page old.history v.page c.args.page v.frame taken.housed c.requires.asked.absent);
        free = not_free _ full.none_free;
        covered = seen_same g.R.RedoDisk.seen c.args.redo.now c.clean_first.new.redo (must_cover s t old v.page v.frame v.clock c.args.redo.now.seen.durable t.found c.seek.new.passed.items full.orderly full.none_free tied.unvisited taken stops clean.covered);
        log = record { upto = log.upto; mark = log.mark };
        as_long = log.end;
        behind = λ o before. gone.behind o (clean.left.behind o (taken_behind P.seen o s t old v.page v.frame v.clock tied full.orderly taken before));
      };
      had = evicted_is s t u old mid new c.args.by v.page v.frame v.clock t.found c.seek.new.passed.items c.of.result full.orderly full.none_free tied.unvisited taken stops are
          clean.answers.cleaned (λ was. gone.appends.disk ∙ clean.left.unused was) clean.left.desk.config clean.left.desk.instance gone.appends.entry (ap (λ (x : FramesSeen). x.rows) gone.seen ∙ clean.left.rows);
      next = gone.next;
      turn = turn_on s t u (taken_turn s t old.history v.page v.frame v.clock taken) (turn_on t m u clean.left.turn (gone_turn _ _ mid c.args.by v.page v.frame c.of.result gone.seen));
    }

pub returns-in-Err-clean_first-clause-answers : goal.returns-in-Err-clean_first-clause-answers
unfolding must_write
returns-in-Err-clean_first-clause-answers g c =
    let P = g.D.PageDisk in
    let old = c.args.self.now.state in
    let mid = c.clean_first.new.self.state in
    let new = c.put_back.new.self.state in
    let s = g.F.Frames.seen c.args.frames.now in
    let t = g.F.Frames.seen c.seek.new.frames in
    let u = g.F.Frames.seen c.put_back.new.frames in
    let v = c.in-Ok-Some.victim in
    let rest = c.requires.ready.rest in
    let full = c.requires.full in
    let taken = at_some c.in-Ok-Some.field-0 _ v c.in-Ok-Some.ensures.taken c.in-Ok-Some.field-0-is in
    let stops = at_some c.in-Ok-Some.field-0 _ v c.in-Ok-Some.ensures.stops c.in-Ok-Some.field-0-is in
    let mark = c.args.redo.now.seen.durable in
    let was = c.args.redo.now.seen.faults in
    let is = c.clean_first.new.redo.seen.faults in
    let e = c.in-Err-clean_first.error in
    let failed = c.in-Err-clean_first.ensures in
    let back = c.put_back.ensures in
    let same : mid.history ≡ old.history = ap (λ x. x.state.history) failed.answers.failed in
    let fault = subst (λ (d : g.row.D.Denot). IsWriteFault (P.seen old.disk).faults (P.seen d).faults was is e) (sym back.appends.disk) failed.answers.fault in
    let refused = appended_on old mid new c.args.by (kind.Refused c.args.call (cause_of e)) (ap (λ x. x.state) failed.answers.failed) back.appends.entry in
    let must = must_write s t old v.page v.frame v.clock t.found c.seek.new.passed.items full.orderly full.none_free rest.tied.unvisited taken stops failed.answers.soiled in
    let forced = subst (λ (d : g.row.D.Denot). IsForced old.disk d (IsAhead old.history v.page mark) e) (sym back.appends.disk) failed.answers.forced in
    let log = log_appended g.R.RedoDisk.seen c.args.redo.now c.clean_first.new.redo old.history mid new c.args.by (kind.Refused c.args.call (cause_of e)) (λ x. fault_logged x c.args.call e) (λ n. refl) (λ m. tt) back.appends.entry failed.log in
    let unmoved : u.rows ≡ s.rows = back.rows
    ∙ ap (λ (l : List Row). Rattle.std.proofs.Common.set l v.frame (published_row (row_in l v.frame) v.page v.clock)) failed.left.rows
    ∙ taken_back P.seen s t old v.page v.frame v.clock rest.tied full.orderly rest.settled taken in
    let m = g.F.Frames.seen c.clean_first.new.frames in
    let came = came_back old mid new s m u c.args.by (kind.Refused c.args.call (cause_of e)) rest.tied.history back.tied.history
    (turn_on s t m (taken_turn s t old.history v.page v.frame v.clock taken) failed.left.turn) failed.left.desk.config failed.left.desk.instance same back.appends.entry back.view in
    let none = hands_still old mid failed.left.desk.config same rest.hands in
    record {
      sought = record {
        absent = refused_absent mid new c.args.by c.args.page c.args.call (cause_of e) back.appends.entry (ap (λ (h : List Entry). home h c.args.page) same ∙ c.requires.asked.absent);
        page_told = ap (λ (d : g.row.D.Denot). (P.seen d).told c.args.page) back.appends.disk ∙ failed.left.others c.args.page (other_page old.history v.page c.args.page v.frame taken.housed c.requires.asked.absent);
        free = not_free _ full.none_free;
        covered = seen_same g.R.RedoDisk.seen c.args.redo.now c.clean_first.new.redo (must_cover s t old v.page v.frame v.clock mark t.found c.seek.new.passed.items full.orderly full.none_free rest.tied.unvisited taken stops failed.covered);
        log = record { upto = log.upto; mark = log.mark };
        as_long = log.end;
        behind = λ o before. behind_frames P.seen o new s u unmoved came.view.base (back.stands o s (failed.answers.stands o s before));
      };
      refused = subst (λ x. IsUnhad old new s.rows c.args.by c.args.page c.args.call (P.seen old.disk).faults (P.seen new.disk).faults mark was is x) (sym back.refused)
          (unhad_fault old new s.rows c.args.by c.args.page c.args.call (P.seen old.disk).faults (P.seen new.disk).faults mark was is e fault refused must forced);
      unmoved = unmoved;
      unforced = subst (λ x. IsUnforced (log_seen g.R.RedoDisk.seen c.args.redo.now) (log_seen g.R.RedoDisk.seen c.clean_first.new.redo) x) (sym back.refused) (unforced_fault (log_seen g.R.RedoDisk.seen c.args.redo.now) (log_seen g.R.RedoDisk.seen c.clean_first.new.redo) e);
      hands = hands_refused mid new c.args.by c.args.call (cause_of e) back.appends.entry (inl none) (inl none);
    }

pub returns-in-Err-clean_first-clause-keeps : goal.returns-in-Err-clean_first-clause-keeps
returns-in-Err-clean_first-clause-keeps g c =
    let P = g.D.PageDisk in
    let s = g.F.Frames.seen c.args.frames.now in
    let t = g.F.Frames.seen c.seek.new.frames in
    let u = g.F.Frames.seen c.put_back.new.frames in
    let old = c.args.self.now.state in
    let mid = c.clean_first.new.self.state in
    let new = c.put_back.new.self.state in
    let v = c.in-Ok-Some.victim in
    let e = c.in-Err-clean_first.error in
    let rest = c.requires.ready.rest in
    let failed = c.in-Err-clean_first.ensures in
    let back = c.put_back.ensures in
    let taken = at_some c.in-Ok-Some.field-0 _ v c.in-Ok-Some.ensures.taken c.in-Ok-Some.field-0-is in
    let same : mid.history ≡ old.history = ap (λ x. x.state.history) failed.answers.failed in
    let unmoved : u.rows ≡ s.rows = back.rows
    ∙ ap (λ (l : List Row). Rattle.std.proofs.Common.set l v.frame (published_row (row_in l v.frame) v.page v.clock)) failed.left.rows
    ∙ taken_back P.seen s t old v.page v.frame v.clock rest.tied c.requires.full.orderly rest.settled taken in
    let m = g.F.Frames.seen c.clean_first.new.frames in
    let came = came_back old mid new s m u c.args.by (kind.Refused c.args.call (cause_of e)) rest.tied.history back.tied.history
    (turn_on s t m (taken_turn s t old.history v.page v.frame v.clock taken) failed.left.turn) failed.left.desk.config failed.left.desk.instance same back.appends.entry back.view in
    let log = log_appended g.R.RedoDisk.seen c.args.redo.now c.clean_first.new.redo old.history mid new c.args.by (kind.Refused c.args.call (cause_of e)) (λ x. fault_logged x c.args.call e) (λ n. refl) (λ m. tt) back.appends.entry failed.log in
    record {
      count = let first = ap (length {A = Entry}) same in let last = ap (length {A = Entry}) back.appends.entry.history in omega (arith, first, last);
      rest = record { tied = back.tied; settled = subst AreSettled (sym unmoved) rest.settled; hand = inl (returns-in-Err-clean_first-clause-answers g c).hands };
      desk = leaves_more P.seen old mid new failed.left.desk back.appends.entry.config back.appends.entry.instance back.appends.disk;
      came = came;
      later = log.later;
      opening = log.opening;
      kept = log.kept;
      logged = log.logged;
      known = log.known;
      behind = λ o based before. behind_frames P.seen o new s u unmoved came.view.base (back.stands o s (failed.answers.stands o s before));
    }

pub put_back-requires-clause-asked : goal.put_back-requires-clause-asked
put_back-requires-clause-asked g c = λ κs within.
    let s = g.F.Frames.seen c.args.frames.now in
    let t = g.F.Frames.seen c.seek.new.frames in
    let m = g.F.Frames.seen c.clean_first.new.frames in
    let old = c.args.self.now.state in
    let mid = c.clean_first.new.self.state in
    let v = c.in-Ok-Some.victim in
    let e = c.in-Err-clean_first.error in
    let failed = c.in-Err-clean_first.ensures in
    let taken = at_some c.in-Ok-Some.field-0 _ v c.in-Ok-Some.ensures.taken c.in-Ok-Some.field-0-is in
    let left = turn_on s t m (taken_turn s t old.history v.page v.frame v.clock taken) failed.left.turn in
    let caller = still_may s m old mid c.args.by c.args.page left failed.left.desk.config failed.left.desk.instance c.requires.asked.caller in
    record {
      turn = caller.turn;
      own = caller.own;
      for_page = c.requires.for_page;
      may = record {
        words = fault_none c.args.call e;
        fits = each_some m.opened (λ o. FitsRefusal o c.args.call (cause_of e)) (λ o is. fault_fits o c.args.call e (at_some m.opened (λ x. length x < 64) o caller.few is));
      };
    }
