use Rattle.std.proofs.Common.{◌≡◌, ◌∙◌, ℕ, List, length, refl, ap, sym, subst, arith}
use Rattle.redo_mark.specs.Logs as log
use Rattle.redo_mark.specs.Logs.{Holds}
use Rattle.redo_mark.specs.Records.{head_of, sealed, record_of}
use Rattle.frame_words.specs.Seen.{FramesSeen}
use Rattle.desk.specs.Answers.{Changed, Unchanged}
use Rattle.desk.specs.Logged.{put_change}
use Rattle.desk.specs.Behind.{IsBehind}
use Rattle.desk.specs.Moments.{Keeps, IsAtRest, Adds, moment, log_seen}
use Rattle.desk.specs.State.{State}
use Rattle.desk.specs.Victims.{AreSettled}
use Rattle.desk.specs.declared.calls.PutErr.TheVariants as unput
use Rattle.desk.proofs.Changing.{refused_tied, refused_behind}
use Rattle.desk.proofs.Coming.{follows_one}
use Rattle.desk.proofs.Hands.{hands_on}
use Rattle.desk.proofs.Logging.{length-put}
use Rattle.desk.proofs.Moments.{keeps_on, keeps_log, keeps_entry, keeps_reserved, adds_of}
use Rattle.desk.proofs.desk.Desk.put_at.Goals as goal

pub returns-in-Ok-append-clause-keeps : goal.returns-in-Ok-append-clause-keeps
returns-in-Ok-append-clause-keeps g c =
    let S = g.D.PageDisk.seen in
    let s = g.F.Frames.seen c.args.frames.now in
    let l = log_seen g.R.RedoDisk.seen c.args.redo.now in
    let k = log_seen g.R.RedoDisk.seen c.append.new.self in
    let mid = c.room_for_put.new.self.state in
    let p = c.args.page in
    let span = c.in-Ok-append.span in
    let put = c.in-Ok-append.ensures in
    let log = c.append.ensures in
    let rest : IsAtRest S mid s = subst (λ (d : State g.row.D.Denot). IsAtRest S d s) (sym c.room_for_put.ensures.same) c.requires.ready.rest in
    let drafted : Holds k.seen (record_of (put_change p c.args.at c.args.bytes.now) span.start) span.start =
    subst (λ (d : List ℕ). Holds k.seen (sealed d span.start) span.start) c.in-Ok.ensures.draft put.record in
    let holds : Holds k.seen (record_of (put_change p c.args.at c.in-Ok.bytes) span.start) span.start =
    subst (λ (b : List ℕ). Holds k.seen (record_of (put_change p c.args.at b) span.start) span.start) (sym c.in-Ok.ensures.bytes) drafted in
    subst (λ (d : State g.row.D.Denot). Keeps S 1 (moment d s l) (moment c.change.new.self.state (g.F.Frames.seen c.change.new.frames) k)) c.room_for_put.ensures.same
    (keeps_on S 0 1 (moment mid s l) (moment mid s k) _ (keeps_log S (IsAtRest S) mid s l k rest log.later log.disk.1 log.kept) (c.change.ensures.keeps k holds (omega (arith, put.span.within))))

pub returns-in-Ok-append-clause-answers : goal.returns-in-Ok-append-clause-answers
returns-in-Ok-append-clause-answers g c =
    let S = g.D.PageDisk.seen in
    let s = g.F.Frames.seen c.args.frames.now in
    let l = log_seen g.R.RedoDisk.seen c.args.redo.now in
    let n = moment c.change.new.self.state (g.F.Frames.seen c.change.new.frames) (log_seen g.R.RedoDisk.seen c.append.new.self) in
    let span = c.in-Ok-append.ensures.span in
    let size = ap (length {A = ℕ}) c.in-Ok.ensures.draft ∙ length-put c.args.page c.args.at c.args.bytes.now in
    let lsn = c.change.ensures.lsn in
    let change_is = put_change c.args.page c.args.at c.in-Ok.bytes in
    let draft_is : c.in-Ok.draft ≡ head_of change_is = c.in-Ok.ensures.draft ∙ ap (λ (b : List ℕ). head_of (put_change c.args.page c.args.at b)) (sym c.in-Ok.ensures.bytes) in
    let put = c.in-Ok-append.ensures in
    let done = c.change.ensures.done in
    let start : c.in-Ok-append.span.start ≡ done.start = (let same = ap (length {A = ℕ}) draft_is in let head = length-put c.args.page c.args.at c.in-Ok.bytes in let is = done.lsn in omega (arith, same, head, lsn, is, span.end)) in
    let change : Changed S (moment c.room_for_put.new.self.state s l) n c.args.by c.args.page c.args.at c.in-Ok.bytes c.change.result = record {
      done = done;
      logged = subst (λ (s : ℕ). Adds l n.log change_is s) start (adds_of l l n.log change_is c.in-Ok.draft c.in-Ok-append.span.start refl draft_is put.exact.0 put.exact.1 put.record);
      span = (let same = ap (length {A = ℕ}) c.in-Ok.ensures.bytes in (omega (arith, same, size, lsn, span.start, span.end), omega (arith, lsn, span.within)));
      fits = (let same = ap (length {A = ℕ}) c.in-Ok.ensures.bytes in omega (arith, same, size, span.start, span.end, span.within, span.limit));
      device = record { told_is = ap (λ (d : g.row.R.Denot). (g.R.RedoDisk.seen d).told) c.append.ensures.disk.0; durable_is = c.append.ensures.mark };
      behind = c.change.ensures.behind;
    } in
    subst (λ (d : State g.row.D.Denot). Changed S (moment d s l) n c.args.by c.args.page c.args.at c.args.bytes.now c.change.result) c.room_for_put.ensures.same
    (subst (λ (b : List ℕ). Changed S (moment c.room_for_put.new.self.state s l) n c.args.by c.args.page c.args.at b c.change.result) c.in-Ok.ensures.bytes change)

pub returns-in-Err-clause-keeps : goal.returns-in-Err-clause-keeps
returns-in-Err-clause-keeps g c =
    let S = g.D.PageDisk.seen in
    let device = g.R.RedoDisk.seen in
    let s = g.F.Frames.seen c.args.frames.now in
    let t = g.F.Frames.seen c.append-in-Err.new.frames in
    let mid = c.room_for_put.new.self.state in
    let new = c.append-in-Err.new.self.state in
    let a = c.append-in-Err.ensures in
    let k = log_seen device c.append.new.self in
    let spent = c.in-Err.ensures.spent in
    let same_end : c.in-Err.field-0.end ≡ c.in-Err.end = c.in-Err.end-is in
    let rest : IsAtRest S mid s = subst (λ (d : State g.row.D.Denot). IsAtRest S d s) (sym c.room_for_put.ensures.same) c.requires.ready.rest in
    let kept : Keeps S 1 (moment mid s k) (moment new t k) = keeps_entry S mid new s t k c.args.by _ a.appended a.disk (omega (arith, spent.1, same_end)) (λ known. known)
    (record { tied = refused_tied S s t mid new c.args.by _ _ a.appended a.disk a.seen rest.tied; settled = subst AreSettled (sym (ap (λ (x : FramesSeen). x.rows) a.seen)) rest.settled; hands = hands_on mid new c.args.by _ a.appended (λ b. refl) rest.hands })
    (follows_one s t _ a.seen) (λ o based before. refused_behind S o s t mid new c.args.by _ _ a.appended a.disk a.seen before) in
    subst (λ (x : log.State g.row.R.Denot). Keeps S 1 (moment c.args.self.now.state s (log_seen device x)) (moment new t k)) c.in-Err.ensures.err
    (subst (λ (d : State g.row.D.Denot). Keeps S 1 (moment d s k) (moment new t k)) c.room_for_put.ensures.same kept)

pub returns-in-Err-clause-answers : goal.returns-in-Err-clause-answers
returns-in-Err-clause-answers g c =
    let S = g.D.PageDisk.seen in
    let device = g.R.RedoDisk.seen in
    let s = g.F.Frames.seen c.args.frames.now in
    let t = g.F.Frames.seen c.append-in-Err.new.frames in
    let l = log_seen device c.args.redo.now in
    let mid = c.room_for_put.new.self.state in
    let new = c.append-in-Err.new.self.state in
    let n = moment new t (log_seen device c.append.new.self) in
    let a = c.append-in-Err.ensures in
    let spent = c.in-Err.ensures.spent in
    let size = ap (length {A = ℕ}) c.in-Ok.ensures.draft ∙ length-put c.args.page c.args.at c.args.bytes.now in
    let same = ap (length {A = ℕ}) c.in-Ok.ensures.bytes in
    let un : Unchanged S (moment mid s l) n c.args.by c.args.page c.args.at c.in-Ok.bytes (unput.LogSpent c.in-Err.field-0.end) = record {
      refused = record {
        known = (spent.0, spent.1);
        beyond = omega (arith, spent.2, size, same);
        entry = a.appended;
        disk = a.disk;
      };
      unmoved = ap (λ (x : FramesSeen). x.rows) a.seen;
      unlogged = ap (log_seen device) c.in-Err.ensures.err;
      behind = λ o before. refused_behind S o s t mid new c.args.by _ _ a.appended a.disk a.seen before;
    } in
    subst (λ (d : State g.row.D.Denot). Unchanged S (moment d s l) n c.args.by c.args.page c.args.at c.args.bytes.now (unput.LogSpent c.in-Err.field-0.end)) c.room_for_put.ensures.same
    (subst (λ (b : List ℕ). Unchanged S (moment mid s l) n c.args.by c.args.page c.args.at b (unput.LogSpent c.in-Err.field-0.end)) c.in-Ok.ensures.bytes un)

pub returns-then-is_err-clause-keeps : goal.returns-then-is_err-clause-keeps
returns-then-is_err-clause-keeps g c =
    keeps_reserved g.D.PageDisk.seen 1 _ c.room_for_put.new.self.state (g.F.Frames.seen c.args.frames.now) (log_seen g.R.RedoDisk.seen c.args.redo.now) c.room_for_put.ensures.same c.requires.ready.rest

pub returns-then-is_err-clause-answers : goal.returns-then-is_err-clause-answers
returns-then-is_err-clause-answers g c = record {
  refused = c.room_for_put.ensures.same;
  unmoved = refl;
  unlogged = refl;
  behind = λ o before. subst (λ (d : State g.row.D.Denot). IsBehind g.D.PageDisk.seen o d (g.F.Frames.seen c.args.frames.now)) (sym c.room_for_put.ensures.same) before;
}

pub returns-in_default-clause-keeps : goal.returns-in_default-clause-keeps
returns-in_default-clause-keeps g c =
    keeps_reserved g.D.PageDisk.seen 1 _ c.room_for_put.new.self.state (g.F.Frames.seen c.args.frames.now) (log_seen g.R.RedoDisk.seen c.args.redo.now) c.room_for_put.ensures.same c.requires.ready.rest

pub returns-in_default-clause-answers : goal.returns-in_default-clause-answers
returns-in_default-clause-answers g c = record {
  refused = c.room_for_put.ensures.same;
  unmoved = refl;
  unlogged = refl;
  behind = λ o before. subst (λ (d : State g.row.D.Denot). IsBehind g.D.PageDisk.seen o d (g.F.Frames.seen c.args.frames.now)) (sym c.room_for_put.ensures.same) before;
}
