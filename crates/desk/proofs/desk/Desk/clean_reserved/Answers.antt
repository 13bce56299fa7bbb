use Rattle.std.proofs.Common.{◌≡◌, [], ap, sym, subst, rules}
use Rattle.desk.specs.Moments.{moment, moment_of, log_seen}
use Rattle.std.specs.Prelude.{Err}
use Rattle.desk.specs.Cleans.{IsCleanRefusal, LeavesClean}
use Rattle.desk.proofs.Flushing.{answer_fits, answered_clean, answered_refusal, answer_leaves, refusal_leaves, clean_answered, clean_refused, refused_so, no_memory, answered_so}
use Rattle.desk.proofs.Moments.{keeps_on}
use Rattle.desk.proofs.desk.Desk.clean_reserved.Goals as goal

pub append-requires-clause-places : goal.append-requires-clause-places
append-requires-clause-places g c κs within =
    let wrote = c.in-Ok.ensures.answers in
    let f = c.flush.ensures in
    (answer_fits g.D.PageDisk.seen c.args.self.now c.flush.new.self c.args.by c.args.bound _ c.requires.entries f.keeps.desk f.room wrote.writes wrote.most_is wrote.few).places

pub append-requires-clause-room : goal.append-requires-clause-room
append-requires-clause-room g c κs within =
    let wrote = c.in-Ok.ensures.answers in
    let f = c.flush.ensures in
    (answer_fits g.D.PageDisk.seen c.args.self.now c.flush.new.self c.args.by c.args.bound _ c.requires.entries f.keeps.desk f.room wrote.writes wrote.most_is wrote.few).room

pub append-requires-in-Err-clause-places : goal.append-requires-in-Err-clause-places
append-requires-in-Err-clause-places g c κs within =
    let wrote = c.in-Err.ensures.answers in
    let f = c.flush.ensures in
    (answer_fits g.D.PageDisk.seen c.args.self.now c.flush.new.self c.args.by c.args.bound _ c.requires.entries f.keeps.desk f.room wrote.writes wrote.most_is wrote.few).places

pub append-requires-in-Err-clause-room : goal.append-requires-in-Err-clause-room
append-requires-in-Err-clause-room g c κs within =
    let wrote = c.in-Err.ensures.answers in
    let f = c.flush.ensures in
    (answer_fits g.D.PageDisk.seen c.args.self.now c.flush.new.self c.args.by c.args.bound _ c.requires.entries f.keeps.desk f.room wrote.writes wrote.most_is wrote.few).room

pub returns-in-Ok-clause-keeps : goal.returns-in-Ok-clause-keeps
returns-in-Ok-clause-keeps g c =
    let S = g.D.PageDisk.seen in
    let t = g.F.Frames.seen c.flush.new.frames in
    let u = g.F.Frames.seen c.append.new.frames in
    let k = log_seen g.R.RedoDisk.seen c.flush.new.redo in
    let mid = c.flush.new.self.state in
    let new = c.append.new.self.state in
    let a = c.append.ensures in
    let answered = answered_clean S mid new t u k c.args.by c.in-Ok.written c.of-skipped.result a.appended a.disk a.seen c.flush.ensures.keeps.rest in
    keeps_on S _ 1 _ (moment mid t k) (moment new u k) c.flush.ensures.keeps answered.keeps

pub returns-in-Ok-clause-answers : goal.returns-in-Ok-clause-answers
returns-in-Ok-clause-answers g c =
    let S = g.D.PageDisk.seen in
    let t = g.F.Frames.seen c.flush.new.frames in
    let u = g.F.Frames.seen c.append.new.frames in
    let k = log_seen g.R.RedoDisk.seen c.flush.new.redo in
    let mid = c.flush.new.self.state in
    let new = c.append.new.self.state in
    let a = c.append.ensures in
    let m = moment_of g.F.Frames.seen g.R.RedoDisk.seen c.args.self.now c.args.frames.now c.args.redo.now in
    let answered = answered_clean S mid new t u k c.args.by c.in-Ok.written c.of-skipped.result a.appended a.disk a.seen c.flush.ensures.keeps.rest in
    let skips : c.of-skipped.result ≡ [] = search rules in
    let none : c.of-skipped-in-Ok.result ≡ [] = search rules in
    clean_answered S m mid new t u k c.args.by c.args.bound c.args.sync c.flush.ensures.keeps.desk c.in-Ok.written c.of-skipped.result c.of-skipped-in-Ok.result skips none c.in-Ok.ensures.answers answered

pub returns-in-Ok-clause-left : goal.returns-in-Ok-clause-left
returns-in-Ok-clause-left g c =
    let S = g.D.PageDisk.seen in
    let t = g.F.Frames.seen c.flush.new.frames in
    let u = g.F.Frames.seen c.append.new.frames in
    let k = log_seen g.R.RedoDisk.seen c.flush.new.redo in
    let mid = c.flush.new.self.state in
    let new = c.append.new.self.state in
    let a = c.append.ensures in
    let m = moment_of g.F.Frames.seen g.R.RedoDisk.seen c.args.self.now c.args.frames.now c.args.redo.now in
    let answered = answered_clean S mid new t u k c.args.by c.in-Ok.written c.of-skipped.result a.appended a.disk a.seen c.flush.ensures.keeps.rest in
    answer_leaves S m mid new t u k c.args.by c.args.bound c.args.sync c.flush.ensures.left (λ none. ap (log_seen g.R.RedoDisk.seen) (c.flush.ensures.idle none)) c.in-Ok.written _ c.in-Ok.ensures.answers answered _

pub returns-in-Ok-clause-idle : goal.returns-in-Ok-clause-idle
returns-in-Ok-clause-idle g c = λ none. c.flush.ensures.idle (answered_so _ none (λ is. absurd (cc)))

pub returns-in-Err-clause-keeps : goal.returns-in-Err-clause-keeps
returns-in-Err-clause-keeps g c =
    let S = g.D.PageDisk.seen in
    let t = g.F.Frames.seen c.flush.new.frames in
    let u = g.F.Frames.seen c.append-in-Err.new.frames in
    let k = log_seen g.R.RedoDisk.seen c.flush.new.redo in
    let mid = c.flush.new.self.state in
    let new = c.append-in-Err.new.self.state in
    let a = refused_so S mid new t u c.args.by c.args.bound c.in-Err.error _ c.clean_causes_of-cause.ensures.0 c.append-in-Err.ensures.appended c.append-in-Err.ensures.seen in
    let answered = answered_refusal S mid new t u k c.args.by c.args.bound c.in-Err.error a.0 c.append-in-Err.ensures.disk a.1 c.flush.ensures.keeps.rest in
    keeps_on S _ 1 _ (moment mid t k) (moment new u k) c.flush.ensures.keeps answered.keeps

pub returns-in-Err-clause-answers : goal.returns-in-Err-clause-answers
returns-in-Err-clause-answers g c =
    let S = g.D.PageDisk.seen in
    let t = g.F.Frames.seen c.flush.new.frames in
    let u = g.F.Frames.seen c.append-in-Err.new.frames in
    let k = log_seen g.R.RedoDisk.seen c.flush.new.redo in
    let mid = c.flush.new.self.state in
    let new = c.append-in-Err.new.self.state in
    let m = moment_of g.F.Frames.seen g.R.RedoDisk.seen c.args.self.now c.args.frames.now c.args.redo.now in
    let a = refused_so S mid new t u c.args.by c.args.bound c.in-Err.error _ c.clean_causes_of-cause.ensures.0 c.append-in-Err.ensures.appended c.append-in-Err.ensures.seen in
    let answered = answered_refusal S mid new t u k c.args.by c.args.bound c.in-Err.error a.0 c.append-in-Err.ensures.disk a.1 c.flush.ensures.keeps.rest in
    subst (λ e. IsCleanRefusal S m (moment new u k) c.args.by c.args.bound c.args.sync e) (sym c.clean_causes_of-cause.ensures.1)
    (clean_refused S m mid new t u k c.args.by c.args.bound c.args.sync c.flush.ensures.keeps.desk c.in-Err.error c.in-Err.ensures.answers answered)

pub returns-in-Err-clause-left : goal.returns-in-Err-clause-left
returns-in-Err-clause-left g c =
    let S = g.D.PageDisk.seen in
    let t = g.F.Frames.seen c.flush.new.frames in
    let u = g.F.Frames.seen c.append-in-Err.new.frames in
    let k = log_seen g.R.RedoDisk.seen c.flush.new.redo in
    let mid = c.flush.new.self.state in
    let new = c.append-in-Err.new.self.state in
    let m = moment_of g.F.Frames.seen g.R.RedoDisk.seen c.args.self.now c.args.frames.now c.args.redo.now in
    let a = refused_so S mid new t u c.args.by c.args.bound c.in-Err.error _ c.clean_causes_of-cause.ensures.0 c.append-in-Err.ensures.appended c.append-in-Err.ensures.seen in
    let answered = answered_refusal S mid new t u k c.args.by c.args.bound c.in-Err.error a.0 c.append-in-Err.ensures.disk a.1 c.flush.ensures.keeps.rest in
    subst (λ e. LeavesClean S m (moment new u k) c.args.bound c.args.sync (Err e)) (sym c.clean_causes_of-cause.ensures.1)
    (refusal_leaves S m mid new t u k c.args.by c.args.bound c.args.sync c.flush.ensures.left (λ none. ap (log_seen g.R.RedoDisk.seen) (c.flush.ensures.idle none)) _ _ c.in-Err.ensures.answers answered)

pub returns-in-Err-clause-idle : goal.returns-in-Err-clause-idle
returns-in-Err-clause-idle g c = λ none. c.flush.ensures.idle (answered_so _ none (no_memory c.in-Err.error _ c.clean_causes_of-cause.ensures.1))
