use Rattle.std.proofs.Common.{◌≤◌, Bool, length, ap, ◌∙◌, sym, subst, arith, inl}
use Rattle.trail.specs.declared.event.Entry.{Entry}
use Rattle.trail.specs.Dirt.{dirty}
use Rattle.desk.specs.Cleans.{Flushed, Unflushed, NeedsNoLog}
use Rattle.desk.specs.Moments.{log_seen, moment_of}
use Rattle.desk.proofs.Flushing.{covered_keeps, synced_keeps, covered_put, synced_put, unflushed_sooner, uncovered, unsynced, flushed_synced, sync_not_needed}
use Rattle.desk.proofs.desk.Desk.flush.Goals as goal

pub returns-in-Err-clause-answers : goal.returns-in-Err-clause-answers
returns-in-Err-clause-answers g c = unflushed_sooner g.D.PageDisk.seen _ _ c.args.by c.args.most c.args.sync c.in-Err.error c.in-Err.ensures.answers

pub returns-in-Err-cover_all-clause-keeps : goal.returns-in-Err-cover_all-clause-keeps
returns-in-Err-cover_all-clause-keeps g c =
    covered_keeps g.D.PageDisk.seen (length (dirty c.args.self.now.state.history)) _ c.write_back_all.new.self.state (g.F.Frames.seen c.write_back_all.new.frames) _ _ c.write_back_all.ensures.keeps c.cover_all.ensures.log

pub returns-in-Err-cover_all-clause-left : goal.returns-in-Err-cover_all-clause-left
returns-in-Err-cover_all-clause-left g c =
    covered_put g.D.PageDisk.seen _ c.write_back_all.new.self.state (g.F.Frames.seen c.write_back_all.new.frames) _ _ c.args.by c.write_back_all.ensures.left c.cover_all.ensures.log

pub returns-in-Err-cover_all-clause-answers : goal.returns-in-Err-cover_all-clause-answers
returns-in-Err-cover_all-clause-answers g c =
    let S = g.D.PageDisk.seen in
    let m = moment_of g.F.Frames.seen g.R.RedoDisk.seen c.args.self.now c.args.frames.now c.args.redo.now in
    let n = moment_of g.F.Frames.seen g.R.RedoDisk.seen c.write_back_all.new.self c.write_back_all.new.frames c.cover_all.new.redo in
    subst (λ (sync : Bool). Unflushed S m n c.args.by c.args.most sync c.in-Err-cover_all.error) (sym c.if-not-sync.false)
    (uncovered S m c.write_back_all.new.self.state (g.F.Frames.seen c.write_back_all.new.frames) (log_seen g.R.RedoDisk.seen c.write_back_all.new.redo) n.log c.args.by c.args.most c.in-Ok.written c.in-Err-cover_all.error
    c.write_back_all.ensures.keeps c.in-Ok.ensures.answers c.in-Err-cover_all.ensures.fault c.in-Err-cover_all.ensures.forced)

pub returns-in-Err-cover_all-clause-idle : goal.returns-in-Err-cover_all-clause-idle
returns-in-Err-cover_all-clause-idle g c = λ none.
    let m = moment_of g.F.Frames.seen g.R.RedoDisk.seen c.args.self.now c.args.frames.now c.args.redo.now in
    let whole = sync_not_needed m c.args.most c.args.sync c.if-not-sync.false none in
    let same = c.write_back_all.ensures.idle (inl whole) in
    c.cover_all.ensures.idle (subst (λ r. r.seen.end ≤ r.seen.durable) (sym same) whole) ∙ same

pub returns-in-Ok-sync-clause-keeps : goal.returns-in-Ok-sync-clause-keeps
returns-in-Ok-sync-clause-keeps g c =
    let S = g.D.PageDisk.seen in
    let few = length (dirty c.args.self.now.state.history) in
    let mid = c.write_back_all.new.self.state in
    let t = g.F.Frames.seen c.write_back_all.new.frames in
    synced_keeps S few _ mid c.sync.new.self.state t _ c.sync.ensures.desk c.sync.ensures.history c.sync.ensures.same
    (covered_keeps S few _ mid t _ _ c.write_back_all.ensures.keeps c.cover_all.ensures.log)

pub returns-in-Ok-sync-clause-left : goal.returns-in-Ok-sync-clause-left
returns-in-Ok-sync-clause-left g c =
    let S = g.D.PageDisk.seen in
    let mid = c.write_back_all.new.self.state in
    let t = g.F.Frames.seen c.write_back_all.new.frames in
    synced_put S _ mid c.sync.new.self.state t _ c.args.by c.sync.ensures.desk c.sync.ensures.history c.sync.ensures.same
    (covered_put S _ mid t _ _ c.args.by c.write_back_all.ensures.left c.cover_all.ensures.log)

pub returns-in-Ok-sync-clause-answers : goal.returns-in-Ok-sync-clause-answers
returns-in-Ok-sync-clause-answers g c =
    let S = g.D.PageDisk.seen in
    let m = moment_of g.F.Frames.seen g.R.RedoDisk.seen c.args.self.now c.args.frames.now c.args.redo.now in
    let n = moment_of g.F.Frames.seen g.R.RedoDisk.seen c.sync.new.self c.write_back_all.new.frames c.cover_all.new.redo in
    subst (λ (sync : Bool). Flushed S m n c.args.by c.args.most sync c.in-Ok.written) (sym c.if-not-sync.false)
    (flushed_synced S m c.write_back_all.new.self.state c.sync.new.self.state (g.F.Frames.seen c.write_back_all.new.frames) (log_seen g.R.RedoDisk.seen c.write_back_all.new.redo) n.log c.args.by c.args.most c.in-Ok.written
    c.in-Ok.ensures.answers c.sync.ensures.history c.in-Ok-sync.ensures.synced c.in-Ok-cover_all.ensures.whole)

pub returns-in-Ok-sync-clause-idle : goal.returns-in-Ok-sync-clause-idle
returns-in-Ok-sync-clause-idle g c = λ none.
    let m = moment_of g.F.Frames.seen g.R.RedoDisk.seen c.args.self.now c.args.frames.now c.args.redo.now in
    let whole = sync_not_needed m c.args.most c.args.sync c.if-not-sync.false none in
    let same = c.write_back_all.ensures.idle (inl whole) in
    c.cover_all.ensures.idle (subst (λ r. r.seen.end ≤ r.seen.durable) (sym same) whole) ∙ same

pub returns-in-Err-sync-clause-keeps : goal.returns-in-Err-sync-clause-keeps
returns-in-Err-sync-clause-keeps g c =
    let S = g.D.PageDisk.seen in
    let few = length (dirty c.args.self.now.state.history) in
    let mid = c.write_back_all.new.self.state in
    let t = g.F.Frames.seen c.write_back_all.new.frames in
    synced_keeps S few _ mid c.sync.new.self.state t _ c.sync.ensures.desk c.sync.ensures.history c.sync.ensures.same
    (covered_keeps S few _ mid t _ _ c.write_back_all.ensures.keeps c.cover_all.ensures.log)

pub returns-in-Err-sync-clause-left : goal.returns-in-Err-sync-clause-left
returns-in-Err-sync-clause-left g c =
    let S = g.D.PageDisk.seen in
    let mid = c.write_back_all.new.self.state in
    let t = g.F.Frames.seen c.write_back_all.new.frames in
    synced_put S _ mid c.sync.new.self.state t _ c.args.by c.sync.ensures.desk c.sync.ensures.history c.sync.ensures.same
    (covered_put S _ mid t _ _ c.args.by c.write_back_all.ensures.left c.cover_all.ensures.log)

pub returns-in-Err-sync-clause-answers : goal.returns-in-Err-sync-clause-answers
returns-in-Err-sync-clause-answers g c =
    let S = g.D.PageDisk.seen in
    let m = moment_of g.F.Frames.seen g.R.RedoDisk.seen c.args.self.now c.args.frames.now c.args.redo.now in
    let n = moment_of g.F.Frames.seen g.R.RedoDisk.seen c.sync.new.self c.write_back_all.new.frames c.cover_all.new.redo in
    subst (λ (sync : Bool). Unflushed S m n c.args.by c.args.most sync c.in-Err-sync.error) (sym c.if-not-sync.false)
    (unsynced S m c.write_back_all.new.self.state c.sync.new.self.state (g.F.Frames.seen c.write_back_all.new.frames) (log_seen g.R.RedoDisk.seen c.write_back_all.new.redo) n.log c.args.by c.args.most c.in-Ok.written c.in-Err-sync.error
    c.write_back_all.ensures.keeps c.in-Ok.ensures.answers c.sync.ensures.history c.in-Err-sync.ensures.fault c.in-Err-sync.ensures.unlogged)

pub returns-in-Err-sync-clause-idle : goal.returns-in-Err-sync-clause-idle
returns-in-Err-sync-clause-idle g c = λ none.
    let m = moment_of g.F.Frames.seen g.R.RedoDisk.seen c.args.self.now c.args.frames.now c.args.redo.now in
    let whole = sync_not_needed m c.args.most c.args.sync c.if-not-sync.false none in
    let same = c.write_back_all.ensures.idle (inl whole) in
    c.cover_all.ensures.idle (subst (λ r. r.seen.end ≤ r.seen.durable) (sym same) whole) ∙ same

pub returns-then-not-sync-clause-answers : goal.returns-then-not-sync-clause-answers
returns-then-not-sync-clause-answers g c =
    let m = moment_of g.F.Frames.seen g.R.RedoDisk.seen c.args.self.now c.args.frames.now c.args.redo.now in
    let n = moment_of g.F.Frames.seen g.R.RedoDisk.seen c.write_back_all.new.self c.write_back_all.new.frames c.write_back_all.new.redo in
    subst (λ (sync : Bool). Flushed g.D.PageDisk.seen m n c.args.by c.args.most sync c.in-Ok.written) (sym c.if-not-sync.true) c.in-Ok.ensures.answers

pub returns-then-not-sync-clause-idle : goal.returns-then-not-sync-clause-idle
returns-then-not-sync-clause-idle g c = λ none.
    let m = moment_of g.F.Frames.seen g.R.RedoDisk.seen c.args.self.now c.args.frames.now c.args.redo.now in
    c.write_back_all.ensures.idle (subst (λ (sync : Bool). NeedsNoLog m c.args.most sync) c.if-not-sync.true none)

pub returns-in-Ok-sync-clause-room : goal.returns-in-Ok-sync-clause-room
returns-in-Ok-sync-clause-room g c =
    let was = c.write_back_all.ensures.room in
    let room = c.sync.ensures.room in
    let same = ap (length {A = Entry}) c.sync.ensures.history in
    omega (arith, was, room, same)

pub returns-in-Err-sync-clause-room : goal.returns-in-Err-sync-clause-room
returns-in-Err-sync-clause-room g c =
    let was = c.write_back_all.ensures.room in
    let room = c.sync.ensures.room in
    let same = ap (length {A = Entry}) c.sync.ensures.history in
    omega (arith, was, room, same)
