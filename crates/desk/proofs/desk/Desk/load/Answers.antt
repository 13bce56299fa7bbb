use Rattle.std.proofs.Common.{List, set, ◌≡◌, ◌+◌, [], ◌∷◌, IfSome, refl, sym, subst, ap, ◌∙◌, inr}
use Rattle.page_ids.specs.declared.config.Config.{Config}
use Rattle.trail.specs.Trails.{mark}
use Rattle.page_disk.specs.Disks.{IsSameDisk}
use Rattle.trail.specs.declared.event.Call.TheVariants as call
use Rattle.trail.specs.declared.event.Cause.TheVariants as cause
use Rattle.trail.specs.declared.event.Entry.{Entry}
use Rattle.trail.specs.declared.event.Kind.TheVariants as kind
use Rattle.frame_words.specs.Rows.{published_row}
use Rattle.frame_words.specs.Seen.{FramesSeen, row_at}
use Rattle.desk.specs.Ledger.{entry_behind}
use Rattle.desk.specs.Loads.{IsOneMore}
use Rattle.desk.specs.Moments.{IsBetweenSteps, moment, Follows}
use Rattle.desk.specs.Steps.{next_entry}
use Rattle.desk.proofs.Coming.{follows_on, follows_row, came_one}
use Rattle.desk.proofs.Fixing.{one_more, leaves_told, settled_loaded}
use Rattle.desk.proofs.Hands.{hands_used}
use Rattle.desk.proofs.Moments.{read_under_way, keeps_more, keeps_on, keeps_read}
use Rattle.desk.proofs.Rows.{loaded_rows}
use Rattle.desk.proofs.Tying.{below_rows}
use Rattle.desk.proofs.desk.Desk.load.Goals as goal

pub returns-in-Ok-clause-loaded : goal.returns-in-Ok-clause-loaded
returns-in-Ok-clause-loaded g c =
    let old = c.args.self.now.state in
    let mid = c.read_in.new.self.state in
    let s = g.F.Frames.seen c.args.frames.now in
    let t = g.F.Frames.seen c.read_in.new.frames in
    let f = c.args.frame in
    let read = c.in-Ok.ensures.ok in
    let reads = c.read_in.ensures.reads in
    let first : mid.config.first ≡ old.config.first = ap (λ (x : Config). x.first) reads.config in
    let load = kind.Load c.args.page f in
    let next = c.requires.next in
    let a = c.take_in.ensures in
    record {
      loaded = record {
        absent = c.requires.asked.absent;
        below = next.below;
        fresh = next.vacant;
        frame = next.front;
        entry = record {
          config = a.appends.entry.config ∙ reads.config;
          instance = a.appends.entry.instance ∙ reads.instance;
          history = a.appends.entry.history
              ∙ ap (λ n. entry_behind n mid.history c.args.by load ∷ mid.history) first
              ∙ ap (λ h. entry_behind old.config.first h c.args.by load ∷ h) reads.history;
        };
        content = read.content;
        read = read.read;
        rows_are = ap (λ (x : FramesSeen). x.rows) a.seen
            ∙ ap (λ n. set t.rows f (published_row (row_at t f) c.args.page (mark n mid.history + 1))) first
            ∙ ap (λ h. set t.rows f (published_row (row_at t f) c.args.page (mark old.config.first h + 1))) reads.history
            ∙ loaded_rows s t f c.args.page (mark old.config.first old.history + 1) read.content (below_rows g.D.PageDisk.seen s old f c.requires.rest.tied next.below) read.seen;
      };
      caller = a.caller;
    }

pub returns-in-Ok-clause-more : goal.returns-in-Ok-clause-more
returns-in-Ok-clause-more g c = one_more c.args.self.now.state c.take_in.new.self.state c.args.by (kind.Load c.args.page c.args.frame) (λ x. tt) (λ n. refl) (λ m. tt) (returns-in-Ok-clause-loaded g c).loaded.entry

pub returns-in-Ok-clause-keeps : goal.returns-in-Ok-clause-keeps
returns-in-Ok-clause-keeps g c = λ l.
    let P = g.D.PageDisk in
    let old = c.args.self.now.state in
    let new = c.take_in.new.self.state in
    let s = g.F.Frames.seen c.args.frames.now in
    let t = g.F.Frames.seen c.read_in.new.frames in
    let u = g.F.Frames.seen c.take_in.new.frames in
    let mid = c.read_in.new.self.state in
    let load = kind.Load c.args.page c.args.frame in
    let f = c.args.frame in
    let rest = c.requires.rest in
    let a = c.take_in.ensures in
    let reads = c.read_in.ensures.reads in
    let read = c.in-Ok.ensures.ok in
    let loaded = (returns-in-Ok-clause-loaded g c).loaded in
    keeps_more P.seen old new s u l (returns-in-Ok-clause-more g c)
    (leaves_told P.seen old new loaded.entry.config loaded.entry.instance (subst (λ (d : g.row.D.Denot). IsSameDisk (P.seen old.disk) (P.seen d)) (sym a.appends.disk) c.read_in.ensures.reads.disk))
    (record {
      tied = a.tied;
      settled = settled_loaded s.rows u.rows f c.args.page loaded.content (mark old.config.first old.history + 1)
          (rest.tied.rows f (below_rows P.seen s old f rest.tied c.requires.next.below)).unlatched loaded.rows_are rest.settled;
      hands = hands_used old new c.args.by load f loaded.entry (λ b. refl) c.requires.next.front rest.hand;
    })
    (came_one old new s u c.args.by load loaded.entry (follows_on [] (next_entry old c.args.by load ∷ []) s t u (follows_row s t f _ read.seen)
    (subst (λ (e : Entry). Follows (e ∷ []) t u)
    (ap (λ (x : Config). entry_behind x.first mid.history c.args.by load) reads.config ∙ ap (λ (h : List Entry). entry_behind old.config.first h c.args.by load) reads.history)
    (subst (Follows (next_entry mid c.args.by load ∷ []) t) (sym a.seen) (record { turn = refl; opened = refl; history = refl; base = refl })))))
    (λ o based before. a.behind o (subst (λ (x : FramesSeen). IfSome x.base (λ base. base ≡ o.base)) (sym read.seen) based) (c.read_in.ensures.behind o before))

pub refuse-requires-clause-rest : goal.refuse-requires-clause-rest
refuse-requires-clause-rest g c = λ κs within. read_under_way g.D.PageDisk.seen c.args.self.now.state c.read_in.new.self.state (g.F.Frames.seen c.args.frames.now) (g.F.Frames.seen c.read_in.new.frames) c.args.by c.read_in.ensures.reads c.in-Err-DiskFault.ensures.err c.read_in.ensures.tied c.requires.rest

pub refuse-requires-clause-hands : goal.refuse-requires-clause-hands
refuse-requires-clause-hands g c = λ κs within. inr refl

pub returns-in-Err-DiskFault-clause-more : goal.returns-in-Err-DiskFault-clause-more
returns-in-Err-DiskFault-clause-more g c = subst (λ (h : List Entry). IsOneMore h c.refuse.new.self.state.history) c.read_in.ensures.reads.history
    (one_more c.read_in.new.self.state c.refuse.new.self.state c.args.by (kind.Refused (call.Fix c.args.page c.args.now) (cause.DiskFault c.in-Err-DiskFault.before c.in-Err-DiskFault.after)) (λ x. tt) (λ n. refl) (λ m. tt) c.refuse.ensures.refused.entry)

pub returns-in-Err-DiskFault-clause-keeps : goal.returns-in-Err-DiskFault-clause-keeps
returns-in-Err-DiskFault-clause-keeps g c = λ l.
    let S = g.D.PageDisk.seen in
    let old = c.args.self.now.state in
    let mid = c.read_in.new.self.state in
    let s = g.F.Frames.seen c.args.frames.now in
    let t = g.F.Frames.seen c.read_in.new.frames in
    let r = c.read_in.ensures in
    keeps_on S 0 1 (moment old s l) (moment mid t l) _
    (keeps_read S (IsBetweenSteps S c.args.by) old mid s t l r.reads c.in-Err-DiskFault.ensures.err (read_under_way S old mid s t c.args.by r.reads c.in-Err-DiskFault.ensures.err r.tied c.requires.rest) r.behind) (c.refuse.ensures.keeps l tt)

pub refuse-requires-in-Err-BadPage-clause-rest : goal.refuse-requires-in-Err-BadPage-clause-rest
refuse-requires-in-Err-BadPage-clause-rest g c = λ κs within. read_under_way g.D.PageDisk.seen c.args.self.now.state c.read_in.new.self.state (g.F.Frames.seen c.args.frames.now) (g.F.Frames.seen c.read_in.new.frames) c.args.by c.read_in.ensures.reads c.in-Err-BadPage.ensures.err c.read_in.ensures.tied c.requires.rest

pub refuse-requires-in-Err-BadPage-clause-hands : goal.refuse-requires-in-Err-BadPage-clause-hands
refuse-requires-in-Err-BadPage-clause-hands g c = λ κs within. inr refl

pub returns-in-Err-BadPage-clause-more : goal.returns-in-Err-BadPage-clause-more
returns-in-Err-BadPage-clause-more g c = subst (λ (h : List Entry). IsOneMore h c.refuse-in-Err-BadPage.new.self.state.history) c.read_in.ensures.reads.history
    (one_more c.read_in.new.self.state c.refuse-in-Err-BadPage.new.self.state c.args.by (kind.Refused (call.Fix c.args.page c.args.now) (cause.BadPage c.in-Err-BadPage.bad)) (λ x. tt) (λ n. refl) (λ m. tt) c.refuse-in-Err-BadPage.ensures.refused.entry)

pub returns-in-Err-BadPage-clause-keeps : goal.returns-in-Err-BadPage-clause-keeps
returns-in-Err-BadPage-clause-keeps g c = λ l.
    let S = g.D.PageDisk.seen in
    let old = c.args.self.now.state in
    let mid = c.read_in.new.self.state in
    let s = g.F.Frames.seen c.args.frames.now in
    let t = g.F.Frames.seen c.read_in.new.frames in
    let r = c.read_in.ensures in
    keeps_on S 0 1 (moment old s l) (moment mid t l) _
    (keeps_read S (IsBetweenSteps S c.args.by) old mid s t l r.reads c.in-Err-BadPage.ensures.err (read_under_way S old mid s t c.args.by r.reads c.in-Err-BadPage.ensures.err r.tied c.requires.rest) r.behind) (c.refuse-in-Err-BadPage.ensures.keeps l tt)
