use Rattle.std.proofs.Common.{◌≡◌, ◌∙◌, ◌+◌, ◌-◌, ◌*◌, ℕ, ◌++◌, arith, ap, subst, refl}
use Rattle.page_ids.specs.declared.config.Config.{Config}
use Rattle.script_run.specs.Openings.{opened_of}
use Rattle.script_run.specs.Work.{Working, StandsBehind}
use Rattle.script_run.specs.Several.{AlongFew, Scanned}
use Rattle.script_run.specs.Workers.{working}
use Rattle.script_run.proofs.Growing.{on_some}
use Rattle.script_run.proofs.Scanning.{few_more, scanned_more, scanned_none, done_scan, along_none}
use Rattle.script_run.proofs.pass.Pass.scan.Goals as goal

pub look_at-requires-clause-places : goal.look_at-requires-clause-places
look_at-requires-clause-places g c = let l = c.loop-i in
    omega (arith, c.requires.places, c.requires.range.1, l.invariant.along.1, l.invariant.along.2.grown, ap (λ (x : Config). x.first) l.invariant.along.2.left.config)

pub look_at-requires-clause-number : goal.look_at-requires-clause-number
look_at-requires-clause-number g c = let l = c.loop-i in omega (arith, c.requires.number, c.requires.range.1, l.invariant.along.1, l.invariant.along.2.next)

pub loop-i-init : goal.loop-i-init
loop-i-init g c =
    let seen = g.D.PageDisk.seen in
    record {
      along = along_none seen c.args.desk.now.state c.args.frames.now c.args.redo.now.seen (working c.args.self.now);
      done = λ o start past so stands. scanned_none seen o start c.args.desk.now.state c.args.redo.now.seen (working c.args.self.now) past c.args.from c.args.now so;
      opening = refl;
    }

pub loop-i-preserved : goal.loop-i-preserved
loop-i-preserved g c =
    let seen = g.D.PageDisk.seen in
    let l = c.loop-i in
    let i = l.i in
    let w : Working = working c.args.self.now in
    let u : Working = working l.self in
    let v : Working = working c.look_at.new.self in
    let A : ℕ → Type 0 = λ n. AlongFew seen n c.args.desk.now.state c.look_at.new.desk.state c.args.frames.now c.look_at.new.frames c.args.redo.now.seen c.look_at.new.redo.seen w v in
    let count : 3 * i + 3 ≡ 3 * (i + 1) = omega arith in
    record {
      along = subst A count (few_more seen (3 * i) 3 c.args.desk.now.state l.desk.state c.look_at.new.desk.state c.args.frames.now l.frames c.look_at.new.frames c.args.redo.now.seen l.redo.seen c.look_at.new.redo.seen w u v
          l.invariant.along c.in_ok-look_at.ensures.along);
      done = λ o start past so stands.
          let s = l.invariant.done o start past so stands in
          let here_behind : StandsBehind seen o start l.desk.state l.frames = on_some o.base _ _ (λ base is behind. l.invariant.along.2.behind (opened_of o start base) behind) stands in
          scanned_more seen o start l.desk.state c.look_at.new.desk.state l.redo.seen c.look_at.new.redo.seen u v past c.args.from (record { space = c.args.from.space; page = c.args.from.page + i }) c.args.now i (i + 1) refl refl s
          (c.in_ok-look_at.ensures.done o start (s.more ++ past) s.so_far here_behind);
      opening = c.look_at.ensures.opening ∙ l.invariant.opening;
    }

pub look_at-requires-clause-ready : goal.look_at-requires-clause-ready
look_at-requires-clause-ready g c κs within = c.loop-i.invariant.along.2.ready c.requires.ready

pub returns-clause-along : goal.returns-clause-along
returns-clause-along g c =
    let l = c.loop-i in
    let A : ℕ → Type 0 = λ n. AlongFew g.D.PageDisk.seen (3 * n) c.args.desk.now.state l.desk.state c.args.frames.now l.frames c.args.redo.now.seen l.redo.seen (working c.args.self.now) (working l.self) in
    let all : l.i ≡ c.args.last - c.args.from.page + 1 = omega (arith, l.auto.i-end, c.loop-i-test.false) in
    subst A all l.invariant.along

pub returns-clause-done : goal.returns-clause-done
returns-clause-done g c = λ o start past so stands.
    let l = c.loop-i in
    let S : ℕ → Type 0 = λ n. Scanned g.D.PageDisk.seen o start l.desk.state l.redo.seen (working l.self) past c.args.from c.args.now n in
    let all : l.i ≡ c.args.last - c.args.from.page + 1 = omega (arith, l.auto.i-end, c.loop-i-test.false) in
    done_scan g.D.PageDisk.seen o start l.desk.state l.redo.seen (working l.self) past c.args.from c.args.last c.args.now (subst S all (l.invariant.done o start past so stands))
