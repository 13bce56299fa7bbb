use Rattle.std.proofs.Common.{◌≡◌, ◌∙◌, ◌<◌, ◌≤◌, ◌^◌, List, ◌∷◌, ◌++◌, length, arith, ap, sym, rules}
use Rattle.std.proofs.lemmas.List.{length-reverse}
use Rattle.page_ids.specs.Size.{page_bytes}
use Rattle.page_ids.specs.declared.ids.PageId.{PageId}
use Rattle.page_ids.specs.declared.ids.PageSize.{PageSize}
use Rattle.page_ids.specs.declared.ids.PageSize.TheVariants.{Kib4, Kib8, Kib16}
use Rattle.script_text.specs.Within.{IsInRange}
use Rattle.script_text.specs.declared.script.Command.TheVariants as command
use Rattle.page_ids.specs.declared.config.Config.{Config}
use Rattle.script_run.specs.Openings.{opened_of}
use Rattle.script_run.specs.Work.{Working, Along, StandsBehind}
use Rattle.script_run.specs.Workers.{working}
use Rattle.script_run.proofs.Along.{along_more}
use Rattle.script_run.proofs.Doing.{on_ok}
use Rattle.script_run.proofs.Growing.{on_some}
use Rattle.script_run.proofs.Scanning.{on_two, looked_refused, looked_granted}
use Rattle.trail.specs.declared.event.Event.{Event}
use Rattle.script_run.proofs.pass.Pass.look_at.Goals as goal

large : (size : PageSize) → 4096 ≤ page_bytes size
large Kib4 = omega arith
large Kib8 = omega arith
large Kib16 = omega arith

-- four bytes at the body's beginning are in each page
body_begins : (size : PageSize) (p : PageId) → p.space < 2 ^ 32 → p.page < 2 ^ 32 → IsInRange size (command.Read p 38 4)
body_begins size p space page = ((space, page), omega arith, record { some = omega arith; header = omega arith; trailer = omega (arith, large size) })

pub read-requires-clause-places : goal.read-requires-clause-places
read-requires-clause-places g c = let along = c.in_ok-fix.ensures.along in omega (arith, c.requires.places, along.grown, ap (λ (x : Config). x.first) along.left.config)

pub read-requires-clause-ready : goal.read-requires-clause-ready
read-requires-clause-ready g c κs within = c.in_ok-fix.ensures.along.ready c.requires.ready

pub read-requires-clause-range : goal.read-requires-clause-range
read-requires-clause-range g c κs within = body_begins c.fix.new.desk.state.config.page c.args.page (search rules) (search rules)

pub unfix-requires-clause-ready : goal.unfix-requires-clause-ready
unfix-requires-clause-ready g c κs within = (c.in_ok-read.ensures.along c.fix.new.redo.seen).ready (c.in_ok-fix.ensures.along.ready c.requires.ready)

pub returns-then-len-held : goal.returns-then-len-held
returns-then-len-held g c =
    let seen = g.D.PageDisk.seen in
    let fix = c.in_ok-fix.ensures in
    let w : Working = working c.args.self.now in
    let v : Working = working c.fix.new.self in
    let as_many : length c.fix.new.self.fixed.items ≡ length c.args.self.now.fixed.items = search rules in
    let same : length v.fixed ≡ length w.fixed = length-reverse c.fix.new.self.fixed.items ∙ as_many ∙ sym (length-reverse c.args.self.now.fixed.items) in
    record {
      along = (1, omega arith, fix.along);
      done = λ o start past so stands. looked_refused seen o start c.args.desk.now.state c.fix.new.desk.state c.args.redo.now.seen c.fix.new.redo.seen w v past c.args.page c.args.now so fix.along.pass same (fix.done o start past so stands);
      opening = c.fix.ensures.opening;
    }

pub returns : goal.returns
returns g c =
    let seen = g.D.PageDisk.seen in
    let fix = c.in_ok-fix.ensures in
    let read = c.in_ok-read.ensures in
    let old = c.args.desk.now.state in
    let new = c.fix.new.desk.state in
    let was = c.args.redo.now.seen in
    let is = c.fix.new.redo.seen in
    let w : Working = working c.args.self.now in
    let v : Working = working c.fix.new.self in
    let u : Working = working c.read.new.self in
    let z : Working = working c.unfix.new.self in
    let two : Along seen 2 old new c.args.frames.now c.read.new.frames was is w u =
    along_more seen 1 1 old new new c.args.frames.now c.fix.new.frames c.read.new.frames was is is w v u fix.along (read.along is) in
    let other : length v.fixed ≡ length w.fixed → ⊥ = λ same.
    (let as_many : length c.fix.new.self.fixed.items ≡ length c.args.self.now.fixed.items = sym (length-reverse c.fix.new.self.fixed.items) ∙ same ∙ length-reverse c.args.self.now.fixed.items in
    absurd (search (rules, as_many))) in
    record {
      along = on_ok c.unfix.result _ _ (λ unfix. (3, omega arith, along_more seen 2 1 old new new c.args.frames.now c.read.new.frames c.unfix.new.frames was is is w u z two (unfix is))) c.unfix.ensures.along;
      done = on_two c.unfix.result _ _ _ (λ unfix f o start past so stands.
          let d = fix.done o start past so stands in
          let first : List Event = d.answer ∷ d.before ++ past in
          let behind : StandsBehind seen o start new c.fix.new.frames = on_some o.base _ _ (λ base is b. fix.along.behind (opened_of o start base) b) stands in
          let b = read.done o start is first d.so_far behind in
          let still : StandsBehind seen o start new c.read.new.frames = on_some o.base _ _ (λ base e b. (read.along is).behind (opened_of o start base) b) behind in
          looked_granted seen o start old new was is w v u z past c.args.page c.args.now so fix.along.pass other d (read.along is).pass b (unfix is).pass (f o start is (b.answer ∷ b.before ++ first) b.so_far still)) c.unfix.ensures.along c.unfix.ensures.done;
      opening = c.fix.ensures.opening;
    }
