use Rattle.std.proofs.Common.{arith}
use Rattle.trail.specs.declared.event.Kind.TheVariants as kind
use Rattle.frame_words.specs.Appends.{FitsOpen}
use Rattle.desk.proofs.Claims.{may_append, published_but, gone_tied, gone_behind}
use Rattle.desk.proofs.PassedWords.{each_some}
use Rattle.desk.proofs.desk.Desk.let_go.Goals as goal

pub append-requires-clause-frames : goal.append-requires-clause-frames
append-requires-clause-frames g c = λ κs within.
    let but = c.requires.but in
    let v = c.args.victim in
    let s = g.F.Frames.seen c.args.frames.now in
    let desk = c.args.self.now.state in
    let below = but.below in
    let whole = but.whole in
    let P = g.D.PageDisk in
    may_append P.seen s desk c.args.by (kind.Evict v.page v.frame c.args.passed)
    (record { inside = omega (arith, below, whole); away = but.away }) but.history c.requires.turn but.none_owed
    (published_but P.seen s desk v.page v.frame but) (λ is. (but.own is v.page v.frame but.housed, tt)) but.housed
    (each_some s.opened (λ o. FitsOpen o (kind.Evict v.page v.frame c.args.passed)) (λ o is. tt)) c.requires.found

pub returns-clause-tied : goal.returns-clause-tied
returns-clause-tied g c =
    let v = c.args.victim in
    let P = g.D.PageDisk in
    gone_tied P.seen (g.F.Frames.seen c.args.frames.now) (g.F.Frames.seen c.append.new.frames) c.args.self.now.state c.append.new.self.state c.args.by v.page v.frame c.args.passed
    c.requires.but c.append.ensures.appended c.append.ensures.disk c.append.ensures.seen

pub returns-clause-behind : goal.returns-clause-behind
returns-clause-behind g c = λ o before.
    let v = c.args.victim in
    let P = g.D.PageDisk in
    gone_behind P.seen o (g.F.Frames.seen c.args.frames.now) (g.F.Frames.seen c.append.new.frames) c.args.self.now.state c.append.new.self.state c.args.by v.page v.frame c.args.passed
    c.append.ensures.appended c.append.ensures.disk c.append.ensures.seen before
