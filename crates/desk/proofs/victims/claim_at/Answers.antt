use Rattle.std.proofs.Common.{ℕ, sym, subst, rules}
use Rattle.desk.specs.Claimed.{IsTaken}
use Rattle.desk.proofs.PassedWords.{taken_after, refused_after}
use Rattle.desk.proofs.victims.claim_at.Goals as goal

pub returns-in-Ok-clause-ok : goal.returns-in-Ok-clause-ok
returns-in-Ok-clause-ok g c = λ h p here.
    let ok = c.in-Ok.ensures.ok in
    let old = g.F.Frames.seen c.args.frames.now in
    let mid = g.F.Frames.seen c.look.new.self in
    let new = g.F.Frames.seen c.claim.new.self in
    subst (λ (n : ℕ). IsTaken old new h p c.args.frame n) (sym c.clock-clock.ensures)
    (taken_after old mid new h p c.args.frame c.look.result ok.0 c.look.ensures.seen c.look.ensures.word ok.1 c.in-Ok.ensures.unfixed ok.2 here (search rules))

pub returns-in-Err-clause-err : goal.returns-in-Err-clause-err
returns-in-Err-clause-err g c =
    let err = c.in-Err.ensures.err in
    let old = g.F.Frames.seen c.args.frames.now in
    let mid = g.F.Frames.seen c.look.new.self in
    let new = g.F.Frames.seen c.claim.new.self in
    let told = refused_after old mid new c.args.frame c.look.result c.in-Err.word c.look.ensures.seen err.0 err.2 in
    (told.0, err.1, told.1, told.2)
