use Rattle.std.proofs.Common.{◌≡◌, length, ◌∙◌, sym, subst, rules}
use Rattle.page_disk.specs.Disks.{IsInside}
use Rattle.desk.specs.Moments.{log_seen}
use Rattle.desk.specs.Writing.{Writes}
use Rattle.desk.proofs.desk.Desk.write_out.Goals as goal

pub write_page-requires-clause-may : goal.write_page-requires-clause-may
write_page-requires-clause-may g c κs within =
    let inside : IsInside (g.D.PageDisk.seen c.self.inside.disk).spaces c.args.page = search rules in
    let sized : length c.args.image.now.bytes ≡ (g.D.PageDisk.seen c.self.inside.disk).size = search rules in
    record { inside = inside; sized = sized; buffer_is = c.self.invariant.1 ∙ sym c.self.invariant.0; known = c.requires.known }

pub returns-clause-answers : goal.returns-clause-answers
returns-clause-answers g c =
    subst (λ x. Writes g.D.PageDisk.seen x.state.disk c.write_page.new.disk (log_seen g.R.RedoDisk.seen c.args.redo.now) (log_seen g.R.RedoDisk.seen c.write_page.new.redo) c.args.page c.args.image.now c.write_page.result) c.self.view_is
    c.write_page.ensures.answers
