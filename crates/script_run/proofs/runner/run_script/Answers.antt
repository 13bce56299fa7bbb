use Rattle.std.proofs.Common.{◌≡◌, true, false, List, [], ◌∷◌, Option, None, Some, rules, ◌∙◌, sym, subst}
use Rattle.page_ids.specs.declared.config.Config.{Config}
use Rattle.page_disk.specs.declared.shelf.FaultAt.{FaultAt}
use Rattle.page_disk.specs.Shelves.{OfferedLog, IsLogAsOffered}
use Rattle.redo_mark.specs.declared.redo.RedoEnd.{RedoEnd}
use Rattle.trail.specs.Trails.{Events}
use Rattle.page_ids.specs.Faults.{Rose}
use Rattle.script_run.specs.Runs.{disk_as, log_as, IsEndedRun, IsWrittenInPart}
use Rattle.script_run.proofs.Answering.{asked_once, ended_run, ended_status, not_seven}
use Rattle.script_run.proofs.runner.run_script.Goals as goal

pub returns-then-is_none-clause-ended : goal.returns-then-is_none-clause-ended
returns-then-is_none-clause-ended g c = λ ended.
    let seen = g.H.Disk.PageDisk.seen in
    let log_seen = g.H.Redo.RedoDisk.seen in
    let shelf = g.H.Shelf.seen c.args.shelf.now in
    let disk = c.in-Ok.disk in
    let log = c.in-Ok-redo.log in
    let plan = c.args.script.now in
    let run = c.in-Ok-run_on in
    let r = run.field-0 in
    let L : OfferedLog → Type 0 = λ offered. IsLogAsOffered offered (log_seen log) in
    let E : Option FaultAt → List Events → List _ → Option (RedoEnd _) → Type 0 = λ fault trails disks redo. IsEndedRun (disk_as (seen disk)) (log_as (log_seen log)) seen log_seen plan fault trails disks redo in
    let lists = c.told.ensures.given (ended_status c.told.result.status c.told.result.fault ended) in
    let none : run.fault ≡ None = search rules in
    let same : r.fault ≡ c.told.result.fault = run.fault-is ∙ none ∙ sym c.told.ensures.fault in
    let fault = c.told.result.fault in
    let trails = c.told.result.trails.items in
    let disks = c.told.result.disks.items in
    let redo = c.told.result.redo in
    let one = subst (λ f. E f (r.trail ∷ []) (r.disk ∷ []) (Some r.redo)) same run.ensures.run in
    let two = subst (λ t. E fault t (r.disk ∷ []) (Some r.redo)) (sym lists.0) one in
    let three = subst (λ d. E fault trails d (Some r.redo)) (sym lists.1) two in
    let four = subst (λ e. E fault trails disks e) (sym lists.2) three in
    ended_run seen log_seen (shelf.disks 0) shelf.log disk log plan fault trails disks redo four c.in-Ok.ensures.offered (subst L c.in-Ok.ensures.log c.in-Ok-redo.ensures.offered)

pub returns-then-is_none-clause-cut : goal.returns-then-is_none-clause-cut
returns-then-is_none-clause-cut g c = λ five.
    let cut = c.told.ensures.cut five in
    let lists = c.told.ensures.given (not_seven c.told.result.status five) in
    let P : List Events → Type 0 = λ trails. Rose (g.K.Sink.fault_count c.args.out.now) (g.K.Sink.fault_count c.told.new.out) × IsWrittenInPart (g.K.Sink.held c.args.out.now) (g.K.Sink.held c.told.new.out) trails in
    subst P (sym lists.0) cut

pub returns-in-Ok-listed-clause-ended : goal.returns-in-Ok-listed-clause-ended
returns-in-Ok-listed-clause-ended g c = λ ended.
    let seen = g.H.Disk.PageDisk.seen in
    let log_seen = g.H.Redo.RedoDisk.seen in
    let shelf = g.H.Shelf.seen c.args.shelf.now in
    let disk = c.in-Ok.disk in
    let log = c.in-Ok-redo.log in
    let plan = c.args.script.now in
    let run = c.in-Ok-run_on in
    let r = run.field-0 in
    let L : OfferedLog → Type 0 = λ offered. IsLogAsOffered offered (log_seen log) in
    let E : Option FaultAt → List Events → List _ → Option (RedoEnd _) → Type 0 = λ fault trails disks redo. IsEndedRun (disk_as (seen disk)) (log_as (log_seen log)) seen log_seen plan fault trails disks redo in
    let trails = c.in-Ok-listed.trails.items in
    let disks = c.in-Ok-listed.disks.items in
    let two = subst (λ t. E r.fault t (r.disk ∷ []) (Some r.redo)) (sym c.in-Ok-listed.ensures.trails) run.ensures.run in
    let three = subst (λ d. E r.fault trails d (Some r.redo)) (sym c.in-Ok-listed.ensures.disks) two in
    ended_run seen log_seen (shelf.disks 0) shelf.log disk log plan r.fault trails disks (Some r.redo) three c.in-Ok.ensures.offered (subst L c.in-Ok.ensures.log c.in-Ok-redo.ensures.offered)

pub returns-in-Ok-listed-clause-asked : goal.returns-in-Ok-listed-clause-asked
returns-in-Ok-listed-clause-asked g c = λ fresh.
    let A : Config → Type 0 = λ config. (g.H.Shelf.seen c.redo.new.self).asked ≡ record { config = Some config; disks = 1; log = true; strayed = false } in
    (true, subst A c.config-config.ensures (asked_once _ _ _ _ c.in-Ok.ensures.asked c.in-Ok-redo.ensures.asked fresh))
