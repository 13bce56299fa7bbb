use Rattle.std.proofs.Common.{◌≡◌, true, arith, sym, ap, ◌∙◌, subst}
use Rattle.std.proofs.lemmas.List.Elements.{All-weaker}
use Rattle.crossbeam_utils.specs.Seq.{cell_view}
use Rattle.redo_mark.specs.Logs.{Seen, LogState}
use Rattle.redo_log.specs.declared.view.Story.{Story}
use Rattle.redo_log.specs.declared.view.View.{View}
use Rattle.redo_log.specs.declared.view.TheConstants.{SHARES}
use Rattle.redo_log.specs.Story.{size_of}
use Rattle.redo_log.specs.Passes.{LogOf}
use Rattle.redo_log.specs.Turns.{Agrees, BeganAs}
use Rattle.redo_log.specs.Ends.{IsKnownBy, IsInEnd}
use Rattle.redo_log.proofs.Closing.{in_end, is_end}
use Rattle.redo_log.proofs.redo.Redo.close.Goals as goal

pub returns-clause-end : goal.returns-clause-end
returns-clause-end g c =
    let tail = c.close-tail.ensures.fits in
    let state = c.parts-log.ensures.log in
    let v = cell_view c.gather.new.keeper in
    let keeper = c.parts-log.ensures.keeper.1 in
    let has : v.keeps ≡ true = c.gather.ensures.same.0 ∙ ap (λ (u : View). u.keeps) keeper ∙ tail.keeps in
    let story : v.story ≡ c.close-tail.result.keeper.story = c.gather.ensures.same.1 ∙ ap (λ (u : View). u.story) keeper in
    let agrees : Agrees v.story c.parts-log.result.0.seen =
    subst (λ (y : Story × Seen). Agrees y.0 y.1) (λ i. (sym story i, ap (λ s. s.seen) (sym state) i)) tail.agrees in
    let began : BeganAs g.R.RedoDisk.seen c.args.self c.parts-log.result.0 =
    subst (λ (y : LogOf g.row.R.Denot × LogState g.row.R.Denot). BeganAs g.R.RedoDisk.seen y.0 y.1) (λ i. (c.self.view_is i, sym state i)) tail.began in
    let e = c.close.ensures in
    is_end g.R.RedoDisk.seen c.args.self c.close.result c.parts-log.result.0 v.story agrees (c.look.ensures.view.whole has).1 began
    e.durable.0 e.end e.whole e.opened e.all

pub returns-clause-passes : goal.returns-clause-passes
returns-clause-passes g c =
    let tail = c.close-tail.ensures.fits in
    let state = c.parts-log.ensures.log in
    let v = cell_view c.gather.new.keeper in
    let keeper = c.parts-log.ensures.keeper.1 in
    let has : v.keeps ≡ true = c.gather.ensures.same.0 ∙ ap (λ (u : View). u.keeps) keeper ∙ tail.keeps in
    let story : v.story ≡ c.close-tail.result.keeper.story = c.gather.ensures.same.1 ∙ ap (λ (u : View). u.story) keeper in
    let seen = c.parts-log.result.0.seen in
    let agrees : Agrees v.story seen =
    subst (λ (y : Story × Seen). Agrees y.0 y.1) (λ i. (sym story i, ap (λ s. s.seen) (sym state) i)) tail.agrees in
    let first : seen.first ≡ c.args.self.first = ap (λ s. s.seen.first) state ∙ tail.began.first ∙ ap (λ l. l.first) c.self.view_is in
    let e = c.close.ensures in
    let disk = g.R.RedoDisk.seen c.close.result.disk in
    All-weaker (IsKnownBy v) (IsInEnd c.args.self.first disk c.close.result.end c.close.result.durable)
    (λ p within. subst (λ n. IsInEnd n disk c.close.result.end c.close.result.durable p) first
    (in_end v _ _ seen disk c.close.result.end c.close.result.durable p c.look.ensures.view has agrees within e.end e.durable.0 e.faults e.records))
    c.args.passes.items c.gather.ensures.passes

pub returns-clause-all : goal.returns-clause-all
returns-clause-all g c = λ all.
    let tail = c.close-tail.ensures.fits in
    let state = c.parts-log.ensures.log in
    let v = cell_view c.gather.new.keeper in
    let keeper = c.parts-log.ensures.keeper.1 in
    let has : v.keeps ≡ true = c.gather.ensures.same.0 ∙ ap (λ (u : View). u.keeps) keeper ∙ tail.keeps in
    let story : v.story ≡ c.close-tail.result.keeper.story = c.gather.ensures.same.1 ∙ ap (λ (u : View). u.story) keeper in
    let seen = c.parts-log.result.0.seen in
    let agrees : Agrees v.story seen =
    subst (λ (y : Story × Seen). Agrees y.0 y.1) (λ i. (sym story i, ap (λ s. s.seen) (sym state) i)) tail.agrees in
    let began : BeganAs g.R.RedoDisk.seen c.args.self c.parts-log.result.0 =
    subst (λ (y : LogOf g.row.R.Denot × LogState g.row.R.Denot). BeganAs g.R.RedoDisk.seen y.0 y.1) (λ i. (c.self.view_is i, sym state i)) tail.began in
    let share = ap (λ (u : View). u.share) keeper ∙ tail.none.0 in
    let empty = ap (λ (u : View). size_of u.pieces) keeper ∙ ap size_of tail.none.1 in
    let full : v.share ≡ SHARES = omega (arith, c.gather.ensures.shares, share, all) in
    let size = (c.look.ensures.view.whole has).3 full in
    let met = ap (λ (u : View). u.met) keeper ∙ tail.none.2 in record {
      bytes = omega (arith, c.close.ensures.end, agrees.end, agrees.opened, began.opened, size.0, c.gather.ensures.sizes, empty);
      faults = omega (arith, c.close.ensures.faults, agrees.faults, size.1, c.gather.ensures.mets, met);
    }
