use Rattle.std.proofs.Common.{◌∙◌, ◌++◌, ◌<◌, ◌∷◌, [], inr, length, sym, ap, subst, arith}
use Rattle.std.proofs.lemmas.Option.{none-some}
use Rattle.std.proofs.lemmas.List.{length-append}
use Rattle.page_ids.specs.Typed.{ArePages}
use Rattle.dump_load.specs.Text.{dump_text, ended}
use Rattle.dump_load.specs.Reading.{id_of}
use Rattle.dump_load.proofs.Lines.{ended_some, line_read, line_is, text_push, typed_push}
use Rattle.dump_load.proofs.text.read_lines.Goals as goal

pub returns-then-number-gt-MOST_IDS : goal.returns-then-number-gt-MOST_IDS
returns-then-number-gt-MOST_IDS c =
    let k = c.loop-rest.invariant in
    let ids = c.loop-rest.ids in
    let some : 0 < length c.loop-rest.rest.now = grind (arith, c.loop-rest-test.true, c.is_empty.ensures) in
    inr (record {
      before = ids.items;
      behind = ended c.loop-rest.rest.now;
      typed = k.typed;
      text = k.text;
      more = ended_some c.loop-rest.rest.now some;
      place = omega (arith, c.len.ensures, ids.ok.0);
      full = omega (arith, c.len.ensures, ids.ok.0, k.few, c.if-number-gt-MOST_IDS.true);
    })

pub returns-in_default : goal.returns-in_default
returns-in_default c =
    let k = c.loop-rest.invariant in
    let ids = c.loop-rest.ids in
    let cut = c.next_line.ensures in
    inr (record {
      before = ids.items;
      line = c.next_line.result.0.now;
      behind = ended c.next_line.result.1.now;
      typed = k.typed;
      text = k.text ∙ ap (λ xs. dump_text ids.items ++ xs) cut.lines;
      place = omega (arith, c.len.ensures, ids.ok.0);
      few = omega (arith, c.len.ensures, ids.ok.0, c.if-number-gt-MOST_IDS.false);
      whole = cut.whole;
      bad = λ p typed e. none-some p (sym c.in_default.is ∙ c.id.ensures ∙ ap id_of e ∙ line_read p typed);
    })

pub loop-rest-preserved : goal.loop-rest-preserved
loop-rest-preserved c =
    let k = c.loop-rest.invariant in
    let ids = c.loop-rest.ids.items in
    let id = c.in-Some.id in
    let behind = ended c.next_line.result.1.now in
    let read = line_is c.next_line.result.0.now id (sym c.id.ensures ∙ c.in-Some.is) in
    let grown = c.in-Ok.ensures.items in
    record {
      typed = subst (λ xs. ArePages xs) (sym grown) (typed_push ids id k.typed read.1);
      text = k.text ∙ ap (λ xs. dump_text ids ++ xs) (c.next_line.ensures.lines ∙ ap (λ xs. xs ++ 10 ∷ behind) read.0)
          ∙ text_push ids id behind ∙ ap (λ xs. dump_text xs ++ behind) (sym grown);
      few = omega (arith, ap length grown, length-append ids (id ∷ []), c.len.ensures, c.loop-rest.ids.ok.0, c.if-number-gt-MOST_IDS.false);
    }
