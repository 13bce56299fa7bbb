use Rattle.std.proofs.Common.{◌≡◌, ◌-◌, ◌++◌, ℕ, List, Some, length, take, drop, ap, ◌∙◌, sym, subst, arith, append_assoc}
use Rattle.std.proofs.lemmas.List.{length-drop}
use Rattle.std.proofs.Math.Seq.{take-add, take-length}
use Rattle.page_disk.specs.Streams.{GoesTo}
use Rattle.script_run.proofs.ends.write_all.Goals as goal

pub loop-at-preserved : goal.loop-at-preserved
loop-at-preserved g c =
    let at = c.loop-at.at in
    let n = c.in-Ok.count in
    let text = c.args.text.now in
    let piece : take (length text - at) (drop at text) ≡ drop at text = ap (λ m. take m (drop at text)) (sym (length-drop at text)) ∙ take-length (drop at text) in
    let P : List ℕ → Type 0 = λ bytes. GoesTo (g.K.Sink.held c.loop-at.sink) (g.K.Sink.held c.put.new.self) n bytes in
    let goes : GoesTo (g.K.Sink.held c.loop-at.sink) (g.K.Sink.held c.put.new.self) n (drop at text) = subst P piece c.in-Ok.ensures.bytes.ok in
    let inv = c.loop-at.invariant in (
      omega (arith, goes.within, length-drop at text, inv.0),
      λ held e. goes.bytes (held ++ take at text) (inv.1 held e) ∙ ap (λ (t : List ℕ). Some t) (append_assoc held (take at text) (take n (drop at text)) ∙ ap (λ (t : List ℕ). held ++ t) (sym (take-add at n text))),
      omega (arith, inv.2, c.in-Ok.ensures.cause.later),
    )
