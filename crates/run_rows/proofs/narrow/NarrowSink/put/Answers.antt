use Rattle.std.proofs.Common.{◌≡◌, ◌≤◌, ℕ, List, ◌++◌, Option, Some, Result, length, take, rules, arith, ap, ◌∙◌}
use Rattle.std.proofs.lemmas.List.{length-take-le, take-take}
use Rattle.std.proofs.lemmas.Result.{IfOk-weaker}
use Rattle.page_disk.specs.Streams.{GoesTo, PutsPiece}
use Rattle.page_ids.specs.declared.faults.Failed.{Failed}
use Rattle.run_rows.proofs.narrow.NarrowSink.put.Goals as goal

-- what a call took of the front of a piece it took of the piece
of_the_front : (before after : Option (List ℕ)) (r : Result ℕ Failed) (k : ℕ) (piece : List ℕ) → k ≤ length piece
    → PutsPiece before after r (take k piece) → PutsPiece before after r piece
of_the_front before after r k piece le p = record { ok = IfOk-weaker r (λ n. GoesTo before after n (take k piece)) (λ n. GoesTo before after n piece) wide p.ok; err = p.err; silent = p.silent }
  where
    long : length (take k piece) ≡ k
    long = length-take-le k piece le

    wide : (n : ℕ) → GoesTo before after n (take k piece) → GoesTo before after n piece
    wide n g = let small : n ≤ k = omega (arith, g.within, long) in
        record { some = g.some; within = omega (arith, small, le); bytes = λ bytes e. g.bytes bytes e ∙ ap (λ t. Some (bytes ++ t)) (take-take n k piece small) }

pub returns-clause-bytes : goal.returns-clause-bytes
returns-clause-bytes c = of_the_front (Some c.args.self.now.sink.held) (Some c.put.new.self.held) c.put.result c.min-most.result c.args.piece.now (search rules) c.put.ensures.bytes
