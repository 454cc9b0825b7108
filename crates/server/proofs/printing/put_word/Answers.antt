use Rattle.std.proofs.Common.{List, ℕ, arith, length-set, subst, ◌∙◌}
use Rattle.link_edge.specs.Puts.{Writes}
use Rattle.server.proofs.Shown.{shown_more, shown_whole}
use Rattle.server.proofs.printing.put_word.Goals as goal

pub loop-at-preserved : goal.loop-at-preserved
loop-at-preserved g c =
    let so = c.loop-at.invariant in
    record {
      shown = shown_more c.loop-at.shown c.args.word.now c.loop-at.at c.shown_byte.result (omega (arith, so.size, c.loop-at-test.true, c.min-len.ensures)) (omega (arith, c.loop-at-test.true, c.min-len.ensures)) so.shown c.shown_byte.ensures.value;
      size = length-set c.loop-at.shown c.loop-at.at c.shown_byte.result ∙ so.size;
    }

pub returns-clause-written : goal.returns-clause-written
returns-clause-written g c =
    subst (λ (bytes : List ℕ). Writes (g.O.Sink.written c.args.out.now) (g.O.Sink.written c.put.new.self) c.put.result bytes)
    (shown_whole c.loop-at.shown c.args.word.now c.loop-at.at c.min-len.result c.loop-at.invariant.shown (omega (arith, c.loop-at.auto.at-end)) (omega (arith, c.loop-at-test.false)) (omega (arith, c.min-len.ensures)))
    c.put.ensures.written
