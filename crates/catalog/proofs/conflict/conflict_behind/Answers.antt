use Rattle.std.proofs.Common.{arith, sym, ◌∙◌}
use Rattle.catalog.proofs.Conflicting.{at_pair, first_behind, none_of, none_yet}
use Rattle.catalog.proofs.conflict.conflict_behind.Goals as goal

pub returns-then-conflict-clause-found : goal.returns-then-conflict-clause-found
returns-then-conflict-clause-found c =
    first_behind c.args.kept.now c.args.first c.loop-second.second c.loop-second.invariant.behind
    (at_pair c.args.kept.now c.args.first c.loop-second.second c.index-kept-first.result c.index-kept-second.result _ c.requires.within c.loop-second-test.true
    c.index-kept-first.is c.index-kept-second.is (sym c.if-conflict.true ∙ c.conflict.ensures.value))
    c.loop-second.invariant.none

pub loop-second-preserved : goal.loop-second-preserved
loop-second-preserved c = record {
  behind = omega arith;
  none = none_yet c.args.kept.now c.args.first c.loop-second.second
      (at_pair c.args.kept.now c.args.first c.loop-second.second c.index-kept-first.result c.index-kept-second.result _ c.requires.within c.loop-second-test.true
      c.index-kept-first.is c.index-kept-second.is (sym c.if-conflict.false ∙ c.conflict.ensures.value))
      c.loop-second.invariant.none;
}

pub returns-clause-none : goal.returns-clause-none
returns-clause-none c = λ none. none_of c.args.kept.now c.args.first c.loop-second.second (omega arith) c.loop-second.invariant.none
