use Rattle.std.proofs.Common.{arith}
use Rattle.catalog.proofs.Conflicting.{all_apart}
use Rattle.catalog.proofs.conflict.first_conflict.Goals as goal

pub returns-clause-none : goal.returns-clause-none
returns-clause-none c = λ none. all_apart c.args.kept.now c.loop-first.first (omega arith) c.loop-first.invariant.none
