use Rattle.std.proofs.Common.{arith}
use Rattle.store_tests.proofs.store_calls.alternate.Goals as goal

pub alternate-requires-clause-within : goal.alternate-requires-clause-within
alternate-requires-clause-within c = λ b table spots.
    let covers = c.law_bounds.ensures.covers c.args.next.now b c.requires.storable table spots in
    omega (arith, covers, c.in_ok-bound.ensures.value)
