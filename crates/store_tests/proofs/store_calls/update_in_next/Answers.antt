use Rattle.store_tests.proofs.Changes.{other_placed}
use Rattle.store_tests.proofs.store_calls.update_in_next.Goals as goal

pub alternate-requires-clause-placed : goal.alternate-requires-clause-placed
alternate-requires-clause-placed c = other_placed c.law_placing.ensures c.args.store.now.blocks c.in_ok-change.change c.in_ok-change.ensures.other
