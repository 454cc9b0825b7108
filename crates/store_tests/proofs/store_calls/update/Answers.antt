use Rattle.store_tests.proofs.Changes.{other_placed}
use Rattle.store_tests.proofs.store_calls.update.Goals as goal

pub commit-requires-clause-placed : goal.commit-requires-clause-placed
commit-requires-clause-placed c = other_placed c.law_placing.ensures c.args.store.now.blocks c.in_ok-change.change c.in_ok-change.ensures.other
