use Rattle.std.proofs.Common.{◌-◌, refl}
use Rattle.effects.specs.declared.effect.Effect.TheVariants.{Remove}
use Rattle.store_tests.proofs.Changes.{other_placed}
use Rattle.store_tests.proofs.store_calls.purge.Goals as goal

pub commit-requires-clause-placed : goal.commit-requires-clause-placed
commit-requires-clause-placed c = other_placed c.law_placing.ensures c.args.store.now.blocks (Remove 1 (c.args.seq - 1)) refl
