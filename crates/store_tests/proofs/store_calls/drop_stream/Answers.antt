use Rattle.std.proofs.Common.{refl}
use Rattle.effects.specs.declared.effect.Effect.TheVariants.{DropStream}
use Rattle.store_tests.proofs.Changes.{other_placed}
use Rattle.store_tests.proofs.store_calls.drop_stream.Goals as goal

pub commit-requires-clause-placed : goal.commit-requires-clause-placed
commit-requires-clause-placed c = other_placed c.law_placing.ensures c.args.store.now.blocks DropStream refl
