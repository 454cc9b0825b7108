use Rattle.message_store.proofs.Entries.{sum_small}
use Rattle.message_store.proofs.store.MessageStore.bytes.Goals as goal

pub returns-clause-bound : goal.returns-clause-bound
returns-clause-bound c = sum_small _ _ c.self.invariant
