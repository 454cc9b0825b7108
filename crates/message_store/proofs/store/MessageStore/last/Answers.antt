use Rattle.message_store.proofs.Entries.{last_taken}
use Rattle.message_store.proofs.store.MessageStore.last.Goals as goal

pub returns : goal.returns
returns c = record { value = rw (← c.self.view_is) (rw (← c.values.ensures.rest) (last_taken _ _ _ c.next_back.ensures.steps)) }
