use Rattle.std.proofs.Common.{◌∙◌}
use Rattle.message_store.proofs.Entries.{lookup_is}
use Rattle.message_store.proofs.store.MessageStore.get.Goals as goal

pub returns : goal.returns
returns c = record { value = rw (← c.self.view_is) (c.get.ensures.value ∙ lookup_is c.args.seq c.self.inside.messages.entries c.self.invariant.numbered) }
