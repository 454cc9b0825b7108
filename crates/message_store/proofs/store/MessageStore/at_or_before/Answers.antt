use Rattle.std.proofs.Common.{None, ap, sym, ◌∙◌}
use Rattle.std.specs.List.{last_or}
use Rattle.std.specs.Map.{values_of}
use Rattle.message_store.proofs.Entries.{Entries, last_upto, last_entry}
use Rattle.message_store.proofs.store.MessageStore.at_or_before.Goals as goal

pub returns-in-Some : goal.returns-in-Some
returns-in-Some c = record {
  value = rw (← c.self.view_is)
      (last_entry _ _ _ c.in-Some.ensures.steps ∙ last_upto c.args.seq c.self.inside.messages.entries _ c.self.invariant.numbered (c.range.ensures.between tt));
}

pub returns-in-None : goal.returns-in-None
returns-in-None c = record {
  value = rw (← c.self.view_is)
      (sym (ap (λ (p : Entries). last_or None (values_of p)) c.in-None.ensures.steps.0) ∙ last_upto c.args.seq c.self.inside.messages.entries _ c.self.invariant.numbered (c.range.ensures.between tt));
}
