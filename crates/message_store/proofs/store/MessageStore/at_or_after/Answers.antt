use Rattle.std.proofs.Common.{ap, sym, ◌∙◌}
use Rattle.std.specs.Map.{values_of}
use Rattle.js_model.specs.Counts.{first_message}
use Rattle.message_store.proofs.Entries.{Entries, first_from}
use Rattle.message_store.proofs.store.MessageStore.at_or_after.Goals as goal

pub returns-in-Some : goal.returns-in-Some
returns-in-Some c = record {
  value = rw (← c.self.view_is)
      (sym (ap (λ (p : Entries). first_message (values_of p)) c.in-Some.ensures.steps) ∙ first_from c.args.seq c.self.inside.messages.entries _ c.self.invariant.numbered (c.range.ensures.between tt));
}

pub returns-in-None : goal.returns-in-None
returns-in-None c = record {
  value = rw (← c.self.view_is)
      (sym (ap (λ (p : Entries). first_message (values_of p)) c.in-None.ensures.steps.0) ∙ first_from c.args.seq c.self.inside.messages.entries _ c.self.invariant.numbered (c.range.ensures.between tt));
}
