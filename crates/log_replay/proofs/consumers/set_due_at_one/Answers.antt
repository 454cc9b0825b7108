use Rattle.std.proofs.Common.{sym, ap, ◌∙◌}
use Rattle.js_model.specs.declared.consumer.Consumer.{Consumer}
use Rattle.log_replay.proofs.Makings.{not_there, replaces_at}
use Rattle.log_replay.proofs.consumers.set_due_at_one.Goals as goal

pub unreachable-requires : goal.unreachable-requires
unreachable-requires c = absurd (not_there c.args.name.now c.args.consumers.now _ c.requires.there (sym c.place_of.ensures.value ∙ c.in_default.is))

pub returns : goal.returns
returns c = record {
  value = replaces_at c.args.name.now _ c.args.consumers.now c.in-Some.place c.index-consumers-place.result c.set_due.new.self (sym c.place_of.ensures.value ∙ c.in-Some.is) c.index-consumers-place.is c.requires.ordered
      (ap (λ (d : Consumer). d.name) c.set_due.ensures.value) (c.set_due.ensures.value, c.set_due.ensures.keeps);
}
