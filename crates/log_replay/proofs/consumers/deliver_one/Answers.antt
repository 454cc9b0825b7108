use Rattle.std.proofs.Common.{sym, ap, ◌∙◌}
use Rattle.js_model.specs.declared.consumer.Consumer.{Consumer}
use Rattle.log_replay.proofs.Makings.{both_ok, fits_at, not_there, replaces_at}
use Rattle.log_replay.proofs.consumers.deliver_one.Goals as goal

pub unreachable-requires : goal.unreachable-requires
unreachable-requires c = absurd (not_there c.args.name.now c.args.consumers.now _ c.requires.there (sym c.place_of.ensures.value ∙ c.in_default.is))

pub deliver-requires : goal.deliver-requires
deliver-requires c = record { can = rw (← c.index-consumers-place.is) (fits_at c.args.name.now c.args.consumers.now _ c.in-Some.place c.index-consumers-place.result c.requires.there (sym c.place_of.ensures.value ∙ c.in-Some.is) c.index-consumers-place.is) }

pub returns : goal.returns
returns c = record {
  ok = both_ok c.deliver.result c.deliver.ensures.ok c.deliver.ensures.keeps
      (λ value keeps. replaces_at c.args.name.now _ c.args.consumers.now c.in-Some.place c.index-consumers-place.result c.deliver.new.self (sym c.place_of.ensures.value ∙ c.in-Some.is) c.index-consumers-place.is c.requires.ordered
      (ap (λ (d : Consumer). d.name) value) (value, keeps));
}
