use Rattle.std.proofs.Common.{◌∙◌}
use Rattle.volume_place.proofs.Raising.{few_counted, live_bound, short_counted, vacant_bound}
use Rattle.place_engine.specs.Places.{ids_in}
use Rattle.volume_place.proofs.asking.bound_with.Goals as goal

pub returns-then-is_vacant : goal.returns-then-is_vacant
returns-then-is_vacant c = record { value = vacant_bound c.args.slot.now c.args.known c.is_vacant.result c.is_vacant.ensures.value c.if-is_vacant.true }

pub ids_length-ids-requires-clause-count : goal.ids_length-ids-requires-clause-count
ids_length-ids-requires-clause-count c = few_counted c.args.slot.now c.id_count.result c.requires.bounded c.id_count.ensures.value

pub ids_length-ids-requires-clause-text_bytes : goal.ids_length-ids-requires-clause-text_bytes
ids_length-ids-requires-clause-text_bytes c = short_counted c.args.slot.now c.id_bytes.result c.requires.bounded c.id_bytes.ensures.value

pub returns : goal.returns
returns c = record {
  value =
      c.bound_by.ensures.value
      ∙ live_bound c.args.slot.now c.args.known c.ids_length-ids.result c.messages.result c.consumer_count.result c.is_vacant.result c.is_vacant.ensures.value c.if-is_vacant.false
      (c.ids_length-ids.ensures.value (ids_in c.args.slot.now) c.id_count.ensures.value c.id_bytes.ensures.value) c.messages.ensures.value c.consumer_count.ensures.value;
}
