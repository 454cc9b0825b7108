use Rattle.std.proofs.Common.{◌+◌, ◌*◌, length, ap, ◌∙◌}
use Rattle.js_base.specs.Bytes.{Bytes}
use Rattle.config_texts.specs.Texts.{consumer_text}
use Rattle.snapshot_bound.specs.Bounds.{capped}
use Rattle.volume_place.proofs.Raising.{other_consumer, same_consumer, vacant_consumer}
use Rattle.volume_place.proofs.asking.consumer_growth.Goals as goal

pub returns-then-is_vacant : goal.returns-then-is_vacant
returns-then-is_vacant c = record {
  value = λ reply update.
      vacant_consumer reply c.args.name.now c.args.config.now update c.args.slot.now c.none.result c.is_vacant.result c.is_vacant.ensures.value c.if-is_vacant.true c.none.ensures.value;
}

pub returns-then-has_consumer : goal.returns-then-has_consumer
returns-then-has_consumer c = record {
  value = λ reply update.
      same_consumer reply c.args.name.now c.args.config.now update c.args.slot.now c.none-then-has_consumer.result c.has_consumer.result c.has_consumer.ensures.value c.if-has_consumer.true
      c.none-then-has_consumer.ensures.value;
}

pub returns : goal.returns
returns c = record {
  value = λ reply update.
      other_consumer reply c.args.name.now c.args.config.now update c.args.slot.now c.messages-messages.result c.most_picked-picked.result c.in_ok-fixed.fixed c.consumer_counted.result
      c.is_vacant.result c.has_consumer.result c.is_vacant.ensures.value c.if-is_vacant.false c.has_consumer.ensures.value c.if-has_consumer.false c.messages-messages.ensures.value
      c.most_picked-picked.ensures.value
      (c.in_ok-fixed.ensures.value ∙ ap (λ (l : Bytes). capped (41 + length l + length (consumer_text c.args.config.now) + 8 * c.most_picked-picked.result)) c.as_slice.ensures) c.consumer_counted.ensures.value;
}
