use Rattle.std.proofs.Common.{ℕ, ◌+◌, ◌*◌, ap, ◌∙◌}
use Rattle.volume_place.proofs.Raising.{live_publish, vacant_publish}
use Rattle.volume_place.proofs.asking.publish_growth.Goals as goal

pub returns-then-is_vacant : goal.returns-then-is_vacant
returns-then-is_vacant c = record { value = vacant_publish c.args.slot.now c.args.publish.now c.none.result c.is_vacant.result c.is_vacant.ensures.value c.if-is_vacant.true c.none.ensures.value }

pub returns : goal.returns
returns c = record {
  value =
      live_publish c.args.slot.now c.args.publish.now c.consumer_count.result c.message_growth.result c.is_vacant.result c.is_vacant.ensures.value c.if-is_vacant.false
      c.consumer_count.ensures.value (c.message_growth.ensures.value ∙ ap (λ (n : ℕ). 50 + n + 32 * c.consumer_count.result) c.len-id.ensures.value);
}
