use Rattle.std.proofs.Common.{ap}
use Rattle.serde_json.specs.Data.{object}
use Rattle.consumer_config.proofs.Printings.{put_in_order}
use Rattle.consumer_config.proofs.printing.print.Goals as goal

pub returns : goal.returns
returns c = record {
  printed = rw (
    c.into_value.ensures.value,
    c.in_ok-text-5.ensures.ok,
    c.in_ok-put_start.ensures.ok,
    c.in_ok-text-4.ensures.ok,
    c.in_ok-number-2.ensures.ok,
    c.in_ok-limit-2.ensures.ok,
    c.in_ok-limit.ensures.ok,
    c.in_ok-number_unless_0.ensures.ok,
    c.in_ok-text_unless_empty-4.ensures.ok,
    c.in_ok-text-3.ensures.ok,
    c.in_ok-text_unless_empty-3.ensures.ok,
    c.in_ok-text_unless_empty-2.ensures.ok,
    c.in_ok-text-2.ensures.ok,
    c.in_ok-text_unless_empty.ensures.ok,
    c.in_ok-number.ensures.ok,
    c.in_ok-text.ensures.ok,
    c.new-made.ensures.empty,
    c.as_slice-6.ensures,
    c.as_slice-5.ensures,
    c.as_slice-4.ensures,
    c.as_slice-3.ensures,
    c.as_slice-2.ensures,
    c.deliver_policy_text.ensures.value,
    c.as_slice.ensures,
    c.ack_policy_text.ensures.value,
  ) (ap object (put_in_order c.args.config.now));
}
