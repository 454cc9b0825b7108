use Rattle.std.proofs.Common.{◌≡◌, refl, arith}
use Rattle.std.proofs.lemmas.Grind.{common_steps}
use Rattle.consumer_config.specs.Reading.{config_in}
use Rattle.consumer_config.proofs.reading.config.Goals as goal

pub returns : goal.returns
unfolding config_in
returns c =
    let named : c.in_ok-clone.field-0 ≡ c.args.name.now = grind (arith, common_steps) in
    record {
      value = rw (
        c.in_ok-ack_policy_in.ensures.value,
        c.or_usual.ensures.value,
        c.natural.ensures.value,
        c.in_ok-word.ensures.value,
        c.in_ok-deliver_policy_in.ensures.value,
        c.in_ok-word-2.ensures.value,
        c.in_ok-word-3.ensures.value,
        c.in_ok-word-4.ensures.value,
        c.natural-2.ensures.value,
        c.pending_in.ensures.value,
        c.limit.ensures.value,
        c.natural-3.ensures.value,
        c.or_usual-2.ensures.value,
        c.natural-4.ensures.value,
        named,
      ) refl;
    }
