use Rattle.std.proofs.Common.{◌≡◌, refl, arith}
use Rattle.std.proofs.lemmas.Grind.{common_steps}
use Rattle.stream_config.specs.Reading.{config_in}
use Rattle.stream_config.proofs.reading.config.Goals as goal

pub returns : goal.returns
unfolding config_in
returns c =
    let named : c.in_ok-clone.field-0 ≡ c.args.name.now = grind (arith, common_steps) in
    record {
      value = rw (
        c.in_ok-word.ensures.value,
        c.in_ok-discard_in.ensures.value,
        c.window.ensures.value,
        c.natural-max_age.ensures.value,
        c.natural.ensures.value,
        c.limit.ensures.value,
        c.limit-2.ensures.value,
        c.limit-3.ensures.value,
        c.limit-4.ensures.value,
        c.limit-5.ensures.value,
        named,
        c.in_ok-retention_in.ensures.value,
        c.in_ok-subjects.ensures.value,
      ) refl;
    }
