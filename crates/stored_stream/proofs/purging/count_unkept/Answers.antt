use Rattle.std.proofs.Common.{◌-◌, ap, ◌∙◌}
use Rattle.std.specs.Prelude.{take}
use Rattle.stored_stream.specs.Selecting.{named}
use Rattle.stored_stream.proofs.purging.count_unkept.Goals as goal

pub returns : goal.returns
returns c =
    let ms = named c.args.selector c.args.below c.args.stream.now.messages in
    record { value = ap (λ n. take n ms) (c.saturating_sub.ensures ∙ ap (λ n. n - c.args.keep) c.in_ok-count.ensures.value) }
