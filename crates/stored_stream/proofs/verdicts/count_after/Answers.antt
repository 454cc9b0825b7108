use Rattle.std.proofs.Common.{sym, ap, ◌∙◌, ◌+◌}
use Rattle.stored_stream.specs.PushedOut.{pushed_out}
use Rattle.stored_stream.proofs.Pushing.{held_at}
use Rattle.stored_stream.proofs.verdicts.count_after.Goals as goal

pub returns-in-Some : goal.returns-in-Some
returns-in-Some c =
    let s = c.args.stream.now in
    let out = held_at s c.args.publish.now c.requires.sound c.requires.within _ (c.in-Some.ensures.value ∙ ap (pushed_out s) c.as_slice.ensures) in
    record { value = c.count-count.ensures.value ∙ sym out.0 }

pub returns-in-None : goal.returns-in-None
returns-in-None c =
    let s = c.args.stream.now in
    let out = held_at s c.args.publish.now c.requires.sound c.requires.within _ (c.in-None.ensures.value ∙ ap (pushed_out s) c.as_slice.ensures) in
    record { value = ap (λ n. n + 1) c.count-count.ensures.value ∙ sym out.0 }
