use Rattle.std.proofs.Common.{ap, ◌∙◌, arith}
use Rattle.stored_stream.specs.PushedOut.{pushed_out}
use Rattle.stored_stream.proofs.Pushing.{held_at}
use Rattle.stored_stream.proofs.verdicts.bytes_after.Goals as goal

pub overflow_sub-result : goal.overflow_sub-result
overflow_sub-result c =
    let s = c.args.stream.now in
    let out = held_at s c.args.publish.now c.requires.sound c.requires.within _ (c.in-Some.ensures.value ∙ ap (pushed_out s) c.as_slice.ensures) in
    omega (arith, out.1, c.bytes.ensures.value, c.publish_size.ensures.value, c.size.ensures.value)

pub returns-in-Some : goal.returns-in-Some
returns-in-Some c =
    let s = c.args.stream.now in
    let out = held_at s c.args.publish.now c.requires.sound c.requires.within _ (c.in-Some.ensures.value ∙ ap (pushed_out s) c.as_slice.ensures) in
    record { value = omega (arith, out.1, c.bytes.ensures.value, c.publish_size.ensures.value, c.size.ensures.value) }

pub returns-in-None : goal.returns-in-None
returns-in-None c =
    let s = c.args.stream.now in
    let out = held_at s c.args.publish.now c.requires.sound c.requires.within _ (c.in-None.ensures.value ∙ ap (pushed_out s) c.as_slice.ensures) in
    record { value = omega (arith, out.1, c.bytes.ensures.value, c.publish_size.ensures.value) }
