use Rattle.std.proofs.Common.{◌^◌, ◌<◌, Option, subst, arith}
use Rattle.std.specs.Prelude.{IfSome}
use Rattle.stream_view.specs.declared.counts.Counts.{Counts}
use Rattle.stored_stream.proofs.later.counted_more.Goals as goal

pub overflow_add-result : goal.overflow_add-result
overflow_add-result c =
    let few : c.in-Some.counts.count < 2 ^ 32 = subst (λ (found : Option Counts). IfSome found (λ counts. counts.count < 2 ^ 32)) c.in-Some.is c.requires.room in
    omega (arith, few)
