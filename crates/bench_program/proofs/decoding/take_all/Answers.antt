use Rattle.std.proofs.Common.{ap, ◌∙◌, refl}
use Rattle.nats_frames.specs.Decoding.{Held}
use Rattle.bench_program.proofs.Counted.{taking_first, taking_more, takes}
use Rattle.bench_program.proofs.decoding.take_all.Goals as goal

pub loop-count-init : goal.loop-count-init
loop-count-init c = record { taking = taking_first _; total = refl }

pub loop-count-preserved : goal.loop-count-preserved
loop-count-preserved c =
    let i = c.loop-count.invariant in
    let n = rw c.in-Ok-Some.field-0-is at c.in-Ok-Some.ensures.gives in
    record { taking = taking_more c.loop-count.count _ _ _ _ i.taking n.1; total = c.in-Ok-Some.ensures.total ∙ i.total }

pub returns-in-Ok-None-clause-takes : goal.returns-in-Ok-None-clause-takes
returns-in-Ok-None-clause-takes c =
    let n = rw c.in-Ok-None.field-0-is at c.in-Ok-None.ensures.gives in
    takes c.loop-count.count _ _ _ c.loop-count.invariant.taking n.0 (ap (λ (h : Held). h.bytes) n.1)
