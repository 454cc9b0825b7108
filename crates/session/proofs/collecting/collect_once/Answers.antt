use Rattle.std.proofs.Common.{refl}
use Rattle.session.specs.declared.stop.Stop.TheVariants as stops
use Rattle.session.proofs.Collected.{gives_frames, collect_ends}
use Rattle.session.proofs.collecting.collect_once.Goals as goal

pub returns-in-Ok-clause-collects : goal.returns-in-Ok-clause-collects
returns-in-Ok-clause-collects g c =
    gives_frames _ _ _ _ _ _ _ _ c.in-Ok-Frames.more (rw c.in-Ok-Frames.field-0-is at c.in-Ok-Frames.ensures.made) (rw c.as_slice.ensures at c.in-Ok.ensures.ok)

pub returns-in-Ok-Frames-clause-collects : goal.returns-in-Ok-Frames-clause-collects
returns-in-Ok-Frames-clause-collects g c =
    collect_ends _ _ stops.NoMemory _ _ _ _ _ _ (rw c.in-Ok-Frames.field-0-is at c.in-Ok-Frames.ensures.made) refl (λ n. cc)

pub returns-in-Ok-Slow-clause-collects : goal.returns-in-Ok-Slow-clause-collects
returns-in-Ok-Slow-clause-collects g c =
    collect_ends _ _ (stops.Slow c.in-Ok-Slow.length) _ _ _ _ _ _ (rw c.in-Ok-Slow.field-0-is at c.in-Ok-Slow.ensures.made) refl (λ n. refl)

pub returns-clause-collects : goal.returns-clause-collects
returns-clause-collects g c = collect_ends _ _ c.from.result _ _ _ _ _ _ c.in-Err.ensures.made c.from.ensures (λ n. refl)
