use Rattle.std.proofs.Common.{List, ℕ, subst, sym, ◌∙◌}
use Rattle.nats_frames.specs.declared.look.Look.TheVariants as looks
use Rattle.nats_frames.specs.Looking.{Looks}
use Rattle.nats_frames.proofs.Taken.{taken}
use Rattle.nats_frames.proofs.front.Front.take.Goals as goal

pub returns-in-Ok : goal.returns-in-Ok
returns-in-Ok c =
    let looks_now = subst (λ (b : List ℕ). Looks b (looks.Whole c.in-Whole.shape c.in-Whole.len)) c.as_slice.ensures c.in-Whole.ensures in
    let taken_off = taken c.self.inside.bytes.items c.in-Ok.bytes c.freeze_to.new.self.items c.in-Whole.shape c.in-Whole.len looks_now c.in-Ok.ensures.front c.in-Ok.ensures.rest.0 in
    record { takes = (taken_off.0, sym c.self.view_is ∙ taken_off.1) }
