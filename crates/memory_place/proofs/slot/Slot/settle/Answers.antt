use Rattle.std.proofs.Common.{ap, refl}
use Rattle.js_model.specs.declared.stream.State.TheVariants.{Live}
use Rattle.memory_place.proofs.slot.Slot.settle.Goals.{in-Nothing, in-Stream}
use Rattle.memory_place.proofs.slot.Slot.settle.Goals as goal

pub returns-clause-value : goal.returns-clause-value
returns-clause-value c =
    elim c.match-self.branch [
      | in-Nothing w ↦ rw (w.self-inside-is, ← c.self.view_is, w.in-Nothing.is) refl
      | in-Stream w ↦ rw (w.self-inside-is, ← c.self.view_is, w.in-Stream.is) (ap Live w.release.ensures.value)
    ]
