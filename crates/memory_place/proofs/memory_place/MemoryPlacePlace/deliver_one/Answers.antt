use Rattle.std.proofs.Common.{Ok, Err}
use Rattle.memory_place.proofs.Steps.{delivers_of}
use Rattle.memory_place.proofs.memory_place.MemoryPlacePlace.deliver_one.Goals.{in-Ok, in-Err}
use Rattle.memory_place.proofs.memory_place.MemoryPlacePlace.deliver_one.Goals as goal

pub returns-clause-delivers : goal.returns-clause-delivers
returns-clause-delivers g c =
    let old = c.self.inside.slot in
    elim c.match-deliver_one.branch [
      | in-Ok w ↦ rw (w.result-is, ← c.self.view_is) (delivers_of old c.args.now c.args.listening.now (Ok w.in-Ok.made) c.deliver_one.new.self c.args.outs.now c.deliver_one.new.outs w.in-Ok.ensures.delivers)
      | in-Err w ↦ rw (w.result-is, ← c.self.view_is) (delivers_of old c.args.now c.args.listening.now (Err w.in-Err.left) c.deliver_one.new.self c.args.outs.now c.deliver_one.new.outs w.in-Err.ensures.delivers)
    ]
