-- That a log is outgrown is told of entries only where it is so, one after the other.
use Rattle.std.proofs.Common.{◌++◌, List, [], ◌∷◌}
use Rattle.js_model.specs.declared.event.What.{What}
use Rattle.js_model.specs.declared.stream.State.{State}
use Rattle.js_api.specs.Entries.{DeskEntry}
use Rattle.js_api.specs.Rooms.{AreOutgrown}

pub outgrown_more : (outgrows : State → What → Type 0) (first more : List DeskEntry) → AreOutgrown outgrows first → AreOutgrown outgrows more → AreOutgrown outgrows (first ++ more)
outgrown_more outgrows [] more h k = k
outgrown_more outgrows (entry ∷ first) more h k = (h.0, outgrown_more outgrows first more h.1 k)
