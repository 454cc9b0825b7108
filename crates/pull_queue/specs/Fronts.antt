-- What becomes of the front pull if a message of so many bytes is to go to it, by JetStream's pull consumers.
use Rattle.std.specs.Prelude.{ℕ, List, [], ◌∷◌, if◌then◌else◌}
use Rattle.js_model.specs.declared.consumer.Pull.{Pull}
use Rattle.js_model.specs.Deliver.{fits, front_served}
use Rattle.pull_queue.specs.declared.front.Front.{Front}
use Rattle.pull_queue.specs.declared.front.Front.TheVariants.{Served, TooSmall, Nobody}

abbrev pub front_of : ℕ → List Pull → Front
front_of size [] = Nobody
front_of size (p ∷ _) = if fits size p.bytes then Served else TooSmall

-- the pulls that wait afterwards
abbrev pub after_front : ℕ → ℕ → List Pull → List Pull
after_front size now [] = []
after_front size now (p ∷ ps) = if fits size p.bytes then front_served now size (p ∷ ps) else ps
