use Rattle.std.proofs.Common.{◌≡◌, map, take}
use Rattle.consumer_texts.specs.Parting.{farewell_of}
use Rattle.consumer_state.proofs.consumer.Consumer.farewells.Given as goal

-- what the pulls so far are told
abbrev pub invariant-loop-place : goal.invariant-loop-place
invariant-loop-place l = l.outs.items ≡ map farewell_of (take l.place l.self.waiting)
