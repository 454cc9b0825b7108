use Rattle.std.proofs.Common.{◌≡◌, Some, drop}
use Rattle.stream_store.specs.Placing.{placing_behind}
use Rattle.stream_store.proofs.Placings.{placings}
use Rattle.stream_store.proofs.room.spot_in.Given as goal

-- the rest goes from here to where all of them lead
abbrev pub invariant-loop-effect : goal.invariant-loop-effect
invariant-loop-effect l = placings l.table (drop l.effect-index l.tail) (Some l.placing) ≡ placing_behind l.table l.tail
