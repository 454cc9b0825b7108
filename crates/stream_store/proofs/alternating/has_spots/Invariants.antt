use Rattle.stream_store.proofs.Spots.{AreSpotsTo}
use Rattle.stream_store.proofs.alternating.has_spots.Given as goal

-- the first messages have their spots, and the others are looked at from there on
abbrev pub invariant-loop-message : goal.invariant-loop-message
invariant-loop-message l = AreSpotsTo l.table.placed l.messages l.message-index l.from
