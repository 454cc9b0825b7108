use Rattle.std.proofs.Common.{◌↔◌, drop}
use Rattle.effects.specs.Restorable.{Rises}
use Rattle.log_replay.proofs.restoring.rise.Given as goal

-- the rest of them decides
abbrev pub invariant-loop-known : goal.invariant-loop-known
invariant-loop-known l = Rises (λ i. i.at) 0 l.latest l.ids ↔ Rises (λ i. i.at) l.earliest l.latest (drop l.known-index l.ids)
