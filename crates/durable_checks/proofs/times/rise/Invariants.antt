use Rattle.std.proofs.Common.{◌↔◌, drop}
use Rattle.effects.specs.Restorable.{Rises}
use Rattle.durable_checks.proofs.times.rise.Given as goal

-- the rest of them decides
abbrev pub invariant-loop-moment : goal.invariant-loop-moment
invariant-loop-moment l = Rises (λ n. n) 0 l.latest l.moments ↔ Rises (λ n. n) l.earliest l.latest (drop l.moment-index l.moments)
