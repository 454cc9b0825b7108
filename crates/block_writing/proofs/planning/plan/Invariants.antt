use Rattle.block_writing.specs.Plans.{WritesBlock}
use Rattle.block_writing.proofs.Plans.{ArePlanned}
use Rattle.block_writing.proofs.planning.plan.Given as goal

-- the first changes are planned
abbrev pub invariant-loop-effect : goal.invariant-loop-effect
invariant-loop-effect l = record {
  so_far : ArePlanned l.table l.effects l.effect-index l.made l.placing;
  block : WritesBlock l.placing;
}
