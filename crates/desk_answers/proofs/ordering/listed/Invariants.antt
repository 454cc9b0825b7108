use Rattle.std.proofs.Common.{vec_len}
use Rattle.desk_answers.proofs.Ordered.{Ordered}
use Rattle.desk_answers.proofs.ordering.listed.Given as goal

-- those that were taken off the end are in order
abbrev pub invariant-loop-info : goal.invariant-loop-info
invariant-loop-info l = record {
  ordered : Ordered l.pattern l.initial.infos.items l.infos.items l.list.items;
}

abbrev pub decreases-loop-info : goal.decreases-loop-info
decreases-loop-info l = vec_len l.infos
