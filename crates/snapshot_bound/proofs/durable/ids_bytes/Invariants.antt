use Rattle.std.proofs.Common.{◌≡◌, take}
use Rattle.std.specs.Prelude.{sum_by}
use Rattle.snapshot_bound.specs.Bounds.{capped, id_length}
use Rattle.snapshot_bound.proofs.durable.ids_bytes.Given as goal

abbrev pub invariant-loop-id : goal.invariant-loop-id
invariant-loop-id l = l.sum ≡ capped (sum_by id_length (take l.id-index l.ids))
