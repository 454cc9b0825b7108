use Rattle.std.proofs.Common.{◌≡◌, ◌≤◌, ◌+◌, ◌++◌, length, map, vec_len}
use Rattle.std.specs.List.{AllByRecursion}
use Rattle.std.specs.Prelude.{reverse, vec_capacity}
use Rattle.shared_desk.specs.Laying.{passes_of}
use Rattle.shared_desk.specs.Seats.{AreThere}
use Rattle.shared_desk.proofs.opening.deal_passes.Given as goal

-- the passes to come, and those that were made in the other order
abbrev pub invariant-loop-passes : goal.invariant-loop-passes
invariant-loop-passes g l = record {
  made : passes_of (map (λ row. row.items) l.rows.items) l.routers.items l.catalogs.items ++ reverse l.passes.items ≡ passes_of (map (λ row. row.items) l.fn.rows.items) l.fn.routers.items l.fn.catalogs.items;
  routers : length l.routers.items ≡ length l.rows.items;
  catalogs : length l.catalogs.items ≡ length l.rows.items;
  room : vec_len l.rows + vec_len l.passes ≤ vec_capacity l.passes;
  there : AllByRecursion (λ row. AreThere row.items) l.rows.items;
}

abbrev pub decreases-loop-passes : goal.decreases-loop-passes
decreases-loop-passes g l = vec_len l.rows
