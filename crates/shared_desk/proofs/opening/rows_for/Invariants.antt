use Rattle.std.proofs.Common.{◌≡◌, ◌≤◌, [], map, vec_len}
use Rattle.std.specs.List.{AllByRecursion}
use Rattle.std.specs.Vec.{vec_capacity}
use Rattle.shared_desk.specs.Laying.{rows_of}
use Rattle.shared_desk.proofs.opening.rows_for.Given as goal

-- the rows so far, and room for the others
abbrev pub invariant-loop : goal.invariant-loop
invariant-loop g l = record {
  made : map (λ row. row.items) l.rows.items ≡ rows_of [] l.counter;
  room : AllByRecursion (λ row. l.places ≤ vec_capacity row) l.rows.items;
  count : vec_len l.rows ≡ l.counter;
  fits : l.callers ≤ vec_capacity l.rows;
}
