use Rattle.std.proofs.Common.{◌≡◌, ◌+◌, not, filter, length}
use Rattle.route_core.specs.Table.{is_of}
use Rattle.route_core.proofs.table.Table.remove_each.Given as goal

-- so many of the session's are out, and the others are there
abbrev pub invariant-loop-at : goal.invariant-loop-at
invariant-loop-at l = record {
  others : filter (λ sub. not (is_of l.session sub)) l.self ≡ filter (λ sub. not (is_of l.session sub)) l.initial.self;
  fewer : length (filter (is_of l.session) l.self) + l._at ≡ length (filter (is_of l.session) l.initial.self);
}
