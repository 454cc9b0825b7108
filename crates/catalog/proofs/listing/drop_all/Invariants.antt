use Rattle.std.proofs.Common.{◌≡◌, ◌+◌, ◌-◌, ◌*◌}
use Rattle.catalog.specs.Numbers.{numbers, without_numbers}
use Rattle.catalog.proofs.listing.drop_all.Given as goal

-- the numbers that are left go
abbrev pub invariant-loop : goal.invariant-loop
invariant-loop l =
    (l.id ≡ l.fn.first + 32 * l.counter) × (without_numbers (numbers l.id (l.count - l.counter)) l.index ≡ without_numbers (numbers l.fn.first l.count) l.initial.index)
