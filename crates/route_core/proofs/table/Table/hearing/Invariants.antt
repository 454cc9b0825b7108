use Rattle.std.proofs.Common.{◌≡◌, map, take}
use Rattle.std.specs.Prelude.{filter}
use Rattle.route_core.proofs.Tables.{at_numbers, is_reached}
use Rattle.route_core.proofs.table.Table.hearing.Given as goal

-- those of the numbers so far are found
abbrev pub invariant-loop-number : goal.invariant-loop-number
invariant-loop-number l = map (λ heard. heard.sub.now) l.found.items ≡ filter (is_reached l.deaf) (at_numbers l.self-inside.subscriptions.entries (take l.number-index l.number-items))
