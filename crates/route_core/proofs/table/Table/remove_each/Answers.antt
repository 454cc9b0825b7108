use Rattle.std.proofs.Common.{◌≡◌, ◌∙◌, sym, filter, length, arith}
use Rattle.route_core.specs.Table.{is_of}
use Rattle.route_core.proofs.Tables.{none_left}
use Rattle.route_core.proofs.table.Table.remove_each.Goals as goal

pub returns : goal.returns
returns c =
    let zero : length (filter (is_of c.args.session) c.loop-at.self) ≡ 0 =
    omega (arith, c.loop-at.invariant.fewer, c.loop-at-test.false, c.loop-at.auto._at-end, c.count_of-at-end.ensures.value) in
    record { left = sym (none_left c.args.session c.loop-at.self zero) ∙ c.loop-at.invariant.others }
