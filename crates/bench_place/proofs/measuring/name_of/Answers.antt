use Rattle.std.proofs.Common.{◌+◌, ◌<◌, ◌≤◌, ◌/◌, ◌%◌, arith}
use Rattle.std.proofs.Math.Nat.{mul-div-le}
use Rattle.std.proofs.lemmas.Nat.{mod_below}
use Rattle.bench_place.proofs.Small.{letters}
use Rattle.bench_place.proofs.measuring.name_of.Goals as goal

high : (c : goal.Start) → c.args.number / 16 ≤ 15
high c = omega (arith, mul-div-le c.args.number 16, c.ranges.number.fits)

low : (c : goal.Start) → c.args.number % 16 < 16
low c = mod_below c.args.number 16 (omega arith)

pub returns : goal.returns
returns c =
    let first = 97 + c.args.number / 16 in
    let second = 97 + c.args.number % 16 in
    record { name = letters first second (omega arith) (omega (arith, high c)) (omega arith) (omega (arith, low c)) }

pub overflow_add-result : goal.overflow_add-result
overflow_add-result c = omega (arith, high c)

pub overflow_add-result-2 : goal.overflow_add-result-2
overflow_add-result-2 c = omega (arith, low c)
