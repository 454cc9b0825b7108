use Rattle.std.proofs.Common.{◌≡◌, ◌∙◌, ◌+◌, ◌-◌, ap, suc, arith}
use Rattle.catalog.specs.Numbers.{numbers, without_numbers}
use Rattle.catalog.proofs.Numbering.{drop_more, drop_done}
use Rattle.catalog.proofs.listing.drop_all.Goals as goal

pub loop-preserved : goal.loop-preserved
loop-preserved c =
    let next : c.args.count - c.loop.counter ≡ suc (c.args.count - (c.loop.counter + 1)) = omega arith in (
      omega (arith, c.loop.invariant.0),
      ap (without_numbers (numbers (c.loop.id + 32) (c.args.count - (c.loop.counter + 1)))) c.remove.ensures.left
          ∙ drop_more c.loop.id (c.args.count - (c.loop.counter + 1)) (c.args.count - c.loop.counter) c.loop.index _ next c.loop.invariant.1,
    )

pub returns : goal.returns
returns c =
    let none : c.args.count - c.loop.counter ≡ 0 = omega arith in
    record { left = drop_done c.loop.id (c.args.count - c.loop.counter) c.loop.index _ none c.loop.invariant.1 }
