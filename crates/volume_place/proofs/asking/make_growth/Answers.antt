use Rattle.std.proofs.Common.{arith}
use Rattle.volume_place.proofs.Raising.{live_make, vacant_make}
use Rattle.volume_place.proofs.asking.make_growth.Goals as goal

pub returns-then-is_vacant : goal.returns-then-is_vacant
returns-then-is_vacant c = record {
  value = λ reply. vacant_make reply c.args.config.now c.args.slot.now c.in_ok-fixed.fixed c.is_vacant.result c.is_vacant.ensures.value c.if-is_vacant.true (omega arith) c.in_ok-fixed.ensures.value;
}

pub returns : goal.returns
returns c = record { value = λ reply. live_make reply c.args.config.now c.args.slot.now c.none.result c.is_vacant.result c.is_vacant.ensures.value c.if-is_vacant.false c.none.ensures.value }
