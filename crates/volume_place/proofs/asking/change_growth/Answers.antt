use Rattle.std.proofs.Common.{arith}
use Rattle.volume_place.proofs.Raising.{other_change, same_change, vacant_change}
use Rattle.volume_place.proofs.asking.change_growth.Goals as goal

pub returns-then-is_vacant : goal.returns-then-is_vacant
returns-then-is_vacant c = record {
  value = λ reply. vacant_change reply c.args.config.now c.args.slot.now c.none.result c.is_vacant.result c.is_vacant.ensures.value c.if-is_vacant.true c.none.ensures.value;
}

pub returns-then-has_config : goal.returns-then-has_config
returns-then-has_config c = record {
  value = λ reply. same_change reply c.args.config.now c.args.slot.now c.none-then-has_config.result c.has_config.result c.has_config.ensures.value c.if-has_config.true c.none-then-has_config.ensures.value;
}

pub returns : goal.returns
returns c = record {
  value = λ reply.
      other_change reply c.args.config.now c.args.slot.now c.in_ok-fixed.fixed c.is_vacant.result c.has_config.result c.is_vacant.ensures.value c.if-is_vacant.false c.has_config.ensures.value
      c.if-has_config.false (omega arith) c.in_ok-fixed.ensures.value;
}
