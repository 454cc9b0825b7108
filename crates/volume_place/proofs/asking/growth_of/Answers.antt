use Rattle.std.proofs.lemmas.Bool.{and_parts}
use Rattle.volume_place.proofs.Raising.{not_asked, unasked_raised}
use Rattle.volume_place.proofs.asking.growth_of.Goals as goal

pub returns-in-Publish : goal.returns-in-Publish
returns-in-Publish c = record { value = rw c.in-Publish.is c.publish_growth.ensures.value }

pub make_growth-requires : goal.make_growth-requires
make_growth-requires c = record { valid = rw c.in-Make.is at c.requires.proper }

pub returns-in-Make : goal.returns-in-Make
returns-in-Make c = record { value = rw c.in-Make.is (c.make_growth.ensures.value c.in-Make.reply) }

pub change_growth-requires : goal.change_growth-requires
change_growth-requires c = record { valid = rw c.in-Change.is at c.requires.proper }

pub returns-in-Change : goal.returns-in-Change
returns-in-Change c = record { value = rw c.in-Change.is (c.change_growth.ensures.value c.in-Change.reply) }

pub consumer_growth-requires : goal.consumer_growth-requires
consumer_growth-requires c = record { valid = (and_parts _ _ (and_parts _ _ (rw c.in-MakeConsumer.is at c.requires.proper)).0).1 }

pub returns-in-MakeConsumer : goal.returns-in-MakeConsumer
returns-in-MakeConsumer c = record { value = rw c.in-MakeConsumer.is (c.consumer_growth.ensures.value c.in-MakeConsumer.reply c.in-MakeConsumer.update) }

pub returns-in_default : goal.returns-in_default
returns-in_default c = record {
  value =
      unasked_raised c.args.slot.now c.args.what.now c.none.result
      (not_asked c.args.what.now c.in_default.not-Publish c.in_default.not-Make c.in_default.not-Change c.in_default.not-MakeConsumer) c.none.ensures.value;
}
