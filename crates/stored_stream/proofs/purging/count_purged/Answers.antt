use Rattle.std.proofs.Common.{arith}
use Rattle.stored_stream.proofs.Purges.{take_all}
use Rattle.stored_stream.proofs.purging.count_purged.Goals as goal

pub returns-in-Some : goal.returns-in-Some
returns-in-Some c = record { value = rw c.in-Some.is c.count_unkept.ensures.value }

pub returns-in-None : goal.returns-in-None
returns-in-None c = record { value = rw c.in-None.is (take_all c.args.selector c.args.below 18446744073709551615 c.args.stream.now.messages c.requires.sound.few (omega arith)) }
