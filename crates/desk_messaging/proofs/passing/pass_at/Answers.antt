use Rattle.std.proofs.Common.{refl}
use Rattle.desk_messaging.proofs.passing.pass_at.Goals as goal

pub returns-in-Some-clause-made : goal.returns-in-Some-clause-made
returns-in-Some-clause-made g c = record { entries = c.hold-outcome.ensures.made.entries; are = record { outcome = c.hold-outcome.result; holds = c.hold-outcome.ensures.made.are; ends = rw c.in-Some.is (refl, refl) }; led = c.hold-outcome.ensures.made.led }

pub returns-in-None-clause-made : goal.returns-in-None-clause-made
returns-in-None-clause-made g c = record { entries = c.hold-outcome.ensures.made.entries; are = record { outcome = c.hold-outcome.result; holds = c.hold-outcome.ensures.made.are; ends = rw c.in-None.is (record { result_is = refl; entries_are = refl }) }; led = c.hold-outcome.ensures.made.led }
