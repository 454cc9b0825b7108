use Rattle.std.proofs.Common.{take, refl}
use Rattle.subject_counts.proofs.Prefixes.{begins_found, begins_whole}
use Rattle.subject_counts.proofs.matching.literal_prefix.Goals as goal

-- src/matching.rt:47:1
pub returns-in-Some : goal.returns-in-Some
returns-in-Some c = record { begins = begins_found c.args.pattern.now (take c.in-Some.at c.args.pattern.now) c.in-Some.at c.in-Some.ensures.value refl }

-- src/matching.rt:47:1
pub returns-in-None : goal.returns-in-None
returns-in-None c = record { begins = begins_whole c.args.pattern.now c.in-None.ensures.value }
