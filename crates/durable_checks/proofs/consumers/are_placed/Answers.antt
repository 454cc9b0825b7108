use Rattle.std.proofs.Common.{sym, subst}
use Rattle.durable_checks.specs.Parts.{Ascend}
use Rattle.durable_checks.proofs.Searching.{pending_ascends}
use Rattle.durable_checks.proofs.consumers.are_placed.Goals as goal

pub are_apart-requires : goal.are_apart-requires
are_apart-requires c = record { ascend = subst Ascend (sym c.requires.pending) (pending_ascends c.args.consumer.now c.requires.ascending) }
