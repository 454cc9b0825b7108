use Rattle.std.proofs.Common.{◌-◌, vec_len}
use Rattle.stored_stream.specs.declared.selector.Selector.TheVariants.{All}
use Rattle.stored_stream.specs.Selecting.{is_named}
use Rattle.stored_stream.proofs.Gathering.{Gathers}
use Rattle.stored_stream.proofs.purging.first_stored.Given as goal

abbrev pub invariant-loop-below : goal.invariant-loop-below
invariant-loop-below l = Gathers (is_named All l.below) l.stream.messages l.most l.from l.gone.items

abbrev pub decreases-loop-below : goal.decreases-loop-below
decreases-loop-below l = l.most - vec_len l.gone
