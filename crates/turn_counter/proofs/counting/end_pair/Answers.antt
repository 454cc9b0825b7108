use Rattle.std.proofs.Common.{◌∙◌}
use Rattle.turn_counter.proofs.Tally.{joined_count, all_left}
use Rattle.turn_counter.proofs.counting.end_pair.Goals as goal

pub returns : goal.returns
returns c = record { count = all_left c.join-seat.result _ c.close.ensures.whole c.close.ensures.stands ∙ joined_count c.args.first c.args.second c.join-seat.result c.join-seat.ensures.joined }
