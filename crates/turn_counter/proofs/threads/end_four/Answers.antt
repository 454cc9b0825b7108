use Rattle.std.proofs.Common.{◌≡◌, arith}
use Rattle.turn_counter.specs.Counting.{left_by}
use Rattle.turn_counter.proofs.Tally.{joined_count, all_left}
use Rattle.turn_counter.proofs.threads.end_four.Goals as goal

pub returns : goal.returns
returns c =
    let all : c.close.result.count ≡ left_by c.join-seat.result = all_left c.join-seat.result _ c.close.ensures.whole c.close.ensures.stands in
    let both = joined_count c.join-left.result c.join-right.result c.join-seat.result c.join-seat.ensures.joined in
    let left = joined_count c.args.left.0 c.args.left.1 c.join-left.result c.join-left.ensures.joined in
    let right = joined_count c.args.right.0 c.args.right.1 c.join-right.result c.join-right.ensures.joined in
    record { count = omega arith }
