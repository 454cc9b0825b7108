use Rattle.std.proofs.Common.{get_or, arith}
use Rattle.std.proofs.lemmas.List.{get_or_default}
use Rattle.std.proofs.lemmas.List.Edits.{map_over_more}
use Rattle.followed_stream.specs.Followers.{losing, Following}
use Rattle.followed_stream.proofs.follower.lose_all.Goals as goal

pub loop-follower-preserved : goal.loop-follower-preserved
loop-follower-preserved c =
    let i = c.loop-follower.follower-index in
    let here : Following = get_or c.loop-follower.followers i c.follower-item.result in
    rw c.lose.ensures.value
    (map_over_more (losing c.args.subject.now c.args.seq) c.args.followers.now c.loop-follower.followers i here (omega arith) c.loop-follower.invariant (get_or_default c.loop-follower.followers i c.follower-item.result here (omega arith)))
