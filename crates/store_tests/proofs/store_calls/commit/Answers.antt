use Rattle.std.proofs.Common.{arith}
use Rattle.store_tests.proofs.store_calls.commit.Goals as goal

pub commit-requires-clause-log_room : goal.commit-requires-clause-log_room
commit-requires-clause-log_room c =
    let has = c.has_log_room.ensures.value.0 c.if-not-has_log_room.false in
    omega (arith, has, c.in_ok-count.ensures.most)
