use Rattle.std.proofs.Common.{sym, ◌∙◌}
use Rattle.std.proofs.lemmas.Bool.{true≢false}
use Rattle.volume_place.proofs.Committed.{left_full, tells_long}
use Rattle.volume_place.proofs.committing.goes_on.Goals as goal

pub returns-then-has_log_room-clause-value : goal.returns-then-has_log_room-clause-value
returns-then-has_log_room-clause-value c =
    tells_long c.args.store.now c.args.count c.args.bound c.has_log_room.result c.is_long.result c.if-has_log_room.true c.has_log_room.ensures.value c.is_long.ensures.value

pub returns-then-has_log_room-clause-room : goal.returns-then-has_log_room-clause-room
returns-then-has_log_room-clause-room c = λ so. c.has_log_room.ensures.value.0 c.if-has_log_room.true

pub returns-else-has_log_room-clause-value : goal.returns-else-has_log_room-clause-value
returns-else-has_log_room-clause-value c = rw c.if-has_log_room.false (left_full c.args.store.now c.args.count c.args.bound c.has_log_room.result c.if-has_log_room.false c.has_log_room.ensures.value)

pub returns-else-has_log_room-clause-room : goal.returns-else-has_log_room-clause-room
returns-else-has_log_room-clause-room c = λ so. absurd (true≢false (sym so ∙ c.if-has_log_room.false))
