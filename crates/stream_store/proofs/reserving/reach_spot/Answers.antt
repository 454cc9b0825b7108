use Rattle.stream_store.proofs.Known.{bases_then, keeps_then, longer_quiet, quiet_keeps, quiet_leaves}
use Rattle.stream_store.proofs.Lengthening.{file_base, file_leaves}
use Rattle.stream_store.proofs.reserving.reach_spot.Goals as goal

pub returns-in_err-len-clause-any_moment : goal.returns-in_err-len-clause-any_moment
returns-in_err-len-clause-any_moment g c = λ told. quiet_leaves (g.V.Vol.disk c.args.vol.now) (g.V.Vol.disk c.file_len.new.vol) (c.file_len.ensures.quiet told)

-- ---- it is so long already

pub returns-then-end-len-clause-any_moment : goal.returns-then-end-len-clause-any_moment
returns-then-end-len-clause-any_moment g c = λ told. quiet_leaves (g.V.Vol.disk c.args.vol.now) (g.V.Vol.disk c.file_len.new.vol) (c.file_len.ensures.quiet told)

pub returns-then-end-len-clause-keeps : goal.returns-then-end-len-clause-keeps
returns-then-end-len-clause-keeps g c = λ told. quiet_keeps (g.V.Vol.disk c.args.vol.now) (g.V.Vol.disk c.file_len.new.vol) (c.file_len.ensures.quiet told)

pub returns-then-end-len-clause-longer : goal.returns-then-end-len-clause-longer
returns-then-end-len-clause-longer g c = λ told. longer_quiet (g.V.Vol.disk c.args.vol.now) (g.V.Vol.disk c.file_len.new.vol) (c.file_len.ensures.quiet told)

-- ---- room is asked for

pub returns-in_err-room-clause-any_moment : goal.returns-in_err-room-clause-any_moment
returns-in_err-room-clause-any_moment g c = λ told.
    let old = g.V.Vol.disk c.args.vol.now in
    let mid = g.V.Vol.disk c.file_len.new.vol in
    let new = g.V.Vol.disk c.make_room.new.vol in
    let still = c.file_len.ensures.quiet told in
    let high = c.requires.spot.behind_logs in
    let extends = c.make_room.ensures.extends told in
    bases_then old mid new (quiet_leaves old mid still) (quiet_keeps old mid still) (λ log b base is. file_leaves c.args.spot.file high c.block_len-longer.result mid new extends log b base is)

pub returns-then-eq-clause-any_moment : goal.returns-then-eq-clause-any_moment
returns-then-eq-clause-any_moment g c = λ told.
    let old = g.V.Vol.disk c.args.vol.now in
    let mid = g.V.Vol.disk c.file_len.new.vol in
    let new = g.V.Vol.disk c.make_room.new.vol in
    let still = c.file_len.ensures.quiet told in
    let high = c.requires.spot.behind_logs in
    let extends = c.make_room.ensures.extends told in
    bases_then old mid new (quiet_leaves old mid still) (quiet_keeps old mid still) (λ log b base is. file_leaves c.args.spot.file high c.block_len-longer.result mid new extends log b base is)

pub returns-then-eq-clause-keeps : goal.returns-then-eq-clause-keeps
returns-then-eq-clause-keeps g c = λ told.
    let old = g.V.Vol.disk c.args.vol.now in
    let mid = g.V.Vol.disk c.file_len.new.vol in
    let new = g.V.Vol.disk c.make_room.new.vol in
    let still = c.file_len.ensures.quiet told in
    let high = c.requires.spot.behind_logs in
    let extends = c.make_room.ensures.extends told in
    keeps_then old mid new (quiet_keeps old mid still) (λ log b base is. file_base c.args.spot.file high c.block_len-longer.result mid new extends log b base is (c.in_ok-room.ensures.seen told))

pub returns-in_err-reached-clause-any_moment : goal.returns-in_err-reached-clause-any_moment
returns-in_err-reached-clause-any_moment g c = λ told.
    let old = g.V.Vol.disk c.args.vol.now in
    let mid = g.V.Vol.disk c.file_len.new.vol in
    let new = g.V.Vol.disk c.make_room.new.vol in
    let still = c.file_len.ensures.quiet told in
    let high = c.requires.spot.behind_logs in
    let extends = c.make_room.ensures.extends told in
    let last = g.V.Vol.disk c.file_len-2.new.vol in
    let again = c.file_len-2.ensures.quiet told in
    bases_then old new last (bases_then old mid new (quiet_leaves old mid still) (quiet_keeps old mid still) (λ log b base is. file_leaves c.args.spot.file high c.block_len-longer.result mid new extends log b base is)) (keeps_then old mid new (quiet_keeps old mid still) (λ log b base is. file_base c.args.spot.file high c.block_len-longer.result mid new extends log b base is (c.in_ok-room.ensures.seen told))) (quiet_leaves new last again)

pub returns-clause-any_moment : goal.returns-clause-any_moment
returns-clause-any_moment g c = λ told.
    let old = g.V.Vol.disk c.args.vol.now in
    let mid = g.V.Vol.disk c.file_len.new.vol in
    let new = g.V.Vol.disk c.make_room.new.vol in
    let still = c.file_len.ensures.quiet told in
    let high = c.requires.spot.behind_logs in
    let extends = c.make_room.ensures.extends told in
    let last = g.V.Vol.disk c.file_len-2.new.vol in
    let again = c.file_len-2.ensures.quiet told in
    bases_then old new last (bases_then old mid new (quiet_leaves old mid still) (quiet_keeps old mid still) (λ log b base is. file_leaves c.args.spot.file high c.block_len-longer.result mid new extends log b base is)) (keeps_then old mid new (quiet_keeps old mid still) (λ log b base is. file_base c.args.spot.file high c.block_len-longer.result mid new extends log b base is (c.in_ok-room.ensures.seen told))) (quiet_leaves new last again)

pub returns-clause-keeps : goal.returns-clause-keeps
returns-clause-keeps g c = λ told.
    let old = g.V.Vol.disk c.args.vol.now in
    let mid = g.V.Vol.disk c.file_len.new.vol in
    let new = g.V.Vol.disk c.make_room.new.vol in
    let still = c.file_len.ensures.quiet told in
    let high = c.requires.spot.behind_logs in
    let extends = c.make_room.ensures.extends told in
    let last = g.V.Vol.disk c.file_len-2.new.vol in
    let again = c.file_len-2.ensures.quiet told in
    keeps_then old new last (keeps_then old mid new (quiet_keeps old mid still) (λ log b base is. file_base c.args.spot.file high c.block_len-longer.result mid new extends log b base is (c.in_ok-room.ensures.seen told))) (quiet_keeps new last again)
