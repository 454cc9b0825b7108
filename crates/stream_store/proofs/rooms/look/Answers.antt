use Rattle.std.proofs.Common.{arith}
use Rattle.vol_disk.proofs.Moments.{quiet_then}
use Rattle.stream_store.proofs.Known.{looked}
use Rattle.stream_store.proofs.rooms.look.Goals as goal

pub returns-in_err-one-clause-quiet : goal.returns-in_err-one-clause-quiet
returns-in_err-one-clause-quiet g c = λ told.
    quiet_then (g.V.Vol.disk c.args.vol.now) (g.V.Vol.disk c.file_len.new.vol) (g.V.Vol.disk c.file_len-2.new.vol) (c.file_len.ensures.quiet told) (c.file_len-2.ensures.quiet told)

pub returns-clause-quiet : goal.returns-clause-quiet
returns-clause-quiet g c = λ told.
    quiet_then (g.V.Vol.disk c.args.vol.now) (g.V.Vol.disk c.file_len.new.vol) (g.V.Vol.disk c.file_len-2.new.vol) (c.file_len.ensures.quiet told) (c.file_len-2.ensures.quiet told)

pub returns-clause-rooms : goal.returns-clause-rooms
returns-clause-rooms g c = λ told.
    looked (g.V.Vol.disk c.args.vol.now) (g.V.Vol.disk c.file_len.new.vol) (g.V.Vol.disk c.file_len-2.new.vol) c.in_ok-zero.zero c.in_ok-one.one c.min.result c.min-2.result (c.file_len.ensures.quiet told) (c.file_len-2.ensures.quiet told)
    (c.in_ok-zero.ensures.value told) (c.in_ok-one.ensures.value told) (omega (arith, c.min.ensures)) (omega (arith, c.min-2.ensures))

pub returns-clause-short : goal.returns-clause-short
returns-clause-short g c = record { zero = omega (arith, c.min.ensures); one = omega (arith, c.min-2.ensures) }
