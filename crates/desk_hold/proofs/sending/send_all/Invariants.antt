use Rattle.std.proofs.Common.{drop}
use Rattle.desk_hold.proofs.Sent.{Tried}
use Rattle.desk_hold.proofs.sending.send_all.Given as goal

-- the outputs so far were tried
abbrev pub invariant-loop-out : goal.invariant-loop-out
invariant-loop-out g l = Tried g.R.Port.routes g.R.Port.worn l.outs (drop l.out-index l.outs) l.sent l.fn.port l.port
