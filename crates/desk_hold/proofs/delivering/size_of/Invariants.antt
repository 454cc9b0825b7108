use Rattle.std.proofs.Common.{◌≡◌, ◌-◌, ◌^◌, sum_by, take}
use Rattle.std.specs.Prelude.{min}
use Rattle.js_api.specs.Holding.{bytes_of}
use Rattle.desk_hold.proofs.delivering.size_of.Given as goal

-- the bytes of the messages so far
abbrev pub invariant-loop-out : goal.invariant-loop-out
invariant-loop-out l = l.size ≡ min (sum_by bytes_of (take l.out-index l.outs)) (2 ^ 64 - 1)
