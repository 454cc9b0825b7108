use Rattle.std.proofs.Common.{refl}
use Rattle.desk_hold.proofs.Sent.{none_tried, none_left, all_tried, next_taken, next_short, next_worn}
use Rattle.desk_hold.proofs.sending.send_all.Goals as goal
use Rattle.desk_hold.proofs.sending.send_all.Goals.{in-Ok, in-Err-NoMemory}

pub returns : goal.returns
returns g c = record { sends = all_tried g.R.Port.routes g.R.Port.worn _ _ _ _ _ c.loop-out.invariant (none_left _ _ c.loop-out-test.false) }

pub returns-in-Err-Worn : goal.returns-in-Err-Worn
returns-in-Err-Worn g c = record {
  sends = next_worn g.R.Port.routes g.R.Port.worn _ _ _ _ _ _ _ _ _ _ _ c.loop-out.invariant c.loop-out-test.true c.out-item.is c.send.ensures.sends c.in-Err-Worn.is c.in-Err-Worn.field-0-is
      c.in-Err-Worn.number-is;
}

pub loop-out-init : goal.loop-out-init
loop-out-init g c = none_tried g.R.Port.routes g.R.Port.worn _ _ _ refl

pub loop-out-preserved : goal.loop-out-preserved
loop-out-preserved g c =
    elim c.match-send.branch [
      | in-Ok w ↦
          next_taken g.R.Port.routes g.R.Port.worn _ _ _ _ _ _ _ _ _ _ c.loop-out.invariant c.loop-out-test.true c.out-item.is c.send.ensures.sends w.in-Ok.is w.sent-is
      | in-Err-NoMemory w ↦
          next_short g.R.Port.routes g.R.Port.worn _ _ _ _ _ _ _ _ _ _ c.loop-out.invariant c.loop-out-test.true c.out-item.is c.send.ensures.sends w.in-Err-NoMemory.is
          w.in-Err-NoMemory.field-0-is w.sent-is
    ]
