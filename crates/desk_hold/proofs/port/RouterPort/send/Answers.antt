use Rattle.desk_hold.proofs.Refused.{send_short}
use Rattle.desk_hold.proofs.port.RouterPort.send.Goals as goal

pub returns-in-Err : goal.returns-in-Err
returns-in-Err c = record { sends = send_short _ _ _ c.in-Err.field-0 c.in-Err.ensures.routes }
