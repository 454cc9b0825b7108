use Rattle.hub_place.proofs.Sending.{short_called}
use Rattle.hub_place.proofs.port.RouterPortPort.send.Goals as goal

pub returns-in-Err : goal.returns-in-Err
returns-in-Err g c = record { sends = short_called c.args.out.now c.in_ok-told.told c.in-Err.field-0 c.args.self.now c.call.new.self c.in-Err.is c.in_ok-told.ensures.called }
