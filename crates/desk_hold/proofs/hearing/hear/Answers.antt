use Rattle.std.proofs.Common.{sym, ◌∙◌}
use Rattle.desk_hold.proofs.Listeners.{named, not_told}
use Rattle.desk_hold.proofs.hearing.hear.Goals as goal

pub returns-in-Ok : goal.returns-in-Ok
returns-in-Ok g c =
    let R = g.R.Port in let state = (g.P.Place.seen c.args.place.now).place.state in
    record {
      hears = named R.routes R.worn state c.as_slice.result.now (c.as_slice.ensures.value ∙ c.in_ok-pushes.ensures.ok) c.listening.result c.as_slice-in-Ok.result.now c.in-Ok.told c.as_slice-in-Ok-2.result.now
          c.args.port.now c.hear.new.self (c.as_slice-in-Ok.ensures.value ∙ sym c.as_slice.ensures.value) c.as_slice-in-Ok-2.ensures c.in-Ok.ensures.hears c.listening.ensures.ok c.listening.ensures.err;
    }

pub returns : goal.returns
returns g c =
    let R = g.R.Port in let state = (g.P.Place.seen c.args.place.now).place.state in
    record {
      hears = not_told R.routes R.worn state c.as_slice.result.now (c.as_slice.ensures.value ∙ c.in_ok-pushes.ensures.ok) c.in-Err.fault c.args.port.now c.hear.new.self c.in-Err.ensures.hears;
    }
