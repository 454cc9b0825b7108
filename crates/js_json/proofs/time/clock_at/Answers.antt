use Rattle.std.proofs.Common.{w8, w32, sym, ◌∙◌, to_z}
use Rattle.std.proofs.lemmas.Result.{IfOk-at_ok}
use Rattle.jiff.specs.Words.{IsHms}
use Rattle.js_json.proofs.ReadParts.{ok_of, casted, duration_fits, clock-read}
use Rattle.js_json.proofs.time.clock_at.Goals as goal

pub returns-clause-value : goal.returns-clause-value
returns-clause-value c =
    let is = IfOk-at_ok (IsHms (to_z w8 c.in_ok-hour.hour) (to_z w8 c.in_ok-minute.minute) (to_z w8 c.in_ok-second.second) (to_z w32 c.in_ok-nanos.nanos)) (ok_of c.new.result c.in_ok-time.time (sym c.ok.ensures.value ∙ c.in_ok-time.was)) c.new.ensures.value in
    clock-read c.args.text.now (c.in_ok-hour.hour, c.in_ok-hour.rest.now) (c.in_ok-minute.minute, c.in_ok-minute.rest.now) (c.in_ok-second.second, c.in_ok-second.rest.now) (c.in_ok-nanos.nanos, c.in_ok-nanos.rest.now) c.in_ok-time.time c.midnight.result (casted c.as_nanos.result)
    c.in_ok-hour.ensures.value c.in_ok-minute.ensures.value c.in_ok-second.ensures.value c.in_ok-nanos.ensures.value c.in_ok-hour.ensures.small c.in_ok-minute.ensures.small c.in_ok-second.ensures.small c.in_ok-nanos.ensures.small is c.midnight.ensures (duration_fits c.as_nanos.result c.as_nanos.ensures.bound ∙ c.as_nanos.ensures.value ∙ c.duration_since.ensures)
