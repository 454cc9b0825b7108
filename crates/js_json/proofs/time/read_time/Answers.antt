use Rattle.std.proofs.Common.{◌∙◌, ap}
use Rattle.js_json.specs.Civil.{moment_if}
use Rattle.js_json.proofs.ReadParts.{three_fit, sum_fits, time-read}
use Rattle.js_json.proofs.time.read_time.Goals as goal

pub returns : goal.returns
returns c =
    let shows = time-read c.args.text.now c.in_ok-rest.rest.now (c.in_ok-day.day, c.in_ok-day.rest.now) (c.in_ok-clock.clock, c.in_ok-clock.rest.now) c.in_ok-ahead.ahead
    c.in_ok-day.ensures.value c.in_ok-rest.ensures.value c.in_ok-clock.ensures.value c.in_ok-ahead.ensures.value in
    let sum = sum_fits c.in_ok-day.day c.in_ok-clock.clock c.in_ok-ahead.ahead c.in_ok-day.ensures.small c.in_ok-clock.ensures.small c.in_ok-ahead.ensures.small in
    record { value = c.moment_if.ensures.value ∙ ap moment_if sum ∙ shows }

pub overflow_sub-day : goal.overflow_sub-day
overflow_sub-day c = three_fit c.in_ok-day.day c.in_ok-clock.clock c.in_ok-ahead.ahead c.in_ok-day.ensures.small c.in_ok-clock.ensures.small c.in_ok-ahead.ensures.small
