use Rattle.std.proofs.Common.{w8, w16, sym, ◌∙◌, to_z}
use Rattle.std.proofs.lemmas.Result.{IfOk-at_ok}
use Rattle.jiff.specs.Words.{IsYmd}
use Rattle.js_json.proofs.ReadParts.{ok_of, casted, fits, day-read}
use Rattle.js_json.proofs.time.day_at.Goals as goal

pub returns-clause-value : goal.returns-clause-value
returns-clause-value c =
    let is = IfOk-at_ok (IsYmd (to_z w16 c.in_ok-year.year) (to_z w8 c.in_ok-month.month) (to_z w8 c.in_ok-day.day)) (ok_of c.new.result c.in_ok-date.date (sym c.ok.ensures.value ∙ c.in_ok-date.was)) c.new.ensures.value in
    day-read c.args.text.now (c.in_ok-year.year, c.in_ok-year.rest.now) (c.in_ok-month.month, c.in_ok-month.rest.now) (c.in_ok-day.day, c.in_ok-day.rest.now) c.in_ok-date.date (casted c.nanos_to.result)
    c.in_ok-year.ensures.value c.in_ok-month.ensures.value c.in_ok-day.ensures.value c.in_ok-year.ensures.small c.in_ok-month.ensures.small c.in_ok-day.ensures.small is (fits c.nanos_to.result c.nanos_to.ensures.small ∙ c.nanos_to.ensures.value)
