use Rattle.std.proofs.Common.{◌≡◌, Some, ap, sym, ◌∙◌, neg_ℤ, option_map}
use Rattle.js_json.specs.TimeReading.{zone_at}
use Rattle.js_json.specs.Civil.{shift}
use Rattle.js_json.proofs.ReadParts.{behind-read, negated}
use Rattle.js_json.proofs.time.zone_at.Goals as goal

pub returns-in_err-distance_at-in-45-clause-value : goal.returns-in_err-distance_at-in-45-clause-value
returns-in_err-distance_at-in-45-clause-value c =
    c.from_residual-in_err-distance_at-in-45.ensures ∙ ap (option_map neg_ℤ) c.in_err-distance_at-in-45.ensures.value
    ∙ sym (behind-read c.args.text.now c.in_ok-side.rest.now c.in_ok-side.side.now c.in_ok-side.ensures.cases.0 c.in-45.is)

pub returns-in_ok-distance_at-in-45-clause-value : goal.returns-in_ok-distance_at-in-45-clause-value
returns-in_ok-distance_at-in-45-clause-value c =
    let shows : Some (neg_ℤ c.in_ok-distance_at-in-45.field-0) ≡ option_map shift (zone_at c.args.text.now) =
    ap (option_map neg_ℤ) c.in_ok-distance_at-in-45.ensures.value ∙ sym (behind-read c.args.text.now c.in_ok-side.rest.now c.in_ok-side.side.now c.in_ok-side.ensures.cases.0 c.in-45.is) in
    ap Some (negated c.in_ok-distance_at-in-45.field-0 c.in_ok-distance_at-in-45.ensures.small) ∙ shows
