use Rattle.std.proofs.Common.{◌≡◌, ◌<◌, ◌^◌, ℕ, ℤ, Bool, Option, Some, pos, FitsSigned, to_z, of_z, ap, ◌∙◌, arith}
use Rattle.std.specs.Int.{w128}
use Rattle.std.proofs.lemmas.Int.{to_z-of_z}
use Rattle.std.proofs.lemmas.Result.{IfOk-at_ok, IfOk-weaker}
use Rattle.jiff.specs.Types.{Timestamp}
use Rattle.jiff.proofs.SpanFacts.{signed_arith}
use Rattle.js_json.specs.Times.{time_text}
use Rattle.js_json.proofs.Printing.{printed-is}
use Rattle.js_json.proofs.time.time_text.Goals as goal

pub returns : goal.returns
returns c =
    let given : c.from.result ≡ pos c.args.at = c.from.ensures ∙ ap pos c.as_nanos.ensures.value in
    let small : c.args.at < 2 ^ 62 = omega (arith, c.as_nanos.ensures.value, c.as_nanos.ensures.bound) in
    let fits : FitsSigned w128 (pos c.args.at) = omega (arith, signed_arith) in
    let same : to_z w128 (of_z w128 c.from.result) ≡ pos c.args.at = ap (λ (z : ℤ). to_z w128 (of_z w128 z)) given ∙ to_z-of_z w128 (pos c.args.at) fits in
    let instant = IfOk-at_ok (λ t. t.nanosecond ≡ to_z w128 (of_z w128 c.from.result)) c.unwrap-instant.ensures c.from_nanosecond.ensures.value in
    let at = ap (λ (t : Timestamp). t.nanosecond) c.to_plain.ensures ∙ instant ∙ same in
    let options = c.precision.ensures ∙ ap (λ (o : Bool × ℕ × Option ℕ). (o.0, o.1, Some 9)) c.new.ensures in
    let text = c.as_bytes.ensures.value ∙ c.as_str.ensures.value ∙ printed-is c.precision.result c.to_plain.result c.timestamp_text-text.result.bytes c.args.at options c.timestamp_text-text.ensures at small in
    record { text = IfOk-weaker c.of.result (λ blob. blob ≡ c.as_bytes.result.now) (λ blob. blob ≡ time_text c.args.at) (λ blob is. is ∙ text) c.of.ensures }
