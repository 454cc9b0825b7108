use Rattle.std.proofs.Common.{◌≡◌, ℕ, ◌<◌, ◌^◌, IsUtf8, sym, ◌∙◌, subst}
use Rattle.js_json.specs.Times.{time_text}
use Rattle.js_json.proofs.TimeBytes.{spelled_utf8}
use Rattle.js_json.proofs.object_builder.ObjectBuilder.time.Goals as goal

pub text-requires : goal.text-requires
text-requires c =
    let same : c.as_slice.result.now ≡ time_text c.args.at = c.as_slice.ensures ∙ c.in_ok-text.ensures.text in
    let small = subst (λ (n : ℕ). n < 2 ^ 62) c.as_nanos.ensures.value c.as_nanos.ensures.bound in
    record { utf8 = subst IsUtf8 (sym same) (spelled_utf8 (time_text c.args.at) c.args.at (c.law_time_text.ensures.text c.args.at small)) }
