use Rattle.std.proofs.Common.{◌<◌, length, IsUtf8, sym, ◌∙◌, subst, arith}
use Rattle.js_json.proofs.object_builder.text_values.Goals as goal

pub text_value-requires : goal.text_value-requires
text_value-requires c =
    let within : c.loop-text.text-index < length c.args.list.now = omega arith in
    record { utf8 = subst IsUtf8 (sym (c.as_slice.ensures ∙ c.text-item.is)) (c.requires.utf8 c.loop-text.text-index c.text-item.result within) }
