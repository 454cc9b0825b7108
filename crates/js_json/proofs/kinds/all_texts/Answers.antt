use Rattle.std.proofs.Common.{IsUtf8, sym, subst, arith}
use Rattle.std.proofs.lemmas.Grind.{common_steps}
use Rattle.std.proofs.lemmas.List.Elements.{All-push, All-same}
use Rattle.js_json.proofs.kinds.all_texts.Goals as goal

pub loop-item-preserved : goal.loop-item-preserved
loop-item-preserved c =
    let text = subst IsUtf8 (sym c.in_ok-of-in-Some-as_str.ensures) c.as_bytes.ensures.utf8 in
    record {
      taken = grind (arith, common_steps);
      each = All-same IsUtf8 _ _ c.in_ok-push-in-Some-as_str.ensures.ok (All-push IsUtf8 c.loop-item.texts c.in_ok-of-in-Some-as_str.field-0 c.loop-item.invariant.each text);
    }
