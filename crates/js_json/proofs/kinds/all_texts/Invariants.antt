use Rattle.std.proofs.Common.{◌≡◌, drop}
use Rattle.std.specs.List.{All}
use Rattle.serde_json.specs.View.{view, items_view}
use Rattle.std.proofs.Common.{IsUtf8}
use Rattle.serde_json.specs.Find.{as_str}
use Rattle.js_json.specs.Kinds.{as_texts}
use Rattle.js_json.specs.Kinds.{all_as}
use Rattle.js_json.proofs.Items.{behind}
use Rattle.js_json.proofs.kinds.all_texts.Given as goal

-- what is taken of all the items is what was taken so far, and then what is taken of the rest
abbrev pub invariant-loop-item : goal.invariant-loop-item
invariant-loop-item l = record {
  taken : as_texts (view l.value) ≡ behind l.texts (all_as as_str (items_view (drop l.item-index l.item-items)));
  each : All IsUtf8 l.texts;
}
