use Rattle.std.proofs.Common.{◌≡◌, drop}
use Rattle.std.specs.List.{All}
use Rattle.serde_json.specs.View.{view, items_view}
use Rattle.js_json.specs.Kinds.{as_wholes, as_whole, FitsWord}
use Rattle.js_json.specs.Kinds.{all_as}
use Rattle.js_json.proofs.Items.{behind}
use Rattle.js_json.proofs.kinds.all_wholes.Given as goal

-- what is taken of all the items is what was taken so far, and then what is taken of the rest
abbrev pub invariant-loop-item : goal.invariant-loop-item
invariant-loop-item l = record {
  taken : as_wholes (view l.value) ≡ behind l.numbers (all_as as_whole (items_view (drop l.item-index l.item-items)));
  each : All FitsWord l.numbers;
}
