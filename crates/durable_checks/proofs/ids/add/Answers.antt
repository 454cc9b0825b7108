use Rattle.std.proofs.Common.{ap, ◌∙◌}
use Rattle.std.specs.Prelude.{is_some}
use Rattle.std.specs.BTreeMap.{get_by}
use Rattle.std.specs.Cmp.Lexicographic.{slice_cmp}
use Rattle.std.specs.Ordering.{nat_cmp}
use Rattle.std.proofs.lemmas.Map.Text.{btree_map_updates_str}
use Rattle.js_base.specs.Bytes.{same}
use Rattle.durable_checks.proofs.Different.{set_there}
use Rattle.durable_checks.proofs.ids.add.Goals as goal

pub returns-clause-added : goal.returns-clause-added
returns-clause-added c = λ is_new other.
    let text = c.args.text.now in
    let known = c.args.known.now in
    ap is_some (btree_map_updates_str text known c.insert.new.self _ c.in_ok-insert.ensures.updates other) ∙ set_there (same text other) c.args.seq (get_by (λ k. slice_cmp nat_cmp other k.now) known)
