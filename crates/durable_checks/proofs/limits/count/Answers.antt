use Rattle.std.proofs.Common.{ℕ, ◌+◌, Option, cond, ap, ◌∙◌}
use Rattle.std.specs.Prelude.{unwrap_or}
use Rattle.std.specs.BTreeMap.{get_by}
use Rattle.std.specs.Cmp.Lexicographic.{slice_cmp}
use Rattle.std.specs.Ordering.{nat_cmp}
use Rattle.std.proofs.lemmas.Map.Text.{btree_map_updates_str}
use Rattle.js_base.specs.Bytes.{same}
use Rattle.durable_checks.specs.Limits.{count_in}
use Rattle.durable_checks.proofs.Newest.{set_count}
use Rattle.durable_checks.proofs.limits.count.Goals as goal

pub returns-clause-counted : goal.returns-clause-counted
returns-clause-counted c = λ is_few other.
    let subject = c.args.subject.now in
    let counts = c.args.counts.now in
    let before = c.unwrap_or-before.result in
    let is = c.unwrap_or-before.ensures ∙ ap (λ (o : Option ℕ). unwrap_or o 0) (c.copied.ensures ∙ c.get.ensures.value) in
    ap (λ (o : Option ℕ). unwrap_or o 0) (btree_map_updates_str subject counts c.insert.new.self _ c.in_ok-insert.ensures.updates other)
    ∙ set_count (same subject other) (before + 1) (get_by (λ k. slice_cmp nat_cmp other k.now) counts)
    ∙ ap (λ (n : ℕ). cond (same subject other) (n + 1) (count_in counts other)) is
