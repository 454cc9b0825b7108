use Rattle.std.proofs.Common.{rules, Some, ap, ◌∙◌, ◌||◌, ◌==◌}
use Rattle.std.specs.List.{list_any}
use Rattle.std.specs.Ordering.{nat_cmp}
use Rattle.std.specs.BTreeMap.{is_at}
use Rattle.route_index.specs.Ids.{is_in}
use Rattle.route_index.proofs.Under.{on_ok, on_err}
use Rattle.route_index.proofs.AtNodes.{adds_at, keeps_at}
use Rattle.route_index.proofs.node_ids.put_at.Goals as goal

pub returns-in-Some-clause-ok : goal.returns-in-Some-clause-ok
returns-in-Some-clause-ok c =
    let updates = (c.get_mut.follows.holds c.put_in_set.new.set).3 (search rules) in
    on_ok c.put_in_set.result
    (λ adds. adds_at c.args.ids.now (c.get_mut.follows.lender c.put_in_set.new.set) c.args.node c.args.id (Some c.put_in_set.new.set) (record { at = updates.0 })
    (λ n. adds.at n ∙ ap (λ o. is_in o n || c.args.id == n) c.in-Some.ensures.value))
    c.put_in_set.ensures.ok

pub returns-in-Some-clause-err : goal.returns-in-Some-clause-err
returns-in-Some-clause-err c =
    let updates = (c.get_mut.follows.holds c.put_in_set.new.set).3 (search rules) in
    on_err c.put_in_set.result
    (λ keys. keeps_at c.args.ids.now (c.get_mut.follows.lender c.put_in_set.new.set) c.args.node (Some c.put_in_set.new.set) (record { at = updates.0 })
    (λ n. ap (λ ks. list_any (is_at (nat_cmp n)) ks) keys ∙ ap (λ o. is_in o n) c.in-Some.ensures.value))
    c.put_in_set.ensures.err
