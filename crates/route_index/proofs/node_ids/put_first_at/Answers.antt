use Rattle.std.proofs.Common.{Some, ap, ◌∙◌, ◌||◌, ◌==◌, sym}
use Rattle.std.specs.List.{list_any}
use Rattle.std.specs.Ordering.{nat_cmp}
use Rattle.std.specs.BTreeMap.{is_at}
use Rattle.route_index.specs.Ids.{is_in}
use Rattle.route_index.proofs.AtNodes.{adds_at}
use Rattle.route_index.proofs.node_ids.put_first_at.Goals as goal

pub returns-clause-ok : goal.returns-clause-ok
returns-clause-ok c =
    adds_at c.args.ids.now c.insert.new.self c.args.node c.args.id (Some c.put_in_set.new.set) (record { at = c.in_ok-insert.ensures.updates.0 })
    (λ n. c.in_ok-put_in_set.ensures.ok.at n ∙ ap (λ ks. list_any (is_at (nat_cmp n)) ks || c.args.id == n) c.new-set.ensures.empty ∙ sym (ap (λ o. is_in o n || c.args.id == n) c.requires))
