use Rattle.std.proofs.Common.{◌∙◌, ◌+◌, ap, cond}
use Rattle.std.specs.Option.{is_some}
use Rattle.route_index.specs.Names.{count_in}
use Rattle.route_index.proofs.Naming.{sets_here}
use Rattle.route_index.proofs.identifiers.Identifiers.put.Goals as goal

pub returns-clause-ok : goal.returns-clause-ok
returns-clause-ok c = record {
  sets = sets_here _ _ _ _ c.in_ok-insert.ensures.updates;
  count = c.in_ok-insert.ensures.len ∙ ap (λ o. count_in c.args.self.now + cond (is_some o) 0 1) (c.in_ok-insert.ensures.old ∙ c.requires.absent);
}
