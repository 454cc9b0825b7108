use Rattle.std.proofs.Common.{arith, ap, length}
use Rattle.route_index.proofs.Naming.{sets_here}
use Rattle.route_index.proofs.identifiers.Identifiers.pop.Goals as goal

pub returns-clause-some : goal.returns-clause-some
returns-clause-some c = record {
  text = c.in_ok-number.field-0-0.items;
  was = c.in_ok-number.ensures.value;
  removes = record { sets = sets_here _ _ _ _ c.in_ok-number.ensures.updates; count = omega (arith, ap length c.in_ok-number.ensures.removal) };
}
