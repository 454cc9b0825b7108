use Rattle.std.proofs.Common.{subst}
use Rattle.catalog.specs.Apart.{IsApart}
use Rattle.catalog.proofs.catalog.Catalog.apart.Goals as goal

pub returns : goal.returns
returns c = record { apart = subst IsApart c.self.view_is c.self.invariant.apart }
