use Rattle.std.proofs.Common.{◌≡◌, true, false, Option, is_some, ap, ◌∙◌}
use Rattle.js_base.specs.declared.spot.Spot.{Spot}
use Rattle.state_snapshot.proofs.writing.stored.Goals as goal

pub unreachable-requires : goal.unreachable-requires
unreachable-requires c = let none : false ≡ true = ap (λ (o : Option Spot). is_some o) c.in_default.ensures ∙ c.requires.placed in cc
