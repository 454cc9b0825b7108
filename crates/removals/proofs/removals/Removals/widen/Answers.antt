use Rattle.std.proofs.Common.{true, ◌∷◌, [], ◌++◌, ap, sym, ◌∙◌}
use Rattle.effects.specs.Ranges.{Range}
use Rattle.removals.specs.Removed.{noted}
use Rattle.removals.proofs.Noting.{noted_joined}
use Rattle.removals.proofs.removals.Removals.widen.Goals as goal

pub returns-clause-ranges : goal.returns-clause-ranges
returns-clause-ranges c =
    rw (← c.self.view_is)
    (c.push_reserved.ensures.items
    ∙ ap (λ (r : Range). c.pop.new.self.items ++ record { low = r.low; high = c.args.seq } ∷ []) c.last.view_is
    ∙ sym (ap (noted c.args.seq true) c.in-Some.ensures.items ∙ noted_joined c.args.seq c.in-Some.last c.pop.new.self.items))
