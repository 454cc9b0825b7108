use Rattle.std.proofs.Common.{◌∙◌}
use Rattle.subject_match.proofs.Dots.{meets_at_end, meets_too_few}
use Rattle.subject_match.proofs.matching.overlaps.Goals as goal

pub returns-in_default-second : goal.returns-in_default-second
returns-in_default-second c = record { value = meets_too_few _ _ _ c.in-Some.is c.in_default-second.is ∙ c.loop-first.invariant }

pub returns : goal.returns
returns c = record { value = meets_at_end _ _ _ c.in_default.is c.is_none-2.ensures ∙ c.loop-first.invariant }
