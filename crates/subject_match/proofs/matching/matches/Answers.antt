use Rattle.std.proofs.Common.{◌∙◌}
use Rattle.subject_match.proofs.Dots.{matches_at_end, matches_too_few}
use Rattle.subject_match.proofs.matching.matches.Goals as goal

pub returns-in_default-given : goal.returns-in_default-given
returns-in_default-given c = record { value = matches_too_few _ _ _ c.in-Some.is c.in_default-given.is ∙ c.loop-wanted.invariant }

pub returns : goal.returns
returns c = record { value = matches_at_end _ _ _ c.in_default.is c.is_none-2.ensures ∙ c.loop-wanted.invariant }
