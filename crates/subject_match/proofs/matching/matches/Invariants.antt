use Rattle.std.proofs.Common.{◌≡◌}
use Rattle.std.specs.Option.{option_copied}
use Rattle.js_base.specs.Subjects.{tokens, matches}
use Rattle.subject_match.specs.Tokens.{tokens_left, size_left}
use Rattle.subject_match.proofs.matching.matches.Given as goal

-- what is left of both matches exactly if the whole does
abbrev pub invariant-loop-wanted : goal.invariant-loop-wanted
invariant-loop-wanted l =
    matches (tokens_left (option_copied l.wanted)) (tokens_left (option_copied l.given)) ≡ matches (tokens l.pattern) (tokens l.subject)

abbrev pub decreases-loop-wanted : goal.decreases-loop-wanted
decreases-loop-wanted l = size_left (option_copied l.wanted)
