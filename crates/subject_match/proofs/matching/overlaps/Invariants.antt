use Rattle.std.proofs.Common.{◌≡◌}
use Rattle.std.specs.Option.{option_copied}
use Rattle.js_base.specs.Subjects.{tokens, meets}
use Rattle.subject_match.specs.Tokens.{tokens_left, size_left}
use Rattle.subject_match.proofs.matching.overlaps.Given as goal

-- what is left of both overlaps exactly if the whole does
abbrev pub invariant-loop-first : goal.invariant-loop-first
invariant-loop-first l =
    meets (tokens_left (option_copied l.first)) (tokens_left (option_copied l.second)) ≡ meets (tokens l.p) (tokens l.q)

abbrev pub decreases-loop-first : goal.decreases-loop-first
decreases-loop-first l = size_left (option_copied l.first)
