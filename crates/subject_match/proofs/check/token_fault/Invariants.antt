use Rattle.std.proofs.Common.{◌≡◌, ◌+◌, ◌≤◌, length}
use Rattle.std.specs.Option.{option_copied}
use Rattle.js_base.specs.Subjects.{tokens}
use Rattle.subject_match.specs.Faults.{token_fault}
use Rattle.subject_match.specs.Tokens.{tokens_left, size_left}
use Rattle.subject_match.proofs.check.token_fault.Given as goal

-- the first fault of the tokens left is that of all, and what was passed and what is left make up the text, and the dot before it
abbrev pub invariant-loop-left : goal.invariant-loop-left
invariant-loop-left l = record {
  same_fault : token_fault l.kind l.at (tokens_left (option_copied l.left)) ≡ token_fault l.kind 0 (tokens l.text);
  place : l.at + size_left (option_copied l.left) ≤ length l.text + 1;
}

abbrev pub decreases-loop-left : goal.decreases-loop-left
decreases-loop-left l = size_left (option_copied l.left)
