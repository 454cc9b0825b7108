use Rattle.std.proofs.Common.{◌≡◌, ◌≤◌, true, length, drop}
use Rattle.std.specs.Prelude.{count_by}
use Rattle.js_base.specs.Bytes.{Bytes, same}
use Rattle.durable_checks.specs.Limits.{are_newest, count_in}
use Rattle.durable_checks.proofs.limits.are_newest.Given as goal

-- the messages from here on are among the last of their subjects, and counted
abbrev pub invariant-loop-at : goal.invariant-loop-at
invariant-loop-at l = record {
  within : l.at ≤ length l.messages;
  newest : are_newest l.limit (drop l.at l.messages) ≡ true;
  counted : (subject : Bytes) → count_in l.counts subject ≡ count_by (λ x. same x.subject subject) (drop l.at l.messages);
}

abbrev pub decreases-loop-at : goal.decreases-loop-at
decreases-loop-at l = l.at
