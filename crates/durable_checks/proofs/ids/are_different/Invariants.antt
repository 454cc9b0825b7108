use Rattle.std.proofs.Common.{◌≡◌, ◌≤◌, true, length, drop}
use Rattle.js_base.specs.Bytes.{Bytes}
use Rattle.model_laws.specs.SoundTests.{are_different}
use Rattle.durable_checks.specs.Known.{knows}
use Rattle.durable_checks.proofs.Different.{is_text_in}
use Rattle.durable_checks.proofs.ids.are_different.Given as goal

-- the ids from here on are different, and their texts are known
abbrev pub invariant-loop-at : goal.invariant-loop-at
invariant-loop-at l = record {
  within : l.at ≤ length l.ids;
  different : are_different (drop l.at l.ids) ≡ true;
  known : (text : Bytes) → knows l.known text ≡ is_text_in (drop l.at l.ids) text;
}

abbrev pub decreases-loop-at : goal.decreases-loop-at
decreases-loop-at l = l.at
