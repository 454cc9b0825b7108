use Rattle.std.proofs.Common.{◌≡◌, length}
use Rattle.nats_headers.specs.Reading.{past_blanks}
use Rattle.nats_headers.proofs.line.past_blanks.Given as goal

abbrev pub invariant-loop-first : goal.invariant-loop-first
invariant-loop-first l = past_blanks l.text ≡ past_blanks l.fn.text

abbrev pub decreases-loop-first : goal.decreases-loop-first
decreases-loop-first l = length l.text
