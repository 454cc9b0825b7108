use Rattle.std.proofs.Common.{◌≡◌, length}
use Rattle.nats_headers.specs.Reading.{up_to_blanks}
use Rattle.nats_headers.proofs.line.up_to_blanks.Given as goal

abbrev pub invariant-loop-last : goal.invariant-loop-last
invariant-loop-last l = up_to_blanks l.text ≡ up_to_blanks l.fn.text

abbrev pub decreases-loop-last : goal.decreases-loop-last
decreases-loop-last l = length l.text
