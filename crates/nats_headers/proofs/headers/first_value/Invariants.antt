use Rattle.std.proofs.Common.{◌≡◌, length}
use Rattle.js_base.specs.Headers.{block_lines}
use Rattle.nats_headers.specs.Reading.{first_value}
use Rattle.nats_headers.proofs.headers.first_value.Given as goal

-- the first value of the lines that are left is that of all
abbrev pub invariant-loop-line : goal.invariant-loop-line
invariant-loop-line l = first_value l.name (block_lines l.lines) ≡ first_value l.name (block_lines l.fn.lines)

abbrev pub decreases-loop-line : goal.decreases-loop-line
decreases-loop-line l = length l.lines
