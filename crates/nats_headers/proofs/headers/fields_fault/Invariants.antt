use Rattle.std.proofs.Common.{◌≡◌, ◌+◌, length}
use Rattle.js_base.specs.Headers.{block_lines}
use Rattle.nats_headers.specs.Reading.{fields_fault}
use Rattle.nats_headers.proofs.headers.fields_fault.Given as goal

-- the first fault of the lines that are left is that of all, and the place is where they begin
abbrev pub invariant-loop-line : goal.invariant-loop-line
invariant-loop-line l = record {
  same_fault : fields_fault l.at (block_lines l.lines) ≡ fields_fault l.place (block_lines l.fn.lines);
  where_left : l.at + length l.lines ≡ l.place + length l.fn.lines;
}

abbrev pub decreases-loop-line : goal.decreases-loop-line
decreases-loop-line l = length l.lines
