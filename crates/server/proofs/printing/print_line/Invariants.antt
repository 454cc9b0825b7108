use Rattle.std.proofs.Common.{◌≡◌, ◌≤◌, map, take}
use Rattle.std.specs.List.{concat}
use Rattle.link_edge.specs.Told.{grown}
use Rattle.server.specs.Lines.{part_bytes}
use Rattle.server.proofs.printing.print_line.Given as goal

-- the parts before were printed
abbrev pub invariant-loop-part : goal.invariant-loop-part
invariant-loop-part g l = record {
  printed : g.O.Sink.written l.out ≡ grown (g.O.Sink.written l.fn.out) (concat (map part_bytes (take l.part-index l.parts)));
  later : g.O.Sink.faults l.fn.out ≤ g.O.Sink.faults l.out;
}
