use Rattle.std.proofs.Common.{◌≡◌, ◌≤◌, replicate}
use Rattle.link_edge.specs.Told.{grown}
use Rattle.link_edge.specs.declared.answers.Accepted.TheVariants.{Quiet}
use Rattle.server.specs.Accepting.{NoneStarves}
use Rattle.server.proofs.serving.accept.Given as goal

-- each accept so far was quiet
abbrev pub invariant-loop : goal.invariant-loop
invariant-loop g l =
    let door = g.R.Door in
    record {
      answered : door.answered l.door ≡ grown (door.answered l.fn.door) (replicate l.counter Quiet);
      gave : door.gave l.door ≡ door.gave l.fn.door;
      back : door.back l.door ≡ door.back l.fn.door;
      starved : NoneStarves (door.starved l.fn.door) (door.starved l.door);
      later : door.faults l.fn.door ≤ door.faults l.door;
    }
