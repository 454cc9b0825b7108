use Rattle.std.proofs.Common.{◌||◌, ◌∙◌}
use Rattle.workers.proofs.Asked.{asked_before}
use Rattle.workers.proofs.Out.{came_back, noted_starved, noted_worn, or_kept, worn_since}
use Rattle.workers.specs.Doors.{DoorTold}
use Rattle.link_edge.specs.Reports.{Report}
use Rattle.workers.proofs.doorway.Doorway.take_back.Goals as goal

pub invariant_of-self : goal.invariant_of-self
invariant_of-self g c =
    let d = c.self.inside in
    let was : DoorTold = record { answered = g.R.Door.answered d.door; gave = g.R.Door.gave d.door; back = g.R.Door.back d.door; faults = g.R.Door.faults d.door } in
    let is : DoorTold = record { answered = g.R.Door.answered c.done.new.self; gave = g.R.Door.gave c.done.new.self; back = g.R.Door.back c.done.new.self; faults = g.R.Door.faults c.done.new.self } in
    let report : Report = record { answered = g.R.Link.Link.answered c.args.link; given = g.R.Link.Link.given c.args.link; failings = g.R.Link.Link.failings c.args.link; faults = g.R.Link.Link.faults c.args.link } in
    record {
      asked = asked_before g.B.Beginning.accepts d.left d.stop g.B.Beginning.begun was is c.done.ensures.answered c.done.ensures.later c.self.invariant.asked;
      links = came_back g.B.Beginning.limits d.worn d.starved (d.worn || c.is_worn.result) (d.starved || c.is_starved.result) (or_kept d.worn c.is_worn.result) (or_kept d.starved c.is_starved.result)
          g.B.Beginning.begun was is d.out.total c.sub.new.self.total report c.args.ended c.requires.served
          (noted_worn d.worn c.is_worn.result c.args.ended c.is_worn.ensures.value) (noted_starved d.starved c.is_starved.result c.args.ended c.is_starved.ensures.value) (worn_since d.worn c.is_worn.result c.args.ended c.is_worn.ensures.value)
          (c.sub.ensures.total ∙ c.audit.ensures.total) c.done.ensures.gave c.done.ensures.back c.self.invariant.links;
    }
