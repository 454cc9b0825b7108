use Rattle.std.proofs.Common.{◌≡◌, ◌<◌, ◌≤◌, true, vec_len}
use Rattle.link_edge.specs.Failings.{HasNoFailings}
use Rattle.nats_frames.specs.Decoding.{total}
use Rattle.session.specs.Turning.{stage_of, turns_left}
use Rattle.session.proofs.Conversing.{Conversing}
use Rattle.session.proofs.session.converse.Given as goal

-- whole turns so far, and where they led
abbrev pub invariant-loop-course : goal.invariant-loop-course
invariant-loop-course g l =
    let desk = g.D.Desk in
    let link = g.L.Link in
    record {
      conversing : Conversing desk.made l.limits l.session l.fn.desk l.desk (link.answered l.fn.link) (link.answered l.link) (link.given l.fn.link) (link.given l.link)
          (g.C.Clock.to_come l.fn.clock) (g.C.Clock.to_come l.clock) (stage_of (desk.client l.desk) l.course);
      fed : total l.course.decoder ≡ l.course.taken;
      input : l.course.taken ≤ l.limits.input;
      quiet : l.course.quiets ≤ l.limits.quiet;
      room : 0 < vec_len l.room;
      session : (desk.client l.desk).session ≡ l.session;
      is_open : (desk.client l.desk).is_open ≡ true;
      failings : HasNoFailings (link.failings l.fn.link) → link.failings l.link ≡ link.failings l.fn.link;
      later : link.faults l.fn.link ≤ link.faults l.link;
    }

abbrev pub decreases-loop-course : goal.decreases-loop-course
decreases-loop-course g l = turns_left l.limits l.course
