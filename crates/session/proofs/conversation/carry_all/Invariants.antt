use Rattle.std.proofs.Common.{◌≡◌, ◌≤◌, true, length}
use Rattle.link_edge.specs.Failings.{HasNoFailings}
use Rattle.nats_frames.specs.Decoding.{total}
use Rattle.session.specs.Manners.{peer_of}
use Rattle.session.proofs.Heard.{Answering}
use Rattle.session.proofs.conversation.carry_all.Given as goal

-- the operations so far were carried out, and their bytes were given or wait to be
abbrev pub invariant-loop-stop : goal.invariant-loop-stop
invariant-loop-stop g l =
    let desk = g.D.Desk in
    let link = g.L.Link in
    record {
      answering : Answering desk.made l.now (peer_of (desk.client l.fn.desk) l.fn.manners) (peer_of (desk.client l.desk) l.manners) l.fn.desk l.desk
          l.fn.decoder.bytes l.decoder.bytes (link.given l.fn.link) (link.given l.link) l.out.items;
      fed : total l.decoder ≡ total l.fn.decoder;
      session : (desk.client l.desk).session ≡ (desk.client l.fn.desk).session;
      is_open : (desk.client l.desk).is_open ≡ true;
      answered : link.answered l.link ≡ link.answered l.fn.link;
      failings : HasNoFailings (link.failings l.fn.link) → link.failings l.link ≡ link.failings l.fn.link;
      later : link.faults l.fn.link ≤ link.faults l.link;
    }

abbrev pub decreases-loop-stop : goal.decreases-loop-stop
decreases-loop-stop g l = length l.decoder.bytes
