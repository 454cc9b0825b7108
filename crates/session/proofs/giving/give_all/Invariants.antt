use Rattle.std.proofs.Common.{length, ◌-◌, ◌≡◌, ◌≤◌, take}
use Rattle.link_edge.specs.Told.{grown}
use Rattle.link_edge.specs.Failings.{HasNoFailings}
use Rattle.session.proofs.giving.give_all.Given as goal

-- what was given so far is a prefix of the bytes
abbrev pub invariant-loop-at : goal.invariant-loop-at
invariant-loop-at g l =
    let link = g.L.Link in
    record {
      within : l.at ≤ length l.bytes;
      given : link.given l.link ≡ grown (link.given l.fn.link) (take l.at l.bytes);
      answered : link.answered l.link ≡ link.answered l.fn.link;
      failings : HasNoFailings (link.failings l.fn.link) → link.failings l.link ≡ link.failings l.fn.link;
      later : link.faults l.fn.link ≤ link.faults l.link;
    }

abbrev pub decreases-loop-at : goal.decreases-loop-at
decreases-loop-at g l = length l.initial.bytes - l.at
