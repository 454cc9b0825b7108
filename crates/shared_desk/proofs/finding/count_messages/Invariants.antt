use Rattle.std.proofs.Common.{◌≡◌, ◌≤◌, ◌*◌, ◌^◌, take}
use Rattle.shared_desk.specs.Finding.{messages_of}
use Rattle.shared_desk.proofs.finding.count_messages.Given as goal

-- those of the places so far
abbrev pub invariant-loop-place : goal.invariant-loop-place
invariant-loop-place g l = record {
  value : l.count ≡ messages_of g.P.Place.seen (take l.place-index l.places);
  few : l.count ≤ l.place-index * 2 ^ 32;
}
