use Rattle.std.proofs.Common.{◌≡◌, ◌≤◌, take}
use Rattle.shared_desk.specs.Finding.{streams_of}
use Rattle.shared_desk.proofs.finding.count_streams.Given as goal

-- those of the places so far
abbrev pub invariant-loop-place : goal.invariant-loop-place
invariant-loop-place g l = record {
  value : l.count ≡ streams_of g.P.Place.seen (take l.place-index l.places);
  few : l.count ≤ l.place-index;
}
