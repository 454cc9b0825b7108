use Rattle.std.proofs.lemmas.Bool.{and_parts}
use Rattle.op_records.specs.Spelling.{number, spelled_spot}
use Rattle.op_records.proofs.Written.{at_ok}
use Rattle.state_snapshot.specs.Spelling.{spelled_message}
use Rattle.state_snapshot.proofs.Puts.{two_and_one}
use Rattle.state_snapshot.proofs.entries.StoredMessageEntry.put.Goals as goal

pub put_spot-requires : goal.put_spot-requires
put_spot-requires c = record { spot = (and_parts _ _ c.requires.allowed).1 }

pub returns : goal.returns
unfolding spelled_message
returns c =
    let m = c.args.self.now in
    let numbers = rw c.as_nanos.ensures.value at c.in_ok-put_two.ensures.ok in
    let parts = two_and_one c.args.into.now.items c.put_two.new.into.items c.put_spot.new.into.items (number m.seq) (number m.at) (spelled_spot m.spot) numbers in
    record { ok = at_ok c.put_spot.result parts c.put_spot.ensures.ok }
