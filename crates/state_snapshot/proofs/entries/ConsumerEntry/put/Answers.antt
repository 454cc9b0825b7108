use Rattle.std.proofs.lemmas.Bool.{and_parts}
use Rattle.op_records.proofs.Written.{at_ok, two_parts}
use Rattle.state_snapshot.specs.Spelling.{spelled_made, spelled_progress, spelled_consumer}
use Rattle.state_snapshot.proofs.entries.ConsumerEntry.put.Goals as goal

pub put_made-requires : goal.put_made-requires
put_made-requires c = record { allowed = (and_parts _ _ (and_parts _ _ c.requires.allowed).0).0 }

pub put_progress-requires : goal.put_progress-requires
put_progress-requires c = record { allowed = (and_parts _ _ (and_parts _ _ c.requires.allowed).0).1 }

pub returns : goal.returns
unfolding spelled_consumer
returns c =
    let parts = two_parts c.args.into.now.items c.put_made.new.into.items c.put_progress.new.into.items (spelled_made c.args.self.now) (spelled_progress c.args.self.now) c.in_ok-put_made.ensures.ok in
    record { ok = at_ok c.put_progress.result parts c.put_progress.ensures.ok }
