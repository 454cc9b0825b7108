use Rattle.std.proofs.Common.{◌++◌}
use Rattle.std.proofs.lemmas.Bool.{and_parts}
use Rattle.op_records.specs.Spelling.{number, text}
use Rattle.op_records.proofs.Written.{at_ok, two_parts}
use Rattle.state_snapshot.specs.Spelling.{spelled_id}
use Rattle.state_snapshot.proofs.entries.IdEntry.put.Goals as goal

pub put_text-requires : goal.put_text-requires
put_text-requires c = record { text = (and_parts _ _ (and_parts _ _ c.requires.allowed).0).0 }

pub returns : goal.returns
unfolding spelled_id
returns c =
    let i = c.args.self.now in
    let parts = two_parts c.args.into.now.items c.put_text.new.into.items c.put_two.new.into.items (text i.id) (number i.seq ++ number i.at) c.in_ok-put_text.ensures.ok in
    record { ok = at_ok c.put_two.result parts (rw c.as_nanos.ensures.value at c.put_two.ensures.ok) }
