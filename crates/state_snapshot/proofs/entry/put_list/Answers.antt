use Rattle.std.proofs.Common.{◌^◌, length, arith}
use Rattle.std.proofs.lemmas.Bool.{and_parts}
use Rattle.op_records.proofs.Exact.{lt_is}
use Rattle.state_snapshot.proofs.entry.put_list.Goals as goal

pub put_count-requires : goal.put_count-requires
put_count-requires g c = record { few = omega (arith, lt_is (length c.args.entries.now) (2 ^ 32) (and_parts _ _ c.requires.allowed).0) }

pub put_each-requires : goal.put_each-requires
put_each-requires g c = record { allowed = (and_parts _ _ c.requires.allowed).1 }
