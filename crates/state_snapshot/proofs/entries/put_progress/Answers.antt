use Rattle.std.proofs.lemmas.Bool.{and_parts}
use Rattle.op_records.specs.Spelling.{number, numbers, spelled_list}
use Rattle.op_records.proofs.Written.{at_ok}
use Rattle.state_snapshot.specs.Spelling.{spelled_pending}
use Rattle.state_snapshot.proofs.Puts.{two_and_three}
use Rattle.state_snapshot.proofs.entries.put_progress.Goals as goal

pub put_list-requires : goal.put_list-requires
put_list-requires c =
    let is = and_parts _ _ (and_parts _ _ c.requires.allowed).0 in
    record { allowed = rw c.as_slice.ensures is.1 }

pub returns : goal.returns
returns c =
    let k = c.args.consumer.now in
    let pending = rw c.as_slice.ensures at c.in_ok-put_list.ensures.ok in
    let parts =
    two_and_three c.args.into.now.items c.put_two.new.into.items c.put_numbers.new.into.items c.put_list.new.into.items c.put_numbers-2.new.into.items
    (number k.cursor) (number k.dseq) (numbers k.picks) (spelled_list spelled_pending k.pending) (numbers k.given_up)
    c.in_ok-put_two.ensures.ok c.in_ok-put_numbers.ensures.ok pending in
    record { ok = at_ok c.put_numbers-2.result parts c.put_numbers-2.ensures.ok }
