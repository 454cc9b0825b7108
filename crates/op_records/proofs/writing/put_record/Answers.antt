use Rattle.std.proofs.Common.{◌≡◌, ◌∷◌, ◌++◌, OnOk, sym, subst}
use Rattle.op_records.specs.Spelling.{number, text, spelled_spot, spelled_record}
use Rattle.op_records.specs.declared.record.Record.{Record}
use Rattle.op_records.proofs.Written.{at_ok, two_parts}
use Rattle.op_records.proofs.writing.put_record.Goals as goal

pub returns-in_ok-put_numbered-in-Put : goal.returns-in_ok-put_numbered-in-Put
unfolding spelled_record
returns-in_ok-put_numbered-in-Put c =
    let e = c.in-Put in
    let parts = two_parts c.args.into.now.items c.put_numbered.new.into.items c.put_spot.new.into.items (14 ∷ (number e.seq ++ (number e.at ++ text e.id))) (spelled_spot e.spot) c.in_ok-put_numbered-in-Put.ensures.ok in
    record { ok = subst (λ (entry : Record). OnOk c.put_spot.result (c.put_spot.new.into.items ≡ c.args.into.now.items ++ spelled_record entry)) (sym e.is) (at_ok c.put_spot.result parts c.put_spot.ensures.ok) }
