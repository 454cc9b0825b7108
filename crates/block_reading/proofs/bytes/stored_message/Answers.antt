use Rattle.std.proofs.Common.{◌∙◌, arith, inl, inr, sym}
use Rattle.block_reading.proofs.Checking.{is_batch}
use Rattle.block_reading.proofs.Stored.{read_other, read_whole, stored_fault}
use Rattle.block_reading.proofs.bytes.stored_message.Goals as goal
use Rattle.block_reading.proofs.bytes.stored_message.Goals.{else-end-bytes-via-else-end-bytes, else-end-bytes-via-then-end-bytes+else-is_told}

pub returns-then-is_told-clause-stored : goal.returns-then-is_told-clause-stored
returns-then-is_told-clause-stored c =
    read_whole c.args.bytes.now c.args.told.now c.in-Ok.message c.in-Ok.end (is_batch c.args.bytes.now (λ k. (c.type_inv.bytes k).fits) c.requires.short) c.in-Ok.ensures.reading (omega arith)
    (sym c.is_told.ensures.value ∙ c.if-is_told.true)

pub returns-else-end-bytes-clause-fault : goal.returns-else-end-bytes-clause-fault
returns-else-end-bytes-clause-fault c =
    read_other c.args.bytes.now c.args.told.now c.in-Ok.message c.in-Ok.end c.in-Ok.ensures.reading
    (elim c.else-end-bytes.branch [
      | else-end-bytes-via-else-end-bytes w ↦ inl (omega arith)
      | else-end-bytes-via-then-end-bytes+else-is_told w ↦ inr (sym w.is_told.ensures.value ∙ w.if-is_told.false)
    ])

pub returns-in-Err-clause-fault : goal.returns-in-Err-clause-fault
returns-in-Err-clause-fault c = rw c.fault_at.ensures.value (stored_fault c.args.bytes.now c.args.told.now c.in-Err.fault c.in-Err.ensures.reading)
