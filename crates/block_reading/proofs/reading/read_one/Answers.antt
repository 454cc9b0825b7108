use Rattle.std.proofs.Common.{◌∙◌, ap, length}
use Rattle.block_reading.proofs.Stored.{allowed_of, found_there, lost_at}
use Rattle.block_reading.proofs.reading.read_one.Goals as goal

pub returns-in-Ok-clause-found : goal.returns-in-Ok-clause-found
returns-in-Ok-clause-found g c = λ told.
    found_there (g.V.Vol.disk c.args.vol.now).seen c.args.spot c.args.told.now c.as_slice.result.now (c.as_slice.ensures ∙ c.in_ok-bytes.ensures.value told) (ap length c.as_slice.ensures ∙ c.in_ok-bytes.ensures.len) c.in-Ok.message
    c.in-Ok.ensures.stored

pub returns-in-Ok-clause-told : goal.returns-in-Ok-clause-told
returns-in-Ok-clause-told g c = c.in-Ok.ensures.stored.by_log

pub returns-in-Ok-clause-allowed : goal.returns-in-Ok-clause-allowed
returns-in-Ok-clause-allowed g c = allowed_of c.as_slice.result.now c.args.told.now c.in-Ok.message c.in-Ok.ensures.stored

pub returns-in-Err-Wrong-clause-fault : goal.returns-in-Err-Wrong-clause-fault
returns-in-Err-Wrong-clause-fault g c = λ told.
    lost_at (g.V.Vol.disk c.args.vol.now).seen c.args.spot c.args.told.now c.as_slice.result.now (c.as_slice.ensures ∙ c.in_ok-bytes.ensures.value told) (ap length c.as_slice.ensures ∙ c.in_ok-bytes.ensures.len) _
    c.in-Err-Wrong.field-0 c.in-Err-Wrong.field-0-is c.in-Err-Wrong.ensures.fault
