use Rattle.std.proofs.Common.{[], refl}
use Rattle.log_rows.proofs.telling.told.Goals as goal

-- the first gate
pub batches_text-requires : goal.batches_text-requires
batches_text-requires c =
    let found = c.in-Ok.ensures.settled tt in
    record { first = ([], found.0, record { settled = found.1; here = refl }) }
