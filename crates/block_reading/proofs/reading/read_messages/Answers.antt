use Rattle.std.proofs.Common.{All, subst, sym}
use Rattle.std.specs.List.{AllZip}
use Rattle.std.proofs.lemmas.Result.{err_from_is_err_and, IfOk-weaker, IfErr-weaker}
use Rattle.vol_disk.specs.Disk.{Files}
use Rattle.vol_disk.proofs.Moments.{quiet_then}
use Rattle.block_table.specs.Blocks.{blocks}
use Rattle.block_reading.specs.Standing.{AreStoredIn, IsThere, IsWhole}
use Rattle.block_reading.specs.Reading.{AreLostFault, IsMessagesFault}
use Rattle.block_reading.proofs.Before.{same_seen}
use Rattle.block_reading.proofs.Found.{check_told, lost_told}
use Rattle.block_reading.proofs.reading.read_messages.Goals as goal

pub returns-in_err-check_blocks-clause-fault : goal.returns-in_err-check_blocks-clause-fault
returns-in_err-check_blocks-clause-fault g c = λ told.
    let p = err_from_is_err_and c.from_residual.result c.from_residual.ensures.1 in
    rw (p.1, p.2) (check_told (g.V.Vol.disk c.args.vol.now).seen c.args.table.now c.args.last c.args.told.now c.in_err-check_blocks.field-0.0 (c.in_err-check_blocks.ensures.fault told))

pub read_all-requires : goal.read_all-requires
read_all-requires g c = record {
  placed = c.requires.placed;
  table = c.check_blocks.ensures.table;
  whole = λ told.
      subst (λ (image : Files). All (IsWhole image c.args.last) (blocks c.args.table.now))
      (sym (same_seen (g.V.Vol.disk c.args.vol.now) (g.V.Vol.disk c.check_blocks.new.vol) (c.check_blocks.ensures.quiet told))) (c.in_ok-check_blocks.ensures.whole told);
}

pub returns-clause-stored : goal.returns-clause-stored
returns-clause-stored g c = λ told.
    let was = g.V.Vol.disk c.args.vol.now in
    let mid = g.V.Vol.disk c.check_blocks.new.vol in
    IfOk-weaker c.read_all.result (λ ms. AllZip (IsThere mid.seen) c.args.table.now.placed ms) (AreStoredIn was.seen c.args.table.now c.args.last)
    (λ ms h. record {
      whole = c.in_ok-check_blocks.ensures.whole told;
      found = subst (λ (image : Files). AllZip (IsThere image) c.args.table.now.placed ms) (same_seen was mid (c.check_blocks.ensures.quiet told)) h;
    })
    (c.read_all.ensures.found told)

pub returns-clause-fault : goal.returns-clause-fault
returns-clause-fault g c = λ told.
    let was = g.V.Vol.disk c.args.vol.now in
    let mid = g.V.Vol.disk c.check_blocks.new.vol in
    IfErr-weaker c.read_all.result (AreLostFault mid.seen c.args.table.now.placed c.args.told.now) (IsMessagesFault was.seen c.args.table.now c.args.last c.args.told.now)
    (λ fault h. lost_told was.seen c.args.table.now c.args.last c.args.told.now fault (c.in_ok-check_blocks.ensures.whole told)
    (subst (λ (image : Files). AreLostFault image c.args.table.now.placed c.args.told.now fault) (same_seen was mid (c.check_blocks.ensures.quiet told)) h))
    (c.read_all.ensures.fault told)

pub returns-clause-quiet : goal.returns-clause-quiet
returns-clause-quiet g c = λ told.
    quiet_then (g.V.Vol.disk c.args.vol.now) (g.V.Vol.disk c.check_blocks.new.vol) (g.V.Vol.disk c.read_all.new.vol) (c.check_blocks.ensures.quiet told) (c.read_all.ensures.quiet told)
