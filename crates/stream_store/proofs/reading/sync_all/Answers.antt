use Rattle.std.proofs.Common.{arith, get_or}
use Rattle.vol_disk.proofs.Moments.{quiet, quiet_on}
use Rattle.stream_store.proofs.Synced.{synced_all, synced_more, synced_none}
use Rattle.stream_store.proofs.reading.sync_all.Goals as goal

pub loop-block-init : goal.loop-block-init
loop-block-init g c = record {
  synced = λ told file is. synced_none (g.V.Vol.disk c.args.vol.now) file is;
  quiet = λ told. quiet (g.V.Vol.disk c.args.vol.now) (g.met.V.Vol.clocked c.args.vol.now);
  faults = omega arith;
  refusals = omega arith;
  moments = omega arith;
}

pub returns-in_err-sync-clause-quiet : goal.returns-in_err-sync-clause-quiet
returns-in_err-sync-clause-quiet g c = λ told.
    quiet_on (g.V.Vol.disk c.args.vol.now) (g.V.Vol.disk c.loop-block.vol) (g.V.Vol.disk c.sync.new.self) (get_or c.args.blocks.now c.loop-block.block-index (record { file = 0; end = 0 })).file (c.loop-block.invariant.quiet told) (c.sync.ensures.does told) (c.sync.ensures.seen told)

pub loop-block-preserved : goal.loop-block-preserved
loop-block-preserved g c =
    let still = λ (told : g.V.Vol.told). quiet_on (g.V.Vol.disk c.args.vol.now) (g.V.Vol.disk c.loop-block.vol) (g.V.Vol.disk c.sync.new.self) (get_or c.args.blocks.now c.loop-block.block-index (record { file = 0; end = 0 })).file (c.loop-block.invariant.quiet told) (c.sync.ensures.does told) (c.sync.ensures.seen told) in
    record {
      synced = λ told. synced_more c.args.blocks.now c.loop-block.block-index (record { file = 0; end = 0 }) (g.V.Vol.disk c.loop-block.vol) (g.V.Vol.disk c.sync.new.self) (omega arith) (g.met.V.Vol.clocked c.loop-block.vol)
          (c.loop-block.invariant.synced told) (c.sync.ensures.does told) (c.sync.ensures.seen told) (c.in_ok-sync.ensures.durable told);
      quiet = still;
      faults = omega (arith, c.loop-block.invariant.faults, c.sync.ensures.cause.later);
      refusals = omega (arith, c.loop-block.invariant.refusals, c.sync.ensures.refusals);
      moments = omega (arith, c.loop-block.invariant.moments, c.sync.ensures.later);
    }

pub returns-clause-synced : goal.returns-clause-synced
returns-clause-synced g c = λ told. synced_all c.args.blocks.now c.loop-block.block-index (g.V.Vol.disk c.loop-block.vol) (omega arith) (c.loop-block.invariant.synced told)
