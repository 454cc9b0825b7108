use Rattle.std.proofs.Common.{◌≡◌, ◌∙◌, ℕ, length, take, drop, sym, ap, arith}
use Rattle.vol_disk.proofs.Moments.{quiet, quiet_then}
use Rattle.js_base.specs.Bytes.{Bytes}
use Rattle.checksum.specs.Crc.{added, started, finished}
use Rattle.gate_log.proofs.Pieces.{added_none, piece_more}
use Rattle.gate_log.proofs.sums.checksum_at.Goals as goal

pub loop-done-init : goal.loop-done-init
loop-done-init g c = record {
  sum = λ told. c.new-sum.ensures.value ∙ sym (added_none started);
  quiet = λ told. quiet (g.V.Vol.disk c.args.vol.now) (g.met.V.Vol.clocked c.args.vol.now);
  faults = omega arith;
  refusals = omega arith;
  moments = omega arith;
  inside = omega arith;
}

pub add_piece-requires-clause-within : goal.add_piece-requires-clause-within
add_piece-requires-clause-within g c = λ told.
    omega (arith, c.requires.within told, c.loop-done.invariant.inside, ap (λ (l : Bytes). length l) ((c.loop-done.invariant.quiet told).seen c.args.file))

pub loop-done-preserved : goal.loop-done-preserved
loop-done-preserved g c = record {
  sum = λ told.
      piece_more ((g.V.Vol.disk c.args.vol.now).seen c.args.file) ((g.V.Vol.disk c.loop-done.vol).seen c.args.file) c.args.at c.loop-done.done c.in_ok-done.field-0 c.loop-done.sum c.add_piece.new.sum
      ((c.loop-done.invariant.quiet told).seen c.args.file) (c.loop-done.invariant.sum told) (c.in_ok-done.ensures.value told);
  quiet = λ told. quiet_then (g.V.Vol.disk c.args.vol.now) (g.V.Vol.disk c.loop-done.vol) (g.V.Vol.disk c.add_piece.new.vol) (c.loop-done.invariant.quiet told) (c.add_piece.ensures.quiet told);
  faults = omega (arith, c.loop-done.invariant.faults, c.add_piece.ensures.cause.later);
  refusals = omega (arith, c.loop-done.invariant.refusals, c.add_piece.ensures.refusals);
  moments = omega (arith, c.loop-done.invariant.moments, c.add_piece.ensures.later);
  inside = omega (arith, c.loop-done.invariant.inside, c.in_ok-done.ensures.size);
}

pub returns-clause-value : goal.returns-clause-value
returns-clause-value g c = λ told.
    let bytes = (g.V.Vol.disk c.args.vol.now).seen c.args.file in
    let whole : c.loop-done.done ≡ c.args.count = omega (arith, c.loop-done.invariant.inside) in
    c.value.ensures.value ∙ ap finished (c.loop-done.invariant.sum told ∙ ap (λ (n : ℕ). added started (take n (drop c.args.at bytes))) whole)
