use Rattle.std.proofs.Common.{arith, ap, length}
use Rattle.desk_places.proofs.Failures.{none_closed, one_closed}
use Rattle.desk_places.proofs.closing.close_places.Goals as goal

pub loop-places-init : goal.loop-places-init
loop-places-init g c = record {
  closed = none_closed _ c.args.places.items c.reverse.new.self.items c.args.vols.now.items c.reverse.ensures.items c.requires.empty;
  room = omega (arith, ap length c.requires.empty, c.args.vols.now.ok.0, c.args.places.ok.0);
  few = omega (arith, ap length c.requires.empty, c.args.vols.now.ok.0, c.args.places.ok.0);
}

pub loop-places-preserved : goal.loop-places-preserved
loop-places-preserved g c = record {
  closed = one_closed _ c.args.places.items c.take_last.new.self.items c.loop-places.places.items c.loop-places.vols.items c.push_reserved.new.self.items c.loop-places.failed c.failure_or-failed.result
      c.len.result c.take_last.result (record { told = c.close_place-told.result.0; vol = c.close_place-told.result.1 }) c.loop-places.invariant.closed c.take_last.ensures.items
      c.close_place-told.ensures.ends c.push_reserved.ensures.items (omega (arith, c.len.ensures, c.loop-places.vols.ok.0)) c.failure_or-failed.ensures.value;
  room = omega arith;
  few = omega arith;
}
