use Rattle.std.proofs.Common.{◌+◌, arith}
use Rattle.shared_desk.proofs.Dealing.{none_more, room_more}
use Rattle.shared_desk.proofs.opening.rows_for.Goals as goal

pub loop-preserved : goal.loop-preserved
loop-preserved g c = record {
  made = none_more c.push_reserved.new.self.items c.loop.rows.items c.in-Ok.row c.loop.counter (c.loop.counter + 1) (omega arith) c.push_reserved.ensures.items c.in-Ok.ensures.items c.loop.invariant.made;
  room = room_more c.push_reserved.new.self.items c.loop.rows.items c.in-Ok.row c.args.places c.push_reserved.ensures.items c.loop.invariant.room (omega (arith, c.in-Ok.ensures.capacity));
  count = omega (arith, c.push_reserved.ensures.len, c.loop.invariant.count);
  fits = omega (arith, c.push_reserved.ensures.capacity, c.loop.invariant.fits);
}
