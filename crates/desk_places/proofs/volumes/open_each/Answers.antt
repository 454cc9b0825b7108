use Rattle.std.proofs.Common.{◌++◌, [], ◌∷◌, arith}
use Rattle.std.specs.Prelude.{reverse}
use Rattle.desk_places.proofs.Rows.{one_came, zip_more}
use Rattle.desk_places.proofs.volumes.open_each.Goals as goal

pub loop-alloc-preserved : goal.loop-alloc-preserved
loop-alloc-preserved g c =
    let k = c.loop-alloc.invariant.opened in
    record {
      opened = (
        k.0 ++ c.take_last.result ∷ [],
        one_came (reverse c.args.vols.now.items) k.0 c.take_last.new.self.items c.loop-alloc.vols.items c.take_last.result k.1 c.take_last.ensures.items,
        rw c.push_reserved.ensures.items (zip_more _ k.0 c.loop-alloc.places.items c.take_last.result c.in-Ok.place k.2 c.in-Ok.ensures.opened),
      );
      ahead = omega arith;
      back = omega arith;
      few = omega arith;
    }
