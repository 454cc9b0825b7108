use Rattle.desk_places.proofs.Failures.{is_none_so, is_some_so}
use Rattle.desk_places.proofs.Flushed.{ends_flushed, ends_stopped}
use Rattle.desk_places.proofs.closing.close_place.Goals as goal

pub returns-then-is_some : goal.returns-then-is_some
returns-then-is_some g c =
    let P = g.P.Place in
    let there = is_some_so (P.seen c.args.place).place.stopped c.stopped.result c.is_some.result c.stopped.ensures.value c.is_some.ensures c.if-is_some.true in
    record {
      ends = ends_stopped P.seen P.vol P.holds P.reads P.left P.clock P.faults P.room_causes P.base P.keeps_vol g.met.P.Place.bases g.met.P.Place.leaves g.met.P.Place.earlier g.met.P.Place.stands
          c.args.place there.0 c.into_vol.result there.1 c.into_vol.ensures.value;
    }

pub returns : goal.returns
returns g c =
    let P = g.P.Place in
    let going = is_none_so (P.seen c.args.place).place.stopped c.stopped.result c.is_some.result c.stopped.ensures.value c.is_some.ensures c.if-is_some.false in
    record {
      ends = ends_flushed P.seen P.vol P.holds P.reads P.left P.clock P.faults P.room_causes P.base P.keeps_vol g.met.P.Place.bases g.met.P.Place.leaves g.met.P.Place.earlier g.met.P.Place.stands
          c.args.place c.flush-told.new.self c.law_kept.ensures.kept c.law_kept-2.ensures.kept going c.flush-told.ensures.vol c.law_kept-2.ensures.reads
          c.flush-told.result c.into_vol-2.result c.into_vol-2.ensures.value c.flush-told.ensures.flushes;
    }
