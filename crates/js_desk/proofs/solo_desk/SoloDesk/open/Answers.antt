use Rattle.std.proofs.Common.{◌≡◌, length, ap, arith}
use Rattle.std.proofs.lemmas.Slice.Zip.{AllZip-long}
use Rattle.desk_places.specs.Opening.{OpensOn}
use Rattle.js_desk.proofs.solo_desk.SoloDesk.open.Goals as goal

pub catalog_of-requires : goal.catalog_of-requires
catalog_of-requires g c =
    let P = g.P.Place in
    let as_many : length c.in_ok-places.places.items ≡ length c.args.vols.items = AllZip-long (OpensOn P.seen P.vol P.holds P.reads P.left P.clock P.faults P.room_causes P.base P.opens P.refuses P.keeps_vol) c.args.vols.items c.in_ok-places.places.items c.in_ok-places.ensures.opened in
    record { few = omega (arith, as_many, ap length c.as_slice.ensures.value, c.requires.few) }

pub of-requires-clause-few : goal.of-requires-clause-few
of-requires-clause-few g c =
    let P = g.P.Place in
    let as_many : length c.in_ok-places.places.items ≡ length c.args.vols.items = AllZip-long (OpensOn P.seen P.vol P.holds P.reads P.left P.clock P.faults P.room_causes P.base P.opens P.refuses P.keeps_vol) c.args.vols.items c.in_ok-places.places.items c.in_ok-places.ensures.opened in
    omega (arith, as_many, c.requires.few)
