use Rattle.std.proofs.Common.{◌≡◌, length, map, ap, arith}
use Rattle.std.proofs.lemmas.Slice.Zip.{AllZip-long}
use Rattle.js_api.specs.Worlds.{kept_in}
use Rattle.desk_places.specs.Places.{places_by}
use Rattle.desk_places.specs.Opening.{OpensOn}
use Rattle.shared_desk.proofs.NewPlaces.{was_opened}
use Rattle.shared_desk.proofs.Opened.{equipped, opens_hub, uncataloged, unlocked, unopened}
use Rattle.shared_desk.proofs.hub.Hub.open.Goals as goal

pub catalog_of-requires : goal.catalog_of-requires
catalog_of-requires g c =
    let P = g.P.Place in
    let as_many : length c.in_ok-places.places.items ≡ length c.args.vols.items = AllZip-long (OpensOn P.seen P.vol P.holds P.reads P.left P.clock P.faults P.room_causes P.base P.opens P.refuses P.keeps_vol) c.args.vols.items c.in_ok-places.places.items c.in_ok-places.ensures.opened in
    record { few = omega (arith, as_many, ap length c.as_slice.ensures.value, c.requires.few) }

pub returns-in_err-places-clause-err : goal.returns-in_err-places-clause-err
returns-in_err-places-clause-err g c =
    let P = g.P.Place in
    unopened P.seen P.vol P.holds P.reads P.left P.clock P.faults P.room_causes P.base P.opens P.refuses P.keeps_vol c.args.vols.items c.in_err-places.field-0.0 c.from_residual.result c.from_residual.ensures.1 c.in_err-places.ensures.err

pub of-opened-requires : goal.of-opened-requires
of-opened-requires g c =
    let P = g.P.Place in
    let as_many : length c.in_ok-places.places.items ≡ length c.args.vols.items = AllZip-long (OpensOn P.seen P.vol P.holds P.reads P.left P.clock P.faults P.room_causes P.base P.opens P.refuses P.keeps_vol) c.args.vols.items c.in_ok-places.places.items c.in_ok-places.ensures.opened in
    record { few = omega (arith, as_many, ap length c.as_slice-2.ensures.value, c.requires.few) }

pub returns-in-Err-clause-err : goal.returns-in-Err-clause-err
returns-in-Err-clause-err g c =
    let P = g.P.Place in
    rw c.fault_of.ensures.value
    (uncataloged P.seen P.vol P.holds P.reads P.left P.clock P.faults P.room_causes P.base P.opens P.refuses P.keeps_vol c.args.vols.items c.in_ok-places.places.items c.in-Err.stop c.give_back.new.vols c.in_ok-places.ensures.opened
    (rw c.as_slice.ensures.value at c.in-Err.ensures.uncataloged) (rw c.in_ok-places.ensures.emptied at c.give_back.ensures.given))

pub lay-requires-clause-catalog : goal.lay-requires-clause-catalog
lay-requires-clause-catalog g c = (map kept_in (places_by g.P.Place.seen c.as_slice.result.now), c.in-Ok.ensures.opened)

pub lay-requires-clause-opened : goal.lay-requires-clause-opened
lay-requires-clause-opened g c =
    let P = g.P.Place in
    was_opened P.seen P.vol P.holds P.reads P.left P.clock P.faults P.room_causes P.base P.opens P.refuses P.keeps_vol c.args.vols.items c.in_ok-places.places.items c.in_ok-places.ensures.opened

pub lay-requires-clause-few : goal.lay-requires-clause-few
lay-requires-clause-few g c =
    let P = g.P.Place in
    let as_many : length c.in_ok-places.places.items ≡ length c.args.vols.items = AllZip-long (OpensOn P.seen P.vol P.holds P.reads P.left P.clock P.faults P.room_causes P.base P.opens P.refuses P.keeps_vol) c.args.vols.items c.in_ok-places.places.items c.in_ok-places.ensures.opened in
    omega (arith, as_many, c.requires.few)

pub returns-in-None-clause-err : goal.returns-in-None-clause-err
returns-in-None-clause-err g c =
    let P = g.P.Place in
    unlocked P.seen P.vol P.holds P.reads P.left P.clock P.faults P.room_causes P.base P.opens P.refuses P.keeps_vol c.args.vols.items c.in_ok-places.places.items c.lay.new.places.items c.give_back-in-None.new.vols c.in_ok-places.ensures.opened
    (c.lay.ensures.back c.in-None.is) (rw c.in_ok-places.ensures.emptied at c.give_back-in-None.ensures.given)

pub returns-in-Some-clause-opened : goal.returns-in-Some-clause-opened
returns-in-Some-clause-opened g c =
    let P = g.P.Place in
    opens_hub P.seen P.vol P.holds P.reads P.left P.clock P.faults P.room_causes P.base P.opens P.refuses P.keeps_vol c.args.vols.items c.in-Ok.catalog c.args.callers c.in_ok-places.places.items _ _ c.in_ok-places.ensures.opened
    (rw c.as_slice.ensures.value at c.in-Ok.ensures.opened) c.in-Ok.ensures.apart c.in-Some.ensures.laid

pub invariant_of-hub : goal.invariant_of-hub
invariant_of-hub g c =
    let P = g.P.Place in
    let as_many : length c.in_ok-places.places.items ≡ length c.args.vols.items = AllZip-long (OpensOn P.seen P.vol P.holds P.reads P.left P.clock P.faults P.room_causes P.base P.opens P.refuses P.keeps_vol) c.args.vols.items c.in_ok-places.places.items c.in_ok-places.ensures.opened in
    equipped P.seen c.in-Ok.catalog c.args.callers c.in_ok-places.places.items _ _ _ _ _ _ _ (rw c.as_slice.ensures.value at c.in-Ok.ensures.opened) (omega (arith, as_many, c.requires.few)) c.requires.callers.0 c.in-Some.ensures.laid
    c.in-Some.ensures.emptied (omega (arith, c.in_ok-places.places.ok.0, c.in_ok-places.places.ok.1, c.lay.ensures.room)) c.in_ok-places.ensures.emptied (omega (arith, c.in_ok-places.ensures.room)) (rw c.as_slice-2.ensures.value at c.of-opened.ensures.streams)
    (rw c.as_slice-2.ensures.value at c.of-opened.ensures.messages)
