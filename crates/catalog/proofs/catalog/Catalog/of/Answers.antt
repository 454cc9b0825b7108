use Rattle.std.proofs.Common.{◌∙◌, map, length, take, ap, arith, length-take}
use Rattle.std.proofs.lemmas.List.{length-map}
use Rattle.js_model.specs.Catalog.{kept_place}
use Rattle.catalog.proofs.Catalogs.{kept_more, whole_front, kept_front_apart}
use Rattle.catalog.proofs.catalog.Catalog.of.Goals as goal

pub push-requires-clause-few : goal.push-requires-clause-few
push-requires-clause-few c =
    omega (arith, ap length c.loop-place.invariant, length-map (take c.loop-place.place-index c.args.kept.now) kept_place, length-take c.loop-place.place-index c.args.kept.now, c.requires.few, c.loop-place-test.true)

pub push-requires-clause-apart : goal.push-requires-clause-apart
push-requires-clause-apart c = kept_front_apart c.args.kept.now c.loop-place.place-index c.place-item.result c.loop-place.catalog c.loop-place-test.true c.place-item.is c.loop-place.invariant c.requires.apart

pub loop-place-preserved : goal.loop-place-preserved
loop-place-preserved c = c.in-Ok.ensures.ok ∙ kept_more c.args.kept.now c.loop-place.place-index c.place-item.result c.loop-place.catalog c.loop-place-test.true c.place-item.is c.loop-place.invariant

pub returns : goal.returns
returns c = record { opened = c.loop-place.invariant ∙ ap (map kept_place) (whole_front c.loop-place.place-index c.args.kept.now (omega (arith, c.loop-place-test.false))) }
