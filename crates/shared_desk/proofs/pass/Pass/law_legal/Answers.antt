use Rattle.std.proofs.Common.{below_more, subst}
use Rattle.std.specs.List.{AllByRecursion}
use Rattle.histories.specs.Lawful.{IsPlaceHistory}
use Rattle.hub_fronts.specs.Fronts.{SharedScene}
use Rattle.shared_desk.specs.Passes.{IsLegalAt}
use Rattle.shared_desk.proofs.Seats.{HoldsIn, all_held, holds_at, none_holds, some_holds}
use Rattle.shared_desk.proofs.pass.Pass.law_legal.Goals as goal
use Rattle.shared_desk.proofs.pass.Pass.law_legal.Goals.{in-Some-place, in_default-place}

pub loop-place-preserved : goal.loop-place-preserved
loop-place-preserved g c =
    below_more (HoldsIn (IsLegalAt IsPlaceHistory) c.deref-place-items.result.now) c.loop-place.place-index c.loop-place.invariant
    (holds_at (IsLegalAt IsPlaceHistory) c.deref-place-items.result.now c.loop-place.place-index c.place-item.result c.loop-place-test.true c.place-item.is
    (elim c.match-place.branch [
      | in-Some-place w ↦ some_holds (IsLegalAt IsPlaceHistory) c.place-item.result _ w.in-Some-place.is w.law_legal-in-Some-place.ensures.legal
      | in_default-place w ↦ none_holds (IsLegalAt IsPlaceHistory) c.place-item.result w.in_default-place.is
    ]))

pub returns-clause-places : goal.returns-clause-places
returns-clause-places g c =
    subst (λ (scene : SharedScene). AllByRecursion (IsLegalAt IsPlaceHistory) scene.fronts.places) c.self.view_is
    (all_held (IsLegalAt IsPlaceHistory) c.self.inside.places.items c.deref-place-items.result.now c.loop-place.place-index c.deref-place-items.ensures.value c.loop-place-test.false c.loop-place.invariant)
