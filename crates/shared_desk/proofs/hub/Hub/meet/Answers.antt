use Rattle.std.proofs.Common.{ap, sym, ◌∙◌, length}
use Rattle.hub_fronts.specs.Fronts.{SharedScene}
use Rattle.shared_desk.specs.Seats.{seats_in}
use Rattle.shared_desk.proofs.Passing.{is_seated, still_within}
use Rattle.shared_desk.proofs.Seats.{zip_long}
use Rattle.shared_desk.proofs.hub.Hub.meet.Goals as goal

pub invariant_of-one : goal.invariant_of-one
invariant_of-one g c = record {
  at_router = is_seated c.router.result.now c.meet_one.new.one c.meet_one.ensures.own;
  at_catalog = is_seated c.catalog.result.now c.meet_one-2.new.one c.meet_one-2.ensures.own;
  there = c.meet_each.ensures.own.0;
  within =
      still_within c.one.inside.last (length (seats_in c.one.inside.places.items)) (length (seats_in c.meet_each.new.ones.items))
      (zip_long c.args.self.now.places (seats_in c.meet_each.new.ones.items) c.meet_each.ensures.own.1
      ∙ sym (ap (λ (scene : SharedScene). length scene.fronts.places) c.one.view_is ∙ zip_long c.args.self.now.places c.args.one.now.fronts.places c.requires.own.0.places))
      c.one.invariant.within;
}
