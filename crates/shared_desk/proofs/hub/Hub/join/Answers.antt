use Rattle.std.proofs.Common.{ap, sym, ◌∙◌, length}
use Rattle.std.proofs.lemmas.Slice.Zip.{AllZip-long}
use Rattle.shared_desk.specs.Seats.{IsSeatOf, seats_in}
use Rattle.shared_desk.proofs.Passing.{is_seated, still_within}
use Rattle.shared_desk.proofs.hub.Hub.join.Goals as goal

pub invariant_of-result : goal.invariant_of-result
invariant_of-result g c = record {
  at_router = is_seated c.router.result.now c.join_one.result c.join_one.ensures.own;
  at_catalog = is_seated c.catalog.result.now c.join_one-2.result c.join_one-2.ensures.own;
  there = c.join_rows.ensures.own.0;
  within = still_within c.one.inside.last (length (seats_in c.one.inside.places.items)) (length (seats_in c.join_rows.result.items))
      (AllZip-long IsSeatOf c.args.self.now.places (seats_in c.join_rows.result.items) c.join_rows.ensures.own.1
      ∙ sym (ap length (ap (λ p. p.fronts.places) c.one.view_is) ∙ AllZip-long IsSeatOf c.args.self.now.places c.args.one.fronts.places c.requires.own.0.places))
      c.one.invariant.within;
}
