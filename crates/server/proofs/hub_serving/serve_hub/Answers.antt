use Rattle.std.proofs.Common.{◌≡◌, ◌∙◌, ap, refl, sym, subst, List, Option, ℕ}
use Rattle.hub_fronts.specs.Fronts.{SharedScene}
use Rattle.shared_desk.specs.Hubs.{HubView}
use Rattle.workers.specs.Doors.{DoorTold}
use Rattle.workers.specs.declared.serving.Came.{Came}
use Rattle.session.specs.declared.ending.Limits.{Limits}
use Rattle.workers.specs.Serving.{Serves}
use Rattle.link_edge.specs.Notices.{noticed}
use Rattle.place_engine.specs.declared.faults.PlaceFault.{PlaceFault}
use Rattle.server.specs.Closing.{closing_line, closing_status}
use Rattle.server.specs.HubServing.{HubServed, HubUnopened, most_of, outcome_of}
use Rattle.server.specs.Outside.{SinkTold, PrintsLine}
use Rattle.server.specs.declared.serving.Outcome.{Outcome}
use Rattle.server.proofs.Ended.{closing_unprinted, refused_unprinted}
use Rattle.server.proofs.HubServed.{all_after, later_by}
use Rattle.server.proofs.hub_serving.serve_hub.Goals as goal

-- the limits and the number of links are those of the words
served_so : (limits said : Limits) (accepts told : Option ℕ) (hub : HubView) (olds news : List SharedScene) (doors : DoorTold × DoorTold) (c : Came) → limits ≡ said → accepts ≡ told
    → Serves limits accepts hub olds news doors.0 doors.1 c → Serves said told hub olds news doors.0 doors.1 c
served_so limits said accepts told hub olds news doors c l a h =
    subst (λ (s : Limits). Serves s told hub olds news doors.0 doors.1 c) l (subst (λ (t : Option ℕ). Serves limits t hub olds news doors.0 doors.1 c) a h)

-- what was printed is what that outcome asks for
printed_so : (outcome said : Outcome) (failed : Option (ℕ × PlaceFault)) (old new : SinkTold) → outcome ≡ said → PrintsLine (closing_line outcome.status failed) old new
    → PrintsLine (closing_line said.status failed) old new
printed_so outcome said failed old new e h = subst (λ (o : Outcome). PrintsLine (closing_line o.status failed) old new) e h

pub serve_all-service-requires-clause-own : goal.serve_all-service-requires-clause-own
serve_all-service-requires-clause-own g c = λ lifetimes live. c.in-Ok-open.ensures.opened.all.each

pub close-vols-requires : goal.close-vols-requires
close-vols-requires g c = record {
  all = all_after c.law_numbers.ensures.law c.law_all.ensures.law _ _ _ _ _ _ _ c.serve_all-service.result.came c.in-Ok-open.ensures.opened.all c.serve_all-service.ensures.serves;
}

pub returns-in-Ok-open-clause-later : goal.returns-in-Ok-open-clause-later
returns-in-Ok-open-clause-later g c = later_by _ _ _ _ _ _ _ c.serve_all-service.result.came c.serve_all-service.ensures.serves

pub returns-in-Ok-open-clause-unprinted : goal.returns-in-Ok-open-clause-unprinted
returns-in-Ok-open-clause-unprinted g c = λ four five.
    let outcome = c.outcome_of.result in
    let closing = c.settle.ensures in
    ap (λ (sink : SinkTold). sink.written) (closing_unprinted outcome.served outcome.status c.close-vols.result.failed _ _ closing.printed (λ e. four (closing.status ∙ e)))

pub returns-in-Ok-open-clause-ends : goal.returns-in-Ok-open-clause-ends
returns-in-Ok-open-clause-ends g c = HubServed (record {
  hub = c.in-Ok-open.hub;
  passes = c.in-Ok-open.passes.items;
  after = c.serve_all-service.result.passes.items;
  came = c.serve_all-service.result.came;
  closed = c.close-vols.result;
  opens = c.in-Ok-open.ensures.opened;
  told = c.opened.ensures.told ∙ ap (noticed _) c.found_in.ensures;
  serves = served_so _ _ _ _ _ _ _ (_, _) c.serve_all-service.result.came c.in-Ok.ensures.limits c.most-accepts.ensures c.serve_all-service.ensures.serves;
  closes = c.close-vols.ensures.closes;
  vols = refl;
  status_is = c.settle.ensures.status ∙ ap (λ (o : Outcome). closing_status o.served o.status c.close-vols.result.failed) c.outcome_of.ensures;
  printed = printed_so _ _ _ _ _ c.outcome_of.ensures c.settle.ensures.printed;
  unread = refl;
})

pub returns-clause-ends : goal.returns-clause-ends
returns-clause-ends g c = HubUnopened (record {
  fault = c.in-Err.fault;
  refused = c.in-Err.ensures.err;
  vols = c.refuse-status.ensures.vols;
  status_is = c.refuse-status.ensures.status;
  printed = c.refuse-status.ensures.printed;
  unread = refl;
  door = refl;
  untold = refl;
})

pub returns-clause-unprinted : goal.returns-clause-unprinted
returns-clause-unprinted g c = λ four five.
    let refused = c.refuse-status.ensures in
    ap (λ (sink : SinkTold). sink.written) (refused_unprinted c.in-Err.fault _ _ refused.printed (λ e. four (refused.status ∙ e)) (λ e. five (refused.status ∙ e)))
