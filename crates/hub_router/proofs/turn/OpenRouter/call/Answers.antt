use Rattle.std.proofs.Common.{sym, subst}
use Rattle.turn_lock.specs.Calls.{added}
use Rattle.turn_lock.specs.Seats.{SeatView}
use Rattle.hub_router.specs.Calls.{IsCalledWithin, MayCall}
use Rattle.hub_router.proofs.Called.{called_within, open_called}
use Rattle.hub_router.proofs.turn.OpenRouter.call.Goals as goal

pub invariant_of-self : goal.invariant_of-self
invariant_of-self g c =
    let turn = c.self.inside in let call = g.C.RouterCall.call c.args.call.now in
    open_called turn.held.seat turn.entries.value turn.held.value c.make-answer.new.router call (g.C.RouterCall.told c.make-answer.result) c.number-number.result.value
    c.of.result.value c.self.invariant c.number-number.ensures.value c.of.ensures.value c.make-answer.ensures.routes
    (subst (λ (s : SeatView). MayCall s call) (sym c.self.view_is) c.requires.may)

pub returns : goal.returns
returns g c =
    let turn = c.self.inside in let call = g.C.RouterCall.call c.args.call.now in let told = g.C.RouterCall.told c.make-answer.result in
    record {
      called =
          subst (λ (s : SeatView). IsCalledWithin call told s (added turn.held.seat c.of.result.value)) c.self.view_is
          (called_within turn.held.seat turn.entries.value turn.held.value c.make-answer.new.router call told c.number-number.result.value
          c.of.result.value c.self.invariant c.number-number.ensures.value c.of.ensures.value c.make-answer.ensures.routes
          (subst (λ (s : SeatView). MayCall s call) (sym c.self.view_is) c.requires.may));
    }
