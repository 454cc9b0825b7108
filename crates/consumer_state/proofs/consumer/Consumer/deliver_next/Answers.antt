use Rattle.std.proofs.Common.{◌<◌, ◌^◌, ap, subst, sym, ◌∙◌}
use Rattle.std.specs.Prelude.{IfSome}
use Rattle.std.specs.Option.{option_copied}
use Rattle.std.proofs.lemmas.Result.{IfOk-weaker}
use Rattle.js_model.specs.Streams.{sent_size, size}
use Rattle.consumer_state.specs.Offering.{IsNext}
use Rattle.consumer_state.specs.Delivering.{demand_of, left_after, IsMade, SendsOut}
use Rattle.consumer_state.proofs.Deliveries.{allows_is, sent_made}
use Rattle.consumer_state.proofs.Lefts.{left_after_is, sendable_is}
use Rattle.consumer_state.proofs.Steps.{no_wait_ready}
use Rattle.consumer_state.proofs.consumer.Consumer.deliver_next.Goals as goal

pub returns-in_default-clause-ready : goal.returns-in_default-clause-ready
returns-in_default-clause-ready g c =
    IfOk-weaker c.end_no_wait.result _ _
    (λ what w. no_wait_ready (g.W.View.stream c.args.stream.now) c.args.listened c.args.self.now what c.args.outs.now c.end_no_wait.new.outs c.end_no_wait.new.self (subst (λ o. IsNext (g.W.View.stream c.args.stream.now) c.args.self.now (option_copied o)) c.in_default.is c.requires.next) w)
    c.end_no_wait.ensures.ended

pub send-requires-clause-sendable : goal.send-requires-clause-sendable
send-requires-clause-sendable g c = sendable_is (g.W.View.stream c.args.stream.now) c.args.self.now c.in-Some.message.now c.holds.ensures.consumer c.holds.ensures.progress c.requires.current.order (subst (λ o. IsNext (g.W.View.stream c.args.stream.now) c.args.self.now (option_copied o)) c.in-Some.is c.requires.next) (allows_is c.args.listened c.args.self.now (sent_size c.in-Some.message.now) (ap (demand_of c.args.listened c.args.self.now) (sym c.sent_size-size.ensures.value) ∙ sym c.demand.ensures.value ∙ c.in-Asked.is))

pub send-requires-clause-small : goal.send-requires-clause-small
send-requires-clause-small g c = subst (λ o. IfSome (option_copied o) (λ m. size m < 2 ^ 64)) c.in-Some.is c.requires.small

pub returns-in_ok-send-in-Asked-clause-delivered : goal.returns-in_ok-send-in-Asked-clause-delivered
returns-in_ok-send-in-Asked-clause-delivered g c =
    let w : SendsOut (g.W.View.stream c.args.stream.now).config.name (g.W.View.stream c.args.stream.now).moment c.in-Some.message.now c.args.undelivered c.args.self.now c.in_ok-send-in-Asked.field-0 c.args.outs.now c.send.new.outs c.send.new.self =
    subst (λ n. SendsOut n (g.W.View.stream c.args.stream.now).moment c.in-Some.message.now c.args.undelivered c.args.self.now c.in_ok-send-in-Asked.field-0 c.args.outs.now c.send.new.outs c.send.new.self) (ap (λ config. config.name) c.config.ensures.value)
    (subst (λ n. SendsOut c.config.result.now.name n c.in-Some.message.now c.args.undelivered c.args.self.now c.in_ok-send-in-Asked.field-0 c.args.outs.now c.send.new.outs c.send.new.self) c.moment.ensures.value c.in_ok-send-in-Asked.ensures.sent) in
    subst (λ o. IsMade (g.W.View.stream c.args.stream.now) c.args.listened (option_copied o) c.args.undelivered c.args.self.now c.in_ok-send-in-Asked.field-0 c.args.outs.now c.send.new.outs c.send.new.self) (sym c.in-Some.is)
    (sent_made (g.W.View.stream c.args.stream.now) c.args.listened c.in-Some.message.now c.args.undelivered c.args.self.now c.in_ok-send-in-Asked.field-0 c.args.outs.now c.send.new.outs c.send.new.self (subst (λ o. IsNext (g.W.View.stream c.args.stream.now) c.args.self.now (option_copied o)) c.in-Some.is c.requires.next) (ap (demand_of c.args.listened c.args.self.now) (sym c.sent_size-size.ensures.value) ∙ sym c.demand.ensures.value ∙ c.in-Asked.is)
    (left_after_is (g.W.View.stream c.args.stream.now) c.args.self.now c.in-Some.message.now c.holds.ensures.consumer c.holds.ensures.progress c.requires.current.order (subst (λ o. IsNext (g.W.View.stream c.args.stream.now) c.args.self.now (option_copied o)) c.in-Some.is c.requires.next) (g.W.View.stream c.args.stream.now).moment ∙ ap (left_after c.args.self.now c.in-Some.message.now) (sym c.requires.current.count)) w)
