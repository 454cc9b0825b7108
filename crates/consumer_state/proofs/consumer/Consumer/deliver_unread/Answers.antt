use Rattle.std.proofs.Common.{◌≡◌, ◌+◌, ◌-◌, ap, subst, sym, ◌∙◌}
use Rattle.js_model.specs.declared.entry.Delivered.TheVariants.{Sent}
use Rattle.js_model.specs.Deliver.{count_of, sent_to}
use Rattle.js_model.specs.Streams.{sent_size}
use Rattle.consumer_state.specs.declared.delivering.Demand.TheVariants.{Asked}
use Rattle.consumer_state.specs.Delivering.{demand_of}
use Rattle.consumer_state.specs.Sending.{IsSendable}
use Rattle.consumer_state.proofs.Deliveries.{allows_is}
use Rattle.consumer_state.proofs.Lefts.{left_after_is, sendable_is}
use Rattle.consumer_state.proofs.Unreads.{bytes_are, sent_unread}
use Rattle.consumer_state.proofs.consumer.Consumer.deliver_unread.Goals as goal

pub send_unread-requires : goal.send_unread-requires
send_unread-requires g c =
    let seq : c.head.inside.seq ≡ c.requires.next.message.seq = ap (λ h. h.seq) (c.head.view_is ∙ c.requires.next.head_is) in
    let bytes : c.head.inside.size - 40 ≡ sent_size c.requires.next.message = bytes_are _ c.requires.next.message (c.head.view_is ∙ c.requires.next.head_is) in
    let asked : demand_of c.args.listened c.args.self.now (sent_size c.requires.next.message) ≡ Asked = ap (demand_of c.args.listened c.args.self.now) (sym bytes) ∙ sym c.demand.ensures.value ∙ c.in-Asked.is in
    record {
      sendable =
          subst (λ n. IsSendable c.args.self.now n (c.head.inside.size - 40)) (sym seq)
          (subst (λ n. IsSendable c.args.self.now c.requires.next.message.seq n) (sym bytes)
          (sendable_is (g.W.View.stream c.args.stream.now) c.args.self.now c.requires.next.message c.holds.ensures.consumer c.holds.ensures.progress c.requires.current.order c.requires.next.candidate (allows_is c.args.listened c.args.self.now (sent_size c.requires.next.message) asked)));
    }

pub returns-in_ok-send_unread-in-Asked-clause-delivered : goal.returns-in_ok-send_unread-in-Asked-clause-delivered
returns-in_ok-send_unread-in-Asked-clause-delivered g c =
    let seq : c.head.inside.seq ≡ c.requires.next.message.seq = ap (λ h. h.seq) (c.head.view_is ∙ c.requires.next.head_is) in
    let bytes : c.head.inside.size - 40 ≡ sent_size c.requires.next.message = bytes_are _ c.requires.next.message (c.head.view_is ∙ c.requires.next.head_is) in
    let asked : demand_of c.args.listened c.args.self.now (sent_size c.requires.next.message) ≡ Asked = ap (demand_of c.args.listened c.args.self.now) (sym bytes) ∙ sym c.demand.ensures.value ∙ c.in-Asked.is in
    sent_unread (g.W.View.stream c.args.stream.now) c.args.listened c.requires.next.message c.args.head.now c.args.self.now c.in_ok-send_unread-in-Asked.field-0 c.send_unread.new.self c.requires.next.head_is c.requires.next.candidate asked
    (left_after_is (g.W.View.stream c.args.stream.now) c.args.self.now c.requires.next.message c.holds.ensures.consumer c.holds.ensures.progress c.requires.current.order c.requires.next.candidate (g.W.View.stream c.args.stream.now).moment)
    (c.in_ok-send_unread-in-Asked.ensures.what ∙ ap (λ n. Sent n (count_of c.args.self.now n + 1) (c.args.self.now.dseq + 1)) seq)
    (c.in_ok-send_unread-in-Asked.ensures.ok c.requires.next.message (sym seq) (sym bytes) ∙ ap (λ n. sent_to n c.requires.next.message c.args.self.now) c.moment-now.ensures.value)
