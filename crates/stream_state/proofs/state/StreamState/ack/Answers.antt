use Rattle.std.proofs.Common.{◌≡◌, None, ap, sym, ◌∙◌}
use Rattle.js_model.specs.declared.stream.Stream.{Stream}
use Rattle.retention.specs.Over.{next_over}
use Rattle.followed_stream.proofs.Ordered.{ordered_apart}
use Rattle.stream_state.specs.Answering.{due_if, ends_if}
use Rattle.stream_state.specs.declared.calls.Acknowledged.{Acknowledged}
use Rattle.stream_state.proofs.Calling.{ack_told, nobody_acks, outside_acked}
use Rattle.stream_state.proofs.Proper.{acked_kin, proper_with}
use Rattle.stream_state.proofs.Settling.{trimmed}
use Rattle.stream_state.proofs.state.StreamState.ack.Goals as goal

pub returns-in_default-clause-answers : goal.returns-in_default-clause-answers
returns-in_default-clause-answers c = rw (c.of_nothing.ensures.value, ← c.self.view_is) (nobody_acks c.self.inside.stream c.args.ack.now.consumer _ c.args.ack.now.seq c.args.ack.now.kind c.args.outs.now c.in_default.ensures.value)

pub returns-in_default-clause-settled : goal.returns-in_default-clause-settled
returns-in_default-clause-settled c = rw (← c.self.view_is) (trimmed c.self.inside.stream c.self.invariant.attended c.self.invariant.within)

pub ack-requires : goal.ack-requires
ack-requires c = record { within = c.in-Some.ensures.value.within }

pub invariant_of-self-2 : goal.invariant_of-self-2
invariant_of-self-2 c =
    let s = c.self.inside.stream in
    let p = c.in_ok-told.ensures.acked in
    record {
      attended = c.in_ok-told.ensures.sound;
      proper = rw p.left (proper_with s.consumers _ _ p.consumer p.found (acked_kin s.moment _ c.args.ack.now.seq c.args.ack.now.kind p.consumer) c.self.invariant.proper);
      within = ap (λ (x : Stream). next_over x) p.left ∙ c.self.invariant.within;
      kept = rw c.join-self-inside.ensures.value
          (outside_acked c.self.inside.loose s c.ack.new.self (ap (λ (x : Stream). x.messages) p.left) (ap (λ (x : Stream). x.config.retention) p.left) c.self.invariant.kept _ p.loose);
    }

pub returns-clause-answers : goal.returns-clause-answers
returns-clause-answers c =
    rw (← c.self.view_is)
    (ack_told c.self.inside.stream c.args.ack.now.consumer c.in-Some.place _ c.args.ack.now.seq c.args.ack.now.kind _ c.args.outs.now _ c.ack.new.self (ordered_apart c.self.inside.stream.consumers c.self.invariant.attended.ordered) c.in-Some.ensures.value c.in_ok-told.ensures.acked)

pub returns-clause-settled : goal.returns-clause-settled
returns-clause-settled c =
    let within : next_over c.ack.new.self ≡ None = ap (λ (x : Stream). next_over x) c.in_ok-told.ensures.acked.left ∙ c.self.invariant.within in
    trimmed c.ack.new.self c.in_ok-told.ensures.sound within

pub returns-in_err-told-clause-settled : goal.returns-in_err-told-clause-settled
returns-in_err-told-clause-settled c = rw c.in_err-told.ensures.err (trimmed c.self.inside.stream c.self.invariant.attended c.self.invariant.within)

pub returns-clause-ended : goal.returns-clause-ended
returns-clause-ended c =
    let p = c.in_ok-told.ensures.acked in
    rw (← c.self.view_is) (p.ended ∙ ap (ends_if c.args.ack.now.seq c.args.ack.now.kind) (sym p.found ∙ c.in-Some.ensures.value.found))

pub returns-clause-due : goal.returns-clause-due
returns-clause-due c =
    let p = c.in_ok-told.ensures.acked in
    rw (← c.self.view_is) (p.due ∙ ap (due_if c.self.inside.stream.moment c.args.ack.now.seq c.args.ack.now.kind) (sym p.found ∙ c.in-Some.ensures.value.found))

pub returns-in_default-clause-ended : goal.returns-in_default-clause-ended
returns-in_default-clause-ended c = rw (← c.self.view_is) (ap (λ (told : Acknowledged). told.ended) c.of_nothing.ensures.value ∙ sym (ap (ends_if c.args.ack.now.seq c.args.ack.now.kind) c.in_default.ensures.value))

pub returns-in_default-clause-due : goal.returns-in_default-clause-due
returns-in_default-clause-due c =
    rw (← c.self.view_is) (ap (λ (told : Acknowledged). told.due) c.of_nothing.ensures.value ∙ sym (ap (due_if c.self.inside.stream.moment c.args.ack.now.seq c.args.ack.now.kind) c.in_default.ensures.value))
