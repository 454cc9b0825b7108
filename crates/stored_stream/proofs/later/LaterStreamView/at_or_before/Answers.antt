use Rattle.std.proofs.Common.{Some, sym, ap, ◌∙◌, arith}
use Rattle.std.specs.Prelude.{filter, nat_le, None}
use Rattle.std.specs.List.{last_or}
use Rattle.js_model.specs.declared.stream.Message.{Message}
use Rattle.stored_stream.proofs.Latest.{head_still_there, head_too_early, last_head_seen, no_head_before}
use Rattle.stored_stream.proofs.later.LaterStreamView.at_or_before.Goals as goal

pub returns-in_err-head : goal.returns-in_err-head
returns-in_err-head c =
    let i = c.self.inside in
    let last = last_or None (filter (λ (m : Message). nat_le m.seq c.args.seq) i.stored.now.messages) in
    record { value = rw (← c.self.view_is) (c.from_residual.ensures ∙ no_head_before i.first last c.in_err-head.ensures.value ∙ sym (last_head_seen i.stored.now i.now i.first c.args.seq c.self.invariant)) }

pub returns-then-head-self : goal.returns-then-head-self
returns-then-head-self c =
    let i = c.self.inside in
    let last = last_or None (filter (λ (m : Message). nat_le m.seq c.args.seq) i.stored.now.messages) in
    record {
      value = rw (← c.self.view_is)
          (head_too_early i.first _ last (ap Some c.head.view_is ∙ c.in_ok-head.ensures.value) c.if-head-self.true ∙ sym (last_head_seen i.stored.now i.now i.first c.args.seq c.self.invariant));
    }

pub returns-else-head-self : goal.returns-else-head-self
returns-else-head-self c =
    let i = c.self.inside in
    let last = last_or None (filter (λ (m : Message). nat_le m.seq c.args.seq) i.stored.now.messages) in
    record {
      value = rw (← c.self.view_is)
          (ap Some (sym c.head.view_is) ∙ head_still_there i.first _ last (ap Some c.head.view_is ∙ c.in_ok-head.ensures.value) (omega (arith, c.if-head-self.false)) ∙ sym (last_head_seen i.stored.now i.now i.first c.args.seq c.self.invariant));
    }
