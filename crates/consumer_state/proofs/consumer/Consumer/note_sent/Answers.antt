use Rattle.std.proofs.Common.{subst, sym}
use Rattle.js_model.specs.declared.consumer.Consumer.{Consumer}
use Rattle.consumer_state.specs.Sending.{IsSendable}
use Rattle.consumer_state.proofs.KeptSent.{kept_pulls_after, kept_sent}
use Rattle.consumer_state.proofs.consumer.Consumer.note_sent.Goals as goal

pub invariant_of-self-2 : goal.invariant_of-self-2
invariant_of-self-2 c = kept_sent c.self.inside.name c.self.inside.made c.self.inside.config c.self.inside.progress c.self.inside.pulls c.self.inside.mark c.self.invariant c.args.seq c.args.size (subst (λ (x : Consumer). IsSendable x c.args.seq c.args.size) (sym c.self.view_is) c.requires.sendable) c.due_after-due.result c.sent.new.self c.in_ok-sent.ensures.ok c.self.inside.mark

pub invariant_of-self-then-is_push : goal.invariant_of-self-then-is_push
invariant_of-self-then-is_push c = kept_sent c.self.inside.name c.self.inside.made c.self.inside.config c.self.inside.progress c.self.inside.pulls c.self.inside.mark c.self.invariant c.args.seq c.args.size (subst (λ (x : Consumer). IsSendable x c.args.seq c.args.size) (sym c.self.view_is) c.requires.sendable) c.due_after-due.result c.sent.new.self c.in_ok-sent.ensures.ok c.args.now

pub invariant_of-self-else-is_push : goal.invariant_of-self-else-is_push
invariant_of-self-else-is_push c = kept_pulls_after c.self.inside.name c.self.inside.made c.self.inside.config c.self.inside.progress c.self.inside.pulls c.self.inside.mark c.self.invariant c.args.seq c.args.size (subst (λ (x : Consumer). IsSendable x c.args.seq c.args.size) (sym c.self.view_is) c.requires.sendable) c.due_after-due.result c.sent.new.self c.in_ok-sent.ensures.ok c.args.size c.args.now c.take_front.new.self c.take_front.ensures.left
