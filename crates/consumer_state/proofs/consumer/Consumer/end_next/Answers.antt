use Rattle.std.specs.Prelude.{nat_le, ◌==◌, false, None}
use Rattle.consumer_state.specs.Ending.{ack_ends}
use Rattle.consumer_state.proofs.Steps.{acks, ends_as, no_ends, nothing_ends}
use Rattle.consumer_state.specs.Keeping.{kept_of}
use Rattle.consumer_state.proofs.consumer.Consumer.end_next.Goals as goal

pub returns-then-is_no_delivery : goal.returns-then-is_no_delivery
returns-then-is_no_delivery c = record { value = no_ends c.args.self.now c.args.ack.now.seq c.args.ack.now.kind c.if-is_no_delivery.ensures.value }

pub returns-in-UpTo : goal.returns-in-UpTo
returns-in-UpTo c = record {
  value =
      ends_as (λ n. nat_le n c.args.ack.now.seq) (ack_ends c.args.self.now c.args.ack.now.seq c.args.ack.now.kind)
      (acks (kept_of c.self.inside.name c.self.inside.made c.self.inside.config c.self.inside.progress c.self.inside.pulls c.self.inside.mark) c.args.self.now c.self.view_is c.args.ack.now.seq c.args.ack.now.kind c.if-is_no_delivery.ensures.value (λ n. nat_le n c.args.ack.now.seq) (λ m. c.in-UpTo.ensures.value c.args.ack.now.seq m))
      c.args.self.now c.end_up_to.new.self c.end_up_to.result c.end_up_to.ensures.value;
}

pub returns-in-Own : goal.returns-in-Own
returns-in-Own c = record {
  value =
      ends_as (λ n. n == c.args.ack.now.seq) (ack_ends c.args.self.now c.args.ack.now.seq c.args.ack.now.kind)
      (acks (kept_of c.self.inside.name c.self.inside.made c.self.inside.config c.self.inside.progress c.self.inside.pulls c.self.inside.mark) c.args.self.now c.self.view_is c.args.ack.now.seq c.args.ack.now.kind c.if-is_no_delivery.ensures.value (λ n. n == c.args.ack.now.seq) (λ m. c.in-Own.ensures.value c.args.ack.now.seq m))
      c.args.self.now c.end.new.self c.end.result c.end.ensures.value;
}

pub returns-in-Nothing : goal.returns-in-Nothing
returns-in-Nothing c = record {
  value =
      ends_as (λ n. false) (ack_ends c.args.self.now c.args.ack.now.seq c.args.ack.now.kind)
      (acks (kept_of c.self.inside.name c.self.inside.made c.self.inside.config c.self.inside.progress c.self.inside.pulls c.self.inside.mark) c.args.self.now c.self.view_is c.args.ack.now.seq c.args.ack.now.kind c.if-is_no_delivery.ensures.value (λ n. false) (λ m. c.in-Nothing.ensures.value c.args.ack.now.seq m))
      c.args.self.now c.args.self.now None (nothing_ends c.args.self.now);
}
