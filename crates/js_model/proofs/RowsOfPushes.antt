-- Worked rows of push consumers: what a delivery sends to the deliver subject, and when one can be made.
use Rattle.std.specs.Prelude.{◌≡◌, false, true, [], ◌∷◌, Some, codes, refl, map}
use Rattle.std.proofs.Common.{lit<}
use Rattle.std.specs.Fmt.{digits}
use Rattle.js_base.specs.Bytes.{Bytes}
use Rattle.js_base.specs.declared.out.Out.{Out}
use Rattle.js_model.specs.declared.consumer_config.AckPolicy.TheVariants.{None as NoAck}
use Rattle.js_model.specs.declared.consumer_config.ConsumerConfig.{ConsumerConfig}
use Rattle.js_model.specs.declared.stream.State.{State}
use Rattle.js_model.specs.declared.entry.Delivered.TheVariants.{Sent}
use Rattle.js_model.specs.declared.event.What.{What}
use Rattle.js_model.specs.declared.event.What.TheVariants.{Publish as PublishIt}
use Rattle.js_model.specs.Advance.{advance, advance_outs}
use Rattle.js_model.specs.Retention.{kept}
use Rattle.js_model.specs.Trim.{trim}
use Rattle.js_model.specs.Verdict.{verdict}
use Rattle.js_model.specs.Events.{answered}
use Rattle.js_model.specs.Deliver.{candidates, IsDelivered}
use Rattle.js_model.specs.Ready.{some_ready}
use Rattle.js_model.proofs.Samples.{t0, orders, worker, make, say, make_consumer, state_after, consumers_in, inbox, wants_nothing, message, to_worker, delivered}

-- a consumer whose messages go to `D`
abbrev pusher : ConsumerConfig
pusher = record worker { deliver_subject = codes "D" }

abbrev block : Bytes
block = codes "NATS/1.0\r\nA: b\r\n\r\n"

abbrev with_block : What
with_block = PublishIt (record { reply = inbox; subject = codes "orders.b"; headers = block; payload = codes "two"; wants = wants_nothing })

-- two messages wait for it, the second with a header block
abbrev pushed : ConsumerConfig → State
pushed config = state_after ((make orders, t0) ∷ (make_consumer config, t0) ∷ (say (codes "one"), t0) ∷ (with_block, 1700000000000000005) ∷ [])

-- what is sent for the first one, with the subject on which it is acknowledged
abbrev first_out : Bytes → Out
first_out reply = record { to = codes "D"; subject = codes "orders.a"; reply = Some reply; headers = []; payload = codes "one" }

-- the first message goes to `D`, on its own subject: delivered once, sequence 1, consumer sequence 1, stored at t0, one more to come
first : (new : State) × IsDelivered (pushed pusher) 1700000000000000009 (codes "W" ∷ []) (to_worker (Sent 1 1 1))
    (first_out (codes "$JS.ACK.ORDERS.W.1.1.1.1700000000000000000.1") ∷ []) new
unfolding answered advance advance_outs kept trim verdict candidates digits
first = (
  _,
  record {
    consumer = _;
    after = _;
    own = _;
    found = refl;
    delivers = record {
      message = message 1 t0 (codes "one");
      candidate = (0, lit< tt, refl);
      seq_is = refl;
      wanted = refl;
      count_is = refl;
      dseq_is = refl;
      after_is = refl;
      outs_are = refl;
    };
    outs_are = refl;
    new_is = refl;
  },
)

-- the second goes with its header block: its own moment, and none to come
second : (new : State) × IsDelivered (delivered (pushed pusher) 1700000000000000009) 1700000000000000009 (codes "W" ∷ []) (to_worker (Sent 2 1 2))
    (record { to = codes "D"; subject = codes "orders.b"; reply = Some (codes "$JS.ACK.ORDERS.W.1.2.2.1700000000000000005.0"); headers = block; payload = codes "two" } ∷ []) new
unfolding answered advance advance_outs kept trim verdict candidates digits
second = (
  _,
  record {
    consumer = _;
    after = _;
    own = _;
    found = refl;
    delivers = record {
      message = record { seq = 2; at = 1700000000000000005; subject = codes "orders.b"; headers = block; payload = codes "two" };
      candidate = (0, lit< tt, refl);
      seq_is = refl;
      wanted = refl;
      count_is = refl;
      dseq_is = refl;
      after_is = refl;
      outs_are = refl;
    };
    outs_are = refl;
    new_is = refl;
  },
)

-- the first one waits for its acknowledgement for 30 s from its delivery on, and the moment of the delivery is the consumer's mark
pending : map (λ c. c.pending) (consumers_in (delivered (pushed pusher) 1700000000000000009)) ≡ (record { seq = 1; count = 1; due = 1700000030000000009 } ∷ []) ∷ []
unfolding answered advance advance_outs kept trim verdict candidates
pending = refl

marked : map (λ c. c.mark) (consumers_in (delivered (pushed pusher) 1700000000000000009)) ≡ 1700000000000000009 ∷ []
unfolding answered advance advance_outs kept trim verdict candidates
marked = refl

-- when it is due, it goes to `D` again: delivered twice, consumer sequence 3
again : (new : State) × IsDelivered (delivered (delivered (pushed pusher) 1700000000000000009) 1700000000000000009) 1700000030000000009 (codes "W" ∷ []) (to_worker (Sent 1 2 3))
    (first_out (codes "$JS.ACK.ORDERS.W.2.1.3.1700000000000000000.0") ∷ []) new
unfolding answered advance advance_outs kept trim verdict candidates digits
again = (
  _,
  record {
    consumer = _;
    after = _;
    own = _;
    found = refl;
    delivers = record {
      message = message 1 t0 (codes "one");
      candidate = (0, lit< tt, refl);
      seq_is = refl;
      wanted = refl;
      count_is = refl;
      dseq_is = refl;
      after_is = refl;
      outs_are = refl;
    };
    outs_are = refl;
    new_is = refl;
  },
)

-- with policy `none` the same is sent, and nothing waits for an acknowledgement
unacknowledged : (new : State) × IsDelivered (pushed (record pusher { ack_policy = NoAck })) t0 (codes "W" ∷ []) (to_worker (Sent 1 1 1))
    (first_out (codes "$JS.ACK.ORDERS.W.1.1.1.1700000000000000000.1") ∷ []) new
unfolding answered advance advance_outs kept trim verdict candidates digits
unacknowledged = (
  _,
  record {
    consumer = _;
    after = _;
    own = _;
    found = refl;
    delivers = record {
      message = message 1 t0 (codes "one");
      candidate = (0, lit< tt, refl);
      seq_is = refl;
      wanted = refl;
      count_is = refl;
      dseq_is = refl;
      after_is = refl;
      outs_are = refl;
    };
    outs_are = refl;
    new_is = refl;
  },
)

nothing_pending : map (λ c. c.pending) (consumers_in (delivered (pushed (record pusher { ack_policy = NoAck })) t0)) ≡ [] ∷ []
unfolding answered advance advance_outs kept trim verdict candidates
nothing_pending = refl

-- ---- when one can be made

-- only while somebody listens to it, and not to another one
not_listened : some_ready (pushed pusher) t0 (codes "V" ∷ []) ≡ false
unfolding answered advance advance_outs kept trim verdict candidates
not_listened = refl

listened : some_ready (pushed pusher) t0 (codes "V" ∷ codes "W" ∷ []) ≡ true
unfolding answered advance advance_outs kept trim verdict candidates
listened = refl

-- not past max_ack_pending, even if somebody listens
limited : some_ready (delivered (pushed (record pusher { max_ack_pending = Some 1 })) t0) t0 (codes "W" ∷ []) ≡ false
unfolding answered advance advance_outs kept trim verdict candidates
limited = refl

-- with policy `none` there is no such limit
unlimited : some_ready (delivered (pushed (record pusher { ack_policy = NoAck; max_ack_pending = Some 1 })) t0) t0 (codes "W" ∷ []) ≡ true
unfolding answered advance advance_outs kept trim verdict candidates
unlimited = refl
