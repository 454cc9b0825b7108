-- Worked rows of consumers: deliveries, acknowledgements, redelivery, pulls, heartbeats, retention.
use Rattle.std.specs.Prelude.{ℕ, ◌≡◌, Bool, true, false, [], ◌∷◌, Some, None, codes, refl, map}
use Rattle.std.proofs.Common.{lit<}
use Rattle.std.specs.Fmt.{digits}
use Rattle.js_base.specs.Bytes.{Bytes}
use Rattle.js_base.specs.declared.out.Out.{Out}
use Rattle.js_model.specs.declared.stream_config.Retention.TheVariants.{Interest, WorkQueue}
use Rattle.js_model.specs.declared.consumer_config.AckPolicy.TheVariants.{All as AckAll}
use Rattle.js_model.specs.declared.stream.State.{State}
use Rattle.js_model.specs.declared.ack.AckKind.TheVariants.{Ack as Acknowledge, Nak, Wpi}
use Rattle.js_model.specs.declared.event.GetBy.TheVariants.{Seq}
use Rattle.js_model.specs.declared.event.What.{What}
use Rattle.js_model.specs.declared.event.What.TheVariants.{Ack as AckIt, Pull as PullIt, Tick, MessageGet, DropConsumer, ConsumerInfo as AskConsumer}
use Rattle.js_model.specs.declared.reply.Reply.TheVariants.{ConsumerInfo as ConsumerTold, Confirmed, Refused}
use Rattle.js_model.specs.declared.entry.Delivered.TheVariants.{Sent, TooSmall, Emptied}
use Rattle.js_model.specs.Refusals.{refusal}
use Rattle.js_model.specs.Advance.{advance, advance_outs}
use Rattle.js_model.specs.Retention.{kept}
use Rattle.js_model.specs.Trim.{trim}
use Rattle.js_model.specs.Verdict.{verdict}
use Rattle.js_model.specs.Events.{answered}
use Rattle.js_model.specs.Deliver.{candidates, IsDelivered}
use Rattle.js_model.specs.Ready.{some_ready}
use Rattle.js_model.proofs.Samples.{t0, orders, worker, make, hello, say, make_consumer, ask_of, pull, ack, after, state_after, reply_to, outs_to, seqs_in, consumers_in, inbox, message, status_to, to_worker, delivered_to, delivered}

abbrev pull_for : Bytes → What
pull_for name = PullIt (Some (codes "_P")) name (Some (ask_of 1))

abbrev ack_of : Bytes → ℕ → What
ack_of name n = AckIt inbox (record { stream = codes "ORDERS"; consumer = name; seq = n; kind = Acknowledge })

-- what is sent to `_P` with this reply subject
abbrev sent_out : Bytes → Bytes → Out
sent_out reply payload = record { to = codes "_P"; subject = codes "orders.a"; reply = Some reply; headers = []; payload = payload }

abbrev is_ready_at : State → ℕ → Bool
is_ready_at s now = some_ready s now []

-- ---- one message, and a pull of three that does not wait: a delivery, and then a 404

abbrev asked : State
asked = state_after ((make orders, t0) ∷ (make_consumer worker, t0) ∷ (hello, t0) ∷ (pull (record (ask_of 3) { no_wait = true }), t0) ∷ [])

first_delivery : IsDelivered asked t0 [] (to_worker (Sent 1 1 1)) (sent_out (codes "$JS.ACK.ORDERS.W.1.1.1.1700000000000000000.0") (codes "hello") ∷ []) (delivered asked t0)
unfolding answered advance advance_outs kept trim verdict candidates digits
first_delivery = record {
  consumer = _;
  after = _;
  own = _;
  found = refl;
  delivers = record {
    message = message 1 t0 (codes "hello");
    candidate = (0, lit< tt, refl);
    seq_is = refl;
    wanted = refl;
    count_is = refl;
    dseq_is = refl;
    after_is = refl;
    outs_are = refl;
  };
  outs_are = refl;
  new_is = refl;
}

nothing_left : (new : State) × IsDelivered (delivered asked t0) t0 [] (to_worker Emptied) (status_to (codes "NATS/1.0 404 No Messages\r\n\r\n") ∷ []) new
unfolding answered advance advance_outs kept trim verdict candidates digits
nothing_left = (
  _,
  record {
    consumer = _;
    after = _;
    own = _;
    found = refl;
    delivers = record {
      pull = _;
      none = refl;
      first = refl;
      after_is = refl;
      outs_are = refl;
    };
    outs_are = refl;
    new_is = refl;
  },
)

-- the block that its first pull does not allow ends the pull
abbrev small_pull : State
small_pull = state_after ((make orders, t0) ∷ (make_consumer worker, t0) ∷ (hello, t0) ∷ (pull (record (ask_of 3) { max_bytes = Some 12 }), t0) ∷ [])

too_small : (new : State) × IsDelivered small_pull t0 [] (to_worker TooSmall)
    (status_to (codes "NATS/1.0 409 Message Size Exceeds MaxBytes\r\nNats-Pending-Messages: 3\r\nNats-Pending-Bytes: 12\r\n\r\n") ∷ []) new
unfolding answered advance advance_outs kept trim verdict candidates digits
too_small = (
  _,
  record {
    consumer = _;
    after = _;
    own = _;
    found = refl;
    delivers = record {
      message = message 1 t0 (codes "hello");
      front = _;
      rest = [];
      candidate = (0, lit< tt, refl);
      pull = refl;
      waiting_is = refl;
      small = refl;
      after_is = refl;
      outs_are = refl;
    };
    outs_are = refl;
    new_is = refl;
  },
)

-- ---- a pull that ends

abbrev expiring : State
expiring = state_after ((make orders, t0) ∷ (make_consumer worker, t0) ∷ (pull (record (ask_of 3) { expires = 1000000000 }), t0) ∷ [])

not_ended : outs_to expiring Tick 1700000000999999999 ≡ []
unfolding answered advance advance_outs kept trim verdict digits
not_ended = refl

ended : outs_to expiring Tick 1700000001000000000
    ≡ status_to (codes "NATS/1.0 408 Request Timeout\r\nNats-Pending-Messages: 3\r\nNats-Pending-Bytes: 0\r\n\r\n") ∷ []
unfolding answered advance advance_outs kept trim verdict digits
ended = refl

-- ---- one delivery at a time

abbrev one_at_a_time : State
one_at_a_time = state_after ((make orders, t0) ∷ (make_consumer (record worker { max_ack_pending = Some 1 }), t0) ∷ (say (codes "a"), t0) ∷ (say (codes "b"), t0) ∷ (pull (ask_of 2), t0) ∷ [])

only_one : is_ready_at (delivered one_at_a_time t0) t0 ≡ false
unfolding answered advance advance_outs kept trim verdict candidates
only_one = refl

then_the_other : (new : State) × IsDelivered (after (delivered one_at_a_time t0) (ack 1 Acknowledge, t0)) t0 [] (to_worker (Sent 2 1 2))
    (sent_out (codes "$JS.ACK.ORDERS.W.1.2.2.1700000000000000000.0") (codes "b") ∷ []) new
unfolding answered advance advance_outs kept trim verdict candidates digits
then_the_other = (
  _,
  record {
    consumer = _;
    after = _;
    own = _;
    found = refl;
    delivers = record {
      message = message 2 t0 (codes "b");
      candidate = (0, lit< tt, refl);
      seq_is = refl;
      wanted = refl;
      count_is = refl;
      dseq_is = refl;
      after_is = refl;
      outs_are = refl;
    };
    outs_are = refl;
    new_is = refl;
  },
)

-- ---- a delivery that is not acknowledged is made again after the ack wait

abbrev waiting : State
waiting = delivered (state_after ((make orders, t0) ∷ (make_consumer worker, t0) ∷ (hello, t0) ∷ (pull (ask_of 2), t0) ∷ [])) t0

not_due : is_ready_at waiting 1700000029999999999 ≡ false
unfolding answered advance advance_outs kept trim verdict candidates
not_due = refl

due : (new : State) × IsDelivered waiting 1700000030000000000 [] (to_worker (Sent 1 2 2))
    (sent_out (codes "$JS.ACK.ORDERS.W.2.1.2.1700000000000000000.0") (codes "hello") ∷ []) new
unfolding answered advance advance_outs kept trim verdict candidates digits
due = (
  _,
  record {
    consumer = _;
    after = _;
    own = _;
    found = refl;
    delivers = record {
      message = message 1 t0 (codes "hello");
      candidate = (0, lit< tt, refl);
      seq_is = refl;
      wanted = refl;
      count_is = refl;
      dseq_is = refl;
      after_is = refl;
      outs_are = refl;
    };
    outs_are = refl;
    new_is = refl;
  },
)

-- an acknowledgement of the first delivery ends the entry after the second one too
confirmed : reply_to (delivered waiting 1700000030000000000) (ack 1 Acknowledge) 1700000030000000000 ≡ Confirmed
unfolding answered advance advance_outs kept trim verdict candidates
confirmed = refl

nothing_pending : map (λ c. c.pending) (consumers_in (after (delivered waiting 1700000030000000000) (ack 1 Acknowledge, 1700000030000000000))) ≡ [] ∷ []
unfolding answered advance advance_outs kept trim verdict candidates
nothing_pending = refl

-- a refusal with a delay, and work in progress, move the due time
delayed : is_ready_at (after waiting (ack 1 (Nak 1000000000), t0)) 1700000000999999999 ≡ false
unfolding answered advance advance_outs kept trim verdict candidates
delayed = refl

delay_over : is_ready_at (after waiting (ack 1 (Nak 1000000000), t0)) 1700000001000000000 ≡ true
unfolding answered advance advance_outs kept trim verdict candidates
delay_over = refl

in_progress : is_ready_at (after waiting (ack 1 Wpi, 1700000020000000000)) 1700000049999999999 ≡ false
unfolding answered advance advance_outs kept trim verdict candidates
in_progress = refl

progress_over : is_ready_at (after waiting (ack 1 Wpi, 1700000020000000000)) 1700000050000000000 ≡ true
unfolding answered advance advance_outs kept trim verdict candidates
progress_over = refl

-- an acknowledgement of all up to the second of three
abbrev three_sent : State
three_sent = delivered (delivered (delivered (state_after ((make orders, t0) ∷ (make_consumer (record worker { ack_policy = AckAll }), t0) ∷ (say (codes "a"), t0) ∷ (say (codes "b"), t0) ∷ (say (codes "c"), t0) ∷ (pull (ask_of 3), t0) ∷ [])) t0) t0) t0

all_up_to_two : reply_to (after three_sent (ack 2 Acknowledge, t0)) (AskConsumer inbox (codes "W")) t0
    ≡ ConsumerTold (record {
      stream = codes "ORDERS";
      name = codes "W";
      made = t0;
      config = record worker { ack_policy = AckAll };
      info = record { consumer_seq = 3; stream_seq = 3; ack_floor = 2; ack_pending = 1; pending = 0; redelivered = 0; waiting = 0 };
    })
unfolding answered advance advance_outs kept trim verdict candidates
all_up_to_two = refl

-- ---- retention

-- a message that was given up stays in a work queue until it is acknowledged
abbrev queue : State
queue = after (delivered (state_after ((make (record orders { retention = WorkQueue }), t0) ∷ (make_consumer (record worker { max_deliver = Some 1 }), t0) ∷ (hello, t0) ∷ (pull (ask_of 2), t0) ∷ [])) t0) (ack 1 (Nak 0), t0)

given_up : map (λ c. c.given_up) (consumers_in (after queue (Tick, t0))) ≡ (1 ∷ []) ∷ []
unfolding answered advance advance_outs kept trim verdict candidates
given_up = refl

not_again : is_ready_at (after queue (Tick, t0)) t0 ≡ false
unfolding answered advance advance_outs kept trim verdict candidates
not_again = refl

still_there : seqs_in (after queue (Tick, t0)) ≡ 1 ∷ []
unfolding answered advance advance_outs kept trim verdict candidates
still_there = refl

removed : reply_to (after (after queue (Tick, t0)) (ack 1 Acknowledge, t0)) (MessageGet inbox (Seq 1)) t0 ≡ Refused (refusal 404 10037 (codes "no message found"))
unfolding answered advance advance_outs kept trim verdict candidates
removed = refl

-- a message stays while one of two consumers needs it
abbrev two_sent : State
two_sent = delivered (delivered_to (codes "A") (state_after ((make (record orders { retention = Interest }), t0) ∷ (make_consumer (record worker { name = codes "A" }), t0) ∷ (make_consumer worker, t0) ∷ (hello, t0) ∷ (pull_for (codes "A"), t0) ∷ (pull (ask_of 1), t0) ∷ [])) t0) t0

first_acknowledged : seqs_in (after two_sent (ack_of (codes "A") 1, t0)) ≡ 1 ∷ []
unfolding answered advance advance_outs kept trim verdict candidates
first_acknowledged = refl

both_acknowledged : seqs_in (after (after two_sent (ack_of (codes "A") 1, t0)) (ack 1 Acknowledge, t0)) ≡ []
unfolding answered advance advance_outs kept trim verdict candidates
both_acknowledged = refl

-- the filters of two consumers of a work queue may not meet
rivals : reply_to (state_after ((make (record orders { retention = WorkQueue; subjects = codes "q.*" ∷ [] }), t0) ∷ (make_consumer (record worker { filter_subject = codes "q.*" }), t0) ∷ [])) (make_consumer (record worker { name = codes "V"; filter_subject = codes "q.a" })) t0
    ≡ Refused (refusal 400 20004 (codes "work queue rule: filter_subject"))
unfolding answered advance advance_outs kept trim verdict
rivals = refl

-- ---- a limit drops the pending entry of its message, and nothing else of the consumer

abbrev overtaken : State
overtaken = after (after (delivered (state_after ((make (record orders { max_msgs = Some 2 }), t0) ∷ (make_consumer worker, t0) ∷ (hello, t0) ∷ (pull (ask_of 2), t0) ∷ [])) t0) (hello, t0)) (hello, t0)

entry_gone : map (λ c. c.pending) (consumers_in overtaken) ≡ [] ∷ []
unfolding answered advance advance_outs kept trim verdict candidates
entry_gone = refl

cursor_stays : map (λ c. c.cursor) (consumers_in overtaken) ≡ 2 ∷ []
unfolding answered advance advance_outs kept trim verdict candidates
cursor_stays = refl

-- ---- push consumers, and consumers that go

abbrev pushed : State
pushed = state_after ((make orders, t0) ∷ (make_consumer (record worker { name = codes "P"; deliver_subject = codes "D"; idle_heartbeat = 5000000000 }), t0) ∷ (hello, t0) ∷ [])

not_listened : some_ready pushed t0 [] ≡ false
unfolding answered advance advance_outs kept trim verdict candidates
not_listened = refl

listened : some_ready pushed t0 (codes "P" ∷ []) ≡ true
unfolding answered advance advance_outs kept trim verdict candidates
listened = refl

beats : outs_to (delivered_to (codes "P") pushed t0) Tick 1700000005000000000
    ≡ record { to = codes "D"; subject = codes "D"; reply = None; headers = codes "NATS/1.0 100 Idle Heartbeat\r\nNats-Last-Consumer: 1\r\nNats-Last-Stream: 1\r\n\r\n"; payload = [] } ∷ []
unfolding answered advance advance_outs kept trim verdict candidates digits
beats = refl

farewell : outs_to (state_after ((make orders, t0) ∷ (make_consumer worker, t0) ∷ (pull (ask_of 1), t0) ∷ [])) (DropConsumer inbox (codes "W")) t0
    ≡ status_to (codes "NATS/1.0 409 Consumer Deleted\r\n\r\n") ∷ []
unfolding answered advance advance_outs kept trim verdict digits
farewell = refl
