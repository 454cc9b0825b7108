-- Worked rows at edges: the last pull that may wait, a needed message that one nobody needs pushes out, and heartbeats at the last moment.
use Rattle.std.specs.Prelude.{◌≡◌, ◌-◌, ◌^◌, ℕ, List, [], ◌∷◌, Some, None, codes, refl, map}
use Rattle.std.proofs.Common.{lit<}
use Rattle.std.specs.Fmt.{digits}
use Rattle.js_base.specs.declared.out.Out.{Out}
use Rattle.js_model.specs.declared.stream_config.Retention.TheVariants.{Interest}
use Rattle.js_model.specs.declared.stream_config.StreamConfig.{StreamConfig}
use Rattle.js_model.specs.declared.consumer_config.ConsumerConfig.{ConsumerConfig}
use Rattle.js_model.specs.declared.consumer.Pull.{Pull}
use Rattle.js_model.specs.declared.stream.State.{State}
use Rattle.js_model.specs.declared.entry.Delivered.TheVariants.{Sent}
use Rattle.js_model.specs.declared.event.What.{What}
use Rattle.js_model.specs.declared.event.What.TheVariants.{Tick}
use Rattle.js_model.specs.declared.reply.Reply.TheVariants.{Published}
use Rattle.js_model.specs.Advance.{advance, advance_outs}
use Rattle.js_model.specs.Retention.{kept}
use Rattle.js_model.specs.Trim.{trim}
use Rattle.js_model.specs.Verdict.{verdict}
use Rattle.js_model.specs.Deliver.{candidates, IsDelivered}
use Rattle.js_model.specs.Events.{answered}
use Rattle.js_model.proofs.Samples.{t0, orders, worker, make, hello, publish, make_consumer, ask_of, pull, after, state_after, reply_to, outs_to, seqs_in, pulls_in, status_to, message, to_worker, delivered, wants_nothing}

-- ---- as many pulls as may wait

-- two pulls may wait, of one message and of five, and do; a message waits for them
abbrev full : State
full = state_after ((make orders, t0) ∷ (make_consumer (record worker { max_waiting = 2 }), t0) ∷ (pull (ask_of 1), t0) ∷ (pull (ask_of 5), t0) ∷ (hello, t0) ∷ [])

abbrev batches : State → List (List ℕ)
batches s = map (λ waiting. map (λ (p : Pull). p.batch) waiting) (pulls_in s)

-- a third one is refused
third : outs_to full (pull (ask_of 7)) t0 ≡ status_to (codes "NATS/1.0 409 Exceeded MaxWaiting\r\n\r\n") ∷ []
unfolding answered advance advance_outs kept trim verdict digits
third = refl

-- the message goes to the first pull, which ends with it
sent : (new : State) × IsDelivered full t0 [] (to_worker (Sent 1 1 1))
    (record { to = codes "_P"; subject = codes "orders.a"; reply = Some (codes "$JS.ACK.ORDERS.W.1.1.1.1700000000000000000.0"); headers = []; payload = codes "hello" } ∷ []) new
unfolding answered advance advance_outs kept trim verdict candidates digits
sent = (
  _,
  record {
    consumer = _;
    after = _;
    own = _;
    found = refl;
    delivers = record {
      message = message 1 t0 (codes "hello");
      candidate = (0, lit< tt, refl);
      seq_is = refl;
      wanted = refl;
      count_is = refl;
      dseq_is = refl;
      after_is = refl;
      outs_are = refl;
    };
    outs_are = refl;
    new_is = refl;
  },
)

left : batches (delivered full t0) ≡ (5 ∷ []) ∷ []
unfolding answered advance advance_outs kept trim verdict candidates
left = refl

-- and now a third one is taken, and a fourth one is refused
third_again : batches (after (delivered full t0) (pull (ask_of 7), t0)) ≡ (5 ∷ 7 ∷ []) ∷ []
unfolding answered advance advance_outs kept trim verdict candidates
third_again = refl

fourth : outs_to (after (delivered full t0) (pull (ask_of 7), t0)) (pull (ask_of 9)) t0 ≡ status_to (codes "NATS/1.0 409 Exceeded MaxWaiting\r\n\r\n") ∷ []
unfolding answered advance advance_outs kept trim verdict candidates digits
fourth = refl

-- ---- interest, and as many messages as there may be

-- one message is kept at most, and of those that the consumer needs
abbrev wanted_one : StreamConfig
wanted_one = record orders { retention = Interest; max_msgs = Some 1 }

-- it needs what is published to `orders.a`
abbrev for_a : ConsumerConfig
for_a = record worker { filter_subject = codes "orders.a" }

abbrev needed : State
needed = state_after ((make wanted_one, t0) ∷ (make_consumer for_a, t0) ∷ (hello, t0) ∷ [])

needed_stays : seqs_in needed ≡ 1 ∷ []
unfolding answered advance advance_outs kept trim verdict
needed_stays = refl

-- a message to `orders.b`, which nobody needs
abbrev unneeded : What
unneeded = publish (codes "orders.b") (codes "bye") wants_nothing

-- it is stored, the limit drops the needed one for it, and the retention drops it too
unneeded_told : reply_to needed unneeded t0 ≡ Published 2
unfolding answered advance advance_outs kept trim verdict
unneeded_told = refl

nothing_left : seqs_in (after needed (unneeded, t0)) ≡ []
unfolding answered advance advance_outs kept trim verdict
nothing_left = refl

-- ---- heartbeats at the last moment

-- moments end at 2^62 - 1, and so does a moment some time later
abbrev last_moment : ℕ
last_moment = 2 ^ 62 - 1

-- a push consumer that was made a nanosecond before, with a heartbeat each second
abbrev beating : State
beating = state_after ((make orders, last_moment - 1) ∷ (make_consumer (record worker { deliver_subject = codes "D"; idle_heartbeat = 1000000000 }), last_moment - 1) ∷ [])

abbrev beat : Out
beat = record {
  to = codes "D";
  subject = codes "D";
  reply = None;
  headers = codes "NATS/1.0 100 Idle Heartbeat\r\nNats-Last-Consumer: 0\r\nNats-Last-Stream: 0\r\n\r\n";
  payload = [];
}

-- none has come before the last moment
too_early : outs_to beating Tick (last_moment - 1) ≡ []
unfolding answered advance advance_outs kept trim verdict digits
too_early = refl

-- at the last moment one has come, though no second has passed
first_beat : outs_to beating Tick last_moment ≡ beat ∷ []
unfolding answered advance advance_outs kept trim verdict digits
first_beat = refl

-- and then another one, at the same moment
second_beat : outs_to (after beating (Tick, last_moment)) Tick last_moment ≡ beat ∷ []
unfolding answered advance advance_outs kept trim verdict digits
second_beat = refl
