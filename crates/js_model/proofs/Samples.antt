-- Configurations, events and states from which worked rows are made.
use Rattle.std.specs.Prelude.{ℕ, true, false, List, [], ◌∷◌, Option, Some, None, codes, map, fold}
use Rattle.js_base.specs.Bytes.{Bytes}
use Rattle.js_base.specs.declared.out.Out.{Out}
use Rattle.js_model.specs.declared.stream_config.Retention.TheVariants.{Limits}
use Rattle.js_model.specs.declared.stream_config.Discard.TheVariants.{Old}
use Rattle.js_model.specs.declared.stream_config.StreamConfig.{StreamConfig}
use Rattle.js_model.specs.declared.consumer_config.AckPolicy.TheVariants.{Explicit}
use Rattle.js_model.specs.declared.consumer_config.DeliverPolicy.TheVariants.{All as FromAll}
use Rattle.js_model.specs.declared.consumer_config.ConsumerConfig.{ConsumerConfig}
use Rattle.js_model.specs.declared.stream.Message.{Message}
use Rattle.js_model.specs.declared.stream.State.{State}
use Rattle.js_model.specs.declared.stream.State.TheVariants.{Vacant, Live}
use Rattle.js_model.specs.declared.consumer.Consumer.{Consumer}
use Rattle.js_model.specs.declared.consumer.Pull.{Pull}
use Rattle.js_model.specs.declared.entry.Delivered.{Delivered}
use Rattle.js_model.specs.declared.entry.Delivery.{Delivery}
use Rattle.js_model.specs.declared.ack.Ask.{Ask}
use Rattle.js_model.specs.declared.ack.AckKind.{AckKind}
use Rattle.js_model.specs.declared.event.Wants.{Wants}
use Rattle.js_model.specs.declared.event.Event.{Event}
use Rattle.js_model.specs.declared.event.What.{What}
use Rattle.js_model.specs.declared.event.What.TheVariants.{Make, Publish as PublishIt, MakeConsumer, Ack as AckIt, Pull as PullIt}
use Rattle.js_model.specs.declared.reply.Reply.{Reply}
use Rattle.js_model.specs.Streams.{by_name, with_consumer}
use Rattle.js_model.specs.Advance.{advance}
use Rattle.js_model.specs.Retention.{kept}
use Rattle.js_model.specs.Deliver.{candidates, sent_to}
use Rattle.js_model.specs.Events.{answered}

-- 2023-11-14T22:13:20Z
abbrev pub t0 : ℕ
t0 = 1700000000000000000

abbrev pub orders : StreamConfig
orders = record {
  description = [];
  discard = Old;
  duplicate_window = 120000000000;
  max_age = 0;
  max_bytes = None;
  max_consumers = None;
  max_msg_size = None;
  max_msgs = None;
  max_msgs_per_subject = None;
  name = codes "ORDERS";
  retention = Limits;
  subjects = codes "orders.*" ∷ [];
}

abbrev pub worker : ConsumerConfig
worker = record {
  ack_policy = Explicit;
  ack_wait = 30000000000;
  deliver_group = [];
  deliver_policy = FromAll;
  deliver_subject = [];
  description = [];
  filter_subject = [];
  idle_heartbeat = 0;
  max_ack_pending = Some 1000;
  max_deliver = None;
  max_waiting = 512;
  name = codes "W";
}

abbrev pub inbox : Option Bytes
inbox = Some (codes "_I.1")

abbrev pub wants_nothing : Wants
wants_nothing = record { bad = None; id = []; stream = None; last = None; subject_last = None; last_id = None }

-- events that are answered to `_I.1`

abbrev pub make : StreamConfig → What
make config = Make inbox config

abbrev pub publish : Bytes → Bytes → Wants → What
publish subject payload wants = PublishIt (record { reply = inbox; subject = subject; headers = []; payload = payload; wants = wants })

abbrev pub hello : What
hello = publish (codes "orders.a") (codes "hello") wants_nothing

abbrev pub say : Bytes → What
say text = publish (codes "orders.a") text wants_nothing

abbrev pub make_consumer : ConsumerConfig → What
make_consumer config = MakeConsumer inbox config.name config false

abbrev pub ask_of : ℕ → Ask
ask_of batch = record { batch = batch; expires = 0; no_wait = false; max_bytes = None; heartbeat = 0 }

-- pulls go to `_P`
abbrev pub pull : Ask → What
pull ask = PullIt (Some (codes "_P")) (codes "W") (Some ask)

abbrev pub ack : ℕ → AckKind → What
ack seq kind = AckIt inbox (record { stream = codes "ORDERS"; consumer = codes "W"; seq = seq; kind = kind })

-- ---- what events lead to, one after the other, on the first stream of a place

abbrev pub event : What → Event
event what = record { incarnation = 1; what = what }

abbrev pub after : State → What × ℕ → State
after s step = (answered s (event step.0) step.1 true).state

abbrev pub reply_to : State → What → ℕ → Reply
reply_to s what now = (answered s (event what) now true).reply

abbrev pub outs_to : State → What → ℕ → List Out
outs_to s what now = (answered s (event what) now true).outs

-- the state after these events, from a place without a stream
abbrev pub state_after : List (What × ℕ) → State
state_after steps = fold after (Vacant 0) steps

abbrev pub seqs_in : State → List ℕ
seqs_in (Vacant i) = []
seqs_in (Live s) = map (λ m. m.seq) s.messages

abbrev pub consumers_in : State → List Consumer
consumers_in (Vacant i) = []
consumers_in (Live s) = s.consumers

-- the pulls that wait, of each consumer
abbrev pub pulls_in : State → List (List Pull)
pulls_in s = map (λ c. c.waiting) (consumers_in s)

abbrev pub message : ℕ → ℕ → Bytes → Message
message seq at payload = record { seq = seq; at = at; subject = codes "orders.a"; headers = []; payload = payload }

-- a status message to `_P`
abbrev pub status_to : Bytes → Out
status_to block = record { to = codes "_P"; subject = codes "_P"; reply = None; headers = block; payload = [] }

abbrev pub to_worker : Delivered → Delivery
to_worker what = record { consumer = codes "W"; what = what }

-- the state after a delivery of the first candidate to the consumer of this name
abbrev pub delivered_to : Bytes → State → ℕ → State
delivered_to name (Vacant i) now = Vacant i
delivered_to name (Live s) now = to_one (by_name (advance s now).consumers name)
  where
    sent : Consumer → List Message → State
    sent c [] = Live (advance s now)
    sent c (m ∷ _) = Live (kept (with_consumer (advance s now) (sent_to (advance s now).moment m c)))

    to_one : Option Consumer → State
    to_one None = Live (advance s now)
    to_one (Some c) = sent c (candidates (advance s now) c)

abbrev pub delivered : State → ℕ → State
delivered s now = delivered_to (codes "W") s now
