-- Worked rows of making consumers: the one that is made, and each refusal in a small state that meets it.
use Rattle.std.specs.Prelude.{ℕ, zero, suc, ◌+◌, ◌≡◌, true, List, [], ◌∷◌, ◌++◌, length, Some, None, codes, decimal, refl, map}
use Rattle.std.specs.Fmt.{digits}
use Rattle.js_base.specs.Bytes.{Bytes}
use Rattle.js_model.specs.declared.stream_config.Retention.TheVariants.{WorkQueue}
use Rattle.js_model.specs.declared.consumer_config.AckPolicy.TheVariants.{None as NoAck, All as AckAll}
use Rattle.js_model.specs.declared.consumer_config.DeliverPolicy.TheVariants.{New as FromNew}
use Rattle.js_model.specs.declared.consumer_config.ConsumerConfig.{ConsumerConfig}
use Rattle.js_model.specs.declared.stream.State.{State}
use Rattle.js_model.specs.declared.stream.State.TheVariants.{Live}
use Rattle.js_model.specs.declared.consumer.Consumer.{Consumer}
use Rattle.js_model.specs.declared.event.What.{What}
use Rattle.js_model.specs.declared.event.What.TheVariants.{MakeConsumer}
use Rattle.js_model.specs.declared.reply.Reply.{Reply}
use Rattle.js_model.specs.declared.reply.Reply.TheVariants.{ConsumerInfo as ConsumerTold, Refused}
use Rattle.js_model.specs.Refusals.{refusal}
use Rattle.js_model.specs.Advance.{advance, advance_outs}
use Rattle.js_model.specs.Retention.{kept}
use Rattle.js_model.specs.Trim.{trim}
use Rattle.js_model.specs.Verdict.{verdict}
use Rattle.js_model.specs.Events.{answered}
use Rattle.js_model.proofs.Samples.{t0, orders, worker, make, hello, make_consumer, after, state_after, reply_to, consumers_in, inbox}

-- a consumer is asked for that is to be there
abbrev update : ConsumerConfig → What
update config = MakeConsumer inbox config.name config true

abbrev names_in : State → List Bytes
names_in s = map (λ c. c.name) (consumers_in s)

-- ---- made

abbrev one_message : State
one_message = state_after ((make orders, t0) ∷ (hello, t0) ∷ [])

-- the information of a consumer for which one message waits
abbrev told : Reply
told = ConsumerTold (record {
  stream = codes "ORDERS";
  name = codes "W";
  made = t0;
  config = worker;
  info = record { consumer_seq = 0; stream_seq = 0; ack_floor = 0; ack_pending = 0; pending = 1; redelivered = 0; waiting = 0 };
})

made : reply_to one_message (make_consumer worker) t0 ≡ told
unfolding answered advance advance_outs kept trim verdict
made = refl

-- consumers stand in order of their names
in_order : names_in (after (after (after one_message (make_consumer worker, t0)) (make_consumer (record worker { name = codes "V" }), t0)) (make_consumer (record worker { name = codes "VV" }), t0))
    ≡ codes "V" ∷ codes "VV" ∷ codes "W" ∷ []
unfolding answered advance advance_outs kept trim verdict
in_order = refl

-- one that is there with the same configuration is told, whether it is asked to be there or not
made_again : reply_to (after one_message (make_consumer worker, t0)) (make_consumer worker) 1700000000000000007 ≡ told
unfolding answered advance advance_outs kept trim verdict
made_again = refl

updated : reply_to (after one_message (make_consumer worker, t0)) (update worker) 1700000000000000007 ≡ told
unfolding answered advance advance_outs kept trim verdict
updated = refl

-- ---- not there

-- an update of a consumer that is not there makes none
absent : reply_to one_message (update worker) t0 ≡ Refused (refusal 400 10149 (codes "consumer does not exist"))
unfolding answered advance advance_outs kept trim verdict
absent = refl

absent_leaves : after one_message (update worker, t0) ≡ one_message
unfolding answered advance advance_outs kept trim verdict
absent_leaves = refl

-- ---- there with another configuration

abbrev with_worker : State
with_worker = after one_message (make_consumer worker, t0)

exists : reply_to with_worker (make_consumer (record worker { ack_wait = 1 })) t0 ≡ Refused (refusal 400 20009 (codes "consumer already exists"))
unfolding answered advance advance_outs kept trim verdict
exists = refl

exists_for_update : reply_to with_worker (update (record worker { ack_wait = 1 })) t0 ≡ Refused (refusal 400 20009 (codes "consumer already exists"))
unfolding answered advance advance_outs kept trim verdict
exists_for_update = refl

exists_leaves : after with_worker (make_consumer (record worker { ack_wait = 1 }), t0) ≡ with_worker
unfolding answered advance advance_outs kept trim verdict
exists_leaves = refl

-- no limit on what waits, and the greatest limit, are two configurations
other_limit : reply_to (after one_message (make_consumer (record worker { max_ack_pending = None }), t0)) (make_consumer (record worker { max_ack_pending = Some 65536 })) t0
    ≡ Refused (refusal 400 20009 (codes "consumer already exists"))
unfolding answered advance advance_outs kept trim verdict
other_limit = refl

-- ---- as many as there may be

abbrev for_one : State
for_one = state_after ((make (record orders { max_consumers = Some 1 }), t0) ∷ (make_consumer worker, t0) ∷ [])

one_too_many : reply_to for_one (make_consumer (record worker { name = codes "V" })) t0 ≡ Refused (refusal 400 20017 (codes "maximum consumers reached"))
unfolding answered advance advance_outs kept trim verdict
one_too_many = refl

one_too_many_leaves : after for_one (make_consumer (record worker { name = codes "V" }), t0) ≡ for_one
unfolding answered advance advance_outs kept trim verdict
one_too_many_leaves = refl

-- the one that is there is told, or refused for what it is
the_one_told : reply_to for_one (make_consumer worker) t0
    ≡ ConsumerTold (record {
      stream = codes "ORDERS";
      name = codes "W";
      made = t0;
      config = worker;
      info = record { consumer_seq = 0; stream_seq = 0; ack_floor = 0; ack_pending = 0; pending = 0; redelivered = 0; waiting = 0 };
    })
unfolding answered advance advance_outs kept trim verdict
the_one_told = refl

the_one_exists : reply_to for_one (make_consumer (record worker { ack_wait = 1 })) t0 ≡ Refused (refusal 400 20009 (codes "consumer already exists"))
unfolding answered advance advance_outs kept trim verdict
the_one_exists = refl

-- without a limit of the stream's own, 256

abbrev idle : Bytes → Consumer
idle name = record { name = name; made = t0; config = record worker { name = name }; picks = []; cursor = 1; dseq = 0; pending = []; given_up = []; waiting = []; mark = t0 }

-- so many consumers, from `C100` on
abbrev consumers_from : ℕ → ℕ → List Consumer
consumers_from from zero = []
consumers_from from (suc n) = idle (codes "C" ++ decimal from) ∷ consumers_from (from + 1) n

abbrev with_consumers : ℕ → State
with_consumers n = Live (record { incarnation = 1; made = t0; config = orders; messages = []; last = 0; moment = t0; ids = []; consumers = consumers_from 100 n })

greatest_number : length (consumers_in (after (with_consumers 255) (make_consumer worker, t0))) ≡ 256
unfolding answered advance advance_outs kept trim verdict digits
greatest_number = refl

past_greatest_number : reply_to (with_consumers 256) (make_consumer worker) t0 ≡ Refused (refusal 400 20017 (codes "maximum consumers reached"))
unfolding answered advance advance_outs kept trim verdict digits
past_greatest_number = refl

-- ---- work queues

abbrev queue : State
queue = state_after ((make (record orders { retention = WorkQueue }), t0) ∷ [])

all_refused : reply_to queue (make_consumer (record worker { ack_policy = AckAll })) t0 ≡ Refused (refusal 400 20004 (codes "work queue rule: ack_policy"))
unfolding answered advance advance_outs kept trim verdict
all_refused = refl

none_refused : reply_to queue (make_consumer (record worker { ack_policy = NoAck })) t0 ≡ Refused (refusal 400 20004 (codes "work queue rule: ack_policy"))
unfolding answered advance advance_outs kept trim verdict
none_refused = refl

new_refused : reply_to queue (make_consumer (record worker { deliver_policy = FromNew })) t0 ≡ Refused (refusal 400 20004 (codes "work queue rule: deliver_policy"))
unfolding answered advance advance_outs kept trim verdict
new_refused = refl

-- of both the ack policy is told
policy_first : reply_to queue (make_consumer (record worker { ack_policy = AckAll; deliver_policy = FromNew })) t0 ≡ Refused (refusal 400 20004 (codes "work queue rule: ack_policy"))
unfolding answered advance advance_outs kept trim verdict
policy_first = refl

-- two consumers of all subjects
second_refused : reply_to (after queue (make_consumer worker, t0)) (make_consumer (record worker { name = codes "V" })) t0
    ≡ Refused (refusal 400 20004 (codes "work queue rule: filter_subject"))
unfolding answered advance advance_outs kept trim verdict
second_refused = refl

second_leaves : after (after queue (make_consumer worker, t0)) (make_consumer (record worker { name = codes "V" }), t0) ≡ after queue (make_consumer worker, t0)
unfolding answered advance advance_outs kept trim verdict
second_leaves = refl

-- two that share no subject are both made
apart : names_in (after (after queue (make_consumer (record worker { filter_subject = codes "orders.a" }), t0)) (make_consumer (record worker { name = codes "V"; filter_subject = codes "orders.b" }), t0))
    ≡ codes "V" ∷ codes "W" ∷ []
unfolding answered advance advance_outs kept trim verdict
apart = refl

-- a consumer is not compared with itself: another filter of its own is another configuration
not_itself : reply_to (after queue (make_consumer worker, t0)) (make_consumer (record worker { filter_subject = codes "orders.a" })) t0
    ≡ Refused (refusal 400 20009 (codes "consumer already exists"))
unfolding answered advance advance_outs kept trim verdict
not_itself = refl

-- ---- which refusal is told if several are met

-- that it is not there before the rules of a work queue
absent_first : reply_to queue (update (record worker { ack_policy = AckAll })) t0 ≡ Refused (refusal 400 10149 (codes "consumer does not exist"))
unfolding answered advance advance_outs kept trim verdict
absent_first = refl

-- these before that it exists
rule_before_exists : reply_to (after queue (make_consumer worker, t0)) (make_consumer (record worker { ack_policy = AckAll })) t0
    ≡ Refused (refusal 400 20004 (codes "work queue rule: ack_policy"))
unfolding answered advance advance_outs kept trim verdict
rule_before_exists = refl

-- and before the number of consumers
rule_before_number : reply_to (state_after ((make (record orders { retention = WorkQueue; max_consumers = Some 1 }), t0) ∷ (make_consumer worker, t0) ∷ [])) (make_consumer (record worker { name = codes "V" })) t0
    ≡ Refused (refusal 400 20004 (codes "work queue rule: filter_subject"))
unfolding answered advance advance_outs kept trim verdict
rule_before_number = refl
