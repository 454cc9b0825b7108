-- Worked rows of the records that events and deliveries write, and of records that do not fit.
use Rattle.std.specs.Prelude.{ℕ, ◌+◌, ◌≡◌, true, false, List, [], ◌∷◌, Some, None, codes, refl}
use Rattle.js_base.specs.Bytes.{Bytes}
use Rattle.js_model.specs.declared.stream_config.Retention.TheVariants.{Interest, WorkQueue}
use Rattle.js_model.specs.declared.consumer_config.AckPolicy.TheVariants.{None as NoAck, All as AckAll}
use Rattle.js_model.specs.declared.consumer_config.ConsumerConfig.{ConsumerConfig}
use Rattle.js_model.specs.declared.stream_config.StreamConfig.{StreamConfig}
use Rattle.js_model.specs.declared.stream.State.{State}
use Rattle.js_model.specs.declared.stream.State.TheVariants.{Vacant}
use Rattle.js_model.specs.declared.ack.AckKind.TheVariants.{Ack as Acknowledge, Nak, Next, Term}
use Rattle.js_model.specs.declared.entry.Delivered.TheVariants.{Sent}
use Rattle.js_model.specs.declared.event.What.{What}
use Rattle.js_model.specs.declared.event.What.TheVariants.{Change, Drop as DropStream, Purge, Delete, DropConsumer, Tick}
use Rattle.js_model.specs.Advance.{advance, advance_outs}
use Rattle.js_model.specs.Retention.{kept}
use Rattle.js_model.specs.Trim.{trim}
use Rattle.js_model.specs.Verdict.{verdict}
use Rattle.js_model.specs.Events.{answered}
use Rattle.js_model.specs.Deliver.{candidates}
use Rattle.js_model.proofs.Samples.{t0, orders, worker, inbox, make, publish, hello, say, wants_nothing, make_consumer, ask_of, pull, ack, after, state_after, to_worker, delivered}
use Rattle.effects.specs.declared.durable.Durable.{Durable}
use Rattle.effects.specs.declared.effect.Effect.{Effect}
use Rattle.effects.specs.declared.effect.Effect.TheVariants.{MakeStream, ChangeStream, DropStream as StreamDropped, PutHere, Skip, Remove, MakeConsumer, DropConsumer as ConsumerDropped, Deliver, Acked, Due, GivenUp, Now}
use Rattle.effects.specs.Durables.{durable_of}
use Rattle.effects.specs.Folding.{vacant, fold}
use Rattle.effects.specs.Effects.{event_effects, delivery_effects}

abbrev records_of : State → What → ℕ → List Effect
records_of s what now = event_effects s what now true

abbrev subject : Bytes
subject = codes "orders.a"

-- where there is no room
abbrev records_without : State → What → ℕ → List Effect
records_without s what now = event_effects s what now false

-- ---- streams and messages

made_at_first : records_of (Vacant 0) (make orders) t0 ≡ MakeStream 1 t0 orders ∷ []
made_at_first = refl

abbrev made : State
made = state_after ((make orders, t0) ∷ [])

-- a stream that is there is made again, and changed to what it is
nothing_made : records_of made (make orders) t0 ≡ []
unfolding answered advance advance_outs kept trim verdict
nothing_made = refl

nothing_changed : records_of made (Change inbox orders) t0 ≡ []
unfolding answered advance advance_outs kept trim verdict
nothing_changed = refl

changed : records_of made (Change inbox (record orders { max_msgs = Some 5 })) t0 ≡ ChangeStream (record orders { max_msgs = Some 5 }) ∷ []
unfolding answered advance advance_outs kept trim verdict
changed = refl

-- without room nothing is made, changed or stored, and what goes is recorded as ever
no_stream_made : records_without (Vacant 0) (make orders) t0 ≡ []
no_stream_made = refl

no_config_changed : records_without made (Change inbox (record orders { max_msgs = Some 5 })) t0 ≡ []
unfolding answered advance advance_outs kept trim verdict
no_config_changed = refl

no_consumer_made : records_without made (make_consumer worker) t0 ≡ []
unfolding answered advance advance_outs kept trim verdict
no_consumer_made = refl

nothing_stored : records_without made hello (t0 + 1) ≡ Now (t0 + 1) ∷ []
unfolding answered advance advance_outs kept trim verdict
nothing_stored = refl

dropped_without : records_without made (DropStream inbox) t0 ≡ StreamDropped ∷ []
unfolding answered advance advance_outs kept trim verdict
dropped_without = refl

stored : records_of made hello t0 ≡ PutHere 1 t0 [] subject [] (codes "hello") ∷ []
unfolding answered advance advance_outs kept trim verdict
stored = refl

-- the moment comes first
stored_later : records_of made hello (t0 + 1) ≡ Now (t0 + 1) ∷ PutHere 1 (t0 + 1) [] subject [] (codes "hello") ∷ []
unfolding answered advance advance_outs kept trim verdict
stored_later = refl

dropped : records_of made (DropStream inbox) t0 ≡ StreamDropped ∷ []
unfolding answered advance advance_outs kept trim verdict
dropped = refl

abbrev twice : What
twice = publish subject (codes "x") (record wants_nothing { id = codes "i" })

with_id : records_of made twice t0 ≡ PutHere 1 t0 (codes "i") subject [] (codes "x") ∷ []
unfolding answered advance advance_outs kept trim verdict
with_id = refl

-- a duplicate writes nothing but the moment
duplicate : records_of (after made (twice, t0)) twice (t0 + 1) ≡ Now (t0 + 1) ∷ []
unfolding answered advance advance_outs kept trim verdict
duplicate = refl

-- an id that has left the window goes with the moment
abbrev brief : State
brief = state_after ((make (record orders { duplicate_window = 5 }), t0) ∷ (twice, t0) ∷ [])

forgotten : records_of (after brief (Tick, t0 + 4)) Tick (t0 + 5) ≡ Now (t0 + 5) ∷ []
unfolding answered advance advance_outs kept trim verdict
forgotten = refl

-- a smaller window takes an id at the same moment
smaller : records_of (after (after made (twice, t0)) (Change inbox (record orders { duplicate_window = 1 }), t0 + 1)) Tick (t0 + 1) ≡ Now (t0 + 1) ∷ []
unfolding answered advance advance_outs kept trim verdict
smaller = refl

-- ---- what leaves

abbrev three : State
three = state_after ((make orders, t0) ∷ (say (codes "a"), t0) ∷ (say (codes "b"), t0) ∷ (say (codes "c"), t0) ∷ [])

purged : records_of three (Purge inbox [] None (Some 1)) t0 ≡ Remove 1 2 ∷ []
unfolding answered advance advance_outs kept trim verdict
purged = refl

deleted : records_of three (Delete inbox 2) t0 ≡ Remove 2 2 ∷ []
unfolding answered advance advance_outs kept trim verdict
deleted = refl

-- one range may go over sequences that are gone
over_a_gap : records_of (after three (Delete inbox 2, t0)) (Purge inbox [] None None) t0 ≡ Remove 1 3 ∷ []
unfolding answered advance advance_outs kept trim verdict
over_a_gap = refl

-- a limit drops the oldest after the new one is stored
limited : records_of (state_after ((make (record orders { max_msgs = Some 1 }), t0) ∷ (say (codes "a"), t0) ∷ [])) (say (codes "b")) t0 ≡ PutHere 2 t0 [] subject [] (codes "b") ∷ Remove 1 1 ∷ []
unfolding answered advance advance_outs kept trim verdict
limited = refl

-- nobody needs the message
skipped : records_of (state_after ((make (record orders { retention = Interest }), t0) ∷ [])) hello t0 ≡ Skip 1 t0 [] ∷ []
unfolding answered advance advance_outs kept trim verdict
skipped = refl

-- too old: the moment, and then the message
aged_out : records_of (state_after ((make (record orders { max_age = 5 }), t0) ∷ (say (codes "a"), t0) ∷ [])) Tick (t0 + 5) ≡ Now (t0 + 5) ∷ Remove 1 1 ∷ []
unfolding answered advance advance_outs kept trim verdict
aged_out = refl

-- ---- consumers

consumer_made : records_of three (make_consumer worker) t0 ≡ MakeConsumer (codes "W") t0 worker 1 [] ∷ []
unfolding answered advance advance_outs kept trim verdict
consumer_made = refl

abbrev served : StreamConfig → ConsumerConfig → State
served config consumer = state_after ((make config, t0) ∷ (make_consumer consumer, t0) ∷ (say (codes "a"), t0) ∷ (say (codes "b"), t0) ∷ (pull (ask_of 2), t0) ∷ [])

consumer_dropped : records_of (served orders worker) (DropConsumer inbox (codes "W")) t0 ≡ ConsumerDropped (codes "W") ∷ []
unfolding answered advance advance_outs kept trim verdict
consumer_dropped = refl

-- a pull is not kept
pulled : records_of (served orders worker) (pull (ask_of 1)) t0 ≡ []
unfolding answered advance advance_outs kept trim verdict
pulled = refl

abbrev sent : StreamConfig → ConsumerConfig → State
sent config consumer = delivered (served config consumer) t0

first_sent : delivery_effects (served orders worker) t0 (to_worker (Sent 1 1 1)) (sent orders worker) ≡ Deliver (codes "W") 1 1 (t0 + 30000000000) 1 ∷ []
unfolding answered advance advance_outs kept trim verdict candidates
first_sent = refl

-- under ack policy none nothing waits, and the retention drops the message
unacknowledged : delivery_effects (served (record orders { retention = Interest }) (record worker { ack_policy = NoAck })) t0 (to_worker (Sent 1 1 1)) (sent (record orders { retention = Interest }) (record worker { ack_policy = NoAck }))
    ≡ Deliver (codes "W") 1 1 (t0 + 30000000000) 1 ∷ Remove 1 1 ∷ []
unfolding answered advance advance_outs kept trim verdict candidates
unacknowledged = refl

-- ---- acknowledgements

acknowledged : records_of (sent orders worker) (ack 1 Acknowledge) t0 ≡ Acked (codes "W") 1 1 ∷ []
unfolding answered advance advance_outs kept trim verdict candidates
acknowledged = refl

-- it had ended before
acknowledged_again : records_of (after (sent orders worker) (ack 1 Acknowledge, t0)) (ack 1 Acknowledge) t0 ≡ []
unfolding answered advance advance_outs kept trim verdict candidates
acknowledged_again = refl

-- and a work queue drops the message
worked_off : records_of (sent (record orders { retention = WorkQueue }) worker) (ack 1 Acknowledge) t0 ≡ Acked (codes "W") 1 1 ∷ Remove 1 1 ∷ []
unfolding answered advance advance_outs kept trim verdict candidates
worked_off = refl

all_acknowledged : records_of (delivered (sent orders (record worker { ack_policy = AckAll })) t0) (ack 2 Acknowledge) t0 ≡ Acked (codes "W") 1 2 ∷ []
unfolding answered advance advance_outs kept trim verdict candidates
all_acknowledged = refl

next_asked : records_of (sent orders worker) (ack 1 (Next (ask_of 1))) t0 ≡ Acked (codes "W") 1 1 ∷ []
unfolding answered advance advance_outs kept trim verdict candidates
next_asked = refl

again_later : records_of (sent orders worker) (ack 1 (Nak 7)) t0 ≡ Due (codes "W") 1 (t0 + 7) ∷ []
unfolding answered advance advance_outs kept trim verdict candidates
again_later = refl

-- sent as often as it may be, and due
given_up : records_of (sent orders (record worker { max_deliver = Some 1 })) Tick (t0 + 30000000000) ≡ Now (t0 + 30000000000) ∷ GivenUp (codes "W") (t0 + 30000000000) ∷ []
unfolding answered advance advance_outs kept trim verdict candidates
given_up = refl

-- what was given up ends by an acknowledgement
given_up_ended : records_of (after (sent orders (record worker { max_deliver = Some 1 })) (Tick, t0 + 30000000000)) (ack 1 Term) (t0 + 30000000000) ≡ Acked (codes "W") 1 1 ∷ []
unfolding answered advance advance_outs kept trim verdict candidates
given_up_ended = refl

-- ---- records that do not fit

abbrev held : Durable
held = durable_of three

first_needed : fold (vacant 0) (MakeStream 2 t0 orders) ≡ None
first_needed = refl

stream_needed : fold (vacant 0) (Now t0) ≡ None
stream_needed = refl

none_may_be_there : fold held (MakeStream 2 t0 orders) ≡ None
unfolding answered advance advance_outs kept trim verdict
none_may_be_there = refl

next_needed : fold held (Skip 5 t0 []) ≡ None
unfolding answered advance advance_outs kept trim verdict
next_needed = refl

own_moment_needed : fold held (Skip 4 (t0 + 1) []) ≡ None
unfolding answered advance advance_outs kept trim verdict
own_moment_needed = refl

later_needed : fold held (Now 1) ≡ None
unfolding answered advance advance_outs kept trim verdict
later_needed = refl

consumer_needed : fold held (Acked (codes "W") 1 1) ≡ None
unfolding answered advance advance_outs kept trim verdict
consumer_needed = refl

other_name_needed : fold (durable_of (served orders worker)) (MakeConsumer (codes "W") t0 worker 1 []) ≡ None
unfolding answered advance advance_outs kept trim verdict
other_name_needed = refl

entry_needed : fold (durable_of (served orders worker)) (Due (codes "W") 1 t0) ≡ None
unfolding answered advance advance_outs kept trim verdict
entry_needed = refl

next_delivery_needed : fold (durable_of (served orders worker)) (Deliver (codes "W") 1 1 t0 2) ≡ None
unfolding answered advance advance_outs kept trim verdict
next_delivery_needed = refl
