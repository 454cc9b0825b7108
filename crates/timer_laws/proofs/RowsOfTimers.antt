-- Worked rows of timers: those of a stream that has one of each kind, what happens at the first of them, what is overdue, and what a tick drops without any.
use Rattle.std.specs.Prelude.{◌≡◌, ◌+◌, [], ◌∷◌, Some, codes, refl, map}
use Rattle.std.specs.Fmt.{digits}
use Rattle.js_model.specs.declared.stream_config.StreamConfig.{StreamConfig}
use Rattle.js_model.specs.declared.consumer_config.ConsumerConfig.{ConsumerConfig}
use Rattle.js_model.specs.declared.stream.State.{State}
use Rattle.js_model.specs.declared.stream.State.TheVariants.{Vacant, Live}
use Rattle.js_model.specs.declared.ack.Ask.{Ask}
use Rattle.js_model.specs.declared.ack.AckKind.TheVariants.{Nak}
use Rattle.js_model.specs.declared.event.What.{What}
use Rattle.js_model.specs.declared.event.What.TheVariants.{Tick}
use Rattle.js_model.specs.Advance.{advance, advance_outs}
use Rattle.js_model.specs.Retention.{kept}
use Rattle.js_model.specs.Trim.{trim}
use Rattle.js_model.specs.Verdict.{verdict}
use Rattle.js_model.specs.Deliver.{candidates}
use Rattle.js_model.specs.Events.{answered, settled_state}
use Rattle.js_model.specs.Lasting.{lasting}
use Rattle.js_model.proofs.Samples.{t0, orders, worker, make, publish, hello, make_consumer, ask_of, pull, ack, after, state_after, outs_to, seqs_in, consumers_in, wants_nothing, delivered}
use Rattle.timers.specs.Timers.{timers}

-- messages are kept for ten minutes, and ids for two
abbrev aging : StreamConfig
aging = record orders { max_age = 600000000000 }

-- its messages go to `D`, with a heartbeat after five seconds of silence
abbrev pusher : ConsumerConfig
pusher = record worker { name = codes "P"; deliver_subject = codes "D"; idle_heartbeat = 5000000000 }

-- ten seconds, with a heartbeat every four
abbrev patient : Ask
patient = record (ask_of 2) { expires = 10000000000; heartbeat = 4000000000 }

abbrev known : What
known = publish (codes "orders.a") (codes "one") (record wants_nothing { id = codes "first" })

-- a message is stored with an id after one second, and is asked for after two and delivered after three
abbrev busy : State
busy = delivered (state_after ((make aging, t0) ∷ (make_consumer worker, t0) ∷ (make_consumer pusher, t0) ∷ (known, 1700000001000000000) ∷ (pull patient, 1700000002000000000) ∷ [])) 1700000003000000000

-- the age of the message, the id, a heartbeat of `P`, and of `W` the end of its pull, a heartbeat of it and the entry
busy_timers : timers busy ≡ 1700000601000000000 ∷ 1700000121000000000 ∷ 1700000005000000000 ∷ 1700000012000000000 ∷ 1700000007000000000 ∷ 1700000033000000000 ∷ []
unfolding timers answered advance advance_outs kept trim verdict candidates
busy_timers = refl

vacant_timers : timers (Vacant 3) ≡ []
unfolding timers
vacant_timers = refl

-- ---- the first of them

silent_before : outs_to busy Tick 1700000004999999999 ≡ []
unfolding answered advance advance_outs kept trim verdict candidates digits
silent_before = refl

beats_then : map (λ o. o.to) (outs_to busy Tick 1700000005000000000) ≡ codes "D" ∷ []
unfolding answered advance advance_outs kept trim verdict candidates digits
beats_then = refl

-- the next heartbeat takes its place
timers_after : timers (after busy (Tick, 1700000005000000000)) ≡ 1700000601000000000 ∷ 1700000121000000000 ∷ 1700000010000000000 ∷ 1700000012000000000 ∷ 1700000007000000000 ∷ 1700000033000000000 ∷ []
unfolding timers answered advance advance_outs kept trim verdict candidates digits
timers_after = refl

-- ---- what is overdue has no timer: it is done by the next event

-- the only delivery that there may be is refused, without a delay
abbrev refused : State
refused = after (delivered (state_after ((make orders, t0) ∷ (make_consumer (record worker { max_deliver = Some 1 }), t0) ∷ (hello, t0) ∷ (pull (ask_of 1), t0) ∷ [])) t0) (ack 1 (Nak 0), t0)

refused_timers : timers refused ≡ []
unfolding timers answered advance advance_outs kept trim verdict candidates
refused_timers = refl

given_up_then : map (λ c. c.given_up) (consumers_in (after refused (Tick, t0))) ≡ (1 ∷ []) ∷ []
unfolding answered advance advance_outs kept trim verdict candidates
given_up_then = refl

-- what outlives a crash of a push consumer is its making, so that a heartbeat is overdue
abbrev restored : State
restored = lasting (after busy (Tick, 1700000006000000000))

restored_timers : timers restored ≡ 1700000601000000000 ∷ 1700000121000000000 ∷ 1700000033000000000 ∷ []
unfolding timers answered advance advance_outs kept trim verdict candidates digits
restored_timers = refl

restored_beats : map (λ o. o.to) (outs_to restored Tick 1700000006000000000) ≡ codes "D" ∷ []
unfolding answered advance advance_outs kept trim verdict candidates digits
restored_beats = refl

-- ---- what is not settled: a tick drops a message, though there is no timer

abbrev limited : State → State
limited (Vacant i) = Vacant i
limited (Live s) = Live (record s { config = record s.config { max_msgs = Some 1 } })

-- two messages, and a limit of one that has dropped none so far
abbrev overfull : State
overfull = limited (state_after ((make orders, t0) ∷ (hello, t0) ∷ (hello, t0) ∷ []))

overfull_timers : timers overfull ≡ []
unfolding timers answered advance advance_outs kept trim verdict candidates
overfull_timers = refl

overfull_seqs : seqs_in overfull ≡ 1 ∷ 2 ∷ []
unfolding answered advance advance_outs kept trim verdict candidates
overfull_seqs = refl

overfull_settled : seqs_in (settled_state overfull) ≡ 2 ∷ []
unfolding answered advance advance_outs kept trim verdict candidates
overfull_settled = refl

overfull_ticked : seqs_in (after overfull (Tick, t0 + 1)) ≡ 2 ∷ []
unfolding answered advance advance_outs kept trim verdict candidates
overfull_ticked = refl
