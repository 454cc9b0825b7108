-- The moments at which time alone changes more of a stream than its own moment: by JetStream's pull expiry, idle heartbeats, ack_wait, max_deliver, max_age and
-- duplicate window.
use Rattle.std.specs.Prelude.{ℕ, nat_lt, if◌then◌else◌, ◌==◌, List, [], ◌∷◌, ◌++◌, map, filter}
use Rattle.std.specs.List.{flat_map}
use Rattle.std.specs.Option.{option_to_list}
use Rattle.js_base.specs.Moments.{plus}
use Rattle.js_model.specs.declared.stream.Stream.{Stream}
use Rattle.js_model.specs.declared.stream.State.{State}
use Rattle.js_model.specs.declared.stream.State.TheVariants.{Vacant, Live}
use Rattle.js_model.specs.declared.consumer.Pull.{Pull}
use Rattle.js_model.specs.declared.consumer.Consumer.{Consumer}
use Rattle.js_model.specs.Streams.{is_push}

-- a heartbeat comes, if there are any
abbrev pub beat_timers : ℕ → ℕ → List ℕ
beat_timers mark heartbeat = if nat_lt 0 heartbeat then plus mark heartbeat ∷ [] else []

-- a pull ends, or its heartbeat comes
abbrev pub pull_timers : Pull → List ℕ
pull_timers p = option_to_list p.end ++ beat_timers p.mark p.heartbeat

-- a delivery may be made again, or is given up
abbrev pub pending_timers : Consumer → List ℕ
pending_timers c = map (λ p. p.due) c.pending

abbrev pub consumer_timers : Consumer → List ℕ
consumer_timers c =
    flat_map pull_timers c.waiting
    ++ (if is_push c then beat_timers c.mark c.config.idle_heartbeat else [])
    ++ pending_timers c

-- a message is too old
abbrev pub age_timers : Stream → List ℕ
age_timers s = if s.config.max_age == 0 then [] else map (λ m. plus m.at s.config.max_age) s.messages

-- an id leaves the duplicate window
abbrev pub id_timers : Stream → List ℕ
id_timers s = map (λ i. plus i.at s.config.duplicate_window) s.ids

-- those that are later than a moment
abbrev pub later : ℕ → List ℕ → List ℕ
later now moments = filter (nat_lt now) moments

abbrev pub stream_timers : Stream → List ℕ
stream_timers s = later s.moment (age_timers s ++ id_timers s ++ flat_map consumer_timers s.consumers)

-- the moments at which time alone changes more of what a place holds than its own moment
unfoldable pub timers : State → List ℕ
timers (Vacant i) = []
timers (Live s) = stream_timers s
