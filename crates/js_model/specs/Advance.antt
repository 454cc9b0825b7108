-- What passing time does to a stream and what it sends, by JetStream's max_age, duplicate window, pull expiry, idle heartbeat and max_deliver.
use Rattle.std.specs.Prelude.{ℕ, ◌-◌, max, nat_lt, nat_le, Bool, false, if◌then◌else◌, ◌&&◌, not, ◌==◌, List, [], ◌∷◌, ◌++◌, map, filter, Option, Some, None, unwrap_or, codes, fold}
use Rattle.std.specs.List.{flat_map}
use Rattle.js_base.specs.Bytes.{Bytes, last_of}
use Rattle.js_base.specs.Moments.{plus}
use Rattle.js_base.specs.Status.{status}
use Rattle.js_base.specs.declared.out.Out.{Out}
use Rattle.js_model.specs.declared.stream.Message.{Message}
use Rattle.js_model.specs.declared.stream.Id.{Id}
use Rattle.js_model.specs.declared.stream.Stream.{Stream}
use Rattle.js_model.specs.declared.consumer.Pending.{Pending}
use Rattle.js_model.specs.declared.consumer.Pull.{Pull}
use Rattle.js_model.specs.declared.consumer.Consumer.{Consumer}
use Rattle.js_model.specs.Streams.{only, is_push, at_limit}

-- ---- what is sent

-- a status message
abbrev pub status_out : Bytes → Bytes → Out
status_out to block = record { to = to; subject = to; reply = None; headers = block; payload = [] }

-- what a pull is still owed
abbrev pub left_fields : Pull → List (Bytes × ℕ)
left_fields p = (codes "Nats-Pending-Messages", p.batch) ∷ (codes "Nats-Pending-Bytes", unwrap_or p.bytes 0) ∷ []

abbrev pub timeout : Pull → Out
timeout p = status_out p.reply (status 408 (codes "Request Timeout") (left_fields p))

abbrev pub pull_beat : Pull → Out
pull_beat p = status_out p.reply (status 100 (codes "Idle Heartbeat") [])

abbrev pub push_beat : Consumer → Out
push_beat c =
    status_out c.config.deliver_subject (status 100 (codes "Idle Heartbeat") ((codes "Nats-Last-Consumer", c.dseq) ∷ (codes "Nats-Last-Stream", c.cursor - 1) ∷ []))

-- ---- what has come

-- the pull has ended
abbrev pub is_over : ℕ → Pull → Bool
is_over now p = over p.end
  where
    over : Option ℕ → Bool
    over None = false
    over (Some end) = nat_le end now

-- a heartbeat has come
abbrev pub has_come : ℕ → ℕ → ℕ → Bool
has_come now mark heartbeat = nat_lt 0 heartbeat && nat_le (plus mark heartbeat) now

abbrev pub pull_comes : ℕ → Pull → Bool
pull_comes now p = has_come now p.mark p.heartbeat

abbrev pub push_comes : ℕ → Consumer → Bool
push_comes now c = is_push c && has_come now c.mark c.config.idle_heartbeat

-- a delivery that was made as often as it may be, and is due
abbrev pub is_spent : ℕ → Consumer → Pending → Bool
is_spent now c p = nat_le p.due now && at_limit p.count c.config.max_deliver

-- ---- the consumers

-- a number at its place
abbrev pub placed : List ℕ → ℕ → List ℕ
placed [] n = n ∷ []
placed (m ∷ ms) n = if nat_lt m n then m ∷ placed ms n else n ∷ m ∷ ms

-- the pulls that go on
abbrev pub running : ℕ → Consumer → List Pull
running now c = filter (λ p. not (is_over now p)) c.waiting

abbrev pub beaten : ℕ → Pull → Pull
beaten now p = if pull_comes now p then record p { mark = now } else p

-- the greatest 65,536 of the sequences given up, with those that are given up now
abbrev pub all_given_up : ℕ → Consumer → List ℕ
all_given_up now c = last_of 65536 (fold placed c.given_up (map (λ p. p.seq) (filter (is_spent now c) c.pending)))

abbrev pub consumer_at : ℕ → Consumer → Consumer
consumer_at now c = record c {
  pending = filter (λ p. not (is_spent now c p)) c.pending;
  given_up = all_given_up now c;
  waiting = map (beaten now) (running now c);
  mark = if push_comes now c then now else c.mark;
}

-- the pulls that end, then the heartbeats of those that go on, then the consumer's own
abbrev pub consumer_outs : ℕ → Consumer → List Out
consumer_outs now c =
    map timeout (filter (is_over now) c.waiting)
    ++ map pull_beat (filter (pull_comes now) (running now c))
    ++ (if push_comes now c then push_beat c ∷ [] else [])

-- ---- the stream

-- the messages that are not too old
abbrev pub young : Stream → ℕ → List Message
young s now = if s.config.max_age == 0 then s.messages else filter (λ m. nat_lt now (plus m.at s.config.max_age)) s.messages

-- the ids that are still in the window
abbrev pub remembered : Stream → ℕ → List Id
remembered s now = filter (λ i. nat_lt now (plus i.at s.config.duplicate_window)) s.ids

-- the stream at this moment, before its consumers look at it
abbrev pub aged : Stream → ℕ → Stream
aged s now = record (only s (young s now)) { moment = now; ids = remembered s now }

abbrev pub stream_at : Stream → ℕ → Stream
stream_at s now = record (aged s now) { consumers = map (consumer_at now) (aged s now).consumers }

-- the stream at a moment, or at its own if that is later
unfoldable pub advance : Stream → ℕ → Stream
advance s now = stream_at s (max s.moment now)

-- what it sends by then
unfoldable pub advance_outs : Stream → ℕ → List Out
advance_outs s now = flat_map (consumer_outs (max s.moment now)) (aged s (max s.moment now)).consumers
