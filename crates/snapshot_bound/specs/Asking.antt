-- How much room an event asks for, by a rule of this server's own.
use Rattle.std.specs.Prelude.{◌+◌, ◌*◌, ℕ, length, is_some, if◌then◌else◌}
use Rattle.config_texts.specs.Texts.{stream_text, consumer_text}
use Rattle.js_model.specs.declared.consumer_config.DeliverPolicy.{DeliverPolicy}
use Rattle.js_model.specs.declared.consumer_config.DeliverPolicy.TheVariants.{All as FromAll, Last as FromLast, New as FromNew, ByStartSequence, ByStartTime, LastPerSubject}
use Rattle.js_model.specs.declared.event.What.{What}
use Rattle.js_model.specs.declared.event.What.TheVariants as whats
use Rattle.js_model.specs.declared.stream.Stream.{Stream}
use Rattle.js_model.specs.declared.stream.State.{State}
use Rattle.js_model.specs.declared.stream.State.TheVariants.{Vacant, Live}
use Rattle.js_model.specs.Configs.{same_stream_config}
use Rattle.js_model.specs.Streams.{by_name}
use Rattle.snapshot_bound.specs.Bounds.{most_held}

-- so many messages may be picked out for a new consumer: none, but by the last of each subject, and no more than it may hold
abbrev pub most_picked : DeliverPolicy → ℕ → ℕ
most_picked FromAll messages = 0
most_picked FromLast messages = 0
most_picked FromNew messages = 0
most_picked (ByStartSequence seq) messages = 0
most_picked (ByStartTime at) messages = 0
most_picked LastPerSubject messages = most_held messages

-- ---- the part that no count tells

-- where there is no stream
abbrev pub vacant_fixed : What → ℕ
vacant_fixed (whats.Make reply config) = length (stream_text config)
vacant_fixed (whats.Change reply config) = 0
vacant_fixed (whats.Drop reply) = 0
vacant_fixed (whats.Publish p) = 0
vacant_fixed (whats.Purge reply pattern below keep) = 0
vacant_fixed (whats.Delete reply seq) = 0
vacant_fixed (whats.MakeConsumer reply name config update) = 0
vacant_fixed (whats.DropConsumer reply name) = 0
vacant_fixed (whats.Ack reply ack) = 0
vacant_fixed (whats.Pull reply consumer ask) = 0
vacant_fixed whats.Tick = 0
vacant_fixed (whats.StreamInfo reply) = 0
vacant_fixed (whats.MessageGet reply by) = 0
vacant_fixed (whats.ConsumerInfo reply name) = 0
vacant_fixed (whats.ConsumerNames reply offset) = 0
vacant_fixed (whats.ConsumerList reply offset) = 0

-- a consumer that is there and the configuration that stands ask for nothing
abbrev pub live_fixed : Stream → What → ℕ
live_fixed s (whats.Make reply config) = 0
live_fixed s (whats.Change reply config) = if same_stream_config config s.config then 0 else length (stream_text config)
live_fixed s (whats.Drop reply) = 0
live_fixed s (whats.Publish p) = 0
live_fixed s (whats.Purge reply pattern below keep) = 0
live_fixed s (whats.Delete reply seq) = 0
live_fixed s (whats.MakeConsumer reply name config update) =
    if is_some (by_name s.consumers name) then 0
    else 41 + length name + length (consumer_text config) + 8 * most_picked config.deliver_policy (length s.messages)
live_fixed s (whats.DropConsumer reply name) = 0
live_fixed s (whats.Ack reply ack) = 0
live_fixed s (whats.Pull reply consumer ask) = 0
live_fixed s whats.Tick = 0
live_fixed s (whats.StreamInfo reply) = 0
live_fixed s (whats.MessageGet reply by) = 0
live_fixed s (whats.ConsumerInfo reply name) = 0
live_fixed s (whats.ConsumerNames reply offset) = 0
live_fixed s (whats.ConsumerList reply offset) = 0

-- by so much at most an event raises it
abbrev pub event_fixed : State → What → ℕ
event_fixed (Vacant i) what = vacant_fixed what
event_fixed (Live s) what = live_fixed s what

-- ---- the other

abbrev pub vacant_counted : What → ℕ
vacant_counted (whats.Make reply config) = 54
vacant_counted (whats.Change reply config) = 0
vacant_counted (whats.Drop reply) = 0
vacant_counted (whats.Publish p) = 0
vacant_counted (whats.Purge reply pattern below keep) = 0
vacant_counted (whats.Delete reply seq) = 0
vacant_counted (whats.MakeConsumer reply name config update) = 0
vacant_counted (whats.DropConsumer reply name) = 0
vacant_counted (whats.Ack reply ack) = 0
vacant_counted (whats.Pull reply consumer ask) = 0
vacant_counted whats.Tick = 0
vacant_counted (whats.StreamInfo reply) = 0
vacant_counted (whats.MessageGet reply by) = 0
vacant_counted (whats.ConsumerInfo reply name) = 0
vacant_counted (whats.ConsumerNames reply offset) = 0
vacant_counted (whats.ConsumerList reply offset) = 0

abbrev pub live_counted : Stream → What → ℕ
live_counted s (whats.Make reply config) = 0
live_counted s (whats.Change reply config) = 0
live_counted s (whats.Drop reply) = 0
live_counted s (whats.Publish p) = 50 + length p.wants.id + 32 * length s.consumers
live_counted s (whats.Purge reply pattern below keep) = 0
live_counted s (whats.Delete reply seq) = 0
live_counted s (whats.MakeConsumer reply name config update) = if is_some (by_name s.consumers name) then 0 else 32 * most_held (length s.messages)
live_counted s (whats.DropConsumer reply name) = 0
live_counted s (whats.Ack reply ack) = 0
live_counted s (whats.Pull reply consumer ask) = 0
live_counted s whats.Tick = 0
live_counted s (whats.StreamInfo reply) = 0
live_counted s (whats.MessageGet reply by) = 0
live_counted s (whats.ConsumerInfo reply name) = 0
live_counted s (whats.ConsumerNames reply offset) = 0
live_counted s (whats.ConsumerList reply offset) = 0

abbrev pub event_counted : State → What → ℕ
event_counted (Vacant i) what = vacant_counted what
event_counted (Live s) what = live_counted s what

-- ---- both

abbrev pub event_growth : State → What → ℕ
event_growth state what = event_fixed state what + event_counted state what
