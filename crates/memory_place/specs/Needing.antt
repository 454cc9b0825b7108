-- What needs room once its moment has come: a publish that is taken, a configuration that is another one, and a consumer or a stream that is made.
use Rattle.std.specs.Prelude.{◌+◌, ◌^◌, ℕ, Bool, true, false, not, ◌&&◌, ◌==◌, Option, None, Some, is_none}
use Rattle.js_base.specs.Bytes.{Bytes}
use Rattle.js_model.specs.declared.consumer.Consumer.{Consumer}
use Rattle.js_model.specs.declared.consumer_config.ConsumerConfig.{ConsumerConfig}
use Rattle.js_model.specs.declared.event.What.{What}
use Rattle.js_model.specs.declared.event.What.TheVariants as whats
use Rattle.js_model.specs.declared.reply.Verdict.{Verdict}
use Rattle.js_model.specs.declared.reply.Verdict.TheVariants as verdicts
use Rattle.js_model.specs.declared.stream.State.{State}
use Rattle.js_model.specs.declared.stream.State.TheVariants.{Vacant, Live}
use Rattle.js_model.specs.declared.stream.Stream.{Stream}
use Rattle.js_model.specs.declared.stream_config.StreamConfig.{StreamConfig}
use Rattle.js_model.specs.Configs.{same_retention, same_stream_config}
use Rattle.js_model.specs.Consumers.{making_checks}
use Rattle.js_model.specs.Refusals.{first_refusal}
use Rattle.js_model.specs.Streams.{by_name}
use Rattle.js_model.specs.Verdict.{verdict}

abbrev pub takes : Verdict → Bool
takes verdicts.Take = true
takes (verdicts.Duplicate n) = false
takes (verdicts.Refused e) = false

abbrev pub replaces_config : Stream → StreamConfig → Bool
replaces_config s config = same_retention config.retention s.config.retention && not (same_stream_config config s.config)

abbrev pub makes_consumer : Stream → Bytes → ConsumerConfig → Bool → Option Consumer → Bool
makes_consumer s name config update (Some c) = false
makes_consumer s name config true None = false
makes_consumer s name config false None = is_none (first_refusal (making_checks s name config))

abbrev pub stream_needs_room : Stream → What → Bool
stream_needs_room s (whats.Publish p) = takes (verdict s p true)
stream_needs_room s (whats.Change reply config) = replaces_config s config
stream_needs_room s (whats.MakeConsumer reply name config update) = makes_consumer s name config update (by_name s.consumers name)
stream_needs_room s (whats.Make reply config) = false
stream_needs_room s (whats.Drop reply) = false
stream_needs_room s (whats.Purge reply pattern below keep) = false
stream_needs_room s (whats.Delete reply n) = false
stream_needs_room s (whats.DropConsumer reply name) = false
stream_needs_room s (whats.Ack reply ack) = false
stream_needs_room s (whats.Pull reply name ask) = false
stream_needs_room s whats.Tick = false
stream_needs_room s (whats.StreamInfo reply) = false
stream_needs_room s (whats.MessageGet reply by) = false
stream_needs_room s (whats.ConsumerInfo reply name) = false
stream_needs_room s (whats.ConsumerNames reply offset) = false
stream_needs_room s (whats.ConsumerList reply offset) = false

abbrev pub vacant_needs_room : ℕ → What → Bool
vacant_needs_room last (whats.Make reply config) = not (last + 1 == 2 ^ 62)
vacant_needs_room last (whats.Change reply config) = false
vacant_needs_room last (whats.Publish p) = false
vacant_needs_room last (whats.MakeConsumer reply name config update) = false
vacant_needs_room last (whats.Drop reply) = false
vacant_needs_room last (whats.Purge reply pattern below keep) = false
vacant_needs_room last (whats.Delete reply n) = false
vacant_needs_room last (whats.DropConsumer reply name) = false
vacant_needs_room last (whats.Ack reply ack) = false
vacant_needs_room last (whats.Pull reply name ask) = false
vacant_needs_room last whats.Tick = false
vacant_needs_room last (whats.StreamInfo reply) = false
vacant_needs_room last (whats.MessageGet reply by) = false
vacant_needs_room last (whats.ConsumerInfo reply name) = false
vacant_needs_room last (whats.ConsumerNames reply offset) = false
vacant_needs_room last (whats.ConsumerList reply offset) = false

abbrev pub needs_room : State → What → Bool
needs_room (Vacant last) what = vacant_needs_room last what
needs_room (Live s) what = stream_needs_room s what
