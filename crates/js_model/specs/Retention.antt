-- Which messages a stream still keeps, by JetStream's retention policies.
use Rattle.std.specs.Prelude.{nat_le, Bool, true, ◌&&◌, ◌||◌, not, List, filter}
use Rattle.std.specs.List.{list_any}
use Rattle.js_base.specs.Bytes.{has}
use Rattle.js_model.specs.declared.stream_config.Retention.{Retention as Policy}
use Rattle.js_model.specs.declared.stream_config.Retention.TheVariants.{Limits, Interest, WorkQueue}
use Rattle.js_model.specs.declared.stream.Message.{Message}
use Rattle.js_model.specs.declared.stream.Stream.{Stream}
use Rattle.js_model.specs.declared.consumer.Consumer.{Consumer}
use Rattle.js_model.specs.Streams.{only, takes, pending_seqs}

-- the consumer needs the message
abbrev pub needs : Consumer → Message → Bool
needs c m = takes c m && (has c.picks m.seq || (nat_le c.cursor m.seq || (has (pending_seqs c) m.seq || has c.given_up m.seq)))

abbrev pub is_kept : Policy → List Consumer → Message → Bool
is_kept Limits consumers m = true
is_kept Interest consumers m = list_any (λ c. needs c m) consumers
is_kept WorkQueue consumers m = list_any (λ c. needs c m) consumers || not (list_any (λ c. takes c m) consumers)

-- the stream with the messages that its retention keeps
unfoldable pub kept : Stream → Stream
kept s = only s (filter (is_kept s.config.retention s.consumers) s.messages)
