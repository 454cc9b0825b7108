-- Whether a stream is asked to be dropped.
use Rattle.std.specs.Prelude.{Bool, true, false}
use Rattle.js_model.specs.declared.event.What.{What}
use Rattle.js_model.specs.declared.event.What.TheVariants as whats

abbrev pub is_drop : What → Bool
is_drop (whats.Make reply config) = false
is_drop (whats.Change reply config) = false
is_drop (whats.Drop reply) = true
is_drop (whats.Publish publish) = false
is_drop (whats.Purge reply filter below keep) = false
is_drop (whats.Delete reply seq) = false
is_drop (whats.MakeConsumer reply name config update) = false
is_drop (whats.DropConsumer reply name) = false
is_drop (whats.Ack reply ack) = false
is_drop (whats.Pull reply consumer ask) = false
is_drop whats.Tick = false
is_drop (whats.StreamInfo reply) = false
is_drop (whats.MessageGet reply by) = false
is_drop (whats.ConsumerInfo reply name) = false
is_drop (whats.ConsumerNames reply offset) = false
is_drop (whats.ConsumerList reply offset) = false
