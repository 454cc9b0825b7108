-- One consumer by its name: where it stands in a state, and which events drop it, by JetStream's consumers.
use Rattle.std.specs.Prelude.{Bool, true, false, Option, None}
use Rattle.js_base.specs.Bytes.{Bytes, same}
use Rattle.js_model.specs.declared.stream.State.{State}
use Rattle.js_model.specs.declared.stream.State.TheVariants.{Vacant, Live}
use Rattle.js_model.specs.declared.consumer.Consumer.{Consumer}
use Rattle.js_model.specs.declared.event.What.{What}
use Rattle.js_model.specs.declared.event.What.TheVariants.{Make, Change, Drop as DropStream, Publish as PublishIt, Purge, Delete, MakeConsumer, DropConsumer, Ack as AckIt, Pull as PullIt, Tick, StreamInfo as AskStream, MessageGet, ConsumerInfo as AskConsumer, ConsumerNames, ConsumerList}
use Rattle.js_model.specs.Streams.{by_name}

-- the event drops the consumer of this name, or the stream
abbrev pub drops : Bytes → What → Bool
drops name (DropStream reply) = true
drops name (DropConsumer reply other) = same name other
drops name (Make asked config) = false
drops name (Change asked config) = false
drops name (PublishIt p) = false
drops name (Purge asked pattern below keep) = false
drops name (Delete asked n) = false
drops name (MakeConsumer asked other config update) = false
drops name (AckIt asked ack) = false
drops name (PullIt asked other ask) = false
drops name Tick = false
drops name (AskStream asked) = false
drops name (MessageGet asked by) = false
drops name (AskConsumer asked other) = false
drops name (ConsumerNames asked offset) = false
drops name (ConsumerList asked offset) = false

abbrev pub consumer_of : Bytes → State → Option Consumer
consumer_of name (Vacant i) = None
consumer_of name (Live s) = by_name s.consumers name
