-- The push consumers of a place, as one sees them who asks who listens: by JetStream's push consumers.
use Rattle.std.specs.Prelude.{List, [], Option, Some, None, filter, if◌then◌else◌}
use Rattle.js_base.specs.Bytes.{Bytes, is_empty}
use Rattle.js_model.specs.declared.stream.State.{State}
use Rattle.js_model.specs.declared.stream.State.TheVariants.{Vacant, Live}
use Rattle.js_model.specs.declared.consumer.Consumer.{Consumer}
use Rattle.js_model.specs.Streams.{is_push}

-- a push consumer: its name, its deliver subject, and the queue name of its deliver group if it has one
pub record Pushing : Type 0 where
  pub name : Bytes
  pub subject : Bytes
  pub group : Option Bytes

abbrev pub group_in : Bytes → Option Bytes
group_in group = if is_empty group then None else Some group

abbrev pub push_of : Consumer → Pushing
push_of c = record { name = c.name; subject = c.config.deliver_subject; group = group_in c.config.deliver_group }

-- the push consumers, in the order of their names
abbrev pub pushes_in : State → List Consumer
pushes_in (Vacant last) = []
pushes_in (Live stream) = filter is_push stream.consumers
