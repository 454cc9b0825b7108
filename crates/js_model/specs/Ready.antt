-- Whether something can be delivered to a consumer, by JetStream's pull and push consumers.
use Rattle.std.specs.Prelude.{ℕ, Bool, false, not, List, [], ◌∷◌, if◌then◌else◌}
use Rattle.std.specs.List.{list_any}
use Rattle.js_base.specs.Bytes.{Bytes, is_empty}
use Rattle.js_model.specs.declared.stream.Message.{Message}
use Rattle.js_model.specs.declared.stream.Stream.{Stream}
use Rattle.js_model.specs.declared.stream.State.{State}
use Rattle.js_model.specs.declared.stream.State.TheVariants.{Vacant, Live}
use Rattle.js_model.specs.declared.consumer.Consumer.{Consumer}
use Rattle.js_model.specs.Streams.{is_push}
use Rattle.js_model.specs.Advance.{advance}
use Rattle.js_model.specs.Deliver.{candidates, is_listened}

-- if there is a candidate, somebody asks for it; if there is none, some pull does not wait
abbrev pub is_ready_with : List Message → List Bytes → Consumer → Bool
is_ready_with [] listening c = list_any (λ p. p.no_wait) c.waiting
is_ready_with (m ∷ ms) listening c = if is_push c then is_listened listening c else not (is_empty c.waiting)

-- something can be delivered to the consumer
abbrev pub is_ready : Stream → List Bytes → Consumer → Bool
is_ready a listening c = is_ready_with (candidates a c) listening c

-- some consumer of the place is ready at a moment
abbrev pub some_ready : State → ℕ → List Bytes → Bool
some_ready (Vacant i) now listening = false
some_ready (Live s) now listening = list_any (is_ready (advance s now) listening) (advance s now).consumers
