-- What outlives a crash of a state, as a volume holds it, by a rule of this server's own.
use Rattle.std.specs.Prelude.{ℕ, Option, Some, None, map}
use Rattle.js_model.specs.declared.stream.Stream.{Stream}
use Rattle.js_model.specs.declared.stream.State.{State}
use Rattle.js_model.specs.declared.stream.State.TheVariants.{Vacant, Live}
use Rattle.js_model.specs.Lasting.{lasting_consumer}
use Rattle.effects.specs.declared.durable.Body.{Body}
use Rattle.effects.specs.declared.durable.Durable.{Durable}

abbrev pub body_of : Stream → Body
body_of s = record {
  made = s.made;
  moment = s.moment;
  last = s.last;
  config = s.config;
  messages = s.messages;
  ids = s.ids;
  consumers = map lasting_consumer s.consumers;
}

abbrev pub durable_of : State → Durable
durable_of (Vacant i) = record { incarnation = i; body = None }
durable_of (Live s) = record { incarnation = s.incarnation; body = Some (body_of s) }

-- ---- and back

abbrev pub stream_of : ℕ → Body → Stream
stream_of i b = record {
  incarnation = i;
  made = b.made;
  config = b.config;
  messages = b.messages;
  last = b.last;
  moment = b.moment;
  ids = b.ids;
  consumers = b.consumers;
}

abbrev pub state_in : ℕ → Option Body → State
state_in i None = Vacant i
state_in i (Some b) = Live (stream_of i b)

-- the state that is opened from what a volume holds; in it no pull waits
abbrev pub state_of : Durable → State
state_of d = state_in d.incarnation d.body
