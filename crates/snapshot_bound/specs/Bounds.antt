-- What the snapshot of a place may come to, by a rule of this server's own: a number of bytes that nothing raises but what asks for room. A message counts 32 bytes,
-- 26 of its own and 6 of the block that it may begin. A consumer counts as if each message both waited to be acknowledged and was given up, as far as it may hold
-- them; so deliveries and acknowledgements leave the number as it is.
use Rattle.std.specs.Prelude.{◌+◌, ◌-◌, ◌*◌, ◌^◌, ℕ, min, sum_by, length, Option, None, Some}
use Rattle.config_texts.specs.Texts.{stream_text, consumer_text}
use Rattle.js_model.specs.declared.consumer.Consumer.{Consumer}
use Rattle.js_model.specs.declared.stream.Id.{Id}
use Rattle.js_model.specs.declared.stream.State.{State}
use Rattle.js_model.specs.declared.stream.State.TheVariants.{Vacant, Live}
use Rattle.effects.specs.declared.durable.Body.{Body}
use Rattle.effects.specs.declared.durable.Durable.{Durable}

-- ---- the part that no count tells

-- a consumer with its configuration, and with what is picked out for it, which becomes no more
abbrev pub consumer_fixed : Consumer → ℕ
consumer_fixed c = 41 + length c.name + length (consumer_text c.config) + 8 * length c.picks

-- a stream's configuration, and its consumers
abbrev pub body_fixed : Body → ℕ
body_fixed b = length (stream_text b.config) + sum_by consumer_fixed b.consumers

abbrev pub fixed_in : Option Body → ℕ
fixed_in None = 0
fixed_in (Some b) = body_fixed b

abbrev pub fixed : Durable → ℕ
fixed d = fixed_in d.body

-- ---- the part that counts tell

-- an id, with its sequence and its moment
abbrev pub id_length : Id → ℕ
id_length i = 18 + length i.id

-- of so many messages one consumer may hold so many as waiting, and as many as given up
abbrev pub most_held : ℕ → ℕ
most_held messages = min messages 65536

-- by how long the ids are, and how many messages and consumers there are
abbrev pub counted_by : (ids messages consumers : ℕ) → ℕ
counted_by ids messages consumers = 93 + ids + 32 * messages + consumers * (32 * most_held messages)

abbrev pub counted_in : Option Body → ℕ
counted_in None = 39
counted_in (Some b) = counted_by (sum_by id_length b.ids) (length b.messages) (length b.consumers)

abbrev pub counted : Durable → ℕ
counted d = counted_in d.body

-- that of a state
abbrev pub state_counted : State → ℕ
state_counted (Vacant i) = 39
state_counted (Live s) = counted_by (sum_by id_length s.ids) (length s.messages) (length s.consumers)

-- ---- the whole

-- with the head of a log, and what stands around its first batch
abbrev pub bound : Durable → ℕ
bound d = fixed d + counted d

-- that of a state, if so much or less of it is fixed
abbrev pub bound_with : (known : ℕ) → State → ℕ
bound_with known state = known + state_counted state

-- by its parts
abbrev pub bound_by : (fixed ids messages consumers : ℕ) → ℕ
bound_by fixed ids messages consumers = fixed + counted_by ids messages consumers

-- ---- numbers of eight bytes

-- the number, or the greatest that eight bytes can tell
abbrev pub capped : ℕ → ℕ
capped n = min n (2 ^ 64 - 1)
