-- What a volume may hold, by rules of this server's own.
use Rattle.std.specs.Prelude.{◌≡◌, IsTrue, [], Option, Some, None, All, ⊤}
use Rattle.js_base.specs.Bytes.{same}
use Rattle.js_model.specs.declared.consumer.Consumer.{Consumer}
use Rattle.js_model.specs.Configs.{is_stream_config, is_consumer_config}
use Rattle.model_laws.specs.Sound.{IsWellStored, IsMatched, AreOrdered}
use Rattle.model_laws.specs.Bounds.{IsBounded, IsWritableMessage}
use Rattle.effects.specs.declared.durable.Body.{Body}
use Rattle.effects.specs.declared.durable.Durable.{Durable}
use Rattle.effects.specs.Durables.{state_of}
use Rattle.effects.specs.Restorable.{IsRestorable}

-- what is asked at the end of each batch of records: what is stored is sound, and within the bounds of a volume
pub record IsStorable (d : Durable) : Type 0 where
  pub stored : IsWellStored (state_of d)
  pub bounded : IsBounded (state_of d)

-- what is asked at the end of the last batch alone, since it looks at messages: filters match what they should, and a stream can be restored to it
pub record IsOpenable (d : Durable) : Type 0 where
  pub matched : IsMatched (state_of d)
  pub restorable : IsRestorable (state_of d)

-- ---- what is known before it is asked

-- the configuration of a consumer is one that its reader gives, and has its name; no pull waits, and its mark is the moment of its making
pub record IsConfigured (c : Consumer) : Type 0 where
  pub config : IsTrue (is_consumer_config c.config)
  pub named : IsTrue (same c.config.name c.name)
  pub waiting : c.waiting ≡ []
  pub mark : c.mark ≡ c.made

-- configurations are such as their readers give, each message is one that can be written, and consumers stand in order of their names
pub record IsFormedBody (b : Body) : Type 0 where
  pub config : IsTrue (is_stream_config b.config)
  pub writable : All IsWritableMessage b.messages
  pub consumers : All IsConfigured b.consumers
  pub ordered : AreOrdered b.consumers

abbrev pub IsFormedOf : Option Body → Type 0
IsFormedOf None = ⊤
IsFormedOf (Some b) = IsFormedBody b

abbrev pub IsFormed : Durable → Type 0
IsFormed d = IsFormedOf d.body
