-- What is known of a record that was read: the numbers of a volume, configurations such as their readers give, and a message that may be stored.
use Rattle.std.specs.Prelude.{ℕ, IsTrue, ⊤}
use Rattle.js_base.specs.Bytes.{Bytes, same}
use Rattle.js_model.specs.declared.stream_config.StreamConfig.{StreamConfig}
use Rattle.js_model.specs.declared.consumer_config.ConsumerConfig.{ConsumerConfig}
use Rattle.js_model.specs.declared.stream.Message.{Message}
use Rattle.js_model.specs.Configs.{is_stream_config, is_consumer_config}
use Rattle.model_laws.specs.Bounds.{IsNumber}
use Rattle.message_store.specs.Stored.{IsSmall}
use Rattle.effects.specs.declared.effect.Effect.{Effect}
use Rattle.effects.specs.declared.effect.Effect.TheVariants.{MakeStream, ChangeStream, DropStream, PutHere, Skip, Remove, MakeConsumer, DropConsumer, Deliver, Acked, Due, GivenUp, Now}

pub record IsGivenStream (incarnation : ℕ) (config : StreamConfig) : Type 0 where
  pub number : IsNumber incarnation
  pub valid : IsTrue (is_stream_config config)

pub record IsGivenMessage (m : Message) : Type 0 where
  pub number : IsNumber m.seq
  pub small : IsSmall m

pub record IsGivenConsumer (name : Bytes) (config : ConsumerConfig) : Type 0 where
  pub valid : IsTrue (is_consumer_config config)
  pub named : IsTrue (same config.name name)

abbrev pub IsGiven : Effect → Type 0
IsGiven (MakeStream incarnation made config) = IsGivenStream incarnation config
IsGiven (ChangeStream config) = IsTrue (is_stream_config config)
IsGiven DropStream = ⊤
IsGiven (PutHere seq at id subject headers payload) = IsGivenMessage (record { seq = seq; at = at; subject = subject; headers = headers; payload = payload })
IsGiven (Skip seq at id) = IsNumber seq
IsGiven (Remove low high) = ⊤
IsGiven (MakeConsumer name made config cursor picks) = IsGivenConsumer name config
IsGiven (DropConsumer name) = ⊤
IsGiven (Deliver name seq count due dseq) = ⊤
IsGiven (Acked name low high) = ⊤
IsGiven (Due name seq due) = ⊤
IsGiven (GivenUp name moment) = ⊤
IsGiven (Now moment) = ⊤
