-- What a volume may hold of a consumer beside the messages of its stream, by rules of this server's own.
use Rattle.std.specs.Prelude.{◌≡◌, ℕ, ◌+◌, ◌≤◌, true, IsTrue, List, filter, length, not}
use Rattle.js_base.specs.Bytes.{Bytes, has, same}
use Rattle.js_model.specs.declared.stream.Message.{Message}
use Rattle.js_model.specs.declared.consumer_config.ConsumerConfig.{ConsumerConfig}
use Rattle.js_model.specs.declared.consumer.Consumer.{Consumer}
use Rattle.js_model.specs.Configs.{is_consumer_config}
use Rattle.js_model.specs.Lists.{Between}
use Rattle.js_model.specs.Streams.{seqs}
use Rattle.model_laws.specs.Sound.{AreStored, IsWellStoredConsumer}
use Rattle.model_laws.specs.Bounds.{IsBoundedConsumer, IsNumber}
use Rattle.effects.specs.Ranges.{is_within}

-- it is sound and within the bounds of a volume, where these messages are stored and this sequence is the last
pub record IsStorableConsumer (messages : List Message) (last : ℕ) (c : Consumer) : Type 0 where
  pub stored : IsWellStoredConsumer messages last c
  pub bounded : IsBoundedConsumer c

-- the new consumer may be held wherever the old one may
pub record Keeps (old new : Consumer) : Type 0 where
  pub kept : (messages : List Message) (last : ℕ) → IsStorableConsumer messages last old → IsStorableConsumer messages last new

-- without the messages of a range it may be held where the old one may with them
pub record KeepsOutside (low high : ℕ) (old new : Consumer) : Type 0 where
  pub kept : (messages : List Message) (last : ℕ) → IsStorableConsumer messages last old → IsStorableConsumer (filter (λ m. not (is_within low high m.seq)) messages) last new

-- a message of this sequence is stored
pub record IsStoredSeq (messages : List Message) (last seq : ℕ) : Type 0 where
  pub least : 1 ≤ seq
  pub most : seq ≤ last
  pub stored : has (seqs messages) seq ≡ true

-- it may be held where the old one may and the sequence is stored
pub record KeepsWith (seq : ℕ) (old new : Consumer) : Type 0 where
  pub kept : (messages : List Message) (last : ℕ) → IsStoredSeq messages last seq → IsStorableConsumer messages last old → IsStorableConsumer messages last new

-- a consumer may begin so where these messages are stored and this sequence is the last
pub record CanStart (messages : List Message) (last : ℕ) (name : Bytes) (made : ℕ) (config : ConsumerConfig) (cursor : ℕ) (picks : List ℕ) : Type 0 where
  pub valid : IsTrue (is_consumer_config config)
  pub named : IsTrue (same config.name name)
  pub moment : IsNumber made
  pub end : IsNumber last
  pub reach : cursor ≤ last + 1
  pub ascend : Between (λ n. n) 1 cursor picks
  pub stored : AreStored messages picks
  pub few : length picks ≤ 65536

-- the new consumer may be held wherever one may begin so
pub record KeepsStart (name : Bytes) (made : ℕ) (config : ConsumerConfig) (cursor : ℕ) (picks : List ℕ) (new : Consumer) : Type 0 where
  pub kept : (messages : List Message) (last : ℕ) → CanStart messages last name made config cursor picks → IsStorableConsumer messages last new
