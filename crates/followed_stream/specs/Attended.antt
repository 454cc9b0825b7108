-- Streams with their consumers, this server's own: what holds of them whether or not their limits hold, and what is left without some messages.
use Rattle.std.specs.Prelude.{◌≡◌, ℕ, ◌==◌, not, List, [], ◌∷◌, None, All, filter, ⊤}
use Rattle.js_base.specs.Bytes.{has}
use Rattle.js_model.specs.declared.stream.Stream.{Stream}
use Rattle.js_model.specs.declared.consumer.Consumer.{Consumer}
use Rattle.js_model.specs.Streams.{by_name, only}
use Rattle.model_laws.specs.Sound.{AreOrdered}
use Rattle.consumer_need.specs.Stored.{HoldsStored}
use Rattle.stored_stream.specs.Stored.{IsSound}

-- no two have the same name
abbrev pub AreNamedApart : List Consumer → Type 0
AreNamedApart [] = ⊤
AreNamedApart (c ∷ cs) = (by_name cs c.name ≡ None) × AreNamedApart cs

-- what is stored is sound, the consumers hold stored messages alone, and stand in the order of their names
pub record IsAttended (s : Stream) : Type 0 where
  pub sound : IsSound s
  pub held : All (HoldsStored s) s.consumers
  pub ordered : AreOrdered s.consumers

-- the stream without its consumers
abbrev pub stored_of : Stream → Stream
stored_of s = record s { consumers = [] }

-- the stream without the message of a sequence, which its consumers forget
abbrev pub without_seq : ℕ → Stream → Stream
without_seq seq s = only s (filter (λ m. not (m.seq == seq)) s.messages)

-- the stream without the messages of these sequences, which its consumers forget
abbrev pub without_seqs : List ℕ → Stream → Stream
without_seqs gone s = only s (filter (λ m. not (has gone m.seq)) s.messages)
