-- Streams as they are stored: what holds of them whether or not their limits hold.
use Rattle.std.specs.Prelude.{◌≡◌, ℕ, true, ◌+◌, ◌^◌, ◌<◌, ◌≤◌, ◌==◌, not, List, [], ◌∷◌, ◌++◌, filter, length, All, IsTrue}
use Rattle.std.specs.Str.{is_utf8}
use Rattle.js_base.specs.Bytes.{Bytes}
use Rattle.js_model.specs.declared.stream_config.StreamConfig.{StreamConfig}
use Rattle.js_model.specs.declared.stream.Message.{Message}
use Rattle.js_model.specs.declared.stream.Id.{Id}
use Rattle.js_model.specs.declared.stream.Stream.{Stream}
use Rattle.js_model.specs.declared.event.Publish.{Publish}
use Rattle.js_model.specs.Configs.{is_stream_config}
use Rattle.js_model.specs.Lists.{Between}
use Rattle.message_store.specs.Stored.{IsSmall}

-- a stream without consumers
abbrev pub alone : ℕ → ℕ → StreamConfig → List Message → ℕ → ℕ → List Id → Stream
alone incarnation made config messages last moment ids = record {
  incarnation = incarnation;
  made = made;
  config = config;
  messages = messages;
  last = last;
  moment = moment;
  ids = ids;
  consumers = [];
}

-- the moments do not fall, from low on, and are at most high
abbrev pub Rises : {X : Type 0} → (X → ℕ) → ℕ → ℕ → List X → Type 0
Rises f low high [] = low ≤ high
Rises f low high (x ∷ xs) = (low ≤ f x) × Rises f (f x) high xs

-- its subject is UTF-8
abbrev pub IsText : Message → Type 0
IsText m = is_utf8 m.subject ≡ true

-- The configuration is valid; the sequences ascend and are at most the last one, the moments do not fall and are at most the stream's own;
-- the numbers are in their ranges. Of consumers nothing is said
pub record IsSound (s : Stream) : Type 0 where
  pub config : IsTrue (is_stream_config s.config)
  pub incarnation : s.incarnation < 2 ^ 62
  pub last : s.last < 2 ^ 62
  pub ascends : Between (λ m. m.seq) 1 (s.last + 1) s.messages
  pub few : length s.messages < 2 ^ 32
  pub small : All IsSmall s.messages
  pub texts : All IsText s.messages
  pub messages : Rises (λ m. m.at) 0 s.moment s.messages
  pub ids : All (λ i. i.at ≤ s.moment) s.ids

-- it is sound, and its ids count as long as its configuration says
pub record AreHeld (s : Stream) (age : ℕ) : Type 0 where
  pub sound : IsSound s
  pub window : age ≡ s.config.duplicate_window

-- the message that a publish stores under a sequence at a moment
abbrev pub stored_message : Publish → ℕ → ℕ → Message
stored_message p seq at = record { seq = seq; at = at; subject = p.subject; headers = p.headers; payload = p.payload }

-- the ids with one more, if it is not empty
abbrev pub with_known : List Id → Bytes → ℕ → ℕ → List Id
with_known ids [] seq at = ids
with_known ids (byte ∷ more) seq at = ids ++ record { id = byte ∷ more; seq = seq; at = at } ∷ []

-- the stream without the message of a sequence
abbrev pub without : ℕ → Stream → Stream
without seq s = record s { messages = filter (λ m. not (m.seq == seq)) s.messages }
