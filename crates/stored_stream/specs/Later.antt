-- What is stored of a stream as it is seen at a later moment: without the messages that are too old by then, by JetStream's max_age.
use Rattle.std.specs.Prelude.{◌≡◌, ℕ, ◌+◌, nat_le, List, [], ◌∷◌, Option, Some, None, filter}
use Rattle.js_model.specs.declared.stream.Message.{Message}
use Rattle.js_model.specs.declared.stream.Stream.{Stream}
use Rattle.js_model.specs.Advance.{young}
use Rattle.stream_view.specs.declared.counts.Counts.{Counts}
use Rattle.stored_stream.specs.Stored.{IsSound}

-- the stream at the moment
abbrev pub later : Stream → ℕ → Stream
later s now = record s { messages = young s now; moment = now }

-- the messages from a sequence on
abbrev pub messages_from : ℕ → List Message → List Message
messages_from first messages = filter (λ m. nat_le first m.seq) messages

-- the messages that are not too old are those from a sequence on
pub record IsSeenFrom (s : Stream) (now first : ℕ) : Type 0 where
  pub sound : IsSound s
  pub seen : young s now ≡ messages_from first s.messages

-- what is counted of some sequences, and then of one more
abbrev pub counted_more : Option Counts → ℕ → Counts
counted_more None seq = record { count = 1; first = seq; last = seq }
counted_more (Some c) seq = record c { count = c.count + 1; last = seq }

-- and of those that follow
abbrev pub counted_all : Option Counts → List ℕ → Option Counts
counted_all found [] = found
counted_all found (seq ∷ more) = counted_all (Some (counted_more found seq)) more
