-- What is left if the messages over the limits go one by one is what the limits keep.
use Rattle.std.specs.Prelude.{◌≡◌, ℕ, ◌+◌, [], ◌∷◌, Some, None, All}
use Rattle.js_model.specs.declared.stream.Message.{Message}
use Rattle.js_model.specs.declared.stream.Stream.{Stream}
use Rattle.js_model.specs.Events.{message_at, without_messages}
use Rattle.js_model.specs.Lists.{Between}
use Rattle.js_model.specs.Trim.{trim}
use Rattle.consumer_need.specs.Stored.{HoldsStored}
use Rattle.retention.specs.Over.{next_over}

-- a stream whose sequences ascend, and whose consumers hold stored messages alone
pub record IsCoherent (s : Stream) : Type 0 where
  pub ascends : Between (λ m. m.seq) 1 (s.last + 1) s.messages
  pub held : All (HoldsStored s) s.consumers

-- a stream of which nothing is to go is as its limits keep it
abbrev pub LawWithin : Type 0
LawWithin = (s : Stream) → IsCoherent s → next_over s ≡ None → trim s ≡ s

-- what is to go next is there, and the limits keep the same without it
abbrev pub LawWithout : Type 0
LawWithout = (s : Stream) (n : ℕ) → IsCoherent s → next_over s ≡ Some n
    → (m : Message) × (message_at s n ≡ Some m) × (trim (without_messages s (m ∷ [])) ≡ trim s)

-- of what the limits keep nothing is to go, and they keep all of it
abbrev pub LawTrimmed : Type 0
LawTrimmed = (s : Stream) → IsCoherent s → (next_over (trim s) ≡ None) × (trim (trim s) ≡ trim s)
