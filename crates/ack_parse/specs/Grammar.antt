-- The grammar of acknowledgements, after JetStream's: how each is spelled.
use Rattle.std.specs.Prelude.{◌≡◌, ◌⊎◌, [], ◌∷◌, ◌++◌, codes, Ok, IsOk}
use Rattle.js_base.specs.Bytes.{Bytes}
use Rattle.js_base.specs.Decimal.{number_of}
use Rattle.js_base.specs.Names.{name_of}
use Rattle.js_base.specs.Subjects.{tokens}
use Rattle.js_model.specs.declared.ack.AckKind.{AckKind}
use Rattle.js_model.specs.declared.ack.AckKind.TheVariants as kinds
use Rattle.ack_parse.specs.Asks.{just}
use Rattle.ack_parse.specs.Pulls.{SpellsDelay, SpellsAsk}
use Rattle.ack_parse.specs.declared.subject.Delivered.{Delivered}

-- ---- subjects

-- The subject is one to which a delivery is acknowledged: `$JS`, `ACK`, the names of a stream and a consumer, and five decimals, of which the second
-- is the message's sequence.
pub record SpellsSubject (subject : Bytes) (d : Delivered) : Type 0 where
  pub count : Bytes
  pub sequence : Bytes
  pub consumer_sequence : Bytes
  pub time : Bytes
  pub pending : Bytes
  pub spelled : tokens subject ≡ codes "$JS" ∷ codes "ACK" ∷ d.stream ∷ d.consumer ∷ count ∷ sequence ∷ consumer_sequence ∷ time ∷ pending ∷ []
  pub stream_is : name_of d.stream ≡ Ok d.stream
  pub consumer_is : name_of d.consumer ≡ Ok d.consumer
  pub count_is : IsOk (number_of count)
  pub sequence_is : number_of sequence ≡ Ok d.seq
  pub consumer_sequence_is : IsOk (number_of consumer_sequence)
  pub time_is : IsOk (number_of time)
  pub pending_is : IsOk (number_of pending)

-- ---- bodies

-- The body says that. A reason may be empty, and so may a pull request.
abbrev pub Says : Bytes → AckKind → Type 0
Says body kinds.Ack = (body ≡ []) ⊎ (body ≡ codes "+ACK")
Says body (kinds.Nak delay) = ((body ≡ codes "-NAK") × (delay ≡ 0)) ⊎ ((object : Bytes) × (body ≡ codes "-NAK " ++ object) × SpellsDelay object delay)
Says body kinds.Wpi = body ≡ codes "+WPI"
Says body (kinds.Next ask) = ((body ≡ codes "+NXT") × (ask ≡ just 1)) ⊎ ((text : Bytes) × (body ≡ codes "+NXT " ++ text) × SpellsAsk text ask)
Says body kinds.Term = (body ≡ codes "+TERM") ⊎ ((reason : Bytes) × (body ≡ codes "+TERM " ++ reason))
