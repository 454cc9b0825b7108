-- Which messages a consumer needs, and which are still to be delivered to it, told by subject and sequence, by JetStream's retention and consumer information.
use Rattle.std.specs.Prelude.{◌≡◌, ℕ, nat_le, Bool, ◌&&◌, ◌||◌}
use Rattle.js_base.specs.Bytes.{Bytes, has}
use Rattle.js_model.specs.declared.stream.Message.{Message}
use Rattle.js_model.specs.declared.consumer.Consumer.{Consumer}
use Rattle.js_model.specs.Streams.{passes_filter, pending_seqs}
use Rattle.js_model.specs.Retention.{needs}

-- the consumer's filter matches the subject
abbrev pub takes_subject : Consumer → Bytes → Bool
takes_subject c subject = passes_filter c.config.filter_subject subject

-- the sequence is picked out and not delivered yet, or the cursor has not passed it
abbrev pub is_ahead : Consumer → ℕ → Bool
is_ahead c seq = has c.picks seq || nat_le c.cursor seq

-- a message of this subject and this sequence is still to be delivered
abbrev pub awaits : Consumer → Bytes → ℕ → Bool
awaits c subject seq = takes_subject c subject && is_ahead c seq

-- the consumer needs a message of this subject and this sequence
abbrev pub needs_at : Consumer → Bytes → ℕ → Bool
needs_at c subject seq =
    takes_subject c subject && (has c.picks seq || (nat_le c.cursor seq || (has (pending_seqs c) seq || has c.given_up seq)))

-- a message is needed by its subject and its sequence
abbrev pub LawNeeds : Type 0
LawNeeds = (c : Consumer) (m : Message) → needs c m ≡ needs_at c m.subject m.seq
