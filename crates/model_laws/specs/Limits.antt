-- The limits that hold, by those of JetStream's streams, max_ack_pending and max_deliver.
use Rattle.std.specs.Prelude.{◌≡◌, ◌≤◌, ◌+◌, map, filter, unwrap_or, count_by, sum_by, length, All, IfSome, ◌==◌, false, ℕ, List, Some, ⊤}
use Rattle.js_base.specs.Bytes.{Bytes, same}
use Rattle.js_model.specs.declared.stream.Stream.{Stream}
use Rattle.js_model.specs.declared.stream.State.{State}
use Rattle.js_model.specs.declared.stream.State.TheVariants.{Vacant, Live}
use Rattle.js_model.specs.declared.consumer.Consumer.{Consumer}
use Rattle.js_model.specs.declared.entry.PlaceEntry.{PlaceEntry}
use Rattle.js_model.specs.Streams.{size, is_push}
use Rattle.js_model.specs.Trim.{max_messages}
use Rattle.js_model.specs.Deliver.{count_of}
use Rattle.js_model.specs.Runs.{RunFrom}
use Rattle.model_laws.specs.OneConsumer.{consumer_of}
use Rattle.model_laws.specs.Sendings.{Sending, sendings}
use Rattle.model_laws.specs.Turns.{turn_of, Serves}

-- a stream within the limits of its configuration, and its consumers within theirs
pub record IsWithinLimits (s : Stream) : Type 0 where
  pub per_subject : IfSome s.config.max_msgs_per_subject (λ limit. (subject : Bytes) → count_by (λ m. same m.subject subject) s.messages ≤ limit)
  pub messages : length s.messages ≤ max_messages s
  pub bytes : IfSome s.config.max_bytes (λ limit. sum_by size s.messages ≤ limit)
  pub pending : All (λ c. length c.pending ≤ unwrap_or c.config.max_ack_pending 65536) s.consumers

abbrev pub IsWithin : State → Type 0
IsWithin (Vacant i) = ⊤
IsWithin (Live s) = IsWithinLimits s

-- how often a sequence is sent
abbrev pub times_sent : ℕ → List Sending → ℕ
times_sent n xs = length (filter (λ x. x.seq == n) xs)

pub record AreLimited (count : ℕ) (old new : State) (entries : List PlaceEntry) (r : RunFrom count old entries new) : Type 0 where
  pub within : IsWithin old → IsWithin new
  pub deliveries : (name : Bytes) (n : ℕ) (c : Consumer) → consumer_of name old ≡ Some c → IfSome c.config.max_deliver (λ limit. count_of c n + times_sent n (sendings name entries) ≤ limit)
  pub pulls : (name : Bytes) (c : Consumer) → consumer_of name old ≡ Some c → is_push c ≡ false → Serves name (map turn_of c.waiting) count old entries new r
