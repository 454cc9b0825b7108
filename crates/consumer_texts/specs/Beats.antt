-- What a push consumer's heartbeat tells, by JetStream's idle heartbeats.
use Rattle.std.specs.Prelude.{ℕ, ◌-◌, List, [], ◌∷◌, codes}
use Rattle.js_base.specs.Bytes.{Bytes}

-- the last consumer sequence, and the sequence before the cursor
abbrev pub last_fields : ℕ → ℕ → List (Bytes × ℕ)
last_fields dseq cursor = (codes "Nats-Last-Consumer", dseq) ∷ (codes "Nats-Last-Stream", cursor - 1) ∷ []
