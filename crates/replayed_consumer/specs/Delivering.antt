-- Which delivery a record may tell of, by JetStream's consumer sequences and max_deliver. How many deliveries wait is this server's own.
use Rattle.std.specs.Prelude.{◌≡◌, ℕ, ◌+◌, Bool, true, false, ◌&&◌, ◌||◌, length, nat_le, nat_lt}
use Rattle.js_base.specs.Bytes.{has}
use Rattle.js_model.specs.declared.consumer.Pending.{Pending}
use Rattle.js_model.specs.declared.consumer.Consumer.{Consumer}
use Rattle.js_model.specs.Streams.{is_unacknowledged, pending_seqs}
use Rattle.model_laws.specs.Sound.{IsCounted}
use Rattle.model_laws.specs.Bounds.{IsNumber}

-- one more delivery may wait, or it waits already, or none waits at all
abbrev pub has_room : Consumer → ℕ → Bool
has_room c seq = is_unacknowledged c || (has (pending_seqs c) seq || (nat_lt (length c.pending) 65536 && nat_le (length c.given_up) 65536))

-- its consumer sequence is the next one, it was made no more often than it may be, it is not given up, and it has room
pub record CanDeliver (c : Consumer) (p : Pending) (dseq : ℕ) : Type 0 where
  pub next : dseq ≡ c.dseq + 1
  pub number : IsNumber dseq
  pub seq : IsNumber p.seq
  pub due : IsNumber p.due
  pub counted : IsCounted dseq c.config.max_deliver p
  pub not_given_up : has c.given_up p.seq ≡ false
  pub room : has_room c p.seq ≡ true
