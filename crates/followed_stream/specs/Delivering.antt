-- Whether something can be delivered to a consumer of a stream for which time has passed, by JetStream's pull and push consumers.
use Rattle.std.specs.Prelude.{◌≡◌, ℕ, Bool, false, List, Option, Some, None, All, slice_get}
use Rattle.js_base.specs.Bytes.{Bytes}
use Rattle.js_base.specs.declared.out.Out.{Out}
use Rattle.js_model.specs.declared.stream.Stream.{Stream}
use Rattle.js_model.specs.declared.consumer.Consumer.{Consumer}
use Rattle.js_model.specs.Deliver.{is_listened}
use Rattle.js_model.specs.Ready.{is_ready}
use Rattle.consumer_progress.specs.GivingUp.{IsUnspent}

-- time has passed for the consumer up to a moment: no delivery that is due was made as often as it may be
abbrev pub IsCurrentAt : ℕ → Consumer → Type 0
IsCurrentAt now c = IsUnspent now c.config.max_deliver c.pending

-- it has passed for all consumers
pub record AreCurrentAt (now : ℕ) (s : Stream) : Type 0 where
  pub unspent : All (IsCurrentAt now) s.consumers

-- up to the stream's moment
abbrev pub AreCurrent : Stream → Type 0
AreCurrent s = AreCurrentAt s.moment s

-- whether something can be delivered to the consumer, whoever else is listened to; nothing can if there is none
abbrev pub IsReadyIf : Stream → Option Consumer → Bool → Bool → Type 0
IsReadyIf s None listened ready = ready ≡ false
IsReadyIf s (Some c) listened ready = (listening : List Bytes) → is_listened listening c ≡ listened → ready ≡ is_ready s listening c

-- whether something can be delivered to the consumer of a place
abbrev pub IsReadyAt : Stream → ℕ → Bool → Bool → Type 0
IsReadyAt s place listened ready = IsReadyIf s (slice_get s.consumers place) listened ready

-- nothing is delivered, since nothing can be
pub record IsIdleAt (s : Stream) (place : ℕ) (listened : Bool) (outs_old outs_new : List Out) (new : Stream) : Type 0 where
  pub unready : IsReadyAt s place listened false
  pub outs_same : outs_new ≡ outs_old
  pub same : new ≡ s
