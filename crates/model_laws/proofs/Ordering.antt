-- Deliveries come in order.
use Rattle.std.proofs.Common.{◌≡◌, refl}
use Rattle.std.specs.Prelude.{Some}
use Rattle.js_base.specs.Bytes.{Bytes}
use Rattle.js_model.specs.declared.stream.State.{State}
use Rattle.js_model.specs.declared.stream.State.TheVariants.{Vacant, Live}
use Rattle.js_model.specs.declared.consumer.Consumer.{Consumer}
use Rattle.js_model.specs.Advance.{advance}
use Rattle.js_model.specs.Consumers.{new_consumer}
use Rattle.model_laws.proofs.Whole.{join, IsSoundState}
use Rattle.model_laws.specs.OneConsumer.{consumer_of}
use Rattle.model_laws.specs.Laws.{LawOrder, LawStart}
use Rattle.js_model.proofs.Named.{none_some, stands-at}
use Rattle.model_laws.proofs.ConsumerFacts.{InState}
use Rattle.model_laws.proofs.Making.{in_made}
use Rattle.model_laws.proofs.Sounding.{sound_step}
use Rattle.model_laws.proofs.Consecutive.{HasDseq, dseq_kept, follow}
use Rattle.model_laws.proofs.Counted.{counted}
use Rattle.model_laws.proofs.StartOrder.{IsFrom, from_kept, from_itself, start_order, start_order_of}
use Rattle.model_laws.proofs.StoredBefore.{HasConfig, config_kept, stored_before}

-- the consumer of a state stands in it
pub stands_of : (name : Bytes) (s : State) (c : Consumer) (P : Consumer → Type 0) → consumer_of name s ≡ Some c → P c → InState name P s
stands_of name (Vacant i) c P e h = absurd (none_some e)
stands_of name (Live t) c P e h = stands-at c e h

pub law_order : LawOrder
law_order name count old new entries c s e r = record {
  consecutive = follow name c.dseq count old entries new (stands_of name old c (λ d. d.dseq ≡ c.dseq) e refl) r;
  counts = counted name count old entries new r;
  start = start_order_of name count old entries new c (join old s) (stands_of name old c (λ d. d ≡ c) e refl) r;
  stored = stored_before name count old entries new c (join old s) (stands_of name old c (λ d. d.config ≡ c.config) e refl) r;
}

pub law_start : LawStart
law_start name config count later old made new e now reply outs entries s x m r =
    let c = new_consumer (advance old now) name config in record {
      consecutive = follow name 0 later made entries new (in_made name config (HasDseq 0) (dseq_kept 0) old made e now reply outs x.event m refl) r;
      counts = counted name later made entries new r;
      start =
          start_order name c.picks c.cursor later made entries new sound
          (in_made name config (IsFrom c.picks c.cursor) (from_kept c.picks c.cursor) old made e now reply outs x.event m (from_itself c)) r;
      stored = stored_before name later made entries new c sound (in_made name config (HasConfig config) (config_kept config) old made e now reply outs x.event m refl) r;
    }
  where
    sound : IsSoundState made
    sound = sound_step count (Live old) made e now reply outs x (join (Live old) s)
