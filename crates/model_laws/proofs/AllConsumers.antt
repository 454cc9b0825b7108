-- A fact of each consumer that each of its changes keeps holds after each event and each delivery.
use Rattle.std.proofs.Common.{ℕ, ◌+◌, Bool, true, false, not, cond, List, [], ◌∷◌, ◌++◌, max, sym, subst}
use Rattle.std.specs.Prelude.{All, ⊤}
use Rattle.std.proofs.lemmas.List.Elements.{All-map, All-weaker, All-filter, All-nil}
use Rattle.js_base.specs.Bytes.{Bytes, same}
use Rattle.js_base.specs.declared.out.Out.{Out}
use Rattle.js_model.specs.declared.consumer_config.ConsumerConfig.{ConsumerConfig}
use Rattle.js_model.specs.declared.stream.Message.{Message}
use Rattle.js_model.specs.declared.stream.Stream.{Stream}
use Rattle.js_model.specs.declared.stream.State.{State}
use Rattle.js_model.specs.declared.consumer.Consumer.{Consumer}
use Rattle.js_model.specs.declared.event.Publish.{Publish}
use Rattle.js_model.specs.declared.entry.Delivery.{Delivery}
use Rattle.js_model.specs.Streams.{only, seqs, confined, with_consumer, in_place_of}
use Rattle.js_model.specs.Advance.{advance, young, consumer_at}
use Rattle.js_model.specs.Verdict.{message_of}
use Rattle.js_model.specs.Consumers.{new_consumer}
use Rattle.js_model.specs.Events.{with_id}
use Rattle.js_model.specs.Deliver.{IsDelivery}
use Rattle.model_laws.proofs.Facts.{IsStreamFact, IfLive, at_kept}
use Rattle.model_laws.proofs.NameOrder.{All-with_new}
use Rattle.model_laws.proofs.SoundAcks.{All-by_name}
use Rattle.model_laws.proofs.ConsumerFacts.{IsKept, after_ack-kept}

module _ (P : Consumer → Type 0) (k : IsKept P) (new : (s : Stream) (name : Bytes) (config : ConsumerConfig) → P (new_consumer s name config)) where
  pub all_with : (s : Stream) (c : Consumer) → P c → All P s.consumers → All P (with_consumer s c).consumers
  all_with s c p h = All-map P (in_place_of c) s.consumers (All-weaker P (λ d. P (in_place_of c d)) (λ d q. go (same d.name c.name) d q) s.consumers h)
    where
      go : (b : Bool) (d : Consumer) → P d → P (cond b c d)
      go true d q = p
      go false d q = q

  all_only : (s : Stream) (messages : List Message) → All P s.consumers → All P (only s messages).consumers
  all_only s messages h = All-map P (confined (seqs messages)) s.consumers (All-weaker P (λ c. P (confined (seqs messages) c)) (λ c q. k.confined (seqs messages) c q) s.consumers h)

  pub all_time : (s : Stream) (now : ℕ) → All P s.consumers → All P (advance s now).consumers
  unfolding advance
  all_time s now h =
      let t = max s.moment now in
      let a = only s (young s (max s.moment now)) in
      All-map P (consumer_at t) a.consumers (All-weaker P (λ c. P (consumer_at t c)) (λ c q. k.time t c q) a.consumers (all_only s (young s t) h))

  pub all_fact : IsStreamFact (λ w. ⊤) ⊤ (λ s. All P s.consumers)
  all_fact = record {
    change = record {
      gone = λ s reply g h. tt;
      only = λ s messages part h. all_only s messages h;
      configured = λ s reply config g h. h;
      stored = λ s p room g e h. stored s p p.wants.id h;
      made = λ s reply name config g e r h. All-with_new P s.consumers (new_consumer s name config) (new s name config) h;
      removed = λ s reply name c g e h. All-filter (λ d. not (same d.name c.name)) P s.consumers h;
      acked = λ s reply ack c g e q h. all_with s _ (after_ack-kept c.name P k s.moment reply ack.seq ack.kind c (All-by_name P s.consumers ack.consumer c e h)) h;
      pulled = λ s reply name ask c g e h. all_with s _ (k.pulled s.moment reply ask c (All-by_name P s.consumers name c e h)) h;
    };
    empty = λ i now reply config g v. All-nil P;
    time = all_time;
  }
    where
      stored : (s : Stream) (p : Publish) (id : Bytes) → All P s.consumers → All P (with_id (record s { messages = s.messages ++ message_of s p ∷ []; last = s.last + 1 }) id).consumers
      stored s p [] h = h
      stored s p (byte ∷ more) h = h

  -- a delivery that keeps it of its consumer keeps it of all
  pub all_delivery : (s : Stream) (new : State) (now : ℕ) (listening : List Bytes) (d : Delivery) (outs : List Out) → (x : IsDelivery s now listening d outs new) → (P x.consumer → P x.after) → All P s.consumers → IfLive ⊤ (λ t. All P t.consumers) new
  all_delivery s new now listening d outs x f h =
      subst (IfLive ⊤ (λ t. All P t.consumers)) (sym x.new_is)
      (at_kept (λ w. ⊤) ⊤ (λ t. All P t.consumers) all_fact (with_consumer (advance s now) x.after)
      (all_with (advance s now) x.after (f (All-by_name P (advance s now).consumers d.consumer x.consumer x.found (all_time s now h))) (all_time s now h)))
