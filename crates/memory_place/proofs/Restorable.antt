-- A stream can be restored to what outlived a crash.
use Rattle.std.proofs.Common.{◌≡◌, ℕ, ◌+◌, ◌≤◌, ◌^◌, true, List, [], ◌∷◌, length, subst, arith}
use Rattle.std.specs.Prelude.{All, IsTrue}
use Rattle.std.proofs.lemmas.Bool.{and_parts, leb-true}
use Rattle.std.proofs.lemmas.List.Elements.{All-nil, All-cons, All-weaker}
use Rattle.js_base.specs.Bytes.{has}
use Rattle.js_base.proofs.Meeting.{same_is}
use Rattle.js_model.specs.declared.consumer_config.ConsumerConfig.{ConsumerConfig}
use Rattle.js_model.specs.declared.stream.Message.{Message}
use Rattle.js_model.specs.declared.stream.Id.{Id}
use Rattle.js_model.specs.declared.stream.Stream.{Stream}
use Rattle.js_model.specs.declared.stream.State.TheVariants.{Live}
use Rattle.js_model.specs.declared.consumer.Consumer.{Consumer}
use Rattle.js_model.specs.Configs.{is_consumer_config, is_name}
use Rattle.js_model.specs.Streams.{seqs, pending_seqs}
use Rattle.js_model.proofs.Members.{find_none}
use Rattle.model_laws.specs.Sound.{AreDifferent, AreStored, IsWellStoredConsumer}
use Rattle.model_laws.specs.Bounds.{IsWritableMessage}
use Rattle.model_laws.proofs.Whole.{all_from_in}
use Rattle.effects.specs.Restorable as kept
use Rattle.effects.proofs.Agreeing.{in_mapped}
use Rattle.effects.proofs.Removing.{in_has}
use Rattle.restore_laws.specs.Restored.{IsRestored}
use Rattle.restore_laws.proofs.Holding.{restored_consumers}
use Rattle.consumer_need.specs.Stored.{HoldsStored}
use Rattle.dedup_window.specs.Mirrors.{AreApart}
use Rattle.message_store.specs.Stored.{IsSmall}
use Rattle.stored_stream.specs.Stored.{IsSound, IsText, Rises}
use Rattle.stored_stream.specs.Restoring as stored
use Rattle.followed_stream.specs.Restoring.{IsRestorable}
use Rattle.stream_state.specs.Settled.{AreProper, IsProperConsumer}

-- ---- what is stored

rises : {X : Type 0} (f : X → ℕ) (low high : ℕ) (xs : List X) → kept.Rises f low high xs → Rises f low high xs
rises f low high [] r = r
rises f low high (x ∷ xs) r = (r.0, rises f (f x) high xs r.1)

below_high : {X : Type 0} (f : X → ℕ) (low high : ℕ) (xs : List X) → kept.Rises f low high xs → low ≤ high
below_high f low high [] r = r
below_high f low high (x ∷ xs) r = let first : low ≤ f x = r.0 in let more : f x ≤ high = below_high f (f x) high xs r.1 in omega (arith, first, more)

all_below : (low high : ℕ) (ids : List Id) → kept.Rises (λ i. i.at) low high ids → All (λ i. i.at ≤ high) ids
all_below low high [] r = All-nil (λ (i : Id). i.at ≤ high)
all_below low high (i ∷ ids) r = All-cons (λ (i : Id). i.at ≤ high) i ids (below_high (λ i. i.at) i.at high ids r.1) (all_below i.at high ids r.1)

apart : (ids : List Id) → AreDifferent ids → AreApart ids
apart [] h = tt
apart (i ∷ ids) h = (find_none _ ids h.0.none, apart ids h.1)

is_small : (m : Message) → IsWritableMessage m → IsSmall m
is_small m h =
    let spelled = (and_parts _ _ h.subject).0 in
    let bytes = (and_parts _ _ (and_parts _ _ (and_parts _ _ spelled).0).0).0 in
    let subject : length m.subject ≤ 1024 = leb-true (length m.subject) 1024 (and_parts _ _ bytes).1 in
    let rest : length m.headers + length m.payload ≤ 1048576 = h.bytes in
    omega (arith, subject, rest)

is_text : (m : Message) → IsWritableMessage m → IsText m
is_text m h = let spelled = (and_parts _ _ h.subject).0 in (and_parts _ _ (and_parts _ _ spelled).0).1

-- ---- consumers

all_stored : (messages : List Message) (ns : List ℕ) → AreStored messages ns → All (λ n. has (seqs messages) n ≡ true) ns
all_stored messages ns h = all_from_in _ ns (λ n i. h.stored n (in_has n ns i))

holds : (s : Stream) (c : Consumer) → IsWellStoredConsumer s.messages s.last c → HoldsStored s c
holds s c k = record {
  picks = all_stored s.messages c.picks k.picks_stored;
  pending = all_from_in _ c.pending (λ p i. k.pending_stored.stored p.seq (in_has p.seq (pending_seqs c) (in_mapped (λ p. p.seq) i)));
  given_up = all_stored s.messages c.given_up k.given_up_stored;
}

config_name : (c : ConsumerConfig) → IsTrue (is_consumer_config c) → is_name c.name ≡ true
config_name c h =
    let heartbeat = (and_parts _ _ (and_parts _ _ h).0).0 in
    let subjects = (and_parts _ _ (and_parts _ _ (and_parts _ _ heartbeat).0).0).0 in
    let waiting = (and_parts _ _ (and_parts _ _ subjects).0).0 in
    let limits = (and_parts _ _ (and_parts _ _ waiting).0).0 in
    let waits = (and_parts _ _ (and_parts _ _ limits).0).0 in
    (and_parts _ _ (and_parts _ _ waits).0).0

proper : (messages : List Message) (last : ℕ) (c : Consumer) → IsWellStoredConsumer messages last c → IsProperConsumer c
proper messages last c k = record {
  name = subst (λ (name : List ℕ). is_name name ≡ true) (same_is c.config.name c.name k.named) (config_name c.config k.config);
  config = k.config;
}

-- ---- the stream

module _ (s : Stream) (h : IsRestored (Live s)) where
  is_sound : IsSound s
  is_sound = record {
    config = h.sound.stored.config;
    incarnation = h.bounded.incarnation;
    last = h.bounded.last;
    ascends = h.sound.stored.messages;
    few = let q : length s.messages ≤ 2 ^ 24 = h.bounded.messages in omega (arith, q);
    small = All-weaker IsWritableMessage IsSmall is_small s.messages h.writable;
    texts = All-weaker IsWritableMessage IsText is_text s.messages h.writable;
    messages = rises (λ m. m.at) 0 s.moment s.messages h.restorable.in_time.messages;
    ids = all_below 0 s.moment s.ids h.restorable.in_time.ids;
  }

  is_stored : stored.IsRestorable s
  is_stored = record {
    sound = is_sound;
    apart = apart s.ids h.sound.stored.ids;
    in_time = rises (λ i. i.at) 0 s.moment s.ids h.restorable.in_time.ids;
    few_ids = h.bounded.ids;
  }

  pub restorable : IsRestorable s
  restorable = record {
    stored = is_stored;
    consumers = restored_consumers s h;
    held = All-weaker (IsWellStoredConsumer s.messages s.last) (HoldsStored s) (holds s) s.consumers h.sound.stored.consumers;
    ordered = h.sound.stored.ordered;
  }

  pub are_proper : AreProper s.consumers
  are_proper = record {
    few = h.bounded.consumers;
    each = All-weaker (IsWellStoredConsumer s.messages s.last) IsProperConsumer (proper s.messages s.last) s.consumers h.sound.stored.consumers;
  }
