-- What each record of a stream's consumers makes is storable if what was there before is.
use Rattle.std.proofs.Common.{◌≡◌, ℕ, ◌+◌, ◌<◌, ◌≤◌, Bool, true, false, cond, not, List, [], ◌∷◌, length, map, Option, Some, None, refl, sym, ap, subst, ◌∙◌, arith}
use Rattle.std.specs.Prelude.{All, filter}
use Rattle.std.proofs.lemmas.List.{length-map}
use Rattle.std.proofs.lemmas.List.Elements.{All-nil, All-cons, All-head, All-tail}
use Rattle.js_base.specs.Bytes.{Bytes, same}
use Rattle.js_model.specs.declared.stream.Message.{Message}
use Rattle.js_model.specs.declared.consumer.Consumer.{Consumer}
use Rattle.js_model.specs.Consumers.{is_before, with_new}
use Rattle.js_model.specs.Streams.{by_name, in_place_of}
use Rattle.js_model.proofs.Members.{IsIn, found_in, all_in}
use Rattle.js_model.proofs.Named.{in_place_of-names}
use Rattle.js_model.proofs.Parts.{filter_part, part-length, part_between}
use Rattle.model_laws.specs.Sound.{AreOrdered, IsWellStoredConsumer, IsWellStoredStream}
use Rattle.model_laws.specs.Bounds.{IsBoundedMessage, IsBoundedConsumer, IsBoundedStream}
use Rattle.model_laws.proofs.NameOrder.{ordered_filter, ordered_with_new, All-with_new}
use Rattle.model_laws.proofs.SoundParts.{ordered_map}
use Rattle.effects.specs.declared.durable.Body.{Body}
use Rattle.effects.specs.Durables.{stream_of}
use Rattle.effects.specs.Folding.{live, holding, removed}
use Rattle.effects.specs.Ranges.{is_within}
use Rattle.durable_checks.specs.Storable.{IsStorable}
use Rattle.replayed_consumer.specs.Storable.{IsStorableConsumer, Keeps, KeepsOutside}
use Rattle.log_replay.specs.Made.{KeepsStorable}
use Rattle.log_replay.proofs.Streams.{all_of_part}

abbrev with_consumers : Body → List Consumer → Body
with_consumers b cs = record b { consumers = cs }

-- ---- the consumers of a stream

-- all are storable, beside these messages
pub record AreHeld (messages : List Message) (last : ℕ) (cs : List Consumer) : Type 0 where
  pub stored : All (IsWellStoredConsumer messages last) cs
  pub bounded : All IsBoundedConsumer cs

pub held_at : (messages : List Message) (last : ℕ) (cs : List Consumer) (c : Consumer) → AreHeld messages last cs → IsIn c cs → IsStorableConsumer messages last c
held_at messages last cs c h is_in = record { stored = all_in (IsWellStoredConsumer messages last) cs h.stored is_in; bounded = all_in IsBoundedConsumer cs h.bounded is_in }

each : (P Q : Consumer → Type 0) (f : Consumer → Consumer) → ((c : Consumer) → P c → Q (f c)) → (cs : List Consumer) → All P cs → All Q (map f cs)
each P Q f g [] h = All-nil Q
each P Q f g (c ∷ cs) h = All-cons Q (f c) (map f cs) (g c (All-head P c cs h)) (each P Q f g cs (All-tail P c cs h))

-- with another one in the place of the one of its name
all_replaced : (P : Consumer → Type 0) (new : Consumer) (cs : List Consumer) → P new → All P cs → All P (map (in_place_of new) cs)
all_replaced P new cs h all = each P P (in_place_of new) (λ c k. go (same c.name new.name) c k) cs all
  where
    go : (b : Bool) (c : Consumer) → P c → P (cond b new c)
    go true c k = h
    go false c k = k

-- ---- a change of the consumers alone

with_stored : (i : ℕ) (b : Body) (cs : List Consumer) → AreHeld b.messages b.last cs → AreOrdered cs → length cs ≤ 256 → IsStorable (live i b) → IsStorable (live i (with_consumers b cs))
with_stored i b cs held ordered few k =
    let own : IsWellStoredStream (stream_of i b) = k.stored in
    let bounds : IsBoundedStream (stream_of i b) = k.bounded in
    record {
      stored = record { config = own.config; messages = own.messages; consumers = held.stored; ordered = ordered; ids = own.ids };
      bounded = record {
        incarnation = bounds.incarnation;
        made = bounds.made;
        last = bounds.last;
        moment = bounds.moment;
        messages = bounds.messages;
        each_message = bounds.each_message;
        ids = bounds.ids;
        each_id = bounds.each_id;
        consumers = few;
        each_consumer = held.bounded;
      };
    }

held_in : (i : ℕ) (b : Body) → IsStorable (live i b) → AreHeld b.messages b.last b.consumers
held_in i b k = record { stored = k.stored.consumers; bounded = k.bounded.each_consumer }

-- these consumers stay
pub left_keeps : (b : Body) (t : Consumer → Bool) → KeepsStorable b (with_consumers b (filter t b.consumers))
left_keeps b t = record {
  kept = λ i k.
      let part = filter_part t b.consumers in
      let fewer = part-length part in
      let few = k.bounded.consumers in
      with_stored i b (filter t b.consumers)
      (record { stored = all_of_part (IsWellStoredConsumer b.messages b.last) part k.stored.consumers; bounded = all_of_part IsBoundedConsumer part k.bounded.each_consumer })
      (ordered_filter t b.consumers k.stored.ordered)
      (omega (arith, fewer, few)) k;
}

-- one consumer is another one
pub changed_keeps : (b : Body) (name : Bytes) (old new : Consumer) → by_name b.consumers name ≡ Some old
    → ((i : ℕ) → IsStorable (live i b) → IsStorableConsumer b.messages b.last old → IsStorableConsumer b.messages b.last new)
    → KeepsStorable b (with_consumers b (map (in_place_of new) b.consumers))
changed_keeps b name old new found keeps = record {
  kept = λ i k.
      let was = held_at b.messages b.last b.consumers old (held_in i b k) (found_in (λ d. same d.name name) old b.consumers found).0 in
      let is = keeps i k was in
      let same_length = length-map b.consumers (in_place_of new) in
      let few = k.bounded.consumers in
      with_stored i b (map (in_place_of new) b.consumers)
      (record {
        stored = all_replaced (IsWellStoredConsumer b.messages b.last) new b.consumers is.stored k.stored.consumers;
        bounded = all_replaced IsBoundedConsumer new b.consumers is.bounded k.bounded.each_consumer;
      })
      (ordered_map (in_place_of new) (λ c. (in_place_of-names new).name c) b.consumers k.stored.ordered)
      (omega (arith, same_length, few)) k;
}

-- one more
new_length : (cs : List Consumer) (new : Consumer) → length (with_new cs new) ≡ length cs + 1
new_length [] new = refl
new_length (c ∷ cs) new = go (is_before c.name new.name) (new_length cs new)
  where
    go : (b : Bool) → length (with_new cs new) ≡ length cs + 1 → length (cond b (c ∷ with_new cs new) (new ∷ c ∷ cs)) ≡ length (c ∷ cs) + 1
    go true h = omega (arith, h)
    go false h = omega (arith, h)

pub made_keeps : (b : Body) (new : Consumer) → by_name b.consumers new.name ≡ None → length b.consumers < 256 → ((i : ℕ) → IsStorable (live i b) → IsStorableConsumer b.messages b.last new)
    → KeepsStorable b (with_consumers b (with_new b.consumers new))
made_keeps b new absent room fits = record {
  kept = λ i k.
      let is = fits i k in
      let one_more = new_length b.consumers new in
      with_stored i b (with_new b.consumers new)
      (record {
        stored = All-with_new (IsWellStoredConsumer b.messages b.last) b.consumers new is.stored k.stored.consumers;
        bounded = All-with_new IsBoundedConsumer b.consumers new is.bounded k.bounded.each_consumer;
      })
      (ordered_with_new b.consumers new absent k.stored.ordered)
      (omega (arith, one_more, room)) k;
}

-- ---- messages that leave

pub removed_keeps : (b : Body) (low high : ℕ) → ((c : Consumer) → KeepsOutside low high c (holding (λ n. not (is_within low high n)) c)) → KeepsStorable b (removed low high b)
removed_keeps b low high forgets = record { kept = kept }
  where
    passes : ℕ → Bool
    passes n = not (is_within low high n)

    messages : List Message
    messages = filter (λ m. passes m.seq) b.messages

    both : (cs : List Consumer) → AreHeld b.messages b.last cs → AreHeld messages b.last (map (holding passes) cs)
    both [] h = record { stored = All-nil (IsWellStoredConsumer messages b.last); bounded = All-nil IsBoundedConsumer }
    both (c ∷ cs) h =
        let first = (forgets c).kept b.messages b.last (record { stored = All-head (IsWellStoredConsumer b.messages b.last) c cs h.stored; bounded = All-head IsBoundedConsumer c cs h.bounded }) in
        let rest = both cs (record { stored = All-tail (IsWellStoredConsumer b.messages b.last) c cs h.stored; bounded = All-tail IsBoundedConsumer c cs h.bounded }) in
        record {
          stored = All-cons (IsWellStoredConsumer messages b.last) (holding passes c) (map (holding passes) cs) first.stored rest.stored;
          bounded = All-cons IsBoundedConsumer (holding passes c) (map (holding passes) cs) first.bounded rest.bounded;
        }

    kept : (i : ℕ) → IsStorable (live i b) → IsStorable (live i (removed low high b))
    kept i k =
        let own : IsWellStoredStream (stream_of i b) = k.stored in
        let bounds : IsBoundedStream (stream_of i b) = k.bounded in
        let part = filter_part (λ (m : Message). passes m.seq) b.messages in
        let held = both b.consumers (held_in i b k) in
        record {
          stored = record {
            config = own.config;
            messages = part_between (λ m. m.seq) 1 (b.last + 1) part own.messages;
            consumers = held.stored;
            ordered = ordered_map (holding passes) (λ c. refl) b.consumers own.ordered;
            ids = own.ids;
          };
          bounded = record {
            incarnation = bounds.incarnation;
            made = bounds.made;
            last = bounds.last;
            moment = bounds.moment;
            messages = let a = part-length part in let c = bounds.messages in omega (arith, a, c);
            each_message = all_of_part IsBoundedMessage part bounds.each_message;
            ids = bounds.ids;
            each_id = bounds.each_id;
            consumers = let a = length-map b.consumers (holding passes) in let c = bounds.consumers in omega (arith, a, c);
            each_consumer = held.bounded;
          };
        }

-- as many as there were
pub as_many : (f : Consumer → Consumer) (slice old new : List Consumer) → slice ≡ old → new ≡ map f slice → length new ≡ length old
as_many f slice old new is told = ap length told ∙ length-map slice f ∙ ap length is
