-- A sound stream that makes or drops a consumer is sound.
use Rattle.std.proofs.Common.{◌≡◌, ℕ, ◌+◌, ◌≤◌, Bool, true, false, ◌&&◌, ◌||◌, not, cond, List, [], ◌∷◌, refl, sym, arith}
use Rattle.std.specs.Prelude.{Option, Some, None, IsTrue, ◌==◌, find, filter, nat_le}
use Rattle.std.specs.List.{list_any, last_or}
use Rattle.std.proofs.lemmas.Bool.{true≢false, or_right, or_left}
use Rattle.std.proofs.lemmas.List.Elements.{All-filter, All-nil}
use Rattle.js_base.specs.Bytes.{Bytes, same, has}
use Rattle.js_model.specs.Lists.{Between}
use Rattle.js_model.specs.declared.consumer_config.DeliverPolicy.{DeliverPolicy}
use Rattle.js_model.specs.declared.consumer_config.DeliverPolicy.TheVariants.{All as FromAll, Last as FromLast, New as FromNew, ByStartSequence, ByStartTime, LastPerSubject}
use Rattle.js_model.specs.declared.consumer_config.ConsumerConfig.{ConsumerConfig}
use Rattle.js_model.specs.declared.stream.Message.{Message}
use Rattle.js_model.specs.declared.stream.Stream.{Stream}
use Rattle.js_model.specs.Streams.{passes_filter, first_seq, seqs, by_name}
use Rattle.js_model.specs.Configs.{is_consumer_config}
use Rattle.js_model.specs.Trim.{newest}
use Rattle.js_model.specs.Start.{matching, seq_or_next, picks_at, cursor_at}
use Rattle.js_model.specs.Consumers.{new_consumer, with_new}
use Rattle.model_laws.proofs.Whole.{AreStored, IsCounted, IsSoundConsumer, IsSoundStream}
use Rattle.js_model.proofs.Parts.{filter_part, newest_part, part_between, between_map, between_bounds, part_any}
use Rattle.model_laws.proofs.NameOrder.{ordered_filter, ordered_with_new, All-with_new}

-- ---- where a new consumer begins

-- a sequence from the first to the next
pub record IsPlace (last n : ℕ) : Type 0 where
  pub low : 1 ≤ n
  pub high : n ≤ last + 1

next_place : (last : ℕ) → IsPlace last (last + 1)
next_place last = record { low = omega arith; high = omega arith }

-- the message that was sought, if there is one, has such a sequence
abbrev IfPlaced : ℕ → Option Message → Type 0
IfPlaced last None = Unit {0}
IfPlaced last (Some m) = IsPlace last m.seq

sought_place : (s : Stream) (m : Option Message) → IfPlaced s.last m → IsPlace s.last (seq_or_next s m)
sought_place s None h = next_place s.last
sought_place s (Some m) h = h

find_place : (t : Message → Bool) (last low : ℕ) (ms : List Message) → 1 ≤ low → Between (λ m. m.seq) low (last + 1) ms → IfPlaced last (find t ms)
find_place t last low [] l h = tt
find_place t last low (m ∷ ms) l h = go (t m) (find_place t last (m.seq + 1) ms (omega arith) h.1)
  where
    here : IsPlace last m.seq
    here = record {
      low = let q : low ≤ m.seq = h.0 in omega arith;
      high = let q : m.seq + 1 ≤ last + 1 = between_bounds (λ m. m.seq) (m.seq + 1) (last + 1) ms h.1 in omega arith;
    }

    go : (b : Bool) → IfPlaced last (find t ms) → IfPlaced last (cond b (Some m) (find t ms))
    go true r = here
    go false r = r

last_place : (last low : ℕ) (o : Option Message) (ms : List Message) → 1 ≤ low → Between (λ m. m.seq) low (last + 1) ms → IfPlaced last o → IfPlaced last (last_or o ms)
last_place last low o [] l h k = k
last_place last low o (m ∷ ms) l h k = last_place last (m.seq + 1) (Some m) ms (omega arith) h.1 here
  where
    here : IfPlaced last (Some m)
    here = record {
      low = let q : low ≤ m.seq = h.0 in omega arith;
      high = let q : m.seq + 1 ≤ last + 1 = between_bounds (λ m. m.seq) (m.seq + 1) (last + 1) ms h.1 in omega arith;
    }

first_place : (s : Stream) → Between (λ m. m.seq) 1 (s.last + 1) s.messages → IsPlace s.last (first_seq s)
first_place s h = go s.messages h
  where
    first : List Message → ℕ
    first [] = s.last + 1
    first (m ∷ _) = m.seq

    go : (ms : List Message) → Between (λ m. m.seq) 1 (s.last + 1) ms → IsPlace s.last (first_seq (record s { messages = ms }))
    go [] k = next_place s.last
    go (m ∷ ms) k = record {
      low = k.0;
      high = let q : m.seq + 1 ≤ s.last + 1 = between_bounds (λ m. m.seq) (m.seq + 1) (s.last + 1) ms k.1 in omega arith;
    }

pub cursor_place : (policy : DeliverPolicy) (pattern : Bytes) (s : Stream) → Between (λ m. m.seq) 1 (s.last + 1) s.messages → IsPlace s.last (cursor_at policy pattern s)
cursor_place FromAll pattern s h = first_place s h
cursor_place FromLast pattern s h =
    sought_place s (last_or None (matching pattern s)) (last_place s.last 1 None (matching pattern s) (omega arith) (part_between (λ m. m.seq) 1 (s.last + 1) (filter_part _ s.messages) h) none_placed)
  where
    none_placed : IfPlaced s.last None
    none_placed = tt
cursor_place FromNew pattern s h = next_place s.last
cursor_place (ByStartSequence n) pattern s h = let f = first_place s h in record {
  low = let q : 1 ≤ first_seq s = f.low in omega arith;
  high = omega arith;
}
cursor_place (ByStartTime at) pattern s h = sought_place s (find (λ m. nat_le at m.at) s.messages) (find_place (λ m. nat_le at m.at) s.last 1 s.messages (omega arith) h)
cursor_place LastPerSubject pattern s h = next_place s.last

picks_between : (policy : DeliverPolicy) (pattern : Bytes) (s : Stream) → Between (λ m. m.seq) 1 (s.last + 1) s.messages → Between (λ n. n) 1 (cursor_at policy pattern s) (picks_at policy pattern s)
picks_between FromAll pattern s h = (cursor_place FromAll pattern s h).low
picks_between FromLast pattern s h = (cursor_place FromLast pattern s h).low
picks_between FromNew pattern s h = (cursor_place FromNew pattern s h).low
picks_between (ByStartSequence n) pattern s h = (cursor_place (ByStartSequence n) pattern s h).low
picks_between (ByStartTime at) pattern s h = (cursor_place (ByStartTime at) pattern s h).low
picks_between LastPerSubject pattern s h =
    between_map (λ n. n) (λ m. m.seq) 1 (s.last + 1) (newest 1 (matching pattern s))
    (part_between (λ m. m.seq) 1 (s.last + 1) (newest_part 1 (matching pattern s)) (part_between (λ m. m.seq) 1 (s.last + 1) (filter_part _ s.messages) h))

-- ---- what it picks is stored

-- a number among the sequences is some message's
any_seq : (n : ℕ) (ms : List Message) → has (seqs ms) n ≡ true → list_any (λ m. m.seq == n) ms ≡ true
any_seq n [] h = h
any_seq n (m ∷ ms) h = go (m.seq == n) (any_seq n ms) h
  where
    go : (b : Bool) → (has (seqs ms) n ≡ true → list_any (λ m. m.seq == n) ms ≡ true) → (b || has (seqs ms) n) ≡ true → (b || list_any (λ m. m.seq == n) ms) ≡ true
    go true f k = refl
    go false f k = f k

any_filter : (t u : Message → Bool) (ms : List Message) → list_any t (filter u ms) ≡ true → list_any (λ m. t m && u m) ms ≡ true
any_filter t u [] h = h
any_filter t u (m ∷ ms) h = go (u m) refl (any_filter t u ms) h
  where
    go : (b : Bool) → u m ≡ b → (list_any t (filter u ms) ≡ true → list_any (λ m. t m && u m) ms ≡ true) → list_any t (cond b (m ∷ filter u ms) (filter u ms)) ≡ true → ((t m && u m) || list_any (λ m. t m && u m) ms) ≡ true
    go true e f k = own (t m) k
      where
        own : (c : Bool) → (c || list_any t (filter u ms)) ≡ true → ((c && u m) || list_any (λ m. t m && u m) ms) ≡ true
        own true w = or_left (u m) _ e
        own false w = f w
    go false e f k = or_right _ _ (f k)

picks_stored : (policy : DeliverPolicy) (pattern : Bytes) (s : Stream) → AreStored s.messages pattern (picks_at policy pattern s)
picks_stored FromAll pattern s = record { stored = λ n e. absurd (true≢false (sym e)) }
picks_stored FromLast pattern s = record { stored = λ n e. absurd (true≢false (sym e)) }
picks_stored FromNew pattern s = record { stored = λ n e. absurd (true≢false (sym e)) }
picks_stored (ByStartSequence m) pattern s = record { stored = λ n e. absurd (true≢false (sym e)) }
picks_stored (ByStartTime at) pattern s = record { stored = λ n e. absurd (true≢false (sym e)) }
picks_stored LastPerSubject pattern s = record { stored = λ n e. any_filter (λ m. m.seq == n) (λ m. passes_filter pattern m.subject) s.messages (part_any (λ m. m.seq == n) (newest_part 1 (matching pattern s)) (any_seq n (newest 1 (matching pattern s)) e)) }

-- ---- the consumer and the stream

new_sound : (s : Stream) (name : Bytes) (config : ConsumerConfig) → IsTrue (is_consumer_config config) → IsTrue (same config.name name) → IsSoundStream s → IsSoundConsumer s.messages s.last (new_consumer s name config)
new_sound s name config proper named h = let place = cursor_place config.deliver_policy config.filter_subject s h.messages in record {
  config = proper;
  named = named;
  cursor = place.high;
  picks = picks_between config.deliver_policy config.filter_subject s h.messages;
  pending = place.low;
  given_up = place.low;
  picks_stored = picks_stored config.deliver_policy config.filter_subject s;
  pending_stored = record { stored = λ n e. absurd (true≢false (sym e)) };
  given_up_stored = record { stored = λ n e. absurd (true≢false (sym e)) };
  picks_pending = record { apart = λ n e. refl };
  picks_given_up = record { apart = λ n e. refl };
  pending_given_up = record { apart = λ n e. refl };
  counts = All-nil (IsCounted 0 config.max_deliver);
  unacknowledged_pending = λ e. refl;
  unacknowledged_given_up = λ e. refl;
  push = λ e. refl;
}

pub sound_made : (s : Stream) (name : Bytes) (config : ConsumerConfig) → IsTrue (is_consumer_config config) → IsTrue (same config.name name) → by_name s.consumers name ≡ None
    → IsSoundStream s → IsSoundStream (record s { consumers = with_new s.consumers (new_consumer s name config) })
sound_made s name config proper named absent h = record {
  config = h.config;
  messages = h.messages;
  consumers = All-with_new (IsSoundConsumer s.messages s.last) s.consumers (new_consumer s name config) (new_sound s name config proper named h) h.consumers;
  ordered = ordered_with_new s.consumers (new_consumer s name config) absent h.ordered;
  ids = h.ids;
}

pub sound_removed : (s : Stream) (name : Bytes) → IsSoundStream s → IsSoundStream (record s { consumers = filter (λ d. not (same d.name name)) s.consumers })
sound_removed s name h = record {
  config = h.config;
  messages = h.messages;
  consumers = All-filter (λ d. not (same d.name name)) (IsSoundConsumer s.messages s.last) s.consumers h.consumers;
  ordered = ordered_filter (λ d. not (same d.name name)) s.consumers h.ordered;
  ids = h.ids;
}
