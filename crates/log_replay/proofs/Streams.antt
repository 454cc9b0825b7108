-- What each record of a stream's messages and ids makes is storable if what was there before is.
use Rattle.std.proofs.Common.{◌≡◌, ℕ, ◌+◌, ◌<◌, ◌≤◌, ◌^◌, ◌==◌, Bool, true, false, not, ◌&&◌, ◌||◌, List, [], ◌∷◌, ◌++◌, length, map, Option, Some, None, IsTrue, refl, sym, ap, subst, ◌∙◌, arith, length-append}
use Rattle.std.specs.Prelude.{All, filter, find, nat_lt}
use Rattle.std.proofs.lemmas.Bool.{and_parts, eqb-true, true≢false}
use Rattle.std.proofs.lemmas.List.{length-map}
use Rattle.std.proofs.lemmas.List.Elements.{All-nil, All-cons, All-head, All-tail, All-push, All-weaker}
use Rattle.js_base.specs.Bytes.{Bytes, has}
use Rattle.js_base.specs.Moments.{plus}
use Rattle.js_model.specs.declared.stream_config.StreamConfig.{StreamConfig}
use Rattle.js_model.specs.declared.stream.Message.{Message}
use Rattle.js_model.specs.declared.stream.Id.{Id}
use Rattle.js_model.specs.declared.consumer.Consumer.{Consumer}
use Rattle.js_model.specs.Configs.{is_stream_config}
use Rattle.js_model.specs.Lists.{Between, IsPart, none, keep, skip}
use Rattle.js_model.specs.Streams.{seqs}
use Rattle.js_model.proofs.Parts.{filter_part, part-length, part_between, between_push, between_higher}
use Rattle.model_laws.specs.Sound.{AreDifferent, AreStored, IsWellStoredConsumer, IsWellStoredStream}
use Rattle.model_laws.specs.Bounds.{IsNumber, IsBoundedMessage, IsBoundedId, IsBoundedConsumer, IsBoundedStream}
use Rattle.model_laws.proofs.SoundStored.{different_push}
use Rattle.model_laws.proofs.SoundTime.{different_part}
use Rattle.effects.specs.declared.durable.Body.{Body}
use Rattle.effects.specs.Durables.{stream_of}
use Rattle.effects.specs.Folding.{live, added_id, at_moment, empty_body, is_next, numbered, put}
use Rattle.durable_checks.specs.Storable.{IsStorable}
use Rattle.log_replay.specs.Made.{KeepsStorable}
use Rattle.log_replay.specs.Taken.{IsFresh, IsNewId, IsNextNumber, IsNextMessage}

pub all_of_part : {X : Type 0} (P : X → Type 0) {ys xs : List X} → IsPart ys xs → All P xs → All P ys
all_of_part P none h = All-nil P
all_of_part P (keep {x = x} {ys = ys} {xs = xs} p) h = All-cons P x ys (All-head P x xs h) (all_of_part P p (All-tail P x xs h))
all_of_part P (skip {x = x} {xs = xs} p) h = all_of_part P p (All-tail P x xs h)

-- ---- messages that are added

has_more : (ms : List Message) (m : Message) (n : ℕ) → has (seqs ms) n ≡ true → has (seqs (ms ++ m ∷ [])) n ≡ true
has_more [] m n h = absurd (true≢false (sym h))
has_more (k ∷ ms) m n h = go (k.seq == n) (has_more ms m n) h
  where
    go : (b : Bool) → (has (seqs ms) n ≡ true → has (seqs (ms ++ m ∷ [])) n ≡ true) → (b || has (seqs ms) n) ≡ true → (b || has (seqs (ms ++ m ∷ [])) n) ≡ true
    go true f h = refl
    go false f h = f h

-- with more messages, up to a later sequence
more_sound : (ms others : List Message) (last later : ℕ) (c : Consumer) → last ≤ later → ((n : ℕ) → has (seqs ms) n ≡ true → has (seqs others) n ≡ true) → IsWellStoredConsumer ms last c → IsWellStoredConsumer others later c
more_sound ms others last later c le still k = record {
  config = k.config;
  named = k.named;
  cursor = let h = k.cursor in omega (arith, h, le);
  picks = k.picks;
  pending = k.pending;
  given_up = k.given_up;
  picks_stored = record { stored = λ n h. still n (k.picks_stored.stored n h) };
  pending_stored = record { stored = λ n h. still n (k.pending_stored.stored n h) };
  given_up_stored = record { stored = λ n h. still n (k.given_up_stored.stored n h) };
  picks_pending = k.picks_pending;
  picks_given_up = k.picks_given_up;
  pending_given_up = k.pending_given_up;
  counts = k.counts;
  unacknowledged_pending = k.unacknowledged_pending;
  unacknowledged_given_up = k.unacknowledged_given_up;
  push = k.push;
}

-- ---- ids that are added

added_different : (ids : List Id) (id : Bytes) (seq at : ℕ) → IsNewId ids id → AreDifferent ids → AreDifferent (added_id ids id seq at)
added_different ids [] seq at new h = h
added_different ids (byte ∷ more) seq at new h = different_push ids (record { id = byte ∷ more; seq = seq; at = at }) new.absent h

added_few : (ids : List Id) (id : Bytes) (seq at : ℕ) → IsNewId ids id → length ids ≤ 2 ^ 20 → length (added_id ids id seq at) ≤ 2 ^ 20
added_few ids [] seq at new h = h
added_few ids (byte ∷ more) seq at new h =
    let sum = length-append ids (record { id = byte ∷ more; seq = seq; at = at } ∷ []) in
    let room : length ids < 2 ^ 20 = new.room in
    omega (arith, sum, room)

added_bounded : (ids : List Id) (id : Bytes) (seq at : ℕ) → IsNewId ids id → IsNumber seq → IsNumber at → All IsBoundedId ids → All IsBoundedId (added_id ids id seq at)
added_bounded ids [] seq at new number moment h = h
added_bounded ids (byte ∷ more) seq at new number moment h =
    All-push IsBoundedId ids (record { id = byte ∷ more; seq = seq; at = at }) h (record { given = refl; bytes = new.short; seq = number; at = moment })

-- ---- the next sequence

pub record AreNext (seq at : ℕ) (b : Body) : Type 0 where
  pub number : seq ≡ b.last + 1
  pub moment : at ≡ b.moment

pub are_next : (seq at : ℕ) (b : Body) → is_next seq at b ≡ true → AreNext seq at b
are_next seq at b h =
    let parts = and_parts (seq == b.last + 1) (at == b.moment) h in
    record { number = eqb-true seq (b.last + 1) parts.0; moment = eqb-true at b.moment parts.1 }

-- with these messages, which were there or have this sequence
record AreMore (b : Body) (seq : ℕ) (ms : List Message) : Type 0 where
  between : Between (λ m. m.seq) 1 (seq + 1) ms
  more : (n : ℕ) → has (seqs b.messages) n ≡ true → has (seqs ms) n ≡ true
  few : length ms ≤ 2 ^ 24
  bounded : All IsBoundedMessage ms

numbered_stored : (i : ℕ) (b : Body) (seq at : ℕ) (id : Bytes) (ms : List Message) → IsNumber seq → IsNextNumber b seq at id → AreMore b seq ms → IsStorable (live i b) → IsStorable (live i (numbered seq at id (record b { messages = ms })))
numbered_stored i b seq at id ms number next more k =
    let own : IsWellStoredStream (stream_of i b) = k.stored in
    let bounds : IsBoundedStream (stream_of i b) = k.bounded in
    let are = are_next seq at b next.next in
    let seq_is = are.number in
    let moment : IsNumber at = subst IsNumber (sym are.moment) bounds.moment in
    record {
      stored = record {
        config = own.config;
        messages = more.between;
        consumers = All-weaker (IsWellStoredConsumer b.messages b.last) (IsWellStoredConsumer ms seq) (λ c h. more_sound b.messages ms b.last seq c (omega (arith, seq_is)) more.more h) b.consumers own.consumers;
        ordered = own.ordered;
        ids = added_different b.ids id seq at next.new own.ids;
      };
      bounded = record {
        incarnation = bounds.incarnation;
        made = bounds.made;
        last = number;
        moment = bounds.moment;
        messages = more.few;
        each_message = more.bounded;
        ids = added_few b.ids id seq at next.new bounds.ids;
        each_id = added_bounded b.ids id seq at next.new number moment bounds.each_id;
        consumers = bounds.consumers;
        each_consumer = bounds.each_consumer;
      };
    }

pub skipped_keeps : (b : Body) (seq at : ℕ) (id : Bytes) → IsNumber seq → IsNextNumber b seq at id → KeepsStorable b (numbered seq at id b)
skipped_keeps b seq at id number next = record {
  kept = λ i k.
      let seq_is = (are_next seq at b next.next).number in
      numbered_stored i b seq at id b.messages number next
      (record {
        between = between_higher (λ m. m.seq) 1 (b.last + 1) (seq + 1) b.messages (omega (arith, seq_is)) k.stored.messages;
        more = λ n h. h;
        few = k.bounded.messages;
        bounded = k.bounded.each_message;
      })
      k;
}

pub put_keeps : (b : Body) (m : Message) (id : Bytes) → IsNumber m.seq → IsNextMessage b m.seq m.at id → KeepsStorable b (put m id b)
put_keeps b m id number next = record {
  kept = λ i k.
      let are = are_next m.seq m.at b next.number.next in
      let moment : IsNumber m.at = subst IsNumber (sym are.moment) k.bounded.moment in
      let room : length b.messages < 2 ^ 24 = next.room in
      let sum = length-append b.messages (m ∷ []) in
      numbered_stored i b m.seq m.at id (b.messages ++ m ∷ []) number next.number
      (record {
        between = subst (λ (n : ℕ). Between (λ m. m.seq) 1 (n + 1) (b.messages ++ m ∷ [])) (sym are.number) (between_push (λ m. m.seq) 1 (b.last + 1) b.messages m are.number k.stored.messages);
        more = has_more b.messages m;
        few = omega (arith, room, sum);
        bounded = All-push IsBoundedMessage b.messages m k.bounded.each_message (record { seq = number; at = moment });
      })
      k;
}

-- ---- time, and another configuration

pub seen_keeps : (b : Body) (moment : ℕ) → IsNumber moment → KeepsStorable b (at_moment moment b)
seen_keeps b moment number = record {
  kept = λ i k.
      let own : IsWellStoredStream (stream_of i b) = k.stored in
      let bounds : IsBoundedStream (stream_of i b) = k.bounded in
      let part = filter_part (λ (d : Id). nat_lt moment (plus d.at b.config.duplicate_window)) b.ids in
      record {
        stored = record { config = own.config; messages = own.messages; consumers = own.consumers; ordered = own.ordered; ids = different_part part own.ids };
        bounded = record {
          incarnation = bounds.incarnation;
          made = bounds.made;
          last = bounds.last;
          moment = number;
          messages = bounds.messages;
          each_message = bounds.each_message;
          ids = let a = part-length part in let c = bounds.ids in omega (arith, a, c);
          each_id = all_of_part IsBoundedId part bounds.each_id;
          consumers = bounds.consumers;
          each_consumer = bounds.each_consumer;
        };
      };
}

pub configured_keeps : (b : Body) (config : StreamConfig) → IsTrue (is_stream_config config) → KeepsStorable b (record b { config = config })
configured_keeps b config valid = record {
  kept = λ i k.
      let own : IsWellStoredStream (stream_of i b) = k.stored in
      let bounds : IsBoundedStream (stream_of i b) = k.bounded in
      record {
        stored = record { config = valid; messages = own.messages; consumers = own.consumers; ordered = own.ordered; ids = own.ids };
        bounded = record {
          incarnation = bounds.incarnation;
          made = bounds.made;
          last = bounds.last;
          moment = bounds.moment;
          messages = bounds.messages;
          each_message = bounds.each_message;
          ids = bounds.ids;
          each_id = bounds.each_id;
          consumers = bounds.consumers;
          each_consumer = bounds.each_consumer;
        };
      };
}

-- a stream that is made
pub empty_stored : (i made : ℕ) (config : StreamConfig) → IsNumber i → IsNumber made → IsTrue (is_stream_config config) → IsStorable (live i (empty_body made config))
empty_stored i made config incarnation moment valid = record {
  stored = record { config = valid; messages = omega arith; consumers = All-nil (IsWellStoredConsumer [] 0); ordered = tt; ids = tt };
  bounded = record {
    incarnation = incarnation;
    made = moment;
    last = omega arith;
    moment = moment;
    messages = omega arith;
    each_message = All-nil IsBoundedMessage;
    ids = omega arith;
    each_id = All-nil IsBoundedId;
    consumers = omega arith;
    each_consumer = All-nil IsBoundedConsumer;
  };
}
