-- A run keeps the bounds of a sound state.
use Rattle.std.proofs.Common.{◌≡◌, ◌≢◌, ℕ, ◌+◌, ◌-◌, ◌^◌, ◌<◌, ◌≤◌, Bool, true, false, ◌&&◌, not, cond, List, [], ◌∷◌, ◌++◌, map, length, length-append, max, min, refl, sym, ap, subst, arith, ◌⊎◌, inl, inr}
use Rattle.std.proofs.lemmas.List.{length-map}
use Rattle.std.specs.Prelude.{Option, Some, None, unwrap_or, fold, filter, nat_le, ◌==◌, All, Contains, ⊤}
use Rattle.std.proofs.lemmas.Bool.{true≢false, ltb-false, leb-true, leb-false, eqb-false, and_parts}
use Rattle.std.proofs.lemmas.List.Elements.{All-nil, All-map, All-weaker, All-filter, All-push}
use Rattle.js_base.specs.Bytes.{Bytes, is_empty, same, has}
use Rattle.js_base.specs.Moments.{plus}
use Rattle.js_base.specs.declared.out.Out.{Out}
use Rattle.js_base.specs.declared.out.ApiError.{ApiError}
use Rattle.js_model.specs.declared.stream_config.StreamConfig.{StreamConfig}
use Rattle.js_model.specs.declared.consumer_config.ConsumerConfig.{ConsumerConfig}
use Rattle.js_model.specs.declared.stream.Message.{Message}
use Rattle.js_model.specs.declared.stream.Id.{Id}
use Rattle.js_model.specs.declared.stream.Stream.{Stream}
use Rattle.js_model.specs.declared.stream.State.{State}
use Rattle.js_model.specs.declared.stream.State.TheVariants.{Vacant, Live}
use Rattle.js_model.specs.declared.consumer.Pending.{Pending}
use Rattle.js_model.specs.declared.consumer.Consumer.{Consumer}
use Rattle.js_model.specs.declared.ack.Ask.{Ask}
use Rattle.js_model.specs.declared.ack.AckKind.{AckKind}
use Rattle.js_model.specs.declared.ack.AckKind.TheVariants.{Ack as Acknowledge, Nak, Wpi, Next, Term}
use Rattle.js_model.specs.declared.event.Event.{Event}
use Rattle.js_model.specs.declared.event.Publish.{Publish}
use Rattle.js_model.specs.declared.event.What.{What}
use Rattle.js_model.specs.declared.event.What.TheVariants.{Make, Change, Drop as DropStream, Publish as PublishIt, Purge, Delete, MakeConsumer, DropConsumer, Ack as AckIt, Pull as PullIt, Tick, StreamInfo as AskStream, MessageGet, ConsumerInfo as AskConsumer, ConsumerNames, ConsumerList}
use Rattle.js_model.specs.declared.reply.Reply.{Reply}
use Rattle.js_model.specs.declared.reply.Reply.TheVariants.{Refused}
use Rattle.js_model.specs.declared.reply.Verdict.TheVariants.{Take}
use Rattle.js_model.specs.declared.reply.Answer.{Answer}
use Rattle.js_model.specs.declared.entry.Delivered.{Delivered}
use Rattle.js_model.specs.declared.entry.Delivered.TheVariants.{Sent, TooSmall, Emptied}
use Rattle.js_model.specs.declared.entry.Delivery.{Delivery}
use Rattle.js_model.specs.declared.entry.PlaceEntry.{PlaceEntry}
use Rattle.js_model.specs.declared.entry.PlaceEntry.TheVariants.{Step, Deliver, Broken}
use Rattle.js_model.specs.declared.entry.Call.TheVariants.{Step as StepOf, Deliver as DeliverOf}
use Rattle.js_model.specs.Lists.{IsPart}
use Rattle.js_model.specs.Streams.{only, seqs, confined, with_consumer, in_place_of, is_unacknowledged}
use Rattle.js_model.specs.Refusals.{Check, first_refusal, numbers_used_up}
use Rattle.js_model.specs.Configs.{is_limit}
use Rattle.js_model.specs.Advance.{advance, consumer_at, is_spent, placed, young, remembered}
use Rattle.js_model.specs.Retention.{kept, is_kept}
use Rattle.js_model.specs.Trim.{max_messages, trim}
use Rattle.js_model.specs.Verdict.{verdict, known, early_checks, late_checks, first_of_all, message_of}
use Rattle.js_model.specs.Acknowledge.{acknowledged, ends, moved}
use Rattle.js_model.specs.Pulls.{pulled, pulled_unless, pull_refusal}
use Rattle.js_model.specs.Consumers.{empty_stream, new_consumer, with_new, is_before, making_checks}
use Rattle.js_model.specs.Events.{answered, stream_answer, vacant_answer, vacantly, stream_made, stream_told, with_message, with_id, after_ack, pulled_next, next_ask, settled_state, IsEvent}
use Rattle.js_model.specs.Deliver.{Delivers, candidates, IsDelivery, sent_to, with_pending, count_of}
use Rattle.js_model.specs.Runs.{messages_of, RunFrom, IsStep, IsDeliverStep, new_messages}
use Rattle.model_laws.specs.Bounds.{IsNumber, IsBoundedMessage, IsBoundedId, IsBoundedEntry, IsBoundedConsumer, IsBounded}
use Rattle.model_laws.specs.Laws.{LawBounded}
use Rattle.js_model.proofs.Parts.{filter_part, part-length, young_part}
use Rattle.js_model.proofs.Members.{in_part, all_in}
use Rattle.js_model.proofs.Candidates.{candidate_is}
use Rattle.model_laws.proofs.Whole.{IsSoundConsumer, IsSoundStream, IsSoundState, all_from_in, join}
use Rattle.model_laws.proofs.Facts.{IsChangeFact, IfLive, change_time, change_kept, change_settled}
use Rattle.model_laws.proofs.NameOrder.{All-with_new}
use Rattle.model_laws.proofs.SoundTime.{sound_time}
use Rattle.model_laws.proofs.SoundAcks.{All-by_name}
use Rattle.model_laws.proofs.SoundSent.{deliverable, All-with_pending, ack_limit_of}
use Rattle.model_laws.proofs.Sounding.{IsProperWhat, sound_step, sound_delivery, sound_found, sound_run}
use Rattle.model_laws.proofs.Within.{last_of_length, length_sent, fits_event, FitsLimits}

-- ---- checks that pass

-- each of the checks passes
abbrev pub ArePassed : List Check → Type 0
ArePassed [] = ⊤
ArePassed (check ∷ checks) = (check.0 ≡ false) × ArePassed checks

pub all_passed : (checks : List Check) → first_refusal checks ≡ None → ArePassed checks
all_passed [] e = tt
all_passed (check ∷ checks) e = go check.0 e (all_passed checks)
  where
    go : (b : Bool) → cond b (Some check.1) (first_refusal checks) ≡ None → (first_refusal checks ≡ None → ArePassed checks) → (b ≡ false) × ArePassed checks
    go true q f = cc
    go false q f = (refl, f q)

pub taken_passed : (s : Stream) (p : Publish) (room : Bool) → verdict s p room ≡ Take → (first_refusal (early_checks s p) ≡ None) × (first_refusal (late_checks s p room) ≡ None)
unfolding verdict
taken_passed s p room e = go (first_refusal (early_checks s p)) (known s p.wants.id) (first_refusal (late_checks s p room)) e
  where
    go : (early : Option ApiError) (found : Option Id) (late : Option ApiError) → first_of_all early found late ≡ Take → (early ≡ None) × (late ≡ None)
    go (Some r) found late q = cc
    go None (Some i) late q = cc
    go None None (Some r) q = cc
    go None None None q = (refl, refl)

-- what a publish that is taken says of its id and of the numbers
record IsTaken (s : Stream) (p : Publish) : Type 0 where
  id : length p.wants.id ≤ 256
  window : (not (is_empty p.wants.id) && nat_le (2 ^ 20) (length s.ids)) ≡ false
  number : s.last + 1 ≢ 2 ^ 62

taken : (s : Stream) (p : Publish) (room : Bool) → verdict s p room ≡ Take → IsTaken s p
taken s p room e =
    let w = taken_passed s p room e in
    let early : ArePassed (early_checks s p) = all_passed (early_checks s p) w.0 in
    let late : ArePassed (late_checks s p room) = all_passed (late_checks s p room) w.1 in
    record { id = ltb-false 256 (length p.wants.id) early.1.1.0; window = late.1.1.1.1.1.0; number = eqb-false (s.last + 1) (2 ^ 62) late.1.1.1.1.1.1.0 }

record IsMadeWithin (s : Stream) (name : Bytes) (config : ConsumerConfig) : Type 0 where
  picks : length (new_consumer s name config).picks ≤ 65536
  consumers : length s.consumers < 256

made_within : (s : Stream) (name : Bytes) (config : ConsumerConfig) → first_refusal (making_checks s name config) ≡ None → IsMadeWithin s name config
made_within s name config e =
    let passed : ArePassed (making_checks s name config) = all_passed (making_checks s name config) e in
    let most : length s.consumers < min (unwrap_or s.config.max_consumers 256) 256 = leb-false (min (unwrap_or s.config.max_consumers 256) 256) (length s.consumers) passed.1.1.1.1.0 in
    record { picks = ltb-false 65536 (length (new_consumer s name config).picks) passed.1.1.1.0; consumers = omega arith }

-- ---- consumers

-- but for the cursor, which soundness bounds
record IsHeld (c : Consumer) : Type 0 where
  made : IsNumber c.made
  dseq : IsNumber c.dseq
  picks : length c.picks ≤ 65536
  pending : length c.pending ≤ 65536
  entries : All IsBoundedEntry c.pending
  given_up : length c.given_up ≤ 65536

held_confined : (ns : List ℕ) (c : Consumer) → IsHeld c → IsHeld (confined ns c)
held_confined ns c h = record {
  made = h.made;
  dseq = h.dseq;
  picks = let q : length c.picks ≤ 65536 = h.picks in let r : length (filter (has ns) c.picks) ≤ length c.picks = part-length (filter_part (has ns) c.picks) in omega arith;
  pending = let q : length c.pending ≤ 65536 = h.pending in let r : length (filter (λ p. has ns p.seq) c.pending) ≤ length c.pending = part-length (filter_part (λ p. has ns p.seq) c.pending) in omega arith;
  entries = All-filter (λ p. has ns p.seq) IsBoundedEntry c.pending h.entries;
  given_up = let q : length c.given_up ≤ 65536 = h.given_up in let r : length (filter (has ns) c.given_up) ≤ length c.given_up = part-length (filter_part (has ns) c.given_up) in omega arith;
}

held_time : (now : ℕ) (c : Consumer) → IsHeld c → IsHeld (consumer_at now c)
held_time now c h = record {
  made = h.made;
  dseq = h.dseq;
  picks = h.picks;
  pending = let q : length c.pending ≤ 65536 = h.pending in let r : length (filter (λ p. not (is_spent now c p)) c.pending) ≤ length c.pending = part-length (filter_part (λ p. not (is_spent now c p)) c.pending) in omega arith;
  entries = All-filter (λ p. not (is_spent now c p)) IsBoundedEntry c.pending h.entries;
  given_up = last_of_length 65536 (fold placed c.given_up (map (λ p. p.seq) (filter (is_spent now c) c.pending)));
}

held_without : (t : ℕ → Bool) (c : Consumer) → IsHeld c → IsHeld (record c { pending = filter (λ p. not (t p.seq)) c.pending; given_up = filter (λ n. not (t n)) c.given_up })
held_without t c h = record {
  made = h.made;
  dseq = h.dseq;
  picks = h.picks;
  pending = let q : length c.pending ≤ 65536 = h.pending in let r : length (filter (λ p. not (t p.seq)) c.pending) ≤ length c.pending = part-length (filter_part (λ p. not (t p.seq)) c.pending) in omega arith;
  entries = All-filter (λ p. not (t p.seq)) IsBoundedEntry c.pending h.entries;
  given_up = let q : length c.given_up ≤ 65536 = h.given_up in let r : length (filter (λ n. not (t n)) c.given_up) ≤ length c.given_up = part-length (filter_part (λ n. not (t n)) c.given_up) in omega arith;
}

plus_number : (at ns : ℕ) → plus at ns < 2 ^ 62
plus_number at ns = omega arith

entry_moved : (n at ns : ℕ) (p : Pending) → IsBoundedEntry p → IsBoundedEntry (moved n (plus at ns) p)
entry_moved n at ns p h = go (p.seq == n)
  where
    go : (b : Bool) → IsBoundedEntry (cond b (record p { due = plus at ns }) p)
    go true = record { count = h.count; due = plus_number at ns }
    go false = h

held_moved : (n at ns : ℕ) (c : Consumer) → IsHeld c → IsHeld (record c { pending = map (moved n (plus at ns)) c.pending })
held_moved n at ns c h = record {
  made = h.made;
  dseq = h.dseq;
  picks = h.picks;
  pending = let q : length c.pending ≤ 65536 = h.pending in let r : length (map (moved n (plus at ns)) c.pending) ≡ length c.pending = length-map c.pending (moved n (plus at ns)) in omega arith;
  entries = All-map IsBoundedEntry (moved n (plus at ns)) c.pending (All-weaker IsBoundedEntry (λ p. IsBoundedEntry (moved n (plus at ns) p)) (entry_moved n at ns) c.pending h.entries);
  given_up = h.given_up;
}

held_acknowledged : (now n : ℕ) (kind : AckKind) (c : Consumer) → IsHeld c → IsHeld (acknowledged now n kind c)
held_acknowledged now n Acknowledge c h = held_without (ends c.config.ack_policy n) c h
held_acknowledged now n (Nak delay) c h = held_moved n now delay c h
held_acknowledged now n Wpi c h = held_moved n now c.config.ack_wait c h
held_acknowledged now n (Next ask) c h = held_without (ends c.config.ack_policy n) c h
held_acknowledged now n Term c h = held_without (λ m. m == n) c h

held_pulled : (now : ℕ) (reply : Option Bytes) (ask : Option Ask) (c : Consumer) → IsHeld c → IsHeld (pulled now reply ask c)
held_pulled now None ask c h = h
held_pulled now (Some reply) ask c h = go ask (pull_refusal c ask)
  where
    go : (ask : Option Ask) (block : Option Bytes) → IsHeld (pulled_unless block now reply ask c)
    go None None = h
    go (Some ask) None = record { made = h.made; dseq = h.dseq; picks = h.picks; pending = h.pending; entries = h.entries; given_up = h.given_up }
    go ask (Some block) = h

held_after_ack : (now : ℕ) (reply : Option Bytes) (n : ℕ) (kind : AckKind) (c : Consumer) → IsHeld c → IsHeld (after_ack now reply n kind c)
held_after_ack now reply n kind c h = go (next_ask kind)
  where
    go : (ask : Option Ask) → IsHeld (pulled_next now reply ask (acknowledged now n kind c))
    go None = held_acknowledged now n kind c h
    go (Some ask) = held_pulled now reply (Some ask) (acknowledged now n kind c) (held_acknowledged now n kind c h)

-- ---- deliveries

limit_within : (o : Option ℕ) → is_limit 65536 o ≡ true → unwrap_or o 65536 ≤ 65536
limit_within None e = omega arith
limit_within (Some n) e = leb-true n 65536 (and_parts _ _ e).1

held_sent : (a : Stream) (c : Consumer) (m : Message) → IsSoundStream a → IsSoundConsumer a.messages a.last c → (w : Contains (candidates a c) m) → IsHeld c → IsHeld (sent_to a.moment m c)
held_sent a c m sound k w h = record {
  made = h.made;
  dseq = number;
  picks = let q : length c.picks ≤ 65536 = h.picks in let r : length (filter (λ n. not (n == m.seq)) c.picks) ≤ length c.picks = part-length (filter_part (λ n. not (n == m.seq)) c.picks) in omega arith;
  pending = length_sent 65536 a c m a.moment k (candidate_is a c m w).reason (limit_within c.config.max_ack_pending (ack_limit_of c.config k.config)) h.pending;
  entries = go (is_unacknowledged c);
  given_up = h.given_up;
}
  where
    number : c.dseq + 1 < 2 ^ 62
    number = let q : c.dseq < 2 ^ 62 - 1 = (candidate_is a c m w).number in omega arith

    new : Pending
    new = record { seq = m.seq; count = count_of c m.seq + 1; due = plus a.moment c.config.ack_wait }

    go : (b : Bool) → All IsBoundedEntry (cond b c.pending (with_pending c.pending new))
    go true = h.entries
    go false =
        All-with_pending IsBoundedEntry new c.pending
        (record { count = let q : count_of c m.seq ≤ c.dseq = (deliverable a c m sound.messages k (candidate_is a c m w)).count in let r : c.dseq + 1 < 2 ^ 62 = number in omega arith; due = plus_number a.moment c.config.ack_wait }) h.entries

held_delivered : (a : Stream) (listening : List Bytes) (c after : Consumer) (d : Delivered) (outs : List Out) → Delivers a listening c d outs after → IsSoundStream a → IsSoundConsumer a.messages a.last c → IsHeld c → IsHeld after
held_delivered a listening c after (Sent seq count dseq) outs x sound k h = subst IsHeld (sym x.after_is) (held_sent a c x.message sound k x.candidate h)
held_delivered a listening c after TooSmall outs x sound k h = subst IsHeld (sym x.after_is) (record { made = h.made; dseq = h.dseq; picks = h.picks; pending = h.pending; entries = h.entries; given_up = h.given_up })
held_delivered a listening c after Emptied outs x sound k h = subst IsHeld (sym x.after_is) (record { made = h.made; dseq = h.dseq; picks = h.picks; pending = h.pending; entries = h.entries; given_up = h.given_up })

-- ---- streams

-- but for the incarnation and the number of messages, which the events bound, and the cursors
record IsHeldStream (s : Stream) : Type 0 where
  made : IsNumber s.made
  last : IsNumber s.last
  moment : IsNumber s.moment
  messages : All IsBoundedMessage s.messages
  ids : length s.ids ≤ 2 ^ 20
  each_id : All IsBoundedId s.ids
  consumers : length s.consumers ≤ 256
  each_consumer : All IsHeld s.consumers

pub All-part : {X : Type 0} (P : X → Type 0) {ys xs : List X} → IsPart ys xs → All P xs → All P ys
All-part P {ys = ys} {xs = xs} p h = all_from_in P ys (λ x i. all_in P xs h (in_part p i))

held_only : (s : Stream) (messages : List Message) → IsPart messages s.messages → IsHeldStream s → IsHeldStream (only s messages)
held_only s messages p h = record {
  made = h.made;
  last = h.last;
  moment = h.moment;
  messages = All-part IsBoundedMessage p h.messages;
  ids = h.ids;
  each_id = h.each_id;
  consumers = let q : length s.consumers ≤ 256 = h.consumers in let r : length (map (confined (seqs messages)) s.consumers) ≡ length s.consumers = length-map s.consumers (confined (seqs messages)) in omega arith;
  each_consumer = All-map IsHeld (confined (seqs messages)) s.consumers (All-weaker IsHeld (λ c. IsHeld (confined (seqs messages) c)) (held_confined (seqs messages)) s.consumers h.each_consumer);
}

held_with : (s : Stream) (new : Consumer) → IsHeld new → IsHeldStream s → IsHeldStream (with_consumer s new)
held_with s new k h = record {
  made = h.made;
  last = h.last;
  moment = h.moment;
  messages = h.messages;
  ids = h.ids;
  each_id = h.each_id;
  consumers = let q : length s.consumers ≤ 256 = h.consumers in let r : length (map (in_place_of new) s.consumers) ≡ length s.consumers = length-map s.consumers (in_place_of new) in omega arith;
  each_consumer = All-map IsHeld (in_place_of new) s.consumers (All-weaker IsHeld (λ c. IsHeld (in_place_of new c)) (λ c q. go c q (same c.name new.name)) s.consumers h.each_consumer);
}
  where
    go : (c : Consumer) → IsHeld c → (b : Bool) → IsHeld (cond b new c)
    go c q true = k
    go c q false = q

held_stored : (s : Stream) (p : Publish) (room : Bool) → verdict s p room ≡ Take → IsHeldStream s → IsHeldStream (with_message s p)
held_stored s p room e h = go p.wants.id t.id t.window
  where
    t : IsTaken s p
    t = taken s p room e

    number : IsNumber (s.last + 1)
    number = let q : s.last < 2 ^ 62 = h.last in let r : s.last + 1 ≢ 2 ^ 62 = t.number in omega arith

    new : IsBoundedMessage (message_of s p)
    new = record { seq = number; at = h.moment }

    messages : All IsBoundedMessage (s.messages ++ message_of s p ∷ [])
    messages = All-push IsBoundedMessage s.messages (message_of s p) h.messages new

    go : (id : Bytes) → length id ≤ 256 → (not (is_empty id) && nat_le (2 ^ 20) (length s.ids)) ≡ false → IsHeldStream (with_id (record s { messages = s.messages ++ message_of s p ∷ []; last = s.last + 1 }) id)
    go [] l w = record { made = h.made; last = number; moment = h.moment; messages = messages; ids = h.ids; each_id = h.each_id; consumers = h.consumers; each_consumer = h.each_consumer }
    go (byte ∷ more) l w =
        let i : Id = record { id = byte ∷ more; seq = s.last + 1; at = s.moment } in record {
          made = h.made;
          last = number;
          moment = h.moment;
          messages = messages;
          ids = let q : length s.ids < 2 ^ 20 = leb-false (2 ^ 20) (length s.ids) w in let r : length (s.ids ++ i ∷ []) ≡ length s.ids + 1 = length-append s.ids (i ∷ []) in omega arith;
          each_id = All-push IsBoundedId s.ids i h.each_id (record { given = refl; bytes = l; seq = number; at = h.moment });
          consumers = h.consumers;
          each_consumer = h.each_consumer;
        }

length-with_new : (cs : List Consumer) (new : Consumer) → length (with_new cs new) ≡ length cs + 1
length-with_new [] new = refl
length-with_new (c ∷ cs) new = go (is_before c.name new.name) (length-with_new cs new)
  where
    go : (b : Bool) → length (with_new cs new) ≡ length cs + 1 → length (cond b (c ∷ with_new cs new) (new ∷ c ∷ cs)) ≡ length (c ∷ cs) + 1
    go true e = omega arith
    go false e = omega arith

held_made : (s : Stream) (name : Bytes) (config : ConsumerConfig) → first_refusal (making_checks s name config) ≡ None → IsHeldStream s → IsHeldStream (record s { consumers = with_new s.consumers (new_consumer s name config) })
held_made s name config e h =
    let w = made_within s name config e in record {
      made = h.made;
      last = h.last;
      moment = h.moment;
      messages = h.messages;
      ids = h.ids;
      each_id = h.each_id;
      consumers = let q : length s.consumers < 256 = w.consumers in let r : length (with_new s.consumers (new_consumer s name config)) ≡ length s.consumers + 1 = length-with_new s.consumers (new_consumer s name config) in omega arith;
      each_consumer =
          All-with_new IsHeld s.consumers (new_consumer s name config)
          (record { made = h.moment; dseq = omega arith; picks = w.picks; pending = omega arith; entries = All-nil IsBoundedEntry; given_up = omega arith }) h.each_consumer;
    }

held_removed : (s : Stream) (t : Consumer → Bool) → IsHeldStream s → IsHeldStream (record s { consumers = filter t s.consumers })
held_removed s t h = record {
  made = h.made;
  last = h.last;
  moment = h.moment;
  messages = h.messages;
  ids = h.ids;
  each_id = h.each_id;
  consumers = let q : length s.consumers ≤ 256 = h.consumers in let r : length (filter t s.consumers) ≤ length s.consumers = part-length (filter_part t s.consumers) in omega arith;
  each_consumer = All-filter t IsHeld s.consumers h.each_consumer;
}

held_change : IsChangeFact IsProperWhat ⊤ IsHeldStream
held_change = record {
  gone = λ s reply g h. tt;
  only = held_only;
  configured = λ s reply config g h. record { made = h.made; last = h.last; moment = h.moment; messages = h.messages; ids = h.ids; each_id = h.each_id; consumers = h.consumers; each_consumer = h.each_consumer };
  stored = λ s p room g e h. held_stored s p room e h;
  made = λ s reply name config g e r h. held_made s name config r h;
  removed = λ s reply name c g e h. held_removed s _ h;
  acked = λ s reply ack c g e q h. held_with s _ (held_after_ack s.moment reply ack.seq ack.kind c (All-by_name IsHeld s.consumers ack.consumer c e h.each_consumer)) h;
  pulled = λ s reply name ask c g e h. held_with s _ (held_pulled s.moment reply ask c (All-by_name IsHeld s.consumers name c e h.each_consumer)) h;
}

held_at_time : (s : Stream) (now : ℕ) → now < 2 ^ 62 → IsHeldStream s → IsHeldStream (advance s now)
unfolding advance
held_at_time s now l h =
    let t = max s.moment now in
    let a = held_only s (young s t) (young_part s t) h in record {
      made = h.made;
      last = h.last;
      moment = let q : s.moment < 2 ^ 62 = h.moment in omega arith;
      messages = a.messages;
      ids = let q : length s.ids ≤ 2 ^ 20 = h.ids in let r : length (remembered s t) ≤ length s.ids = part-length (filter_part _ s.ids) in omega arith;
      each_id = All-filter _ IsBoundedId s.ids h.each_id;
      consumers =
          let q : length (only s (young s t)).consumers ≤ 256 = a.consumers in
          let r : length (map (consumer_at t) (only s (young s t)).consumers) ≡ length (only s (young s t)).consumers = length-map (only s (young s t)).consumers (consumer_at t) in omega arith;
      each_consumer =
          All-map IsHeld (consumer_at t) (only s (young s t)).consumers (All-weaker IsHeld (λ c. IsHeld (consumer_at t c)) (held_time t) (only s (young s t)).consumers a.each_consumer);
    }

-- ---- events

held_empty : (i now : ℕ) (config : StreamConfig) → now < 2 ^ 62 → IsHeldStream (empty_stream i config now)
held_empty i now config l = record {
  made = l;
  last = omega arith;
  moment = l;
  messages = All-nil IsBoundedMessage;
  ids = omega arith;
  each_id = All-nil IsBoundedId;
  consumers = omega arith;
  each_consumer = All-nil IsHeld;
}

held_cond : (b : Bool) (a c : Answer) → IfLive ⊤ IsHeldStream a.state → IfLive ⊤ IsHeldStream c.state → IfLive ⊤ IsHeldStream (cond b a c).state
held_cond true a c h k = h
held_cond false a c h k = k

-- what an event leaves, if there was no stream
held_vacant : (i : ℕ) (what : What) (now : ℕ) (room : Bool) → now < 2 ^ 62 → IfLive ⊤ IsHeldStream (vacant_answer i what now room).state
held_vacant i (Make reply config) now room l = held_cond (i + 1 == 2 ^ 62) _ _ tt (made room)
  where
    made : (room : Bool) → IfLive ⊤ IsHeldStream (stream_made i config now room).state
    made true = held_empty (i + 1) now config l
    made false = tt
held_vacant i _ now room l = tt

held_event : (count : ℕ) (old new : State) (e : Event) (now : ℕ) (reply : Reply) (outs : List Out) → IsStep count old e now reply outs new → IfLive ⊤ IsHeldStream old → IfLive ⊤ IsHeldStream new
unfolding answered
held_event count (Vacant i) new e now reply outs x h =
    subst (IfLive ⊤ IsHeldStream) (ap (λ (a : Answer). a.state) x.event.answers)
    (change_settled IsProperWhat ⊤ IsHeldStream held_change (vacant_answer i e.what now x.event.room).state (held_vacant i e.what now x.event.room x.moment))
held_event count (Live s) new e now reply outs x h =
    change_time IsProperWhat ⊤ IsHeldStream held_change s new e now reply outs x.event (and_parts _ _ x.proper).1 (held_at_time s now x.moment h)

held_delivery : (s : Stream) (new : State) (now : ℕ) (listening : List Bytes) (d : Delivery) (outs : List Out) → IsDelivery s now listening d outs new → now < 2 ^ 62 → IsSoundStream s → IsHeldStream s → IfLive ⊤ IsHeldStream new
held_delivery s new now listening d outs x l sound h =
    let a = held_at_time s now l h in
    subst (IfLive ⊤ IsHeldStream) (sym x.new_is)
    (change_kept IsProperWhat ⊤ IsHeldStream held_change (with_consumer (advance s now) x.after)
    (held_with (advance s now) x.after
    (held_delivered (advance s now) listening x.consumer x.after d.what x.own x.delivers (sound_time s now sound) (sound_found s now listening d outs new x sound)
    (All-by_name IsHeld (advance s now).consumers d.consumer x.consumer x.found a.each_consumer)) a))

-- ---- incarnations

abbrev number_of : State → ℕ
number_of (Vacant i) = i
number_of (Live s) = s.incarnation

abbrev not_drop : What → Bool
not_drop (DropStream reply) = false
not_drop _ = true

abbrev HasNumber : Stream → Type 0
HasNumber s = IsNumber s.incarnation

numbered_stored : (s : Stream) (p : Publish) → HasNumber s → HasNumber (with_message s p)
numbered_stored s p h = go p.wants.id
  where
    go : (id : Bytes) → HasNumber (with_id (record s { messages = s.messages ++ message_of s p ∷ []; last = s.last + 1 }) id)
    go [] = h
    go (byte ∷ more) = h

numbered_change : IsChangeFact (λ w. not_drop w ≡ true) ⊥ HasNumber
numbered_change = record {
  gone = λ s reply g h. absurd (true≢false (sym g));
  only = λ s messages part h. h;
  configured = λ s reply config g h. h;
  stored = λ s p room g e h. numbered_stored s p h;
  made = λ s reply name config g e r h. h;
  removed = λ s reply name c g e h. h;
  acked = λ s reply ack c g e q h. h;
  pulled = λ s reply name ask c g e h. h;
}

numbered_live : (s : State) → IfLive ⊥ HasNumber s → IsNumber (number_of s)
numbered_live (Vacant i) h = absurd h
numbered_live (Live s) h = h

numbered_time : (s : Stream) (now : ℕ) → HasNumber s → HasNumber (advance s now)
unfolding advance
numbered_time s now h = h

numbered_settled : (s : State) → IsNumber (number_of s) → IsNumber (number_of (settled_state s))
unfolding kept trim
numbered_settled (Vacant i) h = h
numbered_settled (Live s) h = h

-- an event drops the stream, or none does
drop_or_not : (w : What) → ((reply : Option Bytes) × (w ≡ DropStream reply)) ⊎ (not_drop w ≡ true)
drop_or_not (DropStream reply) = inl (reply, refl)
drop_or_not (Make reply config) = inr refl
drop_or_not (Change reply config) = inr refl
drop_or_not (PublishIt p) = inr refl
drop_or_not (Purge reply pattern below keep) = inr refl
drop_or_not (Delete reply k) = inr refl
drop_or_not (MakeConsumer reply name config update) = inr refl
drop_or_not (DropConsumer reply name) = inr refl
drop_or_not (AckIt reply ack) = inr refl
drop_or_not (PullIt reply name ask) = inr refl
drop_or_not Tick = inr refl
drop_or_not (AskStream reply) = inr refl
drop_or_not (MessageGet reply by) = inr refl
drop_or_not (AskConsumer reply name) = inr refl
drop_or_not (ConsumerNames reply offset) = inr refl
drop_or_not (ConsumerList reply offset) = inr refl

numbered_drop : (s : Stream) (new : State) (e : Event) (now : ℕ) (reply : Reply) (outs : List Out) (asked : Option Bytes) → IsEvent (Live s) e now reply outs new → e.what ≡ DropStream asked → HasNumber s → IsNumber (number_of new)
unfolding answered
numbered_drop s new e now reply outs asked x q h =
    subst (λ (z : State). IsNumber (number_of z)) (ap (λ (a : Answer). a.state) x.answers)
    (subst (λ (w : What). IsNumber (number_of (settled_state (stream_answer (advance s now) w x.room).state))) (sym q) (numbered_settled (Vacant (advance s now).incarnation) (gone (advance s now).incarnation (numbered_time s now h))))
  where
    gone : (i : ℕ) → IsNumber i → IsNumber (number_of (Vacant i))
    gone i k = k

numbered_vacant : (i : ℕ) (what : What) (now : ℕ) (room : Bool) → IsNumber i → IsNumber (number_of (vacant_answer i what now room).state)
numbered_vacant i (Make reply config) now room h = go (i + 1 == 2 ^ 62) room refl
  where
    go : (b room : Bool) → (i + 1 == 2 ^ 62) ≡ b → IsNumber (number_of (cond b (vacantly (Refused numbers_used_up) i) (stream_made i config now room)).state)
    go true room q = h
    go false false q = h
    go false true q = let r : i + 1 ≢ 2 ^ 62 = eqb-false (i + 1) (2 ^ 62) q in let l : i < 2 ^ 62 = h in omega arith
numbered_vacant i _ now room h = h

numbered_event : (old new : State) (e : Event) (now : ℕ) (reply : Reply) (outs : List Out) → IsEvent old e now reply outs new → IsNumber (number_of old) → IsNumber (number_of new)
unfolding answered
numbered_event (Vacant i) new e now reply outs x h = subst (λ (z : State). IsNumber (number_of z)) (ap (λ (a : Answer). a.state) x.answers) (numbered_settled (vacant_answer i e.what now x.room).state (numbered_vacant i e.what now x.room h))
numbered_event (Live s) new e now reply outs x h = go (drop_or_not e.what)
  where
    go : ((asked : Option Bytes) × (e.what ≡ DropStream asked)) ⊎ (not_drop e.what ≡ true) → IsNumber (number_of new)
    go (inl w) = numbered_drop s new e now reply outs w.0 x w.1 h
    go (inr w) = numbered_live new (change_time (λ w. not_drop w ≡ true) ⊥ HasNumber numbered_change s new e now reply outs x w (numbered_time s now h))

numbered_delivery : (s : Stream) (new : State) (now : ℕ) (listening : List Bytes) (d : Delivery) (outs : List Out) → IsDelivery s now listening d outs new → HasNumber s → IsNumber (number_of new)
numbered_delivery s new now listening d outs x h =
    numbered_live new (subst (IfLive ⊥ HasNumber) (sym x.new_is) (change_kept (λ w. not_drop w ≡ true) ⊥ HasNumber numbered_change (with_consumer (advance s now) x.after) (numbered_time s now h)))

-- ---- how many messages

few_messages : (s : State) → FitsLimits s → length (messages_of s) ≤ 2 ^ 24
few_messages (Vacant i) h = omega arith
few_messages (Live t) h = let q : length t.messages ≤ max_messages t = h.messages in omega arith

fewer_messages : (s : Stream) (new : State) (now : ℕ) (listening : List Bytes) (d : Delivery) (outs : List Out) → IsDelivery s now listening d outs new → length s.messages ≤ 2 ^ 24 → length (messages_of new) ≤ 2 ^ 24
unfolding kept advance
fewer_messages s new now listening d outs x h =
    let t = max s.moment now in
    let q : length (young s t) ≤ length s.messages = part-length (young_part s t) in
    let r : length (filter (is_kept s.config.retention (with_consumer (advance s now) x.after).consumers) (young s t)) ≤ length (young s t) = part-length (filter_part _ (young s t)) in
    subst (λ (z : State). length (messages_of z) ≤ 2 ^ 24) (sym x.new_is) (omega arith)

-- ---- states and runs

record IsHeldState (s : State) : Type 0 where
  held : IfLive ⊤ IsHeldStream s
  number : IsNumber (number_of s)
  messages : length (messages_of s) ≤ 2 ^ 24

held_of : (s : State) → IsBounded s → IsHeldState s
held_of (Vacant i) h = record { held = tt; number = h; messages = omega arith }
held_of (Live s) h = record {
  held = record {
    made = h.made;
    last = h.last;
    moment = h.moment;
    messages = h.each_message;
    ids = h.ids;
    each_id = h.each_id;
    consumers = h.consumers;
    each_consumer = All-weaker IsBoundedConsumer IsHeld (λ c k. record { made = k.made; dseq = k.dseq; picks = k.picks; pending = k.pending; entries = k.entries; given_up = k.given_up }) s.consumers h.each_consumer;
  };
  number = h.incarnation;
  messages = h.messages;
}

-- a sound state is bounded
bounded_from : (s : State) → IsSoundState s → IsHeldState s → IsBounded s
bounded_from (Vacant i) k h = h.number
bounded_from (Live s) k h = record {
  incarnation = h.number;
  made = h.held.made;
  last = h.held.last;
  moment = h.held.moment;
  messages = h.messages;
  each_message = h.held.messages;
  ids = h.held.ids;
  each_id = h.held.each_id;
  consumers = h.held.consumers;
  each_consumer = all_from_in IsBoundedConsumer s.consumers (λ c i. with_cursor c (all_in (IsSoundConsumer s.messages s.last) s.consumers k.consumers i) (all_in IsHeld s.consumers h.held.each_consumer i));
}
  where
    with_cursor : (c : Consumer) → IsSoundConsumer s.messages s.last c → IsHeld c → IsBoundedConsumer c
    with_cursor c q w = record {
      made = w.made;
      cursor = let l : c.cursor ≤ s.last + 1 = q.cursor in let m : s.last < 2 ^ 62 = h.held.last in omega arith;
      dseq = w.dseq;
      picks = w.picks;
      pending = w.pending;
      entries = w.entries;
      given_up = w.given_up;
    }

held_step : (count : ℕ) (old new : State) (e : Event) (now : ℕ) (reply : Reply) (outs : List Out) → IsStep count old e now reply outs new → IsHeldState old → IsHeldState new
held_step count old new e now reply outs x h = record {
  held = held_event count old new e now reply outs x h.held;
  number = numbered_event old new e now reply outs x.event h.number;
  messages = few_messages new (fits_event old new e now reply outs x.event);
}

held_deliver : (old new : State) (now : ℕ) (listening : List Bytes) (d : Delivery) (outs : List Out) → IsDeliverStep old now listening d outs new → IsSoundState old → IsHeldState old → IsHeldState new
held_deliver (Vacant i) new now listening d outs x k h = absurd x.delivered
held_deliver (Live s) new now listening d outs x k h = record {
  held = held_delivery s new now listening d outs x.delivered x.moment k h.held;
  number = numbered_delivery s new now listening d outs x.delivered h.number;
  messages = fewer_messages s new now listening d outs x.delivered h.messages;
}

held_run : (count : ℕ) (old new : State) (entries : List PlaceEntry) → IsSoundState old → IsHeldState old → RunFrom count old entries new → IsHeldState new
held_run count old new [] k h r = subst IsHeldState r h
held_run count old new (Step seat e now reply outs unsaid ∷ entries) k h (mid, x, rest) =
    held_run (count + length (new_messages old mid)) mid new entries (sound_step count old mid e now reply outs x k) (held_step count old mid e now reply outs x h) rest
held_run count old new (Deliver seat now listening d outs ∷ entries) k h (mid, x, rest) =
    held_run (count + length (new_messages old mid)) mid new entries (sound_delivery old mid now listening d outs x.delivered k) (held_deliver old mid now listening d outs x k h) rest
held_run count old new (Broken seat now (StepOf e) ∷ []) k h (reply, outs, x) = held_step count old new e now reply outs x h
held_run count old new (Broken seat now (DeliverOf listening d) ∷ []) k h (outs, x) = held_deliver old new now listening d outs x k h
held_run count old new (Broken seat now call ∷ entry ∷ entries) k h r = absurd r

pub law_bounded : LawBounded
law_bounded count old new entries s h r = let k = join old s in bounded_from new (sound_run count old new entries k r) (held_run count old new entries k (held_of old h) r)
