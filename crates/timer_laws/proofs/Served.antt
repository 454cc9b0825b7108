-- What a delivery leaves is at rest: nothing that it sends is due again at once.
use Rattle.std.proofs.Common.{◌≡◌, ℕ, ◌+◌, ◌-◌, ◌^◌, ◌<◌, Bool, true, false, ◌&&◌, cond, List, [], ◌∷◌, map, max, refl, sym, ap, subst, arith}
use Rattle.std.specs.Prelude.{nat_lt, nat_le, ◌==◌, All, IsTrue, find, Some}
use Rattle.std.proofs.lemmas.Bool.{and_parts, ltb-true, lt-leb}
use Rattle.std.proofs.lemmas.List.Elements.{All-nil, All-cons, All-head, All-tail, All-map, All-weaker}
use Rattle.js_base.specs.Bytes.{Bytes, same}
use Rattle.js_base.specs.Moments.{plus}
use Rattle.js_base.specs.declared.out.Out.{Out}
use Rattle.js_model.specs.declared.stream.Message.{Message}
use Rattle.js_model.specs.declared.stream.Stream.{Stream}
use Rattle.js_model.specs.declared.stream.State.TheVariants.{Vacant, Live}
use Rattle.js_model.specs.declared.consumer_config.ConsumerConfig.{ConsumerConfig}
use Rattle.js_model.specs.declared.consumer.Pending.{Pending}
use Rattle.js_model.specs.declared.consumer.Pull.{Pull}
use Rattle.js_model.specs.declared.consumer.Consumer.{Consumer}
use Rattle.js_model.specs.declared.entry.Delivered.{Delivered}
use Rattle.js_model.specs.declared.entry.Delivered.TheVariants.{Sent, TooSmall, Emptied}
use Rattle.js_model.specs.Streams.{seqs, confined, in_place_of, with_consumer, is_push, is_unacknowledged, at_limit, sent_size}
use Rattle.js_model.specs.Configs.{is_consumer_config}
use Rattle.js_model.specs.Advance.{advance, young, consumer_at, is_over, has_come, pull_comes, is_spent}
use Rattle.js_model.specs.Deliver.{with_pending, count_of, served, front_served, sent_to, without_first, Delivers}
use Rattle.js_model.specs.Retention.{kept}
use Rattle.js_model.proofs.Members.{IsIn, all_in, found_in}
use Rattle.js_model.proofs.Parts.{filter_part}
use Rattle.model_laws.specs.Sound.{IsWellStoredConsumer}
use Rattle.model_laws.proofs.Taken.{only_again}
use Rattle.timer_laws.specs.Quiet.{IsAtRest}
use Rattle.timer_laws.specs.Laws.{LawServed}
use Rattle.timer_laws.proofs.Resting.{IsDoneConsumer, IsDone, beat_ahead, done_only, done_advance, done_rests}

-- ---- an acknowledgement is waited for

waits : (c : ConsumerConfig) → IsTrue (is_consumer_config c) → 0 < c.ack_wait
waits c h = ltb-true 0 c.ack_wait (and_parts _ _ (and_parts _ _ (and_parts _ _ (and_parts _ _ (and_parts _ _ (and_parts _ _ (and_parts _ _ (and_parts _ _ (and_parts _ _ (and_parts _ _ (and_parts _ _ h).0).0).0).0).0).0).0).0).0).0).1

abbrev Waits : Consumer → Type 0
Waits c = 0 < c.config.ack_wait

all_wait : (s : Stream) (now : ℕ) → All (IsWellStoredConsumer s.messages s.last) s.consumers → All Waits (advance s now).consumers
unfolding advance
all_wait s now h =
    All-map Waits (consumer_at (max s.moment now)) (map (confined (seqs (young s (max s.moment now)))) s.consumers)
    (All-map Waits (confined (seqs (young s (max s.moment now)))) s.consumers
    (All-weaker (IsWellStoredConsumer s.messages s.last) Waits (λ c k. waits c.config k.config) s.consumers h))

-- ---- the consumer

module _ (P : Pending → Type 0) where
  put_pending : (ps : List Pending) (new : Pending) → All P ps → P new → All P (with_pending ps new)
  put_pending [] new h k = All-cons P new [] k (All-nil P)
  put_pending (p ∷ ps) new h k = go (nat_lt p.seq new.seq) (put_pending ps new (All-tail P p ps h) k)
    where
      other : (b : Bool) → All P (cond b (new ∷ ps) (new ∷ p ∷ ps))
      other true = All-cons P new ps k (All-tail P p ps h)
      other false = All-cons P new (p ∷ ps) k h

      go : (b : Bool) → All P (with_pending ps new) → All P (cond b (p ∷ with_pending ps new) (cond (p.seq == new.seq) (new ∷ ps) (new ∷ p ∷ ps)))
      go true w = All-cons P p (with_pending ps new) (All-head P p ps h) w
      go false w = other (p.seq == new.seq)

all_but_first : (P : Pull → Type 0) (t : Pull → Bool) (ps : List Pull) → All P ps → All P (without_first t ps)
all_but_first P t [] h = h
all_but_first P t (p ∷ ps) h = go (t p) (all_but_first P t ps (All-tail P p ps h))
  where
    go : (b : Bool) → All P (without_first t ps) → All P (cond b ps (p ∷ without_first t ps))
    go true w = All-tail P p ps h
    go false w = All-cons P p (without_first t ps) (All-head P p ps h) w

module _ (now : ℕ) (l : now < 2 ^ 62 - 1) (c : Consumer) (h : IsDoneConsumer now c) where
  over_after : (bytes : ℕ) (ps : List Pull) → All (λ p. is_over now p ≡ false) ps → All (λ p. is_over now p ≡ false) (front_served now bytes ps)
  over_after bytes [] k = k
  over_after bytes (p ∷ ps) k = go (nat_le p.batch 1)
    where
      go : (b : Bool) → All (λ p. is_over now p ≡ false) (cond b ps (served now bytes p ∷ ps))
      go true = All-tail (λ p. is_over now p ≡ false) p ps k
      go false = All-cons (λ p. is_over now p ≡ false) (served now bytes p) ps (All-head (λ p. is_over now p ≡ false) p ps k) (All-tail (λ p. is_over now p ≡ false) p ps k)

  beats_after : (bytes : ℕ) (ps : List Pull) → All (λ p. pull_comes now p ≡ false) ps → All (λ p. pull_comes now p ≡ false) (front_served now bytes ps)
  beats_after bytes [] k = k
  beats_after bytes (p ∷ ps) k = go (nat_le p.batch 1)
    where
      go : (b : Bool) → All (λ p. pull_comes now p ≡ false) (cond b ps (served now bytes p ∷ ps))
      go true = All-tail (λ p. pull_comes now p ≡ false) p ps k
      go false = All-cons (λ p. pull_comes now p ≡ false) (served now bytes p) ps (beat_ahead now p.heartbeat l) (All-tail (λ p. pull_comes now p ≡ false) p ps k)

  own_after : (push : Bool) → (push && has_come now (cond push now c.mark) c.config.idle_heartbeat) ≡ false
  own_after true = beat_ahead now c.config.idle_heartbeat l
  own_after false = refl

  entries_after : (m : Message) → Waits c → (b : Bool) → All (λ p. is_spent now c p ≡ false) (cond b c.pending (with_pending c.pending (record { seq = m.seq; count = count_of c m.seq + 1; due = plus now c.config.ack_wait })))
  entries_after m w true = h.unspent
  entries_after m w false =
      put_pending (λ p. is_spent now c p ≡ false) c.pending (record { seq = m.seq; count = count_of c m.seq + 1; due = plus now c.config.ack_wait }) h.unspent
      (ap (λ (b : Bool). b && at_limit (count_of c m.seq + 1) c.config.max_deliver) (lt-leb (plus now c.config.ack_wait) now (let k : 0 < c.config.ack_wait = w in omega arith)))

  done_sent : (m : Message) → Waits c → IsDoneConsumer now (sent_to now m c)
  done_sent m w = record {
    untold = record { over = over_after (sent_size m) c.waiting h.untold.over; beats = beats_after (sent_size m) c.waiting h.untold.beats; own = own_after (is_push c) };
    unspent = entries_after m w (is_unacknowledged c);
    few = h.few;
  }

  done_waiting : (ps : List Pull) → All (λ p. is_over now p ≡ false) ps → All (λ p. pull_comes now p ≡ false) ps → IsDoneConsumer now (record c { waiting = ps })
  done_waiting ps k m = record { untold = record { over = k; beats = m; own = h.untold.own }; unspent = h.unspent; few = h.few }

-- whichever of the three cases it is
done_delivered : (a : Stream) (listening : List Bytes) (c after : Consumer) (what : Delivered) (outs : List Out) → a.moment < 2 ^ 62 - 1 → IsDoneConsumer a.moment c → Waits c → Delivers a listening c what outs after → IsDoneConsumer a.moment after
done_delivered a listening c after (Sent seq count dseq) outs l h w k = subst (IsDoneConsumer a.moment) (sym k.after_is) (done_sent a.moment l c h k.message w)
done_delivered a listening c after TooSmall outs l h w k =
    subst (IsDoneConsumer a.moment) (sym k.after_is)
    (done_waiting a.moment l c h k.rest
    (All-tail (λ p. is_over a.moment p ≡ false) k.front k.rest (subst (All (λ p. is_over a.moment p ≡ false)) k.waiting_is h.untold.over))
    (All-tail (λ p. pull_comes a.moment p ≡ false) k.front k.rest (subst (All (λ p. pull_comes a.moment p ≡ false)) k.waiting_is h.untold.beats)))
done_delivered a listening c after Emptied outs l h w k =
    subst (IsDoneConsumer a.moment) (sym k.after_is)
    (done_waiting a.moment l c h (without_first (λ p. p.no_wait) c.waiting)
    (all_but_first (λ p. is_over a.moment p ≡ false) (λ p. p.no_wait) c.waiting h.untold.over)
    (all_but_first (λ p. pull_comes a.moment p ≡ false) (λ p. p.no_wait) c.waiting h.untold.beats))

-- ---- the stream

done_with : (now : ℕ) (a : Stream) (new : Consumer) → IsDone now a → IsDoneConsumer now new → IsDone now (with_consumer a new)
done_with now a new h k = record {
  moment = h.moment;
  messages = h.messages;
  ids = h.ids;
  consumers = All-map (IsDoneConsumer now) (in_place_of new) a.consumers (All-weaker (IsDoneConsumer now) (λ c. IsDoneConsumer now (in_place_of new c)) (λ c q. placed c q (same c.name new.name)) a.consumers h.consumers);
}
  where
    placed : (c : Consumer) → IsDoneConsumer now c → (b : Bool) → IsDoneConsumer now (cond b new c)
    placed c q true = k
    placed c q false = q

kept_rests : (now : ℕ) (s : Stream) → IsDone now s → IsAtRest (Live (kept s))
unfolding kept
kept_rests now s h = done_rests now (kept s) (done_only now s _ (filter_part _ s.messages) h) (only_again s _)

served_rests : (s : Stream) (now : ℕ) (listening : List Bytes) (name : Bytes) (what : Delivered) (own : List Out) (c after : Consumer) → All (IsWellStoredConsumer s.messages s.last) s.consumers → max s.moment now < 2 ^ 62 - 1
    → find (λ d. same d.name name) (advance s now).consumers ≡ Some c → Delivers (advance s now) listening c what own after → IsAtRest (Live (kept (with_consumer (advance s now) after)))
served_rests s now listening name what own c after w l f k = kept_rests (advance s now).moment (with_consumer (advance s now) after) (done_with (advance s now).moment (advance s now) after done (done_delivered (advance s now) listening c after what own below (all_in (IsDoneConsumer (advance s now).moment) (advance s now).consumers done.consumers there) (all_in Waits (advance s now).consumers (all_wait s now w) there) k))
  where
    there : IsIn c (advance s now).consumers
    there = (found_in (λ d. same d.name name) c (advance s now).consumers f).0

    moment_is : (advance s now).moment ≡ max s.moment now
    moment_is = (done_advance s now l).moment

    done : IsDone (advance s now).moment (advance s now)
    done = subst (λ (n : ℕ). IsDone n (advance s now)) (sym moment_is) (done_advance s now l)

    below : (advance s now).moment < 2 ^ 62 - 1
    below = subst (λ (n : ℕ). n < 2 ^ 62 - 1) (sym moment_is) l

pub law_served : LawServed
law_served (Vacant i) now listening d outs new w h l = absurd h
law_served (Live s) now listening d outs new w h l =
    subst IsAtRest (sym h.new_is) (served_rests s now listening d.consumer d.what h.own h.consumer h.after w.consumers l h.found h.delivers)
