-- A sound stream stays sound when an acknowledgement or a pull changes one of its consumers.
use Rattle.std.proofs.Common.{◌≡◌, ℕ, ◌+◌, Bool, true, false, not, cond, List, [], ◌∷◌, map, refl, sym, ap, ◌∙◌, subst}
use Rattle.std.specs.Prelude.{Option, Some, None, filter, ◌==◌, All, nat_le, length}
use Rattle.std.proofs.lemmas.Bool.{true≢false}
use Rattle.std.proofs.lemmas.List.Elements.{All-filter, All-map, All-weaker, All-head, All-tail}
use Rattle.js_base.specs.Bytes.{Bytes, same}
use Rattle.js_model.specs.Lists.{Apart, Between}
use Rattle.js_model.specs.declared.stream.Message.{Message}
use Rattle.js_model.specs.declared.stream.Stream.{Stream}
use Rattle.js_model.specs.declared.consumer.Pending.{Pending}
use Rattle.js_model.specs.declared.consumer.Pull.{Pull}
use Rattle.js_model.specs.declared.consumer.Consumer.{Consumer}
use Rattle.js_model.specs.declared.ack.Ask.{Ask}
use Rattle.js_model.specs.declared.ack.AckKind.{AckKind}
use Rattle.js_model.specs.declared.ack.AckKind.TheVariants.{Ack as Acknowledge, Nak, Wpi, Next, Term}
use Rattle.js_model.specs.Streams.{by_name, with_consumer, in_place_of, is_push}
use Rattle.js_model.specs.Acknowledge.{acknowledged, without, with_due, moved}
use Rattle.js_model.specs.Pulls.{pulled, pulled_unless, with_pull, pull_refusal, push_based, exceeded_waiting}
use Rattle.js_model.specs.Events.{after_ack, pulled_next, next_ask}
use Rattle.model_laws.proofs.Whole.{AreStored, IsCounted, IsSoundConsumer, IsSoundStream}
use Rattle.js_model.proofs.Named.{none_some, some_is, in_place_of-names}
use Rattle.js_model.proofs.Parts.{filter_part, part_between, all_part, part_map}
use Rattle.js_model.proofs.Lacking.{apart-parts, has-part}
use Rattle.model_laws.proofs.SoundParts.{ordered_map}

-- ---- one consumer of a stream

pub All-by_name : (P : Consumer → Type 0) (cs : List Consumer) (name : Bytes) (c : Consumer) → by_name cs name ≡ Some c → All P cs → P c
All-by_name P [] name c e h = absurd (none_some e)
All-by_name P (d ∷ cs) name c e h = go (same d.name name) e (λ k. All-by_name P cs name c k (All-tail P d cs h))
  where
    go : (b : Bool) → cond b (Some d) (by_name cs name) ≡ Some c → (by_name cs name ≡ Some c → P c) → P c
    go true k f = subst P (some_is k) (All-head P d cs h)
    go false k f = f k

pub sound_with : (s : Stream) (new : Consumer) → IsSoundConsumer s.messages s.last new → IsSoundStream s → IsSoundStream (with_consumer s new)
sound_with s new k h = record {
  config = h.config;
  messages = h.messages;
  consumers =
      All-map (IsSoundConsumer s.messages s.last) (in_place_of new) s.consumers
      (All-weaker (IsSoundConsumer s.messages s.last) (λ c. IsSoundConsumer s.messages s.last (in_place_of new c)) either s.consumers h.consumers);
  ordered = ordered_map (in_place_of new) (λ c. (in_place_of-names new).name c) s.consumers h.ordered;
  ids = h.ids;
}
  where
    either : (c : Consumer) → IsSoundConsumer s.messages s.last c → IsSoundConsumer s.messages s.last (in_place_of new c)
    either c q = go (same c.name new.name)
      where
        go : (b : Bool) → IsSoundConsumer s.messages s.last (cond b new c)
        go true = k
        go false = q

-- ---- acknowledgements

without_sound : (messages : List Message) (last : ℕ) (ended : ℕ → Bool) (c : Consumer) → IsSoundConsumer messages last c → IsSoundConsumer messages last (without ended c)
without_sound messages last ended c k = record {
  config = k.config;
  named = k.named;
  cursor = k.cursor;
  picks = k.picks;
  pending = part_between (λ p. p.seq) 1 c.cursor (filter_part _ c.pending) k.pending;
  given_up = part_between (λ n. n) 1 c.cursor (filter_part _ c.given_up) k.given_up;
  picks_stored = k.picks_stored;
  pending_stored = record { stored = λ n e. k.pending_stored.stored n (has-part n (part_map (λ p. p.seq) (filter_part _ c.pending)) e) };
  given_up_stored = record { stored = λ n e. k.given_up_stored.stored n (has-part n (filter_part _ c.given_up) e) };
  picks_pending = apart-parts (all_part c.picks) (part_map (λ p. p.seq) (filter_part _ c.pending)) k.picks_pending;
  picks_given_up = apart-parts (all_part c.picks) (filter_part _ c.given_up) k.picks_given_up;
  pending_given_up = apart-parts (part_map (λ p. p.seq) (filter_part _ c.pending)) (filter_part _ c.given_up) k.pending_given_up;
  counts = All-filter _ (IsCounted c.dseq c.config.max_deliver) c.pending k.counts;
  unacknowledged_pending = λ e. ap (filter (λ p. not (ended p.seq))) (k.unacknowledged_pending e);
  unacknowledged_given_up = λ e. ap (filter (λ n. not (ended n))) (k.unacknowledged_given_up e);
  push = k.push;
}

pub moved-seq : (n due : ℕ) (p : Pending) → (moved n due p).seq ≡ p.seq
moved-seq n due p = go (p.seq == n)
  where
    go : (b : Bool) → (cond b (record p { due = due }) p).seq ≡ p.seq
    go true = refl
    go false = refl

pub moved-seqs : (n due : ℕ) (ps : List Pending) → map (λ p. p.seq) (map (moved n due) ps) ≡ map (λ p. p.seq) ps
moved-seqs n due [] = refl
moved-seqs n due (p ∷ ps) = rw (moved-seq n due p) (ap (λ l. p.seq ∷ l) (moved-seqs n due ps))

moved_counted : (dseq : ℕ) (limit : Option ℕ) (n due : ℕ) (p : Pending) → IsCounted dseq limit p → IsCounted dseq limit (moved n due p)
moved_counted dseq limit n due p h = go (p.seq == n)
  where
    go : (b : Bool) → IsCounted dseq limit (cond b (record p { due = due }) p)
    go true = record { least = h.least; most = h.most; within = h.within }
    go false = h

between_moved : (n due low high : ℕ) (ps : List Pending) → Between (λ p. p.seq) low high ps → Between (λ p. p.seq) low high (map (moved n due) ps)
between_moved n due low high [] h = h
between_moved n due low high (p ∷ ps) h = rw (moved-seq n due p) (h.0, between_moved n due (p.seq + 1) high ps h.1)

due_sound : (messages : List Message) (last n due : ℕ) (c : Consumer) → IsSoundConsumer messages last c → IsSoundConsumer messages last (with_due n due c)
due_sound messages last n due c k = record {
  config = k.config;
  named = k.named;
  cursor = k.cursor;
  picks = k.picks;
  pending = between_moved n due 1 c.cursor c.pending k.pending;
  given_up = k.given_up;
  picks_stored = k.picks_stored;
  pending_stored = subst (AreStored messages c.config.filter_subject) (sym (moved-seqs n due c.pending)) k.pending_stored;
  given_up_stored = k.given_up_stored;
  picks_pending = subst (Apart c.picks) (sym (moved-seqs n due c.pending)) k.picks_pending;
  picks_given_up = k.picks_given_up;
  pending_given_up = subst (λ (l : List ℕ). Apart l c.given_up) (sym (moved-seqs n due c.pending)) k.pending_given_up;
  counts =
      All-map (IsCounted c.dseq c.config.max_deliver) (moved n due) c.pending
      (All-weaker (IsCounted c.dseq c.config.max_deliver) (λ p. IsCounted c.dseq c.config.max_deliver (moved n due p)) (λ p q. moved_counted c.dseq c.config.max_deliver n due p q) c.pending k.counts);
  unacknowledged_pending = λ e. ap (map (moved n due)) (k.unacknowledged_pending e);
  unacknowledged_given_up = k.unacknowledged_given_up;
  push = k.push;
}

pub acknowledged_sound : (messages : List Message) (last now n : ℕ) (kind : AckKind) (c : Consumer) → IsSoundConsumer messages last c → IsSoundConsumer messages last (acknowledged now n kind c)
acknowledged_sound messages last now n Acknowledge c k = without_sound messages last _ c k
acknowledged_sound messages last now n (Nak delay) c k = due_sound messages last n _ c k
acknowledged_sound messages last now n Wpi c k = due_sound messages last n _ c k
acknowledged_sound messages last now n (Next ask) c k = without_sound messages last _ c k
acknowledged_sound messages last now n Term c k = without_sound messages last _ c k

-- ---- pulls

-- other waiting pulls, of which a push consumer has none
pub waiting_sound : (messages : List Message) (last mark : ℕ) (waiting : List Pull) (c : Consumer) → (is_push c ≡ true → waiting ≡ []) → IsSoundConsumer messages last c → IsSoundConsumer messages last (record c { waiting = waiting; mark = mark })
waiting_sound messages last mark waiting c e k = record {
  config = k.config;
  named = k.named;
  cursor = k.cursor;
  picks = k.picks;
  pending = k.pending;
  given_up = k.given_up;
  picks_stored = k.picks_stored;
  pending_stored = k.pending_stored;
  given_up_stored = k.given_up_stored;
  picks_pending = k.picks_pending;
  picks_given_up = k.picks_given_up;
  pending_given_up = k.pending_given_up;
  counts = k.counts;
  unacknowledged_pending = k.unacknowledged_pending;
  unacknowledged_given_up = k.unacknowledged_given_up;
  push = e;
}

-- a pull of a push consumer is refused
pull_of_push : (c : Consumer) (ask : Option Ask) → pull_refusal c ask ≡ None → is_push c ≡ false
pull_of_push c None e = absurd (none_some (sym e))
pull_of_push c (Some ask) e = go (is_push c) e
  where
    go : (b : Bool) → cond b (Some push_based) (cond (nat_le c.config.max_waiting (length c.waiting)) (Some exceeded_waiting) None) ≡ None → b ≡ false
    go true k = absurd (none_some (sym k))
    go false k = refl

pub pulled_sound : (messages : List Message) (last now : ℕ) (reply : Option Bytes) (ask : Option Ask) (c : Consumer) → IsSoundConsumer messages last c → IsSoundConsumer messages last (pulled now reply ask c)
pulled_sound messages last now None ask c k = k
pulled_sound messages last now (Some reply) ask c k = go (pull_refusal c ask) refl
  where
    added : (ask : Option Ask) → is_push c ≡ false → IsSoundConsumer messages last (with_pull now reply ask c)
    added None e = k
    added (Some ask) e = waiting_sound messages last c.mark _ c (λ p. absurd (true≢false (sym p ∙ e))) k

    go : (block : Option Bytes) → pull_refusal c ask ≡ block → IsSoundConsumer messages last (pulled_unless block now reply ask c)
    go None e = added ask (pull_of_push c ask e)
    go (Some block) e = k

pub after_ack_sound : (messages : List Message) (last now : ℕ) (reply : Option Bytes) (n : ℕ) (kind : AckKind) (c : Consumer) → IsSoundConsumer messages last c → IsSoundConsumer messages last (after_ack now reply n kind c)
after_ack_sound messages last now reply n kind c k = go (next_ask kind)
  where
    go : (ask : Option Ask) → IsSoundConsumer messages last (pulled_next now reply ask (acknowledged now n kind c))
    go None = acknowledged_sound messages last now n kind c k
    go (Some ask) = pulled_sound messages last now reply (Some ask) _ (acknowledged_sound messages last now n kind c k)
