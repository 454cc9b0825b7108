-- Records make of messages that are not read what they make of messages.
use Rattle.std.proofs.Common.{◌≡◌, ℕ, suc, ◌+◌, ◌≤◌, ◌^◌, Bool, true, false, cond, not, List, [], ◌∷◌, length, get_or, map, Option, Some, None, IsTrue, refl, sym, ap, subst, ◌∙◌, arith}
use Rattle.std.specs.Prelude.{All, filter, nat_le, ◌==◌, ◌↔◌, option_map}
use Rattle.std.proofs.lemmas.List.{map-append}
use Rattle.std.proofs.lemmas.List.Elements.{All-nil, All-cons, All-head, All-tail}
use Rattle.std.specs.Str.{is_utf8, chars}
use Rattle.std.proofs.Math.Utf8.{encode}
use Rattle.js_base.specs.Bytes.{has}
use Rattle.js_base.specs.Subjects.{is_subject_text}
use Rattle.js_model.specs.declared.stream.Message.{Message}
use Rattle.js_model.specs.declared.consumer.Consumer.{Consumer}
use Rattle.js_model.specs.Lists.{Between}
use Rattle.js_model.specs.Streams.{by_name, seqs, pending_seqs}
use Rattle.model_laws.specs.Sound.{AreStored, IsWellStoredConsumer}
use Rattle.model_laws.specs.Bounds.{IsBoundedMessage, IsWritableMessage}
use Rattle.effects.specs.declared.durable.Body.{Body}
use Rattle.effects.specs.declared.durable.Durable.{Durable}
use Rattle.effects.specs.declared.effect.Effect.{Effect}
use Rattle.effects.specs.declared.effect.Effect.TheVariants.{MakeStream, ChangeStream, DropStream, PutHere, Skip, Remove, MakeConsumer, DropConsumer, Deliver, Acked, Due, GivenUp, Now}
use Rattle.effects.specs.Folding.{removed, live, live_if, fold, fold_in, fold_live, fold_vacant, fold_all, empty_body, consumer_from, with_made, without_consumer, replaced, is_next, numbered, put, at_moment, delivered, acked, due_at, given_up_by}
use Rattle.effects.specs.Ranges.{is_within}
use Rattle.durable_checks.specs.Storable.{IsStorable, IsFormed, IsFormedOf}
use Rattle.log_records.specs.Unread.{unread_subject, unread_message, unread_body, unread, unread_effect, stored_messages}
use Rattle.log_records.specs.Laws.{LawUnread}

-- ---- records

filtered : (passes : ℕ → Bool) (ms : List Message) → filter (λ m. passes m.seq) (map unread_message ms) ≡ map unread_message (filter (λ m. passes m.seq) ms)
filtered passes [] = refl
filtered passes (m ∷ ms) = go (filtered passes ms) (passes m.seq)
  where
    go : filter (λ m. passes m.seq) (map unread_message ms) ≡ map unread_message (filter (λ m. passes m.seq) ms) → (b : Bool) → cond b (unread_message m ∷ filter (λ m. passes m.seq) (map unread_message ms)) (filter (λ m. passes m.seq) (map unread_message ms)) ≡ map unread_message (cond b (m ∷ filter (λ m. passes m.seq) ms) (filter (λ m. passes m.seq) ms))
    go more true = ap (λ (l : List Message). unread_message m ∷ l) more
    go more false = more

-- a consumer is another one, or it is not there
others_unread : (i : ℕ) (b : Body) (o : Option Consumer) → live_if i (replaced (unread_body b) o) ≡ option_map unread (live_if i (replaced b o))
others_unread i b None = refl
others_unread i b (Some c) = refl

-- what passes a test is made
tested_unread : (t : Bool) (made : Durable) → cond t (Some (unread made)) None ≡ option_map unread (cond t (Some made) None)
tested_unread true made = refl
tested_unread false made = refl

vacant_unread : (i : ℕ) (e : Effect) → fold_vacant i (unread_effect e) ≡ option_map unread (fold_vacant i e)
vacant_unread i (MakeStream incarnation made config) = tested_unread (incarnation == i + 1) (live incarnation (empty_body made config))
vacant_unread i (ChangeStream config) = refl
vacant_unread i DropStream = refl
vacant_unread i (PutHere seq at id subject headers payload) = refl
vacant_unread i (Skip seq at id) = refl
vacant_unread i (Remove low high) = refl
vacant_unread i (MakeConsumer name made config cursor picks) = refl
vacant_unread i (DropConsumer name) = refl
vacant_unread i (Deliver name seq count due dseq) = refl
vacant_unread i (Acked name low high) = refl
vacant_unread i (Due name seq due) = refl
vacant_unread i (GivenUp name moment) = refl
vacant_unread i (Now moment) = refl

live_unread : (i : ℕ) (b : Body) (e : Effect) → fold_live i (unread_body b) (unread_effect e) ≡ option_map unread (fold_live i b e)
live_unread i b (MakeStream incarnation made config) = refl
live_unread i b (ChangeStream config) = refl
live_unread i b DropStream = refl
live_unread i b (PutHere seq at id subject headers payload) = go (is_next seq at b)
  where
    m : Message
    m = record { seq = seq; at = at; subject = subject; headers = headers; payload = payload }

    go : (t : Bool) → cond t (Some (live i (put (unread_message m) id (unread_body b)))) None ≡ option_map unread (cond t (Some (live i (put m id b))) None)
    go true = ap (λ (ms : List Message). Some (live i (numbered seq at id (record b { messages = ms })))) (sym (map-append unread_message b.messages (m ∷ [])))
    go false = refl
live_unread i b (Skip seq at id) = tested_unread (is_next seq at b) (live i (numbered seq at id b))
live_unread i b (Remove low high) =
    ap (λ (ms : List Message). Some (live i (record (removed low high b) { messages = ms }))) (filtered (λ n. not (is_within low high n)) b.messages)
live_unread i b (MakeConsumer name made config cursor picks) = go (by_name b.consumers name)
  where
    go : (o : Option Consumer) → live_if i (with_made (unread_body b) (consumer_from name made config cursor picks) o) ≡ option_map unread (live_if i (with_made b (consumer_from name made config cursor picks) o))
    go None = refl
    go (Some c) = refl
live_unread i b (DropConsumer name) = go (by_name b.consumers name)
  where
    go : (o : Option Consumer) → live_if i (without_consumer (unread_body b) o) ≡ option_map unread (live_if i (without_consumer b o))
    go None = refl
    go (Some c) = refl
live_unread i b (Deliver name seq count due dseq) = others_unread i b (delivered (record { seq = seq; count = count; due = due }) dseq (by_name b.consumers name))
live_unread i b (Acked name low high) = others_unread i b (acked low high (by_name b.consumers name))
live_unread i b (Due name seq due) = others_unread i b (due_at seq due (by_name b.consumers name))
live_unread i b (GivenUp name moment) = others_unread i b (given_up_by moment (by_name b.consumers name))
live_unread i b (Now moment) = tested_unread (nat_le b.moment moment) (live i (at_moment moment b))

pub one_unread : (d : Durable) (e : Effect) → fold (unread d) (unread_effect e) ≡ option_map unread (fold d e)
one_unread d e = go d.body
  where
    go : (o : Option Body) → fold_in d.incarnation (option_map unread_body o) (unread_effect e) ≡ option_map unread (fold_in d.incarnation o e)
    go None = vacant_unread d.incarnation e
    go (Some b) = live_unread d.incarnation b e

pub all_unread : (es : List Effect) (d : Option Durable) → fold_all (map unread_effect es) (option_map unread d) ≡ option_map unread (fold_all es d)
all_unread [] d = refl
all_unread (e ∷ es) None = all_unread es None
all_unread (e ∷ es) (Some d) = ap (fold_all (map unread_effect es)) (one_unread d e) ∙ all_unread es (fold d e)

-- ---- twice

messages_again : (ms : List Message) → map unread_message (map unread_message ms) ≡ map unread_message ms
messages_again [] = refl
messages_again (m ∷ ms) = ap (λ (l : List Message). unread_message m ∷ l) (messages_again ms)

pub again : (d : Durable) → unread (unread d) ≡ unread d
again d = go d.body
  where
    go : (o : Option Body) → unread (unread (record { incarnation = d.incarnation; body = o })) ≡ unread (record { incarnation = d.incarnation; body = o })
    go None = refl
    go (Some b) = ap (λ (ms : List Message). live d.incarnation (record b { messages = ms })) (messages_again b.messages)

-- ---- what is stored

pub seqs_unread : (ms : List Message) → seqs (map unread_message ms) ≡ seqs ms
seqs_unread [] = refl
seqs_unread (m ∷ ms) = ap (λ (ns : List ℕ). m.seq ∷ ns) (seqs_unread ms)

between_unread : (low high : ℕ) (ms : List Message) → Between (λ m. m.seq) low high (map unread_message ms) ↔ Between (λ m. m.seq) low high ms
between_unread low high [] = ((λ h. h), (λ h. h))
between_unread low high (m ∷ ms) =
    let more = between_unread (m.seq + 1) high ms in
    ((λ h. (h.0, more.0 h.1)), (λ h. (h.0, more.1 h.1)))

bounded_unread : (ms : List Message) → All IsBoundedMessage (map unread_message ms) ↔ All IsBoundedMessage ms
bounded_unread [] = ((λ h. h), (λ h. h))
bounded_unread (m ∷ ms) =
    let more = bounded_unread ms in (
      (λ h.
          let first = All-head IsBoundedMessage (unread_message m) (map unread_message ms) h in
          All-cons IsBoundedMessage m ms (record { seq = first.seq; at = first.at }) (more.0 (All-tail IsBoundedMessage (unread_message m) (map unread_message ms) h))),
      (λ h.
          let first = All-head IsBoundedMessage m ms h in
          All-cons IsBoundedMessage (unread_message m) (map unread_message ms) (record { seq = first.seq; at = first.at }) (more.1 (All-tail IsBoundedMessage m ms h))),
    )

stored_beside : (old new : List Message) (ns : List ℕ) → seqs old ≡ seqs new → AreStored old ns → AreStored new ns
stored_beside old new ns e h = record { stored = λ n is. subst (λ (l : List ℕ). has l n ≡ true) e (h.stored n is) }

consumer_beside : (old new : List Message) (last : ℕ) (c : Consumer) → seqs old ≡ seqs new → IsWellStoredConsumer old last c → IsWellStoredConsumer new last c
consumer_beside old new last c e h = record {
  config = h.config;
  named = h.named;
  cursor = h.cursor;
  picks = h.picks;
  pending = h.pending;
  given_up = h.given_up;
  picks_stored = stored_beside old new c.picks e h.picks_stored;
  pending_stored = stored_beside old new (pending_seqs c) e h.pending_stored;
  given_up_stored = stored_beside old new c.given_up e h.given_up_stored;
  picks_pending = h.picks_pending;
  picks_given_up = h.picks_given_up;
  pending_given_up = h.pending_given_up;
  counts = h.counts;
  unacknowledged_pending = h.unacknowledged_pending;
  unacknowledged_given_up = h.unacknowledged_given_up;
  push = h.push;
}

-- the messages are others, of the same sequences and as many, and each is within its bounds
record AreLike (old new : List Message) (last : ℕ) : Type 0 where
  seqs_are : seqs old ≡ seqs new
  many : length old ≡ length new
  between : Between (λ m. m.seq) 1 (last + 1) old → Between (λ m. m.seq) 1 (last + 1) new
  bounded : All IsBoundedMessage old → All IsBoundedMessage new

storable_like : (i : ℕ) (b : Body) (new : List Message) → AreLike b.messages new b.last → IsStorable (live i b) → IsStorable (live i (record b { messages = new }))
storable_like i b new like h = record {
  stored = record {
    config = h.stored.config;
    messages = like.between h.stored.messages;
    consumers = λ k c within. consumer_beside b.messages new b.last (get_or b.consumers k c) like.seqs_are (h.stored.consumers k c within);
    ordered = h.stored.ordered;
    ids = h.stored.ids;
  };
  bounded = record {
    incarnation = h.bounded.incarnation;
    made = h.bounded.made;
    last = h.bounded.last;
    moment = h.bounded.moment;
    messages = subst (λ (n : ℕ). n ≤ 2 ^ 24) like.many h.bounded.messages;
    each_message = like.bounded h.bounded.each_message;
    ids = h.bounded.ids;
    each_id = h.bounded.each_id;
    consumers = h.bounded.consumers;
    each_consumer = h.bounded.each_consumer;
  };
}

many_unread : (ms : List Message) → length (map unread_message ms) ≡ length ms
many_unread [] = refl
many_unread (m ∷ ms) = ap (λ (n : ℕ). suc n) (many_unread ms)

pub storable_unread : (d : Durable) → IsStorable (unread d) ↔ IsStorable d
storable_unread d = go d.body
  where
    go : (o : Option Body) → IsStorable (unread (record { incarnation = d.incarnation; body = o })) ↔ IsStorable (record { incarnation = d.incarnation; body = o })
    go None = ((λ h. h), (λ h. h))
    go (Some b) =
        let between = between_unread 1 (b.last + 1) b.messages in
        let bounded = bounded_unread b.messages in (
          storable_like d.incarnation (unread_body b) b.messages (record { seqs_are = seqs_unread b.messages; many = many_unread b.messages; between = between.0; bounded = bounded.0 }),
          storable_like d.incarnation b (map unread_message b.messages) (record { seqs_are = sym (seqs_unread b.messages); many = sym (many_unread b.messages); between = between.1; bounded = bounded.1 }),
        )

-- ---- what is formed

-- a hyphen is a subject
pub hyphen_spelled : IsTrue (is_subject_text unread_subject)
unfolding is_utf8 chars encode
hyphen_spelled = refl

writable_unread : (ms : List Message) → All IsWritableMessage (map unread_message ms)
writable_unread [] = All-nil IsWritableMessage
writable_unread (m ∷ ms) = All-cons IsWritableMessage (unread_message m) (map unread_message ms) (record { subject = hyphen_spelled; headers = refl; bytes = omega arith }) (writable_unread ms)

pub formed_unread : (d : Durable) → IsFormed d ↔ (IsFormed (unread d) × All IsWritableMessage (stored_messages d))
formed_unread d = go d.body
  where
    go : (o : Option Body) → IsFormedOf o ↔ (IsFormedOf (option_map unread_body o) × All IsWritableMessage (stored_messages (record { incarnation = d.incarnation; body = o })))
    go None = ((λ h. (tt, All-nil IsWritableMessage)), (λ h. tt))
    go (Some b) = (
      (λ h. (record { config = h.config; writable = writable_unread b.messages; consumers = h.consumers; ordered = h.ordered }, h.writable)),
      (λ h. record { config = h.0.config; writable = h.1; consumers = h.0.consumers; ordered = h.0.ordered }),
    )

pub law_unread : LawUnread
law_unread = record { one = one_unread; all = all_unread; storable = storable_unread; again = again; formed = formed_unread }
