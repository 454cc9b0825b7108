-- A fact of a consumer that each of its changes keeps holds after each event and each delivery, until it is dropped.
use Rattle.std.proofs.Common.{◌≡◌, ℕ, Bool, true, false, cond, List, [], ◌∷◌, ◌++◌, ◌+◌, refl, sym, ap, ◌∙◌, subst, max}
use Rattle.std.specs.Prelude.{Option, Some, None}
use Rattle.std.proofs.lemmas.Bool.{true≢false}
use Rattle.js_base.specs.Bytes.{Bytes, same}
use Rattle.js_base.specs.declared.out.Out.{Out}
use Rattle.js_model.specs.declared.stream.Message.{Message}
use Rattle.js_model.specs.declared.stream.Stream.{Stream}
use Rattle.js_model.specs.declared.stream.State.{State}
use Rattle.js_model.specs.declared.stream.State.TheVariants.{Live}
use Rattle.js_model.specs.declared.consumer.Consumer.{Consumer}
use Rattle.js_model.specs.declared.ack.Ask.{Ask}
use Rattle.js_model.specs.declared.ack.AckKind.{AckKind}
use Rattle.js_model.specs.declared.ack.AckKind.TheVariants.{Ack as Acknowledge, Nak, Wpi, Next, Term}
use Rattle.js_model.specs.declared.event.Event.{Event}
use Rattle.js_model.specs.declared.event.Publish.{Publish}
use Rattle.js_model.specs.declared.reply.Reply.{Reply}
use Rattle.js_model.specs.declared.entry.Delivered.{Delivered}
use Rattle.js_model.specs.declared.entry.Delivered.TheVariants.{Sent, TooSmall, Emptied}
use Rattle.js_model.specs.declared.entry.Delivery.{Delivery}
use Rattle.js_model.specs.Streams.{confined, only, seqs, by_name, with_consumer, in_place_of}
use Rattle.js_model.specs.Advance.{advance, consumer_at, young}
use Rattle.js_model.specs.Retention.{kept}
use Rattle.js_model.specs.Verdict.{message_of}
use Rattle.js_model.specs.Acknowledge.{acknowledged}
use Rattle.js_model.specs.Pulls.{pulled, pulled_unless, pull_refusal}
use Rattle.js_model.specs.Consumers.{new_consumer}
use Rattle.js_model.specs.Events.{with_message, with_id, after_ack, pulled_next, next_ask, IsEvent}
use Rattle.js_model.specs.Deliver.{Delivers, IsDelivery}
use Rattle.model_laws.specs.OneConsumer.{drops}
use Rattle.model_laws.specs.Acked.{ChangesEntries}
use Rattle.js_model.proofs.Named.{Stands, stands-map, stands-found, stands-with_new, stands-without, KeepsNames, same_is, found_named, same_self, in_place_of-names, placed_same}
use Rattle.model_laws.proofs.Facts.{IsStreamFact, IfLive, at_event, at_time, at_kept}

-- a fact of a consumer that its stream's steps keep
pub record IsKept (P : Consumer → Type 0) : Type 0 where
  pub confined : (keep : List ℕ) (c : Consumer) → P c → P (confined keep c)
  pub time : (now : ℕ) (c : Consumer) → P c → P (consumer_at now c)
  pub acknowledged : (now n : ℕ) (kind : AckKind) (c : Consumer) → P c → P (acknowledged now n kind c)
  pub pulled : (now : ℕ) (reply : Option Bytes) (ask : Option Ask) (c : Consumer) → P c → P (pulled now reply ask c)

-- the stream has a consumer of this name, of which P holds
abbrev pub InStream : Bytes → (Consumer → Type 0) → Stream → Type 0
InStream name P s = Stands name P s.consumers

abbrev pub InState : Bytes → (Consumer → Type 0) → State → Type 0
InState name P s = IfLive ⊥ (InStream name P) s

-- ---- names stay

confined-names : (keep : List ℕ) → KeepsNames (confined keep)
confined-names keep = record { name = λ c. refl }

time-names : (now : ℕ) → KeepsNames (consumer_at now)
time-names now = record { name = λ c. refl }

-- an acknowledgement changes nothing of its consumer but the entries
pub acknowledged_entries : (now n : ℕ) (kind : AckKind) (c : Consumer) → ChangesEntries c (acknowledged now n kind c)
acknowledged_entries now n Acknowledge c = record { rest = refl }
acknowledged_entries now n (Nak delay) c = record { rest = refl }
acknowledged_entries now n Wpi c = record { rest = refl }
acknowledged_entries now n (Next ask) c = record { rest = refl }
acknowledged_entries now n Term c = record { rest = refl }

pub pulled-name : (now : ℕ) (reply : Option Bytes) (ask : Option Ask) (c : Consumer) → (pulled now reply ask c).name ≡ c.name
pulled-name now None ask c = refl
pulled-name now (Some reply) ask c = go ask (pull_refusal c ask)
  where
    go : (ask : Option Ask) (block : Option Bytes) → (pulled_unless block now reply ask c).name ≡ c.name
    go None None = refl
    go (Some ask) None = refl
    go ask (Some block) = refl

pub after_ack-name : (now : ℕ) (reply : Option Bytes) (n : ℕ) (kind : AckKind) (c : Consumer) → (after_ack now reply n kind c).name ≡ c.name
after_ack-name now reply n kind c = go (next_ask kind) ∙ ap (λ (d : Consumer). d.name) (acknowledged_entries now n kind c).rest
  where
    go : (ask : Option Ask) → (pulled_next now reply ask (acknowledged now n kind c)).name ≡ (acknowledged now n kind c).name
    go None = refl
    go (Some ask) = pulled-name now reply (Some ask) (acknowledged now n kind c)

-- ---- a change of one consumer

-- a consumer put in the place of the one of its name
pub in_with : (name : Bytes) (P Q : Consumer → Type 0) (s : Stream) (new : Consumer) → (new.name ≡ name → Q new) → ((c : Consumer) → same c.name new.name ≡ false → P c → Q c)
    → InStream name P s → InStream name Q (with_consumer s new)
in_with name P Q s new own other h = stands-map (in_place_of new) (in_place_of-names new) each h
  where
    each : (c : Consumer) → c.name ≡ name → P c → Q (in_place_of new c)
    each c named p = go (same c.name new.name) refl
      where
        go : (b : Bool) → same c.name new.name ≡ b → Q (cond b new c)
        go true e = own (sym (same_is c.name new.name e) ∙ named)
        go false e = other c e p

-- a new consumer in the place of the one of the name
pub in_replaced : (name : Bytes) (P Q : Consumer → Type 0) (s : Stream) (new : Consumer) → new.name ≡ name → Q new → InStream name P s → InStream name Q (with_consumer s new)
in_replaced name P Q s new e q h = stands-map (in_place_of new) (in_place_of-names new) (λ c named p. subst Q (sym (placed_same new c (named ∙ sym e))) q) h

module _ (name : Bytes) (P : Consumer → Type 0) (k : IsKept P) where
  pub after_ack-kept : (now : ℕ) (reply : Option Bytes) (n : ℕ) (kind : AckKind) (c : Consumer) → P c → P (after_ack now reply n kind c)
  after_ack-kept now reply n kind c h = go (next_ask kind)
    where
      go : (ask : Option Ask) → P (pulled_next now reply ask (acknowledged now n kind c))
      go None = k.acknowledged now n kind c h
      go (Some ask) = k.pulled now reply (Some ask) _ (k.acknowledged now n kind c h)

  in_only : (s : Stream) (messages : List Message) → InStream name P s → InStream name P (only s messages)
  in_only s messages h = stands-map (confined (seqs messages)) (confined-names (seqs messages)) (λ c e. k.confined (seqs messages) c) h

  pub in_time : (s : Stream) (now : ℕ) → InStream name P s → InStream name P (advance s now)
  unfolding advance
  in_time s now h = stands-map (consumer_at (max s.moment now)) (time-names (max s.moment now)) (λ c e. k.time (max s.moment now) c) (in_only s (young s (max s.moment now)) h)

  -- a change of the consumer that was found keeps P if it keeps P of that one
  in_change : (s : Stream) (other : Bytes) (c new : Consumer) → by_name s.consumers other ≡ Some c → new.name ≡ c.name → (P c → P new) → InStream name P s → InStream name P (with_consumer s new)
  in_change s other c new e n f h = in_with name P P s new own (λ d q p. p) h
    where
      own : new.name ≡ name → P new
      own q = f (stands-found h (subst (λ (m : Bytes). by_name s.consumers m ≡ Some c) (sym (found_named s.consumers other c e) ∙ sym n ∙ q) e))

  in_stored : (s : Stream) (p : Publish) → InStream name P s → InStream name P (with_message s p)
  in_stored s p h = go p.wants.id
    where
      go : (id : Bytes) → InStream name P (with_id (record s { messages = s.messages ++ message_of s p ∷ []; last = s.last + 1 }) id)
      go [] = h
      go (byte ∷ more) = h

  pub in_stream_fact : IsStreamFact (λ w. drops name w ≡ false) ⊥ (InStream name P)
  in_stream_fact = record {
    change = record {
      gone = λ s reply g h. absurd (true≢false g);
      only = λ s messages part h. in_only s messages h;
      configured = λ s reply config g h. h;
      stored = λ s p room g e h. in_stored s p h;
      made = λ s reply other config g e r h. stands-with_new (new_consumer s other config) e h;
      removed = λ s reply other c g e h. stands-without c.name (rw (found_named s.consumers other c e) g) h;
      acked = λ s reply ack c g e q h. in_change s ack.consumer c _ e (after_ack-name s.moment reply ack.seq ack.kind c) (after_ack-kept s.moment reply ack.seq ack.kind c) h;
      pulled = λ s reply other ask c g e h. in_change s other c _ e (pulled-name s.moment reply ask c) (k.pulled s.moment reply ask c) h;
    };
    empty = λ i now reply config g h. absurd h;
    time = in_time;
  }

  pub in_kept : (s : Stream) → InStream name P s → InStream name P (kept s)
  in_kept s h = at_kept (λ w. drops name w ≡ false) ⊥ (InStream name P) in_stream_fact s h

  pub in_event : (old new : State) (e : Event) (now : ℕ) (reply : Reply) (outs : List Out) → IsEvent old e now reply outs new → drops name e.what ≡ false → InState name P old → InState name P new
  in_event old new e now reply outs x g h = at_event (λ w. drops name w ≡ false) ⊥ (InStream name P) in_stream_fact old new e now reply outs x g h

  -- an event on a stream with such a consumer at the event's moment
  pub in_at_time : (s : Stream) (new : State) (e : Event) (now : ℕ) (reply : Reply) (outs : List Out) → IsEvent (Live s) e now reply outs new → drops name e.what ≡ false → InStream name P (advance s now) → InState name P new
  in_at_time s new e now reply outs x g h = at_time (λ w. drops name w ≡ false) ⊥ (InStream name P) in_stream_fact s new e now reply outs x g h

-- ---- deliveries

pub after_name : (a : Stream) (listening : List Bytes) (c after : Consumer) (d : Delivered) (outs : List Out) → Delivers a listening c d outs after → after.name ≡ c.name
after_name a listening c after (Sent seq count dseq) outs x = ap (λ (z : Consumer). z.name) x.after_is
after_name a listening c after TooSmall outs x = ap (λ (z : Consumer). z.name) x.after_is
after_name a listening c after Emptied outs x = ap (λ (z : Consumer). z.name) x.after_is

module _ (name : Bytes) (P Q : Consumer → Type 0) (k : IsKept P) (l : IsKept Q) where
  -- the consumer that is delivered to, if it has the name
  pub its : (s : Stream) (now : ℕ) (listening : List Bytes) (d : Delivery) (outs : List Out) (new : State) (x : IsDelivery s now listening d outs new) → d.consumer ≡ name → InStream name P s → P x.consumer
  its s now listening d outs new x e h = stands-found (in_time name P k s now h) (subst (λ (m : Bytes). by_name (advance s now).consumers m ≡ Some x.consumer) e x.found)

  -- a delivery: to this consumer, or to another one
  pub in_delivery : (s : Stream) (now : ℕ) (listening : List Bytes) (d : Delivery) (outs : List Out) (new : State) (x : IsDelivery s now listening d outs new)
      → (d.consumer ≡ name → P x.consumer → Q x.after) → (same d.consumer name ≡ false → (c : Consumer) → P c → Q c)
      → InStream name P s → InState name Q new
  in_delivery s now listening d outs new x own other h =
      subst (InState name Q) (sym x.new_is) (in_kept name Q l _ (put (same d.consumer name) refl))
    where
      delivered : x.after.name ≡ d.consumer
      delivered = after_name (advance s now) listening x.consumer x.after d.what x.own x.delivers ∙ found_named (advance s now).consumers d.consumer x.consumer x.found

      -- the consumer of the name is the one that was delivered to, or stays
      put : (b : Bool) → same d.consumer name ≡ b → InStream name Q (with_consumer (advance s now) x.after)
      put true e = stands-map (in_place_of x.after) (in_place_of-names x.after) (λ c named p. subst Q (sym (placed_same x.after c (named ∙ sym (same_is d.consumer name e) ∙ sym delivered))) (own (same_is d.consumer name e) (its s now listening d outs new x (same_is d.consumer name e) h))) (in_time name P k s now h)
      put false e = in_with name P Q (advance s now) x.after (λ q. absurd (true≢false (sym (self (sym delivered ∙ q)) ∙ e))) (λ c q p. other e c p) (in_time name P k s now h)
        where
          self : d.consumer ≡ name → same d.consumer name ≡ true
          self q = subst (λ (n : Bytes). same d.consumer n ≡ true) q (same_self d.consumer)
