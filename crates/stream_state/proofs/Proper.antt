-- The consumers of a stream go on having names and configurations that readers give, and no more of them than there may be.
use Rattle.std.proofs.Common.{◌≡◌, ℕ, ◌+◌, ◌<◌, ◌≤◌, Bool, true, false, cond, List, [], ◌∷◌, Option, Some, None, IsTrue, get_or, length, map, refl, sym, ap, subst, ◌∙◌, arith, inl, inr}
use Rattle.std.specs.Prelude.{◌⊎◌, All, filter, slice_get}
use Rattle.std.proofs.lemmas.List.{length-map}
use Rattle.std.proofs.lemmas.List.Elements.{All-cons, All-filter, All-get_or, All-head, All-map, All-nil, All-tail, All-weaker}
use Rattle.std.proofs.lemmas.Option.{slice_get_cases}
use Rattle.js_base.specs.Bytes.{Bytes, same}
use Rattle.js_model.specs.declared.ack.Ask.{Ask}
use Rattle.js_model.specs.declared.ack.AckKind.{AckKind}
use Rattle.js_model.specs.declared.ack.AckKind.TheVariants.{Ack as Acknowledge, Nak, Wpi, Next, Term}
use Rattle.js_model.specs.declared.consumer.Consumer.{Consumer}
use Rattle.js_model.specs.declared.consumer_config.ConsumerConfig.{ConsumerConfig}
use Rattle.js_model.specs.declared.entry.Delivered.{Delivered}
use Rattle.js_model.specs.declared.entry.Delivered.TheVariants.{Sent, TooSmall, Emptied}
use Rattle.js_model.specs.declared.event.Publish.{Publish}
use Rattle.js_model.specs.declared.stream.Message.{Message}
use Rattle.js_model.specs.declared.stream.Stream.{Stream}
use Rattle.js_model.specs.Acknowledge.{acknowledged, is_no_delivery}
use Rattle.js_model.specs.Advance.{consumer_at}
use Rattle.js_model.specs.Configs.{is_consumer_config, is_name}
use Rattle.js_model.specs.Consumers.{is_before, with_new}
use Rattle.js_model.specs.Deliver.{Delivers}
use Rattle.js_model.specs.Events.{after_ack, next_ask, pulled_next, with_message}
use Rattle.js_model.specs.Pulls.{pull_refusal, pulled, pulled_unless}
use Rattle.js_model.specs.Retention.{is_kept, kept}
use Rattle.js_model.specs.Streams.{confined, in_place_of, only, seqs}
use Rattle.js_model.specs.Trim.{trim}
use Rattle.js_model.proofs.Named.{none_some, some_is}
use Rattle.js_base.specs.declared.out.Out.{Out}
use Rattle.retention.proofs.Dropping.{trim_only}
use Rattle.stored_stream.proofs.Sounding.{with_message_is}
use Rattle.followed_stream.specs.Asked.{acked}
use Rattle.stream_state.specs.Settled.{AreProper, IsProperConsumer}

-- a consumer with the name and the configuration of another
pub record IsKin (new old : Consumer) : Type 0 where
  pub name : new.name ≡ old.name
  pub config : new.config ≡ old.config

proper_kin : (new old : Consumer) → IsKin new old → IsProperConsumer old → IsProperConsumer new
proper_kin new old kin h = record {
  name = subst (λ (n : Bytes). IsTrue (is_name n)) (sym kin.name) h.name;
  config = subst (λ (k : ConsumerConfig). IsTrue (is_consumer_config k)) (sym kin.config) h.config;
}

-- ---- all at once

proper_map : (f : Consumer → Consumer) → ((c : Consumer) → IsProperConsumer c → IsProperConsumer (f c)) → (cs : List Consumer) → AreProper cs → AreProper (map f cs)
proper_map f k cs h = record {
  few = subst (λ (n : ℕ). n ≤ 256) (sym (length-map cs f)) h.few;
  each = All-map IsProperConsumer f cs (All-weaker IsProperConsumer (λ (c : Consumer). IsProperConsumer (f c)) k cs h.each);
}

pub proper_only : (s : Stream) (ms : List Message) → AreProper s.consumers → AreProper (only s ms).consumers
proper_only s ms h = proper_map (confined (seqs ms)) (λ c p. proper_kin (confined (seqs ms) c) c (record { name = refl; config = refl }) p) s.consumers h

pub proper_trim : (s : Stream) → AreProper s.consumers → AreProper (trim s).consumers
proper_trim s h = subst (λ (x : Stream). AreProper x.consumers) (sym (trim_only s)) (proper_only s _ h)

pub proper_kept : (s : Stream) → AreProper s.consumers → AreProper (kept s).consumers
unfolding kept
proper_kept s h = proper_only s (filter (is_kept s.config.retention s.consumers) s.messages) h

pub proper_message : (s : Stream) (p : Publish) → AreProper s.consumers → AreProper (with_message s p).consumers
proper_message s p h = subst (λ (x : Stream). AreProper x.consumers) (sym (with_message_is s p)) h

pub proper_at : (now : ℕ) (cs : List Consumer) → AreProper cs → AreProper (map (consumer_at now) cs)
proper_at now cs h = proper_map (consumer_at now) (λ c p. proper_kin (consumer_at now c) c (record { name = refl; config = refl }) p) cs h

-- ---- one of them

got : (cs : List Consumer) (place : ℕ) (c : Consumer) → slice_get cs place ≡ Some c → All IsProperConsumer cs → IsProperConsumer c
got cs place c e h = go (slice_get_cases cs place).1
  where
    go : ((d : Consumer) × (place < length cs) × (slice_get cs place ≡ Some d) × (get_or cs place d ≡ d)) ⊎ ((length cs ≤ place) × (slice_get cs place ≡ None)) → IsProperConsumer c
    go (inl (d, l, f, o)) = subst IsProperConsumer (o ∙ some_is (sym f ∙ e)) (All-get_or IsProperConsumer cs place d l h)
    go (inr (l, f)) = absurd (none_some (sym f ∙ e))

pub proper_with : (cs : List Consumer) (place : ℕ) (new old : Consumer) → slice_get cs place ≡ Some old → IsKin new old → AreProper cs → AreProper (map (in_place_of new) cs)
proper_with cs place new old e kin h = proper_map (in_place_of new) (λ c p. either (same c.name new.name) c p) cs h
  where
    either : (b : Bool) (c : Consumer) → IsProperConsumer c → IsProperConsumer (cond b new c)
    either true c p = proper_kin new old kin (got cs place old e h.each)
    either false c p = p

pub proper_without : (cs : List Consumer) (test : Consumer → Bool) → AreProper cs → AreProper (filter test cs)
proper_without cs test h = record { few = let l : length (filter test cs) ≤ length cs = shorter cs in omega (arith, l, h.few); each = All-filter test IsProperConsumer cs h.each }
  where
    shorter : (ds : List Consumer) → length (filter test ds) ≤ length ds
    shorter [] = omega arith
    shorter (d ∷ ds) = go (test d) (shorter ds)
      where
        go : (b : Bool) → length (filter test ds) ≤ length ds → length (cond b (d ∷ filter test ds) (filter test ds)) ≤ length (d ∷ ds)
        go true l = omega (arith, l)
        go false l = omega (arith, l)

pub proper_new : (cs : List Consumer) (new : Consumer) → length cs < 256 → IsProperConsumer new → AreProper cs → AreProper (with_new cs new)
proper_new cs new room p h = record { few = let l : length (with_new cs new) ≡ length cs + 1 = longer cs in omega (arith, l, room); each = each cs h.each }
  where
    longer : (ds : List Consumer) → length (with_new ds new) ≡ length ds + 1
    longer [] = omega arith
    longer (d ∷ ds) = go (is_before d.name new.name) (longer ds)
      where
        go : (b : Bool) → length (with_new ds new) ≡ length ds + 1 → length (cond b (d ∷ with_new ds new) (new ∷ d ∷ ds)) ≡ length (d ∷ ds) + 1
        go true l = omega (arith, l)
        go false l = omega arith

    each : (ds : List Consumer) → All IsProperConsumer ds → All IsProperConsumer (with_new ds new)
    each [] k = All-cons IsProperConsumer new [] p k
    each (d ∷ ds) k = go (is_before d.name new.name) (each ds (All-tail IsProperConsumer d ds k))
      where
        go : (b : Bool) → All IsProperConsumer (with_new ds new) → All IsProperConsumer (cond b (d ∷ with_new ds new) (new ∷ d ∷ ds))
        go true rest = All-cons IsProperConsumer d (with_new ds new) (All-head IsProperConsumer d ds k) rest
        go false rest = All-cons IsProperConsumer new (d ∷ ds) p k

pub proper_none : AreProper []
proper_none = record { few = omega arith; each = All-nil IsProperConsumer }

-- ---- what is asked of it

pub pulled_kin : (now : ℕ) (reply : Option Bytes) (ask : Option Ask) (c : Consumer) → IsKin (pulled now reply ask c) c
pulled_kin now None ask c = record { name = refl; config = refl }
pulled_kin now (Some reply) ask c = go (pull_refusal c ask) ask
  where
    go : (block : Option Bytes) (a : Option Ask) → IsKin (pulled_unless block now reply a c) c
    go None None = record { name = refl; config = refl }
    go None (Some a) = record { name = refl; config = refl }
    go (Some block) a = record { name = refl; config = refl }

acknowledged_kin : (now n : ℕ) (kind : AckKind) (c : Consumer) → IsKin (acknowledged now n kind c) c
acknowledged_kin now n Acknowledge c = record { name = refl; config = refl }
acknowledged_kin now n (Nak delay) c = record { name = refl; config = refl }
acknowledged_kin now n Wpi c = record { name = refl; config = refl }
acknowledged_kin now n (Next ask) c = record { name = refl; config = refl }
acknowledged_kin now n Term c = record { name = refl; config = refl }

after_ack_kin : (now : ℕ) (reply : Option Bytes) (n : ℕ) (kind : AckKind) (c : Consumer) → IsKin (after_ack now reply n kind c) c
after_ack_kin now reply n kind c = go (next_ask kind)
  where
    first : IsKin (acknowledged now n kind c) c
    first = acknowledged_kin now n kind c

    go : (ask : Option Ask) → IsKin (pulled_next now reply ask (acknowledged now n kind c)) c
    go None = first
    go (Some ask) = let second : IsKin (pulled now reply (Some ask) (acknowledged now n kind c)) (acknowledged now n kind c) = pulled_kin now reply (Some ask) (acknowledged now n kind c) in record { name = second.name ∙ first.name; config = second.config ∙ first.config }

pub acked_kin : (now : ℕ) (reply : Option Bytes) (n : ℕ) (kind : AckKind) (c : Consumer) → IsKin (acked now reply n kind c) c
acked_kin now reply n kind c = go (is_no_delivery c n)
  where
    go : (b : Bool) → IsKin (cond b c (after_ack now reply n kind c)) c
    go true = record { name = refl; config = refl }
    go false = after_ack_kin now reply n kind c

pub delivered_kin : (a : Stream) (listening : List Bytes) (c : Consumer) (what : Delivered) (outs : List Out) (after : Consumer) → Delivers a listening c what outs after → IsKin after c
delivered_kin a listening c (Sent seq count dseq) outs after h = record { name = ap (λ (x : Consumer). x.name) h.after_is; config = ap (λ (x : Consumer). x.config) h.after_is }
delivered_kin a listening c TooSmall outs after h = record { name = ap (λ (x : Consumer). x.name) h.after_is; config = ap (λ (x : Consumer). x.config) h.after_is }
delivered_kin a listening c Emptied outs after h = record { name = ap (λ (x : Consumer). x.name) h.after_is; config = ap (λ (x : Consumer). x.config) h.after_is }
