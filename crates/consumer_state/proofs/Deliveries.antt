-- What was done is a delivery.
use Rattle.std.proofs.Common.{◌≡◌, ℕ, ◌+◌, Bool, true, false, not, cond, List, [], ◌∷◌, ◌++◌, refl, sym, ap, ◌∙◌, subst}
use Rattle.std.specs.Prelude.{Option, Some, None, Contains, find, is_some}
use Rattle.std.proofs.lemmas.Bool.{true≢false}
use Rattle.js_base.specs.Bytes.{Bytes, is_empty}
use Rattle.js_base.specs.declared.out.Out.{Out}
use Rattle.js_model.specs.declared.stream.Message.{Message}
use Rattle.js_model.specs.declared.stream.Stream.{Stream}
use Rattle.js_model.specs.declared.consumer.Consumer.{Consumer}
use Rattle.js_model.specs.declared.consumer.Pull.{Pull}
use Rattle.js_model.specs.declared.entry.Delivered.{Delivered}
use Rattle.js_model.specs.declared.entry.Delivered.TheVariants.{Sent, TooSmall as EndedSmall, Emptied}
use Rattle.js_model.specs.Counts.{pending_count}
use Rattle.js_model.specs.Deliver.{address, candidates, count_of, delivery_out, fits, front_allows, is_listened, is_wanted, sent_to, without_first}
use Rattle.js_model.specs.Ready.{is_ready_with}
use Rattle.js_model.specs.Streams.{is_push, sent_size}
use Rattle.js_model.proofs.Members.{IsIn, in_from_contains}
use Rattle.consumer_texts.specs.Deliveries.{delivery_of}
use Rattle.consumer_state.specs.declared.delivering.Demand.{Demand}
use Rattle.consumer_state.specs.declared.delivering.Demand.TheVariants.{Asked, TooSmall, Nobody}
use Rattle.consumer_state.specs.Delivering.{demand_of, front_demand, left_after, EndsNoWait, EndsSmall, IsHeard, IsMade, IsReady, SendsOut}
use Rattle.consumer_state.proofs.Offers.{any_no_wait}

-- ---- who asks

abbrev is_asked_for : Demand → Bool
is_asked_for Asked = true
is_asked_for TooSmall = false
is_asked_for Nobody = false

-- there is a pull, or who listens
abbrev pub is_someone : Demand → Bool
is_someone Asked = true
is_someone TooSmall = true
is_someone Nobody = false

abbrev pub is_too_small : Demand → Bool
is_too_small Asked = false
is_too_small TooSmall = true
is_too_small Nobody = false

front_asked : (ps : List Pull) (bytes : ℕ) → is_asked_for (front_demand ps bytes) ≡ front_allows ps bytes
front_asked [] bytes = refl
front_asked (p ∷ ps) bytes = go (fits bytes p.bytes)
  where
    go : (b : Bool) → is_asked_for (cond b Asked TooSmall) ≡ b
    go true = refl
    go false = refl

front_someone : (ps : List Pull) (bytes : ℕ) → is_someone (front_demand ps bytes) ≡ not (is_empty ps)
front_someone [] bytes = refl
front_someone (p ∷ ps) bytes = go (fits bytes p.bytes)
  where
    go : (b : Bool) → is_someone (cond b Asked TooSmall) ≡ true
    go true = refl
    go false = refl

front_small : (p : Pull) (ps : List Pull) (bytes : ℕ) → is_too_small (front_demand (p ∷ ps) bytes) ≡ not (fits bytes p.bytes)
front_small p ps bytes = go (fits bytes p.bytes)
  where
    go : (b : Bool) → is_too_small (cond b Asked TooSmall) ≡ not b
    go true = refl
    go false = refl

asked_is : (listened : Bool) → is_asked_for (cond listened Asked Nobody) ≡ listened
asked_is true = refl
asked_is false = refl

someone_is : (listened : Bool) → is_someone (cond listened Asked Nobody) ≡ listened
someone_is true = refl
someone_is false = refl

never_small : (listened : Bool) → is_too_small (cond listened Asked Nobody) ≡ false
never_small true = refl
never_small false = refl

not_false : (b : Bool) → not b ≡ true → b ≡ false
not_false true e = sym e
not_false false e = refl

module _ (listened : Bool) (c : Consumer) (bytes : ℕ) where
  wanted_is : (listening : List Bytes) → IsHeard listening c listened → is_asked_for (demand_of listened c bytes) ≡ is_wanted listening c bytes
  wanted_is listening heard = go (is_push c)
    where
      go : (b : Bool) → is_asked_for (cond b (cond listened Asked Nobody) (front_demand c.waiting bytes)) ≡ cond b (is_listened listening c) (front_allows c.waiting bytes)
      go true = asked_is listened ∙ sym heard
      go false = front_asked c.waiting bytes

  pub allows_is : demand_of listened c bytes ≡ Asked → is_push c ≡ false → front_allows c.waiting bytes ≡ true
  allows_is e f = sym (front_asked c.waiting bytes) ∙ ap (λ b. is_asked_for (cond b (cond listened Asked Nobody) (front_demand c.waiting bytes))) (sym f) ∙ ap is_asked_for e

  small_pulls : demand_of listened c bytes ≡ TooSmall → is_push c ≡ false
  small_pulls e = go (is_push c) refl
    where
      go : (b : Bool) → is_push c ≡ b → is_push c ≡ false
      go true k = absurd (true≢false (sym (sym (never_small listened) ∙ ap (λ b. is_too_small (cond b (cond listened Asked Nobody) (front_demand c.waiting bytes))) (sym k) ∙ ap is_too_small e)))
      go false k = k

  pub small_front : demand_of listened c bytes ≡ TooSmall → front_demand c.waiting bytes ≡ TooSmall
  small_front e = ap (λ b. cond b (cond listened Asked Nobody) (front_demand c.waiting bytes)) (sym (small_pulls e)) ∙ e

  pub ready_by_demand : (a : Stream) (m : Message) (d : Demand) → Contains (candidates a c) m → demand_of listened c bytes ≡ d → IsReady a listened c (is_someone d)
  ready_by_demand a m d h e listening heard = sym (ap is_someone e) ∙ with_candidates (candidates a c) (in_from_contains (candidates a c) m h)
    where
      go : (b : Bool) → is_someone (cond b (cond listened Asked Nobody) (front_demand c.waiting bytes)) ≡ cond b (is_listened listening c) (not (is_empty c.waiting))
      go true = someone_is listened ∙ sym heard
      go false = front_someone c.waiting bytes

      with_candidates : (ms : List Message) → IsIn m ms → is_someone (demand_of listened c bytes) ≡ is_ready_with ms listening c
      with_candidates [] i = elim i [ ]
      with_candidates (x ∷ xs) i = go (is_push c)

-- ---- the cases

pub sent_made : (a : Stream) (listened : Bool) (m : Message) (undelivered : ℕ) (old : Consumer) (what : Delivered) (outs_old outs_new : List Out) (new : Consumer) → Contains (candidates a old) m
    → demand_of listened old (sent_size m) ≡ Asked → pending_count a (sent_to a.moment m old) ≡ left_after old m undelivered
    → SendsOut a.config.name a.moment m undelivered old what outs_old outs_new new → IsMade a listened (Some m) undelivered old what outs_old outs_new new
sent_made a listened m undelivered old what outs_old outs_new new candidate asked left w =
    subst (λ z. IsMade a listened (Some m) undelivered old z outs_old outs_new new) (sym w.what_is) (subst (λ z. IsMade a listened (Some m) undelivered old sent outs_old outs_new z) (sym w.after_is) made)
  where
    sent : Delivered
    sent = Sent m.seq (count_of old m.seq + 1) (old.dseq + 1)

    after : Consumer
    after = sent_to a.moment m old

    made : IsMade a listened (Some m) undelivered old (Sent m.seq (count_of old m.seq + 1) (old.dseq + 1)) outs_old outs_new (sent_to a.moment m old)
    made = record {
      own = delivery_out a old (sent_to a.moment m old) m (count_of old m.seq + 1) ∷ [];
      outs_are =
          w.outs_are
          ∙ ap (λ n. outs_old ++ delivery_of (record { stream = a.config.name; consumer = old.name; count = count_of old m.seq + 1; dseq = old.dseq + 1; left = n }) (address old) m ∷ []) (sym left);
      delivers = λ listening heard. record {
        message = m;
        candidate = candidate;
        seq_is = refl;
        wanted = sym (wanted_is listened old (sent_size m) listening heard) ∙ ap is_asked_for asked;
        count_is = refl;
        dseq_is = refl;
        after_is = refl;
        outs_are = refl;
      };
      message_is = refl;
      left = left;
    }

pub small_made : (a : Stream) (listened : Bool) (m : Message) (undelivered : ℕ) (old : Consumer) (what : Delivered) (outs_old outs_new : List Out) (new : Consumer) → Contains (candidates a old) m
    → demand_of listened old (sent_size m) ≡ TooSmall → undelivered ≡ pending_count a old → EndsSmall old what outs_old outs_new new → IsMade a listened (Some m) undelivered old what outs_old outs_new new
small_made a listened m undelivered old what outs_old outs_new new candidate demand count w =
    subst (λ z. IsMade a listened (Some m) undelivered old z outs_old outs_new new) (sym w.what_is) (subst (λ z. IsMade a listened (Some m) undelivered old EndedSmall outs_old outs_new z) (sym w.after_is) made)
  where
    front : front_demand old.waiting (sent_size m) ≡ TooSmall
    front = small_front listened old (sent_size m) demand

    made : IsMade a listened (Some m) undelivered old EndedSmall outs_old outs_new (record old { waiting = w.rest })
    made = record {
      own = _;
      outs_are = w.outs_are;
      delivers = λ listening heard. record {
        message = m;
        front = w.front;
        rest = w.rest;
        candidate = candidate;
        pull = small_pulls listened old (sent_size m) demand;
        waiting_is = w.waiting_is;
        small = not_false (fits (sent_size m) w.front.bytes) (sym (front_small w.front w.rest (sent_size m)) ∙ ap (λ ps. is_too_small (front_demand ps (sent_size m))) (sym w.waiting_is) ∙ ap is_too_small front);
        after_is = refl;
        outs_are = refl;
      };
      message_is = tt;
      left = sym count;
    }

pub no_wait_made : (a : Stream) (listened : Bool) (undelivered : ℕ) (old : Consumer) (what : Delivered) (outs_old outs_new : List Out) (new : Consumer) → candidates a old ≡ [] → undelivered ≡ pending_count a old
    → EndsNoWait old what outs_old outs_new new → IsMade a listened None undelivered old what outs_old outs_new new
no_wait_made a listened undelivered old what outs_old outs_new new none count w =
    subst (λ z. IsMade a listened None undelivered old z outs_old outs_new new) (sym w.what_is) (subst (λ z. IsMade a listened None undelivered old Emptied outs_old outs_new z) (sym w.after_is) made)
  where
    made : IsMade a listened None undelivered old Emptied outs_old outs_new (record old { waiting = without_first (λ p. p.no_wait) old.waiting })
    made = record {
      own = _;
      outs_are = w.outs_are;
      delivers = λ listening heard. record { pull = w.pull; none = none; first = w.first; after_is = refl; outs_are = refl };
      message_is = tt;
      left = sym count;
    }

-- a pull that does not wait ends exactly if there is one
pub ready_by_no_wait : (a : Stream) (listened : Bool) (c : Consumer) (o : Option Pull) → candidates a c ≡ [] → find (λ p. p.no_wait) c.waiting ≡ o → IsReady a listened c (is_some o)
ready_by_no_wait a listened c o none e listening heard = sym (ap is_some e) ∙ any_no_wait c.waiting ∙ sym (ap (λ ms. is_ready_with ms listening c) none)
