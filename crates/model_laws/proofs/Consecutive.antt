-- The consumer sequences of a consumer follow one after the other.
use Rattle.std.proofs.Common.{◌≡◌, ℕ, ◌+◌, Bool, true, false, cond, List, [], ◌∷◌, ◌++◌, length, refl, sym, ap, ◌∙◌, subst}
use Rattle.std.specs.Prelude.{Option, Some, None}
use Rattle.std.specs.List.{last_or}
use Rattle.std.proofs.lemmas.Bool.{true≢false}
use Rattle.js_base.specs.Bytes.{Bytes, same}
use Rattle.js_base.specs.declared.out.Out.{Out}
use Rattle.js_model.specs.declared.stream.Stream.{Stream}
use Rattle.js_model.specs.declared.stream.State.{State}
use Rattle.js_model.specs.declared.stream.State.TheVariants.{Vacant, Live}
use Rattle.js_model.specs.declared.consumer.Consumer.{Consumer}
use Rattle.js_model.specs.declared.ack.Ask.{Ask}
use Rattle.js_model.specs.declared.entry.Delivered.{Delivered}
use Rattle.js_model.specs.declared.entry.Delivered.TheVariants.{Sent, TooSmall, Emptied}
use Rattle.js_model.specs.declared.entry.Delivery.{Delivery}
use Rattle.js_model.specs.declared.entry.PlaceEntry.{PlaceEntry}
use Rattle.js_model.specs.declared.entry.PlaceEntry.TheVariants.{Step, Deliver, Broken}
use Rattle.js_model.specs.declared.entry.Call.TheVariants.{Step as StepOf, Deliver as DeliverOf}
use Rattle.js_model.specs.Advance.{advance}
use Rattle.js_model.specs.Pulls.{pulled, pulled_unless, pull_refusal}
use Rattle.js_model.specs.Deliver.{Delivers, IsDelivery, IsDelivered}
use Rattle.js_model.specs.Runs.{RunFrom, new_messages}
use Rattle.model_laws.specs.OneConsumer.{drops}
use Rattle.model_laws.specs.Sendings.{Sending, sending_of, sending_to, sendings}
use Rattle.model_laws.specs.Order.{Follow}
use Rattle.js_model.proofs.Named.{same_is, same_self}
use Rattle.model_laws.proofs.ConsumerFacts.{IsKept, InStream, InState, in_event, in_delivery, its, acknowledged_entries}

dseq_pulled : (now : ℕ) (reply : Option Bytes) (ask : Option Ask) (c : Consumer) → (pulled now reply ask c).dseq ≡ c.dseq
dseq_pulled now None ask c = refl
dseq_pulled now (Some reply) ask c = go ask (pull_refusal c ask)
  where
    go : (ask : Option Ask) (block : Option Bytes) → (pulled_unless block now reply ask c).dseq ≡ c.dseq
    go None None = refl
    go (Some ask) None = refl
    go ask (Some block) = refl

abbrev pub HasDseq : ℕ → Consumer → Type 0
HasDseq d c = c.dseq ≡ d

pub dseq_kept : (d : ℕ) → IsKept (HasDseq d)
dseq_kept d = record {
  confined = λ ns c h. h;
  time = λ now c h. h;
  acknowledged = λ now n kind c h. ap (λ (d : Consumer). d.dseq) (acknowledged_entries now n kind c).rest ∙ h;
  pulled = λ now reply ask c h. dseq_pulled now reply ask c ∙ h;
}

-- what is left to be sent, after this delivery
module _ (name : Bytes) (more : List Sending) where
  own_case : (d : ℕ) (a : Stream) (listening : List Bytes) (c after : Consumer) (what : Delivered) (outs : List Out) → Delivers a listening c what outs after → c.dseq ≡ d
      → (after.dseq ≡ d → Follow d more) → (after.dseq ≡ d + 1 → Follow (d + 1) more) → Follow d (sending_of what ++ more)
  own_case d a listening c after (Sent seq count dseq) outs x h same_d next_d = (x.dseq_is ∙ ap (λ n. n + 1) h, next_d (ap (λ (z : Consumer). z.dseq) x.after_is ∙ ap (λ n. n + 1) h))
  own_case d a listening c after TooSmall outs x h same_d next_d = same_d (ap (λ (z : Consumer). z.dseq) x.after_is ∙ h)
  own_case d a listening c after Emptied outs x h same_d next_d = same_d (ap (λ (z : Consumer). z.dseq) x.after_is ∙ h)

  delivery_case : (d : ℕ) (s : Stream) (new : State) (now : ℕ) (listening : List Bytes) (v : Delivery) (outs : List Out) → IsDelivery s now listening v outs new → InStream name (HasDseq d) s
      → ((k : ℕ) → InState name (HasDseq k) new → Follow k more) → Follow d (sending_to name v ++ more)
  delivery_case d s new now listening v outs x h f = go (same v.consumer name) refl
    where
      after_it : (k : ℕ) → (same v.consumer name ≡ true) → x.after.dseq ≡ k → Follow k more
      after_it k e q = f k (in_delivery name (HasDseq d) (HasDseq k) (dseq_kept d) (dseq_kept k) s now listening v outs new x (λ n p. q) (λ g c p. absurd (true≢false (sym e ∙ g))) h)

      go : (b : Bool) → same v.consumer name ≡ b → Follow d (cond b (sending_of v.what) [] ++ more)
      go true e = own_case d (advance s now) listening x.consumer x.after v.what x.own x.delivers (its name (HasDseq d) (HasDseq d) (dseq_kept d) (dseq_kept d) s now listening v outs new x (same_is v.consumer name e) h) (after_it d e) (after_it (d + 1) e)
      go false e = f d (in_delivery name (HasDseq d) (HasDseq d) (dseq_kept d) (dseq_kept d) s now listening v outs new x (λ n p. absurd (true≢false (sym (subst (λ (m : Bytes). same v.consumer m ≡ true) n (same_self v.consumer)) ∙ e))) (λ g c p. p) h)

-- the state after a delivery
delivered_case : (name : Bytes) (more : List Sending) (d : ℕ) (old new : State) (now : ℕ) (listening : List Bytes) (v : Delivery) (outs : List Out) → IsDelivered old now listening v outs new → InState name (HasDseq d) old
    → ((k : ℕ) → InState name (HasDseq k) new → Follow k more) → Follow d (sending_to name v ++ more)
delivered_case name more d (Vacant i) new now listening v outs x h f = absurd h
delivered_case name more d (Live s) new now listening v outs x h f = delivery_case name more d s new now listening v outs x h f

pub last_push : {X : Type 0} (o : Option X) (xs : List X) (x : X) → last_or o (xs ++ x ∷ []) ≡ Some x
last_push o [] x = refl
last_push o (y ∷ ys) x = last_push (Some y) ys x

pub append_nil : {X : Type 0} (xs : List X) → xs ++ [] ≡ xs
append_nil [] = refl
append_nil (x ∷ xs) = ap (λ l. x ∷ l) (append_nil xs)

pub follow : (name : Bytes) (d count : ℕ) (old : State) (entries : List PlaceEntry) (new : State) → InState name (HasDseq d) old → RunFrom count old entries new → Follow d (sendings name entries)
follow name d count old [] new h r = tt
follow name d count old (Step seat e now reply outs unsaid ∷ entries) new h (mid, x, rest) =
    unless_dropped (drops name e.what) refl (λ g. follow name d (count + length (new_messages old mid)) mid entries new (in_event name (HasDseq d) (dseq_kept d) old mid e now reply outs x.event g h) rest)
  where
    unless_dropped : (b : Bool) → drops name e.what ≡ b → (drops name e.what ≡ false → Follow d (sendings name entries)) → Follow d (cond b [] (sendings name entries))
    unless_dropped true q f = tt
    unless_dropped false q f = f q
follow name d count old (Deliver seat now listening v outs ∷ entries) new h (mid, x, rest) =
    delivered_case name (sendings name entries) d old mid now listening v outs x.delivered h (λ k q. follow name k (count + length (new_messages old mid)) mid entries new q rest)
follow name d count old (Broken seat now (StepOf e) ∷ entries) new h r = tt
follow name d count old (Broken seat now (DeliverOf listening v) ∷ []) new h (outs, x) =
    subst (Follow d) (append_nil (sending_to name v)) (delivered_case name [] d old new now listening v outs x.delivered h (λ k q. tt))
follow name d count old (Broken seat now (DeliverOf listening v) ∷ entry ∷ entries) new h r = absurd r
