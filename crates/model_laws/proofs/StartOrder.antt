-- The first deliveries of a consumer are picks of its start in order, and then ascending sequences from its cursor on.
use Rattle.std.proofs.Common.{◌≡◌, ℕ, ◌+◌, ◌≤◌, Bool, true, false, not, cond, List, [], ◌∷◌, ◌++◌, map, length, max, refl, sym, ap, ◌∙◌, subst, arith}
use Rattle.std.specs.Prelude.{filter, ◌==◌, ◌&&◌}
use Rattle.std.specs.List.{list_any}
use Rattle.std.proofs.lemmas.Bool.{true≢false, eq-eqb, eqb-true}
use Rattle.js_base.specs.Bytes.{Bytes, same, has}
use Rattle.js_base.specs.declared.out.Out.{Out}
use Rattle.js_model.specs.declared.stream.Message.{Message}
use Rattle.js_model.specs.declared.stream.Stream.{Stream}
use Rattle.js_model.specs.declared.stream.State.{State}
use Rattle.js_model.specs.declared.stream.State.TheVariants.{Vacant, Live}
use Rattle.js_model.specs.declared.consumer.Consumer.{Consumer}
use Rattle.js_model.specs.declared.entry.Delivered.{Delivered}
use Rattle.js_model.specs.declared.entry.Delivered.TheVariants.{Sent, TooSmall, Emptied}
use Rattle.js_model.specs.declared.entry.Delivery.{Delivery}
use Rattle.js_model.specs.declared.entry.PlaceEntry.{PlaceEntry}
use Rattle.js_model.specs.declared.entry.PlaceEntry.TheVariants.{Step, Deliver, Broken}
use Rattle.js_model.specs.declared.entry.Call.TheVariants.{Step as StepOf, Deliver as DeliverOf}
use Rattle.js_model.specs.Lists.{IsPart, none, keep, skip, Ascends}
use Rattle.js_model.specs.Advance.{advance}
use Rattle.js_model.specs.Acknowledge.{acknowledged}
use Rattle.js_model.specs.Pulls.{pulled}
use Rattle.js_model.specs.Deliver.{Delivers, IsDelivery, IsDelivered, count_of, is_due}
use Rattle.js_model.specs.Runs.{RunFrom, new_messages}
use Rattle.model_laws.proofs.Whole.{IsCounted, IsSoundConsumer, IsSoundStream, IsSoundState}
use Rattle.model_laws.specs.OneConsumer.{drops}
use Rattle.model_laws.specs.Sendings.{Sending, sending_of, sending_to, sendings}
use Rattle.model_laws.specs.Order.{IsStartOrder, firsts}
use Rattle.js_model.proofs.Parts.{filter_part, all_part, no_part, part_trans}
use Rattle.js_model.proofs.Named.{same_is, same_self}
use Rattle.js_model.proofs.Members.{find_one, found_in, all_in}
use Rattle.js_model.proofs.Candidates.{IsReason, again, picked, onward, candidate_is}
use Rattle.model_laws.proofs.SoundSent.{count_waiting}
use Rattle.model_laws.proofs.Sounding.{sound_step, sound_delivery, sound_found}
use Rattle.model_laws.proofs.Settled.{picks_pulled}
use Rattle.model_laws.proofs.Consecutive.{append_nil}
use Rattle.model_laws.proofs.ConsumerFacts.{IsKept, InStream, InState, in_event, in_delivery, its, acknowledged_entries}

-- ---- orders

ascends_lower : (low high : ℕ) (ns : List ℕ) → low ≤ high → Ascends high ns → Ascends low ns
ascends_lower low high [] l h = tt
ascends_lower low high (n ∷ ns) l h = (let q : high ≤ n = h.0 in omega arith, h.1)

order_weaker : (ps qs fs : List ℕ) (j k : ℕ) → IsPart ps qs → j ≤ k → IsStartOrder ps k fs → IsStartOrder qs j fs
order_weaker ps qs fs j k p l h = record { picked = h.picked; rising = h.rising; split = h.split; part = part_trans h.part p; ascends = ascends_lower j k h.rising l h.ascends }

order_pick : (n : ℕ) (ps qs fs : List ℕ) (k : ℕ) → IsPart (n ∷ ps) qs → IsStartOrder ps k fs → IsStartOrder qs k (n ∷ fs)
order_pick n ps qs fs k p h = record { picked = n ∷ h.picked; rising = h.rising; split = ap (λ l. n ∷ l) h.split; part = part_trans (keep h.part) p; ascends = h.ascends }

-- a part of nothing is nothing
part_nil : {X : Type 0} (xs : List X) → IsPart xs [] → xs ≡ []
part_nil [] p = refl
part_nil (x ∷ xs) p = elim p [ ]

order_next : (n : ℕ) (qs fs : List ℕ) (k : ℕ) → k ≤ n → IsStartOrder [] (n + 1) fs → IsStartOrder qs k (n ∷ fs)
order_next n qs fs k l h = record {
  picked = [];
  rising = n ∷ h.rising;
  split = ap (λ l. n ∷ l) (h.split ∙ ap (λ (l : List ℕ). l ++ h.rising) (part_nil h.picked h.part));
  part = no_part qs;
  ascends = (l, h.ascends);
}

order_nil : (qs : List ℕ) (k : ℕ) → IsStartOrder qs k []
order_nil qs k = record { picked = []; rising = []; split = refl; part = no_part qs; ascends = tt }

-- ---- a consumer that is still to deliver some of these, or from here on

pub record IsFrom (ps : List ℕ) (k : ℕ) (c : Consumer) : Type 0 where
  pub part : IsPart c.picks ps
  pub cursor : k ≤ c.cursor

from_same : (ps : List ℕ) (k : ℕ) (c d : Consumer) → d.picks ≡ c.picks → d.cursor ≡ c.cursor → IsFrom ps k c → IsFrom ps k d
from_same ps k c d e f h = record { part = subst (λ (l : List ℕ). IsPart l ps) (sym e) h.part; cursor = let q : k ≤ c.cursor = h.cursor in omega arith }

-- a consumer is to deliver its own
pub from_itself : (c : Consumer) → IsFrom c.picks c.cursor c
from_itself c = record { part = all_part c.picks; cursor = omega arith }

pub from_kept : (ps : List ℕ) (k : ℕ) → IsKept (IsFrom ps k)
from_kept ps k = record {
  confined = λ ns c h. record { part = part_trans (filter_part (has ns) c.picks) h.part; cursor = h.cursor };
  time = λ now c h. record { part = h.part; cursor = h.cursor };
  acknowledged = λ now n kind c h. let e = (acknowledged_entries now n kind c).rest in from_same ps k c (acknowledged now n kind c) (ap (λ (d : Consumer). d.picks) e) (ap (λ (d : Consumer). d.cursor) e) h;
  pulled = λ now reply ask c h. let e = picks_pulled now reply ask c in from_same ps k c (pulled now reply ask c) e.0 e.1 h;
}

-- ---- a delivery

-- a sequence that is due again was delivered before
counted_again : (messages : List Message) (last now : ℕ) (c : Consumer) (n : ℕ) → IsSoundConsumer messages last c → list_any (λ p. p.seq == n && is_due now c p) c.pending ≡ true → 1 ≤ count_of c n
counted_again messages last now c n k e =
    let f = find_one (λ p. p.seq) (is_due now c) n 1 c.cursor c.pending k.pending e in
    let counted = all_in (IsCounted c.dseq c.config.max_deliver) c.pending k.counts (found_in (λ p. p.seq == n) f.0 c.pending f.1).0 in
    let q : count_of c n ≡ f.0.count = count_waiting c n f.0 f.1 in let r : 1 ≤ f.0.count = counted.least in omega arith

firsts_cons : (seq count dseq : ℕ) (more : List Sending) (P : List ℕ → Type 0) → (count ≡ 1 → P (seq ∷ firsts more)) → P (firsts more) → P (firsts (record { seq = seq; count = count; dseq = dseq } ∷ more))
firsts_cons seq count dseq more P f g = go (count == 1) refl
  where
    go : (b : Bool) → (count == 1) ≡ b → P (map (λ x. x.seq) (cond b (record { seq = seq; count = count; dseq = dseq } ∷ filter (λ x. x.count == 1) more) (filter (λ x. x.count == 1) more)))
    go true e = f (eqb-true count 1 e)
    go false e = g

-- the first pick is no pick any more
rest_of_picks : (p n : ℕ) (rest : List ℕ) → n ≡ p → IsPart (filter (λ k. not (k == n)) (p ∷ rest)) rest
rest_of_picks p n rest e = subst (λ (b : Bool). IsPart (cond (not b) (p ∷ filter (λ k. not (k == n)) rest) (filter (λ k. not (k == n)) rest)) rest) (sym (eq-eqb p n (sym e))) (filter_part (λ k. not (k == n)) rest)

module _ (name : Bytes) (more : List Sending) where
  own_order : (ps : List ℕ) (k : ℕ) (a : Stream) (listening : List Bytes) (c after : Consumer) (what : Delivered) (outs : List Out) → Delivers a listening c what outs after → IsSoundConsumer a.messages a.last c → IsFrom ps k c
      → ((qs : List ℕ) (j : ℕ) → IsFrom qs j after → IsStartOrder qs j (firsts more)) → IsStartOrder ps k (firsts (sending_of what ++ more))
  own_order ps k a listening c after (Sent seq count dseq) outs x s h f = go (candidate_is a c x.message x.candidate).reason
    where
      m : Message
      m = x.message

      at_seq : IsStartOrder ps k (firsts (record { seq = m.seq; count = count; dseq = dseq } ∷ more)) → IsStartOrder ps k (firsts (record { seq = seq; count = count; dseq = dseq } ∷ more))
      at_seq q = subst (λ (n : ℕ). IsStartOrder ps k (firsts (record { seq = n; count = count; dseq = dseq } ∷ more))) (sym x.seq_is) q

      after_sent : (qs : List ℕ) (j : ℕ) → IsPart (filter (λ n. not (n == m.seq)) c.picks) qs → j ≤ max c.cursor (m.seq + 1) → IsStartOrder qs j (firsts more)
      after_sent qs j p l = f qs j (subst (IsFrom qs j) (sym x.after_is) (record { part = p; cursor = l }))

      low : k ≤ c.cursor
      low = h.cursor

      go : IsReason a c m → IsStartOrder ps k (firsts (record { seq = seq; count = count; dseq = dseq } ∷ more))
      go (again e) =
          at_seq (firsts_cons m.seq count dseq more (IsStartOrder ps k)
          (λ q. absurd (let r : 1 ≤ count_of c m.seq = counted_again a.messages a.last a.moment c m.seq s e in let w : count ≡ count_of c m.seq + 1 = x.count_is in omega arith))
          (after_sent ps k (part_trans (filter_part (λ n. not (n == m.seq)) c.picks) h.part) (omega arith)))
      go (picked p rest e q w) =
          let all : IsPart (p ∷ rest) ps = subst (λ (l : List ℕ). IsPart l ps) e h.part in
          let next : IsStartOrder rest k (firsts more) = after_sent rest k (subst (λ (l : List ℕ). IsPart (filter (λ n. not (n == m.seq)) l) rest) (sym e) (rest_of_picks p m.seq rest q)) (omega arith) in
          at_seq (firsts_cons m.seq count dseq more (IsStartOrder ps k)
          (λ o. order_pick m.seq rest ps (firsts more) k (subst (λ (n : ℕ). IsPart (n ∷ rest) ps) (sym q) all) next)
          (order_weaker rest ps (firsts more) k k (part_trans (skip (all_part rest)) all) (omega arith) next))
      go (onward e t l w) =
          let next : IsStartOrder [] (m.seq + 1) (firsts more) = after_sent [] (m.seq + 1) (subst (λ (l : List ℕ). IsPart (filter (λ n. not (n == m.seq)) l) []) (sym e) none) (omega arith) in
          at_seq (firsts_cons m.seq count dseq more (IsStartOrder ps k)
          (λ o. order_next m.seq ps (firsts more) k (omega arith) next)
          (order_weaker [] ps (firsts more) k (m.seq + 1) (no_part ps) (omega arith) next))
  own_order ps k a listening c after TooSmall outs x s h f = f ps k (subst (IsFrom ps k) (sym x.after_is) (record { part = h.part; cursor = h.cursor }))
  own_order ps k a listening c after Emptied outs x s h f = f ps k (subst (IsFrom ps k) (sym x.after_is) (record { part = h.part; cursor = h.cursor }))

  delivery_order : (ps : List ℕ) (k : ℕ) (s : Stream) (new : State) (now : ℕ) (listening : List Bytes) (v : Delivery) (outs : List Out) → IsDelivery s now listening v outs new → IsSoundStream s → InStream name (IsFrom ps k) s
      → ((qs : List ℕ) (j : ℕ) → InState name (IsFrom qs j) new → IsStartOrder qs j (firsts more)) → IsStartOrder ps k (firsts (sending_to name v ++ more))
  delivery_order ps k s new now listening v outs x sound h f = go (same v.consumer name) refl
    where
      after_it : (same v.consumer name ≡ true) → (qs : List ℕ) (j : ℕ) → IsFrom qs j x.after → IsStartOrder qs j (firsts more)
      after_it e qs j q = f qs j (in_delivery name (IsFrom ps k) (IsFrom qs j) (from_kept ps k) (from_kept qs j) s now listening v outs new x (λ n p. q) (λ g c p. absurd (true≢false (sym e ∙ g))) h)

      go : (b : Bool) → same v.consumer name ≡ b → IsStartOrder ps k (firsts (cond b (sending_of v.what) [] ++ more))
      go true e =
          own_order ps k (advance s now) listening x.consumer x.after v.what x.own x.delivers (sound_found s now listening v outs new x sound)
          (its name (IsFrom ps k) (IsFrom ps k) (from_kept ps k) (from_kept ps k) s now listening v outs new x (same_is v.consumer name e) h) (after_it e)
      go false e = f ps k (in_delivery name (IsFrom ps k) (IsFrom ps k) (from_kept ps k) (from_kept ps k) s now listening v outs new x (λ n p. absurd (true≢false (sym (subst (λ (m : Bytes). same v.consumer m ≡ true) n (same_self v.consumer)) ∙ e))) (λ g c p. p) h)

delivered_order : (name : Bytes) (more : List Sending) (ps : List ℕ) (k : ℕ) (old new : State) (now : ℕ) (listening : List Bytes) (v : Delivery) (outs : List Out) → IsDelivered old now listening v outs new → IsSoundState old → InState name (IsFrom ps k) old
    → ((qs : List ℕ) (j : ℕ) → InState name (IsFrom qs j) new → IsStartOrder qs j (firsts more)) → IsStartOrder ps k (firsts (sending_to name v ++ more))
delivered_order name more ps k (Vacant i) new now listening v outs x s h f = absurd h
delivered_order name more ps k (Live t) new now listening v outs x s h f = delivery_order name more ps k t new now listening v outs x s h f

-- ---- the induction

pub start_order : (name : Bytes) (ps : List ℕ) (k count : ℕ) (old : State) (entries : List PlaceEntry) (new : State) → IsSoundState old → InState name (IsFrom ps k) old → RunFrom count old entries new → IsStartOrder ps k (firsts (sendings name entries))
start_order name ps k count old [] new s h r = order_nil ps k
start_order name ps k count old (Step seat e now reply outs unsaid ∷ entries) new s h (mid, x, rest) =
    unless_dropped (drops name e.what) refl
    (λ g. start_order name ps k (count + length (new_messages old mid)) mid entries new (sound_step count old mid e now reply outs x s) (in_event name (IsFrom ps k) (from_kept ps k) old mid e now reply outs x.event g h) rest)
  where
    unless_dropped : (b : Bool) → drops name e.what ≡ b → (drops name e.what ≡ false → IsStartOrder ps k (firsts (sendings name entries))) → IsStartOrder ps k (firsts (cond b [] (sendings name entries)))
    unless_dropped true q f = order_nil ps k
    unless_dropped false q f = f q
start_order name ps k count old (Deliver seat now listening v outs ∷ entries) new s h (mid, x, rest) =
    delivered_order name (sendings name entries) ps k old mid now listening v outs x.delivered s h
    (λ qs j q. start_order name qs j (count + length (new_messages old mid)) mid entries new (sound_delivery old mid now listening v outs x.delivered s) q rest)
start_order name ps k count old (Broken seat now (StepOf e) ∷ entries) new s h r = order_nil ps k
start_order name ps k count old (Broken seat now (DeliverOf listening v) ∷ []) new s h (outs, x) =
    subst (λ (xs : List Sending). IsStartOrder ps k (firsts xs)) (append_nil (sending_to name v)) (delivered_order name [] ps k old new now listening v outs x.delivered s h (λ qs j q. order_nil qs j))
start_order name ps k count old (Broken seat now (DeliverOf listening v) ∷ entry ∷ entries) new s h r = absurd r

pub start_order_of : (name : Bytes) (count : ℕ) (old : State) (entries : List PlaceEntry) (new : State) (c : Consumer) → IsSoundState old → InState name (λ d. d ≡ c) old → RunFrom count old entries new → IsStartOrder c.picks c.cursor (firsts (sendings name entries))
start_order_of name count old entries new c s h r = start_order name c.picks c.cursor count old entries new s (from_first old h) r
  where
    from_first : (old : State) → InState name (λ d. d ≡ c) old → InState name (IsFrom c.picks c.cursor) old
    from_first (Vacant i) h = absurd h
    from_first (Live t) h = record { consumer = h.consumer; found = h.found; holds = subst (IsFrom c.picks c.cursor) (sym h.holds) (from_itself c) }
