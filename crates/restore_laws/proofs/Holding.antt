-- A state, what a volume holds of it, and what is opened from that.
use Rattle.std.proofs.Common.{◌≡◌, ℕ, ◌-◌, ◌≤◌, ◌^◌, true, false, List, [], ◌∷◌, map, length, refl, sym, ap, ◌∙◌, subst, arith}
use Rattle.std.specs.Prelude.{Option, Some, None, All, IfSome}
use Rattle.std.proofs.lemmas.Bool.{and_parts, le-ltb}
use Rattle.std.proofs.lemmas.List.Elements.{All-nil, All-cons, All-head, All-tail, All-weaker}
use Rattle.js_model.specs.declared.stream.Stream.{Stream}
use Rattle.js_model.specs.declared.stream.State.TheVariants.{Vacant, Live}
use Rattle.js_model.specs.declared.consumer.Pull.{Pull}
use Rattle.js_model.specs.declared.consumer.Consumer.{Consumer}
use Rattle.js_model.specs.Configs.{is_limit}
use Rattle.js_model.specs.Lasting.{lasting, lasting_consumer}
use Rattle.js_model.specs.Streams.{below_limit, over_limit}
use Rattle.js_model.proofs.Members.{all_in}
use Rattle.js_model.proofs.Parts.{between_lower}
use Rattle.model_laws.specs.Sound.{IsCounted, IsWellStoredConsumer, IsWellStored, IsMatched}
use Rattle.model_laws.specs.Bounds.{IsBounded, IsBoundedConsumer, IsWritable}
use Rattle.model_laws.proofs.Lasting.{sound_lasting, bounded_lasting}
use Rattle.model_laws.proofs.SoundSent.{limit_of}
use Rattle.model_laws.proofs.Whole.{all_from_in}
use Rattle.effects.specs.declared.durable.Body.{Body}
use Rattle.effects.specs.Durables.{body_of, durable_of, state_in}
use Rattle.effects.specs.Restorable.{IsRestorable}
use Rattle.effects.proofs.Agreeing.{map_twice}
use Rattle.durable_checks.specs.Storable.{IsConfigured, IsFormedOf}
use Rattle.consumer_progress.specs.Progresses.{IsProgress, progress_of}
use Rattle.consumer_state.specs.Keeping as keeping
use Rattle.restore_laws.specs.Laws.{LawOpened, LawHeld, LawHeldOpened, LawStorable, LawOpenable, LawRestored, LawRestoredConsumers}
use Rattle.restore_laws.proofs.Restorable.{restorable_lasting}

-- ---- back and forth

pub opened : LawOpened
opened (Vacant i) = refl
opened (Live s) = refl

pub held : LawHeld
held (Vacant i) = refl
held (Live s) =
    ap (λ (cs : List Consumer). record { incarnation = s.incarnation; body = Some (record (body_of s) { consumers = cs }) }) (map_twice lasting_consumer lasting_consumer s.consumers)

all_lasting : (cs : List Consumer) → All IsConfigured cs → map lasting_consumer cs ≡ cs
all_lasting [] h = refl
all_lasting (c ∷ cs) h = ap (λ (d : Consumer). d ∷ map lasting_consumer cs) (same (All-head IsConfigured c cs h)) ∙ ap (λ (ds : List Consumer). c ∷ ds) (all_lasting cs (All-tail IsConfigured c cs h))
  where
    same : IsConfigured c → lasting_consumer c ≡ c
    same k = ap (λ (ps : List Pull). record c { waiting = ps; mark = c.made }) (sym k.waiting) ∙ ap (λ (m : ℕ). record c { mark = m }) (sym k.mark)

pub held_opened : LawHeldOpened
held_opened d f = go d.incarnation d.body f
  where
    go : (i : ℕ) (o : Option Body) → IsFormedOf o → durable_of (state_in i o) ≡ record { incarnation = i; body = o }
    go i None f = refl
    go i (Some b) f = ap (λ (cs : List Consumer). record { incarnation = i; body = Some (record b { consumers = cs }) }) (all_lasting b.consumers f.consumers)

-- ---- what is asked

pub storable : LawStorable
storable s h b = record { stored = subst IsWellStored (sym (opened s)) (sound_lasting s h).stored; bounded = subst IsBounded (sym (opened s)) (bounded_lasting s b) }

pub openable : LawOpenable
openable s h r = record { matched = subst IsMatched (sym (opened s)) (sound_lasting s h).matched; restorable = subst IsRestorable (sym (opened s)) (restorable_lasting s r) }

-- ---- what is opened

writable_opened : (i : ℕ) (o : Option Body) → IsFormedOf o → IsWritable (state_in i o)
writable_opened i None f = tt
writable_opened i (Some b) f = f.writable

lasting_opened : (i : ℕ) (o : Option Body) → IsFormedOf o → lasting (state_in i o) ≡ state_in i o
lasting_opened i None f = refl
lasting_opened i (Some b) f = ap (λ (cs : List Consumer). state_in i (Some (record b { consumers = cs }))) (all_lasting b.consumers f.consumers)

pub restored : LawRestored
restored d f s o = record {
  sound = record { stored = s.stored; matched = o.matched };
  bounded = s.bounded;
  writable = writable_opened d.incarnation d.body f;
  restorable = o.restorable;
  lasting = lasting_opened d.incarnation d.body f;
}

-- ---- its consumers

-- of all that is lasting no pull waits
none_waits : (cs : List Consumer) → map lasting_consumer cs ≡ cs → All (λ c. c.waiting ≡ []) cs
none_waits [] e = All-nil (λ c. c.waiting ≡ [])
none_waits (c ∷ cs) e = All-cons (λ c. c.waiting ≡ []) c cs (sym (ap (λ (d : Consumer). d.waiting) (head_is e))) (none_waits cs (tail_is e))
  where
    head_is : {a b : Consumer} {more others : List Consumer} → a ∷ more ≡ b ∷ others → a ≡ b
    head_is q = cc

    tail_is : {a b : Consumer} {more others : List Consumer} → a ∷ more ≡ b ∷ others → more ≡ others
    tail_is q = cc

module _ (s : Stream) (c : Consumer) (k : IsWellStoredConsumer s.messages s.last c) (b : IsBoundedConsumer c) where
  -- each message may be sent once
  once : (limit : Option ℕ) → is_limit (2 ^ 62 - 1) limit ≡ true → below_limit 0 limit ≡ true
  once None e = refl
  once (Some n) e = (and_parts _ _ e).0

  not_over : (limit : Option ℕ) (n : ℕ) → IfSome limit (λ limit. n ≤ limit) → over_limit n limit ≡ false
  not_over None n h = refl
  not_over (Some limit) n h = le-ltb limit n h

  is_consumer : keeping.IsConsumer c
  is_consumer = record {
    once = once c.config.max_deliver (limit_of c.config k.config);
    counts = All-weaker (IsCounted c.dseq c.config.max_deliver) (λ p. over_limit p.count c.config.max_deliver ≡ false) (λ p h. not_over c.config.max_deliver p.count h.within) c.pending k.counts;
    no_pulls = k.push;
    dseq = b.dseq;
  }

  is_progress : IsProgress (progress_of c)
  is_progress = record {
    picks = between_lower (λ n. n) 0 1 c.cursor c.picks (omega arith) k.picks;
    pending = between_lower (λ p. p.seq) 0 1 c.cursor c.pending (omega arith) k.pending;
    given_up = between_lower (λ n. n) 0 1 c.cursor c.given_up (omega arith) k.given_up;
    picks_pending = k.picks_pending;
    picks_given_up = k.picks_given_up;
    pending_given_up = k.pending_given_up;
    counts = All-weaker (IsCounted c.dseq c.config.max_deliver) (λ p. p.count ≤ c.dseq) (λ p h. h.most) c.pending k.counts;
    few_picks = let q : length c.picks ≤ 65536 = b.picks in omega arith;
    few_delivered = let q : length c.pending ≤ 65536 = b.pending in let r : length c.given_up ≤ 65536 = b.given_up in omega arith;
  }

  is_kept : c.waiting ≡ [] → keeping.IsRestorable c
  is_kept e = record { consumer = is_consumer; progress = is_progress; waiting = subst (λ (ps : List Pull). length ps ≤ c.config.max_waiting) (sym e) (omega arith) }

pub restored_consumers : LawRestoredConsumers
restored_consumers s h =
    all_from_in keeping.IsRestorable s.consumers
    (λ c i. is_kept s c (all_in (IsWellStoredConsumer s.messages s.last) s.consumers h.sound.stored.consumers i) (all_in IsBoundedConsumer s.consumers h.bounded.each_consumer i) (all_in (λ c. c.waiting ≡ []) s.consumers none i))
  where
    live_is : {t u : Stream} → Live t ≡ Live u → t ≡ u
    live_is q = cc

    none : All (λ c. c.waiting ≡ []) s.consumers
    none = none_waits s.consumers (ap (λ (t : Stream). t.consumers) (live_is h.lasting))
