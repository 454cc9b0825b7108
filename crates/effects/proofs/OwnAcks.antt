-- What the records of an acknowledgement make of what a volume holds.
use Rattle.std.proofs.Common.{◌≡◌, ℕ, ◌≤◌, Bool, true, false, ◌&&◌, ◌||◌, not, cond, List, [], ◌∷◌, ◌++◌, refl, sym, ap, ◌∙◌, arith}
use Rattle.std.specs.Prelude.{Option, Some, None, nat_le, ◌==◌}
use Rattle.std.specs.List.{list_any}
use Rattle.std.proofs.lemmas.Bool.{eqb-true, eqb-false, le-leb, lt-leb, leb-true, and_left, and_right, or_parts, not-false}
use Rattle.std.proofs.lemmas.List.{map-id}
use Rattle.js_base.specs.Bytes.{Bytes}
use Rattle.js_base.specs.Moments.{plus}
use Rattle.js_model.specs.Lists.{Between}
use Rattle.js_model.specs.declared.stream.Stream.{Stream}
use Rattle.js_model.specs.declared.stream.State.TheVariants.{Live}
use Rattle.js_model.specs.declared.consumer_config.AckPolicy.{AckPolicy}
use Rattle.js_model.specs.declared.consumer_config.AckPolicy.TheVariants.{None as NoAck, All as AckAll, Explicit}
use Rattle.js_model.specs.declared.consumer.Pending.{Pending}
use Rattle.js_model.specs.declared.consumer.Consumer.{Consumer}
use Rattle.js_model.specs.declared.ack.Ack.{Ack}
use Rattle.js_model.specs.declared.ack.AckKind.{AckKind}
use Rattle.js_model.specs.declared.ack.AckKind.TheVariants.{Ack as Acknowledge, Nak, Wpi, Next, Term}
use Rattle.js_model.specs.declared.event.What.TheVariants.{Ack as AckIt}
use Rattle.js_model.specs.declared.reply.Reply.TheVariants.{Silent}
use Rattle.js_model.specs.Streams.{by_name, with_consumer, pending_seqs}
use Rattle.js_model.specs.Lasting.{lasting_consumer}
use Rattle.js_model.specs.Acknowledge.{acknowledged, ends, without, with_due, moved, is_no_delivery}
use Rattle.js_model.specs.Events.{settled_state, quietly, ack_answer, ack_done, after_ack}
use Rattle.js_model.proofs.Members.{IsIn}
use Rattle.js_model.proofs.Parts.{between_map}
use Rattle.model_laws.proofs.Whole.{IsSoundStream, IsSoundConsumer}
use Rattle.model_laws.proofs.ConsumerFacts.{after_ack-name}
use Rattle.model_laws.proofs.Sounding.{IsProperWhat, sound_fact}
use Rattle.model_laws.proofs.SoundAcks.{All-by_name}
use Rattle.model_laws.proofs.SoundTime.{has_between}
use Rattle.effects.specs.declared.effect.Effect.TheVariants.{Acked, Due}
use Rattle.effects.specs.Ranges.{is_within}
use Rattle.effects.specs.Folding.{acked, due_at}
use Rattle.effects.specs.Effects.{first_ended, ends_some, ended_effects, changes_due, due_effects, acknowledged_effects, ack_effects, settle_effects}
use Rattle.effects.specs.Laws.{Leads}
use Rattle.effects.proofs.Agreeing.{filter_agree, filter_all, map_agree, in_mapped}
use Rattle.effects.proofs.Removing.{in_has, leads_settled}
use Rattle.effects.proofs.Passing.{lacking_in}
use Rattle.effects.proofs.Replacing.{then_settled, leads_step, same_lasting}
use Rattle.effects.proofs.OwnStreams.{LeadsOn}
use Rattle.effects.proofs.OwnConsumers.{lasting_pulled}

-- a consumer that is changed in its place, and outlives a crash as another one does
record IsChanged (c new other : Consumer) : Type 0 where
  named : new.name ≡ c.name
  lasts : lasting_consumer new ≡ lasting_consumer other

module _ (a : Stream) (name : Bytes) (c : Consumer) (h : IsSoundStream a) (found : by_name a.consumers name ≡ Some c) where
  own : IsSoundConsumer a.messages a.last c
  own = All-by_name (IsSoundConsumer a.messages a.last) a.consumers name c found h.consumers

  -- ---- what ends

  -- the range has the entries that end
  record Names (ended : ℕ → Bool) (low high : ℕ) : Type 0 where
    agrees : (n : ℕ) → 1 ≤ n → is_within low high n ≡ ended n

  at_least_one : (ns : List ℕ) → Between (λ n. n) 1 c.cursor ns → (n : ℕ) → IsIn n ns → 1 ≤ n
  at_least_one ns b n i = has_between n 1 c.cursor ns b (in_has n ns i)

  pending_one : (p : Pending) → IsIn p c.pending → 1 ≤ p.seq
  pending_one p i = at_least_one (pending_seqs c) (between_map (λ n. n) (λ p. p.seq) 1 c.cursor c.pending own.pending) p.seq (in_mapped (λ p. p.seq) i)

  without_range : (ended : ℕ → Bool) (low high : ℕ) → Names ended low high → lasting_consumer (without (is_within low high) c) ≡ lasting_consumer (without ended c)
  without_range ended low high r =
      rw (
        filter_agree (λ p. not (is_within low high p.seq)) (λ p. not (ended p.seq)) c.pending (λ p i. ap not (r.agrees p.seq (pending_one p i))),
        filter_agree (λ n. not (is_within low high n)) (λ n. not (ended n)) c.given_up (λ n i. ap not (r.agrees n (at_least_one c.given_up own.given_up n i))),
      ) refl

  without_none : (ended : ℕ → Bool) → ends_some ended c ≡ false → lasting_consumer (without ended c) ≡ lasting_consumer c
  without_none ended e =
      let parts = or_parts (list_any ended (pending_seqs c)) (list_any ended c.given_up) e in
      rw (
        filter_all (λ p. not (ended p.seq)) c.pending (λ p i. ap not (lacking_in ended (pending_seqs c) parts.0 p.seq (in_mapped (λ p. p.seq) i))),
        filter_all (λ n. not (ended n)) c.given_up (λ n i. ap not (lacking_in ended c.given_up parts.1 n i)),
      ) refl

  leads_ended : (ended : ℕ → Bool) (low high : ℕ) (new : Consumer) → Names ended low high → IsChanged c new (without ended c) → Leads (Live a) (ended_effects ended low high c) (Live (with_consumer a new))
  leads_ended ended low high new r k = go (ends_some ended c) refl
    where
      go : (b : Bool) → ends_some ended c ≡ b → Leads (Live a) (cond b (Acked c.name low high ∷ []) []) (Live (with_consumer a new))
      go true e = leads_step a name c new (acked low high) found (ap Some (without_range ended low high r ∙ sym k.lasts))
      go false e = same_lasting a name c new h.ordered found k.named (k.lasts ∙ without_none ended e)

  -- ---- what is due at another moment

  due_there : (n due : ℕ) (ps : List Pending) → list_any (λ p. (p.seq == n) && not (p.due == due)) ps ≡ true → list_any (λ p. p.seq == n) ps ≡ true
  due_there n due [] e = e
  due_there n due (p ∷ ps) e = go (p.seq == n) (not (p.due == due)) e (due_there n due ps)
    where
      go : (b d : Bool) → ((b && d) || list_any (λ p. (p.seq == n) && not (p.due == due)) ps) ≡ true → (list_any (λ p. (p.seq == n) && not (p.due == due)) ps ≡ true → list_any (λ p. p.seq == n) ps ≡ true) → (b || list_any (λ p. p.seq == n) ps) ≡ true
      go true d w f = refl
      go false d w f = f w

  moved_same : (n due : ℕ) (p : Pending) → ((p.seq == n) && not (p.due == due)) ≡ false → moved n due p ≡ p
  moved_same n due p e = go (p.seq == n) refl e
    where
      at : p.due ≡ due → record p { due = due } ≡ p
      at q = ap (λ (d : ℕ). record p { due = d }) (sym q)

      go : (b : Bool) → (p.seq == n) ≡ b → (b && not (p.due == due)) ≡ false → cond b (record p { due = due }) p ≡ p
      go true q w = at (eqb-true p.due due (not-false (p.due == due) w))
      go false q w = refl

  due_same : (n due : ℕ) → changes_due n due c ≡ false → lasting_consumer (with_due n due c) ≡ lasting_consumer c
  due_same n due e =
      ap (λ (ps : List Pending). lasting_consumer (record c { pending = ps }))
      (map_agree (moved n due) (λ p. p) c.pending (λ p i. moved_same n due p (lacking_in (λ p. (p.seq == n) && not (p.due == due)) c.pending e p i)) ∙ map-id c.pending)

  leads_due : (n due : ℕ) (new : Consumer) → IsChanged c new (with_due n due c) → Leads (Live a) (due_effects n due c) (Live (with_consumer a new))
  leads_due n due new k = go (changes_due n due c) refl
    where
      go : (b : Bool) → changes_due n due c ≡ b → Leads (Live a) (cond b (Due c.name n due ∷ []) []) (Live (with_consumer a new))
      go true e =
          leads_step a name c new (due_at n due) found
          (ap (λ (b : Bool). cond b (Some (with_due n due (lasting_consumer c))) None) (due_there n due c.pending e) ∙ ap Some (sym k.lasts))
      go false e = same_lasting a name c new h.ordered found k.named (k.lasts ∙ due_same n due e)

  -- ---- each kind

  one_range : (n : ℕ) → Names (λ m. m == n) n n
  one_range n = record { agrees = λ m l. go m (m == n) refl }
    where
      apart : (m : ℕ) → (m == n) ≡ false → (b : Bool) → nat_le m n ≡ b → (nat_le n m && nat_le m n) ≡ false
      apart m e false w = and_right (nat_le n m) (nat_le m n) w
      apart m e true w = let d : m ≡ n → ⊥ = eqb-false m n e in let l : m ≤ n = leb-true m n w in and_left (nat_le n m) (nat_le m n) (lt-leb n m (omega (arith, d)))

      go : (m : ℕ) (b : Bool) → (m == n) ≡ b → is_within n n m ≡ b
      go m true e = let q : m ≡ n = eqb-true m n e in rw (le-leb n m (omega arith), le-leb m n (omega arith)) refl
      go m false e = apart m e (nat_le m n) refl

  policy_range : (policy : AckPolicy) (n : ℕ) → Names (ends policy n) (first_ended policy n) n
  policy_range NoAck n = one_range n
  policy_range AckAll n = record { agrees = λ m l. ap (λ (b : Bool). b && nat_le m n) (le-leb 1 m l) }
  policy_range Explicit n = one_range n

  leads_acknowledged : (reply : Option Bytes) (n : ℕ) (kind : AckKind) → Leads (Live a) (acknowledged_effects a.moment n kind c) (Live (with_consumer a (after_ack a.moment reply n kind c)))
  leads_acknowledged reply n Acknowledge = leads_ended (ends c.config.ack_policy n) (first_ended c.config.ack_policy n) n _ (policy_range c.config.ack_policy n) (record { named = after_ack-name a.moment reply n Acknowledge c; lasts = refl })
  leads_acknowledged reply n (Nak delay) = leads_due n (plus a.moment delay) _ (record { named = after_ack-name a.moment reply n (Nak delay) c; lasts = refl })
  leads_acknowledged reply n Wpi = leads_due n (plus a.moment c.config.ack_wait) _ (record { named = after_ack-name a.moment reply n Wpi c; lasts = refl })
  leads_acknowledged reply n (Next ask) =
      leads_ended (ends c.config.ack_policy n) (first_ended c.config.ack_policy n) n _ (policy_range c.config.ack_policy n)
      (record { named = after_ack-name a.moment reply n (Next ask) c; lasts = lasting_pulled a.moment reply (Some ask) (acknowledged a.moment n (Next ask) c) })
  leads_acknowledged reply n Term = leads_ended (λ m. m == n) n n _ (one_range n) (record { named = after_ack-name a.moment reply n Term c; lasts = refl })

pub leads_ack : (a : Stream) (reply : Option Bytes) (ack : Ack) (room : Bool) → IsProperWhat (AckIt reply ack) → IsSoundStream a → LeadsOn a (AckIt reply ack) room
leads_ack a reply ack room g h = go (by_name a.consumers ack.consumer) refl
  where
    done : (c : Consumer) → by_name a.consumers ack.consumer ≡ Some c → (b : Bool) → is_no_delivery c ack.seq ≡ b
        → Leads (Live a) (cond b [] (acknowledged_effects a.moment ack.seq ack.kind c) ++ settle_effects [] (cond b (quietly Silent a) (ack_done a reply ack.seq ack.kind c)).state) (settled_state (cond b (quietly Silent a) (ack_done a reply ack.seq ack.kind c)).state)
    done c e true q = leads_settled a h
    done c e false q =
        then_settled a (with_consumer a (after_ack a.moment reply ack.seq ack.kind c)) (acknowledged_effects a.moment ack.seq ack.kind c)
        (sound_fact.change.acked a reply ack c g e q h) (leads_acknowledged a ack.consumer c h e reply ack.seq ack.kind)

    go : (c : Option Consumer) → by_name a.consumers ack.consumer ≡ c → Leads (Live a) (ack_effects a ack.seq ack.kind c ++ settle_effects [] (ack_answer a reply ack.seq ack.kind c).state) (settled_state (ack_answer a reply ack.seq ack.kind c).state)
    go None e = leads_settled a h
    go (Some c) e = done c e (is_no_delivery c ack.seq) refl
