-- What the records of a publish make of what a volume holds.
use Rattle.std.proofs.Common.{◌≡◌, ℕ, ◌+◌, Bool, true, false, ◌&&◌, ◌||◌, not, cond, List, [], ◌∷◌, ◌++◌, map, refl, sym, ap, ◌∙◌, subst, arith}
use Rattle.std.specs.Prelude.{Option, Some, None, filter, ◌==◌}
use Rattle.std.proofs.lemmas.Bool.{true≢false, eq-eqb, eqb-true, not-true}
use Rattle.std.proofs.lemmas.List.{append-nil}
use Rattle.std.proofs.lemmas.List.Elements.{filter-append}
use Rattle.js_base.specs.Bytes.{Bytes, has}
use Rattle.js_model.specs.declared.stream.Message.{Message}
use Rattle.js_model.specs.declared.stream.Stream.{Stream}
use Rattle.js_model.specs.declared.stream.State.TheVariants.{Live}
use Rattle.js_model.specs.declared.consumer.Consumer.{Consumer}
use Rattle.js_model.specs.declared.event.Publish.{Publish}
use Rattle.js_model.specs.declared.event.What.TheVariants.{Publish as PublishIt}
use Rattle.js_model.specs.declared.reply.Verdict.{Verdict}
use Rattle.js_model.specs.declared.reply.Verdict.TheVariants.{Take, Duplicate as TakenBefore, Refused as RefusedBy}
use Rattle.js_model.specs.Streams.{seqs}
use Rattle.js_model.specs.Lasting.{lasting_consumer}
use Rattle.js_model.specs.Trim.{trim}
use Rattle.js_model.specs.Retention.{kept}
use Rattle.js_model.specs.Verdict.{verdict, message_of}
use Rattle.js_model.specs.Events.{settled, settled_state, published, with_message, with_id}
use Rattle.js_model.proofs.Parts.{between_map}
use Rattle.model_laws.proofs.Whole.{IsSoundStream}
use Rattle.model_laws.proofs.Facts.{at_settled}
use Rattle.model_laws.proofs.Sounding.{IsProperWhat, sound_fact}
use Rattle.model_laws.proofs.SoundSent.{none_above}
use Rattle.model_laws.proofs.SoundStored.{sound_stored}
use Rattle.std.specs.Prelude.{⊤}
use Rattle.effects.specs.declared.durable.Body.{Body}
use Rattle.effects.specs.declared.durable.Durable.{Durable}
use Rattle.effects.specs.declared.effect.Effect.TheVariants.{PutHere, Skip}
use Rattle.effects.specs.Durables.{body_of, durable_of}
use Rattle.effects.specs.Folding.{live, is_next, put, numbered, holding, keeping, fold_all}
use Rattle.effects.specs.Effects.{is_skipped, publish_effects, published_skipped, settle_effects}
use Rattle.effects.specs.Laws.{Leads}
use Rattle.effects.proofs.Removing.{is_there, keeping_all, keeping_agree, fold_settled, leads_settled}
use Rattle.effects.proofs.Replacing.{then_settled}
use Rattle.effects.proofs.OwnStreams.{LeadsOn}

module _ (a : Stream) (p : Publish) (h : IsSoundStream a) (k : IsSoundStream (with_message a p)) where
  abbrev stored : Stream
  stored = record a { messages = a.messages ++ message_of a p ∷ []; last = a.last + 1 }

  is_next_own : is_next (a.last + 1) a.moment (body_of a) ≡ true
  is_next_own = ap (λ (b : Bool). b && (a.moment == a.moment)) (eq-eqb (a.last + 1) (a.last + 1) refl) ∙ eq-eqb a.moment a.moment refl

  -- ---- a message that is kept

  leads_put : Leads (Live a) (PutHere (a.last + 1) a.moment p.wants.id p.subject p.headers p.payload ∷ []) (Live (with_message a p))
  leads_put = ap (λ (b : Bool). cond b (Some (live a.incarnation (put (message_of a p) p.wants.id (body_of a)))) None) is_next_own ∙ go p.wants.id
    where
      go : (id : Bytes) → Some (live a.incarnation (put (message_of a p) id (body_of a))) ≡ Some (durable_of (Live (with_id stored id)))
      go [] = refl
      go (byte ∷ more) = refl

  -- ---- one that is dropped at once

  abbrev passes : ℕ → Bool
  passes n = is_there ((a.last + 1) ∷ []) n

  passes_other : (n : ℕ) (ns : List ℕ) → has ns n ≡ true → has ns (a.last + 1) ≡ false → passes n ≡ true
  passes_other n ns e f = go ((a.last + 1) == n) refl
    where
      go : (b : Bool) → ((a.last + 1) == n) ≡ b → not (b || false) ≡ true
      go true q = absurd (true≢false (sym e ∙ subst (λ (m : ℕ). has ns m ≡ false) (eqb-true (a.last + 1) n q) f))
      go false q = refl

  all_stay : (s : Stream) → IsSoundStream s → has (seqs s.messages) (a.last + 1) ≡ false → keeping passes (body_of s) ≡ body_of s
  all_stay s q e = keeping_agree passes (λ n. true) s q (λ n w. passes_other n (seqs s.messages) w e) ∙ keeping_all (λ n. true) (body_of s) (λ n. refl)

  old_stay : keeping passes (body_of a) ≡ body_of a
  old_stay = all_stay a h (none_above (a.last + 1) 1 (a.last + 1) (seqs a.messages) (between_map (λ n. n) (λ m. m.seq) 1 (a.last + 1) a.messages h.messages) (omega arith))

  messages_stay : filter (λ m. passes m.seq) (a.messages ++ message_of a p ∷ []) ≡ a.messages
  messages_stay =
      filter-append (λ m. passes m.seq) a.messages (message_of a p ∷ [])
      ∙ ap (λ l. l ++ filter (λ m. passes m.seq) (message_of a p ∷ [])) (ap (λ (b : Body). b.messages) old_stay)
      ∙ ap (λ (b : Bool). a.messages ++ cond (not (b || false)) (message_of a p ∷ []) []) (eq-eqb (a.last + 1) (a.last + 1) refl)
      ∙ append-nil a.messages

  consumers_stay : map (holding passes) (map lasting_consumer a.consumers) ≡ map lasting_consumer a.consumers
  consumers_stay = ap (λ (b : Body). b.consumers) old_stay

  -- what a volume holds without the message
  abbrev without : Bytes → List Message → List Consumer → Option Durable
  without id messages consumers = Some (live a.incarnation (numbered (a.last + 1) a.moment id (record (body_of a) { messages = messages; consumers = consumers })))

  skipped_body : (id : Bytes) → without id a.messages (map lasting_consumer a.consumers) ≡ Some (live (with_id stored id).incarnation (keeping passes (body_of (with_id stored id))))
  skipped_body [] =
      ap (λ ms. without [] ms (map lasting_consumer a.consumers)) (sym messages_stay)
      ∙ ap (without [] (filter (λ m. passes m.seq) (a.messages ++ message_of a p ∷ []))) (sym consumers_stay)
  skipped_body (byte ∷ more) =
      ap (λ ms. without (byte ∷ more) ms (map lasting_consumer a.consumers)) (sym messages_stay)
      ∙ ap (without (byte ∷ more) (filter (λ m. passes m.seq) (a.messages ++ message_of a p ∷ []))) (sym consumers_stay)

  fold_skip : fold_all (Skip (a.last + 1) a.moment p.wants.id ∷ []) (Some (durable_of (Live a))) ≡ Some (live (with_message a p).incarnation (keeping passes (body_of (with_message a p))))
  fold_skip = ap (λ (b : Bool). cond b (without p.wants.id a.messages (map lasting_consumer a.consumers)) None) is_next_own ∙ skipped_body p.wants.id

  leads_skip : is_skipped a p ≡ true → Leads (Live a) (Skip (a.last + 1) a.moment p.wants.id ∷ settle_effects ((a.last + 1) ∷ []) (Live (with_message a p))) (Live (settled (with_message a p)))
  unfolding trim kept
  leads_skip e =
      ap (fold_all (settle_effects ((a.last + 1) ∷ []) (Live (with_message a p)))) fold_skip
      ∙ fold_settled ((a.last + 1) ∷ []) (with_message a p) k
      ∙ ap (λ (b : Body). Some (live (with_message a p).incarnation b)) (all_stay (settled (with_message a p)) (at_settled IsProperWhat ⊤ IsSoundStream sound_fact (Live (with_message a p)) k) (not-true (has (seqs (settled (with_message a p)).messages) (a.last + 1)) e))

  leads_taken : Leads (Live a) (publish_effects a p Take ++ settle_effects (published_skipped a p Take) (Live (with_message a p))) (Live (settled (with_message a p)))
  leads_taken = go (is_skipped a p) refl
    where
      go : (b : Bool) → is_skipped a p ≡ b
          → Leads (Live a) (cond b (Skip (a.last + 1) a.moment p.wants.id) (PutHere (a.last + 1) a.moment p.wants.id p.subject p.headers p.payload) ∷ settle_effects (cond b ((a.last + 1) ∷ []) []) (Live (with_message a p))) (Live (settled (with_message a p)))
      go true e = leads_skip e
      go false e = then_settled a (with_message a p) (PutHere (a.last + 1) a.moment p.wants.id p.subject p.headers p.payload ∷ []) k leads_put

pub leads_publish : (a : Stream) (p : Publish) (room : Bool) → IsSoundStream a → LeadsOn a (PublishIt p) room
leads_publish a p room h = go (verdict a p room) refl
  where
    go : (v : Verdict) → verdict a p room ≡ v → Leads (Live a) (publish_effects a p v ++ settle_effects (published_skipped a p v) (published a p v).state) (settled_state (published a p v).state)
    go Take e = leads_taken a p h (sound_stored a p room e h)
    go (TakenBefore n) e = leads_settled a h
    go (RefusedBy r) e = leads_settled a h
