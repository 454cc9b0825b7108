-- What the records of making and dropping a consumer, and of its pulls, make of what a volume holds.
use Rattle.std.proofs.Common.{◌≡◌, ℕ, Bool, true, false, not, cond, List, [], ◌∷◌, ◌++◌, map, refl, sym, ap, ◌∙◌, subst}
use Rattle.std.specs.Prelude.{Option, Some, None, filter, option_map}
use Rattle.js_base.specs.Bytes.{Bytes, same}
use Rattle.js_base.specs.declared.out.ApiError.{ApiError}
use Rattle.js_model.specs.declared.stream.Stream.{Stream}
use Rattle.js_model.specs.declared.stream.State.{State}
use Rattle.js_model.specs.declared.stream.State.TheVariants.{Live}
use Rattle.js_model.specs.declared.consumer_config.ConsumerConfig.{ConsumerConfig}
use Rattle.js_model.specs.declared.consumer.Consumer.{Consumer}
use Rattle.js_model.specs.declared.ack.Ask.{Ask}
use Rattle.js_model.specs.declared.event.What.TheVariants.{MakeConsumer, DropConsumer, Pull as PullIt, ConsumerInfo as AskConsumer}
use Rattle.js_model.specs.Streams.{by_name, with_consumer}
use Rattle.js_model.specs.Lasting.{lasting_consumer}
use Rattle.js_model.specs.Refusals.{first_refusal, consumer_exists}
use Rattle.js_model.specs.Configs.{same_consumer_config}
use Rattle.js_model.specs.Consumers.{is_before, new_consumer, with_new, making_checks, queue_checks}
use Rattle.js_model.specs.Pulls.{pulled, pulled_unless, pull_refusal}
use Rattle.js_model.specs.Events.{settled, settled_state, refused, consumer_told, consumer_made, or_no_room, consumer_asked, consumer_dropped, pull_answer}
use Rattle.js_model.proofs.Named.{by_name-map}
use Rattle.model_laws.proofs.Whole.{IsSoundStream}
use Rattle.model_laws.proofs.ConsumerFacts.{pulled-name}
use Rattle.model_laws.proofs.Sounding.{IsProperWhat, sound_fact}
use Rattle.model_laws.proofs.SoundParts.{map-filter}
use Rattle.effects.specs.Durables.{body_of}
use Rattle.effects.specs.Folding.{live, live_if, with_made, without_consumer}
use Rattle.effects.specs.Effects.{made_effects, make_effects, drop_effects, settle_effects}
use Rattle.effects.specs.Laws.{Leads}
use Rattle.effects.proofs.Removing.{leads_settled}
use Rattle.effects.proofs.Replacing.{stays, same_state, then_settled, lasting_names, found_lasting, same_lasting}
use Rattle.effects.proofs.OwnStreams.{LeadsOn, told_state}
use Rattle.std.specs.Prelude.{unwrap_or}

-- ---- making

with_new_lasting : (new : Consumer) (cs : List Consumer) → with_new (map lasting_consumer cs) (lasting_consumer new) ≡ map lasting_consumer (with_new cs new)
with_new_lasting new [] = refl
with_new_lasting new (c ∷ cs) = go (is_before c.name new.name) (with_new_lasting new cs)
  where
    go : (b : Bool) → with_new (map lasting_consumer cs) (lasting_consumer new) ≡ map lasting_consumer (with_new cs new)
        → cond b (lasting_consumer c ∷ with_new (map lasting_consumer cs) (lasting_consumer new)) (lasting_consumer new ∷ lasting_consumer c ∷ map lasting_consumer cs) ≡ map lasting_consumer (cond b (c ∷ with_new cs new) (new ∷ c ∷ cs))
    go true e = ap (λ l. lasting_consumer c ∷ l) e
    go false e = refl

module _ (a : Stream) (name : Bytes) (config : ConsumerConfig) (absent : by_name a.consumers name ≡ None) where
  abbrev made : Stream
  made = record a { consumers = with_new a.consumers (new_consumer a name config) }

  leads_new : Leads (Live a) (made_effects a name config None) (Live made)
  leads_new =
      ap (λ (o : Option Consumer). live_if a.incarnation (with_made (body_of a) (lasting_consumer (new_consumer a name config)) o)) (by_name-map lasting_consumer lasting_names a.consumers name ∙ ap (option_map lasting_consumer) absent)
      ∙ ap (λ (cs : List Consumer). Some (live a.incarnation (record (body_of a) { consumers = cs }))) (with_new_lasting (new_consumer a name config) a.consumers)

  leads_made : (reply : Option Bytes) (room : Bool) (refusal : Option ApiError) → first_refusal (making_checks a name config) ≡ refusal → IsProperWhat (MakeConsumer reply name config false) → IsSoundStream a
      → Leads (Live a) (made_effects a name config (or_no_room room refusal) ++ settle_effects [] (consumer_made a name config (or_no_room room refusal)).state)
      (settled_state (consumer_made a name config (or_no_room room refusal)).state)
  leads_made reply true None e g h =
      subst (λ (s : State). Leads (Live a) (made_effects a name config None ++ settle_effects [] s) (settled_state s)) (sym (told_state made (by_name (settled made).consumers name)))
      (then_settled a made (made_effects a name config None) (sound_fact.change.made a reply name config g absent e h) leads_new)
  leads_made reply true (Some r) e g h = leads_settled a h
  leads_made reply false None e g h = leads_settled a h
  leads_made reply false (Some r) e g h = leads_settled a h

pub leads_make_consumer : (a : Stream) (reply : Option Bytes) (name : Bytes) (config : ConsumerConfig) (update room : Bool) → IsProperWhat (MakeConsumer reply name config update) → IsSoundStream a → LeadsOn a (MakeConsumer reply name config update) room
leads_make_consumer a reply name config update room g h = go update (by_name a.consumers name) refl g
  where
    present : (c : Consumer) → (cond (same_consumer_config config c.config) (consumer_told a name) (refused (unwrap_or (first_refusal (queue_checks a name config)) consumer_exists) a)).state ≡ Live a
    present c = same_state (Live a) (same_consumer_config config c.config) (consumer_told a name) (refused (unwrap_or (first_refusal (queue_checks a name config)) consumer_exists) a) (told_state a (by_name (settled a).consumers name)) refl

    go : (update : Bool) (c : Option Consumer) → by_name a.consumers name ≡ c → IsProperWhat (MakeConsumer reply name config update)
        → Leads (Live a) (make_effects a name config update room c ++ settle_effects [] (consumer_asked a name config update room c).state) (settled_state (consumer_asked a name config update room c).state)
    go true None e g = leads_settled a h
    go false None e g = leads_made a name config e reply room (first_refusal (making_checks a name config)) refl g h
    go true (Some c) e g = stays a (consumer_asked a name config true room (Some c)).state h (present c)
    go false (Some c) e g = stays a (consumer_asked a name config false room (Some c)).state h (present c)

pub leads_told : (a : Stream) (reply : Option Bytes) (name : Bytes) (room : Bool) → IsSoundStream a → LeadsOn a (AskConsumer reply name) room
leads_told a reply name room h = stays a (consumer_told a name).state h (told_state a (by_name (settled a).consumers name))

-- ---- dropping

pub leads_drop_consumer : (a : Stream) (reply : Option Bytes) (name : Bytes) (room : Bool) → IsProperWhat (DropConsumer reply name) → IsSoundStream a → LeadsOn a (DropConsumer reply name) room
leads_drop_consumer a reply name room g h = go (by_name a.consumers name) refl
  where
    go : (c : Option Consumer) → by_name a.consumers name ≡ c → Leads (Live a) (drop_effects c ++ settle_effects [] (consumer_dropped a c).state) (settled_state (consumer_dropped a c).state)
    go None e = leads_settled a h
    go (Some c) e = then_settled a left (drop_effects (Some c)) (sound_fact.change.removed a reply name c g e h) leads_removed
      where
        left : Stream
        left = record a { consumers = filter (λ d. not (same d.name c.name)) a.consumers }

        leads_removed : Leads (Live a) (drop_effects (Some c)) (Live left)
        leads_removed =
            ap (λ (o : Option Consumer). live_if a.incarnation (without_consumer (body_of a) o)) (found_lasting a name c e)
            ∙ ap (λ (cs : List Consumer). Some (live a.incarnation (record (body_of a) { consumers = cs }))) (sym (map-filter lasting_consumer (λ d. not (same d.name c.name)) a.consumers))

-- ---- pulls, which do not outlive a crash

pub lasting_pulled : (now : ℕ) (reply : Option Bytes) (ask : Option Ask) (c : Consumer) → lasting_consumer (pulled now reply ask c) ≡ lasting_consumer c
lasting_pulled now None ask c = refl
lasting_pulled now (Some reply) ask c = go ask (pull_refusal c ask)
  where
    go : (ask : Option Ask) (block : Option Bytes) → lasting_consumer (pulled_unless block now reply ask c) ≡ lasting_consumer c
    go None None = refl
    go (Some ask) None = refl
    go None (Some block) = refl
    go (Some ask) (Some block) = refl

pub leads_pull : (a : Stream) (reply : Option Bytes) (name : Bytes) (ask : Option Ask) (room : Bool) → IsProperWhat (PullIt reply name ask) → IsSoundStream a → LeadsOn a (PullIt reply name ask) room
leads_pull a reply name ask room g h = go (by_name a.consumers name) refl
  where
    go : (c : Option Consumer) → by_name a.consumers name ≡ c → Leads (Live a) (settle_effects [] (pull_answer a reply ask c).state) (settled_state (pull_answer a reply ask c).state)
    go None e = leads_settled a h
    go (Some c) e =
        then_settled a (with_consumer a (pulled a.moment reply ask c)) [] (sound_fact.change.pulled a reply name ask c g e h)
        (same_lasting a name c (pulled a.moment reply ask c) h.ordered e (pulled-name a.moment reply ask c) (lasting_pulled a.moment reply ask c))
