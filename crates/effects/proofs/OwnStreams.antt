-- What the records of an event that is none of a consumer's make of what a volume holds, but for a publish.
use Rattle.std.proofs.Common.{◌≡◌, ℕ, Bool, true, false, ◌&&◌, not, cond, List, [], ◌∷◌, ◌++◌, refl, ap}
use Rattle.std.specs.Prelude.{Option, Some, None}
use Rattle.js_base.specs.Bytes.{Bytes}
use Rattle.js_model.specs.declared.stream_config.StreamConfig.{StreamConfig}
use Rattle.js_model.specs.declared.stream.Message.{Message}
use Rattle.js_model.specs.declared.stream.Stream.{Stream}
use Rattle.js_model.specs.declared.stream.State.{State}
use Rattle.js_model.specs.declared.stream.State.TheVariants.{Live}
use Rattle.js_model.specs.declared.consumer.Consumer.{Consumer}
use Rattle.js_model.specs.declared.event.GetBy.{GetBy}
use Rattle.js_model.specs.declared.event.What.{What}
use Rattle.js_model.specs.declared.event.What.TheVariants.{Make, Change, Drop as DropStream, Purge, Delete, MessageGet}
use Rattle.js_model.specs.Refusals.{no_room, other_config, retention_cannot_change}
use Rattle.js_model.specs.Configs.{same_stream_config, same_retention}
use Rattle.js_model.specs.Events.{settled_state, stream_answer, stream_told, changed, with_config, refused, without_messages, purge_list, deleted, message_at, message_told, message_by, told_of}
use Rattle.js_model.proofs.Parts.{filter_part}
use Rattle.model_laws.proofs.Whole.{IsSoundStream}
use Rattle.model_laws.proofs.Sounding.{IsProperWhat, sound_fact}
use Rattle.model_laws.proofs.SoundParts.{sound_only}
use Rattle.model_laws.proofs.Changed.{stream_config_decides}
use Rattle.effects.specs.declared.effect.Effect.TheVariants.{ChangeStream}
use Rattle.effects.specs.Effects.{purge_effects, delete_effects, settle_effects, live_effects}
use Rattle.effects.specs.Laws.{Leads}
use Rattle.effects.proofs.Removing.{leads_only, leads_settled}
use Rattle.effects.proofs.Replacing.{stays, same_state, then_settled}

-- the records of an event at its moment lead to what it leaves
abbrev pub LeadsOn : Stream → What → Bool → Type 0
LeadsOn a what room = Leads (Live a) (live_effects a what room) (settled_state (stream_answer a what room).state)

pub leads_make : (a : Stream) (reply : Option Bytes) (config : StreamConfig) (room : Bool) → IsSoundStream a → LeadsOn a (Make reply config) room
leads_make a reply config room h =
    stays a (stream_answer a (Make reply config) room).state h (same_state (Live a) (same_stream_config config a.config) (stream_told a) (refused other_config a) refl refl)

-- without room the configuration stays
pub config_kept : (a : Stream) (config : StreamConfig) → (changed a config false).state ≡ Live a
config_kept a config =
    same_state (Live a) (same_retention config.retention a.config.retention) (with_config a config false) (refused retention_cannot_change a)
    (same_state (Live a) (same_stream_config config a.config) (stream_told a) (refused no_room a) refl refl) refl

pub leads_change : (a : Stream) (reply : Option Bytes) (config : StreamConfig) (room : Bool) → IsProperWhat (Change reply config) → IsSoundStream a → LeadsOn a (Change reply config) room
leads_change a reply config false g h = stays a (changed a config false).state h (config_kept a config)
leads_change a reply config true g h = go (same_retention config.retention a.config.retention) (same_stream_config config a.config) refl
  where
    new : Stream
    new = record a { config = config }

    state : Bool → State
    state b = (cond b (stream_told new) (refused retention_cannot_change a)).state

    go : (b same : Bool) → same_stream_config config a.config ≡ same → Leads (Live a) (cond (b && not same) (ChangeStream config ∷ []) [] ++ settle_effects [] (state b)) (settled_state (state b))
    go false same e = leads_settled a h
    go true true e = stays a (Live new) h (ap (λ (x : StreamConfig). Live (record a { config = x })) ((stream_config_decides config a.config).0 e))
    go true false e = then_settled a new (ChangeStream config ∷ []) (sound_fact.change.configured a reply config g h) refl

pub leads_drop : (a : Stream) (reply : Option Bytes) (room : Bool) → LeadsOn a (DropStream reply) room
leads_drop a reply room = refl

leads_without : (a : Stream) (gone : List Message) → IsSoundStream a → Leads (Live a) (purge_effects a gone ++ settle_effects [] (Live (without_messages a gone))) (settled_state (Live (without_messages a gone)))
leads_without a gone h =
    then_settled a (without_messages a gone) (purge_effects a gone) (sound_only a (without_messages a gone).messages (filter_part _ a.messages) h)
    (leads_only a (without_messages a gone).messages h (filter_part _ a.messages))

pub leads_purge : (a : Stream) (reply : Option Bytes) (pattern : Bytes) (below keep : Option ℕ) (room : Bool) → IsSoundStream a → LeadsOn a (Purge reply pattern below keep) room
leads_purge a reply pattern below keep room h = leads_without a (purge_list a pattern below keep) h

pub leads_delete : (a : Stream) (reply : Option Bytes) (n : ℕ) (room : Bool) → IsSoundStream a → LeadsOn a (Delete reply n) room
leads_delete a reply n room h = go (message_at a n)
  where
    go : (m : Option Message) → Leads (Live a) (delete_effects a m ++ settle_effects [] (deleted a m).state) (settled_state (deleted a m).state)
    go None = leads_settled a h
    go (Some m) = leads_without a (m ∷ []) h

-- ---- readings

pub message_state : (a : Stream) (m : Option Message) → (message_told a m).state ≡ Live a
message_state a None = refl
message_state a (Some m) = refl

pub leads_message : (a : Stream) (reply : Option Bytes) (by : GetBy) (room : Bool) → IsSoundStream a → LeadsOn a (MessageGet reply by) room
leads_message a reply by room h = stays a (message_told a (message_by a by)).state h (message_state a (message_by a by))

pub told_state : (a : Stream) (c : Option Consumer) → (told_of a c).state ≡ Live a
told_state a None = refl
told_state a (Some c) = refl
