-- What needs room, by the looks that tell it.
use Rattle.std.proofs.Common.{◌≡◌, ◌≢◌, ◌∙◌, ◌||◌, ℕ, Bool, true, false, refl, sym, ap, subst}
use Rattle.std.specs.Borrow.{Bor}
use Rattle.std.specs.Option.{option_copied}
use Rattle.std.specs.Prelude.{Option, None, Some, is_none, is_some, option_map}
use Rattle.std.proofs.lemmas.Bool.{true≢false}
use Rattle.js_base.specs.Bytes.{Bytes}
use Rattle.js_base.specs.declared.out.ApiError.{ApiError}
use Rattle.js_model.specs.declared.consumer.Consumer.{Consumer}
use Rattle.js_model.specs.declared.consumer_config.ConsumerConfig.{ConsumerConfig}
use Rattle.js_model.specs.declared.event.What.{What}
use Rattle.js_model.specs.declared.event.What.TheVariants as whats
use Rattle.js_model.specs.declared.stream.Stream.{Stream}
use Rattle.js_model.specs.declared.stream_config.StreamConfig.{StreamConfig}
use Rattle.js_model.specs.Consumers.{making_checks}
use Rattle.js_model.specs.Refusals.{first_refusal}
use Rattle.js_model.proofs.Named.{none_some}
use Rattle.consumer_state.specs.Making.{IsRefusal}
use Rattle.consumer_state.specs.declared.fault.MakeFault.{MakeFault}
use Rattle.consumer_state.specs.declared.fault.MakeFault.TheVariants.{Refused}
use Rattle.memory_place.specs.Needing.{makes_consumer, vacant_needs_room}

module _ (s : Stream) (name : Bytes) (config : ConsumerConfig) where
  -- none is there, and no update is asked for
  makes_unless : (update : Bool) (o : Option Consumer) → (update || is_some o) ≡ false → makes_consumer s name config update o ≡ is_none (first_refusal (making_checks s name config))
  makes_unless true o h = absurd (true≢false h)
  makes_unless false None h = refl
  makes_unless false (Some c) h = absurd (true≢false h)

  -- none is there, by the look for its configuration
  none_there : (o : Option Consumer) (kept : Option (Bor ConsumerConfig)) (there : Bool) → option_copied kept ≡ option_map (λ c. c.config) o → there ≡ is_some kept → there ≡ false → is_some o ≡ false
  none_there None kept there is looked none = refl
  none_there (Some c) None there is looked none = absurd (none_some is)
  none_there (Some c) (Some k) there is looked none = absurd (true≢false (sym looked ∙ none))

  pub forbidden : (update : Bool) (o : Option Consumer) (kept : Option (Bor ConsumerConfig)) (there : Bool) → update ≡ false → option_copied kept ≡ option_map (λ c. c.config) o → there ≡ is_some kept → there ≡ false
      → (fault : MakeFault) (e : ApiError) → fault ≡ Refused e → IsRefusal (making_checks s name config) fault → false ≡ makes_consumer s name config update o
  forbidden update o kept there first is looked none fault e by refused =
      let some : first_refusal (making_checks s name config) ≡ Some e = subst (IsRefusal (making_checks s name config)) by refused in
      sym (makes_unless update o (ap (λ (b : Bool). b || is_some o) first ∙ none_there o kept there is looked none) ∙ ap is_none some)

-- ---- no stream

pub vacant_other : (last : ℕ) (what : What) → ((reply : Option Bytes) (config : StreamConfig) → what ≢ whats.Make reply config) → vacant_needs_room last what ≡ false
vacant_other last (whats.Make reply config) other = absurd (other reply config refl)
vacant_other last (whats.Change reply config) other = refl
vacant_other last (whats.Publish p) other = refl
vacant_other last (whats.MakeConsumer reply name config update) other = refl
vacant_other last (whats.Drop reply) other = refl
vacant_other last (whats.Purge reply pattern below keep) other = refl
vacant_other last (whats.Delete reply n) other = refl
vacant_other last (whats.DropConsumer reply name) other = refl
vacant_other last (whats.Ack reply ack) other = refl
vacant_other last (whats.Pull reply name ask) other = refl
vacant_other last whats.Tick other = refl
vacant_other last (whats.StreamInfo reply) other = refl
vacant_other last (whats.MessageGet reply by) other = refl
vacant_other last (whats.ConsumerInfo reply name) other = refl
vacant_other last (whats.ConsumerNames reply offset) other = refl
vacant_other last (whats.ConsumerList reply offset) other = refl
