-- What is read of a call may be asked of a stream.
use Rattle.std.proofs.Common.{◌≡◌, Bool, true, Option, IsTrue, refl, subst}
use Rattle.std.proofs.lemmas.Bool.{and_from}
use Rattle.std.proofs.lemmas.Slice.Eq.{bytes_eq-Decides}
use Rattle.js_base.specs.Bytes.{Bytes, same}
use Rattle.js_base.specs.Subjects.{is_subject_text}
use Rattle.js_model.specs.declared.stream_config.StreamConfig.{StreamConfig}
use Rattle.js_model.specs.declared.event.What.TheVariants as whats
use Rattle.js_model.specs.Proper.{if_given}
use Rattle.js_model.specs.declared.consumer_config.ConsumerConfig.{ConsumerConfig}
use Rattle.api_requests.specs.Read.{IsSetup, IsCreation}
use Rattle.desk_answers.specs.Asking.{MayAsk}

pub may_make : (stream : Bytes) (config : StreamConfig) (to : Option Bytes) → IsSetup stream config → IsTrue (if_given is_subject_text to) → MayAsk (whats.Make to config)
may_make stream config to s h = record { reply = h; proper = s.valid; built = tt }

pub may_change : (stream : Bytes) (config : StreamConfig) (to : Option Bytes) → IsSetup stream config → IsTrue (if_given is_subject_text to) → MayAsk (whats.Change to config)
may_change stream config to s h = record { reply = h; proper = s.valid; built = tt }

-- ---- consumers

-- the configuration is that of the consumer with this name
same_name : (a b : Bytes) → a ≡ b → same a b ≡ true
same_name a b e = subst (λ (x : Bytes). same a x ≡ true) e ((bytes_eq-Decides a a).1 refl)

pub may_make_consumer : (stream consumer : Bytes) (config : ConsumerConfig) (update : Bool) (to : Option Bytes) → IsCreation stream consumer config → IsTrue (if_given is_subject_text to)
    → MayAsk (whats.MakeConsumer to consumer config update)
may_make_consumer stream consumer config update to c h =
    record { reply = h; proper = and_from _ _ (and_from _ _ c.names.of_consumer.name c.valid) (same_name config.name consumer c.named); built = tt }
