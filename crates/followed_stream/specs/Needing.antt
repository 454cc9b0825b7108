-- Lists of consumers that need and take the same message, by JetStream's retention policies.
use Rattle.std.specs.Prelude.{◌≡◌, List}
use Rattle.std.specs.List.{list_any}
use Rattle.js_model.specs.declared.stream.Message.{Message}
use Rattle.js_model.specs.declared.consumer.Consumer.{Consumer}
use Rattle.js_model.specs.Streams.{takes}
use Rattle.js_model.specs.Retention.{needs}

-- one of the first needs it if one of the others does, and one takes it if one of the others does
pub record NeedSame (m : Message) (cs ds : List Consumer) : Type 0 where
  pub needed : list_any (λ c. needs c m) cs ≡ list_any (λ c. needs c m) ds
  pub taken : list_any (λ c. takes c m) cs ≡ list_any (λ c. takes c m) ds
