-- What is read of a valid configuration.
use Rattle.std.proofs.Common.{◌≡◌, ℕ, ◌-◌, ◌^◌, true, refl}
use Rattle.std.specs.Prelude.{IsTrue, Option, Some, None}
use Rattle.std.proofs.lemmas.Bool.{and_parts}
use Rattle.js_model.specs.declared.consumer_config.ConsumerConfig.{ConsumerConfig}
use Rattle.js_model.specs.Configs.{is_consumer_config, is_limit}
use Rattle.js_model.specs.Streams.{below_limit}

-- each message may be sent once
pub once_is : (config : ConsumerConfig) → IsTrue (is_consumer_config config) → below_limit 0 config.max_deliver ≡ true
once_is config h =
    let heartbeat = and_parts _ _ h in
    let number = and_parts _ _ heartbeat.0 in
    let group = and_parts _ _ number.0 in
    let deliver = and_parts _ _ group.0 in
    let pattern = and_parts _ _ deliver.0 in
    let waiting = and_parts _ _ pattern.0 in
    let some = and_parts _ _ waiting.0 in
    let pending = and_parts _ _ some.0 in
    let sent = and_parts _ _ pending.0 in
    go config.max_deliver sent.1
  where
    go : (limit : Option ℕ) → is_limit (2 ^ 62 - 1) limit ≡ true → below_limit 0 limit ≡ true
    go None e = refl
    go (Some n) e = (and_parts _ _ e).0
