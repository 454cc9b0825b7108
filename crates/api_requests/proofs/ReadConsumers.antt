-- What is read of calls on consumers is valid.
use Rattle.std.proofs.Common.{◌≡◌, ◌&&◌, Option, Some, None, Result, Ok, Err, codes, refl, sym, ap, ◌∙◌, subst}
use Rattle.serde_json.specs.Data.{Members}
use Rattle.js_base.specs.Bytes.{Bytes}
use Rattle.js_base.specs.declared.out.ApiError.{ApiError}
use Rattle.js_model.specs.declared.consumer_config.ConsumerConfig.{ConsumerConfig}
use Rattle.consumer_config.specs.Reading.{refusal_in, config_in as read_config, config_unless, reading}
use Rattle.consumer_config.proofs.Parts.{printable}
use Rattle.consumer_config.proofs.Valid.{read_valid}
use Rattle.api_requests.specs.declared.consumers.Settings.{Settings}
use Rattle.api_requests.specs.declared.consumers.Creation.{Creation}
use Rattle.api_requests.specs.Fields.{given_text_in}
use Rattle.api_requests.specs.Bodies.{object_in, token_name}
use Rattle.api_requests.specs.ConsumerCalls.{Tokens}
use Rattle.api_requests.specs.Consumers.{names_of, update_in, config_in, settings_in, agreeing, creation_of}
use Rattle.api_requests.specs.Read.{IsConsumer, IsCreation}
use Rattle.api_requests.proofs.Steps.{after}
use Rattle.api_requests.proofs.Parts.{Named, named}

-- ---- names

record AreNamed (stream consumer : Bytes) : Type 0 where
  first : Named stream
  second : Named consumer

are_named : (tokens : Tokens) (names : Bytes × Bytes) → names_of tokens ≡ Ok names → AreNamed names.0 names.1
unfolding names_of
are_named tokens names e =
    after _ (token_name tokens.stream) _ names e
    (λ stream first more. after _ (token_name tokens.consumer) _ names more
    (λ consumer second made.
    let same : ◌≡◌ {A = Bytes × Bytes} (stream, consumer) names = cc in
    subst (λ (n : Bytes × Bytes). AreNamed n.0 n.1) same (record { first = named tokens.stream stream first; second = named tokens.consumer consumer second })))

of_names : (stream consumer : Bytes) → AreNamed stream consumer → IsConsumer stream consumer
of_names stream consumer are = record { of_stream = are.first.stream; of_consumer = are.second.stream }

pub names_are : (tokens : Tokens) (names : Bytes × Bytes) → names_of tokens ≡ Ok names → IsConsumer names.0 names.1
names_are tokens names e = of_names names.0 names.1 (are_named tokens names e)

-- ---- the configuration

config_named_by : (name : Bytes) (fields : Members) (config : ConsumerConfig) (refusal : Option ApiError) → config_unless refusal (read_config name fields) ≡ Ok config → config.name ≡ name
unfolding read_config
config_named_by name fields config None e = let same : read_config name fields ≡ config = cc in ap (λ (c : ConsumerConfig). c.name) (sym same)
config_named_by name fields config (Some refusal) e = absurd (cc)

config_named : (name : Bytes) (fields : Members) (config : ConsumerConfig) → reading name fields ≡ Ok config → config.name ≡ name
unfolding reading
config_named name fields config e = config_named_by name fields config (refusal_in name fields) e

-- the configuration is one that was read
record IsSetting (name : Bytes) (config : ConsumerConfig) : Type 0 where
  fields : Members
  read : reading name fields ≡ Ok config

settings_are : (name : Bytes) (fields : Members) (settings : Settings) → settings_in name fields ≡ Ok settings → IsSetting name settings.config
unfolding settings_in
settings_are name fields settings e =
    after _ (update_in fields) _ settings e
    (λ update _ configured. after _ (config_in fields) _ settings configured
    (λ members _ given. after _ (given_text_in (codes "stream_name") fields) _ settings given
    (λ stream _ read. after _ (reading name members) _ settings read
    (λ config is made.
    let same : ◌≡◌ {A = Settings} (record { update = update; config = config; stream = stream }) settings = cc in
    subst (λ (s : Settings). IsSetting name s.config) same (record { fields = members; read = is })))))

creation_by : (stream consumer : Bytes) (config : ConsumerConfig) → AreNamed stream consumer → IsSetting consumer config → IsCreation stream consumer config
creation_by stream consumer config are is =
    let valid = read_valid consumer is.fields config are.second.again is.read in
    record { names = of_names stream consumer are; named = config_named consumer is.fields config is.read; valid = valid; printed = printable config valid }

pub creation_is : (tokens : Tokens) (body : Bytes) (creation : Creation) → creation_of tokens body ≡ Ok creation → IsCreation creation.stream creation.consumer creation.config
unfolding creation_of
creation_is tokens body creation e =
    after _ (object_in body) _ creation e
    (λ fields _ of_tokens. after _ (names_of tokens) _ creation of_tokens
    (λ names are set. after _ (settings_in names.1 fields) _ creation set
    (λ settings is agreed. after _ (agreeing names.0 tokens.filter settings) _ creation agreed
    (λ _ _ made.
    let same : ◌≡◌ {A = Creation} (record { stream = names.0; consumer = names.1; config = settings.config; update = settings.update }) creation = cc in
    subst (λ (c : Creation). IsCreation c.stream c.consumer c.config) same
    (creation_by names.0 names.1 settings.config (are_named tokens names are) (settings_are names.1 fields settings is))))))
