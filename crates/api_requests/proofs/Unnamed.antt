-- A creation that names no consumer is refused in the same way whatever name its durable name is compared with.
use Rattle.std.proofs.Common.{◌≡◌, Bool, true, false, List, [], ◌∷◌, ◌++◌, codes, Option, Some, None, Result, Ok, Err, IsErrAnd, refl, sym, ap, ◌∙◌, subst, if◌then◌else◌}
use Rattle.serde_json.specs.Data.{Members}
use Rattle.js_base.specs.Bytes.{Bytes, is_empty}
use Rattle.js_base.specs.declared.out.ApiError.{ApiError}
use Rattle.js_model.specs.Refusals.{Check, first_refusal, name_mismatch}
use Rattle.js_model.specs.declared.consumer_config.ConsumerConfig.{ConsumerConfig}
use Rattle.consumer_config.specs.Refusals.{durable_name_required}
use Rattle.consumer_config.specs.Table.{table}
use Rattle.consumer_config.specs.Reading.{checks, start_checks, name_checks, names_another, word_in, refusal_in, config_unless, config_in as read_config, reading}
use Rattle.api_requests.specs.declared.call.StreamCall.TheVariants as stream
use Rattle.api_requests.specs.declared.consumers.Settings.{Settings}
use Rattle.api_requests.specs.declared.fault.ApiFault.{ApiFault}
use Rattle.api_requests.specs.declared.fault.ApiFault.TheVariants.{Refused, NoMemory}
use Rattle.api_requests.specs.declared.request.ApiRequest.{ApiRequest}
use Rattle.api_requests.specs.Answers.{Reads}
use Rattle.api_requests.specs.Steps.{◌>>=◌}
use Rattle.api_requests.specs.Fields.{given_text_in}
use Rattle.api_requests.specs.Bodies.{object_in, token_name}
use Rattle.api_requests.specs.Consumers.{update_in, config_in, settings_in}
use Rattle.api_requests.specs.Requests.{stream_request}

-- no settings are those of the subject
abbrev refuses : Settings → Result ApiRequest ApiError
refuses settings = Err name_mismatch

-- the first refusal, or else that of another name
abbrev or_mismatch : Option ApiError → Result ApiRequest ApiError
or_mismatch None = Err name_mismatch
or_mismatch (Some refusal) = Err refusal

read_ends : (found : Option ApiError) (config : ConsumerConfig) (make : ConsumerConfig → Settings)
    → ((config_unless found config >>= (λ c. Ok (make c))) >>= refuses) ≡ or_mismatch found
read_ends None config make = refl
read_ends (Some refusal) config make = refl

-- ---- the names are looked at last

by_names : (lacks one other : Bool)
    → or_mismatch (first_refusal ((lacks, durable_name_required) ∷ (one, name_mismatch) ∷ [])) ≡ or_mismatch (first_refusal ((lacks, durable_name_required) ∷ (other, name_mismatch) ∷ []))
by_names true one other = refl
by_names false true true = refl
by_names false true false = refl
by_names false false true = refl
by_names false false false = refl

either : (fails : Bool) (made : ApiError) (a b : Option ApiError) → or_mismatch a ≡ or_mismatch b
    → or_mismatch (if fails then Some made else a) ≡ or_mismatch (if fails then Some made else b)
either true made a b e = refl
either false made a b e = e

behind : (first one other : List Check) → or_mismatch (first_refusal one) ≡ or_mismatch (first_refusal other)
    → or_mismatch (first_refusal (first ++ one)) ≡ or_mismatch (first_refusal (first ++ other))
behind [] one other e = e
behind (check ∷ more) one other e = either check.0 check.1 (first_refusal (more ++ one)) (first_refusal (more ++ other)) (behind more one other e)

refusal_same : (name : Bytes) (fields : Members) → or_mismatch (refusal_in name fields) ≡ or_mismatch (refusal_in [] fields)
refusal_same name fields =
    behind (checks fields table) (start_checks fields ++ name_checks name fields) (start_checks fields ++ name_checks [] fields)
    (behind (start_checks fields) (name_checks name fields) (name_checks [] fields)
    (by_names (is_empty (word_in (codes "durable_name") fields)) (names_another name fields) (names_another [] fields)))

reading_same : (name : Bytes) (fields : Members) (make : ConsumerConfig → Settings)
    → ((reading name fields >>= (λ c. Ok (make c))) >>= refuses) ≡ ((reading [] fields >>= (λ c. Ok (make c))) >>= refuses)
unfolding reading
reading_same name fields make =
    read_ends (refusal_in name fields) (read_config name fields) make ∙ refusal_same name fields ∙ sym (read_ends (refusal_in [] fields) (read_config [] fields) make)

-- ---- the body

through : {A : Type 0} (a : Result A ApiError) (f g : A → Result Settings ApiError) → ((x : A) → (f x >>= refuses) ≡ (g x >>= refuses)) → ((a >>= f) >>= refuses) ≡ ((a >>= g) >>= refuses)
through (Ok x) f g h = h x
through (Err refusal) f g h = refl

settings_same : (name : Bytes) (fields : Members) → (settings_in name fields >>= refuses) ≡ (settings_in [] fields >>= refuses)
unfolding settings_in
settings_same name fields =
    through (update_in fields) _ _
    (λ update. through (config_in fields) _ _
    (λ members. through (given_text_in (codes "stream_name") fields) _ _
    (λ stream. reading_same name members (λ config. record { update = update; config = config; stream = stream }))))

then_is : {A B : Type 0} (a : Result A ApiError) (next : A → Result B ApiError) (x : A) → a ≡ Ok x → (a >>= next) ≡ next x
then_is (Ok y) next x e = let same : y ≡ x = cc in ap next same
then_is (Err refusal) next x e = absurd (cc)

-- the call, for the body's fields and this name
unnamed : (token body : Bytes) (fields : Members) (name : Bytes) → object_in body ≡ Ok fields → token_name token ≡ Ok name
    → stream_request stream.ConsumerCreate token body ≡ (settings_in name fields >>= refuses)
unfolding stream_request
unnamed token body fields name o t =
    then_is (object_in body) _ fields o ∙ then_is (token_name token) _ name t ∙ sym (settings_same name fields)

-- the settings are refused
pub unnamed_stops : (token body : Bytes) (fields : Members) (name : Bytes) (fault : ApiFault) (result : Result ApiRequest ApiFault) → object_in body ≡ Ok fields → token_name token ≡ Ok name
    → Reads {X = Settings} (Err fault) (settings_in name fields) → IsErrAnd result (λ e. e ≡ fault) → Reads result (stream_request stream.ConsumerCreate token body)
unnamed_stops token body fields name fault (Ok made) o t h k = absurd k
unnamed_stops token body fields name fault (Err other) o t h k =
    subst (λ (f : ApiFault). Reads {X = ApiRequest} (Err f) (stream_request stream.ConsumerCreate token body)) (sym k) (by fault h)
  where
    by : (f : ApiFault) → Reads {X = Settings} (Err f) (settings_in name fields) → Reads {X = ApiRequest} (Err f) (stream_request stream.ConsumerCreate token body)
    by (Refused refusal) h = unnamed token body fields name o t ∙ ap (λ (read : Result Settings ApiError). read >>= refuses) h
    by NoMemory h = tt

-- nothing else is wrong
pub unnamed_ends : (token body : Bytes) (fields : Members) (name : Bytes) (settings : Settings) (refusal : ApiError) → object_in body ≡ Ok fields → token_name token ≡ Ok name
    → settings_in name fields ≡ Ok settings → refusal ≡ name_mismatch → stream_request stream.ConsumerCreate token body ≡ Err refusal
unnamed_ends token body fields name settings refusal o t h e =
    unnamed token body fields name o t ∙ ap (λ (read : Result Settings ApiError). read >>= refuses) h ∙ ap (λ (r : ApiError). Err r) (sym e)
