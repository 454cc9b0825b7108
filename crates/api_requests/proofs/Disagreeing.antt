-- Another stream or another filter, which is refused, refuses the creation.
use Rattle.std.proofs.Common.{◌≡◌, Result, Ok, Err, IsErrAnd, sym, ap, ◌∙◌, subst}
use Rattle.serde_json.specs.Data.{Members}
use Rattle.js_base.specs.Bytes.{Bytes}
use Rattle.js_base.specs.declared.out.ApiError.{ApiError}
use Rattle.api_requests.specs.declared.consumers.Settings.{Settings}
use Rattle.api_requests.specs.declared.consumers.Creation.{Creation}
use Rattle.api_requests.specs.declared.fault.ApiFault.{ApiFault}
use Rattle.api_requests.specs.declared.fault.ApiFault.TheVariants.{Refused, NoMemory}
use Rattle.api_requests.specs.Answers.{Reads}
use Rattle.api_requests.specs.Steps.{◌>>=◌}
use Rattle.api_requests.specs.Bodies.{object_in}
use Rattle.api_requests.specs.ConsumerCalls.{Tokens}
use Rattle.api_requests.specs.Consumers.{names_of, settings_in, agreeing, creation_of}

goes_on : {A B : Type 0} (a : Result A ApiError) (next : A → Result B ApiError) (x : A) (told : ApiError) → a ≡ Ok x → next x ≡ Err told → (a >>= next) ≡ Err told
goes_on (Ok y) next x told e h = let same : y ≡ x = cc in ap next same ∙ h
goes_on (Err r) next x told e h = absurd (cc)

ends : {A B : Type 0} (a : Result A ApiError) (next : A → Result B ApiError) (told : ApiError) → a ≡ Err told → (a >>= next) ≡ Err told
ends (Ok y) next told e = absurd (cc)
ends (Err r) next told e = let same : r ≡ told = cc in ap (λ (x : ApiError). Err x) same

refused : (tokens : Tokens) (body : Bytes) (fields : Members) (names : Bytes × Bytes) (settings : Settings) (told : ApiError) → object_in body ≡ Ok fields → names_of tokens ≡ Ok names
    → settings_in names.1 fields ≡ Ok settings → agreeing names.0 tokens.filter settings ≡ Err told → creation_of tokens body ≡ Err told
unfolding creation_of
refused tokens body fields names settings told a b c h =
    goes_on (object_in body) _ fields told a
    (goes_on (names_of tokens) _ names told b (goes_on (settings_in names.1 fields) _ settings told c (ends (agreeing names.0 tokens.filter settings) _ told h)))

pub stops : (tokens : Tokens) (body : Bytes) (fields : Members) (names : Bytes × Bytes) (settings : Settings) (fault : ApiFault) (result : Result Creation ApiFault) → object_in body ≡ Ok fields
    → names_of tokens ≡ Ok names → settings_in names.1 fields ≡ Ok settings → Reads {X = Unit {0}} (Err fault) (agreeing names.0 tokens.filter settings) → IsErrAnd result (λ e. e ≡ fault)
    → Reads result (creation_of tokens body)
stops tokens body fields names settings fault (Ok made) a b c h k = absurd k
stops tokens body fields names settings fault (Err other) a b c h k = subst (λ (f : ApiFault). Reads {X = Creation} (Err f) (creation_of tokens body)) (sym k) (by fault h)
  where
    by : (f : ApiFault) → Reads {X = Unit {0}} (Err f) (agreeing names.0 tokens.filter settings) → Reads {X = Creation} (Err f) (creation_of tokens body)
    by (Refused told) h = refused tokens body fields names settings told a b c h
    by NoMemory h = tt
