-- What is read of the parts of calls is valid.
use Rattle.std.proofs.Common.{◌≡◌, ℕ, nat_lt, [], ◌∷◌, Bool, true, false, length, Option, Some, None, Result, Ok, Err, codes, refl, sym, ap, subst, if◌then◌else◌}
use Rattle.std.specs.Prelude.{unwrap_or}
use Rattle.serde_json.specs.Data.{Members}
use Rattle.js_base.specs.Bytes.{Bytes}
use Rattle.js_base.specs.Names.{name_of, unless_bad, first_bad}
use Rattle.js_base.specs.declared.name.NameFault.{NameFault}
use Rattle.js_base.specs.declared.name.NameFault.TheVariants.{TooLong}
use Rattle.js_base.specs.declared.out.ApiError.{ApiError}
use Rattle.js_model.specs.Configs.{is_number}
use Rattle.js_model.specs.Proper.{if_given}
use Rattle.js_model.specs.declared.stream_config.StreamConfig.{StreamConfig}
use Rattle.stream_config.specs.Reading.{reading, config_in, config_unless, refusal_in}
use Rattle.js_model.proofs.NameTexts.{name_utf8}
use Rattle.stream_config.proofs.Named.{read_name}
use Rattle.stream_config.proofs.Parts.{printable}
use Rattle.stream_config.proofs.Valid.{read_valid}
use Rattle.api_requests.specs.Fields.{number_in, pattern_in}
use Rattle.api_requests.specs.Bodies.{or_no_name, token_name, fields_of, listing_of, setup_of, page_of}
use Rattle.api_requests.specs.Read.{IsStream, IsSetup, IsListing}
use Rattle.api_requests.proofs.Steps.{after}
use Rattle.api_requests.proofs.ReadFields.{number_is, pattern_is}

-- ---- names

whole : (long : Bool) (bad : Option ℕ) (text name : Bytes) → (if long then Err TooLong else unless_bad bad text) ≡ Ok name → text ≡ name
whole true bad text name e = absurd (cc)
whole false None text name e = cc
whole false (Some at) text name e = absurd (cc)

token_is : (token name : Bytes) → name_of token ≡ Ok name → token ≡ name
token_is [] name e = absurd (cc)
token_is (byte ∷ more) name e = whole (nat_lt 255 (length (byte ∷ more))) (first_bad (byte ∷ more)) (byte ∷ more) name e

-- what is read as a name is read so again
pub record Named (name : Bytes) : Type 0 where
  pub again : name_of name ≡ Ok name
  pub stream : IsStream name

named_by : (token name : Bytes) (read : Result Bytes NameFault) → name_of token ≡ read → or_no_name read ≡ Ok name → Named name
named_by token name (Ok found) is e =
    let same : found ≡ name = cc in
    let read : name_of token ≡ Ok name = cc in
    let again : name_of name ≡ Ok name = subst (λ (x : Bytes). name_of x ≡ Ok name) (token_is token name read) read in
    record { again = again; stream = record { name = read_name name again; utf8 = name_utf8 name (read_name name again) } }
named_by token name (Err fault) is e = absurd (cc)

pub named : (token name : Bytes) → token_name token ≡ Ok name → Named name
unfolding token_name
named token name e = named_by token name _ refl e

pub stream_is : (token name : Bytes) → token_name token ≡ Ok name → IsStream name
stream_is token name e = (named token name e).stream

-- ---- configurations

config_named_by : (name : Bytes) (fields : Members) (config : StreamConfig) (refusal : Option ApiError) → config_unless refusal (config_in name fields) ≡ Ok config → config.name ≡ name
unfolding config_in
config_named_by name fields config None e = let same : config_in name fields ≡ config = cc in ap (λ (c : StreamConfig). c.name) (sym same)
config_named_by name fields config (Some refusal) e = absurd (cc)

config_named : (name : Bytes) (fields : Members) (config : StreamConfig) → reading name fields ≡ Ok config → config.name ≡ name
unfolding reading
config_named name fields config e = config_named_by name fields config (refusal_in name fields) e

setup_by : (token name : Bytes) (fields : Members) (config : StreamConfig) → token_name token ≡ Ok name → reading name fields ≡ Ok config → IsSetup name config
setup_by token name fields config is read =
    let stream = named token name is in
    let valid = read_valid name fields config stream.again read in
    record { name = stream.stream; named = config_named name fields config read; valid = valid; printed = printable config valid }

pub setup_is : (token body : Bytes) (setup : Bytes × StreamConfig) → setup_of token body ≡ Ok setup → IsSetup setup.0 setup.1
unfolding setup_of
setup_is token body setup e =
    after _ (fields_of body) _ setup e
    (λ fields _ named. after _ (token_name token) _ setup named
    (λ name is configured. after _ (reading name fields) _ setup configured
    (λ config read made.
    let same : ◌≡◌ {A = Bytes × StreamConfig} (name, config) setup = cc in
    subst (λ (s : Bytes × StreamConfig). IsSetup s.0 s.1) same (setup_by token name fields config is read))))

-- ---- lists

offset_is : (offset : Option ℕ) → if_given is_number offset ≡ true → is_number (unwrap_or offset 0) ≡ true
offset_is None h = refl
offset_is (Some n) h = h

pub listing_is : (body : Bytes) (listing : ℕ × Option Bytes) → listing_of body ≡ Ok listing → IsListing listing.0 listing.1
unfolding listing_of
listing_is body listing e =
    after _ (fields_of body) _ listing e
    (λ fields _ placed. after _ (number_in (codes "offset") fields) _ listing placed
    (λ offset is_offset matched. after _ (pattern_in (codes "subject") fields) _ listing matched
    (λ subject is_subject made.
    let same : ◌≡◌ {A = ℕ × Option Bytes} (unwrap_or offset 0, subject) listing = cc in
    subst (λ (l : ℕ × Option Bytes). IsListing l.0 l.1) same
    (record { number = offset_is offset (number_is _ fields offset is_offset); pattern = pattern_is _ fields subject is_subject }))))

-- the stream of a page, and its offset
pub record IsPage (stream : Bytes) (offset : ℕ) : Type 0 where
  pub name : IsStream stream
  pub number : is_number offset ≡ true

pub page_is : (token body : Bytes) (page : Bytes × ℕ) → page_of token body ≡ Ok page → IsPage page.0 page.1
unfolding page_of
page_is token body page e =
    after _ (fields_of body) _ page e
    (λ fields _ named. after _ (token_name token) _ page named
    (λ name is placed. after _ (number_in (codes "offset") fields) _ page placed
    (λ offset is_offset made.
    let same : ◌≡◌ {A = Bytes × ℕ} (name, unwrap_or offset 0) page = cc in
    subst (λ (p : Bytes × ℕ). IsPage p.0 p.1) same (record { name = stream_is token name is; number = offset_is offset (number_is _ fields offset is_offset) }))))
