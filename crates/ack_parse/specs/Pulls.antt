-- How the bodies of pull requests, and delays, are spelled, after JetStream's consumer documentation.
use Rattle.std.specs.Prelude.{ℕ, ◌≡◌, ◌⊎◌, ◌<◌, ◌≤◌, ◌^◌, pos, Bool, false, [], codes, Option, Some, None, Ok, IsErr}
use Rattle.serde_json.specs.Data.{Data, boolean, Members}
use Rattle.js_base.specs.Bytes.{Bytes}
use Rattle.js_base.specs.Decimal.{number_of}
use Rattle.js_json.specs.Fields.{field}
use Rattle.js_json.specs.Kinds.{as_whole}
use Rattle.js_json.specs.Objects.{object_of}
use Rattle.js_model.specs.declared.ack.Ask.{Ask}
use Rattle.ack_parse.specs.Asks.{most_batch, just}

-- ---- the fields of an object, where null counts as absent

-- an integer from 0 to 2^62 - 1; 0 if the field is absent
abbrev pub SaysNumber : Bytes → Members → ℕ → Type 0
SaysNumber name fields n =
    ((field name fields ≡ None) × (n ≡ 0))
    ⊎ ((value : Data) × (field name fields ≡ Some value) × (as_whole value ≡ Some (pos n)) × (n < 2 ^ 62))

-- true or false; false if the field is absent
abbrev pub SaysFlag : Bytes → Members → Bool → Type 0
SaysFlag name fields flag = ((field name fields ≡ None) × (flag ≡ false)) ⊎ (field name fields ≡ Some (boolean flag))

-- ---- delays

-- the text is an object, which says the nanoseconds
abbrev pub SpellsDelay : Bytes → ℕ → Type 0
SpellsDelay text delay = (fields : Members) × (object_of text ≡ Ok fields) × SaysNumber (codes "delay") fields delay

-- ---- pull requests

-- so many messages are asked for by that number: 0 asks for one
abbrev pub AsksFor : ℕ → ℕ → Type 0
AsksFor number batch = (number ≤ most_batch) × (((number ≡ 0) × (batch ≡ 1)) ⊎ ((0 < number) × (batch ≡ number)))

-- so many bytes are the limit by that number: 0 sets none
abbrev pub LimitsTo : ℕ → Option ℕ → Type 0
LimitsTo number None = number ≡ 0
LimitsTo number (Some most) = (0 < number) × (most ≡ number)

-- a decimal says how many messages
abbrev pub SpellsCount : Bytes → Ask → Type 0
SpellsCount body ask = (number : ℕ) × (number_of body ≡ Ok number) × AsksFor number ask.batch × (ask ≡ just ask.batch)

-- the fields of an object say what is asked for; a decimal is none
pub record SpellsFields (body : Bytes) (ask : Ask) : Type 0 where
  pub fields : Members
  pub messages : ℕ
  pub bytes : ℕ
  pub no_decimal : IsErr (number_of body)
  pub object : object_of body ≡ Ok fields
  pub batch : SaysNumber (codes "batch") fields messages
  pub batch_is : AsksFor messages ask.batch
  pub expires : SaysNumber (codes "expires") fields ask.expires
  pub no_wait : SaysFlag (codes "no_wait") fields ask.no_wait
  pub max_bytes : SaysNumber (codes "max_bytes") fields bytes
  pub limit : LimitsTo bytes ask.max_bytes
  pub heartbeat : SaysNumber (codes "idle_heartbeat") fields ask.heartbeat

-- an empty body asks for one message
abbrev pub SpellsAsk : Bytes → Ask → Type 0
SpellsAsk body ask = ((body ≡ []) × (ask ≡ just 1)) ⊎ (SpellsCount body ask ⊎ SpellsFields body ask)
