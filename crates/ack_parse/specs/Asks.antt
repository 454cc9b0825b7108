-- The bodies of pull requests, by JetStream's consumer documentation: empty, a decimal, or a JSON object. A field that is null counts as absent, and
-- one that is not asked for is read past.
use Rattle.std.specs.Prelude.{ℕ, ◌==◌, ◌-◌, ◌^◌, nat_lt, nat_le, ℤ, pos, negsuc, Bool, false, [], ◌∷◌, codes, Option, Some, None, option_map, option_and_then, Result, Ok, Err, if◌then◌else◌}
use Rattle.serde_json.specs.Data.{Members}
use Rattle.js_base.specs.Bytes.{Bytes}
use Rattle.js_base.specs.Decimal.{number_of}
use Rattle.js_base.specs.declared.decimal.DecFault.{DecFault}
use Rattle.js_json.specs.Fields.{number_in, flag_in}
use Rattle.js_json.specs.Objects.{object_of}
use Rattle.js_json.specs.declared.fault.JsonFault.{JsonFault}
use Rattle.js_model.specs.declared.ack.Ask.{Ask}

-- ---- fields

abbrev pub natural_told : Result (Option ℤ) JsonFault → Option ℕ
natural_told (Ok None) = Some 0
natural_told (Ok (Some (pos n))) = if nat_lt n (2 ^ 62) then Some n else None
natural_told (Ok (Some (negsuc _))) = None
natural_told (Err _) = None

-- the number below 2^62 in a field, 0 if it is absent; none if the field is wrong
unfoldable pub natural_in : Bytes → Members → Option ℕ
natural_in name fields = natural_told (number_in name fields)

abbrev pub truth_told : Result (Option Bool) JsonFault → Option Bool
truth_told (Ok None) = Some false
truth_told (Ok (Some flag)) = Some flag
truth_told (Err _) = None

-- the flag in a field, false if it is absent; none if the field is wrong
unfoldable pub truth_in : Bytes → Members → Option Bool
truth_in name fields = truth_told (flag_in name fields)

abbrev pub members_told : Result Members JsonFault → Option Members
members_told (Ok fields) = Some fields
members_told (Err _) = None

-- the fields of a text that is a JSON object
unfoldable pub object_in : Bytes → Option Members
object_in text = members_told (object_of text)

-- ---- pull requests

-- how many messages may be asked for
abbrev pub most_batch : ℕ
most_batch = 2 ^ 31 - 1

-- how many are asked for: 0 is 1
abbrev pub batch_of : ℕ → Option ℕ
batch_of n = if nat_le n most_batch then Some (if n == 0 then 1 else n) else None

-- 0 is no limit
abbrev pub limit_of : ℕ → Option ℕ
limit_of n = if n == 0 then None else Some n

-- so many messages, and nothing else
abbrev pub just : ℕ → Ask
just n = record { batch = n; expires = 0; no_wait = false; max_bytes = None; heartbeat = 0 }

unfoldable pub ask_in : Members → Option Ask
ask_in fields =
    option_and_then (λ number. option_and_then (λ batch. option_and_then (λ expires. option_and_then (λ heartbeat. option_and_then (λ bytes. option_map (λ no_wait.
    record { batch = batch; expires = expires; no_wait = no_wait; max_bytes = limit_of bytes; heartbeat = heartbeat })
    (truth_in (codes "no_wait") fields))
    (natural_in (codes "max_bytes") fields))
    (natural_in (codes "idle_heartbeat") fields))
    (natural_in (codes "expires") fields))
    (batch_of number))
    (natural_in (codes "batch") fields)

abbrev pub ask_by : Result ℕ DecFault → Bytes → Option Ask
ask_by (Ok n) body = option_map just (batch_of n)
ask_by (Err _) body = option_and_then ask_in (object_in body)

-- what the body asks for; none if it is of no form
unfoldable pub ask_of : Bytes → Option Ask
ask_of [] = Some (just 1)
ask_of (byte ∷ more) = ask_by (number_of (byte ∷ more)) (byte ∷ more)
