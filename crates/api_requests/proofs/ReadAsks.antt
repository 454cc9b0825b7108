-- What is read of the body of a pull request has small numbers.
use Rattle.std.proofs.Common.{◌≡◌, ℕ, ◌-◌, ◌^◌, nat_lt, nat_le, ◌==◌, ◌&&◌, ℤ, pos, negsuc, Bool, true, false, [], ◌∷◌, Option, Some, None, option_map, Result, Ok, Err, codes, refl, subst, if◌then◌else◌, arith}
use Rattle.std.specs.Prelude.{option_and_then}
use Rattle.std.proofs.lemmas.Bool.{and_from}
use Rattle.std.proofs.lemmas.Bool.Decides.{nat_tests}
use Rattle.serde_json.specs.Data.{Members}
use Rattle.js_base.specs.Bytes.{Bytes}
use Rattle.js_base.specs.Decimal.{number_of}
use Rattle.js_base.specs.declared.decimal.DecFault.{DecFault}
use Rattle.js_json.specs.Fields.{number_in}
use Rattle.js_json.specs.declared.fault.JsonFault.{JsonFault}
use Rattle.js_model.specs.declared.ack.Ask.{Ask}
use Rattle.js_model.specs.Configs.{is_number}
use Rattle.js_model.specs.Proper.{if_given, is_proper_ask}
use Rattle.ack_parse.specs.Asks.{natural_told, natural_in, truth_in, object_in, most_batch, batch_of, limit_of, just, ask_in, ask_by, ask_of}

-- ---- numbers

small_by : (n : ℕ) (small : Bool) → nat_lt n (2 ^ 62) ≡ small → if_given is_number (if small then Some n else None) ≡ true
small_by n true is = is
small_by n false is = refl

natural_by : (read : Result (Option ℤ) JsonFault) → if_given is_number (natural_told read) ≡ true
natural_by (Ok None) = refl
natural_by (Ok (Some (pos n))) = small_by n _ refl
natural_by (Ok (Some (negsuc n))) = refl
natural_by (Err fault) = refl

natural_small : (name : Bytes) (fields : Members) → if_given is_number (natural_in name fields) ≡ true
unfolding natural_in
natural_small name fields = natural_by (number_in name fields)

below : (n : ℕ) → nat_le n most_batch ≡ true → is_number n ≡ true
below n h = grind (arith, nat_tests)

batch_by : (n : ℕ) (fits zero : Bool) → nat_le n most_batch ≡ fits → if_given is_number (if fits then Some (if zero then 1 else n) else None) ≡ true
batch_by n true true h = refl
batch_by n true false h = below n h
batch_by n false zero h = refl

batch_small : (n : ℕ) → if_given is_number (batch_of n) ≡ true
batch_small n = batch_by n (nat_le n most_batch) (n == 0) refl

limit_by : (n : ℕ) (zero : Bool) → is_number n ≡ true → if_given is_number (if zero then None else Some n) ≡ true
limit_by n true h = refl
limit_by n false h = h

limit_small : (n : ℕ) → is_number n ≡ true → if_given is_number (limit_of n) ≡ true
limit_small n h = limit_by n (n == 0) h

-- ---- requests

proper_with : (ask : Ask) → is_number ask.batch ≡ true → is_number ask.expires ≡ true → if_given is_number ask.max_bytes ≡ true → is_number ask.heartbeat ≡ true → is_proper_ask ask ≡ true
proper_with ask batch expires bytes heartbeat = and_from _ _ (and_from _ _ (and_from _ _ batch expires) bytes) heartbeat

just_proper : (n : Option ℕ) → if_given is_number n ≡ true → if_given is_proper_ask (option_map just n) ≡ true
just_proper None h = refl
just_proper (Some n) h = proper_with (just n) h refl refl refl

-- the parts of an object, each of which may be wrong
asked : (batch expires heartbeat bytes : ℕ) (no_wait : Option Bool) → is_number batch ≡ true → is_number expires ≡ true → is_number heartbeat ≡ true → is_number bytes ≡ true
    → if_given is_proper_ask (option_map (λ no_wait. record { batch = batch; expires = expires; no_wait = no_wait; max_bytes = limit_of bytes; heartbeat = heartbeat }) no_wait) ≡ true
asked batch expires heartbeat bytes None a b c d = refl
asked batch expires heartbeat bytes (Some no_wait) a b c d =
    proper_with (record { batch = batch; expires = expires; no_wait = no_wait; max_bytes = limit_of bytes; heartbeat = heartbeat }) a b (limit_small bytes d) c

and_then : (n : Option ℕ) (next : ℕ → Option Ask) → if_given is_number n ≡ true → ((m : ℕ) → is_number m ≡ true → if_given is_proper_ask (next m) ≡ true)
    → if_given is_proper_ask (option_and_then next n) ≡ true
and_then None next h go = refl
and_then (Some n) next h go = go n h

in_proper : (fields : Members) → if_given is_proper_ask (ask_in fields) ≡ true
unfolding ask_in
in_proper fields =
    and_then (natural_in (codes "batch") fields) _ (natural_small _ fields)
    (λ number _. and_then (batch_of number) _ (batch_small number)
    (λ batch a. and_then (natural_in (codes "expires") fields) _ (natural_small _ fields)
    (λ expires b. and_then (natural_in (codes "idle_heartbeat") fields) _ (natural_small _ fields)
    (λ heartbeat c. and_then (natural_in (codes "max_bytes") fields) _ (natural_small _ fields)
    (λ bytes d. asked batch expires heartbeat bytes (truth_in (codes "no_wait") fields) a b c d)))))

object_proper : (fields : Option Members) → if_given is_proper_ask (option_and_then ask_in fields) ≡ true
object_proper None = refl
object_proper (Some fields) = in_proper fields

by_proper : (read : Result ℕ DecFault) (body : Bytes) → if_given is_proper_ask (ask_by read body) ≡ true
by_proper (Ok n) body = just_proper (batch_of n) (batch_small n)
by_proper (Err fault) body = object_proper (object_in body)

pub ask_proper : (body : Bytes) → if_given is_proper_ask (ask_of body) ≡ true
unfolding ask_of
ask_proper [] = refl
ask_proper (byte ∷ more) = by_proper (number_of (byte ∷ more)) (byte ∷ more)
