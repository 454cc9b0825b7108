-- A body is read as a pull request, and an object as a delay, exactly if it spells it.
use Rattle.std.proofs.Common.{◌≡◌, ℕ, ◌<◌, ◌≤◌, ◌^◌, ◌==◌, nat_lt, nat_le, ℤ, pos, negsuc, Bool, true, false, ◌⊎◌, inl, inr, [], ◌∷◌, Option, Some, None, Result, Ok, Err, codes, refl, sym, subst, if◌then◌else◌, arith}
use Rattle.std.specs.Prelude.{option_map, option_and_then, IsErr}
use Rattle.std.proofs.lemmas.Bool.Decides.{nat_tests}
use Rattle.std.specs.Str.{is_utf8, chars}
use lib.Utf8.{encode}
use Rattle.serde_json.proofs.OnLiterals.{serde_json_on_literals}
use Rattle.serde_json.specs.Data.{Data, null, boolean, number, string, array, object, Members}
use Rattle.serde_json.specs.Find.{as_bool}
use Rattle.js_base.specs.Bytes.{Bytes}
use Rattle.js_base.specs.Decimal.{number_of}
use Rattle.js_base.specs.declared.decimal.DecFault.{DecFault}
use Rattle.js_json.specs.Fields.{field, taken, number_in, flag_in}
use Rattle.js_json.specs.Kinds.{as_whole}
use Rattle.js_json.specs.Objects.{object_of}
use Rattle.js_json.specs.declared.fault.JsonFault.{JsonFault}
use Rattle.js_json.specs.declared.fault.JsonFault.TheVariants.{NotJson}
use Rattle.js_model.proofs.Named.{some_is}
use Rattle.js_model.specs.declared.ack.Ask.{Ask}
use Rattle.ack_parse.specs.Asks.{natural_told, natural_in, truth_told, truth_in, members_told, object_in, most_batch, batch_of, limit_of, just, ask_in, ask_by, ask_of}
use Rattle.ack_parse.specs.Bodies.{delay_of}
use Rattle.ack_parse.specs.Laws.{LawAsk}
use Rattle.ack_parse.specs.Pulls.{SaysNumber, SaysFlag, SpellsDelay, AsksFor, LimitsTo, SpellsCount, SpellsFields, SpellsAsk}

-- ---- one after the other

record Both {A B : Type 0} (first : Option A) (next : A → Option B) (b : B) : Type 0 where
  found : A
  found_is : first ≡ Some found
  then_is : next found ≡ Some b

both : {A B : Type 0} (first : Option A) (next : A → Option B) (b : B) → option_and_then next first ≡ Some b → Both first next b
both None next b h = absurd (cc)
both (Some a) next b h = record { found = a; found_is = refl; then_is = h }

record Mapped {A B : Type 0} (first : Option A) (f : A → B) (b : B) : Type 0 where
  found : A
  found_is : first ≡ Some found
  made : f found ≡ b

mapped : {A B : Type 0} (first : Option A) (f : A → B) (b : B) → option_map f first ≡ Some b → Mapped first f b
mapped None f b h = absurd (cc)
mapped (Some a) f b h = record { found = a; found_is = refl; made = some_is h }

-- ---- numbers

is_small : (n : ℕ) → nat_lt n (2 ^ 62) ≡ true → n < 2 ^ 62
is_small n h = grind (arith, nat_tests)

small_is : (n : ℕ) → n < 2 ^ 62 → nat_lt n (2 ^ 62) ≡ true
small_is n h = grind (arith, nat_tests)

number_says : (name : Bytes) (fields : Members) (n : ℕ) → natural_in name fields ≡ Some n → SaysNumber name fields n
unfolding natural_in number_in
number_says name fields n h = by (field name fields) refl h
  where
    small : (value : Data) (m : ℕ) (fits : Bool) → field name fields ≡ Some value → as_whole value ≡ Some (pos m) → nat_lt m (2 ^ 62) ≡ fits
        → (if fits then Some m else None) ≡ Some n → SaysNumber name fields n
    small value m true there whole fits h = let same : m ≡ n = some_is h in inr (value, there, subst (λ (x : ℕ). as_whole value ≡ Some (pos x)) same whole, subst (λ (x : ℕ). x < 2 ^ 62) same (is_small m fits))
    small value m false there whole fits h = absurd (cc)

    taken_as : (value : Data) (whole : Option ℤ) → field name fields ≡ Some value → as_whole value ≡ whole → natural_told (taken (λ _. whole) name (Some value)) ≡ Some n → SaysNumber name fields n
    taken_as value None there is h = absurd (cc)
    taken_as value (Some (pos m)) there is h = small value m (nat_lt m (2 ^ 62)) there is refl h
    taken_as value (Some (negsuc m)) there is h = absurd (cc)

    by : (found : Option Data) → field name fields ≡ found → natural_told (taken as_whole name found) ≡ Some n → SaysNumber name fields n
    by None absent h = inl (absent, sym (some_is h))
    by (Some value) there h = taken_as value (as_whole value) there refl h

number_said : (name : Bytes) (fields : Members) (n : ℕ) → SaysNumber name fields n → natural_in name fields ≡ Some n
unfolding natural_in number_in
number_said name fields n (inl (absent, zero)) = rw (absent, zero) refl
number_said name fields n (inr (value, there, whole, small)) = rw (there, whole, small_is n small) refl

-- ---- truth values

flag_says : (name : Bytes) (fields : Members) (flag : Bool) → truth_in name fields ≡ Some flag → SaysFlag name fields flag
unfolding truth_in flag_in
flag_says name fields flag h = by (field name fields) refl h
  where
    by : (found : Option Data) → field name fields ≡ found → truth_told (taken as_bool name found) ≡ Some flag → SaysFlag name fields flag
    by None absent h = inl (absent, sym (some_is h))
    by (Some null) there h = absurd (cc)
    by (Some (boolean value)) there h = inr (subst (λ (x : Bool). field name fields ≡ Some (boolean x)) (some_is h) there)
    by (Some (number n)) there h = absurd (cc)
    by (Some (string text)) there h = absurd (cc)
    by (Some (array items)) there h = absurd (cc)
    by (Some (object of)) there h = absurd (cc)

flag_said : (name : Bytes) (fields : Members) (flag : Bool) → SaysFlag name fields flag → truth_in name fields ≡ Some flag
unfolding truth_in flag_in
flag_said name fields flag (inl (absent, unset)) = rw (absent, unset) refl
flag_said name fields flag (inr there) = rw there refl

-- ---- objects

object_is : (text : Bytes) (fields : Members) → object_in text ≡ Some fields → object_of text ≡ Ok fields
unfolding object_in
object_is text fields h = by (object_of text) refl h
  where
    by : (read : Result Members JsonFault) → object_of text ≡ read → members_told read ≡ Some fields → object_of text ≡ Ok fields
    by (Ok found) is h = subst (λ (x : Members). object_of text ≡ Ok x) (some_is h) is
    by (Err fault) is h = absurd (cc)

is_object : (text : Bytes) (fields : Members) → object_of text ≡ Ok fields → object_in text ≡ Some fields
unfolding object_in
is_object text fields h = rw h refl

-- ---- delays

pub delay_says : (text : Bytes) (delay : ℕ) → delay_of text ≡ Some delay → SpellsDelay text delay
unfolding delay_of
delay_says text delay h =
    let fields = both (object_in text) (λ fields. natural_in (codes "delay") fields) delay h in
    (fields.found, object_is text fields.found fields.found_is, number_says (codes "delay") fields.found delay fields.then_is)

pub delay_said : (text : Bytes) (delay : ℕ) → SpellsDelay text delay → delay_of text ≡ Some delay
unfolding delay_of
delay_said text delay (fields, is, says) = rw (is_object text fields is) (number_said (codes "delay") fields delay says)

-- ---- how many are asked for, and the limit

asks : (messages batch : ℕ) → batch_of messages ≡ Some batch → AsksFor messages batch
asks messages batch h = by (nat_le messages most_batch) (messages == 0) refl refl h
  where
    few : nat_le messages most_batch ≡ true → messages ≤ most_batch
    few h = grind (arith, nat_tests)

    nought : (messages == 0) ≡ true → messages ≡ 0
    nought h = grind (arith, nat_tests)

    some : (messages == 0) ≡ false → 0 < messages
    some h = grind (arith, nat_tests)

    by : (fits zero : Bool) → nat_le messages most_batch ≡ fits → (messages == 0) ≡ zero
        → (if fits then Some (if zero then 1 else messages) else None) ≡ Some batch → AsksFor messages batch
    by true true f z h = (few f, inl (nought z, sym (some_is h)))
    by true false f z h = (few f, inr (some z, sym (some_is h)))
    by false zero f z h = absurd (cc)

asked : (messages batch : ℕ) → AsksFor messages batch → batch_of messages ≡ Some batch
asked messages batch (few, inl (nought, one)) = rw (nought, one) refl
asked messages batch (few, inr (over, same)) = rw (fits few, some over, same) refl
  where
    fits : messages ≤ most_batch → nat_le messages most_batch ≡ true
    fits h = grind (arith, nat_tests)

    some : 0 < messages → (messages == 0) ≡ false
    some h = grind (arith, nat_tests)

limits : (bytes : ℕ) (limit : Option ℕ) → limit_of bytes ≡ limit → LimitsTo bytes limit
limits bytes limit h = by (bytes == 0) refl limit h
  where
    nought : (bytes == 0) ≡ true → bytes ≡ 0
    nought h = grind (arith, nat_tests)

    some : (bytes == 0) ≡ false → 0 < bytes
    some h = grind (arith, nat_tests)

    by : (zero : Bool) → (bytes == 0) ≡ zero → (limit : Option ℕ) → (if zero then None else Some bytes) ≡ limit → LimitsTo bytes limit
    by true z None h = nought z
    by true z (Some most) h = absurd (cc)
    by false z None h = absurd (cc)
    by false z (Some most) h = (some z, sym (some_is h))

limited : (bytes : ℕ) (limit : Option ℕ) → LimitsTo bytes limit → limit_of bytes ≡ limit
limited bytes None h = rw h refl
limited bytes (Some most) (over, same) = rw (some over, same) refl
  where
    some : 0 < bytes → (bytes == 0) ≡ false
    some h = grind (arith, nat_tests)

-- ---- the object of a pull request

fields_say : (body : Bytes) (fields : Members) (ask : Ask) → IsErr (number_of body) → object_of body ≡ Ok fields → ask_in fields ≡ Some ask → SpellsFields body ask
unfolding ask_in
fields_say body fields ask no_decimal is h =
    let messages = both (natural_in (codes "batch") fields) _ ask h in
    let batch = both (batch_of messages.found) _ ask messages.then_is in
    let expires = both (natural_in (codes "expires") fields) _ ask batch.then_is in
    let heartbeat = both (natural_in (codes "idle_heartbeat") fields) _ ask expires.then_is in
    let bytes = both (natural_in (codes "max_bytes") fields) _ ask heartbeat.then_is in
    let no_wait = mapped (truth_in (codes "no_wait") fields) _ ask bytes.then_is in
    let made : record { batch = batch.found; expires = expires.found; no_wait = no_wait.found; max_bytes = limit_of bytes.found; heartbeat = heartbeat.found } ≡ ask = no_wait.made in
    subst (λ (x : Ask). SpellsFields body x) made
    (record {
      fields = fields;
      messages = messages.found;
      bytes = bytes.found;
      no_decimal = no_decimal;
      object = is;
      batch = number_says (codes "batch") fields messages.found messages.found_is;
      batch_is = asks messages.found batch.found batch.found_is;
      expires = number_says (codes "expires") fields expires.found expires.found_is;
      no_wait = flag_says (codes "no_wait") fields no_wait.found no_wait.found_is;
      max_bytes = number_says (codes "max_bytes") fields bytes.found bytes.found_is;
      limit = limits bytes.found (limit_of bytes.found) refl;
      heartbeat = number_says (codes "idle_heartbeat") fields heartbeat.found heartbeat.found_is;
    })

fields_said : (body : Bytes) (ask : Ask) → (s : SpellsFields body ask) → ask_in s.fields ≡ Some ask
unfolding ask_in
fields_said body ask s =
    rw (
      number_said (codes "batch") s.fields s.messages s.batch,
      asked s.messages ask.batch s.batch_is,
      number_said (codes "expires") s.fields ask.expires s.expires,
      number_said (codes "idle_heartbeat") s.fields ask.heartbeat s.heartbeat,
      number_said (codes "max_bytes") s.fields s.bytes s.max_bytes,
      flag_said (codes "no_wait") s.fields ask.no_wait s.no_wait,
      limited s.bytes ask.max_bytes s.limit,
    ) refl

-- ---- pull requests

is_err : (r : Result ℕ DecFault) (fault : DecFault) → r ≡ Err fault → IsErr r
is_err (Ok n) fault h = absurd (cc)
is_err (Err other) fault h = refl

no_object : object_of [] ≡ Err NotJson
unfolding object_of serde_json_on_literals is_utf8 chars encode
no_object = refl

empty_is_no_object : (fields : Members) → object_of [] ≡ Ok fields → ⊥
empty_is_no_object fields h = cc (no_object)

pub ask_says : (body : Bytes) (ask : Ask) → ask_of body ≡ Some ask → SpellsAsk body ask
unfolding ask_of
ask_says [] ask h = inl (refl, sym (some_is h))
ask_says (byte ∷ more) ask h = inr (by (number_of (byte ∷ more)) refl h)
  where
    by : (read : Result ℕ DecFault) → number_of (byte ∷ more) ≡ read → ask_by read (byte ∷ more) ≡ Some ask → SpellsCount (byte ∷ more) ask ⊎ SpellsFields (byte ∷ more) ask
    by (Ok n) is h =
        let batch = mapped (batch_of n) just ask h in
        inl (subst (λ (x : Ask). SpellsCount (byte ∷ more) x) batch.made (n, is, asks n batch.found batch.found_is, refl))
    by (Err fault) is h =
        let fields = both (object_in (byte ∷ more)) ask_in ask h in
        inr (fields_say (byte ∷ more) fields.found ask (is_err _ fault is) (object_is (byte ∷ more) fields.found fields.found_is) fields.then_is)

pub ask_said : (body : Bytes) (ask : Ask) → SpellsAsk body ask → ask_of body ≡ Some ask
unfolding ask_of
ask_said body ask (inl (empty, one)) = rw (empty, one) refl
ask_said [] ask (inr (inl (n, read, asks, alone))) = absurd (cc)
ask_said (byte ∷ more) ask (inr (inl (n, read, asks, alone))) = rw (read, asked n ask.batch asks, sym alone) refl
ask_said [] ask (inr (inr s)) = absurd (empty_is_no_object s.fields s.object)
ask_said (byte ∷ more) ask (inr (inr s)) = by (number_of (byte ∷ more)) refl s.no_decimal
  where
    by : (read : Result ℕ DecFault) → number_of (byte ∷ more) ≡ read → IsErr read → ask_by (number_of (byte ∷ more)) (byte ∷ more) ≡ Some ask
    by (Ok n) is h = absurd (cc)
    by (Err fault) is h = rw (is, is_object (byte ∷ more) s.fields s.object) (fields_said (byte ∷ more) ask s)

pub law_ask : LawAsk
law_ask body ask = (ask_says body ask, ask_said body ask)
