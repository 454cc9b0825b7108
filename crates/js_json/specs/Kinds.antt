-- What a JSON value is taken as.
use Rattle.std.specs.Prelude.{ℕ, ◌^◌, ℤ, pos, neg_ℤ, ◌≤ℤ◌, ◌<ℤ◌, List, [], ◌∷◌, Bool, true, false, not, Option, Some, option_map, option_and_then}
use Rattle.serde_json.specs.Data.{Data, null, boolean, number, string, array, object, Items, no_items, item}
use Rattle.serde_json.specs.Find.{as_number, as_integer, as_str, as_array}
use Rattle.js_base.specs.Bytes.{Bytes, is_empty}
use Rattle.js_json.specs.TimeReading.{time_at}

-- An integer: a number without fraction and exponent that fits 64 bits, with a sign or without. `-0` is none.
abbrev pub as_whole : Data → Option ℤ
as_whole value = option_and_then as_integer (as_number value)

-- from -2^63 to 2^64 - 1
pub record FitsWord (z : ℤ) : Type 0 where
  pub low : neg_ℤ (pos (2 ^ 63)) ≤ℤ z
  pub high : z <ℤ pos (2 ^ 64)

-- each item of a list, if all of them can be taken so
abbrev pub all_as : {X : Type 0} → (Data → Option X) → Items → Option (List X)
all_as kind no_items = Some []
all_as kind (item value more) = option_and_then (λ x. option_map (λ xs. x ∷ xs) (all_as kind more)) (kind value)

-- a list of integers
abbrev pub as_wholes : Data → Option (List ℤ)
as_wholes value = option_and_then (all_as as_whole) (as_array value)

-- a list of texts
abbrev pub as_texts : Data → Option (List Bytes)
as_texts value = option_and_then (all_as as_str) (as_array value)

-- a moment, in a text
abbrev pub as_time : Data → Option ℕ
as_time value = option_and_then time_at (as_str value)

abbrev pub has_items : Items → Bool
has_items no_items = false
has_items (item _ _) = true

-- whether the value is something: not null, no empty text and no empty list
abbrev pub is_something : Data → Bool
is_something null = false
is_something (boolean _) = true
is_something (number _) = true
is_something (string text) = not (is_empty text)
is_something (array items) = has_items items
is_something (object _) = true
