-- What is found in a field of an object: None if the field is absent or null, its value if it has the type and the range, and else that
-- this field is wrong.
use Rattle.std.specs.Prelude.{ℕ, ℤ, List, Bool, false, Option, Some, None, is_some, option_and_then, option_map, unwrap_or, Result, Ok, Err}
use Rattle.serde_json.specs.Data.{Data, null, boolean, number, string, array, object, Members}
use Rattle.serde_json.specs.Find.{get_member, as_bool, as_number, as_str, as_object}
use Rattle.js_base.specs.Bytes.{Bytes}
use Rattle.js_json.specs.Kinds.{as_whole, as_wholes, as_texts, as_time, is_something}
use Rattle.js_json.specs.declared.fault.JsonFault.{JsonFault}
use Rattle.js_json.specs.declared.fault.JsonFault.TheVariants.{BadField}

-- null counts as absent
abbrev pub unless_null : Data → Option Data
unless_null null = None
unless_null (boolean b) = Some (boolean b)
unless_null (number n) = Some (number n)
unless_null (string text) = Some (string text)
unless_null (array items) = Some (array items)
unless_null (object members) = Some (object members)

-- the value of the field with this name
abbrev pub field : Bytes → Members → Option Data
field name members = option_and_then unless_null (get_member name members)

abbrev pub or_bad : {X : Type 0} → Bytes → Option X → Result (Option X) JsonFault
or_bad name None = Err (BadField name)
or_bad name (Some x) = Ok (Some x)

-- a field's value, taken as this kind
abbrev pub taken : {X : Type 0} → (Data → Option X) → Bytes → Option Data → Result (Option X) JsonFault
taken kind name None = Ok None
taken kind name (Some value) = or_bad name (kind value)

-- true or false
unfoldable pub flag_in : Bytes → Members → Result (Option Bool) JsonFault
flag_in name members = taken as_bool name (field name members)

-- an integer
unfoldable pub number_in : Bytes → Members → Result (Option ℤ) JsonFault
number_in name members = taken as_whole name (field name members)

-- a list of integers
unfoldable pub numbers_in : Bytes → Members → Result (Option (List ℤ)) JsonFault
numbers_in name members = taken as_wholes name (field name members)

-- a text
unfoldable pub text_in : Bytes → Members → Result (Option Bytes) JsonFault
text_in name members = taken as_str name (field name members)

-- a list of texts
unfoldable pub texts_in : Bytes → Members → Result (Option (List Bytes)) JsonFault
texts_in name members = taken as_texts name (field name members)

-- a moment
unfoldable pub time_in : Bytes → Members → Result (Option ℕ) JsonFault
time_in name members = taken as_time name (field name members)

-- an object
unfoldable pub part_in : Bytes → Members → Result (Option Members) JsonFault
part_in name members = taken as_object name (field name members)

abbrev pub is_some_number : Data → Bool
is_some_number value = is_some (as_number value)

-- whether the field is a number of any kind, an integer or not
unfoldable pub is_number : Bytes → Members → Bool
is_number name members = unwrap_or (option_map is_some_number (get_member name members)) false

-- whether the field says something: it is there and not null, no empty text and no empty list
unfoldable pub is_given : Bytes → Members → Bool
is_given name members = unwrap_or (option_map is_something (get_member name members)) false
