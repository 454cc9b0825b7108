-- What is read of one field of a body, by the JetStream API reference. A field that is null counts as absent; one of another type or out of its range is
-- refused by its name.
use Rattle.std.specs.Prelude.{ℕ, ◌^◌, nat_lt, ◌==◌, ℤ, pos, negsuc, Bool, [], ◌∷◌, Option, Some, None, Result, Ok, Err, if◌then◌else◌}
use Rattle.serde_json.specs.Data.{Members}
use Rattle.js_base.specs.Bytes.{Bytes}
use Rattle.js_base.specs.Subjects.{is_pattern_text, is_subject_text}
use Rattle.js_base.specs.declared.out.ApiError.{ApiError}
use Rattle.js_json.specs.declared.fault.JsonFault.{JsonFault}
use Rattle.js_json.specs.Fields.{number_in as integer_in, text_in as any_text_in, is_given}
use Rattle.js_model.specs.Refusals.{invalid_value, not_supported}
use Rattle.api_requests.specs.Steps.{◌>>=◌}

-- ---- numbers

abbrev pub small_number : Bytes → ℤ → Result (Option ℕ) ApiError
small_number name (pos n) = if nat_lt n (2 ^ 62) then Ok (Some n) else Err (invalid_value name)
small_number name (negsuc _) = Err (invalid_value name)

abbrev pub number_told : Bytes → Result (Option ℤ) JsonFault → Result (Option ℕ) ApiError
number_told name (Ok None) = Ok None
number_told name (Ok (Some z)) = small_number name z
number_told name (Err _) = Err (invalid_value name)

-- a number below 2 ^ 62, if there is one
unfoldable pub number_in : Bytes → Members → Result (Option ℕ) ApiError
number_in name fields = number_told name (integer_in name fields)

abbrev pub unless_0 : Option ℕ → Option ℕ
unless_0 None = None
unless_0 (Some n) = if n == 0 then None else Some n

-- the same, and 0 counts as absent
unfoldable pub positive_in : Bytes → Members → Result (Option ℕ) ApiError
positive_in name fields = do
  number ← number_in name fields
  Ok (unless_0 number)

-- ---- texts

abbrev pub unless_empty : Bytes → Option Bytes
unless_empty [] = None
unless_empty (byte ∷ more) = Some (byte ∷ more)

abbrev pub text_told : Bytes → Result (Option Bytes) JsonFault → Result (Option Bytes) ApiError
text_told name (Ok None) = Ok None
text_told name (Ok (Some text)) = Ok (unless_empty text)
text_told name (Err _) = Err (invalid_value name)

-- a text, if there is one that is not empty
unfoldable pub text_in : Bytes → Members → Result (Option Bytes) ApiError
text_in name fields = text_told name (any_text_in name fields)

abbrev pub given_told : Bytes → Result (Option Bytes) JsonFault → Result (Option Bytes) ApiError
given_told name (Ok text) = Ok text
given_told name (Err _) = Err (invalid_value name)

-- a text, if there is one, which may be empty
unfoldable pub given_text_in : Bytes → Members → Result (Option Bytes) ApiError
given_text_in name fields = given_told name (any_text_in name fields)

abbrev pub only : (Bytes → Bool) → Bytes → Option Bytes → Result (Option Bytes) ApiError
only is name None = Ok None
only is name (Some text) = if is text then Ok (Some text) else Err (invalid_value name)

-- a pattern, if the text is not empty
unfoldable pub pattern_in : Bytes → Members → Result (Option Bytes) ApiError
pattern_in name fields = do
  text ← text_in name fields
  only is_pattern_text name text

-- a subject without wildcards, if the text is not empty
unfoldable pub subject_in : Bytes → Members → Result (Option Bytes) ApiError
subject_in name fields = do
  text ← text_in name fields
  only is_subject_text name text

-- ---- what is left out

-- a field that says nothing: absent, null, an empty text or an empty list
abbrev pub nothing_in : Bytes → Members → Result (Unit {0}) ApiError
nothing_in name fields = if is_given name fields then Err (not_supported name) else Ok tt
