-- What `serde_json` reads, and the object that its reading is.
use Rattle.std.proofs.Common.{◌≡◌, ◌↔◌, List, [], ◌∷◌, length, Bool, true, false, Option, Some, None, option_map, Err, String, Global, refl, sym, ap, ◌∙◌, arith, if◌then◌else◌, IsUtf8, ok_or}
use Rattle.std.proofs.lemmas.Str.{IsUtf8-from_is_utf8, is_utf8-from_IsUtf8}
use Rattle.std.specs.Str.{is_utf8}
use Rattle.serde_json.specs.Data.{Data, no_members}
use Rattle.serde_json.specs.Read.{read}
use Rattle.serde_json.specs.Find.{as_object}
use Rattle.serde_json.specs.View.{members_view}
use Rattle.serde_json.specs.declared.value.Value.{Value}
use Rattle.js_base.specs.Bytes.{Bytes}
use Rattle.js_json.specs.Objects.{object_of, or_no_object, or_no_json}
use Rattle.js_json.specs.Members.{members}
use Rattle.js_json.specs.Answers.{ReadsObject}
use Rattle.js_json.specs.declared.fields.Fields.{Fields}
use Rattle.js_json.specs.declared.fault.JsonFault.TheVariants.{NotJson, NotObject}

-- a value that is read is the object, or none
read_as : (body : Bytes) (value : Data) → IsUtf8 body → read body ≡ Some value → object_of body ≡ or_no_object (as_object value)
unfolding object_of
read_as body value text is = rw (is_utf8-from_IsUtf8 body text, is) refl

reads_as : (body : Bytes) (fields : Option Fields) (value : Data) → option_map members fields ≡ as_object value → object_of body ≡ or_no_object (as_object value) → ReadsObject (ok_or fields NotObject) (object_of body)
reads_as body None value are is = is ∙ ap or_no_object (sym are)
reads_as body (Some fields) value are is = is ∙ ap or_no_object (sym are)

-- the fields of the value that was read
pub reads_fields : (body : Bytes) (fields : Option Fields) (value : Data) → option_map members fields ≡ as_object value → IsUtf8 body → read body ≡ Some value → ReadsObject (ok_or fields NotObject) (object_of body)
reads_fields body fields value are text is = reads_as body fields value are (read_as body value text is)

no_value : (text : Bool) (value : Option Data) → (text ≡ true → value ≡ None) → or_no_json (if text then value else None) ≡ Err NotJson
no_value true value none = rw (none refl) refl
no_value false value none = refl

-- bytes without a value are no JSON
pub reads_none : (body : Bytes) → (IsUtf8 body → read body ≡ None) → object_of body ≡ Err NotJson
unfolding object_of
reads_none body none = no_value (is_utf8 body) (read body) (λ text. none (IsUtf8-from_is_utf8 body text))

-- an object has no field if its map has none
pub no_entries : (es : List (String Global × Value)) → (length es ≡ 0) ↔ (members_view es ≡ no_members)
no_entries [] = (λ _. refl, λ _. refl)
no_entries (e ∷ es) = (λ none. absurd (omega arith), λ none. cc)
