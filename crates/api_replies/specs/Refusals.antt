-- A refusal as it is shown, by the JetStream API reference.
use Rattle.std.specs.Prelude.{List, [], ◌∷◌, codes}
use Rattle.serde_json.specs.Data.{Data, string, Members, no_members}
use Rattle.js_base.specs.Bytes.{Bytes}
use Rattle.js_base.specs.declared.out.ApiError.{ApiError}
use Rattle.js_json.specs.Building.{with_all, object_with, count}

abbrev pub error_of : ApiError → List (Bytes × Data)
error_of e = (codes "code", count e.code) ∷ (codes "description", string e.text) ∷ (codes "err_code", count e.err_code) ∷ []

abbrev pub refused_of : ApiError → List (Bytes × Data)
refused_of e = (codes "error", object_with (error_of e)) ∷ []

-- the refusal of a call
unfoldable pub refused_members : ApiError → Members
refused_members e = with_all (refused_of e) no_members
