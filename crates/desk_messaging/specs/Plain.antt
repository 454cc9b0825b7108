-- Subjects of none of the server's own calls.
use Rattle.std.specs.Prelude.{◌≡◌, false}
use Rattle.js_base.specs.Bytes.{Bytes}
use Rattle.js_base.specs.ServerSubjects.{is_acknowledgement, is_api}

pub record IsPlain (subject : Bytes) : Type 0 where
  pub api : is_api subject ≡ false
  pub acknowledgement : is_acknowledgement subject ≡ false
