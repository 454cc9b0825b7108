-- Which calls of the desk led it from one state to another, and which bytes were added for them.
use Rattle.std.specs.Prelude.{◌≡◌, false, List, ◌++◌}
use Rattle.js_base.specs.Bytes.{Bytes}
use Rattle.js_api.specs.Entries.{DeskEntry}
use Rattle.session.specs.Calling.{Called, entries_of_calls}
use Rattle.session.specs.Gathering.{collected}
use Rattle.session.specs.Stopping.{is_starved}
use Rattle.session.specs.declared.ending.Ended.{Ended}

-- calls of the desk of which P holds led it from the one state to the other, and the bytes of the frames that they gave were added
pub record Adds {D : Type 0} (made : D → List DeskEntry → D → Type 0) (old new : D) (out_old out_new : Bytes) (P : List Called → Type 0) : Type 0 where
  pub calls : List Called
  pub are : P calls
  pub led : made old (entries_of_calls calls) new
  pub written : out_new ≡ out_old ++ collected calls

-- so the bytes are; but if memory ran out, what was added is of no use
abbrev pub IsAdded : Ended → Bytes → Bytes → Type 0
IsAdded cause bytes whole = is_starved cause ≡ false → bytes ≡ whole

-- calls of which P holds with what was said led the desk on, until the session ended by this cause, and what was said was added
pub record Cuts {D : Type 0} (made : D → List DeskEntry → D → Type 0) (cause : Ended) (old new : D) (out_old out_new : Bytes) (P : List Called → Bytes → Type 0) : Type 0 where
  pub calls : List Called
  pub said : Bytes
  pub are : P calls said
  pub led : made old (entries_of_calls calls) new
  pub added : IsAdded cause out_new (out_old ++ said)
