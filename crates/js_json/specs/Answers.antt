-- What a call answered, and the reading that its definition gives: they are the same, unless memory ran out.
use Rattle.std.specs.Prelude.{◌≡◌, ◌≢◌, Option, None, option_map, Result, Ok, Err, IsErr}
use Rattle.serde_json.specs.Data.{Members}
use Rattle.js_base.specs.Bytes.{Bytes}
use Rattle.js_json.specs.Members.{members}
use Rattle.js_json.specs.declared.fields.Fields.{Fields}
use Rattle.js_json.specs.declared.fault.JsonFault.{JsonFault}
use Rattle.js_json.specs.declared.fault.JsonFault.TheVariants.{NotJson, NotObject, BadField, NoMemory}

-- the reading of an object: memory may run out whatever the bytes are
abbrev pub ReadsObject : Result Fields JsonFault → Result Members JsonFault → Type 0
ReadsObject (Ok fields) reading = reading ≡ Ok (members fields)
ReadsObject (Err NoMemory) reading = Unit {0}
ReadsObject (Err fault) reading = reading ≡ Err fault

-- the reading of a field whose value takes no memory: it runs out for the name of a wrong field alone
abbrev pub Tells : {X : Type 0} → Result X JsonFault → Result X JsonFault → Type 0
Tells (Ok x) reading = reading ≡ Ok x
Tells (Err NoMemory) reading = IsErr reading
Tells (Err fault) reading = reading ≡ Err fault

-- the reading of a field whose value is copied: memory runs out only if the field is there
abbrev pub Copies : {X : Type 0} → Result (Option X) JsonFault → Result (Option X) JsonFault → Type 0
Copies (Ok x) reading = reading ≡ Ok x
Copies (Err NoMemory) reading = reading ≢ Ok None
Copies (Err fault) reading = reading ≡ Err fault

-- that the field with this name is wrong, or that there was no memory to say so
abbrev pub IsWrong : Bytes → JsonFault → Type 0
IsWrong name NotJson = ⊥
IsWrong name NotObject = ⊥
IsWrong name (BadField other) = other ≡ name
IsWrong name NoMemory = Unit {0}

-- a part, by its fields as contracts see them
abbrev pub part_seen : Result (Option Fields) JsonFault → Result (Option Members) JsonFault
part_seen (Ok part) = Ok (option_map members part)
part_seen (Err fault) = Err fault
