-- The laws of reading, over all bytes.
use Rattle.std.specs.Prelude.{ℕ, ◌≡◌, ◌<◌, ◌^◌, ◌↔◌, ◌&&◌, nat_lt, true, false, Bool, IsTrue, if◌then◌else◌, List, [], ◌∷◌, ◌++◌, map, Option, Some, None, decimal}
use Rattle.std.specs.List.{list_all}
use Rattle.js_base.specs.Bytes.{Bytes, is_blank, same}
use Rattle.js_base.specs.Headers.{is_block}
use Rattle.js_base.specs.Status.{status, status_text}
use Rattle.nats_headers.specs.declared.fault.HeaderFault.{HeaderFault}
use Rattle.nats_headers.specs.Grammar.{Field, is_text, is_name, Spells, IsBlock, HasFault}
use Rattle.nats_headers.specs.Reading.{block_fault, header, trimmed}

-- what is read without a fault is a block, and what is spelled as a block is read so
abbrev pub LawBlock : Type 0
LawBlock = (block : Bytes) → (block_fault block ≡ None) ↔ IsBlock block

-- the short test of a block is no other
abbrev pub LawTest : Type 0
LawTest = (block : Bytes) → (is_block block ≡ true) ↔ IsBlock block

-- a block is spelled in one way
abbrev pub LawOne : Type 0
LawOne = (start other : Option Bytes) (fields others : List Field) (block : Bytes) → Spells start fields block → Spells other others block →
    (start ≡ other) × (fields ≡ others)

-- a fault is reported exactly if the bytes have it
abbrev pub LawFault : Type 0
LawFault = (block : Bytes) (fault : HeaderFault) → (block_fault block ≡ Some fault) ↔ HasFault fault block

-- bytes have one fault at most
abbrev pub LawOneFault : Type 0
LawOneFault = (block : Bytes) (fault other : HeaderFault) → HasFault fault block → HasFault other block → fault ≡ other

-- and a block has none
abbrev pub LawApart : Type 0
LawApart = (block : Bytes) (fault : HeaderFault) → IsBlock block → HasFault fault block → ⊥

-- the value of the first of the fields with this name
abbrev pub first_of : Bytes → List Field → Option Bytes
first_of name [] = None
first_of name (field ∷ more) = if same field.0 name then Some (trimmed field.1) else first_of name more

-- a header is the first field of its name
abbrev pub LawHeader : Type 0
LawHeader = (name : Bytes) (start : Option Bytes) (fields : List Field) (block : Bytes) → Spells start fields block →
    header name block ≡ first_of name fields

-- a text without blanks at its ends, between blanks
pub record IsBetweenBlanks (text middle : Bytes) : Type 0 where
  pub before : Bytes
  pub after : Bytes
  pub whole : text ≡ before ++ middle ++ after
  pub blank_before : IsTrue (list_all is_blank before)
  pub blank_after : IsTrue (list_all is_blank after)
  pub first : (more : Bytes) (byte : ℕ) → middle ≡ byte ∷ more → is_blank byte ≡ false
  pub last : (more : Bytes) (byte : ℕ) → middle ≡ more ++ byte ∷ [] → is_blank byte ≡ false

abbrev pub LawTrimmed : Type 0
LawTrimmed = (text : Bytes) → IsBetweenBlanks text (trimmed text)

-- a field of a status block, as it is spelled
abbrev pub number_field : Bytes × ℕ → Field
number_field field = (field.0, 32 ∷ decimal field.1)

-- a name, and a number of 64 bits
abbrev pub is_number_field : Bytes × ℕ → Bool
is_number_field field = is_name field.0 && nat_lt field.1 (2 ^ 64)

-- what is written as a status block is read as it was meant
abbrev pub LawStatus : Type 0
LawStatus = (code : ℕ) (text : Bytes) (fields : List (Bytes × ℕ)) → code < 2 ^ 64 → IsTrue (is_text text) → IsTrue (list_all is_number_field fields) →
    Spells (Some (decimal code ++ status_text text)) (map number_field fields) (status code text fields)
