-- Names of streams and consumers, as the JetStream naming rules have them.
use Rattle.std.specs.Prelude.{ℕ, Bool, ◌≡◌, nat_lt, nat_le, ◌&&◌, not, [], ◌∷◌, length, codes, Option, Some, None, position, Result, Ok, Err, IsOk, if◌then◌else◌}
use Rattle.js_base.specs.Bytes.{Bytes, has}
use Rattle.js_base.specs.declared.name.NameFault.{NameFault}
use Rattle.js_base.specs.declared.name.NameFault.TheVariants.{Empty, TooLong, BadByte, NoMemory}

-- a printed ASCII byte that is no dot, wildcard or slash
abbrev pub is_name_byte : ℕ → Bool
is_name_byte byte = nat_le 33 byte && nat_le byte 126 && not (has (codes ".*>/\\") byte)

-- the first byte that may not stand in a name
abbrev pub first_bad : Bytes → Option ℕ
first_bad text = position (λ byte. not (is_name_byte byte)) text

abbrev pub unless_bad : Option ℕ → Bytes → Result Bytes NameFault
unless_bad None text = Ok text
unless_bad (Some at) text = Err (BadByte at)

-- a name of 1 to 255 such bytes, or the first fault: no bytes, too many, a byte that may not stand in it
abbrev pub name_of : Bytes → Result Bytes NameFault
name_of [] = Err Empty
name_of (byte ∷ more) =
    if nat_lt 255 (length (byte ∷ more)) then Err TooLong else unless_bad (first_bad (byte ∷ more)) (byte ∷ more)

-- what was returned is this reading, and memory runs out for a name alone
abbrev pub ReadsName : Result Bytes NameFault → Result Bytes NameFault → Type 0
ReadsName (Ok name) reading = reading ≡ Ok name
ReadsName (Err NoMemory) reading = IsOk reading
ReadsName (Err fault) reading = reading ≡ Err fault
