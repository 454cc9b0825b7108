-- The lines that a run prints.
use Rattle.std.specs.Prelude.{ℕ, ◌==◌, ◌||◌, List, [], ◌∷◌, ◌++◌, codes, decimal, length, map, take, nat_le, nat_lt, if◌then◌else◌}
use Rattle.std.specs.List.{concat}
use Rattle.js_base.specs.Bytes.{Bytes}
use Rattle.server.specs.declared.printing.Part.{Part}
use Rattle.server.specs.declared.printing.Part.TheVariants.{Text, Number, Word}

-- a control byte is shown as a question mark
abbrev pub shown_byte : ℕ → ℕ
shown_byte byte = if nat_le byte 31 || (byte == 127) then 63 else byte

-- what is shown of a word: 64 bytes at most
abbrev pub shown : Bytes → Bytes
shown word = map shown_byte (take 64 word)

-- and dots behind those of a longer one
abbrev pub dots_of : Bytes → Bytes
dots_of word = if nat_le (length word) 64 then [] else codes "..."

-- a number is printed in decimal, and of a word what is shown of it
abbrev pub part_bytes : Part → Bytes
part_bytes (Text text) = text.now
part_bytes (Number number) = decimal number
part_bytes (Word word) = shown word.now

-- the parts one after the other, and LF
abbrev pub line_of : List Bytes → Bytes
line_of parts = concat parts ++ 10 ∷ []

abbrev pub number_line : ℕ → Bytes
number_line number = line_of (decimal number ∷ [])

-- the zeros before the number of a place in the name of its folder, which has two digits
abbrev pub place_zeros : ℕ → Bytes
place_zeros place = if nat_lt place 10 then codes "0" else []

-- and before that of a file, which has five
abbrev pub file_zeros : ℕ → Bytes
file_zeros file =
    if nat_lt file 10 then codes "0000"
    else (if nat_lt file 100 then codes "000" else (if nat_lt file 1000 then codes "00" else (if nat_lt file 10000 then codes "0" else [])))

-- the volume of this place failed
abbrev pub disk_fault_line : ℕ → Bytes
disk_fault_line place = line_of (codes "disk fault in place-" ∷ place_zeros place ∷ decimal place ∷ [])

-- the bytes at this offset of a file of the place are none that the server writes
abbrev pub damaged_line : (place file at : ℕ) → Bytes
damaged_line place file at = line_of (codes "damaged place-" ∷ place_zeros place ∷ decimal place ∷ codes "/f" ∷ file_zeros file ∷ decimal file ∷ codes " at " ∷ decimal at ∷ [])

-- what a volume holds is written in this version
abbrev pub version_line : (version place : ℕ) → Bytes
version_line version place = line_of (codes "unknown version " ∷ decimal version ∷ codes " in place-" ∷ place_zeros place ∷ decimal place ∷ [])

-- there is no room for what this place may have to write
abbrev pub no_room_line : ℕ → Bytes
no_room_line place = line_of (codes "no room for place-" ∷ place_zeros place ∷ decimal place ∷ [])

-- the streams of these places share a name or a subject
abbrev pub conflict_line : (first second : ℕ) → Bytes
conflict_line first second = line_of (codes "place-" ∷ place_zeros first ∷ decimal first ∷ codes " and place-" ∷ place_zeros second ∷ decimal second ∷ codes " conflict" ∷ [])
