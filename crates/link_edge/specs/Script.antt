-- A script that a link in memory plays: pieces of bytes and Quiets, and then its end.
use Rattle.std.specs.Prelude.{ℕ, List, [], ◌∷◌, Option, None, Some, length, drop, min, nat_le, flat_map, if◌then◌else◌}
use Rattle.js_base.specs.Bytes.{is_empty}
use Rattle.link_edge.specs.declared.answers.Take.{Take}
use Rattle.link_edge.specs.declared.answers.Take.TheVariants as takes
use Rattle.link_edge.specs.declared.script.Said.{Said}
use Rattle.link_edge.specs.declared.script.Said.TheVariants.{Piece, Quiet}

-- the bytes of a member
abbrev pub said_bytes : Said → List ℕ
said_bytes (Piece bytes) = bytes
said_bytes Quiet = []

-- the bytes of the first member
abbrev pub first_bytes : List Said → List ℕ
first_bytes [] = []
first_bytes (said ∷ more) = said_bytes said

-- the bytes of the first member, if there is one
abbrev pub front_of : List Said → Option (List ℕ)
front_of [] = None
front_of (said ∷ more) = Some (said_bytes said)

-- all bytes of a script
abbrev pub script_bytes : List Said → List ℕ
script_bytes script = flat_map said_bytes script

-- a member without its first bytes
abbrev pub said_without : ℕ → Said → Said
said_without n (Piece bytes) = Piece (drop n bytes)
said_without n Quiet = Quiet

-- a script without the first bytes of its first member
abbrev pub without : ℕ → List Said → List Said
without n [] = []
without n (said ∷ more) = said_without n said ∷ more

-- what is left from a place in a member on
abbrev pub rest_from : List Said → ℕ → ℕ → List Said
rest_from script next offset = without offset (drop next script)

-- what a take with so much room answers
abbrev pub next_take : List Said → ℕ → Take
next_take [] room = takes.Ended
next_take (Quiet ∷ more) room = takes.Quiet
next_take (Piece bytes ∷ more) room =
    if is_empty bytes then takes.Quiet else takes.Got (min (length bytes) room)

-- what is left after it
abbrev pub script_after : List Said → ℕ → List Said
script_after [] room = []
script_after (Quiet ∷ more) room = more
script_after (Piece bytes ∷ more) room =
    if nat_le (length bytes) room then more else (Piece (drop room bytes) ∷ more)
