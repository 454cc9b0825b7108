-- What a link's give answers.
use Rattle.std.specs.Prelude.{ℕ, ◌≤◌, List, [], take}
use Rattle.link_edge.specs.declared.answers.Give.{Give}
use Rattle.link_edge.specs.declared.answers.Give.TheVariants.{Gave, Failed, NoMemory}

-- what was given is one byte or more, and no more than there are
abbrev pub IsGiveWithin : Give → ℕ → Type 0
IsGiveWithin (Gave n) len = (1 ≤ n) × (n ≤ len)
IsGiveWithin Failed len = Unit {0}
IsGiveWithin NoMemory len = Unit {0}

-- the bytes that were given
abbrev pub given_bytes : Give → List ℕ → List ℕ
given_bytes (Gave n) bytes = take n bytes
given_bytes Failed bytes = []
given_bytes NoMemory bytes = []
