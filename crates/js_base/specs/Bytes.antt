-- Definitions on bytes and lists that several crates cite.
use Rattle.std.specs.Prelude.{ℕ, ◌-◌, Bool, true, false, ◌||◌, ◌==◌, List, [], ◌∷◌, Option, Some, None, drop, length}
use Rattle.std.specs.List.{list_any}
use Rattle.std.specs.Str.{bytes_eq}

abbrev pub Bytes : Type 0
Bytes = List ℕ

abbrev pub is_empty : {X : Type 0} → List X → Bool
is_empty [] = true
is_empty (_ ∷ _) = false

-- whether two texts are the same, byte by byte
abbrev pub same : Bytes → Bytes → Bool
same = bytes_eq

-- whether two optional texts are the same
abbrev pub same_option : Option Bytes → Option Bytes → Bool
same_option None None = true
same_option None (Some _) = false
same_option (Some _) None = false
same_option (Some a) (Some b) = same a b

abbrev pub crlf : Bytes
crlf = 13 ∷ 10 ∷ []

-- the last n elements
abbrev pub last_of : {X : Type 0} → ℕ → List X → List X
last_of n xs = drop (length xs - n) xs

-- a space or a tab
abbrev pub is_blank : ℕ → Bool
is_blank byte = byte == 32 || byte == 9

-- whether a number is in a list
abbrev pub has : List ℕ → ℕ → Bool
has ns n = list_any (λ m. m == n) ns
