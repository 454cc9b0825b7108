-- The earlier of two moments.
use Rattle.std.specs.Prelude.{ℕ, min, Option, Some, None}

-- as far as they are there
abbrev pub earlier : Option ℕ → Option ℕ → Option ℕ
earlier None other = other
earlier (Some one) None = Some one
earlier (Some one) (Some other) = Some (min one other)
