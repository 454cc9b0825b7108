-- The bytes of wildcards, by NATS' subject-based messaging.
use Rattle.std.specs.Prelude.{ℕ, Bool, ◌||◌, ◌==◌}

-- `*` or `>`: a token of this byte alone is a wildcard
abbrev pub is_wildcard : ℕ → Bool
is_wildcard byte = byte == 42 || byte == 62
