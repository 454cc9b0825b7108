-- Moments: nanoseconds since 1970, below 2 ^ 62.
use Rattle.std.specs.Prelude.{ℕ, ◌+◌, ◌-◌, ◌^◌, min}

-- a moment some time later, or the last one
abbrev pub plus : ℕ → ℕ → ℕ
plus at ns = min (at + ns) (2 ^ 62 - 1)
