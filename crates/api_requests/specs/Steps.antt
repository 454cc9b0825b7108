-- One reading after the other.
use Rattle.std.specs.Prelude.{Result, Ok, Err}
use Rattle.js_base.specs.declared.out.ApiError.{ApiError}

-- the first refusal counts
infixl 10 ◌>>=◌
abbrev pub ◌>>=◌ : {A B : Type 0} → Result A ApiError → (A → Result B ApiError) → Result B ApiError
(Ok a) >>= next = next a
(Err refusal) >>= next = Err refusal
