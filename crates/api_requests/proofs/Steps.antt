-- What is known of one reading after the other.
use Rattle.std.proofs.Common.{◌≡◌, Result, Ok, Err, refl}
use Rattle.js_base.specs.declared.out.ApiError.{ApiError}
use Rattle.api_requests.specs.Steps.{◌>>=◌}

pub after : {A B : Type 0} (P : Type 0) (a : Result A ApiError) (next : A → Result B ApiError) (b : B) → (a >>= next) ≡ Ok b → ((x : A) → a ≡ Ok x → next x ≡ Ok b → P) → P
after P (Ok x) next b e go = go x refl e
after P (Err refusal) next b e go = absurd (cc)
