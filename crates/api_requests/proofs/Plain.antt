-- Refusals whose texts are ASCII.
use Rattle.std.proofs.Common.{◌≡◌, nat_lt, List, ◌∷◌, Bool, true, false, Some, Result, Ok, Err, subst, if◌then◌else◌}
use Rattle.std.specs.List.{list_all}
use Rattle.js_base.specs.Bytes.{Bytes}
use Rattle.js_base.specs.declared.out.ApiError.{ApiError}
use Rattle.js_model.specs.Refusals.{Check, first_refusal, invalid_value, not_supported}
use Rattle.api_requests.specs.Steps.{◌>>=◌}

abbrev pub is_ascii : Bytes → Bool
is_ascii text = list_all (λ byte. nat_lt byte 128) text

pub record Plain (refusal : ApiError) : Type 0 where
  pub ascii : is_ascii refusal.text ≡ true

pub wrong_plain : (name : Bytes) → is_ascii name ≡ true → Plain (invalid_value name)
wrong_plain name h = record { ascii = h }

pub left_out_plain : (name : Bytes) → is_ascii name ≡ true → Plain (not_supported name)
left_out_plain name h = record { ascii = h }

-- the refusal that was told is a plain one
pub told : {X : Type 0} (made refusal : ApiError) → ◌≡◌ {A = Result X ApiError} (Err made) (Err refusal) → Plain made → Plain refusal
told made refusal e plain = let same : made ≡ refusal = cc in subst (λ (r : ApiError). Plain r) same plain

-- of one reading after the other, the first that refuses
pub one_of : {A B : Type 0} (a : Result A ApiError) (next : A → Result B ApiError) (refusal : ApiError) → (a >>= next) ≡ Err refusal
    → (a ≡ Err refusal → Plain refusal) → ((x : A) → next x ≡ Err refusal → Plain refusal) → Plain refusal
one_of (Ok x) next refusal e first next_one = next_one x e
one_of (Err r) next refusal e first next_one = first cc

-- a choice of a value or a refusal
pub chosen : {X : Type 0} (good : Bool) (x : X) (made refusal : ApiError) → ◌≡◌ {A = Result X ApiError} (if good then Ok x else Err made) (Err refusal) → Plain made → Plain refusal
chosen true x made refusal e plain = absurd (cc)
chosen false x made refusal e plain = told made refusal e plain

-- and the other way round
pub refused_if : {X : Type 0} (bad : Bool) (x : X) (made refusal : ApiError) → ◌≡◌ {A = Result X ApiError} (if bad then Err made else Ok x) (Err refusal) → Plain made → Plain refusal
refused_if true x made refusal e plain = told made refusal e plain
refused_if false x made refusal e plain = absurd (cc)

-- of one check after the other, the first that fails
pub first_by : (fails : Bool) (made : ApiError) (others : List Check) (refusal : ApiError) → first_refusal ((fails, made) ∷ others) ≡ Some refusal → Plain made
    → (first_refusal others ≡ Some refusal → Plain refusal) → Plain refusal
first_by true made others refusal e plain more = let same : made ≡ refusal = cc in subst (λ (r : ApiError). Plain r) same plain
first_by false made others refusal e plain more = more e
