-- The texts of the server's own refusals are UTF-8.
use Rattle.std.proofs.Common.{◌≡◌, IsUtf8, Result, Ok, Err, IfOk, refl, sym, subst}
use Rattle.std.specs.Str.{is_utf8, chars}
use lib.Utf8.{encode}
use Rattle.std.proofs.lemmas.Str.{IsUtf8-from_is_utf8}
use Rattle.js_base.specs.declared.out.ApiError.{ApiError}
use Rattle.js_base.specs.declared.memory.NoMemory.{NoMemory}
use Rattle.js_model.specs.Refusals.{no_stream, store_fault, stream_stopped}
use Rattle.desk_ground.specs.declared.reason.Reason.{Reason}
use Rattle.desk_ground.specs.declared.reason.Reason.TheVariants as reasons
use Rattle.desk_ground.specs.Reasons.{error_of}

error_utf8 : (reason : Reason) → IsUtf8 (error_of reason).text
unfolding is_utf8 chars encode
error_utf8 reasons.NoStream = IsUtf8-from_is_utf8 no_stream.text refl
error_utf8 reasons.StoreFault = IsUtf8-from_is_utf8 store_fault.text refl
error_utf8 reasons.StreamStopped = IsUtf8-from_is_utf8 stream_stopped.text refl

pub refusal_utf8 : (reason : Reason) (told : Result ApiError NoMemory) → IfOk told (λ (e : ApiError). e ≡ error_of reason) → IfOk told (λ (e : ApiError). IsUtf8 e.text)
refusal_utf8 reason (Ok e) is = subst (λ (x : ApiError). IsUtf8 x.text) (sym is) (error_utf8 reason)
refusal_utf8 reason (Err fault) is = tt
