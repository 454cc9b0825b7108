-- The header that is told as wrong has a name in UTF-8.
use Rattle.std.proofs.Common.{ℕ, Option, Result, Ok, Err, refl}
use Rattle.std.specs.Prelude.{IfSome, IsUtf8}
use Rattle.std.specs.Str.{is_utf8, chars}
use lib.Utf8.{encode}
use Rattle.std.proofs.lemmas.Str.{IsUtf8-from_is_utf8}
use Rattle.js_base.specs.Bytes.{Bytes}
use Rattle.js_base.specs.declared.decimal.DecFault.{DecFault}
use Rattle.publish_wants.specs.Wants.{number_in, first_wrong, expected_last, expected_subject_last, wants_of}

first_told : (last subject_last : Result (Option ℕ) DecFault) → IfSome (first_wrong last subject_last) IsUtf8
unfolding is_utf8 chars encode
first_told (Err fault) subject_last = IsUtf8-from_is_utf8 expected_last refl
first_told (Ok last) (Err fault) = IsUtf8-from_is_utf8 expected_subject_last refl
first_told (Ok last) (Ok subject_last) = tt

pub told : (block : Bytes) → IfSome (wants_of block).bad IsUtf8
unfolding wants_of
told block = first_told (number_in expected_last block) (number_in expected_subject_last block)
