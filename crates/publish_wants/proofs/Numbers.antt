-- The sequences that a publish asks for are below 2 ^ 62.
use Rattle.std.proofs.Common.{◌≡◌, ℕ, ◌^◌, Bool, true, false, [], ◌∷◌, Option, Some, None, Ok, Err, nat_lt, IsTrue, refl, if◌then◌else◌}
use Rattle.std.proofs.lemmas.Bool.{and_from}
use Rattle.js_base.specs.Bytes.{Bytes}
use Rattle.js_base.specs.Decimal.{value_of, first_bad, small_or}
use Rattle.js_base.specs.declared.decimal.DecFault.TheVariants.{TooBig}
use Rattle.js_model.specs.Configs.{is_number}
use Rattle.js_model.specs.Proper.{if_given}
use Rattle.publish_wants.specs.Wants.{text_in, some_number, number_told, or_none, expected_last, expected_subject_last, is_proper_wants, wants_of}

small_number : (small : Bool) (n : ℕ) → nat_lt n (2 ^ 62) ≡ small → if_given is_number (or_none (some_number (if small then Ok n else Err TooBig))) ≡ true
small_number true n e = e
small_number false n e = refl

small_value : (bad : Option ℕ) (n : ℕ) → if_given is_number (or_none (some_number (small_or bad n))) ≡ true
small_value None n = small_number (nat_lt n (2 ^ 62)) n refl
small_value (Some at) n = refl

small : (value : Option Bytes) → if_given is_number (or_none (number_told value)) ≡ true
small None = refl
small (Some []) = refl
small (Some (byte ∷ more)) = small_value (first_bad (byte ∷ more)) (value_of (byte ∷ more))

pub proper : (block : Bytes) → IsTrue (is_proper_wants (wants_of block))
unfolding wants_of
proper block = and_from _ _ (small (text_in expected_last block)) (small (text_in expected_subject_last block))
