-- A name is read as itself, and what is read as a name is one.
use Rattle.std.proofs.Common.{◌≡◌, ℕ, Bool, true, false, [], ◌∷◌, Option, Some, None, Ok, Err, nat_lt, nat_le, length, is_none, refl, ◌∙◌, if◌then◌else◌, arith}
use Rattle.std.proofs.lemmas.Bool.Decides.{nat_tests}
use Rattle.js_base.specs.Bytes.{Bytes}
use Rattle.js_base.specs.Names.{name_of, unless_bad, first_bad, is_name_byte}
use Rattle.js_base.specs.declared.name.NameFault.TheVariants.{TooLong}
use Rattle.js_base.proofs.Places.{none_fails}
use Rattle.js_model.specs.Configs.{is_name}
use Rattle.js_model.proofs.NameTexts.{name_parts}

none_bad : (bad : Option ℕ) (text : Bytes) → is_none bad ≡ true → unless_bad bad text ≡ Ok text
none_bad None text h = refl
none_bad (Some at) text h = absurd (cc)

not_long : (n : ℕ) → nat_le n 255 ≡ true → nat_lt 255 n ≡ false
not_long n h = grind (arith, nat_tests)

pub name_back : (name : Bytes) → is_name name ≡ true → name_of name ≡ Ok name
name_back [] h = absurd (cc)
name_back (byte ∷ more) h =
    let parts = name_parts (byte ∷ more) h in
    rw (not_long (length (byte ∷ more)) parts.short) (none_bad (first_bad (byte ∷ more)) (byte ∷ more) (none_fails is_name_byte (byte ∷ more) ∙ parts.bytes))

same_if : (long : Bool) (bad : Option ℕ) (text name : Bytes) → (if long then Err TooLong else unless_bad bad text) ≡ Ok name → text ≡ name
same_if true bad text name h = absurd (cc)
same_if false None text name h = cc
same_if false (Some at) text name h = absurd (cc)

-- what is read of a name is itself
pub same_name : (text name : Bytes) → name_of text ≡ Ok name → text ≡ name
same_name [] name h = absurd (cc)
same_name (byte ∷ more) name h = same_if (nat_lt 255 (length (byte ∷ more))) (first_bad (byte ∷ more)) (byte ∷ more) name h
