-- The stream that the command line names may be asked for.
use Rattle.std.proofs.Common.{◌≡◌, ℕ, Bool, true, false, [], ◌∷◌, length, Option, None, Some, Result, Ok, Err, refl, sym, ap, subst, ◌∙◌, if◌then◌else◌, IsTrue, arith}
use Rattle.std.specs.Prelude.{is_none, nat_lt, nat_le}
use Rattle.std.specs.Str.{is_utf8, chars}
use Rattle.std.proofs.lemmas.Bool.{and_from}
use Rattle.std.proofs.lemmas.Bool.Decides.{nat_tests}
use Rattle.js_base.specs.Bytes.{Bytes}
use Rattle.js_base.specs.Names.{name_of, unless_bad, first_bad, is_name_byte}
use Rattle.js_base.specs.declared.name.NameFault.{NameFault}
use Rattle.js_base.specs.declared.name.NameFault.TheVariants.{TooLong}
use Rattle.js_base.proofs.Places.{none_fails}
use Rattle.js_model.specs.Configs.{is_name, is_stream_subject, is_stream_config}
use Rattle.js_model.specs.declared.stream_config.StreamConfig.{StreamConfig}
use Rattle.js_model.specs.declared.event.What.TheVariants as whats
use Rattle.stream_config.specs.Defaults.{default_config}
use Rattle.desk_answers.specs.Asking.{MayAsk}

abbrev is_read : Result Bytes NameFault → Bool
is_read (Ok text) = true
is_read (Err fault) = false

-- what is there and within 255 bytes, none of which is bad
pub record IsWhole (long : Bool) (bad : Option ℕ) : Type 0 where
  pub short : long ≡ false
  pub good : is_none bad ≡ true

read_whole : (long : Bool) (bad : Option ℕ) (text : Bytes) → (if long then Err TooLong else unless_bad bad text) ≡ Ok text → IsWhole long bad
read_whole true bad text e = absurd (let no : false ≡ true = ap is_read e in cc)
read_whole false None text e = record { short = refl; good = refl }
read_whole false (Some at) text e = absurd (let no : false ≡ true = ap is_read e in cc)

within : (n : ℕ) → nat_lt 255 n ≡ false → nat_le n 255 ≡ true
within n h = grind (arith, nat_tests)

-- what is read as a name is one
name_is : (text : Bytes) → name_of text ≡ Ok text → is_name text ≡ true
name_is [] e = absurd (let no : false ≡ true = ap is_read e in cc)
name_is (byte ∷ more) e =
    let whole = read_whole (nat_lt 255 (length (byte ∷ more))) (first_bad (byte ∷ more)) (byte ∷ more) e in
    and_from _ _ (within (length (byte ∷ more)) whole.short) (sym (none_fails is_name_byte (byte ∷ more)) ∙ whole.good)

default_is : (name subject : Bytes) → is_name name ≡ true → is_stream_subject subject ≡ true → is_stream_config (default_config name subject) ≡ true
unfolding default_config is_utf8 chars
default_is name subject n s =
    and_from _ _ (and_from _ _ (and_from _ _ (and_from _ _ (and_from _ _ (and_from _ _ (and_from _ _ (and_from _ _ (and_from _ _ (and_from _ _ (and_from _ _ (and_from _ _ (and_from _ _ n refl) refl) refl) (and_from _ _ s refl)) refl) refl) refl) refl) refl) refl) refl) refl) refl

pub may_make_default : (config : StreamConfig) (name subject : Bytes) → config ≡ default_config name subject → name_of config.name ≡ Ok config.name → IsTrue (is_stream_subject subject) → MayAsk (whats.Make None config)
unfolding default_config
may_make_default config name subject is named s =
    let n : name_of name ≡ Ok name = subst (λ (c : StreamConfig). name_of c.name ≡ Ok c.name) is named in
    subst (λ (c : StreamConfig). MayAsk (whats.Make None c)) (sym is) (record {
      reply = refl;
      proper = default_is name subject (name_is name n) s;
      built = tt;
    })
