-- Data that is read back from what is written of it.
use Rattle.std.proofs.Common.{◌≡◌, ℕ, zero, suc, ◌<◌, ◌≤◌, ◌^◌, negsuc, Bool, true, false, List, [], ◌∷◌, Some, None, slice_index, decimal, IsUtf8, refl, ap, rules, arith}
use Rattle.std.specs.Prelude.{option_map}
use Rattle.std.specs.Char.{is_ascii_digit}
use Rattle.std.specs.List.{list_all}
use Rattle.std.proofs.lemmas.Bool.{and_parts}
use Rattle.std.proofs.lemmas.Bool.Decides.{nat_tests}
use Rattle.std.proofs.lemmas.Fmt.{digits_decimal}
use Rattle.std.proofs.lemmas.Str.{IsUtf8-from_ascii, IsUtf8-append, IsUtf8-nil}
use Rattle.std.proofs.lemmas.Str.Parse.{IsNumeralModel, numerals_by_weight}
use Rattle.json.specs.Tree as tree
use Rattle.json.proofs.Printed.Decimals.{IsNumber-decimal, IsNumber-signed_decimal}
use Rattle.json.proofs.Printed.Utf8.{IsUtf8-are_ascii, IsUtf8-quoted}
use Rattle.serde_json.specs.Data.{Data, number, string, array, Items, item}
use Rattle.serde_json.specs.Read.{of_json, of_items}
use Rattle.serde_json.specs.Written.{outline, items_outline, compact_text, items_text, comma_if}
use Rattle.serde_json.proofs.Numbers.{number_of-decimal, number_of-negative}
use Rattle.js_base.specs.Bytes.{Bytes}
use Rattle.js_base.specs.Decimal.{value_of}
use Rattle.js_json.specs.Building.{count, limit, texts}

pub record Solid (d : Data) : Type 0 where
  pub back : of_json (outline d) ≡ Some d
  pub numbers : tree.HasNumbers (outline d)
  pub flat : tree.depth (outline d) ≤ 1
  pub utf8 : IsUtf8 (compact_text d)

pub text_solid : (text : Bytes) → IsUtf8 text → Solid (string text)
text_solid text utf8 = record { back = refl; numbers = tt; flat = omega arith; utf8 = IsUtf8-quoted text utf8 }

-- ---- numbers

digits_weigh : IsNumeralModel (λ ds. list_all is_ascii_digit ds ≡ true) value_of
digits_weigh = numerals_by_weight _ (search rules) value_of (search rules)

small_digit : (byte : ℕ) → is_ascii_digit byte ≡ true → byte < 128
small_digit byte h = grind (arith, nat_tests)

digit_at : (text : Bytes) (i : ℕ) → list_all is_ascii_digit text ≡ true → slice_index text i < 128
digit_at [] i h = omega arith
digit_at (byte ∷ more) zero h = small_digit byte (and_parts (is_ascii_digit byte) (list_all is_ascii_digit more) h).0
digit_at (byte ∷ more) (suc i) h = digit_at more i (and_parts (is_ascii_digit byte) (list_all is_ascii_digit more) h).1

decimal_utf8 : (n : ℕ) → n < 2 ^ 64 → IsUtf8 (decimal n)
decimal_utf8 n h = IsUtf8-from_ascii (decimal n) (λ i. digit_at (decimal n) i (digits_decimal digits_weigh n h))

pub count_solid : (n : ℕ) → n < 2 ^ 64 → Solid (count n)
count_solid n h = record { back = ap (option_map number) (number_of-decimal n h); numbers = IsNumber-decimal n h; flat = omega arith; utf8 = decimal_utf8 n h }

pub none_solid : Solid (limit None)
none_solid = record {
  back = ap (option_map number) (number_of-negative 0 (omega arith));
  numbers = IsNumber-signed_decimal (negsuc 0) (omega arith);
  flat = omega arith;
  utf8 = IsUtf8-append (45 ∷ []) (decimal 1) (IsUtf8-are_ascii (45 ∷ []) refl) (decimal_utf8 1 (omega arith));
}

-- ---- lists of texts

abbrev pub EachUtf8 : List Bytes → Type 0
EachUtf8 [] = Unit {0}
EachUtf8 (text ∷ more) = IsUtf8 text × EachUtf8 more

record SolidItems (later : Bool) (ds : Items) : Type 0 where
  back : of_items (items_outline ds) ≡ Some ds
  numbers : tree.ItemsHaveNumbers (items_outline ds)
  flat : tree.items_depth (items_outline ds) ≤ 0
  utf8 : IsUtf8 (items_text later ds)

comma_utf8 : (later : Bool) → IsUtf8 (comma_if later)
comma_utf8 true = IsUtf8-are_ascii (44 ∷ []) refl
comma_utf8 false = IsUtf8-nil

items_solid : (later : Bool) (list : List Bytes) → EachUtf8 list → SolidItems later (texts list)
items_solid later [] utf8 = record { back = refl; numbers = tt; flat = omega arith; utf8 = IsUtf8-are_ascii (93 ∷ []) refl }
items_solid later (text ∷ more) utf8 =
    let rest = items_solid true more utf8.1 in
    record {
      back = ap (option_map (item (string text))) rest.back;
      numbers = (tt, rest.numbers);
      flat = omega (arith, rest.flat);
      utf8 = IsUtf8-append (comma_if later) _ (comma_utf8 later) (IsUtf8-append _ _ (IsUtf8-quoted text utf8.0) rest.utf8);
    }

pub texts_solid : (list : List Bytes) → EachUtf8 list → Solid (array (texts list))
texts_solid list utf8 =
    let items = items_solid false list utf8 in
    record {
      back = ap (option_map array) items.back;
      numbers = items.numbers;
      flat = omega (arith, items.flat);
      utf8 = IsUtf8-append (91 ∷ []) _ (IsUtf8-are_ascii (91 ∷ []) refl) items.utf8;
    }
