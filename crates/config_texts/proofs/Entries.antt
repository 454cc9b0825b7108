-- An object that is made of entries is read back from what is written of it.
use Rattle.std.proofs.Common.{◌≡◌, ℕ, suc, ◌<◌, ◌≤◌, ◌^◌, nat_lt, nat_le, Bool, true, false, ◌&&◌, List, [], ◌∷◌, ◌++◌, Option, Some, None, Result, Ok, Err, codes, IsUtf8, refl, sym, ap, ◌∙◌, subst, arith, append_assoc, append-nil}
use Rattle.std.specs.Prelude.{option_map, option_and_then, if◌then◌else◌}
use Rattle.std.specs.List.{All}
use Rattle.std.proofs.lemmas.Bool.{and_parts}
use Rattle.std.proofs.lemmas.Bool.Decides.{nat_tests}
use Rattle.std.proofs.lemmas.Str.{IsUtf8-append, IsUtf8-nil, is_utf8-from_IsUtf8}
use Rattle.json.specs.Json as json
use Rattle.json.specs.Tree as tree
use Rattle.json.specs.Token.{Token}
use Rattle.json.specs.Lex.{tokens}
use Rattle.json.specs.Print.{print, quoted}
use Rattle.json.proofs.Printed.Tokens.{tokens-print}
use Rattle.json.proofs.Printed.Trees.{ArePrintable-json_tokens, value-json_tokens}
use Rattle.json.proofs.Printed.Utf8.{are_ascii, IsUtf8-are_ascii, IsUtf8-key}
use Rattle.serde_json.specs.Data.{Data, string, object, Members, put}
use Rattle.serde_json.specs.Read.{max_depth, read, of_json, of_members}
use Rattle.serde_json.specs.Written.{outline, members_outline, compact_text, members_text, comma_if, has_float, members_have_float}
use Rattle.serde_json.proofs.Texts.{print-outline}
use Rattle.js_base.specs.Bytes.{Bytes}
use Rattle.js_base.specs.Names.{name_of}
use Rattle.js_json.specs.Building.{count, limit}
use Rattle.js_json.specs.Fields.{field, text_in}
use Rattle.js_json.specs.Objects.{object_of}
use Rattle.js_model.specs.Configs.{is_limit, is_number}
use Rattle.consumer_config.specs.Printing.{text_shown, object_with}
use Rattle.consumer_config.proofs.Shown.{with_nulls, are_apart, fields_same}
use Rattle.config_texts.proofs.Putting.{is_last, with_entry, put_last, none_last}
use Rattle.config_texts.specs.Reading.{allowed, found, name_in}
use Rattle.config_texts.proofs.Names.{same_name}
use Rattle.config_texts.proofs.Solid.{Solid, EachUtf8, text_solid, count_solid, none_solid}

abbrev pub Entries : Type 0
Entries = List (Bytes × Option Data)

-- the entry's value is such a one, if it is shown
abbrev pub OnShown : (Data → Type 0) → Option Data → Type 0
OnShown P None = Unit {0}
OnShown P (Some d) = P d

abbrev pub Each : (Data → Type 0) → Entries → Type 0
Each P [] = Unit {0}
Each P ((_, value) ∷ es) = OnShown P value × Each P es

-- each key is behind those before it
abbrev pub ascend_from : Entries → Entries → Bool
ascend_from done [] = true
ascend_from done ((key, value) ∷ es) = is_last key done && ascend_from (with_entry key value done) es

abbrev pub KeysAreUtf8 : Entries → Type 0
KeysAreUtf8 [] = Unit {0}
KeysAreUtf8 ((key, _) ∷ es) = IsUtf8 key × KeysAreUtf8 es

-- ---- the members are read back

abbrev Back : Entries → Entries → Type 0
Back done es = of_members (members_outline (object_with es)) (object_with done) ≡ Some (object_with (done ++ es))

behind : (done : Entries) (key : Bytes) (value : Option Data) (es : Entries) → Some (object_with (with_entry key value done ++ es)) ≡ Some (object_with (done ++ (key, value) ∷ es))
behind done key value es = ap (λ (all : Entries). Some (object_with all)) (append_assoc done ((key, value) ∷ []) es)

back : (done es : Entries) → ascend_from done es ≡ true → Each Solid es → Back done es
back done [] ascends solid = ap (λ (all : Entries). Some (object_with all)) (sym (append-nil done))
back done ((key, None) ∷ es) ascends solid =
    let parts = and_parts (is_last key done) (ascend_from (with_entry key None done) es) ascends in
    ap (of_members (members_outline (object_with es))) (none_last key done) ∙ back (with_entry key None done) es parts.1 solid.1 ∙ behind done key None es
back done ((key, Some d) ∷ es) ascends solid =
    let parts = and_parts (is_last key done) (ascend_from (with_entry key (Some d) done) es) ascends in
    ap (option_and_then (λ (e : Data). of_members (members_outline (object_with es)) (put key e (object_with done)))) solid.0.back
    ∙ ap (of_members (members_outline (object_with es))) (put_last key d done parts.0) ∙ back (with_entry key (Some d) done) es parts.1 solid.1 ∙ behind done key (Some d) es

-- ---- numbers, depth and texts

numbers : (es : Entries) → Each Solid es → tree.MembersHaveNumbers (members_outline (object_with es))
numbers [] solid = tt
numbers ((key, None) ∷ es) solid = numbers es solid.1
numbers ((key, Some d) ∷ es) solid = (solid.0.numbers, numbers es solid.1)

flat : (es : Entries) → Each Solid es → tree.members_depth (members_outline (object_with es)) ≤ 1
flat [] solid = omega arith
flat ((key, None) ∷ es) solid = flat es solid.1
flat ((key, Some d) ∷ es) solid = omega (arith, solid.0.flat, flat es solid.1)

comma_utf8 : (later : Bool) → IsUtf8 (comma_if later)
comma_utf8 true = IsUtf8-are_ascii (44 ∷ []) refl
comma_utf8 false = IsUtf8-nil

utf8 : (later : Bool) (es : Entries) → Each Solid es → KeysAreUtf8 es → IsUtf8 (members_text later (object_with es))
utf8 later [] solid keys = IsUtf8-are_ascii (125 ∷ []) refl
utf8 later ((key, None) ∷ es) solid keys = utf8 later es solid.1 keys.1
utf8 later ((key, Some d) ∷ es) solid keys =
    IsUtf8-append (comma_if later) (quoted key ++ 58 ∷ (compact_text d ++ members_text true (object_with es))) (comma_utf8 later)
    (subst IsUtf8 (append_assoc (quoted key) (58 ∷ []) (compact_text d ++ members_text true (object_with es))) (IsUtf8-append (quoted key ++ 58 ∷ []) (compact_text d ++ members_text true (object_with es)) (IsUtf8-key key keys.0) (IsUtf8-append (compact_text d) (members_text true (object_with es)) solid.0.utf8 (utf8 true es solid.1 keys.1))))

-- ---- the object

read_tree : (j : json.Json) → tree.HasNumbers j → tree.depth j ≤ max_depth → option_and_then (λ (p : json.Json × List Token). json.if_last p.0 p.1) (json.value max_depth (tokens (print (tree.json_tokens j)))) ≡ Some j
read_tree j numbers shallow =
    ap (option_and_then (λ (p : json.Json × List Token). json.if_last p.0 p.1))
    (ap (json.value max_depth) (tokens-print (tree.json_tokens j) (ArePrintable-json_tokens j numbers) ∙ sym (append-nil (tree.json_tokens j))) ∙ value-json_tokens j max_depth [] shallow)

read_back : (es : Entries) → ascend_from [] es ≡ true → Each Solid es → read (compact_text (object (object_with es))) ≡ Some (object (object_with es))
read_back es ascends solid =
    let d : Data = object (object_with es) in
    ap read (sym (print-outline d)) ∙ ap (option_and_then of_json) (read_tree (outline d) (numbers es solid) (omega (arith, flat es solid))) ∙ ap (option_map object) (back [] es ascends solid)

-- the object is read from its text
pub object_back : (es : Entries) → ascend_from [] es ≡ true → Each Solid es → KeysAreUtf8 es → object_of (compact_text (object (object_with es))) ≡ Ok (object_with es)
unfolding object_of
object_back es ascends solid keys =
    let text_utf8 : IsUtf8 (compact_text (object (object_with es))) = IsUtf8-append (123 ∷ []) _ (IsUtf8-are_ascii (123 ∷ []) refl) (utf8 false es solid keys) in
    rw (is_utf8-from_IsUtf8 (compact_text (object (object_with es))) text_utf8, read_back es ascends solid) refl

-- ---- no float

abbrev pub IsWhole : Data → Type 0
IsWhole d = has_float d ≡ false

pub no_float : (es : Entries) → Each IsWhole es → members_have_float (object_with es) ≡ false
no_float [] whole = refl
no_float ((key, None) ∷ es) whole = no_float es whole.1
no_float ((key, Some d) ∷ es) whole = rw (whole.0) (no_float es whole.1)

-- ---- keys, and the name among them

abbrev pub keys_are_ascii : Entries → Bool
keys_are_ascii [] = true
keys_are_ascii ((key, _) ∷ es) = are_ascii key && keys_are_ascii es

pub keys_utf8 : (es : Entries) → keys_are_ascii es ≡ true → KeysAreUtf8 es
keys_utf8 [] h = tt
keys_utf8 ((key, _) ∷ es) h = let parts = and_parts (are_ascii key) (keys_are_ascii es) h in (IsUtf8-are_ascii key parts.0, keys_utf8 es parts.1)

pub named : (es : Entries) (name : Bytes) → are_apart es ≡ true → field (codes "name") (with_nulls es) ≡ Some (string name) → name_of name ≡ Ok name → name_in (object_with es) ≡ Some name
unfolding name_in text_in
named es name apart there is = rw (fields_same es apart (codes "name"), there, is) refl

-- ---- values

pub text_if : (text : Bytes) → IsUtf8 text → OnShown Solid (text_shown text)
text_if [] utf8 = tt
text_if (byte ∷ more) utf8 = text_solid (byte ∷ more) utf8

pub number_if : (is_0 : Bool) (n : ℕ) → n < 2 ^ 64 → OnShown Solid (if is_0 then None else Some (count n))
number_if true n small = tt
number_if false n small = count_solid n small

pub number_solid : (n : ℕ) → is_number n ≡ true → Solid (count n)
number_solid n h = let small : n < 2 ^ 64 = grind (arith, nat_tests) in count_solid n small

pub limit_solid : (high : ℕ) (n : Option ℕ) → nat_le high (2 ^ 62) ≡ true → is_limit high n ≡ true → Solid (limit n)
limit_solid high None most h = none_solid
limit_solid high (Some n) most h =
    let parts = and_parts (nat_lt 0 n) (nat_le n high) h in
    let small : n < 2 ^ 64 = grind (arith, nat_tests) in
    count_solid n small

pub each_utf8 : (list : List Bytes) → All IsUtf8 list → EachUtf8 list
each_utf8 [] all = tt
each_utf8 (text ∷ more) all = (all 0 text (omega arith), each_utf8 more (λ k d within. all (suc k) d (omega (arith, within))))

-- ---- one reading after the other

pub record Then {A B : Type 0} (next : A → Option B) (first : Option A) (b : B) : Type 0 where
  pub value : A
  pub first_is : first ≡ Some value
  pub then_is : next value ≡ Some b

pub then_some : {A B : Type 0} (next : A → Option B) (first : Option A) (b : B) → option_and_then next first ≡ Some b → Then next first b
then_some next None b h = absurd (cc)
then_some next (Some a) b h = record { value = a; first_is = refl; then_is = h }

pub allowed_back : {X E : Type 0} (r : Result X E) (x : X) → allowed r ≡ Some x → r ≡ Ok x
allowed_back (Ok y) x h = cc
allowed_back (Err e) x h = absurd (cc)

-- what is read as the name that an object says is a name
pub name_is : (fields : Members) (name : Bytes) → name_in fields ≡ Some name → name_of name ≡ Ok name
unfolding name_in
name_is fields name h =
    let said = then_some (λ (text : Bytes). allowed (name_of text)) (found (text_in (codes "name") fields)) name h in
    let is = allowed_back (name_of said.value) name said.then_is in
    subst (λ (text : Bytes). name_of text ≡ Ok name) (same_name said.value name is) is
