-- What the look-ups of the catalog find.
use Rattle.std.proofs.Common.{◌≡◌, ◌<◌, ◌≤◌, ℕ, length, Option, Some, None, refl, ap, ◌∙◌, arith}
use Rattle.std.specs.Prelude.{IfSome}
use Rattle.js_base.specs.Bytes.{Bytes, same}
use Rattle.js_model.specs.declared.desk.PlaceAt.{PlaceAt}
use Rattle.js_model.specs.Catalog as catalog
use Rattle.js_model.specs.Catalog.{Catalog, Place, catalog_call, telling, first_place, or_else, used_above, is_used, if_used, takes_subject}
use Rattle.desk_ground.specs.Grounds.{Knows}
use Rattle.desk_places.specs.declared.turn.Turn.TheVariants.{Outside}
use Rattle.js_desk.specs.Grounds.{AreSingle}
use Rattle.js_desk.proofs.Found.{found, found_within, found_known}

told_at : (x y : Option PlaceAt) (c d : Catalog) → telling (catalog.At x) c ≡ telling (catalog.At y) d → x ≡ y
told_at x y c d e = let told : catalog.At x ≡ catalog.At y = ap (λ (t : catalog.Cataloged). t.told) e in cc

pub find_within : (c : Catalog) (subject : Bytes) (result : Option PlaceAt) (n : ℕ) → catalog_call c (catalog.Find subject) ≡ telling (catalog.At result) c → length c ≡ n → IfSome result (λ at. at.place < n)
unfolding catalog_call
find_within c subject None n k many = tt
find_within c subject (Some at) n k many =
    let test = λ (i : ℕ) (p : Place). if_used (takes_subject subject) p.used in
    omega (arith, found_within test c at (found test 0 c at (told_at _ _ _ _ k)), many)

pub named_within : (c : Catalog) (name : Bytes) (result : Option PlaceAt) (n : ℕ) → catalog_call c (catalog.ByName name) ≡ telling (catalog.At result) c → length c ≡ n → IfSome result (λ at. at.place < n)
unfolding catalog_call
named_within c name None n k many = tt
named_within c name (Some at) n k many =
    let test = λ (i : ℕ) (p : Place). if_used (λ u. same u.name name) p.used in
    omega (arith, found_within test c at (found test 0 c at (told_at _ _ _ _ k)), many)

pub named_known : (c : Catalog) (name : Bytes) (result : Option PlaceAt) → AreSingle Outside c → catalog_call c (catalog.ByName name) ≡ telling (catalog.At result) c → IfSome result (Knows c)
unfolding catalog_call
named_known c name None single k = tt
named_known c name (Some at) single k = found_known (λ u. same u.name name) c at single (told_at _ _ _ _ k)

next_of : (c : Catalog) (after : ℕ) (x : Option PlaceAt) (at : PlaceAt) → first_place (used_above after) 0 c ≡ x → or_else x (first_place (λ n p. is_used p) 0 c) ≡ Some at → at.place < length c
next_of c after None at first e = found_within (λ n p. is_used p) c at (found (λ n p. is_used p) 0 c at e)
next_of c after (Some other) at first e = found_within (used_above after) c at (found (used_above after) 0 c at (first ∙ e))

pub next_within : (c : Catalog) (after : ℕ) (result : Option PlaceAt) (n : ℕ) → catalog_call c (catalog.NextUsed after) ≡ telling (catalog.At result) c → length c ≡ n → IfSome result (λ at. at.place < n)
unfolding catalog_call
next_within c after None n k many = tt
next_within c after (Some at) n k many = omega (arith, next_of c after (first_place (used_above after) 0 c) at refl (told_at _ _ _ _ k), many)

pub next_few : (c : Catalog) (after : ℕ) (result : Option PlaceAt) → catalog_call c (catalog.NextUsed after) ≡ telling (catalog.At result) c → length c ≤ 32 → IfSome result (λ at. at.place < 32)
next_few c after None k few = tt
next_few c after (Some at) k few = let h = next_within c after (Some at) (length c) k refl in omega (arith, h, few)
