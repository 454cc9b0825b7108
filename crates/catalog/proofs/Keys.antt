-- What a change of the map at one name means for the places of all names.
use Rattle.std.proofs.Common.{◌≡◌, ℕ, Bool, true, false, cond, List, Option, refl, sym, ap, ◌∙◌}
use Rattle.std.specs.Ordering.{nat_cmp, is_eq}
use Rattle.std.specs.Cmp.{eq_by_cmp_equiv}
use Rattle.std.specs.Cmp.Lexicographic.{slice_cmp, nat_list_cmp_total, nat_list_eq_equiv}
use Rattle.std.specs.Map.{lookup, IsKeyTest, AreApart, KeepsOthers}
use Rattle.std.specs.BTreeMap.{UpdatesBy}
use Rattle.std.proofs.lemmas.Map.Text.{is_eq-slice_cmp}
use Rattle.js_base.specs.Bytes.{Bytes, same}
use Rattle.js_base.proofs.Meeting.{same_is}
use Rattle.catalog.specs.declared.names.Names.{Names}
use Rattle.catalog.specs.Names.{place_in, Sets}

kept_apart : {K X : Type 0} (eq : K → K → Bool) (test : K → Bool) (old new : List (K × X)) → KeepsOthers eq test old new → (other : K → Bool) → IsKeyTest eq other → AreApart test other → lookup other new ≡ lookup other old
unfolding KeepsOthers
kept_apart eq test old new h = h

texts_apart : (here name key : Bytes) → same here name ≡ false → is_eq (slice_cmp nat_cmp here key) ≡ true → is_eq (slice_cmp nat_cmp name key) ≡ false
texts_apart here name key n y =
    is_eq-slice_cmp name key ∙ nat_list_eq_equiv.symm name key ∙ sym (nat_list_eq_equiv.congr here key name (sym (is_eq-slice_cmp here key) ∙ y)) ∙ n

pub sets_here : (old new : Names) (here : Bytes) (place : Option ℕ) → UpdatesBy (λ x y. slice_cmp nat_cmp x.items y.items) (λ key. slice_cmp nat_cmp here key.items) old.places new.places place
    → Sets old new here place
sets_here old new here place h = record { at = λ name. go name (same here name) refl }
  where
    go : (name : Bytes) (b : Bool) → same here name ≡ b → place_in new name ≡ cond b place (place_in old name)
    go name true e = ap (place_in new) (sym (same_is here name e)) ∙ h.1
    go name false e =
        kept_apart _ _ old.places.entries new.places.entries h.3 _ (λ x y. (eq_by_cmp_equiv nat_list_cmp_total).congr name x.items y.items) (λ key. texts_apart here name key.items e)
