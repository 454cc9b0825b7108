-- What a change of the map at one text means for the ids of all texts.
use Rattle.std.proofs.Common.{◌≡◌, Bool, true, false, cond, List, Option, refl, sym, ap, ◌∙◌}
use Rattle.std.specs.Ordering.{nat_cmp, is_eq}
use Rattle.std.specs.Cmp.{eq_by_cmp_equiv}
use Rattle.std.specs.Cmp.Lexicographic.{slice_cmp, nat_list_cmp_total, nat_list_eq_equiv}
use Rattle.std.specs.Map.{lookup, IsKeyTest, AreApart, KeepsOthers}
use Rattle.std.specs.BTreeMap.{UpdatesBy}
use Rattle.std.proofs.lemmas.Map.Text.{is_eq-slice_cmp}
use Rattle.js_base.specs.Bytes.{Bytes, same}
use Rattle.js_base.proofs.Meeting.{same_is}
use Rattle.dedup_window.specs.declared.known.Added.{Added}
use Rattle.dedup_window.specs.declared.known.KnownIds.{KnownIds}
use Rattle.dedup_window.specs.Known.{added_in, Sets}

kept_apart : {K X : Type 0} (eq : K → K → Bool) (test : K → Bool) (old new : List (K × X)) → KeepsOthers eq test old new
    → (other : K → Bool) → IsKeyTest eq other → AreApart test other → lookup other new ≡ lookup other old
unfolding KeepsOthers
kept_apart eq test old new h = h

texts_apart : (here text key : Bytes) → same here text ≡ false → is_eq (slice_cmp nat_cmp here key) ≡ true
    → is_eq (slice_cmp nat_cmp text key) ≡ false
texts_apart here text key n y =
    is_eq-slice_cmp text key ∙ nat_list_eq_equiv.symm text key ∙ sym (nat_list_eq_equiv.congr here key text (sym (is_eq-slice_cmp here key) ∙ y)) ∙ n

pub sets_here : (old new : KnownIds) (here : Bytes) (added : Option Added)
    → UpdatesBy (λ x y. slice_cmp nat_cmp x.items y.items) (λ key. slice_cmp nat_cmp here key.items) old.ids new.ids added → Sets old new here added
sets_here old new here added h = record { at = λ text. go text (same here text) refl }
  where
    go : (text : Bytes) (b : Bool) → same here text ≡ b → added_in new text ≡ cond b added (added_in old text)
    go text true e = ap (added_in new) (sym (same_is here text e)) ∙ h.1
    go text false e =
        kept_apart _ _ old.ids.entries new.ids.entries h.3 _ (λ x y. (eq_by_cmp_equiv nat_list_cmp_total).congr text x.items y.items)
        (λ key. texts_apart here text key.items e)
