-- A place that was taken for a new stream, and what the refusals of the catalog tell.
use Rattle.std.proofs.Common.{◌≡◌, ◌<◌, ℕ, Bool, true, false, List, length, Option, Some, None, Result, Ok, Err, refl, sym, ap, subst, ◌∙◌, inl, inr, if◌then◌else◌, IsUtf8}
use Rattle.std.specs.Prelude.{not, IfOk, OnErr}
use Rattle.std.specs.Str.{is_utf8, chars}
use Rattle.std.specs.Option.{IsSomeAnd}
use lib.Utf8.{encode}
use Rattle.std.proofs.lemmas.Str.{IsUtf8-from_is_utf8}
use Rattle.js_base.specs.Bytes.{Bytes}
use Rattle.js_base.specs.declared.out.ApiError.{ApiError}
use Rattle.js_model.specs.declared.desk.PlaceAt.{PlaceAt}
use Rattle.js_model.specs.declared.catalog_fault.CatalogFault.{CatalogFault}
use Rattle.js_model.specs.Cataloging.{add_told}
use Rattle.js_model.specs.Refusals.{first_refusal, other_config, subjects_overlap, no_free_place}
use Rattle.js_model.specs.Catalog.{Catalog, Cataloged, CatTold, Place, Add, At, Change, Done, NoMemory, Refused, IsCatalogCall, add_checks, added, added_at, catalog_call, changing, edited, free_place, is_there, is_used, on_used, overlaps, overlaps_other, place_named, taken_by, telling}
use Rattle.hub_catalog.specs.Lists.{AreSingle, HasSettled, HasText, IsSettled}
use Rattle.hub_catalog.proofs.Found.{first_passes, first_within}
use Rattle.hub_catalog.proofs.Singles.{edited_there, single_edited, taken_one}

-- the lowest free place was taken
pub record IsTaken (name : Bytes) (subjects : List Bytes) (at : PlaceAt) (c new : Catalog) : Type 0 where
  pub free : free_place c ≡ Some at
  pub new_is : new ≡ edited (taken_by name subjects) at.place c

pub taken : (name : Bytes) (subjects : List Bytes) (at : PlaceAt) (c new : Catalog) → IsCatalogCall c (Add name subjects) (At (Some at)) new → IsTaken name subjects at c new
unfolding catalog_call
taken name subjects at c new (inr h) = absurd (let no : At (Some at) ≡ NoMemory = h.0 in cc)
taken name subjects at c new (inl h) = by (first_refusal (add_checks name subjects c)) (free_place c) refl h
  where
    by : (refusal : Option ApiError) (free : Option PlaceAt) → free_place c ≡ free → added name subjects c refusal ≡ telling (At (Some at)) new → IsTaken name subjects at c new
    by (Some e) free is k = absurd (let no : Refused e ≡ At (Some at) = ap (λ (x : Cataloged). x.told) k in cc)
    by None None is k =
        let none : telling (Refused no_free_place) c ≡ telling (At (Some at)) new = ap (λ (o : Option PlaceAt). added_at name subjects c o) (sym is) ∙ k in
        absurd (let no : Refused no_free_place ≡ At (Some at) = ap (λ (x : Cataloged). x.told) none in cc)
    by None (Some free) is k =
        let one : telling (At (Some free)) (edited (taken_by name subjects) free.place c) ≡ telling (At (Some at)) new = ap (λ (o : Option PlaceAt). added_at name subjects c o) (sym is) ∙ k in
        let told : At (Some free) ≡ At (Some at) = ap (λ (x : Cataloged). x.told) one in
        let hit : free ≡ at = cc in
        record {
          free = is ∙ ap Some hit;
          new_is = sym (ap (λ (x : Cataloged). x.catalog) one) ∙ ap (λ (x : PlaceAt). edited (taken_by name subjects) x.place c) hit;
        }

module _ (name : Bytes) (subjects : List Bytes) (at : PlaceAt) (c new : Catalog) (is : IsTaken name subjects at c new) where
  pub taken_within : at.place < length c
  taken_within = first_within (λ n p. not (is_used p)) c at is.free

  pub taken_single : AreSingle c → AreSingle new
  taken_single single =
      subst AreSingle (sym is.new_is) (single_edited (taken_by name subjects) at.place c (taken_one name subjects) (λ n p there other. single n p there))

  pub taken_settled : HasSettled new at
  taken_settled =
      let f = first_passes (λ n p. not (is_used p)) c at is.free in
      subst (λ (d : Catalog). HasSettled d at) (sym is.new_is)
      (edited_there (taken_by name subjects) (IsSettled at) at.place c
      (subst (λ (o : Option Place). IsSomeAnd o (λ q. IsSettled at (taken_by name subjects q))) (sym f.there) (λ going. refl, f.incarnation)))

module _ (name : Bytes) (subjects : List Bytes) (c new : Catalog) where
  pub add_within : (result : Result PlaceAt CatalogFault) (places : ℕ) → IsCatalogCall c (Add name subjects) (add_told result) new → length c ≡ places → IfOk result (λ at. at.place < places)
  add_within (Ok at) places call same = subst (λ (n : ℕ). at.place < n) same (taken_within name subjects at c new (taken name subjects at c new call))
  add_within (Err fault) places call same = tt

  pub add_settled : (result : Result PlaceAt CatalogFault) → IsCatalogCall c (Add name subjects) (add_told result) new → IfOk result (HasSettled new)
  add_settled (Ok at) call = taken_settled name subjects at c new (taken name subjects at c new call)
  add_settled (Err fault) call = tt

  pub add_single : (result : Result PlaceAt CatalogFault) → IsCatalogCall c (Add name subjects) (add_told result) new → OnErr result (new ≡ c) → AreSingle c → AreSingle new
  add_single (Ok at) call err single = taken_single name subjects at c new (taken name subjects at c new call) single
  add_single (Err fault) call err single = subst AreSingle (sym err) single

-- ---- refusals

other_config_utf8 : IsUtf8 other_config.text
unfolding is_utf8 chars encode
other_config_utf8 = IsUtf8-from_is_utf8 other_config.text refl

subjects_overlap_utf8 : IsUtf8 subjects_overlap.text
unfolding is_utf8 chars encode
subjects_overlap_utf8 = IsUtf8-from_is_utf8 subjects_overlap.text refl

no_free_place_utf8 : IsUtf8 no_free_place.text
unfolding is_utf8 chars encode
no_free_place_utf8 = IsUtf8-from_is_utf8 no_free_place.text refl

-- what is told is what the call answers
told_as : (a b : CatTold) (c d : Catalog) → telling a c ≡ telling b d → HasText a → HasText b
told_as a b c d e h = subst HasText (ap (λ (x : Cataloged). x.told) e) h

pub add_text : (name : Bytes) (subjects : List Bytes) (told : CatTold) (c new : Catalog) → IsCatalogCall c (Add name subjects) told new → HasText told
unfolding catalog_call
add_text name subjects told c new (inr h) = subst HasText (sym h.0) tt
add_text name subjects told c new (inl h) = by (is_there (place_named name c)) (overlaps subjects c) (not (is_there (free_place c))) h
  where
    free : (o : Option PlaceAt) → added_at name subjects c o ≡ telling told new → HasText told
    free None k = told_as (Refused no_free_place) told c new k no_free_place_utf8
    free (Some at) k = told_as (At (Some at)) told (edited (taken_by name subjects) at.place c) new k tt

    by : (a b d : Bool) → added name subjects c (if a then Some other_config else if b then Some subjects_overlap else if d then Some no_free_place else None) ≡ telling told new → HasText told
    by true b d k = told_as (Refused other_config) told c new k other_config_utf8
    by false true d k = told_as (Refused subjects_overlap) told c new k subjects_overlap_utf8
    by false false true k = told_as (Refused no_free_place) told c new k no_free_place_utf8
    by false false false k = free (free_place c) k

pub change_text : (place : ℕ) (subjects : List Bytes) (told : CatTold) (c new : Catalog) → IsCatalogCall c (Change place subjects) told new → HasText told
unfolding catalog_call
change_text place subjects told c new (inr h) = subst HasText (sym h.0) tt
change_text place subjects told c new (inl h) = by (overlaps_other place subjects c) h
  where
    by : (b : Bool) → (if b then telling (Refused subjects_overlap) c else telling Done (edited (on_used (changing subjects)) place c)) ≡ telling told new → HasText told
    by true k = told_as (Refused subjects_overlap) told c new k subjects_overlap_utf8
    by false k = told_as Done told (edited (on_used (changing subjects)) place c) new k tt
