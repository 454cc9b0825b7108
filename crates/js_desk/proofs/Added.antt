-- A place that was taken for a new stream, and what the refusals of the catalog tell.
use Rattle.std.proofs.Common.{◌≡◌, ◌<◌, ℕ, Bool, true, false, List, length, Option, Some, None, refl, sym, ap, subst, ◌∙◌, inl, inr, if◌then◌else◌, IsUtf8, arith}
use Rattle.std.specs.Prelude.{not}
use Rattle.std.specs.Str.{is_utf8, chars}
use Rattle.std.specs.Option.{IsSomeAnd}
use lib.Utf8.{encode}
use Rattle.std.proofs.lemmas.Str.{IsUtf8-from_is_utf8}
use Rattle.js_base.specs.Bytes.{Bytes}
use Rattle.js_base.specs.declared.out.ApiError.{ApiError}
use Rattle.js_model.specs.declared.desk.PlaceAt.{PlaceAt}
use Rattle.js_model.specs.Refusals.{first_refusal, other_config, subjects_overlap, no_free_place}
use Rattle.js_model.specs.Catalog as catalog
use Rattle.js_model.specs.Catalog.{Catalog, Place, catalog_call, telling, IsCatalogCall, place_named, is_used, free_place, edited, taken_by, added, added_at, add_checks, overlaps, overlaps_other, is_there}
use Rattle.js_model.specs.Cataloging.{HasPlace}
use Rattle.desk_ground.specs.Grounds.{Knows, IsKnown}
use Rattle.js_desk.proofs.Edits.{edited_there}
use Rattle.js_desk.proofs.Found.{found, found_within, length-with_place}

-- the lowest free place was taken
pub record IsTaken (name : Bytes) (subjects : List Bytes) (at : PlaceAt) (c new : Catalog) : Type 0 where
  pub free : free_place c ≡ Some at
  pub new_is : new ≡ edited (taken_by name subjects) at.place c

pub taken : (name : Bytes) (subjects : List Bytes) (at : PlaceAt) (c new : Catalog) → IsCatalogCall c (catalog.Add name subjects) (catalog.At (Some at)) new → IsTaken name subjects at c new
unfolding catalog_call
taken name subjects at c new (inr h) = absurd (let no : catalog.At (Some at) ≡ catalog.NoMemory = h.0 in cc)
taken name subjects at c new (inl h) = by (first_refusal (add_checks name subjects c)) (free_place c) refl h
  where
    by : (refusal : Option ApiError) (free : Option PlaceAt) → free_place c ≡ free → added name subjects c refusal ≡ telling (catalog.At (Some at)) new → IsTaken name subjects at c new
    by (Some e) free is k = absurd (let no : catalog.Refused e ≡ catalog.At (Some at) = ap (λ (t : catalog.Cataloged). t.told) k in cc)
    by None None is k =
        let none : telling (catalog.Refused no_free_place) c ≡ telling (catalog.At (Some at)) new = ap (λ (o : Option PlaceAt). added_at name subjects c o) (sym is) ∙ k in
        absurd (let no : catalog.Refused no_free_place ≡ catalog.At (Some at) = ap (λ (t : catalog.Cataloged). t.told) none in cc)
    by None (Some free) is k =
        let one : telling (catalog.At (Some free)) (edited (taken_by name subjects) free.place c) ≡ telling (catalog.At (Some at)) new = ap (λ (o : Option PlaceAt). added_at name subjects c o) (sym is) ∙ k in
        let told : catalog.At (Some free) ≡ catalog.At (Some at) = ap (λ (t : catalog.Cataloged). t.told) one in
        let hit : free ≡ at = cc in
        record {
          free = is ∙ ap Some hit;
          new_is = sym (ap (λ (t : catalog.Cataloged). t.catalog) one) ∙ ap (λ (x : PlaceAt). edited (taken_by name subjects) x.place c) hit;
        }

module _ (name : Bytes) (subjects : List Bytes) (at : PlaceAt) (c new : Catalog) (t : IsTaken name subjects at c new) where
  pub taken_within : at.place < length c
  taken_within = found_within (λ n p. not (is_used p)) c at (found (λ n p. not (is_used p)) 0 c at t.free)

  pub taken_length : length new ≡ length c
  taken_length = ap length t.new_is ∙ length-with_place (taken_by name subjects) at.place 0 c

  pub taken_known : Knows new at
  taken_known =
      let f = found (λ n p. not (is_used p)) 0 c at t.free in
      let there = edited_there (taken_by name subjects) at.place 0 f.index c f.place f.number f.there in
      let here : at.place ≡ f.index = omega (arith, f.number) in
      subst (λ (d : Catalog). HasPlace d at.place (IsKnown at)) (sym t.new_is)
      (subst (λ (k : ℕ). HasPlace (edited (taken_by name subjects) at.place c) k (IsKnown at)) (sym here)
      (subst (λ (o : Option Place). IsSomeAnd o (IsKnown at)) (sym there) (record { used = refl; single = λ going. refl; incarnation = f.incarnation })))

-- the refusals of the catalog can be printed
other_config_utf8 : IsUtf8 other_config.text
unfolding is_utf8 chars encode
other_config_utf8 = IsUtf8-from_is_utf8 other_config.text refl

subjects_overlap_utf8 : IsUtf8 subjects_overlap.text
unfolding is_utf8 chars encode
subjects_overlap_utf8 = IsUtf8-from_is_utf8 subjects_overlap.text refl

no_free_place_utf8 : IsUtf8 no_free_place.text
unfolding is_utf8 chars encode
no_free_place_utf8 = IsUtf8-from_is_utf8 no_free_place.text refl

pub refused_utf8 : (name : Bytes) (subjects : List Bytes) (e : ApiError) (c new : Catalog) → IsCatalogCall c (catalog.Add name subjects) (catalog.Refused e) new → IsUtf8 e.text
unfolding catalog_call
refused_utf8 name subjects e c new (inr h) = absurd (let no : catalog.Refused e ≡ catalog.NoMemory = h.0 in cc)
refused_utf8 name subjects e c new (inl h) = by (is_there (place_named name c)) (overlaps subjects c) (not (is_there (free_place c))) h
  where
    one : (x : ApiError) → telling (catalog.Refused x) c ≡ telling (catalog.Refused e) new → IsUtf8 x.text → IsUtf8 e.text
    one x k u = let told : catalog.Refused x ≡ catalog.Refused e = ap (λ (t : catalog.Cataloged). t.told) k in let hit : x ≡ e = cc in subst (λ (y : ApiError). IsUtf8 y.text) hit u

    free : (o : Option PlaceAt) → added_at name subjects c o ≡ telling (catalog.Refused e) new → IsUtf8 e.text
    free None k = one no_free_place k no_free_place_utf8
    free (Some at) k = absurd (let no : catalog.At (Some at) ≡ catalog.Refused e = ap (λ (t : catalog.Cataloged). t.told) k in cc)

    by : (a b d : Bool) → added name subjects c (if a then Some other_config else if b then Some subjects_overlap else if d then Some no_free_place else None) ≡ telling (catalog.Refused e) new → IsUtf8 e.text
    by true b d k = one other_config k other_config_utf8
    by false true d k = one subjects_overlap k subjects_overlap_utf8
    by false false true k = one no_free_place k no_free_place_utf8
    by false false false k = free (free_place c) k

pub overlap_utf8 : (place : ℕ) (subjects : List Bytes) (e : ApiError) (c new : Catalog) → IsCatalogCall c (catalog.Change place subjects) (catalog.Refused e) new → IsUtf8 e.text
unfolding catalog_call
overlap_utf8 place subjects e c new (inr h) = absurd (let no : catalog.Refused e ≡ catalog.NoMemory = h.0 in cc)
overlap_utf8 place subjects e c new (inl h) = by (overlaps_other place subjects c) h
  where
    by : (b : Bool) → (if b then telling (catalog.Refused subjects_overlap) c else telling catalog.Done (edited (catalog.on_used (catalog.changing subjects)) place c)) ≡ telling (catalog.Refused e) new → IsUtf8 e.text
    by true k = let told : catalog.Refused subjects_overlap ≡ catalog.Refused e = ap (λ (t : catalog.Cataloged). t.told) k in let hit : subjects_overlap ≡ e = cc in subst (λ (y : ApiError). IsUtf8 y.text) hit subjects_overlap_utf8
    by false k = absurd (let no : catalog.Done ≡ catalog.Refused e = ap (λ (t : catalog.Cataloged). t.told) k in cc)
