-- How many lists of subjects there are after a call.
use Rattle.std.proofs.Common.{◌≡◌, ◌≢◌, ◌⊎◌, inl, inr, ℕ, Bool, true, false, List, Option, Some, None, Result, Ok, Err, IfSome, refl, sym, ap, subst, ◌∙◌, if◌then◌else◌}
use Rattle.std.specs.Prelude.{◌==◌, IsNone, IsSome, OnErr, OnOk, option_map, slice_get}
use Rattle.std.specs.Option.{IsSomeAnd}
use Rattle.std.proofs.lemmas.Bool.Decides.{eqb_tells}
use Rattle.std.proofs.lemmas.Option.{slice_get-map}
use Rattle.js_base.specs.Bytes.{Bytes}
use Rattle.js_model.specs.declared.desk.PlaceAt.{PlaceAt}
use Rattle.js_model.specs.declared.kept_place.KeptPlace.{KeptPlace}
use Rattle.js_model.specs.declared.catalog_fault.CatalogFault.{CatalogFault}
use Rattle.js_model.specs.Cataloging.{HasPlace, MayChange, change_told}
use Rattle.js_model.specs.Catalog.{Catalog, Cataloged, Place, Used, Change, Done, Keep, NoMemory, Refused, Remove, Stop, IsCatalogCall, catalog_call, catalog_of, changing, edited, edited_used, freed, kept_list, kept_place, kept_stream, keeping, on_used, overlaps_other, stopping, taken_by, telling}
use Rattle.js_model.specs.Refusals.{subjects_overlap}
use Rattle.hub_catalog.specs.Lists.{AreSingle, AreSingleBut, HasChanging, HasOneList, HasSettled, IsChanging, IsSettled}
use Rattle.hub_catalog.proofs.Edits.{edited_here, edited_other}

-- ---- edits

-- what holds of the place that was edited
pub edited_there : (edit : Place → Place) (Q : Place → Type 0) (place : ℕ) (c : Catalog) → IsSomeAnd (slice_get c place) (λ q. Q (edit q)) → IsSomeAnd (slice_get (edited edit place c) place) Q
edited_there edit Q place c h = subst (λ (o : Option Place). IsSomeAnd o Q) (sym (edited_here edit place c)) (at (slice_get c place) h)
  where
    at : (o : Option Place) → IsSomeAnd o (λ q. Q (edit q)) → IsSomeAnd (option_map edit o) Q
    at None h = absurd h
    at (Some q) h = h

pub single_edited : (edit : Place → Place) (place : ℕ) (c : Catalog) → ((q : Place) → HasOneList (edit q)) → AreSingleBut place c → AreSingle (edited edit place c)
single_edited edit place c one others n p there = by (eqb_tells n place)
  where
    at : (o : Option Place) → option_map edit o ≡ Some p → HasOneList p
    at None e = absurd (cc)
    at (Some q) e = let hit : edit q ≡ p = cc in subst HasOneList hit (one q)

    by : (((n == place) ≡ true) × (n ≡ place)) ⊎ (((n == place) ≡ false) × (n ≢ place)) → HasOneList p
    by (inl same) = at (slice_get c place) (sym (edited_here edit place c) ∙ (ap (λ (k : ℕ). slice_get (edited edit place c) k) (sym same.1) ∙ there))
    by (inr other) = others n p (sym (edited_other edit place n c other.1) ∙ there) other.1

but_edited : (edit : Place → Place) (place : ℕ) (c : Catalog) → AreSingle c → AreSingleBut place (edited edit place c)
but_edited edit place c single n p there other = single n p (sym (edited_other edit place n c other) ∙ there)

-- ---- the edits of the calls

pub taken_one : (name : Bytes) (subjects : List Bytes) (p : Place) → HasOneList (taken_by name subjects p)
taken_one name subjects p = λ going. refl

on_one : (edit : Used → Used) (p : Place) → ((u : Used) → (edit u).stopped ≡ false → IsNone (edit u).new_subjects) → HasOneList (on_used edit p)
on_one edit p one = by p.used
  where
    by : (used : Option Used) → IfSome (edited_used edit used) (λ u. u.stopped ≡ false → IsNone u.new_subjects)
    by None = tt
    by (Some u) = one u

kept_one : (new : Bool) (u : Used) → (keeping new u).stopped ≡ false → IsNone (keeping new u).new_subjects
kept_one new u = by u.stopped refl u.new_subjects refl
  where
    by : (stopped : Bool) → u.stopped ≡ stopped → (second : Option (List Bytes)) → u.new_subjects ≡ second
        → (if stopped then u else kept_list new u second).stopped ≡ false → IsNone (if stopped then u else kept_list new u second).new_subjects
    by true is second list going = absurd (let no : true ≡ false = sym is ∙ going in cc)
    by false is None list going = subst (λ (o : Option (List Bytes)). IsNone o) (sym list) refl
    by false is (Some subjects) list going = refl

stopped_one : (u : Used) → (stopping u).stopped ≡ false → IsNone (stopping u).new_subjects
stopped_one u going = absurd (cc)

-- ---- the opening

-- what the places kept
pub kept_single : (kept : List KeptPlace) → AreSingle (catalog_of kept)
kept_single kept n place there = at (slice_get kept n) (sym (slice_get-map kept_place kept n) ∙ there)
  where
    stream : (o : Option (Bytes × List Bytes)) → IfSome (option_map kept_stream o) (λ u. u.stopped ≡ false → IsNone u.new_subjects)
    stream None = tt
    stream (Some s) = λ going. refl

    at : (o : Option KeptPlace) → option_map kept_place o ≡ Some place → HasOneList place
    at None e = absurd (cc)
    at (Some k) e = let hit : kept_place k ≡ place = cc in subst HasOneList hit (stream k.stream)

-- ---- the calls

left_by : (c d new : Catalog) → telling Done d ≡ telling Done new → new ≡ d
left_by c d new e = sym (ap (λ (x : Cataloged). x.catalog) e)

pub keep_single : (c new : Catalog) (place : ℕ) (which : Bool) → catalog_call c (Keep place which) ≡ telling Done new → AreSingleBut place c → AreSingle new
unfolding catalog_call
keep_single c new place which e but =
    subst AreSingle (sym (left_by c (edited (on_used (keeping which)) place c) new e))
    (single_edited (on_used (keeping which)) place c (λ q. on_one (keeping which) q (kept_one which)) but)

pub remove_single : (c new : Catalog) (place : ℕ) (dropped : Bool) → catalog_call c (Remove place dropped) ≡ telling Done new → AreSingleBut place c → AreSingle new
unfolding catalog_call
remove_single c new place dropped e but =
    subst AreSingle (sym (left_by c (edited (freed dropped) place c) new e)) (single_edited (freed dropped) place c (λ q. tt) but)

pub stop_single : (c new : Catalog) (place : ℕ) → catalog_call c (Stop place) ≡ telling Done new → AreSingleBut place c → AreSingle new
unfolding catalog_call
stop_single c new place e but =
    subst AreSingle (sym (left_by c (edited (on_used stopping) place c) new e))
    (single_edited (on_used stopping) place c (λ q. on_one stopping q stopped_one) but)

-- new subjects were put beside the old ones
changed_is : (c new : Catalog) (place : ℕ) (subjects : List Bytes) → IsCatalogCall c (Change place subjects) Done new → new ≡ edited (on_used (changing subjects)) place c
unfolding catalog_call
changed_is c new place subjects (inr h) = absurd (let no : Done ≡ NoMemory = h.0 in cc)
changed_is c new place subjects (inl h) = by (overlaps_other place subjects c) h
  where
    by : (b : Bool) → (if b then telling (Refused subjects_overlap) c else telling Done (edited (on_used (changing subjects)) place c)) ≡ telling Done new → new ≡ edited (on_used (changing subjects)) place c
    by true k = absurd (let no : Refused subjects_overlap ≡ Done = ap (λ (x : Cataloged). x.told) k in cc)
    by false k = left_by c (edited (on_used (changing subjects)) place c) new k

module _ (c new : Catalog) (at : PlaceAt) (subjects : List Bytes) (is : new ≡ edited (on_used (changing subjects)) at.place c) where
  changed_single : AreSingle c → AreSingleBut at.place new
  changed_single single = subst (AreSingleBut at.place) (sym is) (but_edited (on_used (changing subjects)) at.place c single)

  two_lists : (u : Used) → (changing subjects u).stopped ≡ false → IsSome (changing subjects u).new_subjects
  two_lists u = by u.stopped refl
    where
      by : (stopped : Bool) → u.stopped ≡ stopped → (if stopped then u else record u { new_subjects = Some subjects }).stopped ≡ false
          → IsSome (if stopped then u else record u { new_subjects = Some subjects }).new_subjects
      by true is going = absurd (let no : true ≡ false = sym is ∙ going in cc)
      by false is going = refl

  changes : (q : Place) → IsSettled at q → IsChanging at (on_used (changing subjects) q)
  changes q settled = (by q.used settled.0, settled.1)
    where
      by : (used : Option Used) → IsSomeAnd used (λ u. u.stopped ≡ false → IsNone u.new_subjects)
          → IsSomeAnd (edited_used (changing subjects) used) (λ u. u.stopped ≡ false → IsSome u.new_subjects)
      by None h = absurd h
      by (Some u) h = two_lists u

  changed_changing : HasSettled c at → HasChanging new at
  changed_changing settled =
      subst (λ (d : Catalog). HasChanging d at) (sym is) (edited_there (on_used (changing subjects)) (IsChanging at) at.place c (by (slice_get c at.place) settled))
    where
      by : (o : Option Place) → IsSomeAnd o (IsSettled at) → IsSomeAnd o (λ q. IsChanging at (on_used (changing subjects) q))
      by None h = absurd h
      by (Some q) h = changes q h

module _ (c new : Catalog) (at : PlaceAt) (subjects : List Bytes) where
  pub change_single : (result : Result (Unit {0}) CatalogFault) → IsCatalogCall c (Change at.place subjects) (change_told result) new → OnErr result (new ≡ c) → AreSingle c → AreSingleBut at.place new
  change_single (Ok done) call err single = changed_single c new at subjects (changed_is c new at.place subjects call) single
  change_single (Err fault) call err single = λ n p there other. single n p (subst (λ (d : Catalog). slice_get d n ≡ Some p) err there)

  pub change_changing : (result : Result (Unit {0}) CatalogFault) → IsCatalogCall c (Change at.place subjects) (change_told result) new → HasSettled c at → OnOk result (HasChanging new at)
  change_changing (Ok done) call settled = changed_changing c new at subjects (changed_is c new at.place subjects call) settled
  change_changing (Err fault) call settled = tt

-- what may be changed
pub settled_single : (c : Catalog) (at : PlaceAt) → HasSettled c at → HasPlace c at.place MayChange
settled_single c at settled = by (slice_get c at.place) settled
  where
    by : (o : Option Place) → IsSomeAnd o (IsSettled at) → IsSomeAnd o MayChange
    by None h = absurd h
    by (Some q) h = h.0
