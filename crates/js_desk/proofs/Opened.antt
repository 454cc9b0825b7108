-- A ground as it begins: places, and a catalog with their streams.
use Rattle.std.proofs.Common.{◌≡◌, ◌≤◌, ℕ, zero, suc, List, [], ◌∷◌, length, map, Option, None, Some, refl, sym, ap, subst, ◌∙◌}
use Rattle.std.specs.Prelude.{option_map, slice_get}
use Rattle.std.proofs.lemmas.List.{length-map}
use Rattle.std.proofs.lemmas.Option.{same_Some}
use Rattle.js_base.specs.Bytes.{Bytes}
use Rattle.js_model.specs.Router.{empty_router}
use Rattle.js_model.specs.Catalog.{Catalog, Place, catalog_of, kept_place, kept_stream}
use Rattle.js_model.specs.PlaceStates.{PlaceIn}
use Rattle.js_api.specs.Worlds.{kept_in, opening, stream_in}
use Rattle.desk_places.specs.declared.turn.Turn.TheVariants.{Outside}
use Rattle.js_desk.specs.Grounds.{HasOneList, IsGrounded, standing}

-- what the catalog has of a place
abbrev cataloged : PlaceIn → Place
cataloged place = kept_place (kept_in place)

there : (places : List PlaceIn) (i : ℕ) (place : Place) (stands : PlaceIn) → slice_get (catalog_of (map kept_in places)) i ≡ Some place → slice_get places i ≡ Some stands → place ≡ cataloged stands
there [] i place stands h k = absurd (cc)
there (p ∷ places) zero place stands h k = sym (same_Some (cataloged p) place h) ∙ ap cataloged (same_Some p stands k)
there (p ∷ places) (suc i) place stands h k = there places i place stands h k

one_list : (stream : Option (Bytes × List Bytes)) → HasOneList (option_map kept_stream stream)
one_list None = tt
one_list (Some stream) = λ going. refl

single : (places : List PlaceIn) (i : ℕ) (place : Place) → slice_get (catalog_of (map kept_in places)) i ≡ Some place → HasOneList place.used
single [] i place h = absurd (cc)
single (p ∷ places) zero place h = subst (λ (q : Place). HasOneList q.used) (same_Some (cataloged p) place h) (one_list (stream_in p.state))
single (p ∷ places) (suc i) place h = single places i place h

pub opened_scene : {V : Type 0} (places : List PlaceIn) (vols : List V) (c : Catalog) → c ≡ catalog_of (map kept_in places)
    → (standing empty_router c places vols 31 None Outside).scene ≡ opening places
opened_scene places vols c is = ap (λ (d : Catalog). (standing empty_router d places vols 31 None Outside).scene) is

pub opened_grounded : (places : List PlaceIn) (c : Catalog) → c ≡ catalog_of (map kept_in places) → length places ≤ 32 → IsGrounded c places None Outside
opened_grounded places c is few = record {
  few = few;
  same = ap length is ∙ length-map (map kept_in places) kept_place ∙ length-map places kept_in;
  single = λ i place h other. single places i place (ap (λ (d : Catalog). slice_get d i) (sym is) ∙ h);
  agreed = λ i place stands h k goes. ap (λ (p : Place). p.incarnation) (there places i place stands (ap (λ (d : Catalog). slice_get d i) (sym is) ∙ h) k);
  within = tt;
}
