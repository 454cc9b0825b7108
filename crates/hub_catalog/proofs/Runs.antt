-- Runs of a catalog.
use Rattle.std.proofs.Common.{◌≡◌, ◌++◌, Bool, true, false, List, [], ◌∷◌, length, Option, Some, None, inl, inr, refl, sym, ap, subst, ◌∙◌, if◌then◌else◌}
use Rattle.js_base.specs.declared.out.ApiError.{ApiError}
use Rattle.js_model.specs.declared.desk.PlaceAt.{PlaceAt}
use Rattle.js_model.specs.Refusals.{first_refusal, subjects_overlap}
use Rattle.js_model.specs.Catalog.{Catalog, Cataloged, CatCall, CatEntry, CatRun, CatTold, Add, ByName, Change, Done, Find, Keep, NextUsed, Refused, Remove, Stop, IsCatalogCall, add_checks, added, added_at, catalog_call, changing, edited, free_place, freed, keeping, on_used, overlaps_other, stopping, taken_by, telling}
use Rattle.hub_catalog.proofs.Edits.{length-edited}

-- ---- the number of places

answer_length : (c : Catalog) (call : CatCall) → length (catalog_call c call).catalog ≡ length c
unfolding catalog_call
answer_length c (Find subject) = refl
answer_length c (ByName name) = refl
answer_length c (NextUsed after) = refl
answer_length c (Add name subjects) = by (first_refusal (add_checks name subjects c)) (free_place c)
  where
    at : (free : Option PlaceAt) → length (added_at name subjects c free).catalog ≡ length c
    at None = refl
    at (Some free) = length-edited (taken_by name subjects) free.place c

    by : (refusal : Option ApiError) (free : Option PlaceAt) → length (added name subjects c refusal).catalog ≡ length c
    by (Some e) free = refl
    by None free = at (free_place c)
answer_length c (Change place subjects) = by (overlaps_other place subjects c)
  where
    by : (b : Bool) → length (if b then telling (Refused subjects_overlap) c else telling Done (edited (on_used (changing subjects)) place c)).catalog ≡ length c
    by true = refl
    by false = length-edited (on_used (changing subjects)) place c
answer_length c (Keep place new) = length-edited (on_used (keeping new)) place c
answer_length c (Remove place dropped) = length-edited (freed dropped) place c
answer_length c (Stop place) = length-edited (on_used stopping) place c

pub call_length : (c new : Catalog) (call : CatCall) (told : CatTold) → IsCatalogCall c call told new → length new ≡ length c
call_length c new call told (inl h) = ap (λ (x : Cataloged). length x.catalog) (sym h) ∙ answer_length c call
call_length c new call told (inr h) = ap length h.1

pub run_length : (old new : Catalog) (entries : List CatEntry) → CatRun old entries new → length new ≡ length old
run_length old new [] run = ap length (sym run)
run_length old new (entry ∷ entries) (mid, one, more) = run_length mid new entries more ∙ call_length old mid entry.call entry.told one

-- ---- one call more

pub run_more : (old mid new : Catalog) (entries : List CatEntry) (entry : CatEntry) → CatRun old entries mid → IsCatalogCall mid entry.call entry.told new → CatRun old (entries ++ entry ∷ []) new
run_more old mid new [] entry run call = (new, subst (λ (c : Catalog). IsCatalogCall c entry.call entry.told new) (sym run) call, refl)
run_more old mid new (first ∷ entries) entry (next, one, more) call = (next, one, run_more next mid new entries entry more call)
