-- What the entries of a desk make of each front of its caller.
use Rattle.std.proofs.Common.{◌≡◌, ◌≢◌, ℕ, zero, suc, Bool, true, false, List, [], ◌∷◌, ◌++◌, map, if◌then◌else◌, append_assoc, append-nil, Some, slice_get, slice_set, refl, sym, ap, subst, ◌∙◌, inl, inr}
use Rattle.std.proofs.lemmas.Bool.{cases_eq, eq-eqb, ne_eqb}
use Rattle.std.proofs.lemmas.Option.{same_Some}
use Rattle.js_model.specs.Catalog.{CatCall, CatTold, NextUsed, At}
use Rattle.js_api.specs.Entries.{Hold, entries_in, DeskEntry, Routed, Looked, Turned, Resumed, Held, Stirred, Halted, Missed, Spent}
use Rattle.js_api.specs.Leading.{Leads}
use Rattle.histories.specs.Entries.{Entry, AtPlace}
use Rattle.histories.specs.Lawful.{IsCatalogHistory, IsPlaceHistory, IsRouterHistory}
use Rattle.turn_lock.specs.Calls.{number_of}
use Rattle.turn_lock.specs.Views.{first_of}
use Rattle.turn_lock.specs.Seats.{SeatView}
use Rattle.hub_fronts.specs.Fronts.{Fronts, SharedScene}
use Rattle.hub_fronts.specs.Laws.{HaveGrown}
use Rattle.hub_fronts.specs.Making.{HaveSeen, SeesMore, MakesOne, SharedMade}
use Rattle.hub_fronts.specs.Owning.{routed, looked, held_at, placed}
use Rattle.hub_fronts.specs.Stepping.{routed_by, looked_by, CatalogTurn, SharedStep, AtThePlace, IsSpent, Wears}
use Rattle.hub_fronts.specs.Turns.{HasGrown}
use Rattle.hub_fronts.proofs.Grown.{grown_nothing, grown_more, grown_seen, grown_left, grown_turn, grown_worn}
use Rattle.hub_fronts.proofs.Sets.{get_set, get_other}

-- ---- entries of several

routed-append : (seat : ℕ) (a b : List DeskEntry) → routed seat (a ++ b) ≡ routed seat a ++ routed seat b
routed-append seat [] b = refl
routed-append seat (Routed call told ∷ more) b = ap (λ (l : List Entry). routed_by seat call told ∷ l) (routed-append seat more b)
routed-append seat (Looked joined call told ∷ more) b = routed-append seat more b
routed-append seat (Turned after found ∷ more) b = routed-append seat more b
routed-append seat (Resumed last ∷ more) b = routed-append seat more b
routed-append seat (Held hold ∷ more) b = routed-append seat more b
routed-append seat (Stirred at before after failed ∷ more) b = routed-append seat more b
routed-append seat (Halted at state ∷ more) b = routed-append seat more b
routed-append seat (Missed at kept ∷ more) b = routed-append seat more b
routed-append seat (Spent number ∷ more) b = routed-append seat more b

looked-append : (seat : ℕ) (a b : List DeskEntry) → looked seat (a ++ b) ≡ looked seat a ++ looked seat b
looked-append seat [] b = refl
looked-append seat (Routed call told ∷ more) b = looked-append seat more b
looked-append seat (Looked joined call told ∷ more) b = ap (λ (l : List Entry). looked_by seat call told ∷ l) (looked-append seat more b)
looked-append seat (Turned after found ∷ more) b = ap (λ (l : List Entry). looked_by seat (NextUsed after) (At found) ∷ l) (looked-append seat more b)
looked-append seat (Resumed last ∷ more) b = looked-append seat more b
looked-append seat (Held hold ∷ more) b = looked-append seat more b
looked-append seat (Stirred at before after failed ∷ more) b = looked-append seat more b
looked-append seat (Halted at state ∷ more) b = looked-append seat more b
looked-append seat (Missed at kept ∷ more) b = looked-append seat more b
looked-append seat (Spent number ∷ more) b = looked-append seat more b

placed-append : (place : ℕ) (a b : List DeskEntry) → placed place (a ++ b) ≡ placed place a ++ placed place b
placed-append place [] b = refl
placed-append place (Routed call told ∷ more) b = placed-append place more b
placed-append place (Looked joined call told ∷ more) b = placed-append place more b
placed-append place (Turned after found ∷ more) b = placed-append place more b
placed-append place (Resumed last ∷ more) b = placed-append place more b
placed-append place (Held hold ∷ more) b =
    ap (λ (l : List Entry). held_at place hold ++ l) (placed-append place more b) ∙ sym (append_assoc (held_at place hold) (placed place more) (placed place b))
placed-append place (Stirred at before after failed ∷ more) b = placed-append place more b
placed-append place (Halted at state ∷ more) b = placed-append place more b
placed-append place (Missed at kept ∷ more) b = placed-append place more b
placed-append place (Spent number ∷ more) b = placed-append place more b

-- ---- fronts one after the other

all_more : (first more : List DeskEntry) (a b c : Fronts) → HaveGrown first a b → HaveGrown more b c → HaveGrown (first ++ more) a c
all_more first more a b c f g = record {
  router =
      subst (λ (es : List Entry). HasGrown es a.router c.router) (sym (routed-append (number_of a.router) first more))
      (grown_more _ _ a.router b.router c.router f.router
      (subst (λ (n : ℕ). HasGrown (routed n more) b.router c.router) (ap first_of f.router.numbers) g.router));
  catalog =
      subst (λ (es : List Entry). HasGrown es a.catalog c.catalog) (sym (looked-append (number_of a.catalog) first more))
      (grown_more _ _ a.catalog b.catalog c.catalog f.catalog
      (subst (λ (n : ℕ). HasGrown (looked n more) b.catalog c.catalog) (ap first_of f.catalog.numbers) g.catalog));
  places = λ place was there.
      let mid = f.places place was there in
      let last = g.places place mid.0 mid.1 in (
        last.0,
        last.1,
        subst (λ (es : List Entry). HasGrown es was last.0) (sym (placed-append place first more)) (grown_more _ _ was mid.0 last.0 mid.2 last.2),
      );
}

-- ---- one front alone

stayed : (s t : SeatView) (entries : List Entry) → t ≡ s → entries ≡ [] → HasGrown entries s t
stayed s t entries same none =
    subst (λ (es : List Entry). HasGrown es s t) (sym none) (subst (λ (u : SeatView). HasGrown [] s u) (sym same) (grown_nothing s))

-- the fronts at all places are as they were
places_stayed : (entries : List DeskEntry) (old new : Fronts) → new.places ≡ old.places → ((place : ℕ) → placed place entries ≡ []) → (place : ℕ) (was : SeatView)
    → slice_get old.places place ≡ Some was → (is : SeatView) × (slice_get new.places place ≡ Some is) × HasGrown (placed place entries) was is
places_stayed entries old new same none place was there =
    (was, ap (λ (ps : List SeatView). slice_get ps place) same ∙ there, stayed was was (placed place entries) refl (none place))

router_alone : (entries : List DeskEntry) (old new : Fronts) → new ≡ record old { router = new.router } → HasGrown (routed (number_of old.router) entries) old.router new.router
    → looked (number_of old.catalog) entries ≡ [] → ((place : ℕ) → placed place entries ≡ []) → HaveGrown entries old new
router_alone entries old new same grown unlooked unplaced = record {
  router = grown;
  catalog = stayed old.catalog new.catalog _ (ap (λ (f : Fronts). f.catalog) same) unlooked;
  places = places_stayed entries old new (ap (λ (f : Fronts). f.places) same) unplaced;
}

catalog_alone : (entries : List DeskEntry) (old new : Fronts) → new ≡ record old { catalog = new.catalog } → HasGrown (looked (number_of old.catalog) entries) old.catalog new.catalog
    → routed (number_of old.router) entries ≡ [] → ((place : ℕ) → placed place entries ≡ []) → HaveGrown entries old new
catalog_alone entries old new same grown unrouted unplaced = record {
  router = stayed old.router new.router _ (ap (λ (f : Fronts). f.router) same) unrouted;
  catalog = grown;
  places = places_stayed entries old new (ap (λ (f : Fronts). f.places) same) unplaced;
}

place_alone : (entries : List DeskEntry) (i : ℕ) (IsSo : SeatView → SeatView → Type 0) (old new : Fronts) → AtThePlace i IsSo old new
    → ((s t : SeatView) → IsSo s t → HasGrown (placed i entries) s t) → routed (number_of old.router) entries ≡ [] → looked (number_of old.catalog) entries ≡ []
    → ((place : ℕ) → i ≢ place → placed place entries ≡ []) → HaveGrown entries old new
place_alone entries i IsSo old new at grows unrouted unlooked elsewhere = record {
  router = stayed old.router new.router _ (ap (λ (f : Fronts). f.router) at.same) unrouted;
  catalog = stayed old.catalog new.catalog _ (ap (λ (f : Fronts). f.catalog) at.same) unlooked;
  places = λ place was there.
      let set : new.places ≡ slice_set old.places i at.after = ap (λ (f : Fronts). f.places) at.same in
      elim (cases_eq i place) [
        | inl here ↦
            let is : at.seat ≡ was = same_Some at.seat was (sym at.is_there ∙ ap (λ (k : ℕ). slice_get old.places k) here ∙ there) in (
              at.after,
              ap (λ (ps : List SeatView). slice_get ps place) (set ∙ ap (λ (k : ℕ). slice_set old.places k at.after) here) ∙ get_set old.places place was at.after there,
              subst (λ (k : ℕ). HasGrown (placed k entries) was at.after) here (subst (λ (s : SeatView). HasGrown (placed i entries) s at.after) is (grows at.seat at.after at.is_so)),
            )
        | inr other ↦
            (was, ap (λ (ps : List SeatView). slice_get ps place) set ∙ get_other old.places i place at.after other ∙ there, stayed was was _ refl (elsewhere place other))
      ];
}

-- ---- more that was seen

places_seen : (olds news : List SeatView) → HaveSeen olds news → (place : ℕ) (was : SeatView) → slice_get olds place ≡ Some was
    → (is : SeatView) × (slice_get news place ≡ Some is) × HasGrown [] was is
places_seen [] news seen place was there = let no : ⊥ = cc in absurd no
places_seen (x ∷ xs) [] seen place was there = absurd seen
places_seen (x ∷ xs) (y ∷ ys) seen zero was there = (y, refl, subst (λ (s : SeatView). HasGrown [] s y) (same_Some x was there) (grown_seen x y seen.0))
places_seen (x ∷ xs) (y ∷ ys) seen (suc place) was there = places_seen xs ys seen.1 place was there

all_seen : (old new : SharedScene) → SeesMore old new → HaveGrown [] old.fronts new.fronts
all_seen old new sees = record {
  router = stayed old.fronts.router new.fronts.router [] sees.router refl;
  catalog = stayed old.fronts.catalog new.fronts.catalog [] sees.catalog refl;
  places = places_seen old.fronts.places new.fronts.places sees.places;
}

-- ---- one entry

catalog_grown : (joined : Bool) (call : CatCall) (told : CatTold) (a b : SeatView) → CatalogTurn joined call told a b → HasGrown (looked_by (number_of a) call told ∷ []) a b
catalog_grown true call told a b turn = grown_left IsCatalogHistory _ a b turn
catalog_grown false call told a b turn = grown_turn IsCatalogHistory _ a b turn

held_here : (hold : Hold) → placed hold.at.place (Held hold ∷ []) ≡ map AtPlace (entries_in hold)
held_here hold =
    ap (λ (b : Bool). (if b then map AtPlace (entries_in hold) else []) ++ []) (eq-eqb hold.at.place hold.at.place refl) ∙ append-nil (map AtPlace (entries_in hold))

held_elsewhere : (hold : Hold) (place : ℕ) → hold.at.place ≢ place → placed place (Held hold ∷ []) ≡ []
held_elsewhere hold place other = ap (λ (b : Bool). (if b then map AtPlace (entries_in hold) else []) ++ []) (ne_eqb hold.at.place place other)

spent_grown : (number : ℕ) (old new : Fronts) → IsSpent number old new → HaveGrown (Spent number ∷ []) old new
spent_grown number old new spent =
    elim spent.at [
      | inl at ↦ router_alone (Spent number ∷ []) old new at.1 (grown_worn old.router new.router at.0) refl (λ place. refl)
      | inr (inl at) ↦ catalog_alone (Spent number ∷ []) old new at.1 (grown_worn old.catalog new.catalog at.0) refl (λ place. refl)
      | inr (inr there) ↦ place_alone (Spent number ∷ []) there.0 Wears old new there.1 grown_worn refl refl (λ place other. refl)
    ]

step_grown : (old new : SharedScene) (entry : DeskEntry) → SharedStep old entry new → HaveGrown (entry ∷ []) old.fronts new.fronts
step_grown old new (Routed call told) step =
    router_alone (Routed call told ∷ []) old.fronts new.fronts step.0.1 (grown_turn IsRouterHistory _ old.fronts.router new.fronts.router step.0.0) refl (λ place. refl)
step_grown old new (Looked joined call told) step =
    catalog_alone (Looked joined call told ∷ []) old.fronts new.fronts step.0.1 (catalog_grown joined call told old.fronts.catalog new.fronts.catalog step.0.0) refl (λ place. refl)
step_grown old new (Turned after found) step =
    catalog_alone (Turned after found ∷ []) old.fronts new.fronts step.0.1 (catalog_grown false (NextUsed after) (At found) old.fronts.catalog new.fronts.catalog step.0.0) refl (λ place. refl)
step_grown old new (Resumed last) step =
    let same : new.fronts ≡ old.fronts = ap (λ (s : SharedScene). s.fronts) step.1 in
    record {
      router = stayed old.fronts.router new.fronts.router [] (ap (λ (f : Fronts). f.router) same) refl;
      catalog = stayed old.fronts.catalog new.fronts.catalog [] (ap (λ (f : Fronts). f.catalog) same) refl;
      places = places_stayed (Resumed last ∷ []) old.fronts new.fronts (ap (λ (f : Fronts). f.places) same) (λ place. refl);
    }
step_grown old new (Held hold) step =
    place_alone (Held hold ∷ []) hold.at.place _ old.fronts new.fronts step.0
    (λ s t is. subst (λ (es : List Entry). HasGrown es s t) (sym (held_here hold)) (grown_left IsPlaceHistory _ s t is.leaves.leaves)) refl refl (held_elsewhere hold)
step_grown old new (Stirred at before after failed) step =
    place_alone (Stirred at before after failed ∷ []) at.place _ old.fronts new.fronts step.0 (λ s t is. grown_left IsPlaceHistory [] s t is.leaves.leaves) refl refl (λ place other. refl)
step_grown old new (Halted at state) step =
    place_alone (Halted at state ∷ []) at.place _ old.fronts new.fronts step.0 (λ s t is. grown_left IsPlaceHistory [] s t is.leaves.leaves) refl refl (λ place other. refl)
step_grown old new (Missed at kept) step =
    place_alone (Missed at kept ∷ []) at.place _ old.fronts new.fronts step.0 (λ s t is. grown_left IsPlaceHistory [] s t is.leaves.leaves) refl refl (λ place other. refl)
step_grown old new (Spent number) step = spent_grown number old.fronts new.fronts step.0

-- ---- all entries

led_grown : (old new : SharedScene) (entries : List DeskEntry) → Leads MakesOne old entries new → HaveGrown entries old.fronts new.fronts
led_grown old new [] led = subst (λ (s : SharedScene). HaveGrown [] old.fronts s.fronts) led (all_seen_nothing old)
  where
    all_seen_nothing : (s : SharedScene) → HaveGrown [] s.fronts s.fronts
    all_seen_nothing s = record {
      router = grown_nothing s.fronts.router;
      catalog = grown_nothing s.fronts.catalog;
      places = λ place was there. (was, there, grown_nothing was);
    }
led_grown old new (entry ∷ entries) (mid, one, rest) =
    all_more (entry ∷ []) entries old.fronts mid.fronts new.fronts
    (all_more [] (entry ∷ []) old.fronts one.mid.fronts mid.fronts (all_seen old one.mid one.sees) (step_grown one.mid mid entry one.step))
    (led_grown mid new entries rest)

pub all_grown : (old new : SharedScene) (entries : List DeskEntry) → SharedMade old entries new → HaveGrown entries old.fronts new.fronts
all_grown old new entries made =
    subst (λ (es : List DeskEntry). HaveGrown es old.fronts new.fronts) (append-nil entries)
    (all_more entries [] old.fronts made.mid.fronts new.fronts (led_grown old made.mid entries made.led) (all_seen made.mid new made.sees))
