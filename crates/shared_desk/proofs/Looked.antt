-- Calls of the catalog by a caller of many, as the entries that they make.
use Rattle.std.proofs.Common.{◌≡◌, ◌<◌, ◌≤◌, ℕ, Bool, true, false, List, [], ◌∷◌, Option, Some, None, Result, Ok, Err, IfErr, IfOk, IfSome, IsErrAnd, refl, sym, ap, subst, ◌∙◌, inl, inr, arith}
use Rattle.js_model.specs.declared.desk.PlaceAt.{PlaceAt}
use Rattle.js_model.specs.Catalog as catalog
use Rattle.js_model.specs.Catalog.{CatCall, CatTold}
use Rattle.js_api.specs.declared.fault.DeskFault.{DeskFault}
use Rattle.js_api.specs.declared.fault.DeskFault.TheVariants as faults
use Rattle.js_api.specs.Calls.{Resumes, Turns}
use Rattle.js_api.specs.Entries.{DeskEntry, Looked, Turned, Resumed, Spent}
use Rattle.js_api.specs.Leading.{Makes}
use Rattle.js_api.specs.Stages.{LooksUp}
use Rattle.js_api.specs.Worlds.{place_or}
use Rattle.histories.specs.Lawful.{IsCatalogHistory}
use Rattle.turn_lock.specs.Calls.{worn}
use Rattle.turn_lock.specs.Ruled.{last_ticket}
use Rattle.turn_lock.specs.Seats.{SeatView}
use Rattle.turn_lock.specs.Views.{first_of}
use Rattle.hub_fronts.specs.Fronts.{Fronts, SharedScene}
use Rattle.hub_fronts.specs.Stepping.{CatalogTurn, looked_by}
use Rattle.hub_fronts.specs.Turns.{HasSeen, Leaves}
use Rattle.hub_fronts.proofs.Seen.{made_nothing, made_one, sees_nothing}
use Rattle.hub_catalog.specs.Turns.{IsCalled, TurnView}
use Rattle.desk_places.specs.declared.turn.Turn.{Turn}
use Rattle.shared_desk.specs.declared.side.Side.{Side}
use Rattle.shared_desk.specs.declared.side.Side.TheVariants as sides
use Rattle.shared_desk.specs.Grounds.{HubMade, IsLookedBy, IsUnlooked, Standing, standing}
use Rattle.shared_desk.specs.Hubs.{HubView}

-- ---- a call that was made

abbrev pub with_seat : SharedScene → SeatView → SharedScene
with_seat scene seat = record scene { fronts = record scene.fronts { catalog = seat } }

-- all but the seat at the catalog is as it was
pub record IsBut (old new : Standing) : Type 0 where
  pub scene : new.scene ≡ with_seat old.scene new.scene.fronts.catalog
  pub hub : new.hub ≡ old.hub

module _ (joined : Bool) (call : CatCall) (told : CatTold) (old new : Standing) (turn : CatalogTurn joined call told old.scene.fronts.catalog new.scene.fronts.catalog) (but : IsBut old new) where
  pub made_looked : HubMade old (Looked joined call told ∷ []) new
  made_looked = (
    made_one old.scene new.scene (Looked joined call told)
        (record {
          mid = old.scene;
          sees = sees_nothing old.scene;
          step = ((turn, ap (λ (s : SharedScene). s.fronts) but.scene), ap (λ (s : SharedScene). s.cursor) but.scene);
        }),
    but.hub,
  )

pub looks_up : (call : CatCall) (found : Option PlaceAt) (old new : Standing) → CatalogTurn false call (catalog.At found) old.scene.fronts.catalog new.scene.fronts.catalog → IsBut old new → Makes HubMade (LooksUp call (Ok found)) old new
looks_up call found old new turn but = record { entries = Looked false call (catalog.At found) ∷ []; are = refl; led = made_looked false call (catalog.At found) old new turn but }

pub but_of : (joined : Bool) (call : CatCall) (told : CatTold) (old new : Standing) → IsLookedBy joined call told old new → IsBut old new
but_of joined call told old new h = record { scene = ap (λ (s : Standing). s.scene) h.same; hub = ap (λ (s : Standing). s.hub) h.same }

pub looked_up : (call : CatCall) (found : Option PlaceAt) (old new : Standing) → IsLookedBy false call (catalog.At found) old new → Makes HubMade (LooksUp call (Ok found)) old new
looked_up call found old new h = looks_up call found old new h.turn (but_of false call (catalog.At found) old new h)

-- ---- a call that was not made

module _ (old new : Standing) (seat : new.scene.fronts.catalog ≡ worn old.scene.fronts.catalog) (but : IsBut old new) where
  pub made_unlooked : HubMade old (Spent last_ticket ∷ []) new
  made_unlooked = (
    made_one old.scene new.scene (Spent last_ticket)
        (record {
          mid = old.scene;
          sees = sees_nothing old.scene;
          step = (record { number_is = refl; at = inr (inl (seat, ap (λ (s : SharedScene). s.fronts) but.scene)) }, ap (λ (s : SharedScene). s.cursor) but.scene);
        }),
    but.hub,
  )

module _ (fault : DeskFault) (old new : Standing) (h : IsUnlooked fault old new) where
  unlooked : HubMade old (Spent last_ticket ∷ []) new
  unlooked =
      let seat : new.scene.fronts.catalog ≡ worn old.scene.fronts.catalog = ap (λ (s : Standing). s.scene.fronts.catalog) h.same in
      made_unlooked old new seat
      (record {
        scene = ap (λ (s : Standing). s.scene) h.same ∙ ap (λ (s : SeatView). with_seat old.scene s) (sym seat);
        hub = ap (λ (s : Standing). s.hub) h.same;
      })

  worn_look : (P : DeskFault → List DeskEntry → Type 0) → P (faults.Worn last_ticket) (Spent last_ticket ∷ []) → Makes HubMade (P fault) old new
  worn_look P are = record { entries = Spent last_ticket ∷ []; are = subst (λ (f : DeskFault). P f (Spent last_ticket ∷ [])) (sym h.fault_is) are; led = unlooked }

  pub unlooked_up : (call : CatCall) → Makes HubMade (LooksUp call (Err fault)) old new
  unlooked_up call = worn_look (λ (f : DeskFault). LooksUp call (Err f)) refl

  unturned : Makes HubMade (Turns (Err fault)) old new
  unturned = worn_look (λ (f : DeskFault). Turns (Err f)) refl

-- one that ended the desk's call, whose fault was handed on
pub unturned_exit : (fault : DeskFault) (result : Result (Option PlaceAt) DeskFault) (old new : Standing) → IsErrAnd result (λ (e : DeskFault). e ≡ fault) → IsUnlooked fault old new → Makes HubMade (Turns result) old new
unturned_exit fault (Ok found) old new handed h = absurd handed
unturned_exit fault (Err e) old new handed h = unturned e old new (subst (λ (f : DeskFault). IsUnlooked f old new) (sym handed) h)

-- ---- a tick's look-up, and the place of the last hold

-- the scene with the place of the tick
abbrev pub ticked_at : SharedScene → ℕ → SharedScene
ticked_at scene ticked = record scene { cursor = record scene.cursor { ticked = ticked } }

pub turned : (after : ℕ) (found : Option PlaceAt) (old mid new : Standing) → IsLookedBy false (catalog.NextUsed after) (catalog.At found) old mid
    → new.scene ≡ ticked_at mid.scene (place_or after found) → new.hub ≡ mid.hub → Makes HubMade (Turns (Ok found)) old new
turned after found old mid new h scene hub =
    let fronts : new.scene.fronts ≡ mid.scene.fronts = ap (λ (s : SharedScene). s.fronts) scene in
    let seat : new.scene.fronts.catalog ≡ mid.scene.fronts.catalog = ap (λ (f : Fronts). f.catalog) fronts in
    let old_fronts : mid.scene.fronts ≡ record old.scene.fronts { catalog = mid.scene.fronts.catalog } = ap (λ (s : Standing). s.scene.fronts) h.same in
    record {
      entries = Turned after found ∷ [];
      are = (after, refl);
      led = (
        made_one old.scene new.scene (Turned after found)
            (record {
              mid = old.scene;
              sees = sees_nothing old.scene;
              step = (
                (
                  subst (λ (s : SeatView). CatalogTurn false (catalog.NextUsed after) (catalog.At found) old.scene.fronts.catalog s) (sym seat) h.turn,
                  fronts ∙ (old_fronts ∙ ap (λ (s : SeatView). record old.scene.fronts { catalog = s }) (sym seat)),
                ),
                ap (λ (s : SharedScene). s.cursor) scene ∙ ap (λ (s : Standing). record s.scene.cursor { ticked = place_or after found }) h.same,
              );
            }),
        hub ∙ ap (λ (s : Standing). s.hub) h.same,
      );
    }

pub ticked_made : (after : ℕ) (found : Option PlaceAt) (old mid : Standing) (hub : HubView) (router : Option SeatView) (side : Side) (row : List (Option SeatView)) (before ticked : ℕ) (last : Option PlaceAt) (turn : Turn)
    → IsLookedBy false (catalog.NextUsed after) (catalog.At found) old mid → standing hub router side row before last turn ≡ mid → ticked ≡ place_or after found
    → Makes HubMade (Turns (Ok found)) old (standing hub router side row ticked last turn)
ticked_made after found old mid hub router side row before ticked last turn h mid_is ticked_is =
    turned after found old mid (standing hub router side row ticked last turn) h
    (ap (λ (s : Standing). ticked_at s.scene ticked) mid_is ∙ ap (λ (n : ℕ). ticked_at mid.scene n) ticked_is)
    (ap (λ (s : Standing). s.hub) mid_is)

pub resumed : (old : Standing) → Makes HubMade (Resumes (Ok old.scene.cursor.last)) old old
resumed old = record {
  entries = Resumed old.scene.cursor.last ∷ [];
  are = refl;
  led = (
    made_one old.scene old.scene (Resumed old.scene.cursor.last)
        (record { mid = old.scene; sees = sees_nothing old.scene; step = (refl, refl) }),
    refl,
  );
}

-- ---- the first call of a turn

pub begun_turn : (call : CatCall) (told : CatTold) (seat inside new : SeatView) → HasSeen seat inside → seat.drawn < inside.drawn → inside.drawn ≤ last_ticket → CatalogTurn true call told inside new → CatalogTurn false call told seat new
begun_turn call told seat inside new sees ticket low joins = record {
  inside = inside;
  sees = sees;
  ticket = ticket;
  low = low;
  leaves = subst (λ (n : ℕ). Leaves IsCatalogHistory (looked_by n call told ∷ []) inside new) (ap first_of sees.numbers) joins;
}

-- ---- a look-up that was made or not

module _ (call : CatCall) where
  abbrev IsMade : Result (Option PlaceAt) DeskFault → Standing → Standing → Type 0
  IsMade result old new = IfOk result (λ (found : Option PlaceAt). IsLookedBy false call (catalog.At found) old new)

  abbrev IsUnmade : Result (Option PlaceAt) DeskFault → Standing → Standing → Type 0
  IsUnmade result old new = IfErr result (λ (fault : DeskFault). IsUnlooked fault old new)

  pub looks_so : (result : Result (Option PlaceAt) DeskFault) (old new : Standing) → IsMade result old new → IsUnmade result old new → Makes HubMade (LooksUp call result) old new
  looks_so (Ok found) old new made unmade = looked_up call found old new made
  looks_so (Err fault) old new made unmade = unlooked_up fault old new unmade call

-- a place that was found has a number below that of all places
pub found_few : (m : ℕ) (result : Result (Option PlaceAt) DeskFault) → m ≤ 32 → IfOk result (λ (found : Option PlaceAt). IfSome found (λ (at : PlaceAt). at.place < m))
    → IfOk result (λ (found : Option PlaceAt). IfSome found (λ (at : PlaceAt). at.place < 32))
found_few m (Ok (Some at)) few within = omega arith
found_few m (Ok None) few within = tt
found_few m (Err fault) few within = tt

-- ---- by the caller's side of the catalog

module _ (hub : HubView) (router : Option SeatView) (row : List (Option SeatView)) (ticked : ℕ) (last : Option PlaceAt) where
  abbrev Stands : Side → Turn → Standing
  Stands side turn = standing hub router side row ticked last turn

  pub unlooked_outside : (turn : Turn) (side new : Side) (seat after : SeatView) (number : ℕ) → side ≡ sides.Outside seat → new ≡ sides.Outside after → number ≡ last_ticket → after ≡ worn seat
      → IsUnlooked (faults.Worn number) (Stands side turn) (Stands new turn)
  unlooked_outside turn side new seat after number was is number_is wears =
      subst (λ (s : Side). IsUnlooked (faults.Worn number) (Stands s turn) (Stands new turn)) (sym was)
      (subst (λ (s : Side). IsUnlooked (faults.Worn number) (Stands (sides.Outside seat) turn) (Stands s turn)) (sym is)
      (record { fault_is = ap (λ (n : ℕ). faults.Worn n) number_is; same = ap (λ (s : SeatView). Stands (sides.Outside s) turn) wears }))

  -- a call within a turn
  pub called_made : (turn next : Turn) (side new : Side) (was is : TurnView) (call : CatCall) (told : CatTold) → side ≡ sides.Inside was → new ≡ sides.Inside is → IsCalled call told was is
      → HubMade (Stands side turn) (Looked true call told ∷ []) (Stands new next)
  called_made turn next side new was is call told e f called =
      subst (λ (s : Side). HubMade (Stands s turn) (Looked true call told ∷ []) (Stands new next)) (sym e)
      (subst (λ (s : Side). HubMade (Stands (sides.Inside was) turn) (Looked true call told ∷ []) (Stands s next)) (sym f)
      (made_looked true call told (Stands (sides.Inside was) turn) (Stands (sides.Inside is) next) called.joins (record { scene = refl; hub = refl })))

  -- the first call of a turn
  pub begun_made : (turn next : Turn) (side new : Side) (seat : SeatView) (inside is : TurnView) (call : CatCall) (found : Option PlaceAt) → side ≡ sides.Outside seat → new ≡ sides.Inside is → HasSeen seat inside.seat
      → (seat.drawn < inside.seat.drawn) × (inside.seat.drawn ≤ last_ticket) → IsCalled call (catalog.At found) inside is → Makes HubMade (LooksUp call (Ok found)) (Stands side turn) (Stands new next)
  begun_made turn next side new seat inside is call found e f sees drawn called =
      subst (λ (s : Side). Makes HubMade (LooksUp call (Ok found)) (Stands s turn) (Stands new next)) (sym e)
      (subst (λ (s : Side). Makes HubMade (LooksUp call (Ok found)) (Stands (sides.Outside seat) turn) (Stands s next)) (sym f)
      (looks_up call found (Stands (sides.Outside seat) turn) (Stands (sides.Inside is) next)
      (begun_turn call (catalog.At found) seat inside.seat is.seat sees drawn.0 drawn.1 called.joins)
      (record { scene = refl; hub = refl })))

  pub unbegun_made : (turn : Turn) (side new : Side) (seat after : SeatView) (number : ℕ) (call : CatCall) → side ≡ sides.Outside seat → new ≡ sides.Outside after → number ≡ last_ticket → after ≡ worn seat
      → Makes HubMade (LooksUp call (Err (faults.Worn number))) (Stands side turn) (Stands new turn)
  unbegun_made turn side new seat after number call was is number_is wears =
      unlooked_up (faults.Worn number) (Stands side turn) (Stands new turn) (unlooked_outside turn side new seat after number was is number_is wears) call

  -- a turn ends
  pub ended_made : (turn next : Turn) (side new : Side) (was : TurnView) (seat : SeatView) → side ≡ sides.Inside was → new ≡ sides.Outside seat → seat ≡ was.seat → HubMade (Stands side turn) [] (Stands new next)
  ended_made turn next side new was seat e f g =
      subst (λ (s : Side). HubMade (Stands s turn) [] (Stands new next)) (sym e)
      (subst (λ (s : Side). HubMade (Stands (sides.Inside was) turn) [] (Stands s next)) (sym (f ∙ ap (λ (s : SeatView). sides.Outside s) g))
      (made_nothing (Stands (sides.Inside was) turn).scene, refl))
