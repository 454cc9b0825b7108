-- Laws of runs over volumes of which none failed.
use Rattle.std.proofs.Common.{◌≡◌, ◌≤◌, ◌+◌, ℕ, zero, suc, Bool, true, false, List, [], ◌∷◌, Option, Some, None, Result, Ok, Err, map, refl, sym, ◌∙◌, ap, subst, arith}
use Rattle.std.specs.List.{AllByRecursion, AllZip}
use Rattle.std.specs.Prelude.{slice_get, slice_set}
use Rattle.std.proofs.lemmas.List.Elements.{All-from_recursion, recursion_from_All}
use Rattle.js_base.specs.Causes.{Rose}
use Rattle.js_base.proofs.Causes.{rose_after, rose_before}
use Rattle.js_model.specs.declared.stream.State.{State}
use Rattle.js_model.specs.PlaceStates.{PlaceIn, VolumeAt}
use Rattle.place_engine.specs.declared.faults.OpenFault.{OpenFault}
use Rattle.place_engine.specs.declared.faults.PlaceFault.{PlaceFault}
use Rattle.place_engine.specs.declared.faults.PlaceFault.TheVariants as stops
use Rattle.place_engine.specs.Flushing.{EndsFlush}
use Rattle.place_engine.specs.Stepping.{Image, Seen}
use Rattle.place_engine.specs.Preparing.{RoomCauses}
use Rattle.js_api.specs.Entries.{DeskEntry, Routed, Looked, Turned, Resumed, Held, Stirred, Halted, Missed, Spent, entries_in}
use Rattle.js_api.specs.Leading.{Leads}
use Rattle.js_api.specs.Worlds.{Scene, SoloStep, Stops, IsLater, is_broken}
use Rattle.desk_places.specs.Closing as closing
use Rattle.desk_places.specs.Closing.{End, first_failure}
use Rattle.desk_places.specs.Places.{places_by}
use Rattle.js_desk.specs.Kept.{kept_more}
use Rattle.desk_places.specs.Opening as opening
use Rattle.server.specs.Attending.{run_entries}
use Rattle.server.specs.Closing.{flush_status}
use Rattle.server.specs.Ending.{Starved, Unopened, Attended}
use Rattle.server.specs.Kinds.{Opens, Refuses, Made, Leaves}
use Rattle.server.specs.Laws.{IsFlushed, IsUnrefused, IsUntroubled}
use Rattle.server.specs.Unfailed.{IsUnworn, LawUnfailed}
use Rattle.server.proofs.Keeping.{kept_end}
use Rattle.server.proofs.Rising.{IsNoRise, faults_grow, faults_of, leads_later, refusals_grow, refusals_of, rise_behind, rise_front, rise_there, step_later, unrisen_by}
use Rattle.server.proofs.Rows.{opened_row}

-- ---- the places of a desk

abbrev IsGoing : PlaceIn → Type 0
IsGoing place = place.stopped ≡ None

abbrev AreGoing : List PlaceIn → Type 0
AreGoing places = AllByRecursion IsGoing places

abbrev NoFault : PlaceIn → PlaceIn → Type 0
NoFault = IsNoRise faults_of faults_grow

-- one place was put in the place of another
going_set : (places : List PlaceIn) (n : ℕ) (old new : PlaceIn) → slice_get places n ≡ Some old → AreGoing places → IsGoing new → AreGoing (slice_set places n new)
going_set [] n old new there h k = absurd (cc)
going_set (place ∷ places) zero old new there h k = (k, h.1)
going_set (place ∷ places) (suc n) old new there h k = (h.0, going_set places n old new there h.1 k)

-- ---- one entry

-- nothing stopped the place
stops_none : (failed : Bool) (before after : VolumeAt) (stopped : Option ℕ) → Stops failed before after stopped → (Rose before.faults after.faults → ⊥) → stopped ≡ None
stops_none true before after stopped h unrisen = absurd (unrisen h.1)
stops_none false before after stopped h unrisen = h

step_going : (old new : Scene) (entry : DeskEntry) → SoloStep old entry new → AllZip NoFault old.world.places new.world.places → AreGoing old.world.places → AreGoing new.world.places
step_going old new (Routed call told) h k g = subst AreGoing (sym (ap (λ (s : Scene). s.world.places) h.1)) g
step_going old new (Looked joined call told) h k g = subst AreGoing (sym (ap (λ (s : Scene). s.world.places) h.1)) g
step_going old new (Turned after found) h k g = subst AreGoing (sym (ap (λ (s : Scene). s.world.places) h.2)) g
step_going old new (Resumed last) h k g = subst AreGoing (sym (ap (λ (s : Scene). s.world.places) h.1)) g
step_going old new (Held hold) h k g =
    let a = h.0 in
    let there = rise_there faults_of faults_grow old.world.places hold.at.place a.place a.after a.is_there (subst (λ (ps : List PlaceIn). AllZip NoFault old.world.places ps) a.places k) in
    let goes = stops_none (is_broken (entries_in hold)) hold.volume_before hold.volume_after a.after.stopped a.held.stops
    (unrisen_by faults_of faults_grow a.place a.after hold.volume_before hold.volume_after a.held.volume_was a.held.volume_is there)
    in
    subst AreGoing (sym a.places) (going_set old.world.places hold.at.place a.place a.after a.is_there g goes)
step_going old new (Stirred at before after failed) h k g =
    let a = h.0 in
    let i = a.is_stirred in
    let there = rise_there faults_of faults_grow old.world.places at.place a.place a.stirred a.is_there (subst (λ (ps : List PlaceIn). AllZip NoFault old.world.places ps) a.places k) in
    let goes = stops_none failed before after a.stirred.stopped i.stops (unrisen_by faults_of faults_grow a.place a.stirred before after i.volume_was i.volume_is there) in
    subst AreGoing (sym a.places) (going_set old.world.places at.place a.place a.stirred a.is_there g goes)
step_going old new (Halted at state) h k g = subst AreGoing (sym (ap (λ (s : Scene). s.world.places) h.1)) g
step_going old new (Missed at kept) h k g = subst AreGoing (sym (ap (λ (s : Scene). s.world.places) h.1)) g
step_going old new (Spent number) h k g = absurd h

-- ---- many entries

-- no place is stopped by entries in which no count rose
leads_going : (old new : Scene) (entries : List DeskEntry) → Leads SoloStep old entries new → AllZip NoFault old.world.places new.world.places → AreGoing old.world.places → AreGoing new.world.places
leads_going old new [] h k g = subst (λ (s : Scene). AreGoing s.world.places) h g
leads_going old new (entry ∷ more) h k g =
    let front = rise_front faults_of faults_grow old.world.places h.0.world.places new.world.places (leads_later faults_of faults_grow h.0 new more h.2) k in
    let behind = rise_behind faults_of faults_grow old.world.places h.0.world.places new.world.places (step_later faults_of faults_grow old h.0 entry h.1) k in
    leads_going h.0 new more h.2 behind (step_going old h.0 entry h.1 front g)

-- ---- a run

module _ {P V : Type 0} (seen : P → Seen) (vol : P → V) (holds : Image → State → Type 0) (reads : V → Image → Type 0) (left : V → ℕ → Image → Type 0) (clock faults : V → ℕ) (causes : RoomCauses V)
    (base : Option ℕ → V → State → Type 0) (opens : V → State → Type 0) (refuses : V → OpenFault → Type 0) (keeps : V → V → Type 0)
    (none : (v : V) → keeps v v) (more : (a b c : V) → keeps a b → keeps b c → keeps a c)
    (stands : (p : P) → ((seen p).place.volume.moment ≡ clock (vol p)) × ((seen p).place.volume.faults ≡ faults (vol p)) × ((seen p).place.volume.refusals ≡ causes.refusals (vol p)))
    (later : (a b : V) → keeps a b → (clock a ≤ clock b) × (faults a ≤ faults b) × (causes.refusals a ≤ causes.refusals b)) where
  abbrev OpensOn : V → P → Type 0
  OpensOn = opening.OpensOn seen vol holds reads left clock faults causes base opens refuses keeps

  abbrev EndsSo : P → Option (Result (Unit {0}) PlaceFault) → V → Type 0
  EndsSo = closing.EndsSo seen vol holds reads left clock base keeps

  abbrev EndsAt : P → End V → Type 0
  EndsAt = closing.EndsAt seen vol holds reads left clock base keeps

  abbrev Unrisen : (V → ℕ) → V → V → Type 0
  Unrisen count before after = Rose (count before) (count after) → ⊥

  abbrev IsUnfailed : V → V → Type 0
  IsUnfailed = Unrisen faults

  -- ---- its places

  opened_going : (vols : List V) (row : List P) → AllZip OpensOn vols row → AreGoing (places_by seen row)
  opened_going [] [] h = tt
  opened_going [] (p ∷ row) h = absurd h
  opened_going (v ∷ vols) [] h = absurd h
  opened_going (v ∷ vols) (p ∷ row) h = (h.0.opened.going, opened_going vols row h.1)

  -- between the opening of a place and its closing a count did not rise, if it did not between all that came before and after
  module _ (of_vol : V → ℕ) (of_place : VolumeAt → ℕ) (told : (p : P) → of_place (seen p).place.volume ≡ of_vol (vol p)) (grows : (a b : V) → keeps a b → of_vol a ≤ of_vol b)
      (grow : (a b : VolumeAt) → IsLater a b → of_place a ≤ of_place b) where
    place_unrisen : (before after : V) (p q : P) → keeps before (vol p) → keeps (vol q) after → Unrisen of_vol before after → IsNoRise of_place grow (seen p).place (seen q).place
    place_unrisen before after p q k l unfailed rose =
        let first : Rose (of_vol (vol p)) (of_place (seen q).place.volume) = subst (λ (n : ℕ). Rose n (of_place (seen q).place.volume)) (told p) rose in
        let both : Rose (of_vol (vol p)) (of_vol (vol q)) = subst (λ (n : ℕ). Rose (of_vol (vol p)) n) (told q) first in
        unfailed (rose_before (of_vol before) (of_vol (vol p)) (of_vol after) (grows before (vol p) k) (rose_after (of_vol (vol p)) (of_vol (vol q)) (of_vol after) both (grows (vol q) after l)))

    places_unrisen : (vols : List V) (row last : List P) (ends : List (End V)) → AllZip OpensOn vols row → AllZip EndsAt last ends → AllZip (Unrisen of_vol) vols (map (λ (e : End V). e.vol) ends)
        → AllZip (IsNoRise of_place grow) (places_by seen row) (places_by seen last)
    places_unrisen [] [] [] ends h k u = tt
    places_unrisen [] [] (q ∷ last) [] h k u = absurd k
    places_unrisen [] [] (q ∷ last) (e ∷ ends) h k u = absurd u
    places_unrisen [] (p ∷ row) last ends h k u = absurd h
    places_unrisen (v ∷ vols) [] last ends h k u = absurd h
    places_unrisen (v ∷ vols) (p ∷ row) last [] h k u = absurd u
    places_unrisen (v ∷ vols) (p ∷ row) [] (e ∷ ends) h k u = absurd k
    places_unrisen (v ∷ vols) (p ∷ row) (q ∷ last) (e ∷ ends) h k u = (
      place_unrisen v e.vol p q h.0.volume (kept_end seen vol holds reads left clock faults causes base opens refuses keeps none more q e.told e.vol k.0.ends) u.0,
      places_unrisen vols row last ends h.1 k.1 u.1,
    )

  fault_told : (p : P) → faults_of (seen p).place.volume ≡ faults (vol p)
  fault_told p = (stands p).1

  fault_grows : (a b : V) → keeps a b → faults a ≤ faults b
  fault_grows a b k = (later a b k).1

  -- ---- its closing

  flush_fault : (fault : PlaceFault) (before : V) (p q : P) → keeps before (vol p) → EndsFlush (Err fault) (seen p) (seen q) → (seen p).place.stopped ≡ None → IsUnfailed before (vol q)
      → IsUnworn (seen p).place → flush_status fault ≡ 7
  flush_fault (stops.NoMemory left_so) before p q k h going unfailed unworn = refl
  flush_fault stops.StoreFault before p q k h going unfailed unworn = absurd (place_unrisen faults faults_of fault_told fault_grows faults_grow before (vol q) p q k (none (vol q)) unfailed h.cause)
  flush_fault (stops.Stopped count) before p q k h going unfailed unworn = let clash = sym h.stopped ∙ going in absurd (cc)
  flush_fault (stops.Gone kept) before p q k h going unfailed unworn = absurd h
  flush_fault (stops.Worn refused) before p q k h going unfailed unworn =
      absurd (omega (arith, h.last, ap (λ (v : VolumeAt). v.generation) h.unflushed.volume.volume, unworn))

  flushed_first : (from : ℕ) (before : V) (p : P) (told : Option (Result (Unit {0}) PlaceFault)) (end : V) (rest : List (Option (Result (Unit {0}) PlaceFault)))
      → keeps before (vol p) → EndsSo p told end → IsUnfailed before end → IsUnworn (seen p).place → IsFlushed (first_failure (from + 1) rest) → IsFlushed (first_failure from (told ∷ rest))
  flushed_first from before p None end rest k h unfailed unworn done = done
  flushed_first from before p (Some (Ok flushed)) end rest k h unfailed unworn done = done
  flushed_first from before p (Some (Err fault)) end rest k h unfailed unworn done =
      flush_fault fault before p h.0 k h.1.flushes.ends h.1.going (subst (λ (v : V). IsUnfailed before v) h.2 unfailed) unworn

  flushed_from : (from : ℕ) (vols : List V) (row : List P) (ends : List (End V)) → AllZip keeps vols (map vol row) → AllZip EndsAt row ends → AllZip IsUnfailed vols (map (λ (e : End V). e.vol) ends)
      → AllByRecursion IsUnworn (places_by seen row) → IsFlushed (first_failure from (map (λ (e : End V). e.told) ends))
  flushed_from from vols [] [] k h u w = tt
  flushed_from from vols [] (e ∷ ends) k h u w = absurd h
  flushed_from from vols (p ∷ row) [] k h u w = absurd h
  flushed_from from [] (p ∷ row) (e ∷ ends) k h u w = absurd k
  flushed_from from (v ∷ vols) (p ∷ row) (e ∷ ends) k h u w =
      flushed_first from v p e.told e.vol (map (λ (o : End V). o.told) ends) k.0 h.0.ends u.0 w.0 (flushed_from (from + 1) vols row ends k.1 h.1 u.1 w.1)

  untroubled_all : (places : List PlaceIn) → AreGoing places → AllByRecursion IsUnworn places → AllByRecursion IsUntroubled places
  untroubled_all [] g w = tt
  untroubled_all (place ∷ places) g w = (record { going = g.0; generation = w.0 }, untroubled_all places g.1 w.1)

  pub unfailed : LawUnfailed (Opens seen vol holds reads left clock faults causes base opens refuses keeps) (Refuses seen vol holds reads left clock faults causes base opens refuses keeps) (Made seen vol holds reads left clock faults causes base opens refuses keeps) (Leaves seen vol holds reads left clock faults causes base opens refuses keeps) faults causes
  unfailed stream status v0 v1 old new (Starved h) u room = tt
  unfailed stream status v0 v1 old new (Unopened h) u room = tt
  unfailed stream status v0 v1 old new (Attended h) u room =
      let o = h.opens in
      let c = h.closes in
      let entries = run_entries h.desk.scene.world.places stream h.after.scene h.outcome.status old (record new { sink = h.sink }) h.attended.attends in
      let opened : h.desk.scene.world.places ≡ places_by seen o.row = ap (λ (s : Scene). s.world.places) o.scene in
      let ended : AllZip IsUnfailed v0 (map (λ (e : End V). e.vol) c.closes.ends) = subst (λ (vs : List V). AllZip IsUnfailed v0 vs) (h.vols ∙ c.closes.after) u.unfailed in
      let unended : AllZip (Unrisen causes.refusals) v0 (map (λ (e : End V). e.vol) c.closes.ends) =
      subst (λ (vs : List V). AllZip (Unrisen causes.refusals) v0 vs) (h.vols ∙ c.closes.after) u.unrefused
      in
      let unrisen : AllZip NoFault h.desk.scene.world.places h.after.scene.world.places =
      subst (λ (ps : List PlaceIn). AllZip NoFault ps h.after.scene.world.places) (sym opened)
      (subst (λ (ps : List PlaceIn). AllZip NoFault (places_by seen o.row) ps) c.stand
      (places_unrisen faults faults_of fault_told fault_grows faults_grow v0 o.row c.row c.closes.ends o.opened c.closes.ended ended))
      in
      let unrefused : AllZip IsUnrefused h.desk.scene.world.places h.after.scene.world.places =
      subst (λ (ps : List PlaceIn). AllZip IsUnrefused ps h.after.scene.world.places) (sym opened)
      (subst (λ (ps : List PlaceIn). AllZip IsUnrefused (places_by seen o.row) ps) c.stand
      (places_unrisen causes.refusals refusals_of (λ p. (stands p).2) (λ a b k. (later a b k).2) refusals_grow v0 o.row c.row c.closes.ends o.opened c.closes.ended unended))
      in
      let going = leads_going h.desk.scene h.after.scene entries h.attended.made.0 unrisen (subst AreGoing (sym opened) (opened_going v0 o.row o.opened)) in
      let unworn = recursion_from_All IsUnworn h.after.scene.world.places room.1 in
      let kept : AllZip keeps v0 h.after.vols =
      kept_more keeps more v0 h.desk.vols h.after.vols
      (subst (λ (vs : List V). AllZip keeps v0 vs) (sym o.vols) (opened_row seen vol holds reads left clock faults causes base opens refuses keeps keeps (λ v p o. o.volume) v0 o.row o.opened)) h.attended.made.1
      in
      let flushed = flushed_from 0 v0 c.row c.closes.ends (subst (λ (vs : List V). AllZip keeps v0 vs) (sym c.before) kept) c.closes.ended ended
      (subst (λ (ps : List PlaceIn). AllByRecursion IsUnworn ps) (sym c.stand) unworn)
      in (
        All-from_recursion IsUntroubled h.after.scene.world.places (untroubled_all h.after.scene.world.places going unworn),
        record { unrefused = unrefused; within = room.0 },
        subst IsFlushed (sym c.closes.failed_is) flushed,
      )
