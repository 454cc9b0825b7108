-- Laws of runs of a desk after which no volume is troubled: none was on the way, no place was found stopped, and no number was used up.
use Rattle.std.proofs.Common.{◌≡◌, ◌<◌, ◌-◌, ◌^◌, ℕ, zero, suc, Bool, true, false, List, [], ◌∷◌, ◌++◌, Option, Some, None, refl, sym, ◌∙◌, ap, subst, arith, All}
use Rattle.std.specs.Prelude.{slice_get, slice_set}
use Rattle.js_model.specs.PlaceStates.{PlaceIn, VolumeAt}
use Rattle.js_api.specs.Entries.{DeskEntry, Routed, Looked, Turned, Resumed, Held, Stirred, Halted, Missed, Spent, Hold, Unsent, entries_in}
use Rattle.js_api.specs.Leading.{Leads}
use Rattle.js_api.specs.Worlds.{Scene, SoloStep, Stops, IsHeld, is_broken, sending_of}
use Rattle.server.specs.Laws.{IsUntroubled, AreUntroubled}

-- ---- the places, one by one

abbrev Each : List PlaceIn → Type 0
Each [] = Unit {0}
Each (place ∷ places) = IsUntroubled place × Each places

each_of : (places : List PlaceIn) → All IsUntroubled places → Each places
each_of [] h = tt
each_of (place ∷ places) h = (h 0 place (omega arith), each_of places (λ k d l. h (suc k) d (omega (arith, l))))

all_of : (places : List PlaceIn) → Each places → All IsUntroubled places
all_of [] h k d l = absurd (omega (arith, l))
all_of (place ∷ places) h zero d l = h.0
all_of (place ∷ places) h (suc k) d l = all_of places h.1 k d (omega (arith, l))

-- if one place was put in the place of another
changed_there : (places : List PlaceIn) (n : ℕ) (old new : PlaceIn) → slice_get places n ≡ Some old → Each (slice_set places n new) → IsUntroubled new
changed_there [] n old new e h = cc
changed_there (place ∷ places) zero old new e h = h.0
changed_there (place ∷ places) (suc n) old new e h = changed_there places n old new e h.1

changed_before : (places : List PlaceIn) (n : ℕ) (old new : PlaceIn) → slice_get places n ≡ Some old → IsUntroubled old → Each (slice_set places n new) → Each places
changed_before [] n old new e u h = tt
changed_before (place ∷ places) zero old new e u h = let same : old ≡ place = cc in (subst IsUntroubled same u, h.1)
changed_before (place ∷ places) (suc n) old new e u h = (h.0, changed_before places n old new e u h.1)

-- ---- one entry

-- no volume failed in it, no place was found stopped, and no number was used up
pub record IsHoldFit (hold : Hold) : Type 0 where
  pub unbroken : is_broken (entries_in hold) ≡ false
  pub sent : (number : ℕ) → hold.sending ≡ Unsent number → ⊥
  pub generation : hold.volume_after.generation < 2 ^ 62 - 1

abbrev pub IsFit : DeskEntry → Type 0
IsFit (Routed call told) = Unit {0}
IsFit (Looked joined call told) = Unit {0}
IsFit (Turned after found) = Unit {0}
IsFit (Resumed last) = Unit {0}
IsFit (Held hold) = IsHoldFit hold
IsFit (Stirred at before after failed) = (failed ≡ false) × (after.generation < 2 ^ 62 - 1)
IsFit (Halted at state) = ⊥
IsFit (Missed at kept) = Unit {0}
IsFit (Spent number) = ⊥

abbrev pub AreFit : List DeskEntry → Type 0
AreFit [] = Unit {0}
AreFit (entry ∷ more) = IsFit entry × AreFit more

not_unsent : (taken : List Bool) (number : ℕ) → sending_of taken ≡ Unsent number → ⊥
not_unsent [] number e = cc
not_unsent (true ∷ more) number e = not_unsent more number e
not_unsent (false ∷ more) number e = cc

not_broken : (broken : Bool) (before after : VolumeAt) (stopped : Option ℕ) → Stops broken before after stopped → stopped ≡ None → broken ≡ false
not_broken true before after stopped h e = let clash : Some after.faults ≡ None = sym h.0 ∙ e in cc
not_broken false before after stopped h e = refl

held_fit : (hold : Hold) (old new : PlaceIn) (taken : List Bool) → IsHeld hold old new → hold.sending ≡ sending_of taken → IsUntroubled new → IsHoldFit hold
held_fit hold old new taken h s u = record {
  unbroken = not_broken (is_broken (entries_in hold)) hold.volume_before hold.volume_after new.stopped h.stops u.going;
  sent = λ number e. not_unsent taken number (sym s ∙ e);
  generation = subst (λ (v : VolumeAt). v.generation < 2 ^ 62 - 1) h.volume_is u.generation;
}

held_before : (hold : Hold) (old new : PlaceIn) → IsHeld hold old new → IsUntroubled new → IsUntroubled old
held_before hold old new h u = record {
  going = h.going;
  generation = omega (arith, u.generation, ap (λ (v : VolumeAt). v.generation) h.volume_was, ap (λ (v : VolumeAt). v.generation) h.volume_is, h.before_between.generations, h.between_after.generations);
}

-- an entry after which none is troubled: none was before it, and it is fit
step_back : (old new : Scene) (entry : DeskEntry) → SoloStep old entry new → Each new.world.places → Each old.world.places × IsFit entry
step_back old new (Routed call told) h u = (subst Each (ap (λ (s : Scene). s.world.places) h.1) u, tt)
step_back old new (Looked joined call told) h u = (subst Each (ap (λ (s : Scene). s.world.places) h.1) u, tt)
step_back old new (Turned after found) h u = (subst Each (ap (λ (s : Scene). s.world.places) h.2) u, tt)
step_back old new (Resumed last) h u = (subst Each (ap (λ (s : Scene). s.world.places) h.1) u, tt)
step_back old new (Held hold) h u =
    let a = h.0 in
    let set = subst Each a.places u in
    let there = changed_there old.world.places hold.at.place a.place a.after a.is_there set in
    (changed_before old.world.places hold.at.place a.place a.after a.is_there (held_before hold a.place a.after a.held there) set, held_fit hold a.place a.after a.taken a.held a.sending there)
step_back old new (Stirred at before after failed) h u =
    let a = h.0 in
    let i = a.is_stirred in
    let set = subst Each a.places u in
    let there = changed_there old.world.places at.place a.place a.stirred a.is_there set in
    let was : IsUntroubled a.place = record {
      going = i.going;
      generation = omega (arith, there.generation, ap (λ (v : VolumeAt). v.generation) i.volume_was, ap (λ (v : VolumeAt). v.generation) i.volume_is, i.later.generations);
    } in (
      changed_before old.world.places at.place a.place a.stirred a.is_there was set,
      (not_broken failed before after a.stirred.stopped i.stops there.going, subst (λ (v : VolumeAt). v.generation < 2 ^ 62 - 1) i.volume_is there.generation),
    )
step_back old new (Halted at state) h u =
    let halted = h.0 in
    let places = subst Each (ap (λ (s : Scene). s.world.places) h.1) u in
    absurd (stopped_there old.world.places at.place halted.place halted.count halted.is_there halted.stopped places)
  where
    stopped_there : (places : List PlaceIn) (n : ℕ) (place : PlaceIn) (count : ℕ) → slice_get places n ≡ Some place → place.stopped ≡ Some count → Each places → ⊥
    stopped_there [] n place count e s each = cc
    stopped_there (first ∷ places) zero place count e s each = let going = each.0.going in let same : first ≡ place = cc in cc
    stopped_there (first ∷ places) (suc n) place count e s each = stopped_there places n place count e s each.1
step_back old new (Missed at kept) h u = (subst Each (ap (λ (s : Scene). s.world.places) h.1) u, tt)
step_back old new (Spent number) h u = absurd h

-- ---- many entries

leads_back : (old new : Scene) (entries : List DeskEntry) → Leads SoloStep old entries new → Each new.world.places → Each old.world.places × AreFit entries
leads_back old new [] h u = (subst Each (ap (λ (s : Scene). s.world.places) (sym h)) u, tt)
leads_back old new (entry ∷ more) h u =
    let k = leads_back h.0 new more h.2 u in
    let j = step_back old h.0 entry h.1 k.0 in
    (j.0, (j.1, k.1))

-- the entries of a run after which no volume is troubled are fit
pub run_fit : (old new : Scene) (entries : List DeskEntry) → Leads SoloStep old entries new → AreUntroubled new.world → AreFit entries
run_fit old new entries h u = (leads_back old new entries h (each_of new.world.places u)).1

-- and none was troubled before
pub run_before : (old new : Scene) (entries : List DeskEntry) → Leads SoloStep old entries new → AreUntroubled new.world → AreUntroubled old.world
run_before old new entries h u = all_of old.world.places (leads_back old new entries h (each_of new.world.places u)).0

pub fit_front : (first more : List DeskEntry) → AreFit (first ++ more) → AreFit first
fit_front [] more h = tt
fit_front (entry ∷ first) more h = (h.0, fit_front first more h.1)

pub fit_behind : (first more : List DeskEntry) → AreFit (first ++ more) → AreFit more
fit_behind [] more h = h
fit_behind (entry ∷ first) more h = fit_behind first more h.1
