-- Laws of runs of a desk in which there was room: none of its holds was refused for want of it, unless for the number of messages.
use Rattle.std.proofs.Common.{◌≡◌, true, false, List, [], ◌∷◌, ◌++◌, refl, sym, ◌∙◌, subst, inl, inr}
use Rattle.std.specs.List.{AllZip}
use Rattle.js_base.proofs.Causes.{rose_after}
use Rattle.js_model.specs.PlaceStates.{PlaceIn}
use Rattle.js_model.specs.Runs.{is_few}
use Rattle.js_api.specs.Entries.{DeskEntry, Routed, Looked, Turned, Resumed, Held, Stirred, Halted, Missed, Spent, Hold}
use Rattle.js_api.specs.Leading.{Leads}
use Rattle.js_api.specs.Rooms.{FindNoRoom, MayFindNoRoom}
use Rattle.js_api.specs.Worlds.{Scene, SoloStep, IsHeld}
use Rattle.server.specs.Laws.{AreUnbroken, AreWithin, HadRoom, IsUnbroken, IsUnrefused}
use Rattle.server.proofs.Rising.{IsNoRise, leads_later, refusals_grow, refusals_of, rise_behind, rise_front, rise_there, unrisen_by}
use Rattle.server.proofs.Untroubled.{AreFit, IsFit}

-- ---- some of the entries

pub within_front : (first more : List DeskEntry) → AreWithin (first ++ more) → AreWithin first
within_front [] more h = tt
within_front (entry ∷ first) more h = (h.0, within_front first more h.1)

pub within_behind : (first more : List DeskEntry) → AreWithin (first ++ more) → AreWithin more
within_behind [] more h = h
within_behind (entry ∷ first) more h = within_behind first more h.1

module _ (old mid new : Scene) (first more : List DeskEntry) (led : Leads SoloStep old first mid) (next : Leads SoloStep mid more new)
    (h : HadRoom old.world.places (first ++ more) new.world.places) where
  pub room_front : HadRoom old.world.places first mid.world.places
  room_front = record {
    unrefused = rise_front refusals_of refusals_grow old.world.places mid.world.places new.world.places (leads_later refusals_of refusals_grow mid new more next) h.unrefused;
    within = within_front first more h.within;
  }

  pub room_behind : HadRoom mid.world.places more new.world.places
  room_behind = record {
    unrefused = rise_behind refusals_of refusals_grow old.world.places mid.world.places new.world.places (leads_later refusals_of refusals_grow old mid first led) h.unrefused;
    within = within_behind first more h.within;
  }

-- ---- one entry

abbrev pub IsRoomy : DeskEntry → Type 0
IsRoomy (Routed call told) = Unit {0}
IsRoomy (Looked joined call told) = Unit {0}
IsRoomy (Turned after found) = Unit {0}
IsRoomy (Resumed last) = Unit {0}
IsRoomy (Held hold) = is_few hold.stored ≡ true → FindNoRoom hold.steps → ⊥
IsRoomy (Stirred at before after failed) = Unit {0}
IsRoomy (Halted at state) = Unit {0}
IsRoomy (Missed at kept) = Unit {0}
IsRoomy (Spent number) = Unit {0}

held_roomy : (hold : Hold) (old new : PlaceIn) → IsHeld hold old new → IsUnrefused old new → hold.outgrows ≡ false → IsRoomy (Held hold)
held_roomy hold old new h unrefused within few found = by (h.short found)
  where
    by : MayFindNoRoom hold → ⊥
    by (inl rose) = unrisen_by refusals_of refusals_grow old new hold.volume_before hold.volume_after h.volume_was h.volume_is unrefused
        (rose_after hold.volume_before.refusals hold.volume_between.refusals hold.volume_after.refusals rose h.between_after.refusals)
    by (inr (inl many)) = let clash : true ≡ false = sym few ∙ many in cc
    by (inr (inr outgrows)) = let clash : true ≡ false = sym outgrows ∙ within in cc

step_roomy : (old new : Scene) (entry : DeskEntry) → SoloStep old entry new → HadRoom old.world.places (entry ∷ []) new.world.places → IsRoomy entry
step_roomy old new (Routed call told) h k = tt
step_roomy old new (Looked joined call told) h k = tt
step_roomy old new (Turned after found) h k = tt
step_roomy old new (Resumed last) h k = tt
step_roomy old new (Held hold) h k =
    let a = h.0 in
    let there = rise_there refusals_of refusals_grow old.world.places hold.at.place a.place a.after a.is_there
    (subst (λ (ps : List PlaceIn). AllZip (IsNoRise refusals_of refusals_grow) old.world.places ps) a.places k.unrefused) in
    held_roomy hold a.place a.after a.held there k.within.0
step_roomy old new (Stirred at before after failed) h k = tt
step_roomy old new (Halted at state) h k = tt
step_roomy old new (Missed at kept) h k = tt
step_roomy old new (Spent number) h k = tt

-- ---- many entries

abbrev pub AreRoomy : List DeskEntry → Type 0
AreRoomy [] = Unit {0}
AreRoomy (entry ∷ more) = IsRoomy entry × AreRoomy more

pub run_roomy : (old new : Scene) (entries : List DeskEntry) → Leads SoloStep old entries new → HadRoom old.world.places entries new.world.places → AreRoomy entries
run_roomy old new [] led h = tt
run_roomy old new (entry ∷ more) led h =
    let one : Leads SoloStep old (entry ∷ []) led.0 = (led.0, led.1, refl) in (
      step_roomy old led.0 entry led.1 (room_front old led.0 new (entry ∷ []) more one led.2 h),
      run_roomy led.0 new more led.2 (room_behind old led.0 new (entry ∷ []) more one led.2 h),
    )

-- ---- that are fit too

abbrev pub AreWhole : List DeskEntry → Type 0
AreWhole [] = Unit {0}
AreWhole (entry ∷ more) = (IsFit entry × IsRoomy entry) × AreWhole more

pub whole_of : (entries : List DeskEntry) → AreFit entries → AreRoomy entries → AreWhole entries
whole_of [] h k = tt
whole_of (entry ∷ more) h k = ((h.0, k.0), whole_of more h.1 k.1)

pub whole_front : (first more : List DeskEntry) → AreWhole (first ++ more) → AreWhole first
whole_front [] more h = tt
whole_front (entry ∷ first) more h = (h.0, whole_front first more h.1)

pub whole_behind : (first more : List DeskEntry) → AreWhole (first ++ more) → AreWhole more
whole_behind [] more h = h
whole_behind (entry ∷ first) more h = whole_behind first more h.1

unbroken_one : (entry : DeskEntry) → IsFit entry → IsRoomy entry → IsUnbroken entry
unbroken_one (Routed call told) h k = tt
unbroken_one (Looked joined call told) h k = tt
unbroken_one (Turned after found) h k = tt
unbroken_one (Resumed last) h k = tt
unbroken_one (Held hold) h k = (h.unbroken, k)
unbroken_one (Stirred at before after failed) h k = h.0
unbroken_one (Halted at state) h k = h
unbroken_one (Missed at kept) h k = tt
unbroken_one (Spent number) h k = h

pub unbroken : (entries : List DeskEntry) → AreWhole entries → AreUnbroken entries
unbroken [] h = tt
unbroken (entry ∷ more) h = (unbroken_one entry h.0.0 h.0.1, unbroken more h.1)
