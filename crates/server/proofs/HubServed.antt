-- Laws of what many workers leave of the passes of a hub, and of the status of their service.
use Rattle.std.proofs.Common.{◌≡◌, ◌≤◌, ℕ, List, [], ◌∷◌, Option, ap, arith, sym, subst}
use Rattle.std.specs.List.{AllZip}
use Rattle.hub_fronts.specs.Fronts.{SharedScene}
use Rattle.session.specs.declared.ending.Limits.{Limits}
use Rattle.shared_desk.specs.Hubs.{HubView}
use Rattle.shared_desk.specs.Laws.{KeepsNumbers, LawAll, LawNumbers}
use Rattle.shared_desk.specs.Passes.{AreAllPasses}
use Rattle.workers.specs.Deeds.{Deed}
use Rattle.workers.specs.Doors.{DoorTold}
use Rattle.workers.specs.Serving.{HaveWorked, Serves}
use Rattle.workers.specs.declared.serving.Came.{Came}
use Rattle.workers.specs.declared.serving.Came.TheVariants as came

module _ (numbers : LawNumbers) (law : LawAll) (limits : Limits) where
  keep_numbers : (olds : List SharedScene) (deeds : List (List Deed)) (news : List SharedScene) → HaveWorked limits olds deeds news → AllZip KeepsNumbers olds news
  keep_numbers [] [] [] h = tt
  keep_numbers (old ∷ olds) (ds ∷ deeds) (new ∷ news) h = (numbers old new _ h.0.led, keep_numbers olds deeds news h.1)
  keep_numbers [] [] (new ∷ news) h = absurd h
  keep_numbers [] (ds ∷ deeds) news h = absurd h
  keep_numbers (old ∷ olds) [] news h = absurd h
  keep_numbers (old ∷ olds) (ds ∷ deeds) [] h = absurd h

  -- they are still all passes of the hub
  pub all_after : (accepts : Option ℕ) (hub : HubView) (olds news : List SharedScene) (begun now : DoorTold) (c : Came) → AreAllPasses hub olds
      → Serves limits accepts hub olds news begun now c → AreAllPasses hub news
  all_after accepts hub olds news begun now came.Unbegun all h = subst (AreAllPasses hub) (sym h.passes) all
  all_after accepts hub olds news begun now (came.Served stop worn starved) all h = law hub olds news all (keep_numbers olds h.deeds news h.worked) h.own

-- the door's count did not fall
pub later_by : (limits : Limits) (accepts : Option ℕ) (hub : HubView) (olds news : List SharedScene) (begun now : DoorTold) (c : Came)
    → Serves limits accepts hub olds news begun now c → begun.faults ≤ now.faults
later_by limits accepts hub olds news begun now came.Unbegun h = omega (arith, ap (λ (d : DoorTold). d.faults) h.door)
later_by limits accepts hub olds news begun now (came.Served stop worn starved) h = h.asked.later
