-- What many workers make of a hub and of a door.
use Rattle.std.specs.Prelude.{◌≡◌, ◌||◌, ℕ, Bool, List, [], ◌∷◌, Option, Some}
use Rattle.std.specs.List.{AllByRecursion, list_any}
use Rattle.session.specs.declared.ending.Limits.{Limits}
use Rattle.hub_fronts.specs.Fronts.{SharedScene}
use Rattle.shared_desk.specs.Hubs.{HubView}
use Rattle.shared_desk.specs.Passes.{IsPassOf}
use Rattle.workers.specs.Deeds.{Deed, Works, are_worn}
use Rattle.workers.specs.Doors.{Accepts, DoorTold}
use Rattle.workers.specs.Links.{AreLinks}
use Rattle.workers.specs.declared.doorway.Stop.{Stop}
use Rattle.workers.specs.declared.serving.Came.{Came}
use Rattle.workers.specs.declared.serving.Came.TheVariants as came

-- ---- the door while they serve

pub record DoorwayView : Type 0 where
  pub door : DoorTold
  pub left : Option ℕ
  pub stop : Option Stop
  pub worn : Bool
  pub starved : Bool
  pub out : ℕ

pub record IsDoorway (begun : DoorTold) (limits : Limits) (accepts : Option ℕ) (now : DoorwayView) : Type 0 where
  pub asked : Accepts accepts now.left now.stop begun now.door
  pub links : AreLinks limits now.worn now.starved begun now.out now.door

-- ---- at the end

-- each worker's deeds led its pass from the one to the other
abbrev pub HaveWorked : Limits → List SharedScene → List (List Deed) → List SharedScene → Type 0
HaveWorked limits [] [] [] = Unit {0}
HaveWorked limits (old ∷ olds) (deeds ∷ more) (new ∷ news) = Works limits old deeds new × HaveWorked limits olds more news
HaveWorked limits [] [] (new ∷ news) = ⊥
HaveWorked limits [] (deeds ∷ more) news = ⊥
HaveWorked limits (old ∷ olds) [] news = ⊥
HaveWorked limits (old ∷ olds) (deeds ∷ more) [] = ⊥

-- Each worker served links, one after the other, or let time pass, until no more links came: the door was closed or failed, or had given out as many as were to be accepted. If
-- the door tells of its links, as many came back as it gave out, and each was served. A session ended for want of numbers just if that was noted: by
-- the worker that served it, and at the door.
pub record IsService (limits : Limits) (accepts : Option ℕ) (hub : HubView) (olds news : List SharedScene) (begun now : DoorTold) (stop : Stop) (worn starved : Bool) : Type 0 where
  pub deeds : List (List Deed)
  pub worked : HaveWorked limits olds deeds news
  pub own : AllByRecursion (IsPassOf hub) news
  pub left : Option ℕ
  pub asked : Accepts accepts left (Some stop) begun now
  pub noted : Bool
  pub links : AreLinks limits noted starved begun 0 now
  pub worn_is : worn ≡ (noted || list_any are_worn deeds)

-- memory ran out before the door was asked
pub record IsUnbegun (olds news : List SharedScene) (begun now : DoorTold) : Type 0 where
  pub passes : news ≡ olds
  pub door : now ≡ begun

abbrev pub Serves : Limits → Option ℕ → HubView → List SharedScene → List SharedScene → DoorTold → DoorTold → Came → Type 0
Serves limits accepts hub olds news begun now came.Unbegun = IsUnbegun olds news begun now
Serves limits accepts hub olds news begun now (came.Served stop worn starved) = IsService limits accepts hub olds news begun now stop worn starved
