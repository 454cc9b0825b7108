-- What follows for the passes of a hub by the definitions alone.
use Rattle.std.specs.Prelude.{◌≡◌, List}
use Rattle.std.specs.List.{AllByRecursion, AllZip}
use Rattle.js_api.specs.Entries.{DeskEntry}
use Rattle.turn_lock.specs.Seats.{SeatView}
use Rattle.hub_fronts.specs.Fronts.{SharedScene}
use Rattle.hub_fronts.specs.Making.{SharedMade}
use Rattle.shared_desk.specs.Hubs.{HubView}
use Rattle.shared_desk.specs.Passes.{AreAllPasses, IsPassOf}

-- each seat has the numbers that it had
pub record KeepsNumbers (old new : SharedScene) : Type 0 where
  pub router : new.fronts.router.numbers ≡ old.fronts.router.numbers
  pub catalog : new.fronts.catalog.numbers ≡ old.fronts.catalog.numbers
  pub places : AllZip (λ (was is : SeatView). is.numbers ≡ was.numbers) old.fronts.places new.fronts.places

-- whatever the calls of a desk make
abbrev pub LawNumbers : Type 0
LawNumbers = (old new : SharedScene) (entries : List DeskEntry) → SharedMade old entries new → KeepsNumbers old new

-- passes that are still of the hub, and whose seats have their numbers, are still all of it
abbrev pub LawAll : Type 0
LawAll = (hub : HubView) (olds news : List SharedScene) → AreAllPasses hub olds → AllZip KeepsNumbers olds news → AllByRecursion (IsPassOf hub) news → AreAllPasses hub news
