-- What a caller knows after it met another one, this server's own.
use Rattle.std.specs.Prelude.{◌≡◌}
use Rattle.turn_lock.specs.Calls.{HasMet}
use Rattle.hub_fronts.specs.Fronts.{SharedScene}
use Rattle.shared_desk.specs.Seats.{AllThree}

-- at each lock what the one had seen is there, and what the other had seen
pub record HaveMet (one other new : SharedScene) : Type 0 where
  pub router : HasMet one.fronts.router other.fronts.router new.fronts.router
  pub catalog : HasMet one.fronts.catalog other.fronts.catalog new.fronts.catalog
  pub places : AllThree HasMet one.fronts.places other.fronts.places new.fronts.places
  pub cursor : new.cursor ≡ one.cursor
