-- What a caller of many knows, this server's own: what it has seen at each lock, and where its own calls went on.
use Rattle.std.specs.Prelude.{List}
use Rattle.js_api.specs.Worlds.{Cursor}
use Rattle.turn_lock.specs.Seats.{SeatView}

-- its seat at the router, at the catalog and at each place
pub record Fronts : Type 0 where
  pub router : SeatView
  pub catalog : SeatView
  pub places : List SeatView

-- with the place of its last tick, and that of its last hold
pub record SharedScene : Type 0 where
  pub fronts : Fronts
  pub cursor : Cursor
