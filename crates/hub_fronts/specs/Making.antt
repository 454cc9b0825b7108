-- How the calls of a desk lead a caller of many: by entries of its own, before each of which it may have seen more of the places.
use Rattle.std.specs.Prelude.{◌≡◌, List, [], ◌∷◌}
use Rattle.js_api.specs.Entries.{DeskEntry}
use Rattle.js_api.specs.Leading.{Leads}
use Rattle.turn_lock.specs.Seats.{SeatView}
use Rattle.hub_fronts.specs.Fronts.{SharedScene}
use Rattle.hub_fronts.specs.Stepping.{SharedStep}
use Rattle.hub_fronts.specs.Turns.{HasSeen}

-- at each place more may have been seen
abbrev pub HaveSeen : List SeatView → List SeatView → Type 0
HaveSeen [] [] = Unit {0}
HaveSeen [] (is ∷ news) = ⊥
HaveSeen (was ∷ olds) [] = ⊥
HaveSeen (was ∷ olds) (is ∷ news) = HasSeen was is × HaveSeen olds news

pub record SeesMore (old new : SharedScene) : Type 0 where
  pub router : new.fronts.router ≡ old.fronts.router
  pub catalog : new.fronts.catalog ≡ old.fronts.catalog
  pub places : HaveSeen old.fronts.places new.fronts.places
  pub cursor : new.cursor ≡ old.cursor

-- more was seen, and then an entry made
pub record MakesOne (old : SharedScene) (entry : DeskEntry) (new : SharedScene) : Type 0 where
  pub mid : SharedScene
  pub sees : SeesMore old mid
  pub step : SharedStep mid entry new

-- the entries were made one after the other, and then more was seen
pub record SharedMade (old : SharedScene) (entries : List DeskEntry) (new : SharedScene) : Type 0 where
  pub mid : SharedScene
  pub led : Leads MakesOne old entries mid
  pub sees : SeesMore mid new
