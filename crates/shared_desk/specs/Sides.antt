-- What a caller has of the catalog: its seat there, or a turn that it is in.
use Rattle.std.specs.Prelude.{◌≡◌, []}
use Rattle.js_model.specs.Catalog.{Catalog}
use Rattle.turn_lock.specs.Seats.{LockView, SeatView}
use Rattle.hub_catalog.specs.Lists.{AreSingle, AreSingleBut}
use Rattle.desk_places.specs.declared.turn.Turn.{Turn}
use Rattle.desk_places.specs.declared.turn.Turn.TheVariants as turns
use Rattle.shared_desk.specs.Seats.{IsSeatOf, nowhere}
use Rattle.shared_desk.specs.declared.side.Side.{Side}
use Rattle.shared_desk.specs.declared.side.Side.TheVariants.{Outside, Inside, Away}

-- its seat, as it will be as the turn ends
abbrev pub seat_beside : Side → SeatView
seat_beside (Outside seat) = seat
seat_beside (Inside going) = going.seat
seat_beside Away = nowhere

-- the catalog within the turn
abbrev pub kept_in : Side → Catalog
kept_in (Outside seat) = []
kept_in (Inside going) = going.kept
kept_in Away = []

-- the catalog may stand so within a turn: with two lists of subjects for the stream whose change is still to be told, and one for each other stream
abbrev pub MayStand : Turn → Catalog → Type 0
MayStand turns.Outside catalog = ⊥
MayStand turns.Within catalog = AreSingle catalog
MayStand (turns.Between place) catalog = AreSingleBut place catalog
MayStand (turns.Owing place) catalog = AreSingle catalog

-- the seat is one of the catalog's lock, and the caller is in a turn of it or not
abbrev pub IsBeside : LockView → Turn → Side → Type 0
IsBeside of turn (Outside seat) = (turn ≡ turns.Outside) × IsSeatOf of seat
IsBeside of turn (Inside going) = MayStand turn going.kept × IsSeatOf of going.seat
IsBeside of turn Away = ⊥

-- ---- which of the two

abbrev pub IsOutside : Side → Type 0
IsOutside (Outside seat) = Unit {0}
IsOutside (Inside going) = ⊥
IsOutside Away = ⊥

abbrev pub IsInside : Side → Type 0
IsInside (Outside seat) = ⊥
IsInside (Inside going) = Unit {0}
IsInside Away = ⊥
