-- What holds of each run of a router that many seats share: the laws follow from the definitions of the machine.
use Rattle.std.specs.Prelude.{◌≡◌, ℕ, Bool, true, List, [], ◌++◌}
use Rattle.js_base.specs.Bytes.{has}
use Rattle.js_model.specs.Lists.{Lacks}
use Rattle.js_model.specs.Router.{NoSession, RouteEntry, RouteRun, empty_router, is_open}
use Rattle.seat_laws.specs.Seats.{SharedRouter, AreOpeners, SeatStep, SeatRun, has_opened, openers_by}

-- it forbids more than the router, and adds nothing to it
abbrev pub LawRoutes : Type 0
LawRoutes = (old new : SharedRouter) (entries : List RouteEntry) → SeatRun old entries new → RouteRun old.router entries new.router

-- ---- who opened the open sessions

abbrev pub LawOpening : Type 0
LawOpening = AreOpeners (record { router = empty_router; openers = [] })

abbrev pub LawOpeners : Type 0
LawOpeners = (old new : SharedRouter) (entries : List RouteEntry) → AreOpeners old → SeatRun old entries new → AreOpeners new

-- the entries alone decide which they are, whatever the router chose
abbrev pub LawOpened : Type 0
LawOpened = (old new : SharedRouter) (entries : List RouteEntry) → SeatRun old entries new → new.openers ≡ openers_by old.openers entries

-- ---- a session of one's own

-- whether an entry is by one of these seats
abbrev pub is_by : List ℕ → RouteEntry → Bool
is_by seats entry = has seats entry.seat

-- the session is open, and this seat opened it
pub record IsOwn (seat n : ℕ) (s : SharedRouter) : Type 0 where
  pub session_open : is_open s.router n ≡ true
  pub own : has_opened s.openers seat n ≡ true

-- entries of others change nothing of what one of these seats opened, and its sessions stay open
abbrev pub LawStays : Type 0
LawStays = (seats : List ℕ) (seat n : ℕ) (old new : SharedRouter) (entries : List RouteEntry) → AreOpeners old → SeatRun old entries new
    → has seats seat ≡ true → Lacks (is_by seats) entries
    → (has_opened new.openers seat n ≡ has_opened old.openers seat n) × (has_opened old.openers seat n ≡ true → IsOwn seat n new)

-- a call that a seat may make is for a session that is open
abbrev pub LawAnswered : Type 0
LawAnswered = (old new : SharedRouter) (entry : RouteEntry) (latest : ℕ) → AreOpeners old → SeatStep old entry new → entry.told ≡ NoSession latest → ⊥

-- ---- runs in a row

abbrev pub LawJoined : Type 0
LawJoined = (old mid new : SharedRouter) (first more : List RouteEntry) → SeatRun old first mid → SeatRun mid more new
    → SeatRun old (first ++ more) new

abbrev pub LawCut : Type 0
LawCut = (old new : SharedRouter) (first more : List RouteEntry) → SeatRun old (first ++ more) new
    → (mid : SharedRouter) × SeatRun old first mid × SeatRun mid more new
