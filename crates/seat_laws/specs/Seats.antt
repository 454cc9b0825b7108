-- A router that many callers share, this server's own. Each caller has a seat there, with a number; the machine keeps which seat opened each
-- session, and takes the calls that name a session from that seat alone.
use Rattle.std.specs.Prelude.{◌≡◌, ⊤, ℕ, ◌+◌, Bool, true, not, ◌&&◌, ◌==◌, List, [], ◌∷◌, ◌++◌, map, filter, Option, Some, None}
use Rattle.std.specs.List.{list_any}
use Rattle.js_model.specs.Lists.{Between}
use Rattle.js_model.specs.Router.{Router, Session, RouteCall, Open, Close, Options, Sub, Unsub, Publish, Interest, Collect, RouteTold, Done, Opened, Taken, Listens, Frames, Slow, NoSession, TooManySubs, Worn, NoMemory, IsRoute, RouteEntry}

-- ---- which seat opened which session

pub record Opener : Type 0 where
  pub session : ℕ
  pub seat : ℕ

-- in the order in which the sessions were opened
abbrev pub Openers : Type 0
Openers = List Opener

-- the seat opened this session
abbrev pub is_opener : ℕ → ℕ → Opener → Bool
is_opener seat n o = o.session == n && o.seat == seat

abbrev pub has_opened : Openers → ℕ → ℕ → Bool
has_opened openers seat n = list_any (is_opener seat n) openers

-- ---- the router and its openers

pub record SharedRouter : Type 0 where
  pub router : Router
  pub openers : Openers

-- the numbers of the sessions, of the openers and of the router
abbrev pub sessions_of : Openers → List ℕ
sessions_of openers = map (λ (o : Opener). o.session) openers

abbrev pub open_sessions : Router → List ℕ
open_sessions r = map (λ (s : Session). s.number) r.sessions

-- the openers are those of the open sessions, in their order, and each session is there once: their numbers ascend from 1 to the last number
-- that was given
pub record AreOpeners (s : SharedRouter) : Type 0 where
  pub same : sessions_of s.openers ≡ open_sessions s.router
  pub ascending : Between (λ (n : ℕ). n) 1 (s.router.latest + 1) (open_sessions s.router)

-- ---- a call of a seat

-- the session that a call names
abbrev pub named : RouteCall → Option ℕ
named Open = None
named (Close n) = Some n
named (Options n echo headers) = Some n
named (Sub n pattern queue sid) = Some n
named (Unsub n sid max) = Some n
named (Publish out from) = from
named (Interest subject queue) = None
named (Collect n max) = Some n

-- a seat names only an open session that it opened itself; a call that names none may be anyone's
abbrev pub MayName : Openers → ℕ → Option ℕ → Type 0
MayName openers seat None = ⊤
MayName openers seat (Some n) = has_opened openers seat n ≡ true

-- what an Open adds: the session that was opened, if one was
abbrev pub new_openers : ℕ → RouteTold → Openers
new_openers seat Done = []
new_openers seat (Opened n) = record { session = n; seat = seat } ∷ []
new_openers seat (Taken count) = []
new_openers seat (Listens heard) = []
new_openers seat (Frames list more) = []
new_openers seat (Slow length) = []
new_openers seat (NoSession latest) = []
new_openers seat TooManySubs = []
new_openers seat Worn = []
new_openers seat NoMemory = []

abbrev pub without_session : ℕ → Openers → Openers
without_session n openers = filter (λ o. not (o.session == n)) openers

-- the openers after a call of this seat that was told this
abbrev pub openers_after : ℕ → RouteCall → RouteTold → Openers → Openers
openers_after seat Open told openers = openers ++ new_openers seat told
openers_after seat (Close n) told openers = without_session n openers
openers_after seat (Options n echo headers) told openers = openers
openers_after seat (Sub n pattern queue sid) told openers = openers
openers_after seat (Unsub n sid max) told openers = openers
openers_after seat (Publish out from) told openers = openers
openers_after seat (Interest subject queue) told openers = openers
openers_after seat (Collect n max) told openers = openers

-- the openers after these entries
abbrev pub openers_by : Openers → List RouteEntry → Openers
openers_by openers [] = openers
openers_by openers (entry ∷ entries) = openers_by (openers_after entry.seat entry.call entry.told openers) entries

-- the router's own step, by a seat that may make it
pub record SeatStep (old : SharedRouter) (entry : RouteEntry) (new : SharedRouter) : Type 0 where
  pub route : IsRoute old.router entry.call entry.told new.router
  pub may : MayName old.openers entry.seat (named entry.call)
  pub after : new.openers ≡ openers_after entry.seat entry.call entry.told old.openers

-- the entries lead from old to new
abbrev pub SeatRun : SharedRouter → List RouteEntry → SharedRouter → Type 0
SeatRun old [] new = old ≡ new
SeatRun old (entry ∷ entries) new = (mid : SharedRouter) × SeatStep old entry mid × SeatRun mid entries new
