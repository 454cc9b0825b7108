-- What the calls of a router answer, and what its callers can count on, by the NATS client protocol.
use Rattle.std.specs.Prelude.{◌≡◌, ◌==◌, ℕ, ◌<◌, true, false, Option, Some, None, Result, Ok, Err, length}
use Rattle.js_model.specs.Router as router
use Rattle.js_model.specs.declared.desk.Collected.{Collected}
use Rattle.js_model.specs.declared.desk.Collected.TheVariants.{Frames, Slow}
use Rattle.js_model.specs.declared.route_fault.RouteFault.{RouteFault}
use Rattle.js_model.specs.declared.route_fault.RouteFault.TheVariants as faults

-- ---- the answers

abbrev pub fault_told : RouteFault → router.RouteTold
fault_told (faults.NoSession latest) = router.NoSession latest
fault_told faults.TooManySubs = router.TooManySubs
fault_told faults.NoMemory = router.NoMemory
fault_told faults.Worn = router.Worn

abbrev pub open_told : Result ℕ RouteFault → router.RouteTold
open_told (Ok session) = router.Opened session
open_told (Err fault) = fault_told fault

-- of a call that answers no more than that it was done
abbrev pub done_told : Result (Unit {0}) RouteFault → router.RouteTold
done_told (Ok _) = router.Done
done_told (Err fault) = fault_told fault

abbrev pub publish_told : Result ℕ RouteFault → router.RouteTold
publish_told (Ok count) = router.Taken count
publish_told (Err fault) = fault_told fault

abbrev pub collected_told : Result Collected RouteFault → router.RouteTold
collected_told (Ok (Frames list more)) = router.Frames list more
collected_told (Ok (Slow length)) = router.Slow length
collected_told (Err fault) = fault_told fault

-- ---- what is open, and what waits

-- how many frames wait; none does for a marked session
abbrev pub frame_count : router.Waiting → ℕ
frame_count (router.Queue frames) = length frames
frame_count (router.Marked _) = 0

abbrev pub waiting_count : Option router.Session → ℕ
waiting_count None = 0
waiting_count (Some session) = frame_count session.waiting

-- how many frames wait for a session
abbrev pub waiting_for : router.Router → ℕ → ℕ
waiting_for r n = waiting_count (router.session_of r n)

-- a session that is open, with nothing waiting
abbrev pub Opens : router.Router → ℕ → Type 0
Opens r n = (router.is_open r n ≡ true) × (waiting_for r n ≡ 0)

-- what was open still is
abbrev pub StaysOpen : router.Router → router.Router → Type 0
StaysOpen old new = (n : ℕ) → router.is_open old n ≡ true → router.is_open new n ≡ true

-- exactly the same sessions are open
abbrev pub KeepsOpen : router.Router → router.Router → Type 0
KeepsOpen old new = (n : ℕ) → router.is_open new n ≡ router.is_open old n

-- this session is closed, and of the others the same are open
pub record ClosesOne (n : ℕ) (old new : router.Router) : Type 0 where
  pub closed : router.is_open new n ≡ false
  pub others : (m : ℕ) → (m == n) ≡ false → router.is_open new m ≡ router.is_open old m

-- if more was left, fewer frames wait than before
abbrev pub LeavesFewer : Result Collected RouteFault → ℕ → ℕ → Type 0
LeavesFewer (Ok (Frames list true)) before after = after < before
LeavesFewer (Ok (Frames list false)) before after = Unit {0}
LeavesFewer (Ok (Slow length)) before after = Unit {0}
LeavesFewer (Err fault) before after = Unit {0}
