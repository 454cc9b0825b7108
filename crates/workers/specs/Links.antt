-- What became of the links that a door gave out to many workers.
use Rattle.std.specs.Prelude.{◌≡◌, ◌≤◌, ◌+◌, ◌++◌, ℕ, Bool, true, List, length, Contains, Option, Some}
use Rattle.std.specs.List.{AllByRecursion}
use Rattle.js_base.specs.Bytes.{Bytes}
use Rattle.link_edge.specs.Reports.{Report}
use Rattle.session.specs.Talk.{Journal}
use Rattle.session.specs.declared.ending.Limits.{Limits}
use Rattle.session.specs.declared.ending.Ended.{Ended}
use Rattle.session.specs.declared.ending.Ended.TheVariants.{NoMemory}
use Rattle.workers.specs.Doors.{DoorTold}
use Rattle.workers.specs.Sessions.{IsSession, used_up}

-- a session was held over a link with this report, and ended so
pub record HasSession (limits : Limits) (report : Report) (ended : Ended) : Type 0 where
  pub journal : Journal
  pub bytes : Bytes
  pub session : IsSession limits report journal bytes ended

-- a link that came back was served: a session was held over it, and if that ended for want of numbers or of memory, this was noted
pub record IsServed (limits : Limits) (worn starved : Bool) (report : Report) : Type 0 where
  pub journal : Journal
  pub bytes : Bytes
  pub ended : Ended
  pub session : IsSession limits report journal bytes ended
  pub worn_is : ended ≡ used_up → worn ≡ true
  pub starved_is : ended ≡ NoMemory → starved ≡ true

-- a session over one of the links with these reports ended for want of numbers
pub record HasWornOne (limits : Limits) (reports : List Report) : Type 0 where
  pub report : Report
  pub among : Contains reports report
  pub session : HasSession limits report used_up

-- Since so many had been given out and these had come back, each link that came back was served, and so many are out. That a session ended for want of
-- numbers was noted only if one did.
pub record AreServed (limits : Limits) (worn starved : Bool) (gave : ℕ) (back : List Report) (out : ℕ) (now : DoorTold) : Type 0 where
  pub reports : List Report
  pub back_is : now.back ≡ Some (back ++ reports)
  pub gave_is : now.gave ≡ Some (gave + (length reports + out))
  pub served : AllByRecursion (IsServed limits worn starved) reports
  pub worn_by : worn ≡ true → HasWornOne limits reports

-- it is so, if the door tells of its links and no more had come back as the run began than were given out
abbrev pub AreLinks : Limits → Bool → Bool → DoorTold → ℕ → DoorTold → Type 0
AreLinks limits worn starved begun out now =
    (gave : ℕ) (back : List Report) → begun.gave ≡ Some gave → begun.back ≡ Some back → length back ≤ gave → AreServed limits worn starved gave back out now
