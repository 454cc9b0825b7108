-- What is told of the door at which many workers accept links.
use Rattle.std.specs.Prelude.{◌≡◌, ◌≤◌, ◌+◌, ◌++◌, ℕ, Bool, false, true, List, [], ◌∷◌, length, filter, Option, Some, None, IfSome}
use Rattle.std.specs.List.{AllByRecursion}
use Rattle.js_base.specs.Causes.{Rose}
use Rattle.link_edge.specs.Reports.{Report}
use Rattle.link_edge.specs.Told.{grown}
use Rattle.link_edge.specs.declared.answers.Accepted.{Accepted}
use Rattle.link_edge.specs.declared.answers.Accepted.TheVariants as accepted
use Rattle.workers.specs.declared.doorway.Stop.{Stop}
use Rattle.workers.specs.declared.doorway.Stop.TheVariants as stops

-- what it answered, how many links it gave out, what came back, and how often it failed
pub record DoorTold : Type 0 where
  pub answered : Option (List Accepted)
  pub gave : Option ℕ
  pub back : Option (List Report)
  pub faults : ℕ

abbrev pub untold : DoorTold
untold = record { answered = None; gave = None; back = None; faults = 0 }

-- ---- what its accepts answered since the run began

-- an answer after which it is asked again
abbrev pub GoesOn : Accepted → Type 0
GoesOn accepted.Got = Unit {0}
GoesOn accepted.Quiet = Unit {0}
GoesOn accepted.Closed = ⊥
GoesOn accepted.Failed = ⊥

abbrev pub GoOn : List Accepted → Type 0
GoOn = AllByRecursion GoesOn

-- it is asked again, or was closed or failed at last, or has given out as many links as it was to
abbrev pub StopsBy : Option Stop → List Accepted → Type 0
StopsBy None told = GoOn told
StopsBy (Some stops.Full) told = GoOn told
StopsBy (Some stops.Closed) told = (before : List Accepted) × (told ≡ before ++ accepted.Closed ∷ []) × GoOn before
StopsBy (Some stops.Failed) told = (before : List Accepted) × (told ≡ before ++ accepted.Failed ∷ []) × GoOn before

abbrev pub is_got : Accepted → Bool
is_got accepted.Got = true
is_got accepted.Quiet = false
is_got accepted.Closed = false
is_got accepted.Failed = false

-- so many links may still be given out, if there is a limit, of which none is left where it stopped for that
abbrev pub LeavesRoom : Option ℕ → Option ℕ → ℕ → Type 0
LeavesRoom None None given = Unit {0}
LeavesRoom None (Some left) given = ⊥
LeavesRoom (Some accepts) None given = ⊥
LeavesRoom (Some accepts) (Some left) given = given + left ≡ accepts

-- Since the run began its accepts answered this, which stopped it or not. A door that is full was to give out just so many links.
pub record Accepts (accepts left : Option ℕ) (stop : Option Stop) (begun now : DoorTold) : Type 0 where
  pub told : List Accepted
  pub answered : now.answered ≡ grown begun.answered told
  pub stopped : StopsBy stop told
  pub room : LeavesRoom accepts left (length (filter is_got told))
  pub full : stop ≡ Some stops.Full → left ≡ Some 0
  pub later : begun.faults ≤ now.faults
  pub failed : stop ≡ Some stops.Failed → Rose begun.faults now.faults
