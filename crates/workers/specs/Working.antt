-- A worker while it works.
use Rattle.std.specs.Prelude.{◌≡◌, ◌||◌, ℕ, Bool, false, List, Option, Some}
use Rattle.session.specs.declared.ending.Limits.{Limits}
use Rattle.hub_fronts.specs.Fronts.{SharedScene}
use Rattle.shared_desk.specs.Hubs.{HubView}
use Rattle.shared_desk.specs.Passes.{IsPassOf}
use Rattle.workers.specs.Deeds.{Deed, Works, are_worn}

-- it was given its pass and a share of the ledger, and has noted nothing
pub record IsHired (scene : SharedScene) (pass : Option SharedScene) (parts amount : ℕ) (worn : Bool) : Type 0 where
  pub there : pass ≡ Some scene
  pub part : parts ≡ 1
  pub none : amount ≡ 0
  pub unworn : worn ≡ false

-- it has its pass, and no link in hand
pub record HasPass (pass : Option SharedScene) (parts amount : ℕ) : Type 0 where
  pub scene : SharedScene
  pub there : pass ≡ Some scene
  pub part : parts ≡ 1
  pub none : amount ≡ 0

-- the pass is one of the hub
pub record IsIdle (hub : HubView) (pass : Option SharedScene) (parts amount : ℕ) : Type 0 where
  pub scene : SharedScene
  pub there : pass ≡ Some scene
  pub own : IsPassOf hub scene
  pub part : parts ≡ 1
  pub none : amount ≡ 0

-- it has its pass, and one link in hand
pub record HasLink (hub : HubView) (pass : Option SharedScene) (parts amount : ℕ) : Type 0 where
  pub scene : SharedScene
  pub there : pass ≡ Some scene
  pub own : IsPassOf hub scene
  pub part : parts ≡ 1
  pub one : amount ≡ 1

-- its deeds led it from the one to the other, and it noted whether one of them ended for want of numbers
pub record Worked (limits : Limits) (old new : Option SharedScene) (worn_old worn_new : Bool) : Type 0 where
  pub before : SharedScene
  pub after : SharedScene
  pub old_is : old ≡ Some before
  pub new_is : new ≡ Some after
  pub deeds : List Deed
  pub works : Works limits before deeds after
  pub worn : worn_new ≡ (worn_old || are_worn deeds)
