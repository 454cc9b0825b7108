-- What contracts see of the desk of one caller of many, and what holds of it.
use Rattle.std.specs.Prelude.{◌≡◌, ℕ, true, List}
use Rattle.js_api.specs.Clients.{Client}
use Rattle.js_api.specs.Entries.{DeskEntry}
use Rattle.desk_ground.specs.Callers.{client_of}
use Rattle.desk_ground.specs.Grounds.{Outside}
use Rattle.desk_ground.specs.declared.caller.Caller.{Caller}
use Rattle.turn_lock.specs.Calls.{left}
use Rattle.hub_fronts.specs.Fronts.{SharedScene}
use Rattle.hub_fronts.specs.Making.{SharedMade}
use Rattle.hub_router.specs.Calls.{is_own}
use Rattle.shared_desk.specs.Grounds.{Standing}
use Rattle.shared_desk.specs.Hubs.{HubView}

-- the hub, what the caller knows, and the client of its session
pub record HubDeskView : Type 0 where
  pub hub : HubView
  pub scene : SharedScene
  pub client : Client

abbrev pub desk_of : Standing → Caller → HubDeskView
desk_of ground caller = record { hub = ground.hub; scene = ground.scene; client = client_of caller }

-- the entries led from the one to the other, over the same hub
abbrev pub HubDeskMade : HubDeskView → List DeskEntry → HubDeskView → Type 0
HubDeskMade old entries new = SharedMade old.scene entries new.scene × (new.hub ≡ old.hub)

-- it is in no turn of the catalog, and its open session is one that its seat opened at the router and did not close
pub record IsConsistent (ground : Standing) (caller : Caller) : Type 0 where
  pub outside : ground.phase ≡ Outside
  pub opened : caller.is_open ≡ true → is_own ground.scene.fronts.router caller.session ≡ true

-- each collect takes a ticket of the router, so that no more of them may follow than tickets are left
abbrev pub frames_left : HubDeskView → ℕ
frames_left desk = left desk.scene.fronts.router
