-- How a run of a command ends.
use Rattle.std.specs.Prelude.{◌≡◌, ℕ, List, Option}
use Rattle.hub_fronts.specs.Fronts.{SharedScene}
use Rattle.js_api.specs.Entries.{DeskEntry}
use Rattle.link_edge.specs.Notices.{NoticeTold}
use Rattle.js_desk.specs.Solo.{Solo}
use Rattle.desk_places.specs.declared.faults.Closed.{Closed}
use Rattle.desk_places.specs.declared.faults.HubFault.{HubFault}
use Rattle.shared_desk.specs.Hubs.{HubView}
use Rattle.server.specs.declared.words.Command.{Command}
use Rattle.server.specs.declared.words.Command.TheVariants as commands
use Rattle.server.specs.Ending.{PipeEnds}
use Rattle.server.specs.HubServing.{ServeEnds}
use Rattle.server.specs.Outside.{Outside}

-- Of places of one kind: the desks of one caller over them, as `pipe` has one, and the hubs, as `serve` has one.
module _ {V : Type 0} (Opens : List V → Solo V → Type 0) (Refuses : List V → HubFault V → Type 0) (Made : Solo V → List DeskEntry → Solo V → Type 0) (Closes : Solo V → Closed V → Type 0)
    (OpensHub : List V → ℕ → HubView → List SharedScene → Type 0) (RefusesHub : List V → HubFault V → Type 0) (ClosesHub : HubView → List SharedScene → Closed V → Type 0) where
  -- what the notice was told before and after it stands last; `pipe` tells it nothing
  abbrev pub CommandEnds : Command → ℕ → List V → List V → Outside → Outside → Option NoticeTold → Option NoticeTold → Type 0
  CommandEnds (commands.Pipe dir stream) status vols_old vols_new old new told_old told_new = PipeEnds Opens Refuses Made Closes stream status vols_old vols_new old new × (told_new ≡ told_old)
  CommandEnds (commands.Serve listening) status vols_old vols_new old new told_old told_new = ServeEnds OpensHub RefusesHub ClosesHub listening status vols_old vols_new old new told_old told_new
