-- The client of a desk's session, as the definitions of a desk's calls have it.
use Rattle.js_api.specs.Clients.{Client}
use Rattle.desk_ground.specs.declared.caller.Caller.{Caller}

abbrev pub client_of : Caller → Client
client_of caller = record { session = caller.session; is_open = caller.is_open; told = caller.told }
