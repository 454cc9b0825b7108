-- When a router stands for a history that many share, and who opened the sessions in it, this server's own.
use Rattle.std.specs.Prelude.{List, [], ◌∷◌}
use Rattle.js_model.specs.Router.{Router, RouteEntry}
use Rattle.seat_laws.specs.Seats.{Openers, openers_by}
use Rattle.histories.specs.Entries.{Entry, AtPlace, AtRouter, AtCatalog, Opening}
use Rattle.histories.specs.Lawful.{RouterStands}

-- the entries lead from the opening state to this router, whoever opened its sessions
abbrev pub RouterIs : Opening → List Entry → Router → Type 0
RouterIs opening entries router = (openers : Openers) × RouterStands opening entries (record { router = router; openers = openers })

-- the calls of the router in a history
abbrev pub calls_in : List Entry → List RouteEntry
calls_in [] = []
calls_in (AtPlace step ∷ more) = calls_in more
calls_in (AtRouter call ∷ more) = call ∷ calls_in more
calls_in (AtCatalog call ∷ more) = calls_in more

-- who opened the sessions that are open after a history
abbrev pub openers_in : List Entry → Openers
openers_in entries = openers_by [] (calls_in entries)
