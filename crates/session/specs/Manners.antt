-- How the session's own part of what it knows of its client stands for the whole.
use Rattle.std.specs.Prelude.{ℕ, List, [], ◌∷◌}
use Rattle.js_api.specs.Clients.{Client}
use Rattle.session.specs.Peer.{Peer}
use Rattle.session.specs.declared.manners.Manners.{Manners}
use Rattle.session.specs.declared.manners.Pings.{Pings}
use Rattle.session.specs.declared.manners.Pings.TheVariants.{Answered, One, Two}

-- the moments of the PINGs that are not answered
abbrev pub moments : Pings → List ℕ
moments Answered = []
moments (One first) = first ∷ []
moments (Two first second) = first ∷ second ∷ []

abbrev pub peer_of : Client → Manners → Peer
peer_of client manners = record { client = client; verbose = manners.verbose; pedantic = manners.pedantic; pings = moments manners.pings; ticks = manners.ticks }
