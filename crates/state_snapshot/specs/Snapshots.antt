-- The snapshot of what outlives a crash of a place, with where its messages lie, this server's own.
use Rattle.std.specs.Prelude.{◌≡◌, List, map, zip, option_map}
use Rattle.js_model.specs.declared.stream.Message.{Message}
use Rattle.js_model.specs.Runs.{messages_of}
use Rattle.js_model.specs.Streams.{seqs}
use Rattle.effects.specs.declared.durable.Body.{Body}
use Rattle.effects.specs.declared.durable.Durable.{Durable}
use Rattle.effects.specs.Durables.{state_of}
use Rattle.block_table.specs.Blocks.{Blocks}
use Rattle.block_table.specs.declared.placed.Placed.{Placed}
use Rattle.state_snapshot.specs.declared.snapshot.Snapshot.{Snapshot}
use Rattle.state_snapshot.specs.declared.snapshot.SnapshotBody.{SnapshotBody}
use Rattle.state_snapshot.specs.declared.snapshot.StoredMessage.{StoredMessage}

-- the table has a spot for each message, and for nothing else
abbrev pub HasSpots : Durable → Blocks → Type 0
HasSpots d b = map (λ p. p.seq) b.placed ≡ seqs (messages_of (state_of d))

-- what a snapshot tells of a message that lies there
abbrev pub stored_at : Message → Placed → StoredMessage
stored_at m p = record { seq = m.seq; at = m.at; spot = p.spot }

-- the messages, each with the spot that is listed for it
abbrev pub stored_in : List Placed → List Message → List StoredMessage
stored_in placed messages = map (λ pair. stored_at pair.0 pair.1) (zip messages placed)

abbrev pub body_in : Blocks → Body → SnapshotBody
body_in b body = record {
  made = body.made;
  moment = body.moment;
  last = body.last;
  config = body.config;
  messages = stored_in b.placed body.messages;
  older = b.older;
  writing = b.writing;
  ids = body.ids;
  consumers = body.consumers;
}

abbrev pub snapshot_of : Durable → Blocks → Snapshot
snapshot_of d b = record { incarnation = d.incarnation; body = option_map (body_in b) d.body }
