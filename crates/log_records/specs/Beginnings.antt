-- What the snapshot tells with which a log begins: what outlived a crash of a place when the log was begun, its messages unread, and the blocks in which they
-- lay. By a format of this server's own.
use Rattle.std.specs.Prelude.{ℕ, [], map, Option, Some, None}
use Rattle.js_model.specs.declared.stream.Message.{Message}
use Rattle.effects.specs.declared.durable.Body.{Body}
use Rattle.effects.specs.Folding.{live}
use Rattle.block_table.specs.declared.placed.Placed.{Placed}
use Rattle.block_table.specs.Blocks.{Blocks}
use Rattle.block_table.specs.Tables.{IsTable}
use Rattle.durable_checks.specs.Storable.{IsStorable}
use Rattle.state_snapshot.specs.declared.snapshot.Snapshot.{Snapshot}
use Rattle.state_snapshot.specs.declared.snapshot.SnapshotBody.{SnapshotBody}
use Rattle.state_snapshot.specs.declared.snapshot.StoredMessage.{StoredMessage}
use Rattle.log_records.specs.Unread.{unread_subject}
use Rattle.log_records.specs.Logged.{Logged, beginning}

-- the message, unread
abbrev pub message_told : StoredMessage → Message
message_told m = record { seq = m.seq; at = m.at; subject = unread_subject; headers = []; payload = [] }

-- where it lies
abbrev pub place_told : StoredMessage → Placed
place_told m = record { seq = m.seq; spot = m.spot }

abbrev pub body_told : SnapshotBody → Body
body_told b = record {
  made = b.made;
  moment = b.moment;
  last = b.last;
  config = b.config;
  messages = map message_told b.messages;
  ids = b.ids;
  consumers = b.consumers;
}

abbrev pub blocks_told : SnapshotBody → Blocks
blocks_told b = record { placed = map place_told b.messages; older = b.older; writing = b.writing }

-- a vacant place has neither messages nor blocks
abbrev pub logged_of : ℕ → Option SnapshotBody → Logged
logged_of i None = beginning i
logged_of i (Some b) = record { durable = live i (body_told b); blocks = blocks_told b }

abbrev pub logged_in : Snapshot → Logged
logged_in s = logged_of s.incarnation s.body

-- a log can begin with what is storable, and whose messages lie in blocks
pub record CanBegin (g : Logged) : Type 0 where
  pub table : IsTable g.blocks
  pub storable : IsStorable g.durable
