-- The snapshot that bytes are, by a format of this server's own. Faults are told by the places of the bytes, which count from 0.
use Rattle.std.specs.Prelude.{◌==◌, ℕ, List, [], ◌∷◌, Option, Some, None, Err, if◌then◌else◌}
use Rattle.std.specs.Int.{w8, w16, w32}
use Rattle.js_model.specs.declared.consumer.Consumer.{Consumer}
use Rattle.js_model.specs.declared.consumer.Pending.{Pending}
use Rattle.js_model.specs.declared.stream.Id.{Id}
use Rattle.op_records.specs.Fields.{only, word, number_field, cursor_field, list_field, numbers_field, name_field, text_field, stream_field, consumer_field, spot_field}
use Rattle.op_records.specs.Reading.{is_named, misplaced, at_end}
use Rattle.op_records.specs.Steps.{Reader, ◌>>=◌, done, place}
use Rattle.op_records.specs.declared.fault.RecordFault.TheVariants.{BadField}
use Rattle.block_table.specs.declared.block.Block.{Block}
use Rattle.state_snapshot.specs.declared.snapshot.Snapshot.{Snapshot}
use Rattle.state_snapshot.specs.declared.snapshot.SnapshotBody.{SnapshotBody}
use Rattle.state_snapshot.specs.declared.snapshot.StoredMessage.{StoredMessage}

-- ---- what stands in lists

unfoldable pub message_field : Reader StoredMessage
message_field = do
  seq ← number_field
  at ← number_field
  spot ← spot_field
  done (record { seq = seq; at = at; spot = spot })

unfoldable pub block_field : Reader Block
block_field = do
  file ← word w16
  end ← word w32
  done (record { file = file; end = end })

unfoldable pub id_field : Reader Id
id_field = do
  id ← text_field
  seq ← number_field
  at ← number_field
  done (record { id = id; seq = seq; at = at })

unfoldable pub pending_field : Reader Pending
pending_field = do
  seq ← number_field
  count ← number_field
  due ← number_field
  done (record { seq = seq; count = count; due = due })

-- The name, at which it begins, is told if the configuration has another one. No pull waits, and the mark is the moment of its making.
abbrev pub consumer_from : ℕ → Reader Consumer
consumer_from begin = do
  name ← name_field
  made ← number_field
  config ← consumer_field
  config ← only (is_named name) begin config
  cursor ← cursor_field
  dseq ← number_field
  picks ← numbers_field
  pending ← list_field pending_field
  given_up ← numbers_field
  done (record {
    name = name;
    made = made;
    config = config;
    picks = picks;
    cursor = cursor;
    dseq = dseq;
    pending = pending;
    given_up = given_up;
    waiting = [];
    mark = made;
  })

unfoldable pub consumer_state_field : Reader Consumer
consumer_state_field = do
  begin ← place
  consumer_from begin

-- ---- a stream

-- none of them, or one; of more the count is bad
abbrev pub none_or_one : {A : Type 0} → ℕ → List A → Reader (Option A)
none_or_one begin [] = done None
none_or_one begin (one ∷ []) = done (Some one)
none_or_one begin (one ∷ other ∷ more) = λ _ _. Err (BadField begin)

unfoldable pub writing_field : Reader (Option Block)
writing_field = do
  begin ← place
  blocks ← list_field block_field
  none_or_one begin blocks

unfoldable pub body_field : Reader SnapshotBody
body_field = do
  made ← number_field
  moment ← number_field
  last ← number_field
  config ← stream_field
  messages ← list_field message_field
  older ← list_field block_field
  writing ← writing_field
  ids ← list_field id_field
  consumers ← list_field consumer_state_field
  done (record {
    made = made;
    moment = moment;
    last = last;
    config = config;
    messages = messages;
    older = older;
    writing = writing;
    ids = ids;
    consumers = consumers;
  })

-- ---- a snapshot

abbrev pub vacant_snapshot : Reader Snapshot
vacant_snapshot = do
  incarnation ← number_field
  done (record { incarnation = incarnation; body = None })

abbrev pub live_snapshot : Reader Snapshot
live_snapshot = do
  incarnation ← number_field
  body ← body_field
  done (record { incarnation = incarnation; body = Some body })

abbrev pub snapshot_of_kind : ℕ → ℕ → Reader Snapshot
snapshot_of_kind begin kind = if kind == 32 then vacant_snapshot else (if kind == 33 then live_snapshot else misplaced begin kind)

-- a snapshot is one record
unfoldable pub snapshot_record : Reader Snapshot
snapshot_record = do
  begin ← place
  kind ← word w8
  snapshot_of_kind begin kind

-- the bytes are a snapshot, and nothing stands behind it
unfoldable pub snapshot_field : Reader Snapshot
snapshot_field = do
  snapshot ← snapshot_record
  at_end snapshot
