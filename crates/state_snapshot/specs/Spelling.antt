-- How a snapshot is spelled, by a format of this server's own: a byte for the kind, which is that of a vacant place or of one with a stream, and then its fields
-- as those of records are spelled.
use Rattle.std.specs.Prelude.{ℕ, ◌∷◌, ◌++◌, Option, Some, None}
use Rattle.std.specs.Int.{w16, w32, to_be_bytes}
use Rattle.std.specs.Option.{option_to_list}
use Rattle.js_base.specs.Bytes.{Bytes}
use Rattle.js_model.specs.declared.consumer.Consumer.{Consumer}
use Rattle.js_model.specs.declared.consumer.Pending.{Pending}
use Rattle.js_model.specs.declared.stream.Id.{Id}
use Rattle.js_model.specs.declared.stream_config.StreamConfig.{StreamConfig}
use Rattle.config_texts.specs.Texts.{stream_text, consumer_text}
use Rattle.op_records.specs.Spelling.{number, short, text, long, spelled_list, numbers, spelled_spot, spelled_vacant}
use Rattle.block_table.specs.declared.block.Block.{Block}
use Rattle.state_snapshot.specs.declared.snapshot.Snapshot.{Snapshot}
use Rattle.state_snapshot.specs.declared.snapshot.SnapshotBody.{SnapshotBody}
use Rattle.state_snapshot.specs.declared.snapshot.StoredMessage.{StoredMessage}

-- ---- what stands in lists

unfoldable pub spelled_message : StoredMessage → Bytes
spelled_message m = number m.seq ++ (number m.at ++ spelled_spot m.spot)

unfoldable pub spelled_block : Block → Bytes
spelled_block b = to_be_bytes w16 b.file ++ to_be_bytes w32 b.end

unfoldable pub spelled_id : Id → Bytes
spelled_id i = text i.id ++ (number i.seq ++ number i.at)

unfoldable pub spelled_pending : Pending → Bytes
spelled_pending p = number p.seq ++ (number p.count ++ number p.due)

-- which consumer it is
abbrev pub spelled_made : Consumer → Bytes
spelled_made c = short c.name ++ (number c.made ++ long (consumer_text c.config))

-- what it has delivered, and what is still to be
abbrev pub spelled_progress : Consumer → Bytes
spelled_progress c = number c.cursor ++ (number c.dseq ++ (numbers c.picks ++ (spelled_list spelled_pending c.pending ++ numbers c.given_up)))

unfoldable pub spelled_consumer : Consumer → Bytes
spelled_consumer c = spelled_made c ++ spelled_progress c

-- ---- a stream

-- which stream it is, and how far it has come
abbrev pub spelled_head : ℕ → ℕ → ℕ → StreamConfig → Bytes
spelled_head made moment last config = number made ++ (number moment ++ (number last ++ long (stream_text config)))

-- its messages, and the blocks in which they lie
abbrev pub spelled_stored : SnapshotBody → Bytes
spelled_stored b = spelled_list spelled_message b.messages ++ (spelled_list spelled_block b.older ++ spelled_list spelled_block (option_to_list b.writing))

unfoldable pub spelled_body : SnapshotBody → Bytes
spelled_body b = spelled_head b.made b.moment b.last b.config ++ (spelled_stored b ++ (spelled_list spelled_id b.ids ++ spelled_list spelled_consumer b.consumers))

-- ---- a snapshot

abbrev pub spelled_with : ℕ → Option SnapshotBody → Bytes
spelled_with incarnation None = spelled_vacant incarnation
spelled_with incarnation (Some body) = 33 ∷ (number incarnation ++ spelled_body body)

unfoldable pub spelled_snapshot : Snapshot → Bytes
spelled_snapshot s = spelled_with s.incarnation s.body
