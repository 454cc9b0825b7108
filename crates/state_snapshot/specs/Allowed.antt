-- Which snapshots can be written, by a format of this server's own: numbers below 2^62 (a cursor may be 2^62), names, configurations that are valid, and no more
-- of anything than a count of four bytes can tell.
use Rattle.std.specs.Prelude.{ℕ, ◌^◌, nat_lt, Bool, true, ◌&&◌, ◌==◌, Option, Some, None}
use Rattle.std.specs.Option.{option_to_list}
use Rattle.js_base.specs.Bytes.{is_empty, same}
use Rattle.js_model.specs.declared.consumer.Consumer.{Consumer}
use Rattle.js_model.specs.declared.consumer.Pending.{Pending}
use Rattle.js_model.specs.declared.stream.Id.{Id}
use Rattle.js_model.specs.declared.stream_config.StreamConfig.{StreamConfig}
use Rattle.js_model.specs.Configs.{is_name, is_number, is_stream_config, is_consumer_config}
use Rattle.op_records.specs.Allowed.{is_text, is_cursor, is_list, are_picks, is_spot}
use Rattle.block_table.specs.declared.block.Block.{Block}
use Rattle.state_snapshot.specs.declared.snapshot.Snapshot.{Snapshot}
use Rattle.state_snapshot.specs.declared.snapshot.SnapshotBody.{SnapshotBody}
use Rattle.state_snapshot.specs.declared.snapshot.StoredMessage.{StoredMessage}

-- ---- what stands in lists

abbrev pub is_message : StoredMessage → Bool
is_message m = is_number m.seq && is_number m.at && is_spot m.spot

abbrev pub is_block : Block → Bool
is_block b = nat_lt b.file (2 ^ 16) && nat_lt b.end (2 ^ 32)

abbrev pub is_id : Id → Bool
is_id i = is_text i.id && is_number i.seq && is_number i.at

abbrev pub is_pending : Pending → Bool
is_pending p = is_number p.seq && is_number p.count && is_number p.due

-- the name is that of the configuration
abbrev pub is_made : Consumer → Bool
is_made c = is_name c.name && is_number c.made && is_consumer_config c.config && same c.config.name c.name

abbrev pub is_progress : Consumer → Bool
is_progress c = is_cursor c.cursor && is_number c.dseq && are_picks c.picks && is_list is_pending c.pending && are_picks c.given_up

-- no pull waits, and the mark is the moment of its making
abbrev pub is_resting : Consumer → Bool
is_resting c = is_empty c.waiting && (c.mark == c.made)

abbrev pub is_consumer : Consumer → Bool
is_consumer c = is_made c && is_progress c && is_resting c

-- ---- a stream

abbrev pub is_head : ℕ → ℕ → ℕ → StreamConfig → Bool
is_head made moment last config = is_number made && is_number moment && is_number last && is_stream_config config

abbrev pub is_stored : SnapshotBody → Bool
is_stored b = is_list is_message b.messages && is_list is_block b.older && is_list is_block (option_to_list b.writing)

abbrev pub is_body : SnapshotBody → Bool
is_body b = is_head b.made b.moment b.last b.config && is_stored b && is_list is_id b.ids && is_list is_consumer b.consumers

-- ---- a snapshot

abbrev pub is_body_if_any : Option SnapshotBody → Bool
is_body_if_any None = true
is_body_if_any (Some body) = is_body body

abbrev pub is_snapshot : Snapshot → Bool
is_snapshot s = is_number s.incarnation && is_body_if_any s.body
