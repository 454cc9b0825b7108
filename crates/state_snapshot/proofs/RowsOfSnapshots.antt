-- Worked rows of snapshots as they are spelled and read, and of bytes that are none.
use Rattle.std.specs.Prelude.{◌≡◌, ℕ, [], ◌∷◌, ◌++◌, Some, None, Ok, Err, refl}
use Rattle.js_base.specs.Bytes.{Bytes}
use Rattle.js_model.specs.declared.consumer.Pending.{Pending}
use Rattle.js_model.specs.declared.stream.Id.{Id}
use Rattle.js_model.specs.declared.stream.Message.{Message}
use Rattle.op_records.specs.Fields.{number_field, list_field, spot_field, text_field}
use Rattle.op_records.specs.Spelling.{spelled_list, spelled_vacant}
use Rattle.op_records.specs.declared.fault.RecordFault.TheVariants.{Cut, BadKind, BadField}
use Rattle.block_table.specs.declared.block.Block.{Block}
use Rattle.block_table.specs.declared.placed.Placed.{Placed}
use Rattle.state_snapshot.specs.Reading.{block_field, id_field, message_field, pending_field, writing_field, snapshot_record, snapshot_field}
use Rattle.state_snapshot.specs.Snapshots.{stored_in}
use Rattle.state_snapshot.specs.Spelling.{spelled_pending, spelled_snapshot}
use Rattle.state_snapshot.specs.declared.snapshot.Snapshot.{Snapshot}
use Rattle.state_snapshot.specs.declared.snapshot.StoredMessage.{StoredMessage}

-- the number of one byte, in eight and in four
abbrev small : ℕ → Bytes
small n = 0 ∷ 0 ∷ 0 ∷ 0 ∷ 0 ∷ 0 ∷ 0 ∷ n ∷ []

abbrev count : ℕ → Bytes
count n = 0 ∷ 0 ∷ 0 ∷ n ∷ []

abbrev vacant : ℕ → Snapshot
vacant incarnation = record { incarnation = incarnation; body = None }

-- ---- a vacant place

vacant_spelled : spelled_snapshot (vacant 7) ≡ 32 ∷ small 7
unfolding spelled_snapshot spelled_vacant
vacant_spelled = refl

vacant_read : snapshot_field (32 ∷ small 7) 0 ≡ Ok (vacant 7, 9)
unfolding snapshot_field snapshot_record number_field
vacant_read = refl

nothing_behind : snapshot_field (32 ∷ (small 7 ++ 3 ∷ [])) 0 ≡ Err (BadField 9)
unfolding snapshot_field snapshot_record number_field
nothing_behind = refl

later_kind : snapshot_field (13 ∷ small 7) 0 ≡ Err (BadField 0)
unfolding snapshot_field snapshot_record
later_kind = refl

no_kind : snapshot_field (34 ∷ small 7) 0 ≡ Err (BadKind 0)
unfolding snapshot_field snapshot_record
no_kind = refl

cut_short : snapshot_field (33 ∷ 0 ∷ []) 0 ≡ Err (Cut 1)
unfolding snapshot_field snapshot_record number_field
cut_short = refl

-- ---- lists

abbrev stored : StoredMessage
stored = record { seq = 5; at = 9; spot = record { file = 2; at = 40; len = 60 } }

stored_read : message_field (small 5 ++ (small 9 ++ (0 ∷ 2 ∷ (count 40 ++ count 60)))) 0 ≡ Ok (stored, 26)
unfolding message_field number_field spot_field
stored_read = refl

-- a moment of 2^62
too_late : message_field (small 5 ++ (64 ∷ 0 ∷ 0 ∷ 0 ∷ 0 ∷ 0 ∷ 0 ∷ 0 ∷ [])) 0 ≡ Err (BadField 8)
unfolding message_field number_field
too_late = refl

abbrev id : Id
id = record { id = 97 ∷ []; seq = 5; at = 9 }

id_read : id_field (0 ∷ 1 ∷ 97 ∷ (small 5 ++ small 9)) 0 ≡ Ok (id, 19)
unfolding id_field text_field number_field
id_read = refl

abbrev entry : ℕ → Pending
entry n = record { seq = n; count = 1; due = 9 }

entries_spelled : spelled_list spelled_pending (entry 3 ∷ entry 4 ∷ []) ≡ count 2 ++ (small 3 ++ (small 1 ++ (small 9 ++ (small 4 ++ (small 1 ++ small 9)))))
unfolding spelled_pending
entries_spelled = refl

entries_read : list_field pending_field (count 2 ++ (small 3 ++ (small 1 ++ (small 9 ++ (small 4 ++ (small 1 ++ small 9)))))) 0 ≡ Ok (entry 3 ∷ entry 4 ∷ [], 52)
unfolding list_field pending_field number_field
entries_read = refl

entry_cut : list_field pending_field (count 2 ++ (small 3 ++ (small 1 ++ (small 9 ++ small 4)))) 0 ≡ Err (Cut 36)
unfolding list_field pending_field number_field
entry_cut = refl

-- ---- messages and their spots

abbrev message : ℕ → Message
message n = record { seq = n; at = 9; subject = 97 ∷ []; headers = []; payload = [] }

abbrev placed : ℕ → ℕ → Placed
placed n at = record { seq = n; spot = record { file = 2; at = at; len = 31 } }

abbrev told : ℕ → ℕ → StoredMessage
told n at = record { seq = n; at = 9; spot = record { file = 2; at = at; len = 31 } }

each_with_its_spot : stored_in (placed 1 0 ∷ placed 3 62 ∷ []) (message 1 ∷ message 3 ∷ []) ≡ told 1 0 ∷ told 3 62 ∷ []
each_with_its_spot = refl

-- ---- the block being written

abbrev block : ℕ → Block
block n = record { file = n; end = 100 }

none_written : writing_field (count 0) 0 ≡ Ok (None, 4)
unfolding writing_field list_field
none_written = refl

one_written : writing_field (count 1 ++ (0 ∷ 2 ∷ count 100)) 0 ≡ Ok (Some (block 2), 10)
unfolding writing_field list_field block_field
one_written = refl

two_written : writing_field (count 2 ++ (0 ∷ 2 ∷ (count 100 ++ (0 ∷ 3 ∷ count 100)))) 0 ≡ Err (BadField 0)
unfolding writing_field list_field block_field
two_written = refl
