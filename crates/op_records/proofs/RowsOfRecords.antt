-- Worked rows of records as they are spelled and read, and of bytes that are none.
use Rattle.std.specs.Prelude.{◌≡◌, ℕ, [], ◌∷◌, ◌++◌, Ok, Err, refl}
use Rattle.js_base.specs.Bytes.{Bytes}
use Rattle.effects.specs.declared.effect.Effect.TheVariants.{DropStream, Remove, Now}
use Rattle.js_base.specs.declared.spot.Spot.{Spot}
use Rattle.op_records.specs.declared.record.Record.TheVariants.{Put, Change}
use Rattle.op_records.specs.declared.fault.RecordFault.TheVariants.{Cut, BadKind, BadField}
use Rattle.op_records.specs.Fields.{number_field, text_field, spot_field, range_field}
use Rattle.op_records.specs.Reading.{record_at, remove, now, put}
use Rattle.op_records.specs.Spelling.{spelled, spelled_record, spelled_vacant}

-- the number of one byte
abbrev small : ℕ → Bytes
small n = 0 ∷ 0 ∷ 0 ∷ 0 ∷ 0 ∷ 0 ∷ 0 ∷ n ∷ []

abbrev moment : ℕ
moment = 1700000000000000000

abbrev moment_bytes : Bytes
moment_bytes = 13 ∷ 23 ∷ 151 ∷ 156 ∷ 254 ∷ 54 ∷ 42 ∷ 0 ∷ 0 ∷ []

-- ---- records

moment_spelled : spelled_record (Change (Now moment)) ≡ moment_bytes
unfolding spelled spelled_record
moment_spelled = refl

moment_read : record_at moment_bytes 0 ≡ Ok (Change (Now moment), 9)
unfolding record_at now number_field
moment_read = refl

next_read : record_at (3 ∷ moment_bytes) 1 ≡ Ok (Change (Now moment), 10)
unfolding record_at now number_field
next_read = refl

end_read : record_at (3 ∷ moment_bytes) 0 ≡ Ok (Change DropStream, 1)
unfolding record_at
end_read = refl

range_read : record_at (6 ∷ (small 1 ++ small 2)) 0 ≡ Ok (Change (Remove 1 2), 17)
unfolding record_at remove range_field number_field
range_read = refl

-- the message of sequence 1 at moment 2, whose id is `a`: 40 bytes from offset 258 of file 3 on
abbrev stored : Spot
stored = record { file = 3; at = 258; len = 40 }

abbrev put_bytes : Bytes
put_bytes = 14 ∷ (small 1 ++ (small 2 ++ (0 ∷ 1 ∷ 97 ∷ 0 ∷ 3 ∷ 0 ∷ 0 ∷ 1 ∷ 2 ∷ 0 ∷ 0 ∷ 0 ∷ 40 ∷ [])))

put_spelled : spelled_record (Put 1 2 (97 ∷ []) stored) ≡ put_bytes
unfolding spelled_record
put_spelled = refl

put_read : record_at put_bytes 0 ≡ Ok (Put 1 2 (97 ∷ []) stored, 30)
unfolding record_at put number_field text_field spot_field
put_read = refl

-- ---- bytes that are none

-- a log has no messages
no_message : record_at (4 ∷ []) 0 ≡ Err (BadKind 0)
unfolding record_at
no_message = refl

no_kind : record_at (255 ∷ []) 0 ≡ Err (BadKind 0)
unfolding record_at
no_kind = refl

cut_short : record_at (13 ∷ 0 ∷ []) 0 ≡ Err (Cut 1)
unfolding record_at now number_field
cut_short = refl

too_great : record_at (13 ∷ 64 ∷ 0 ∷ 0 ∷ 0 ∷ 0 ∷ 0 ∷ 0 ∷ 0 ∷ []) 0 ≡ Err (BadField 1)
unfolding record_at now number_field
too_great = refl

out_of_order : record_at (6 ∷ (small 2 ++ small 1)) 0 ≡ Err (BadField 1)
unfolding record_at remove range_field number_field
out_of_order = refl

misplaced_start : record_at (32 ∷ small 0) 0 ≡ Err (BadField 0)
unfolding record_at
misplaced_start = refl

misplaced_live_start : record_at (33 ∷ small 0) 0 ≡ Err (BadField 0)
unfolding record_at
misplaced_live_start = refl

-- ---- where a log begins

vacant_spelled : spelled_vacant 0 ≡ 32 ∷ small 0
unfolding spelled_vacant
vacant_spelled = refl
