-- Worked rows of messages as a block has them, and of bytes that are none.
use Rattle.std.specs.Prelude.{◌≡◌, [], ◌∷◌, ◌++◌, Ok, Err, refl, take}
use Rattle.std.specs.Str.{is_utf8, chars}
use lib.Utf8.{encode}
use Rattle.checksum.specs.Crc.{after_bit, after_bits, after_byte, added, started, finished}
use Rattle.js_base.specs.Bytes.{Bytes}
use Rattle.js_model.specs.declared.stream.Message.{Message}
use Rattle.op_records.specs.declared.fault.RecordFault.TheVariants.{Cut, BadField}
use Rattle.op_records.specs.Blocks.{spelled_message, content_field, message_fields, message_at}
use Rattle.op_records.specs.Fields.{number_field, subject_field, checked_end}

-- the message `hello` to `orders.a` at 1700000000000000000, the first of its stream
abbrev hello : Message
hello = record { seq = 1; at = 1700000000000000000; subject = 111 ∷ 114 ∷ 100 ∷ 101 ∷ 114 ∷ 115 ∷ 46 ∷ 97 ∷ []; headers = []; payload = 104 ∷ 101 ∷ 108 ∷ 108 ∷ 111 ∷ [] }

-- 35 bytes follow its length and their checksum
abbrev hello_bytes : Bytes
hello_bytes =
    0 ∷ 0 ∷ 0 ∷ 35
    ∷ 15 ∷ 181 ∷ 1 ∷ 42
    ∷ 0 ∷ 0 ∷ 0 ∷ 0 ∷ 0 ∷ 0 ∷ 0 ∷ 1
    ∷ 23 ∷ 151 ∷ 156 ∷ 254 ∷ 54 ∷ 42 ∷ 0 ∷ 0
    ∷ 0 ∷ 8 ∷ 111 ∷ 114 ∷ 100 ∷ 101 ∷ 114 ∷ 115 ∷ 46 ∷ 97
    ∷ 0 ∷ 0 ∷ 0 ∷ 0
    ∷ 104 ∷ 101 ∷ 108 ∷ 108 ∷ 111 ∷ []

hello_spelled : spelled_message hello ≡ hello_bytes
unfolding spelled_message after_bit after_bits after_byte added started finished
hello_spelled = refl

hello_read : message_at hello_bytes 0 ≡ Ok (hello, 43)
unfolding message_at checked_end message_fields content_field number_field subject_field after_bit after_bits after_byte added started finished is_utf8 chars encode
hello_read = refl

-- what stands behind it is not its own
next_read : message_at (0 ∷ (hello_bytes ++ 7 ∷ [])) 1 ≡ Ok (hello, 44)
unfolding message_at checked_end message_fields content_field number_field subject_field after_bit after_bits after_byte added started finished is_utf8 chars encode
next_read = refl

-- ---- bytes that are none

cut_length : message_at (0 ∷ 0 ∷ []) 0 ≡ Err (Cut 0)
unfolding message_at checked_end message_fields content_field number_field subject_field after_bit after_bits after_byte added started finished is_utf8 chars encode
cut_length = refl

cut_checksum : message_at (take 7 hello_bytes) 0 ≡ Err (Cut 4)
unfolding message_at checked_end message_fields content_field number_field subject_field after_bit after_bits after_byte added started finished is_utf8 chars encode
cut_checksum = refl

cut_payload : message_at (take 42 hello_bytes) 0 ≡ Err (Cut 0)
unfolding message_at checked_end message_fields content_field number_field subject_field after_bit after_bits after_byte added started finished is_utf8 chars encode
cut_payload = refl

-- its last byte is another
wrong_checksum : message_at (take 42 hello_bytes ++ 110 ∷ []) 0 ≡ Err (BadField 0)
unfolding message_at checked_end message_fields content_field number_field subject_field after_bit after_bits after_byte added started finished is_utf8 chars encode
wrong_checksum = refl

-- the moment passes the message's end
too_short : message_at (0 ∷ 0 ∷ 0 ∷ 12 ∷ 36 ∷ 238 ∷ 196 ∷ 232 ∷ 0 ∷ 0 ∷ 0 ∷ 0 ∷ 0 ∷ 0 ∷ 0 ∷ 1 ∷ 23 ∷ 151 ∷ 156 ∷ 254 ∷ 54 ∷ 42 ∷ 0 ∷ 0 ∷ []) 0 ≡ Err (Cut 16)
unfolding message_at checked_end message_fields content_field number_field subject_field after_bit after_bits after_byte added started finished is_utf8 chars encode
too_short = refl

no_subject : message_at (0 ∷ 0 ∷ 0 ∷ 22 ∷ 131 ∷ 251 ∷ 20 ∷ 180 ∷ 0 ∷ 0 ∷ 0 ∷ 0 ∷ 0 ∷ 0 ∷ 0 ∷ 1 ∷ 23 ∷ 151 ∷ 156 ∷ 254 ∷ 54 ∷ 42 ∷ 0 ∷ 0 ∷ 0 ∷ 0 ∷ 0 ∷ 0 ∷ 0 ∷ 0 ∷ []) 0 ≡ Err (BadField 24)
unfolding message_at checked_end message_fields content_field number_field subject_field after_bit after_bits after_byte added started finished is_utf8 chars encode
no_subject = refl

-- a header block of one byte is none
no_headers : message_at (0 ∷ 0 ∷ 0 ∷ 24 ∷ 95 ∷ 110 ∷ 175 ∷ 94 ∷ 0 ∷ 0 ∷ 0 ∷ 0 ∷ 0 ∷ 0 ∷ 0 ∷ 1 ∷ 23 ∷ 151 ∷ 156 ∷ 254 ∷ 54 ∷ 42 ∷ 0 ∷ 0 ∷ 0 ∷ 1 ∷ 97 ∷ 0 ∷ 0 ∷ 0 ∷ 1 ∷ 97 ∷ []) 0 ≡ Err (BadField 31)
unfolding message_at checked_end message_fields content_field number_field subject_field after_bit after_bits after_byte added started finished is_utf8 chars encode
no_headers = refl
