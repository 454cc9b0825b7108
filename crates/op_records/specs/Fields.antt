-- The fields of records as they are read. A field that does not end within the bytes is cut, and one that holds what it may not hold is bad; both are told
-- with the place at which the field begins.
use Rattle.std.specs.Prelude.{ℕ, zero, suc, ◌+◌, nat_le, ◌==◌, Bool, ◌&&◌, List, [], ◌∷◌, take, drop, length, Option, Some, None, Ok, Err, if◌then◌else◌}
use Rattle.std.specs.Int.{Width, w8, w16, w32, w64, byte_len}
use Rattle.checksum.specs.Crc.{crc32c}
use Rattle.js_base.specs.Bytes.{Bytes}
use Rattle.js_base.specs.Names.{name_of}
use Rattle.js_base.specs.Numbers.{number_at}
use Rattle.js_base.specs.Subjects.{is_subject_text}
use Rattle.js_base.specs.declared.spot.Spot.{Spot}
use Rattle.js_model.specs.Configs.{is_number}
use Rattle.js_model.specs.declared.stream_config.StreamConfig.{StreamConfig}
use Rattle.js_model.specs.declared.consumer_config.ConsumerConfig.{ConsumerConfig}
use Rattle.config_texts.specs.Reading.{allowed, stream_of, consumer_of}
use Rattle.op_records.specs.Steps.{Reading, Reader, ◌>>=◌, done, place, peek}
use Rattle.op_records.specs.Allowed.{is_cursor, is_header}
use Rattle.op_records.specs.declared.fault.RecordFault.TheVariants.{Cut, BadField}

-- a value that is bad unless it may stand there
abbrev pub only : {A : Type 0} → (A → Bool) → ℕ → A → Reader A
only may begin a = if may a then done a else λ _ _. Err (BadField begin)

-- ---- numbers

abbrev pub number_told : Width → ℕ → Option ℕ → Reading ℕ
number_told w at None = Err (Cut at)
number_told w at (Some n) = Ok (n, at + byte_len w)

-- a number of this width
abbrev pub word : Width → Reader ℕ
word w bytes at = number_told w at (number_at w bytes at)

-- a number below 2^62
unfoldable pub number_field : Reader ℕ
number_field = do
  begin ← place
  n ← word w64
  only is_number begin n

-- where a consumer begins: up to 2^62
unfoldable pub cursor_field : Reader ℕ
cursor_field = do
  begin ← place
  n ← word w64
  only is_cursor begin n

-- ---- lists behind their count

-- so many of them, one behind the other
abbrev pub list_fields : {A : Type 0} → Reader A → ℕ → Reader (List A)
list_fields field zero = done []
list_fields field (suc count) = do
  one ← field
  more ← list_fields field count
  done (one ∷ more)

unfoldable pub list_field : {A : Type 0} → Reader A → Reader (List A)
list_field field = do
  count ← word w32
  list_fields field count

unfoldable pub numbers_field : Reader (List ℕ)
numbers_field = list_field number_field

-- ---- bytes behind their length

-- the next bytes, so many; the field begins where its length stands
abbrev pub part : ℕ → ℕ → Reader Bytes
part begin size bytes at = if nat_le (at + size) (length bytes) then Ok (take size (drop at bytes), at + size) else Err (Cut begin)

abbrev pub piece : Width → Reader Bytes
piece w = do
  begin ← place
  size ← word w
  part begin size

-- any text
unfoldable pub text_field : Reader Bytes
text_field = piece w16

unfoldable pub subject_field : Reader Bytes
subject_field = do
  begin ← place
  subject ← piece w16
  only is_subject_text begin subject

abbrev pub some_or_bad : {A : Type 0} → ℕ → Option A → Reader A
some_or_bad begin None = λ _ _. Err (BadField begin)
some_or_bad begin (Some a) = done a

unfoldable pub name_field : Reader Bytes
name_field = do
  begin ← place
  text ← piece w8
  some_or_bad begin (allowed (name_of text))

-- the text of a stream's configuration
unfoldable pub stream_field : Reader StreamConfig
stream_field = do
  begin ← place
  text ← piece w32
  some_or_bad begin (stream_of text)

-- the text of a consumer's configuration
unfoldable pub consumer_field : Reader ConsumerConfig
consumer_field = do
  begin ← place
  text ← piece w32
  some_or_bad begin (consumer_of text)

-- ---- bytes behind their length and their checksum

abbrev pub has_checksum : ℕ → Bytes → Bool
has_checksum sum bytes = crc32c bytes == sum

-- the end of the next bytes, so many, which have this checksum
abbrev pub end_of_checked : ℕ → ℕ → ℕ → Reader ℕ
end_of_checked begin size sum = do
  bytes ← part begin size
  bytes ← only (has_checksum sum) begin bytes
  place

-- a length and a checksum, and the end of the bytes behind them, which have both; the next reading begins in front of these bytes
unfoldable pub checked_end : Reader ℕ
checked_end = do
  begin ← place
  size ← word w32
  sum ← word w32
  peek (end_of_checked begin size sum)

-- ---- a message's header block and payload

-- the bytes of a message's header block and payload together
abbrev pub most_bytes : ℕ
most_bytes = 1048576

abbrev pub is_small : Bytes → Bool
is_small bytes = nat_le (length bytes) most_bytes

abbrev pub is_small_header : Bytes → Bool
is_small_header headers = is_header headers && is_small headers

abbrev pub fit : Bytes × Bytes → Bool
fit (headers, payload) = nat_le (length headers + length payload) most_bytes

-- bytes behind a length, which is a field of its own; and where they begin
abbrev pub sized_part : (Bytes → Bool) → Reader (ℕ × Bytes)
sized_part may = do
  size ← word w32
  begin ← place
  bytes ← part begin size
  bytes ← only may begin bytes
  done (begin, bytes)

-- ---- where a message lies: any file of two bytes, any offset and any length

unfoldable pub spot_field : Reader Spot
spot_field = do
  file ← word w16
  at ← word w32
  len ← word w32
  done (record { file = file; at = at; len = len })

-- ---- a range, whose first end is told if they are out of order

abbrev pub in_order : ℕ × ℕ → Bool
in_order (low, high) = nat_le low high

unfoldable pub range_field : Reader (ℕ × ℕ)
range_field = do
  begin ← place
  low ← number_field
  high ← number_field
  only in_order begin (low, high)
