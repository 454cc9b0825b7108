-- Messages as a block file has them, by a format of this server's own: the length of a message's fields and their checksum; then these fields, which are the
-- sequence and the moment, the subject behind its length, the header block behind its length, and the payload, which goes on to the message's end. Messages
-- stand one behind the other, in order of their sequences.
use Rattle.std.specs.Prelude.{◌≡◌, ℕ, ◌-◌, Bool, ◌&&◌, List, [], ◌∷◌, ◌++◌, take, Ok}
use Rattle.checksum.specs.Checked.{checked}
use Rattle.js_base.specs.Bytes.{Bytes}
use Rattle.js_base.specs.Subjects.{is_subject_text}
use Rattle.js_model.specs.Configs.{is_number}
use Rattle.js_model.specs.Lists.{Ascends}
use Rattle.js_model.specs.Streams.{seqs}
use Rattle.js_model.specs.declared.stream.Message.{Message}
use Rattle.op_records.specs.Allowed.{is_header, fits_block}
use Rattle.op_records.specs.Fields.{only, number_field, part, subject_field, is_small_header, fit, sized_part, checked_end}
use Rattle.op_records.specs.Spelling.{number, text, long}
use Rattle.op_records.specs.Steps.{Reader, ◌>>=◌, done, place}

-- ---- which messages

-- numbers below 2^62, a subject without wildcards, and a header block that is empty or is one; it and the payload have together at most 1,048,576 bytes
abbrev pub is_block_message : Message → Bool
is_block_message m = is_number m.seq && is_number m.at && is_subject_text m.subject && is_header m.headers && fits_block m.headers m.payload

-- ---- how they are spelled

-- what follows a message's length and checksum
abbrev pub spelled_fields : Message → Bytes
spelled_fields m = number m.seq ++ (number m.at ++ (text m.subject ++ (long m.headers ++ m.payload)))

unfoldable pub spelled_message : Message → Bytes
spelled_message m = checked (spelled_fields m)

-- ---- how they are read

-- the bytes end there, if they do not end before
abbrev pub up_to : {A : Type 0} → ℕ → Reader A → Reader A
up_to end read bytes at = read (take end bytes) at

-- a message's header block, and its payload, which goes on to the end; if they are too long together, the header block is told
unfoldable pub content_field : ℕ → Reader (Bytes × Bytes)
content_field end = do
  headers ← sized_part is_small_header
  begin ← place
  payload ← part begin (end - begin)
  only fit headers.0 (headers.1, payload)

abbrev pub message_with : ℕ → ℕ → Bytes → Bytes × Bytes → Message
message_with seq at subject content = record { seq = seq; at = at; subject = subject; headers = content.0; payload = content.1 }

-- the fields of a message that ends there
unfoldable pub message_fields : ℕ → Reader Message
message_fields end = do
  seq ← number_field
  at ← number_field
  subject ← subject_field
  content ← content_field end
  done (message_with seq at subject content)

-- the fields are looked at only if their checksum is right; one that passes the message's end is cut
unfoldable pub message_at : Reader Message
message_at = do
  end ← checked_end
  up_to end (message_fields end)

-- ---- one behind the other

-- a message begins where the one before it ends
abbrev pub Follow : Bytes → ℕ → List Message → ℕ → Type 0
Follow bytes at [] end = at ≡ end
Follow bytes at (m ∷ more) end = (behind : ℕ) × (message_at bytes at ≡ Ok (m, behind)) × Follow bytes behind more end

-- these messages stand from the one place to the other, in order of their sequences
pub record StandMessages (bytes : Bytes) (at : ℕ) (messages : List Message) (end : ℕ) : Type 0 where
  pub follow : Follow bytes at messages end
  pub rising : Ascends 0 (seqs messages)
