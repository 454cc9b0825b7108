-- Whether a publish is taken, and why not, by JetStream's publish headers, duplicate window and discard policy.
use Rattle.std.specs.Prelude.{ℕ, ◌+◌, ◌^◌, nat_lt, nat_le, Bool, true, false, if◌then◌else◌, ◌&&◌, not, ◌==◌, List, [], ◌∷◌, ◌++◌, length, filter, Option, Some, None, unwrap_or, is_some, find, sum_by}
use Rattle.std.specs.List.{last_or}
use Rattle.js_base.specs.Bytes.{Bytes, same, is_empty}
use Rattle.js_base.specs.declared.out.ApiError.{ApiError}
use Rattle.js_model.specs.declared.stream_config.Discard.{Discard}
use Rattle.js_model.specs.declared.stream_config.Discard.TheVariants.{Old, New as DiscardNew}
use Rattle.js_model.specs.declared.stream.Message.{Message}
use Rattle.js_model.specs.declared.stream.Id.{Id}
use Rattle.js_model.specs.declared.stream.Stream.{Stream}
use Rattle.js_model.specs.declared.event.Publish.{Publish}
use Rattle.js_model.specs.declared.reply.Verdict.{Verdict}
use Rattle.js_model.specs.declared.reply.Verdict.TheVariants.{Take, Duplicate as TakenBefore, Refused as RefusedBy}
use Rattle.js_model.specs.Streams.{size, over_limit}
use Rattle.js_model.specs.Trim.{newest_at, max_messages}
use Rattle.js_model.specs.Refusals.{Check, first_refusal, message_too_large, bad_header_number, id_too_long, wrong_stream, wrong_last, wrong_last_id, max_messages_exceeded, max_bytes_exceeded, window_full, numbers_used_up, no_room}

-- the message that a publish stores
abbrev pub message_of : Stream → Publish → Message
message_of s p = record { seq = s.last + 1; at = s.moment; subject = p.subject; headers = p.headers; payload = p.payload }

-- the last stored message of a subject
abbrev pub last_on : Stream → Bytes → Option Message
last_on s subject = last_or None (filter (λ m. same m.subject subject) s.messages)

-- its sequence, or 0
abbrev pub last_seq_on : Stream → Bytes → ℕ
last_seq_on s subject = seq_or_zero (last_on s subject)
  where
    seq_or_zero : Option Message → ℕ
    seq_or_zero None = 0
    seq_or_zero (Some m) = m.seq

-- the last id that is still in the window, or the empty text
abbrev pub last_id : Stream → Bytes
last_id s = id_or_empty (last_or None s.ids)
  where
    id_or_empty : Option Id → Bytes
    id_or_empty None = []
    id_or_empty (Some i) = i.id

-- the id of a publish, if it is in the window; an empty one is none
abbrev pub known : Stream → Bytes → Option Id
known s id = if is_empty id then None else find (λ i. same i.id id) s.ids

abbrev pub differs : Option ℕ → ℕ → Bool
differs None n = false
differs (Some m) n = not (m == n)

abbrev pub text_differs : Option Bytes → Bytes → Bool
text_differs None text = false
text_differs (Some want) text = not (same want text)

-- what the stream would hold after the publish, as far as the limit of each subject goes
abbrev pub held_after : Stream → Publish → List Message
held_after s p = newest_at s.config.max_msgs_per_subject (s.messages ++ message_of s p ∷ [])

abbrev pub discards_new : Stream → Bool
discards_new s = is_new s.config.discard
  where
    is_new : Discard → Bool
    is_new Old = false
    is_new DiscardNew = true

-- the checks before the look for a duplicate
abbrev pub early_checks : Stream → Publish → List Check
early_checks s p =
    (over_limit (length p.headers + length p.payload) s.config.max_msg_size, message_too_large)
    ∷ (is_some p.wants.bad, bad_header_number (unwrap_or p.wants.bad []))
    ∷ (nat_lt 256 (length p.wants.id), id_too_long)
    ∷ (text_differs p.wants.stream s.config.name, wrong_stream)
    ∷ []

-- the checks after it
abbrev pub late_checks : Stream → Publish → Bool → List Check
late_checks s p room =
    (differs p.wants.last s.last, wrong_last s.last)
    ∷ (differs p.wants.subject_last (last_seq_on s p.subject), wrong_last (last_seq_on s p.subject))
    ∷ (text_differs p.wants.last_id (last_id s), wrong_last_id)
    ∷ (discards_new s && nat_lt (max_messages s) (length (held_after s p)), max_messages_exceeded)
    ∷ (discards_new s && over_limit (sum_by size (held_after s p)) s.config.max_bytes, max_bytes_exceeded)
    ∷ (not (is_empty p.wants.id) && nat_le (2 ^ 20) (length s.ids), window_full)
    ∷ (s.last + 1 == 2 ^ 62, numbers_used_up)
    ∷ (not room, no_room)
    ∷ []

-- an early refusal, a duplicate, a late refusal, or taken
abbrev pub first_of_all : Option ApiError → Option Id → Option ApiError → Verdict
first_of_all (Some e) found late = RefusedBy e
first_of_all None (Some i) late = TakenBefore i.seq
first_of_all None None (Some e) = RefusedBy e
first_of_all None None None = Take

-- what a stream answers a publish; `room` is whether there is room for it
unfoldable pub verdict : Stream → Publish → Bool → Verdict
verdict s p room = first_of_all (first_refusal (early_checks s p)) (known s p.wants.id) (first_refusal (late_checks s p room))
