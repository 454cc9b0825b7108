-- The refusals of requests, of a place and of the catalog, in the form of the JetStream API's errors; codes, numbers and texts are this server's own.
use Rattle.std.specs.Prelude.{ℕ, ◌++◌, Bool, List, [], ◌∷◌, Option, Some, None, codes, decimal, if◌then◌else◌}
use Rattle.js_base.specs.Bytes.{Bytes}
use Rattle.js_base.specs.declared.out.ApiError.{ApiError}

abbrev pub refusal : ℕ → ℕ → Bytes → ApiError
refusal code err_code text = record { code = code; err_code = err_code; text = text }

-- a check: whether it fails, and its refusal
abbrev pub Check : Type 0
Check = Bool × ApiError

-- the refusal of the first check that fails
abbrev pub first_refusal : List Check → Option ApiError
first_refusal [] = None
first_refusal (check ∷ checks) = if check.0 then Some check.1 else first_refusal checks

-- ---- requests and configurations

-- the body is no JSON object although one is needed
abbrev pub invalid_json : ApiError
invalid_json = refusal 400 10025 (codes "invalid JSON")

-- a field, or the name in the subject, has a wrong type or is out of its range
abbrev pub invalid_value : Bytes → ApiError
invalid_value field = refusal 400 20001 (codes "invalid value: " ++ field)

-- a field asks for what this server leaves out
abbrev pub not_supported : Bytes → ApiError
not_supported field = refusal 400 20002 (codes "not supported: " ++ field)

-- the name in the body is another one than that in the subject
abbrev pub name_mismatch : ApiError
name_mismatch = refusal 400 20022 (codes "name mismatch")

-- ---- streams

abbrev pub no_stream : ApiError
no_stream = refusal 404 10059 (codes "stream not found")

abbrev pub other_config : ApiError
other_config = refusal 400 10058 (codes "stream name already in use with a different configuration")

abbrev pub subjects_overlap : ApiError
subjects_overlap = refusal 400 20006 (codes "subjects overlap")

abbrev pub no_free_place : ApiError
no_free_place = refusal 503 20007 (codes "no free stream place")

abbrev pub store_fault : ApiError
store_fault = refusal 503 20011 (codes "store fault")

abbrev pub stream_stopped : ApiError
stream_stopped = refusal 503 20012 (codes "stream stopped")

abbrev pub numbers_used_up : ApiError
numbers_used_up = refusal 503 20008 (codes "number range used up")

abbrev pub retention_cannot_change : ApiError
retention_cannot_change = refusal 400 20010 (codes "retention cannot change")

abbrev pub no_message : ApiError
no_message = refusal 404 10037 (codes "no message found")

-- ---- publishes

abbrev pub wrong_last : ℕ → ApiError
wrong_last actual = refusal 400 10071 (codes "wrong last sequence: " ++ decimal actual)

abbrev pub wrong_stream : ApiError
wrong_stream = refusal 400 10060 (codes "expected stream does not match")

abbrev pub wrong_last_id : ApiError
wrong_last_id = refusal 400 10070 (codes "wrong last msg ID")

abbrev pub window_full : ApiError
window_full = refusal 503 20013 (codes "duplicate window full")

abbrev pub id_too_long : ApiError
id_too_long = refusal 400 20014 (codes "message id too long")

-- the disk is full, no file is free for a block, or the place would hold more than a log can begin with
abbrev pub no_room : ApiError
no_room = refusal 503 20016 (codes "no room")

abbrev pub message_too_large : ApiError
message_too_large = refusal 400 20018 (codes "message too large")

abbrev pub max_messages_exceeded : ApiError
max_messages_exceeded = refusal 503 20019 (codes "maximum messages exceeded")

abbrev pub max_bytes_exceeded : ApiError
max_bytes_exceeded = refusal 503 20020 (codes "maximum bytes exceeded")

abbrev pub bad_header_number : Bytes → ApiError
bad_header_number header = refusal 400 20021 (codes "invalid header number: " ++ header)

-- ---- consumers

abbrev pub no_consumer : ApiError
no_consumer = refusal 404 10014 (codes "consumer not found")

abbrev pub consumer_absent : ApiError
consumer_absent = refusal 400 10149 (codes "consumer does not exist")

abbrev pub consumer_exists : ApiError
consumer_exists = refusal 400 20009 (codes "consumer already exists")

abbrev pub work_queue_rule : Bytes → ApiError
work_queue_rule field = refusal 400 20004 (codes "work queue rule: " ++ field)

abbrev pub too_many_subjects : ApiError
too_many_subjects = refusal 400 20015 (codes "too many subjects")

abbrev pub max_consumers_reached : ApiError
max_consumers_reached = refusal 400 20017 (codes "maximum consumers reached")
