-- What is read of the bodies of the calls on stored messages, by the JetStream API reference: a purge, and reading and deleting one message. The fields
-- are looked at in ascending order of their names; a rule between two stands at the one that its refusal names.
use Rattle.std.specs.Prelude.{ℕ, ◌&&◌, [], codes, Option, Some, None, unwrap_or, is_some, Result, Ok, Err, if◌then◌else◌}
use Rattle.serde_json.specs.Data.{Members}
use Rattle.js_base.specs.Bytes.{Bytes}
use Rattle.js_base.specs.declared.out.ApiError.{ApiError}
use Rattle.js_model.specs.declared.event.GetBy.{GetBy}
use Rattle.js_model.specs.declared.event.GetBy.TheVariants.{Seq, LastBySubject}
use Rattle.js_model.specs.Refusals.{invalid_value}
use Rattle.api_requests.specs.declared.messages.Purge.{Purge}
use Rattle.api_requests.specs.Steps.{◌>>=◌}
use Rattle.api_requests.specs.Fields.{number_in, positive_in, pattern_in, subject_in, nothing_in}

-- ---- a purge

-- the messages below a sequence, or all but the last ones, and not both
abbrev pub not_both : Purge → Result Purge ApiError
not_both purge = if is_some purge.seq && is_some purge.keep then Err (invalid_value (codes "keep")) else Ok purge

unfoldable pub purge_in : Members → Result Purge ApiError
purge_in fields = do
  pattern ← pattern_in (codes "filter") fields
  keep ← positive_in (codes "keep") fields
  seq ← positive_in (codes "seq") fields
  not_both (record { filter = unwrap_or pattern []; seq = seq; keep = keep })

-- ---- one message

-- by its sequence, or as the last one of a subject, and just one of these
abbrev pub just_one : Option ℕ → Option Bytes → Result GetBy ApiError
just_one (Some n) None = Ok (Seq n)
just_one None (Some subject) = Ok (LastBySubject subject)
just_one None None = Err (invalid_value (codes "seq"))
just_one (Some n) (Some subject) = Err (invalid_value (codes "seq"))

unfoldable pub message_in : Members → Result GetBy ApiError
message_in fields = do
  subject ← subject_in (codes "last_by_subj") fields
  _ ← nothing_in (codes "next_by_subj") fields
  seq ← number_in (codes "seq") fields
  by ← just_one seq subject
  _ ← nothing_in (codes "start_time") fields
  Ok by

abbrev pub needed : Bytes → Option ℕ → Result ℕ ApiError
needed name None = Err (invalid_value name)
needed name (Some n) = Ok n

-- the sequence of a message, also 0
unfoldable pub sequence_in : Members → Result ℕ ApiError
sequence_in fields = do
  seq ← number_in (codes "seq") fields
  needed (codes "seq") seq
