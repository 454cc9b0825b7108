-- The texts of the refusals of the calls on stored messages are ASCII.
use Rattle.std.proofs.Common.{◌≡◌, ℕ, ◌&&◌, [], Option, Some, None, Err, codes, refl}
use Rattle.std.specs.Prelude.{unwrap_or, is_some}
use Rattle.serde_json.specs.Data.{Members}
use Rattle.js_base.specs.Bytes.{Bytes}
use Rattle.js_base.specs.declared.out.ApiError.{ApiError}
use Rattle.api_requests.specs.declared.messages.Purge.{Purge}
use Rattle.api_requests.specs.Fields.{number_in, positive_in, pattern_in, subject_in, nothing_in}
use Rattle.api_requests.specs.Messages.{not_both, purge_in, just_one, message_in, needed, sequence_in}
use Rattle.api_requests.proofs.Plain.{Plain, wrong_plain, told, one_of, refused_if}
use Rattle.api_requests.proofs.PlainFields.{number_plain, positive_plain, pattern_plain, subject_plain, nothing_plain}

both_plain : (purge : Purge) (refusal : ApiError) → not_both purge ≡ Err refusal → Plain refusal
both_plain purge refusal e = refused_if (is_some purge.seq && is_some purge.keep) purge _ refusal e (wrong_plain (codes "keep") refl)

pub purge_plain : (fields : Members) (refusal : ApiError) → purge_in fields ≡ Err refusal → Plain refusal
unfolding purge_in
purge_plain fields refusal e =
    one_of (pattern_in (codes "filter") fields) _ refusal e (pattern_plain _ fields refusal refl)
    (λ pattern more. one_of (positive_in (codes "keep") fields) _ refusal more (positive_plain _ fields refusal refl)
    (λ keep others. one_of (positive_in (codes "seq") fields) _ refusal others (positive_plain _ fields refusal refl)
    (λ seq made. both_plain (record { filter = unwrap_or pattern []; seq = seq; keep = keep }) refusal made)))

one_plain : (seq : Option ℕ) (subject : Option Bytes) (refusal : ApiError) → just_one seq subject ≡ Err refusal → Plain refusal
one_plain (Some n) None refusal e = absurd (cc)
one_plain None (Some subject) refusal e = absurd (cc)
one_plain None None refusal e = told _ refusal e (wrong_plain (codes "seq") refl)
one_plain (Some n) (Some subject) refusal e = told _ refusal e (wrong_plain (codes "seq") refl)

pub message_plain : (fields : Members) (refusal : ApiError) → message_in fields ≡ Err refusal → Plain refusal
unfolding message_in
message_plain fields refusal e =
    one_of (subject_in (codes "last_by_subj") fields) _ refusal e (subject_plain _ fields refusal refl)
    (λ subject next. one_of (nothing_in (codes "next_by_subj") fields) _ refusal next (nothing_plain _ fields refusal refl)
    (λ _ numbered. one_of (number_in (codes "seq") fields) _ refusal numbered (number_plain _ fields refusal refl)
    (λ seq chosen. one_of (just_one seq subject) _ refusal chosen (one_plain seq subject refusal)
    (λ by started. one_of (nothing_in (codes "start_time") fields) _ refusal started (nothing_plain _ fields refusal refl) (λ _ made. absurd (cc))))))

needed_plain : (number : Option ℕ) (refusal : ApiError) → needed (codes "seq") number ≡ Err refusal → Plain refusal
needed_plain None refusal e = told _ refusal e (wrong_plain (codes "seq") refl)
needed_plain (Some n) refusal e = absurd (cc)

pub sequence_plain : (fields : Members) (refusal : ApiError) → sequence_in fields ≡ Err refusal → Plain refusal
unfolding sequence_in
sequence_plain fields refusal e =
    one_of (number_in (codes "seq") fields) _ refusal e (number_plain _ fields refusal refl) (λ number made. needed_plain number refusal made)
