-- What is read of the bodies of the calls on stored messages is valid.
use Rattle.std.proofs.Common.{◌≡◌, ℕ, Bool, true, false, ◌&&◌, ◌||◌, [], Option, Some, None, Result, Ok, Err, codes, IsTrue, refl, subst, if◌then◌else◌}
use Rattle.std.specs.Prelude.{unwrap_or, is_some}
use Rattle.serde_json.specs.Data.{Members}
use Rattle.js_base.specs.Bytes.{Bytes, is_empty}
use Rattle.js_base.specs.Subjects.{is_pattern_text, is_subject_text}
use Rattle.js_base.specs.declared.out.ApiError.{ApiError}
use Rattle.js_model.specs.declared.event.GetBy.{GetBy}
use Rattle.js_model.specs.declared.event.GetBy.TheVariants.{Seq, LastBySubject}
use Rattle.js_model.specs.Configs.{is_number}
use Rattle.js_model.specs.Proper.{if_given}
use Rattle.api_requests.specs.declared.messages.Purge.{Purge}
use Rattle.api_requests.specs.Fields.{number_in, positive_in, pattern_in, subject_in, nothing_in}
use Rattle.api_requests.specs.Messages.{not_both, purge_in, just_one, message_in, needed, sequence_in}
use Rattle.api_requests.specs.Read.{IsPurge, is_by}
use Rattle.api_requests.proofs.Steps.{after}
use Rattle.api_requests.proofs.ReadFields.{number_is, positive_is, pattern_is, subject_is}

-- ---- a purge

abbrev IsRight : Purge → Type 0
IsRight purge = IsPurge purge.filter purge.seq purge.keep

either : (a b : Bool) → b ≡ true → (a || b) ≡ true
either true b h = refl
either false b h = h

matches_some : (pattern : Option Bytes) → if_given is_pattern_text pattern ≡ true → (is_empty (unwrap_or pattern []) || is_pattern_text (unwrap_or pattern [])) ≡ true
matches_some None h = refl
matches_some (Some text) h = either (is_empty text) (is_pattern_text text) h

kept_by : (both : Bool) (made purge : Purge) (refusal : ApiError) → ◌≡◌ {A = Result Purge ApiError} (if both then Err refusal else Ok made) (Ok purge) → IsRight made → IsRight purge
kept_by true made purge refusal e is = absurd (cc)
kept_by false made purge refusal e is = let same : made ≡ purge = cc in subst IsRight same is

kept : (made purge : Purge) → not_both made ≡ Ok purge → IsRight made → IsRight purge
kept made purge e is = kept_by (is_some made.seq && is_some made.keep) made purge _ e is

pub purge_is : (fields : Members) (purge : Purge) → purge_in fields ≡ Ok purge → IsPurge purge.filter purge.seq purge.keep
unfolding purge_in
purge_is fields purge e =
    after _ (pattern_in (codes "filter") fields) _ purge e
    (λ pattern matched more. after _ (positive_in (codes "keep") fields) _ purge more
    (λ keep last others. after _ (positive_in (codes "seq") fields) _ purge others
    (λ seq below made.
    kept (record { filter = unwrap_or pattern []; seq = seq; keep = keep }) purge made
    (record {
      matched = matches_some pattern (pattern_is _ fields pattern matched);
      below = positive_is _ fields seq below;
      last = positive_is _ fields keep last;
    }))))

-- ---- one message

one_is : (seq : Option ℕ) (subject : Option Bytes) (by : GetBy) → just_one seq subject ≡ Ok by → if_given is_number seq ≡ true → if_given is_subject_text subject ≡ true → is_by by ≡ true
one_is (Some n) None by e number plain = let same : Seq n ≡ by = cc in subst (λ (b : GetBy). is_by b ≡ true) same number
one_is None (Some subject) by e number plain = let same : LastBySubject subject ≡ by = cc in subst (λ (b : GetBy). is_by b ≡ true) same plain
one_is None None by e number plain = absurd (cc)
one_is (Some n) (Some subject) by e number plain = absurd (cc)

pub message_is : (fields : Members) (by : GetBy) → message_in fields ≡ Ok by → IsTrue (is_by by)
unfolding message_in
message_is fields by e =
    after _ (subject_in (codes "last_by_subj") fields) _ by e
    (λ subject plain next. after _ (nothing_in (codes "next_by_subj") fields) _ by next
    (λ _ _ numbered. after _ (number_in (codes "seq") fields) _ by numbered
    (λ seq number chosen. after _ (just_one seq subject) _ by chosen
    (λ found one started. after _ (nothing_in (codes "start_time") fields) _ by started
    (λ _ _ made.
    let same : found ≡ by = cc in
    subst (λ (b : GetBy). is_by b ≡ true) same (one_is seq subject found one (number_is _ fields seq number) (subject_is _ fields subject plain)))))))

given : (number : Option ℕ) (seq : ℕ) → needed (codes "seq") number ≡ Ok seq → if_given is_number number ≡ true → is_number seq ≡ true
given None seq e h = absurd (cc)
given (Some n) seq e h = let same : n ≡ seq = cc in subst (λ (m : ℕ). is_number m ≡ true) same h

pub sequence_is : (fields : Members) (seq : ℕ) → sequence_in fields ≡ Ok seq → IsTrue (is_number seq)
unfolding sequence_in
sequence_is fields seq e = after _ (number_in (codes "seq") fields) _ seq e (λ number is made. given number seq made (number_is _ fields number is))
