-- That a message ends behind its beginning, since each of its fields does.
use Rattle.std.proofs.Common.{◌≡◌, ◌≤◌, ℕ, ◌+◌, ◌-◌, Bool, true, false, Option, Some, None, Ok, Err, nat_le, take, drop, length, if◌then◌else◌, arith}
use Rattle.std.specs.Int.{Width, w16, w32, w64, byte_len}
use Rattle.js_base.specs.Bytes.{Bytes}
use Rattle.js_base.specs.Numbers.{number_at}
use Rattle.js_base.specs.Subjects.{is_subject_text}
use Rattle.js_model.specs.Configs.{is_number}
use Rattle.op_records.specs.Steps.{Reading, Reader, ◌>>=◌, done, place, peek}
use Rattle.op_records.specs.Fields.{only, word, number_told, number_field, part, piece, subject_field, is_small_header, fit, sized_part, end_of_checked, checked_end}
use Rattle.op_records.specs.Blocks.{message_at, message_fields, content_field, message_with, up_to}
use Rattle.op_records.specs.declared.fault.RecordFault.TheVariants.{Cut}
use Rattle.op_records.proofs.Steps.{both, peeked_is, place_is, passed}

-- what is read ends at its beginning or behind it
abbrev GoesOn : {A : Type 0} → Reader A → Type 0
GoesOn {A} read = (bytes : Bytes) (at : ℕ) (a : A) (behind : ℕ) → read bytes at ≡ Ok (a, behind) → at ≤ behind

told_on : (w : Width) (at : ℕ) (n : Option ℕ) (a behind : ℕ) → number_told w at n ≡ Ok (a, behind) → at ≤ behind
told_on w at None a behind e = absurd (cc)
told_on w at (Some n) a behind e = let ends = place_is n (at + byte_len w) a behind e in omega (arith, ends)

word_on : (w : Width) → GoesOn (word w)
word_on w bytes at a behind e = told_on w at (number_at w bytes at) a behind e

part_on : (begin size : ℕ) → GoesOn (part begin size)
part_on begin size bytes at a behind e = by (nat_le (at + size) (length bytes)) e
  where
    by : (is : Bool) → if◌then◌else◌ {A = Reading Bytes} is (Ok (take size (drop at bytes), at + size)) (Err (Cut begin)) ≡ Ok (a, behind) → at ≤ behind
    by true e = let ends = place_is (take size (drop at bytes)) (at + size) a behind e in omega (arith, ends)
    by false e = absurd (cc)

done_on : {A : Type 0} (a : A) → GoesOn (done a)
done_on a bytes at b behind e = let ends = place_is a at b behind e in omega (arith, ends)

place_on : GoesOn place
place_on bytes at a behind e = let ends = place_is at at a behind e in omega (arith, ends)

only_on : {A : Type 0} (may : A → Bool) (begin : ℕ) (a : A) → GoesOn (only may begin a)
only_on may begin a bytes at b behind e = let passes = passed may begin a bytes at b behind e in omega (arith, passes.place)

peek_on : {A : Type 0} (read : Reader A) → GoesOn (peek read)
peek_on read bytes at a behind e = let seen = peeked_is at (read bytes at) a behind e in omega (arith, seen.place)

then_on : {A B : Type 0} (first : Reader A) (next : A → Reader B) → GoesOn first → ((a : A) → GoesOn (next a)) → GoesOn (first >>= next)
then_on first next one more bytes at b behind e =
    let p = both bytes next (first bytes at) b behind e in
    omega (arith, one bytes at p.value p.mid p.first, more p.value bytes p.mid b behind p.second)

number_on : GoesOn number_field
unfolding number_field
number_on = then_on place (λ begin. word w64 >>= λ n. only is_number begin n) place_on (λ begin. then_on (word w64) (λ n. only is_number begin n) (word_on w64) (λ n. only_on is_number begin n))

piece_on : (w : Width) → GoesOn (piece w)
piece_on w = then_on place (λ begin. word w >>= λ size. part begin size) place_on (λ begin. then_on (word w) (λ size. part begin size) (word_on w) (λ size. part_on begin size))

subject_on : GoesOn subject_field
unfolding subject_field
subject_on =
    then_on place (λ begin. piece w16 >>= λ subject. only is_subject_text begin subject) place_on
    (λ begin. then_on (piece w16) (λ subject. only is_subject_text begin subject) (piece_on w16) (λ subject. only_on is_subject_text begin subject))

sized_on : (may : Bytes → Bool) → GoesOn (sized_part may)
sized_on may =
    then_on (word w32) (λ size. place >>= λ begin. part begin size >>= λ bytes. only may begin bytes >>= λ bytes. done (begin, bytes)) (word_on w32)
    (λ size. then_on place (λ begin. part begin size >>= λ bytes. only may begin bytes >>= λ bytes. done (begin, bytes)) place_on
    (λ begin. then_on (part begin size) (λ bytes. only may begin bytes >>= λ bytes. done (begin, bytes)) (part_on begin size)
    (λ bytes. then_on (only may begin bytes) (λ bytes. done (begin, bytes)) (only_on may begin bytes) (λ bytes. done_on (begin, bytes)))))

content_on : (end : ℕ) → GoesOn (content_field end)
unfolding content_field
content_on end =
    then_on (sized_part is_small_header) (λ headers. place >>= λ begin. part begin (end - begin) >>= λ payload. only fit headers.0 (headers.1, payload)) (sized_on is_small_header)
    (λ headers. then_on place (λ begin. part begin (end - begin) >>= λ payload. only fit headers.0 (headers.1, payload)) place_on
    (λ begin. then_on (part begin (end - begin)) (λ payload. only fit headers.0 (headers.1, payload)) (part_on begin (end - begin))
    (λ payload. only_on fit headers.0 (headers.1, payload))))

fields_on : (end : ℕ) → GoesOn (message_fields end)
unfolding message_fields
fields_on end =
    then_on number_field (λ seq. number_field >>= λ at. subject_field >>= λ subject. content_field end >>= λ content. done (message_with seq at subject content)) number_on
    (λ seq. then_on number_field (λ at. subject_field >>= λ subject. content_field end >>= λ content. done (message_with seq at subject content)) number_on
    (λ at. then_on subject_field (λ subject. content_field end >>= λ content. done (message_with seq at subject content)) subject_on
    (λ subject. then_on (content_field end) (λ content. done (message_with seq at subject content)) (content_on end)
    (λ content. done_on (message_with seq at subject content)))))

checked_on : GoesOn checked_end
unfolding checked_end
checked_on =
    then_on place (λ begin. word w32 >>= λ size. word w32 >>= λ sum. peek (end_of_checked begin size sum)) place_on
    (λ begin. then_on (word w32) (λ size. word w32 >>= λ sum. peek (end_of_checked begin size sum)) (word_on w32)
    (λ size. then_on (word w32) (λ sum. peek (end_of_checked begin size sum)) (word_on w32)
    (λ sum. peek_on (end_of_checked begin size sum))))

up_to_on : {A : Type 0} (end : ℕ) (read : Reader A) → GoesOn read → GoesOn (up_to end read)
up_to_on end read on bytes at a behind e = on (take end bytes) at a behind e

pub message_on : GoesOn message_at
unfolding message_at
message_on =
    then_on checked_end (λ end. up_to end (message_fields end)) checked_on (λ end. up_to_on end (message_fields end) (fields_on end))
