-- The texts of the refusals of a publish are UTF-8.
use Rattle.std.proofs.Common.{◌≡◌, ℕ, ◌+◌, ◌^◌, ◌<◌, ◌≤◌, Bool, true, false, List, [], ◌∷◌, filter, Option, Some, None, IfSome, IsUtf8, cond, refl, subst, arith}
use Rattle.std.specs.Prelude.{codes, decimal, unwrap_or}
use Rattle.std.specs.List.{last_or}
use Rattle.std.specs.Str.{is_utf8, chars}
use lib.Utf8.{encode}
use Rattle.std.proofs.lemmas.Fmt.{IsAscii-decimal}
use Rattle.std.proofs.lemmas.Str.{IsUtf8-append, IsUtf8-from_ascii, IsUtf8-from_is_utf8, IsUtf8-nil}
use Rattle.js_base.specs.Bytes.{Bytes, same}
use Rattle.js_base.specs.declared.out.ApiError.{ApiError}
use Rattle.js_model.specs.declared.stream.Id.{Id}
use Rattle.js_model.specs.declared.stream.Message.{Message}
use Rattle.js_model.specs.declared.stream.Stream.{Stream}
use Rattle.js_model.specs.declared.event.Publish.{Publish}
use Rattle.js_model.specs.Lists.{Between}
use Rattle.js_model.specs.Refusals.{Check, first_refusal, message_too_large, bad_header_number, id_too_long, wrong_stream, wrong_last, wrong_last_id, max_messages_exceeded, max_bytes_exceeded, window_full, numbers_used_up, no_room}
use Rattle.js_model.specs.Verdict.{verdict, first_of_all, known, early_checks, late_checks, last_on, last_seq_on}
use Rattle.stream_view.specs.Order.{IsInOrder}
use Rattle.place_engine.specs.Shown.{IsShownVerdict}

-- ---- checks whose refusals are UTF-8

abbrev pub AreTexts : List Check → Type 0
AreTexts [] = Unit {0}
AreTexts (check ∷ checks) = IsUtf8 check.1.text × AreTexts checks

-- the refusal of the first check that fails
abbrev pub IfText : Option ApiError → Type 0
IfText o = IfSome o (λ e. IsUtf8 e.text)

pub first_text : (checks : List Check) → AreTexts checks → IfText (first_refusal checks)
first_text [] texts = tt
first_text (check ∷ checks) texts = go check.0 (first_text checks texts.1)
  where
    go : (b : Bool) → IfText (first_refusal checks) → IfText (cond b (Some check.1) (first_refusal checks))
    go true rest = texts.0
    go false rest = rest

shown_first : (early : Option ApiError) (found : Option Id) (late : Option ApiError) → IfText early → IfText late → IsShownVerdict (first_of_all early found late)
shown_first (Some e) found late first last = first
shown_first None (Some i) late first last = tt
shown_first None None (Some e) first last = last
shown_first None None None first last = tt

-- ---- texts

message_too_large_utf8 : IsUtf8 message_too_large.text
unfolding is_utf8 chars encode
message_too_large_utf8 = IsUtf8-from_is_utf8 message_too_large.text refl

id_too_long_utf8 : IsUtf8 id_too_long.text
unfolding is_utf8 chars encode
id_too_long_utf8 = IsUtf8-from_is_utf8 id_too_long.text refl

wrong_stream_utf8 : IsUtf8 wrong_stream.text
unfolding is_utf8 chars encode
wrong_stream_utf8 = IsUtf8-from_is_utf8 wrong_stream.text refl

wrong_last_id_utf8 : IsUtf8 wrong_last_id.text
unfolding is_utf8 chars encode
wrong_last_id_utf8 = IsUtf8-from_is_utf8 wrong_last_id.text refl

max_messages_exceeded_utf8 : IsUtf8 max_messages_exceeded.text
unfolding is_utf8 chars encode
max_messages_exceeded_utf8 = IsUtf8-from_is_utf8 max_messages_exceeded.text refl

max_bytes_exceeded_utf8 : IsUtf8 max_bytes_exceeded.text
unfolding is_utf8 chars encode
max_bytes_exceeded_utf8 = IsUtf8-from_is_utf8 max_bytes_exceeded.text refl

window_full_utf8 : IsUtf8 window_full.text
unfolding is_utf8 chars encode
window_full_utf8 = IsUtf8-from_is_utf8 window_full.text refl

numbers_used_up_utf8 : IsUtf8 numbers_used_up.text
unfolding is_utf8 chars encode
numbers_used_up_utf8 = IsUtf8-from_is_utf8 numbers_used_up.text refl

pub no_room_utf8 : IsUtf8 no_room.text
unfolding is_utf8 chars encode
no_room_utf8 = IsUtf8-from_is_utf8 no_room.text refl

wrong_last_front : IsUtf8 (codes "wrong last sequence: ")
unfolding is_utf8 chars encode
wrong_last_front = IsUtf8-from_is_utf8 (codes "wrong last sequence: ") refl

wrong_last_utf8 : (n : ℕ) → n < 2 ^ 62 → IsUtf8 (wrong_last n).text
wrong_last_utf8 n small = IsUtf8-append (codes "wrong last sequence: ") (decimal n) wrong_last_front (IsUtf8-from_ascii (decimal n) (IsAscii-decimal n (omega arith)))

bad_header_front : IsUtf8 (codes "invalid header number: ")
unfolding is_utf8 chars encode
bad_header_front = IsUtf8-from_is_utf8 (codes "invalid header number: ") refl

bad_header_utf8 : (bad : Option Bytes) → IfSome bad IsUtf8 → IsUtf8 (bad_header_number (unwrap_or bad [])).text
bad_header_utf8 None text = IsUtf8-append (codes "invalid header number: ") [] bad_header_front IsUtf8-nil
bad_header_utf8 (Some header) text = IsUtf8-append (codes "invalid header number: ") header bad_header_front text

-- ---- the last sequence of a subject

abbrev seq_of : Option Message → ℕ
seq_of None = 0
seq_of (Some m) = m.seq

-- where they ascend, the least is not above the bound
low_high : (low high : ℕ) (messages : List Message) → Between (λ m. m.seq) low high messages → low ≤ high
low_high low high [] le = le
low_high low high (m ∷ more) ascends = let rest : m.seq + 1 ≤ high = low_high (m.seq + 1) high more ascends.1 in omega (arith, ascends.0, rest)

last_small : (o : Option Message) (p : Message → Bool) (low high : ℕ) (messages : List Message) → seq_of o < high → Between (λ m. m.seq) low high messages
    → seq_of (last_or o (filter p messages)) < high
last_small o p low high [] small ascends = small
last_small o p low high (m ∷ more) small ascends =
    let next : m.seq + 1 ≤ high = low_high (m.seq + 1) high more ascends.1 in
    go (p m) (last_small (Some m) p (m.seq + 1) high more (omega (arith, next)) ascends.1) (last_small o p (m.seq + 1) high more small ascends.1)
  where
    go : (b : Bool) → seq_of (last_or (Some m) (filter p more)) < high → seq_of (last_or o (filter p more)) < high
        → seq_of (last_or o (cond b (m ∷ filter p more) (filter p more))) < high
    go true with_it without_it = with_it
    go false with_it without_it = without_it

subject_small : (s : Stream) (subject : Bytes) → IsInOrder s → last_seq_on s subject < 2 ^ 62
subject_small s subject order = go (last_on s subject) refl
  where
    bound : seq_of (last_on s subject) < s.last + 1
    bound = last_small None (λ m. same m.subject subject) 1 (s.last + 1) s.messages (omega arith) order.ascends

    go : (o : Option Message) → last_on s subject ≡ o → last_seq_on s subject < 2 ^ 62
    go None e = rw e (omega arith)
    go (Some m) e = let less : m.seq < s.last + 1 = subst (λ (x : Option Message). seq_of x < s.last + 1) e bound in rw e (omega (arith, less, order.bound))

-- ---- the verdict

early_texts : (s : Stream) (p : Publish) → IfSome p.wants.bad IsUtf8 → AreTexts (early_checks s p)
early_texts s p told = (message_too_large_utf8, (bad_header_utf8 p.wants.bad told, (id_too_long_utf8, (wrong_stream_utf8, tt))))

late_texts : (s : Stream) (p : Publish) → IsInOrder s → AreTexts (late_checks s p true)
late_texts s p order = (
  wrong_last_utf8 s.last order.bound,
  (
    wrong_last_utf8 (last_seq_on s p.subject) (subject_small s p.subject order),
    (
      wrong_last_id_utf8,
      (max_messages_exceeded_utf8, (max_bytes_exceeded_utf8, (window_full_utf8, (numbers_used_up_utf8, (no_room_utf8, tt))))),
    ),
  ),
)

pub verdict_text : (s : Stream) (p : Publish) → IsInOrder s → IfSome p.wants.bad IsUtf8 → IsShownVerdict (verdict s p true)
unfolding verdict
verdict_text s p order told =
    shown_first (first_refusal (early_checks s p)) (known s p.wants.id) (first_refusal (late_checks s p true))
    (first_text (early_checks s p) (early_texts s p told)) (first_text (late_checks s p true) (late_texts s p order))
