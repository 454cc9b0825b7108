-- Worked examples of the definitions.
use Rattle.std.specs.Prelude.{ℕ, ◌≡◌, true, false, [], ◌∷◌, ◌++◌, Some, None, Ok, Err, codes, refl, length}
use Rattle.std.specs.Fmt.{digits}
use Rattle.std.specs.Str.{is_utf8, chars}
use lib.Utf8.{encode}
use Rattle.js_base.specs.Bytes.{crlf, last_of, has}
use Rattle.js_base.specs.Decimal.{number_of}
use Rattle.js_base.specs.declared.decimal.DecFault.TheVariants.{Empty, BadDigit, TooBig}
use Rattle.js_base.specs.declared.frame.Frame.TheVariants.{Info, Msg, Ping, Ok as Fine, Err as Error}
use Rattle.js_base.specs.Framing.{frame}
use Rattle.js_base.specs.Moments.{plus}
use Rattle.js_base.specs.Names.{name_of}
use Rattle.js_base.specs.declared.name.NameFault.TheVariants.{Empty as NoName, BadByte}
use Rattle.js_base.specs.Status.{status}
use Rattle.js_base.specs.Subjects.{tokens, matches, meets, is_plain, is_pattern, is_publish_text, is_subject_text, is_pattern_text}

-- ---- frames

info : frame (Info 1 (codes "pipe") 0) ≡ codes "INFO {\"client_id\":1,\"headers\":true,\"host\":\"pipe\",\"jetstream\":true,\"max_payload\":1048576,\"port\":0,\"proto\":1,\"server_id\":\"JSBLOCK\",\"server_name\":\"jsblock\",\"version\":\"2.10.0\"}" ++ crlf
unfolding digits
info = refl

ping : frame Ping ≡ codes "PING" ++ crlf
ping = refl

fine : frame Fine ≡ codes "+OK" ++ crlf
fine = refl

error : frame (Error (codes "Unknown Protocol Operation")) ≡ codes "-ERR 'Unknown Protocol Operation'" ++ crlf
error = refl

plain_message : frame (Msg (codes "orders.new") (codes "9") None [] (codes "hello")) ≡ codes "MSG orders.new 9 5\r\nhello\r\n"
unfolding digits
plain_message = refl

with_reply : frame (Msg (codes "a") (codes "1") (Some (codes "_INBOX.x")) [] []) ≡ codes "MSG a 1 _INBOX.x 0\r\n\r\n"
unfolding digits
with_reply = refl

-- a header block has its size before that of all
with_headers : frame (Msg (codes "a") (codes "1") (Some (codes "b")) (codes "NATS/1.0\r\nk: v\r\n\r\n") (codes "xy")) ≡ codes "HMSG a 1 b 18 20\r\nNATS/1.0\r\nk: v\r\n\r\nxy\r\n"
unfolding digits
with_headers = refl

-- ---- status blocks

no_messages : status 404 (codes "No Messages") [] ≡ codes "NATS/1.0 404 No Messages\r\n\r\n"
unfolding digits
no_messages = refl

no_messages_size : length (status 404 (codes "No Messages") []) ≡ 28
unfolding digits
no_messages_size = refl

nobody : status 503 [] [] ≡ codes "NATS/1.0 503\r\n\r\n"
unfolding digits
nobody = refl

nobody_size : length (status 503 [] []) ≡ 16
unfolding digits
nobody_size = refl

timeout_size : length (status 408 (codes "Request Timeout") ((codes "Nats-Pending-Messages", 3) ∷ (codes "Nats-Pending-Bytes", 0) ∷ [])) ≡ 81
unfolding digits
timeout_size = refl

-- ---- subjects

cut : tokens (codes "a..b.") ≡ codes "a" ∷ [] ∷ codes "b" ∷ [] ∷ []
cut = refl

no_bytes : tokens [] ≡ [] ∷ []
no_bytes = refl

one_token : matches (tokens (codes "a.*.c")) (tokens (codes "a.b.c")) ≡ true
one_token = refl

not_two : matches (tokens (codes "a.*")) (tokens (codes "a.b.c")) ≡ false
not_two = refl

all_left : matches (tokens (codes "a.>")) (tokens (codes "a.b.c")) ≡ true
all_left = refl

not_none : matches (tokens (codes "a.>")) (tokens (codes "a")) ≡ false
not_none = refl

within_a_token : matches (tokens (codes "a.*b")) (tokens (codes "a.bb")) ≡ false
within_a_token = refl

overlap : meets (tokens (codes "w.*.>")) (tokens (codes "*.x.y")) ≡ true
overlap = refl

apart : meets (tokens (codes "w.>")) (tokens (codes "w")) ≡ false
apart = refl

rest_early : is_pattern (tokens (codes "a.>.b")) ≡ false
rest_early = refl

star_is_not_plain : is_plain (tokens (codes "a.*")) ≡ false
star_is_not_plain = refl

subject : is_subject_text (codes "orders.new") ≡ true
unfolding is_utf8 chars encode
subject = refl

blank : is_pattern_text (codes "orders. ") ≡ false
blank = refl

-- a request's subject may hold a filter, and no other subject may
filter_published : is_publish_text (codes "$JS.API.CONSUMER.CREATE.S.C.>") ≡ true
unfolding is_utf8 chars encode
filter_published = refl

star_published : is_publish_text (codes "orders.*") ≡ false
unfolding is_utf8 chars encode
star_published = refl

-- ---- numbers, names and moments

leading_zeros : number_of (codes "0042") ≡ Ok 42
leading_zeros = refl

no_digits : number_of [] ≡ Err Empty
no_digits = refl

sign : number_of (codes "-1") ≡ Err (BadDigit 0)
sign = refl

greatest : number_of (codes "4611686018427387903") ≡ Ok 4611686018427387903
greatest = refl

too_great : number_of (codes "4611686018427387904") ≡ Err TooBig
too_great = refl

-- a byte that is no digit is told before a number that is too big
digit_first : number_of (codes "99999999999999999999x") ≡ Err (BadDigit 20)
digit_first = refl

name : name_of (codes "orders-1") ≡ Ok (codes "orders-1")
name = refl

dotted_name : name_of (codes "a.b") ≡ Err (BadByte 1)
dotted_name = refl

no_name : name_of [] ≡ Err NoName
no_name = refl

last_moment : plus 4611686018427387900 10 ≡ 4611686018427387903
last_moment = refl

tail_of : last_of {X = ℕ} 2 (1 ∷ 2 ∷ 3 ∷ []) ≡ 2 ∷ 3 ∷ []
tail_of = refl

held : has (1 ∷ 2 ∷ []) 2 ≡ true
held = refl
