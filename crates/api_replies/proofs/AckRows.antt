-- Worked rows: answers to publishes, byte for byte.
use Rattle.std.proofs.Common.{◌≡◌, length, codes, Some, None, refl}
use Rattle.std.specs.Fmt.{digits}
use Rattle.serde_json.proofs.OnLiterals.{serde_json_on_literals}
use Rattle.js_model.specs.declared.reply.Reply.TheVariants.{Published, Duplicate, Refused, Silent}
use Rattle.js_model.specs.Refusals.{refusal, max_messages_exceeded, wrong_last}
use Rattle.api_replies.specs.PubAcks.{publish_text, stored_text, duplicate_text, unstored_members, unstored_text}

-- a message was stored
stored : publish_text (codes "ORDERS") (Published 1) ≡ Some (codes "{\"seq\":1,\"stream\":\"ORDERS\"}")
unfolding digits serde_json_on_literals stored_text duplicate_text unstored_members unstored_text
stored = refl

length_stored : length (stored_text (codes "ORDERS") 1) ≡ 27
unfolding digits serde_json_on_literals stored_text duplicate_text unstored_members unstored_text
length_stored = refl

-- its id was there
repeated : publish_text (codes "ORDERS") (Duplicate 1) ≡ Some (codes "{\"duplicate\":true,\"seq\":1,\"stream\":\"ORDERS\"}")
unfolding digits serde_json_on_literals stored_text duplicate_text unstored_members unstored_text
repeated = refl

length_repeated : length (duplicate_text (codes "ORDERS") 1) ≡ 44
unfolding digits serde_json_on_literals stored_text duplicate_text unstored_members unstored_text
length_repeated = refl

-- refusals
too_many : publish_text (codes "L") (Refused max_messages_exceeded)
    ≡ Some (codes "{\"error\":{\"code\":503,\"description\":\"maximum messages exceeded\",\"err_code\":20019},\"seq\":0,\"stream\":\"L\"}")
unfolding digits serde_json_on_literals stored_text duplicate_text unstored_members unstored_text
too_many = refl

length_too_many : length (unstored_text (codes "L") max_messages_exceeded) ≡ 102
unfolding digits serde_json_on_literals stored_text duplicate_text unstored_members unstored_text
length_too_many = refl

another_last : publish_text (codes "ORDERS") (Refused (wrong_last 1))
    ≡ Some (codes "{\"error\":{\"code\":400,\"description\":\"wrong last sequence: 1\",\"err_code\":10071},\"seq\":0,\"stream\":\"ORDERS\"}")
unfolding digits serde_json_on_literals stored_text duplicate_text unstored_members unstored_text
another_last = refl

length_another_last : length (unstored_text (codes "ORDERS") (wrong_last 1)) ≡ 104
unfolding digits serde_json_on_literals stored_text duplicate_text unstored_members unstored_text
length_another_last = refl

length_store_fault : length (unstored_text (codes "ORDERS") (refusal 503 20011 (codes "store fault"))) ≡ 93
unfolding digits serde_json_on_literals stored_text duplicate_text unstored_members unstored_text
length_store_fault = refl

-- a quote and a backslash in a name
in_quotes : publish_text (codes "a\"b\\c") (Published 2) ≡ Some (codes "{\"seq\":2,\"stream\":\"a\\\"b\\\\c\"}")
unfolding digits serde_json_on_literals stored_text duplicate_text unstored_members unstored_text
in_quotes = refl

-- what is no answer to a publish has no text
none : publish_text (codes "ORDERS") Silent ≡ None
none = refl
