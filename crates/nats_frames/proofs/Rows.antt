-- Worked rows: the operations that bytes begin with.
use Rattle.std.specs.Prelude.{◌≡◌, [], Some, None, codes, refl}
use Rattle.nats_frames.specs.declared.op.Op.TheVariants.{Connect, Pub, HPub, Sub, Unsub, Ping, Pong}
use Rattle.nats_frames.specs.Reading.{Whole, Partial, op_at, words_at, args_at}

-- ---- as the protocol's pages show them

pub connect : op_at (codes "CONNECT {\"verbose\":false}\r\n+") ≡ Whole (Connect (codes "{\"verbose\":false}")) (codes "+")
unfolding op_at words_at args_at
connect = refl

publish : op_at (codes "PUB FOO 11\r\nHello NATS!\r\n+") ≡ Whole (Pub (codes "FOO") None (codes "Hello NATS!")) (codes "+")
unfolding op_at words_at args_at
publish = refl

request : op_at (codes "PUB FRONT.DOOR JOKE.22 11\r\nKnock Knock\r\n") ≡ Whole (Pub (codes "FRONT.DOOR") (Some (codes "JOKE.22")) (codes "Knock Knock")) []
unfolding op_at words_at args_at
request = refl

no_payload : op_at (codes "PUB NOTIFY 0\r\n\r\n") ≡ Whole (Pub (codes "NOTIFY") None []) []
unfolding op_at words_at args_at
no_payload = refl

headed : op_at (codes "HPUB FOO 22 33\r\nNATS/1.0\r\nBar: Baz\r\n\r\nHello NATS!\r\n") ≡ Whole (HPub (codes "FOO") None (codes "NATS/1.0\r\nBar: Baz\r\n\r\n") (codes "Hello NATS!")) []
unfolding op_at words_at args_at
headed = refl

headed_request : op_at (codes "HPUB A B 12 12\r\nNATS/1.0\r\n\r\n\r\n") ≡ Whole (HPub (codes "A") (Some (codes "B")) (codes "NATS/1.0\r\n\r\n") []) []
unfolding op_at words_at args_at
headed_request = refl

subscribe : op_at (codes "SUB FOO 1\r\n") ≡ Whole (Sub (codes "FOO") None (codes "1")) []
unfolding op_at words_at args_at
subscribe = refl

subscribe_in_a_group : op_at (codes "SUB BAR G1 44\r\n") ≡ Whole (Sub (codes "BAR") (Some (codes "G1")) (codes "44")) []
unfolding op_at words_at args_at
subscribe_in_a_group = refl

unsubscribe : op_at (codes "UNSUB 1\r\n") ≡ Whole (Unsub (codes "1") None) []
unfolding op_at words_at args_at
unsubscribe = refl

unsubscribe_after : op_at (codes "UNSUB 1 5\r\n") ≡ Whole (Unsub (codes "1") (Some 5)) []
unfolding op_at words_at args_at
unsubscribe_after = refl

ping : op_at (codes "PING\r\nPING\r\n") ≡ Whole Ping (codes "PING\r\n")
unfolding op_at words_at args_at
ping = refl

pong : op_at (codes "PONG\r\n") ≡ Whole Pong []
unfolding op_at words_at args_at
pong = refl

-- ---- other spellings

in_any_case : op_at (codes "pInG\r\n") ≡ Whole Ping []
unfolding op_at words_at args_at
in_any_case = refl

by_lf_alone : op_at (codes "PING\n") ≡ Whole Ping []
unfolding op_at words_at args_at
by_lf_alone = refl

blanks_at_the_end : op_at (codes "PING \t \r\n") ≡ Whole Ping []
unfolding op_at words_at args_at
blanks_at_the_end = refl

tabs_and_blanks : op_at (codes "sub\t a..b \t q\t\t7 \n") ≡ Whole (Sub (codes "a..b") (Some (codes "q")) (codes "7")) []
unfolding op_at words_at args_at
tabs_and_blanks = refl

-- one CR alone is the line's
second_cr : op_at (codes "UNSUB 1\r\r\n") ≡ Whole (Unsub (codes "1\r") None) []
unfolding op_at words_at args_at
second_cr = refl

leading_zeros : op_at (codes "PUB a 0001\nx\r\n") ≡ Whole (Pub (codes "a") None (codes "x")) []
unfolding op_at words_at args_at
leading_zeros = refl

-- a subject that is none is written all the same, and no header is one
wrong_subject : op_at (codes "PUB a.* b.> 0\n\r\n") ≡ Whole (Pub (codes "a.*") (Some (codes "b.>")) []) []
unfolding op_at words_at args_at
wrong_subject = refl

no_headers : op_at (codes "HPUB a 0 1\nx\r\n") ≡ Whole (HPub (codes "a") None [] (codes "x")) []
unfolding op_at words_at args_at
no_headers = refl

-- a text is all that follows its blanks, with those at its end
any_text : op_at (codes "connect \t a b \r\r\n") ≡ Whole (Connect (codes "a b \r")) []
unfolding op_at words_at args_at
any_text = refl

-- a payload may hold what ends it
crlf_in_a_payload : op_at (codes "PUB a 4\r\n\r\n\r\n\r\n") ≡ Whole (Pub (codes "a") None (codes "\r\n\r\n")) []
unfolding op_at words_at args_at
crlf_in_a_payload = refl

-- ---- less than an operation

nothing : op_at ([]) ≡ Partial
unfolding op_at words_at args_at
nothing = refl

no_line : op_at (codes "PING") ≡ Partial
unfolding op_at words_at args_at
no_line = refl

no_lf : op_at (codes "NOPE\r") ≡ Partial
unfolding op_at words_at args_at
no_lf = refl

no_lf_yet : op_at (codes "PUB a 1048577 ") ≡ Partial
unfolding op_at words_at args_at
no_lf_yet = refl

no_payload_yet : op_at (codes "PUB a 1\r\n") ≡ Partial
unfolding op_at words_at args_at
no_payload_yet = refl

payload_alone : op_at (codes "PUB a 1\r\nx") ≡ Partial
unfolding op_at words_at args_at
payload_alone = refl

cr_alone : op_at (codes "PUB a 1\r\nx\r") ≡ Partial
unfolding op_at words_at args_at
cr_alone = refl

half_headed : op_at (codes "HPUB a 1 2\r\nhx\r") ≡ Partial
unfolding op_at words_at args_at
half_headed = refl
