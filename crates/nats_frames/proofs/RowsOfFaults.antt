-- Worked rows: the faults that bytes begin with.
use Rattle.std.specs.Prelude.{◌≡◌, codes, refl}
use Rattle.nats_frames.specs.declared.op.Op.TheVariants.{Ping}
use Rattle.nats_frames.specs.declared.fault.Fault.TheVariants.{UnknownOp, BadArgs, PayloadTooBig, BadEnd}
use Rattle.nats_frames.specs.Reading.{Whole, Broken, op_at, words_at, args_at}

-- ---- a name that is none

pub empty_line : op_at (codes "\n") ≡ Broken UnknownOp
unfolding op_at words_at args_at
empty_line = refl

cr_lf : op_at (codes "\r\n") ≡ Broken UnknownOp
unfolding op_at words_at args_at
cr_lf = refl

blank_line : op_at (codes " \t\r\n") ≡ Broken UnknownOp
unfolding op_at words_at args_at
blank_line = refl

blank_first : op_at (codes " PING\r\n") ≡ Broken UnknownOp
unfolding op_at words_at args_at
blank_first = refl

tab_first : op_at (codes "\tPING\n") ≡ Broken UnknownOp
unfolding op_at words_at args_at
tab_first = refl

begun_name : op_at (codes "PIN\r\n") ≡ Broken UnknownOp
unfolding op_at words_at args_at
begun_name = refl

longer_name : op_at (codes "PINGS\r\n") ≡ Broken UnknownOp
unfolding op_at words_at args_at
longer_name = refl

second_cr : op_at (codes "PING\r\r\n") ≡ Broken UnknownOp
unfolding op_at words_at args_at
second_cr = refl

cr_before_a_blank : op_at (codes "PING\r \n") ≡ Broken UnknownOp
unfolding op_at words_at args_at
cr_before_a_blank = refl

another_name : op_at (codes "NOPE\r\n") ≡ Broken UnknownOp
unfolding op_at words_at args_at
another_name = refl

no_blank : op_at (codes "CONNECT{}\r\n") ≡ Broken UnknownOp
unfolding op_at words_at args_at
no_blank = refl

name_of_a_server : op_at (codes "MSG a 1 0\r\n") ≡ Broken UnknownOp
unfolding op_at words_at args_at
name_of_a_server = refl

-- ---- fields that are not the operation's

ping_with_a_field : op_at (codes "PING x\r\n") ≡ Broken BadArgs
unfolding op_at words_at args_at
ping_with_a_field = refl

pong_with_a_field : op_at (codes "pong x\r\n") ≡ Broken BadArgs
unfolding op_at words_at args_at
pong_with_a_field = refl

no_text : op_at (codes "CONNECT\r\n") ≡ Broken BadArgs
unfolding op_at words_at args_at
no_text = refl

blank_text : op_at (codes "CONNECT \t \r\n") ≡ Broken BadArgs
unfolding op_at words_at args_at
blank_text = refl

sub_of_none : op_at (codes "SUB\r\n") ≡ Broken BadArgs
unfolding op_at words_at args_at
sub_of_none = refl

sub_of_one : op_at (codes "SUB a \r\n") ≡ Broken BadArgs
unfolding op_at words_at args_at
sub_of_one = refl

sub_of_four : op_at (codes "SUB a b c d\r\n") ≡ Broken BadArgs
unfolding op_at words_at args_at
sub_of_four = refl

unsub_of_none : op_at (codes "UNSUB \r\n") ≡ Broken BadArgs
unfolding op_at words_at args_at
unsub_of_none = refl

unsub_of_three : op_at (codes "UNSUB 1 2 3\r\n") ≡ Broken BadArgs
unfolding op_at words_at args_at
unsub_of_three = refl

wrong_max : op_at (codes "UNSUB 1 x\r\n") ≡ Broken BadArgs
unfolding op_at words_at args_at
wrong_max = refl

pub_of_none : op_at (codes "PUB\r\n") ≡ Broken BadArgs
unfolding op_at words_at args_at
pub_of_none = refl

pub_of_one : op_at (codes "PUB a\r\n") ≡ Broken BadArgs
unfolding op_at words_at args_at
pub_of_one = refl

pub_of_four : op_at (codes "PUB a b 1 1\r\n") ≡ Broken BadArgs
unfolding op_at words_at args_at
pub_of_four = refl

wrong_size : op_at (codes "PUB a -1\r\n") ≡ Broken BadArgs
unfolding op_at words_at args_at
wrong_size = refl

no_decimal : op_at (codes "PUB a 0x1\r\n") ≡ Broken BadArgs
unfolding op_at words_at args_at
no_decimal = refl

cr_in_a_size : op_at (codes "PUB a 1\r\r\n") ≡ Broken BadArgs
unfolding op_at words_at args_at
cr_in_a_size = refl

hpub_of_two : op_at (codes "HPUB a 1\r\n") ≡ Broken BadArgs
unfolding op_at words_at args_at
hpub_of_two = refl

hpub_of_five : op_at (codes "HPUB a b c 1 1\r\n") ≡ Broken BadArgs
unfolding op_at words_at args_at
hpub_of_five = refl

wrong_header_size : op_at (codes "HPUB a x 1\r\n") ≡ Broken BadArgs
unfolding op_at words_at args_at
wrong_header_size = refl

wrong_whole_size : op_at (codes "HPUB a 1 x\r\n") ≡ Broken BadArgs
unfolding op_at words_at args_at
wrong_whole_size = refl

more_headers_than_all : op_at (codes "HPUB a 2 1\r\n") ≡ Broken BadArgs
unfolding op_at words_at args_at
more_headers_than_all = refl

-- ---- a payload that is too big, or not ended

too_big : op_at (codes "PUB a 1048577\r\n") ≡ Broken (PayloadTooBig 1048577)
unfolding op_at words_at args_at
too_big = refl

too_big_in_all : op_at (codes "HPUB a b 1 1048577 \n") ≡ Broken (PayloadTooBig 1048577)
unfolding op_at words_at args_at
too_big_in_all = refl

no_cr : op_at (codes "PUB a 0\r\nx") ≡ Broken (BadEnd 9)
unfolding op_at words_at args_at
no_cr = refl

lf_alone : op_at (codes "PUB a 1\r\nx\n") ≡ Broken (BadEnd 10)
unfolding op_at words_at args_at
lf_alone = refl

no_lf : op_at (codes "PUB a 1\r\nx\rx") ≡ Broken (BadEnd 11)
unfolding op_at words_at args_at
no_lf = refl

two_crs : op_at (codes "PUB a 0\n\r\r\n") ≡ Broken (BadEnd 9)
unfolding op_at words_at args_at
two_crs = refl

longer_payload : op_at (codes "PUB a 1\nxy\r\n") ≡ Broken (BadEnd 9)
unfolding op_at words_at args_at
longer_payload = refl

headed_end : op_at (codes "HPUB a 1 2\r\nhxy") ≡ Broken (BadEnd 14)
unfolding op_at words_at args_at
headed_end = refl

headed_lf : op_at (codes "HPUB a 1 2\r\nhx\r\r") ≡ Broken (BadEnd 15)
unfolding op_at words_at args_at
headed_lf = refl

-- ---- the first of two faults

no_name_before_fields : op_at (codes "NOPE a b c\r\n") ≡ Broken UnknownOp
unfolding op_at words_at args_at
no_name_before_fields = refl

fields_before_size : op_at (codes "HPUB a 1048578 1048577\r\n") ≡ Broken BadArgs
unfolding op_at words_at args_at
fields_before_size = refl

size_before_end : op_at (codes "PUB a 1048577\r\nx\rx") ≡ Broken (PayloadTooBig 1048577)
unfolding op_at words_at args_at
size_before_end = refl

-- an operation comes before what follows it
fault_behind : op_at (codes "PING\r\nNOPE\r\n") ≡ Whole Ping (codes "NOPE\r\n")
unfolding op_at words_at args_at
fault_behind = refl
