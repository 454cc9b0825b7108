-- Worked rows of streams: making, publishing, repeats, limits, expectations, removal.
use Rattle.std.specs.Prelude.{◌≡◌, true, false, [], ◌∷◌, Some, None, codes, refl}
use Rattle.std.specs.Fmt.{digits}
use Rattle.std.specs.Str.{is_utf8, chars}
use lib.Utf8.{encode}
use Rattle.js_base.specs.Headers.{is_block}
use Rattle.js_model.specs.declared.stream_config.Retention.TheVariants.{Interest}
use Rattle.js_model.specs.declared.stream_config.Discard.TheVariants.{New as DiscardNew}
use Rattle.js_model.specs.declared.stream_config.StreamConfig.{StreamConfig}
use Rattle.js_model.specs.declared.stream.State.{State}
use Rattle.js_model.specs.declared.stream.State.TheVariants.{Vacant, Live}
use Rattle.js_model.specs.declared.event.GetBy.TheVariants.{Seq}
use Rattle.js_model.specs.declared.event.Wants.{Wants}
use Rattle.js_model.specs.declared.event.What.{What}
use Rattle.js_model.specs.declared.event.What.TheVariants.{Change, Drop as DropStream, Purge, Delete, Tick, StreamInfo as AskStream, MessageGet}
use Rattle.js_model.specs.declared.reply.Reply.TheVariants.{Info as StreamTold, Published, Duplicate, Purged, Message as MessageTold, Refused}
use Rattle.js_model.specs.Refusals.{refusal, no_message, no_stream}
use Rattle.js_model.specs.Configs.{is_stream_config}
use Rattle.js_model.specs.Proper.{is_proper}
use Rattle.js_model.specs.Advance.{advance, advance_outs}
use Rattle.js_model.specs.Retention.{kept}
use Rattle.js_model.specs.Trim.{trim}
use Rattle.js_model.specs.Verdict.{verdict}
use Rattle.js_model.specs.Events.{answered}
use Rattle.js_model.proofs.Samples.{t0, orders, wants_nothing, make, publish, hello, event, state_after, reply_to, seqs_in, inbox, message}

-- ---- making

made : state_after ((make orders, t0) ∷ [])
    ≡ Live (record { incarnation = 1; made = t0; config = orders; messages = []; last = 0; moment = t0; ids = []; consumers = [] })
unfolding answered advance advance_outs kept trim verdict
made = refl

made_told : reply_to (Vacant 0) (make orders) t0
    ≡ StreamTold (record { config = orders; made = t0; messages = 0; bytes = 0; first_seq = 0; first_at = None; last_seq = 0; last_at = None; consumers = 0 })
unfolding answered advance advance_outs kept trim verdict
made_told = refl

-- the same again is told, another configuration is refused
made_twice : reply_to (state_after ((make orders, t0) ∷ [])) (make (record orders { max_msgs = Some 5 })) t0
    ≡ Refused (refusal 400 10058 (codes "stream name already in use with a different configuration"))
unfolding answered advance advance_outs kept trim verdict
made_twice = refl

last_incarnation : reply_to (Vacant 4611686018427387903) (make orders) t0 ≡ Refused (refusal 503 20008 (codes "number range used up"))
unfolding answered advance advance_outs kept trim verdict
last_incarnation = refl

-- what a place without a stream answers
nothing_there : reply_to (Vacant 0) hello t0 ≡ Refused no_stream
unfolding answered advance advance_outs kept trim verdict
nothing_there = refl

-- a stream that was dropped and made again has the next incarnation
made_again : state_after ((make orders, t0) ∷ (DropStream inbox, t0) ∷ (make orders, t0) ∷ [])
    ≡ Live (record { incarnation = 2; made = t0; config = orders; messages = []; last = 0; moment = t0; ids = []; consumers = [] })
unfolding answered advance advance_outs kept trim verdict
made_again = refl

-- retention cannot change
other_retention : reply_to (state_after ((make orders, t0) ∷ [])) (Change inbox (record orders { retention = Interest })) t0
    ≡ Refused (refusal 400 20010 (codes "retention cannot change"))
unfolding answered advance advance_outs kept trim verdict
other_retention = refl

orders_is_config : is_stream_config orders ≡ true
unfolding is_utf8 chars encode
orders_is_config = refl

hello_is_proper : is_proper (event hello) ≡ true
unfolding is_utf8 chars encode
hello_is_proper = refl

-- a header block is a version line, fields and an empty line
block : is_block (codes "NATS/1.0\r\nNats-Msg-Id: k\r\n\r\n") ≡ true
block = refl

status_block : is_block (codes "NATS/1.0 503\r\n\r\n") ≡ true
status_block = refl

nameless_field : is_block (codes "NATS/1.0\r\n: k\r\n\r\n") ≡ false
nameless_field = refl

not_ended : is_block (codes "NATS/1.0\r\nA: k\r\n") ≡ false
not_ended = refl

lone_cr : is_block (codes "NATS/1.0\r\nA: k\rl\r\n\r\n") ≡ false
lone_cr = refl

other_version : is_block (codes "NATS/1.00\r\n\r\n") ≡ false
other_version = refl

-- ---- publishing

first : reply_to (state_after ((make orders, t0) ∷ [])) hello t0 ≡ Published 1
unfolding answered advance advance_outs kept trim verdict
first = refl

second : reply_to (state_after ((make orders, t0) ∷ (hello, t0) ∷ [])) hello t0 ≡ Published 2
unfolding answered advance advance_outs kept trim verdict
second = refl

read_back : reply_to (state_after ((make orders, t0) ∷ (hello, t0) ∷ [])) (MessageGet inbox (Seq 1)) t0 ≡ MessageTold (message 1 t0 (codes "hello"))
unfolding answered advance advance_outs kept trim verdict
read_back = refl

-- ---- repeats: a window of 120 s is not refreshed

abbrev keyed : What
keyed = publish (codes "orders.a") (codes "x") (record wants_nothing { id = codes "k" })

repeated : reply_to (state_after ((make orders, t0) ∷ (keyed, t0) ∷ [])) keyed 1700000119999999999 ≡ Duplicate 1
unfolding answered advance advance_outs kept trim verdict
repeated = refl

taken_again : reply_to (state_after ((make orders, t0) ∷ (keyed, t0) ∷ (keyed, 1700000119999999999) ∷ [])) keyed 1700000120000000000 ≡ Published 2
unfolding answered advance advance_outs kept trim verdict
taken_again = refl

-- ---- limits

abbrev limited : StreamConfig
limited = record orders { max_msgs = Some 2 }

new_refused : reply_to (state_after ((make (record limited { discard = DiscardNew }), t0) ∷ (hello, t0) ∷ (hello, t0) ∷ [])) hello t0
    ≡ Refused (refusal 503 20019 (codes "maximum messages exceeded"))
unfolding answered advance advance_outs kept trim verdict
new_refused = refl

old_dropped : seqs_in (state_after ((make limited, t0) ∷ (hello, t0) ∷ (hello, t0) ∷ (hello, t0) ∷ [])) ≡ 2 ∷ 3 ∷ []
unfolding answered advance advance_outs kept trim verdict
old_dropped = refl

-- what the limit of its subject drops makes room
replaced : seqs_in (state_after ((make (record orders { max_msgs = Some 1; max_msgs_per_subject = Some 1; discard = DiscardNew }), t0) ∷ (hello, t0) ∷ (hello, t0) ∷ [])) ≡ 2 ∷ []
unfolding answered advance advance_outs kept trim verdict
replaced = refl

-- each message counts 8 + 5 + 40 bytes
by_bytes : seqs_in (state_after ((make (record orders { max_bytes = Some 106 }), t0) ∷ (hello, t0) ∷ (hello, t0) ∷ (hello, t0) ∷ [])) ≡ 2 ∷ 3 ∷ []
unfolding answered advance advance_outs kept trim verdict
by_bytes = refl

too_many_bytes : reply_to (state_after ((make (record orders { max_bytes = Some 106; discard = DiscardNew }), t0) ∷ (hello, t0) ∷ (hello, t0) ∷ [])) hello t0
    ≡ Refused (refusal 503 20020 (codes "maximum bytes exceeded"))
unfolding answered advance advance_outs kept trim verdict
too_many_bytes = refl

aged : seqs_in (state_after ((make (record orders { max_age = 10 }), t0) ∷ (hello, t0) ∷ (hello, 1700000000000000009) ∷ (Tick, 1700000000000000010) ∷ [])) ≡ 2 ∷ []
unfolding answered advance advance_outs kept trim verdict
aged = refl

-- a message that nobody needs takes a sequence and is not stored
not_needed : reply_to (state_after ((make (record orders { retention = Interest }), t0) ∷ (hello, t0) ∷ [])) (AskStream inbox) t0
    ≡ StreamTold (record { config = record orders { retention = Interest }; made = t0; messages = 0; bytes = 0; first_seq = 2; first_at = None; last_seq = 1; last_at = None; consumers = 0 })
unfolding answered advance advance_outs kept trim verdict
not_needed = refl

-- ---- expectations

abbrev expecting : Wants → What
expecting wants = publish (codes "orders.a") (codes "x") wants

wrong_last_seq : reply_to (state_after ((make orders, t0) ∷ (hello, t0) ∷ [])) (expecting (record wants_nothing { last = Some 0 })) t0
    ≡ Refused (refusal 400 10071 (codes "wrong last sequence: 1"))
unfolding answered advance advance_outs kept trim verdict digits
wrong_last_seq = refl

bad_number : reply_to (state_after ((make orders, t0) ∷ [])) (expecting (record wants_nothing { bad = Some (codes "Nats-Expected-Last-Sequence") })) t0
    ≡ Refused (refusal 400 20021 (codes "invalid header number: Nats-Expected-Last-Sequence"))
unfolding answered advance advance_outs kept trim verdict
bad_number = refl

-- a repeat is told before an expected sequence is looked at, and after an expected stream
repeat_first : reply_to (state_after ((make orders, t0) ∷ (keyed, t0) ∷ [])) (expecting (record wants_nothing { id = codes "k"; last = Some 7 })) t0 ≡ Duplicate 1
unfolding answered advance advance_outs kept trim verdict
repeat_first = refl

stream_first : reply_to (state_after ((make orders, t0) ∷ (keyed, t0) ∷ [])) (expecting (record wants_nothing { id = codes "k"; stream = Some (codes "OTHER") })) t0
    ≡ Refused (refusal 400 10060 (codes "expected stream does not match"))
unfolding answered advance advance_outs kept trim verdict
stream_first = refl

-- ---- removal

abbrev three : State
three = state_after ((make orders, t0) ∷ (hello, t0) ∷ (hello, t0) ∷ (hello, t0) ∷ [])

purged : reply_to three (Purge inbox [] None (Some 1)) t0 ≡ Purged 2
unfolding answered advance advance_outs kept trim verdict
purged = refl

purged_left : seqs_in (state_after ((make orders, t0) ∷ (hello, t0) ∷ (hello, t0) ∷ (hello, t0) ∷ (Purge inbox (codes "orders.a") (Some 3) None, t0) ∷ [])) ≡ 3 ∷ []
unfolding answered advance advance_outs kept trim verdict
purged_left = refl

deleted : seqs_in (state_after ((make orders, t0) ∷ (hello, t0) ∷ (hello, t0) ∷ (hello, t0) ∷ (Delete inbox 2, t0) ∷ [])) ≡ 1 ∷ 3 ∷ []
unfolding answered advance advance_outs kept trim verdict
deleted = refl

not_stored : reply_to three (Delete inbox 4) t0 ≡ Refused no_message
unfolding answered advance advance_outs kept trim verdict
not_stored = refl
