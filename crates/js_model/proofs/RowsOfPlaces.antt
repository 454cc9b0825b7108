-- Worked rows of places: each event without a stream, and what comes at the end of the numbers.
use Rattle.std.specs.Prelude.{ℕ, ◌≡◌, false, true, List, [], ◌∷◌, Some, None, codes, refl}
use Rattle.js_model.specs.declared.stream.State.{State}
use Rattle.js_model.specs.declared.stream.State.TheVariants.{Vacant, Live}
use Rattle.js_model.specs.declared.ack.AckKind.TheVariants.{Ack as Acknowledge}
use Rattle.js_model.specs.declared.event.GetBy.TheVariants.{Seq}
use Rattle.js_model.specs.declared.event.What.{What}
use Rattle.js_model.specs.declared.event.What.TheVariants.{Change, Drop as DropStream, Purge, Delete, DropConsumer, Tick, StreamInfo as AskStream, MessageGet, ConsumerInfo as AskConsumer, ConsumerNames, ConsumerList}
use Rattle.js_model.specs.declared.reply.Reply.{Reply}
use Rattle.js_model.specs.declared.reply.Reply.TheVariants.{Info as StreamTold, Published, Silent, Refused}
use Rattle.js_model.specs.Refusals.{refusal}
use Rattle.js_model.specs.Advance.{advance, advance_outs}
use Rattle.js_model.specs.Retention.{kept}
use Rattle.js_model.specs.Trim.{trim}
use Rattle.js_model.specs.Verdict.{verdict}
use Rattle.js_model.specs.Deliver.{candidates}
use Rattle.js_model.specs.Ready.{some_ready}
use Rattle.js_model.specs.Events.{Answer, answered}
use Rattle.js_model.proofs.Samples.{t0, orders, worker, make, publish, hello, make_consumer, ask_of, pull, ack, event, after, reply_to, inbox, wants_nothing}

-- ---- without a stream

-- the third stream of the place was dropped
abbrev answer_to : What → Answer
answer_to what = answered (Vacant 3) (event what) t0 true

-- the refusal; nothing is sent, and the place keeps its number
abbrev not_found : Answer
not_found = record { reply = Refused (refusal 404 10059 (codes "stream not found")); outs = []; state = Vacant 3 }

change : answer_to (Change inbox orders) ≡ not_found
unfolding answered
change = refl

drop : answer_to (DropStream inbox) ≡ not_found
unfolding answered
drop = refl

message : answer_to hello ≡ not_found
unfolding answered
message = refl

-- a publish that itself asks for what cannot be
impossible : answer_to (publish (codes "orders.a") [] (record wants_nothing { stream = Some (codes "OTHER"); last = Some 7 })) ≡ not_found
unfolding answered
impossible = refl

purge : answer_to (Purge inbox [] None None) ≡ not_found
unfolding answered
purge = refl

delete : answer_to (Delete inbox 1) ≡ not_found
unfolding answered
delete = refl

consumer : answer_to (make_consumer worker) ≡ not_found
unfolding answered
consumer = refl

drop_consumer : answer_to (DropConsumer inbox (codes "W")) ≡ not_found
unfolding answered
drop_consumer = refl

acknowledge : answer_to (ack 1 Acknowledge) ≡ not_found
unfolding answered
acknowledge = refl

asking : answer_to (pull (ask_of 1)) ≡ not_found
unfolding answered
asking = refl

stream_info : answer_to (AskStream inbox) ≡ not_found
unfolding answered
stream_info = refl

get : answer_to (MessageGet inbox (Seq 1)) ≡ not_found
unfolding answered
get = refl

consumer_info : answer_to (AskConsumer inbox (codes "W")) ≡ not_found
unfolding answered
consumer_info = refl

consumer_names : answer_to (ConsumerNames inbox 0) ≡ not_found
unfolding answered
consumer_names = refl

consumer_list : answer_to (ConsumerList inbox 0) ≡ not_found
unfolding answered
consumer_list = refl

-- a tick answers nothing and changes nothing
tick : answer_to Tick ≡ record { reply = Silent; outs = []; state = Vacant 3 }
unfolding answered
tick = refl

-- a stream is made, the fourth of the place
making : answer_to (make orders)
    ≡ record {
      reply = StreamTold (record { config = orders; made = t0; messages = 0; bytes = 0; first_seq = 0; first_at = None; last_seq = 0; last_at = None; consumers = 0 });
      outs = [];
      state = Live (record { incarnation = 4; made = t0; config = orders; messages = []; last = 0; moment = t0; ids = []; consumers = [] });
    }
unfolding answered advance advance_outs kept trim verdict
making = refl

-- ---- the end of the numbers, 2^62 - 1

-- a stream without messages whose last sequence was this
abbrev at_last : ℕ → State
at_last n = Live (record { incarnation = 1; made = t0; config = orders; messages = []; last = n; moment = t0; ids = []; consumers = [] })

-- the last sequence is given
last_sequence : reply_to (at_last 4611686018427387902) hello t0 ≡ Published 4611686018427387903
unfolding answered advance advance_outs kept trim verdict
last_sequence = refl

-- and none after it
no_sequence : reply_to (at_last 4611686018427387903) hello t0 ≡ Refused (refusal 503 20008 (codes "number range used up"))
unfolding answered advance advance_outs kept trim verdict
no_sequence = refl

no_sequence_leaves : after (at_last 4611686018427387903) (hello, t0) ≡ at_last 4611686018427387903
unfolding answered advance advance_outs kept trim verdict
no_sequence_leaves = refl

-- what it expects is told first
expected_first : reply_to (at_last 4611686018427387903) (publish (codes "orders.a") [] (record wants_nothing { last_id = Some (codes "k") })) t0
    ≡ Refused (refusal 400 10070 (codes "wrong last msg ID"))
unfolding answered advance advance_outs kept trim verdict
expected_first = refl

-- and it is told before the want of room
before_room : (answered (at_last 4611686018427387903) (event hello) t0 false).reply ≡ Refused (refusal 503 20008 (codes "number range used up"))
unfolding answered advance advance_outs kept trim verdict
before_room = refl

no_room_left : (answered (at_last 4611686018427387902) (event hello) t0 false).reply ≡ Refused (refusal 503 20016 (codes "no room"))
unfolding answered advance advance_outs kept trim verdict
no_room_left = refl

-- the last stream of a place is made
abbrev incarnation_of : State → List ℕ
incarnation_of (Vacant i) = []
incarnation_of (Live s) = s.incarnation ∷ []

last_stream : incarnation_of (after (Vacant 4611686018427387902) (make orders, t0)) ≡ 4611686018427387903 ∷ []
unfolding answered advance advance_outs kept trim verdict
last_stream = refl

-- and none after it: the place stays as it is
no_stream_leaves : after (Vacant 4611686018427387903) (make orders, t0) ≡ Vacant 4611686018427387903
unfolding answered advance advance_outs kept trim verdict
no_stream_leaves = refl

-- ---- a consumer's own numbers

-- one message, and a push consumer whose last consumer sequence was this
abbrev at_consumer_sequence : ℕ → State
at_consumer_sequence n = Live (record {
  incarnation = 1;
  made = t0;
  config = orders;
  messages = record { seq = 1; at = t0; subject = codes "orders.a"; headers = []; payload = [] } ∷ [];
  last = 1;
  moment = t0;
  ids = [];
  consumers = record {
    name = codes "W";
    made = t0;
    config = record worker { deliver_subject = codes "D" };
    picks = [];
    cursor = 1;
    dseq = n;
    pending = [];
    given_up = [];
    waiting = [];
    mark = t0;
  } ∷ [];
})

-- its last number is given
last_delivery : some_ready (at_consumer_sequence 4611686018427387902) t0 (codes "W" ∷ []) ≡ true
unfolding advance candidates
last_delivery = refl

-- and it has nothing to deliver after that
no_delivery : some_ready (at_consumer_sequence 4611686018427387903) t0 (codes "W" ∷ []) ≡ false
unfolding advance candidates
no_delivery = refl

-- ---- without room

-- a stream without messages and consumers
abbrev stream_of_orders : State
stream_of_orders = at_last 0

abbrev without_room : What → Reply
without_room what = (answered stream_of_orders (event what) t0 false).reply

abbrev refused : Reply
refused = Refused (refusal 503 20016 (codes "no room"))

no_stream_made : answered (Vacant 3) (event (make orders)) t0 false ≡ record { reply = refused; outs = []; state = Vacant 3 }
unfolding answered
no_stream_made = refl

-- that the numbers are used up is told first
used_up_first : (answered (Vacant 4611686018427387903) (event (make orders)) t0 false).reply ≡ Refused (refusal 503 20008 (codes "number range used up"))
unfolding answered
used_up_first = refl

no_consumer_made : answered stream_of_orders (event (make_consumer worker)) t0 false ≡ record { reply = refused; outs = []; state = stream_of_orders }
unfolding answered advance advance_outs kept trim
no_consumer_made = refl

-- one that is there is told
consumer_stands : (answered (at_consumer_sequence 0) (event (make_consumer (record worker { deliver_subject = codes "D" }))) t0 false).reply
    ≡ (answered (at_consumer_sequence 0) (event (make_consumer (record worker { deliver_subject = codes "D" }))) t0 true).reply
unfolding answered advance advance_outs kept trim
consumer_stands = refl

no_other_config : answered stream_of_orders (event (Change inbox (record orders { max_msgs = Some 5 }))) t0 false ≡ record { reply = refused; outs = []; state = stream_of_orders }
unfolding answered advance advance_outs kept trim
no_other_config = refl

-- the configuration that stands is told, and so is a stream that is made again
same_config : without_room (Change inbox orders) ≡ (answered stream_of_orders (event (Change inbox orders)) t0 true).reply
unfolding answered advance advance_outs kept trim
same_config = refl

made_again : without_room (make orders) ≡ (answered stream_of_orders (event (make orders)) t0 true).reply
unfolding answered advance advance_outs kept trim
made_again = refl
