-- Worked rows of consumer configurations that there are and that there are not, and of events that make a consumer as a reader gives them or not.
use Rattle.std.specs.Prelude.{◌≡◌, ◌+◌, ◌^◌, true, false, [], ◌∷◌, Some, None, codes, refl}
use Rattle.std.specs.Str.{is_utf8, chars}
use lib.Utf8.{encode}
use Rattle.js_model.specs.declared.consumer_config.DeliverPolicy.TheVariants.{ByStartSequence, ByStartTime}
use Rattle.js_model.specs.declared.event.What.TheVariants.{MakeConsumer}
use Rattle.js_model.specs.Configs.{is_consumer_config}
use Rattle.js_model.specs.Proper.{is_proper}
use Rattle.js_model.proofs.Samples.{worker, make_consumer, event, inbox}

-- ---- configurations that there are

worker_is : is_consumer_config worker ≡ true
unfolding is_utf8 chars encode
worker_is = refl

-- as many pulls as may wait
most_pulls : is_consumer_config (record worker { max_waiting = 65536 }) ≡ true
unfolding is_utf8 chars encode
most_pulls = refl

-- as many entries as may wait, and one delivery of each message
most_entries : is_consumer_config (record worker { max_ack_pending = Some 65536; max_deliver = Some 1 }) ≡ true
unfolding is_utf8 chars encode
most_entries = refl

-- no limits
no_limits : is_consumer_config (record worker { max_ack_pending = None; max_deliver = None }) ≡ true
unfolding is_utf8 chars encode
no_limits = refl

filtered : is_consumer_config (record worker { filter_subject = codes "orders.>" }) ≡ true
unfolding is_utf8 chars encode
filtered = refl

-- a push consumer with a queue name and a heartbeat
pusher : is_consumer_config (record worker { deliver_subject = codes "D"; deliver_group = codes "g"; idle_heartbeat = 1000000000 }) ≡ true
unfolding is_utf8 chars encode
pusher = refl

from_a_sequence : is_consumer_config (record worker { deliver_policy = ByStartSequence 1 }) ≡ true
unfolding is_utf8 chars encode
from_a_sequence = refl

from_a_moment : is_consumer_config (record worker { deliver_policy = ByStartTime 0 }) ≡ true
unfolding is_utf8 chars encode
from_a_moment = refl

-- ---- configurations that there are not

no_name : is_consumer_config (record worker { name = [] }) ≡ false
unfolding is_utf8 chars encode
no_name = refl

-- a dot stands in no name
bad_name : is_consumer_config (record worker { name = codes "a.b" }) ≡ false
unfolding is_utf8 chars encode
bad_name = refl

-- a description is UTF-8
bad_description : is_consumer_config (record worker { description = 255 ∷ [] }) ≡ false
unfolding is_utf8 chars encode
bad_description = refl

-- sequences begin at 1
from_no_sequence : is_consumer_config (record worker { deliver_policy = ByStartSequence 0 }) ≡ false
unfolding is_utf8 chars encode
from_no_sequence = refl

-- moments are below 2^62
from_too_late : is_consumer_config (record worker { deliver_policy = ByStartTime (2 ^ 62) }) ≡ false
unfolding is_utf8 chars encode
from_too_late = refl

no_ack_wait : is_consumer_config (record worker { ack_wait = 0 }) ≡ false
unfolding is_utf8 chars encode
no_ack_wait = refl

long_ack_wait : is_consumer_config (record worker { ack_wait = 2 ^ 62 }) ≡ false
unfolding is_utf8 chars encode
long_ack_wait = refl

never_delivered : is_consumer_config (record worker { max_deliver = Some 0 }) ≡ false
unfolding is_utf8 chars encode
never_delivered = refl

no_entries : is_consumer_config (record worker { max_ack_pending = Some 0 }) ≡ false
unfolding is_utf8 chars encode
no_entries = refl

too_many_entries : is_consumer_config (record worker { max_ack_pending = Some 65537 }) ≡ false
unfolding is_utf8 chars encode
too_many_entries = refl

no_pulls : is_consumer_config (record worker { max_waiting = 0 }) ≡ false
unfolding is_utf8 chars encode
no_pulls = refl

too_many_pulls : is_consumer_config (record worker { max_waiting = 65537 }) ≡ false
unfolding is_utf8 chars encode
too_many_pulls = refl

-- a token is empty
bad_filter : is_consumer_config (record worker { filter_subject = codes "orders..a" }) ≡ false
unfolding is_utf8 chars encode
bad_filter = refl

-- a deliver subject has no wildcard
bad_deliver_subject : is_consumer_config (record worker { deliver_subject = codes "D.*" }) ≡ false
unfolding is_utf8 chars encode
bad_deliver_subject = refl

-- nor is it one of the server's own
own_deliver_subject : is_consumer_config (record worker { deliver_subject = codes "$JS.D" }) ≡ false
unfolding is_utf8 chars encode
own_deliver_subject = refl

-- a queue name is for push consumers
group_of_pulls : is_consumer_config (record worker { deliver_group = codes "g" }) ≡ false
unfolding is_utf8 chars encode
group_of_pulls = refl

-- and has no blank
bad_group : is_consumer_config (record worker { deliver_subject = codes "D"; deliver_group = codes "a b" }) ≡ false
unfolding is_utf8 chars encode
bad_group = refl

-- a heartbeat is for push consumers
heartbeat_of_pulls : is_consumer_config (record worker { idle_heartbeat = 1000000000 }) ≡ false
unfolding is_utf8 chars encode
heartbeat_of_pulls = refl

long_heartbeat : is_consumer_config (record worker { deliver_subject = codes "D"; idle_heartbeat = 2 ^ 62 }) ≡ false
unfolding is_utf8 chars encode
long_heartbeat = refl

-- ---- events

made : is_proper (event (make_consumer worker)) ≡ true
unfolding is_utf8 chars encode
made = refl

updated : is_proper (event (MakeConsumer inbox (codes "W") worker true)) ≡ true
unfolding is_utf8 chars encode
updated = refl

unanswered : is_proper (event (MakeConsumer None (codes "W") worker false)) ≡ true
unfolding is_utf8 chars encode
unanswered = refl

-- the name that is asked for is another one than that of the configuration
other_name : is_proper (event (MakeConsumer inbox (codes "V") worker false)) ≡ false
unfolding is_utf8 chars encode
other_name = refl

-- it is no name, in both places
no_name_made : is_proper (event (make_consumer (record worker { name = codes "a.b" }))) ≡ false
unfolding is_utf8 chars encode
no_name_made = refl

-- the configuration is none
bad_config_made : is_proper (event (make_consumer (record worker { max_waiting = 65537 }))) ≡ false
unfolding is_utf8 chars encode
bad_config_made = refl

-- the answer would go to a pattern
bad_reply : is_proper (event (MakeConsumer (Some (codes "_I.*")) (codes "W") worker false)) ≡ false
unfolding is_utf8 chars encode
bad_reply = refl

-- it names the last incarnation that there may be, and one more
last_incarnation : is_proper (record { incarnation = 2 ^ 62; what = make_consumer worker }) ≡ true
unfolding is_utf8 chars encode
last_incarnation = refl

past_the_last : is_proper (record { incarnation = 2 ^ 62 + 1; what = make_consumer worker }) ≡ false
unfolding is_utf8 chars encode
past_the_last = refl
