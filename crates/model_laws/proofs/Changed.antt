-- The computed test of a change decides it.
use Rattle.std.proofs.Common.{◌≡◌, ℕ, Bool, true, not, List, [], ◌∷◌, map, refl, sym, ap, ◌∙◌, subst}
use Rattle.std.specs.Prelude.{Decides, Option, Some, None, ◌==◌}
use Rattle.std.proofs.lemmas.Bool.{true≢false, eqb-true, eq-eqb, not-true, false_from_ne_true}
use Rattle.std.proofs.lemmas.Slice.Eq.{bytes_eq-Decides}
use Rattle.js_base.specs.Bytes.{Bytes, same}
use Rattle.js_model.specs.declared.stream_config.Retention.{Retention}
use Rattle.js_model.specs.declared.stream_config.Retention.TheVariants.{Limits, Interest, WorkQueue}
use Rattle.js_model.specs.declared.stream_config.Discard.{Discard}
use Rattle.js_model.specs.declared.stream_config.Discard.TheVariants.{Old, New as DiscardNew}
use Rattle.js_model.specs.declared.stream_config.StreamConfig.{StreamConfig}
use Rattle.js_model.specs.declared.consumer_config.AckPolicy.{AckPolicy}
use Rattle.js_model.specs.declared.consumer_config.AckPolicy.TheVariants.{None as NoAck, All as AckAll, Explicit}
use Rattle.js_model.specs.declared.consumer_config.DeliverPolicy.{DeliverPolicy}
use Rattle.js_model.specs.declared.consumer_config.DeliverPolicy.TheVariants.{All as FromAll, Last as FromLast, New as FromNew, ByStartSequence, ByStartTime, LastPerSubject}
use Rattle.js_model.specs.declared.consumer_config.ConsumerConfig.{ConsumerConfig}
use Rattle.js_model.specs.declared.stream.Message.{Message}
use Rattle.js_model.specs.declared.stream.Id.{Id}
use Rattle.js_model.specs.declared.stream.Stream.{Stream}
use Rattle.js_model.specs.declared.stream.State.{State}
use Rattle.js_model.specs.declared.stream.State.TheVariants.{Vacant, Live}
use Rattle.js_model.specs.declared.consumer.Pending.{Pending}
use Rattle.js_model.specs.declared.consumer.Consumer.{Consumer}
use Rattle.js_model.specs.Configs.{same_number, same_texts, same_retention, same_discard, same_ack_policy, same_deliver_policy, same_stream_config, same_consumer_config}
use Rattle.js_model.specs.Lasting.{lasting_consumer}
use Rattle.js_model.specs.Firm.{Changes}
use Rattle.model_laws.specs.Changed.{same_list, same_message, same_id, same_pending, same_consumer, same_stream, changes}
use Rattle.model_laws.proofs.SoundTests.{both_decide, same_decides}

-- ---- numbers, texts, lists

number_decides : (m n : ℕ) → Decides (m == n) (m ≡ n)
number_decides m n = (eqb-true m n, eq-eqb m n)

-- a test that holds of everything and itself, and of nothing else
decides_from : {X : Type 0} (alike : X → X → Bool) (a b : X) → (alike a b ≡ true → a ≡ b) → alike a a ≡ true → Decides (alike a b) (a ≡ b)
decides_from {X} alike a b f e = (f, λ q. subst (λ (x : X). alike a x ≡ true) q e)

option_true : (m n : Option ℕ) → same_number m n ≡ true → m ≡ n
option_true None None e = refl
option_true None (Some n) e = absurd (true≢false (sym e))
option_true (Some m) None e = absurd (true≢false (sym e))
option_true (Some m) (Some n) e = ap Some (eqb-true m n e)

option_self : (m : Option ℕ) → same_number m m ≡ true
option_self None = refl
option_self (Some m) = eq-eqb m m refl

option_decides : (m n : Option ℕ) → Decides (same_number m n) (m ≡ n)
option_decides m n = decides_from same_number m n (option_true m n) (option_self m)

nil_cons : {X : Type 0} {x : X} {xs : List X} → [] ≡ x ∷ xs → ⊥
nil_cons e = cc

cons_same : {X : Type 0} {x y : X} {xs ys : List X} → x ≡ y → xs ≡ ys → (x ∷ xs) ≡ (y ∷ ys)
cons_same e f = cc

cons_parts : {X : Type 0} {x y : X} {xs ys : List X} → (x ∷ xs) ≡ (y ∷ ys) → (x ≡ y) × (xs ≡ ys)
cons_parts e = (cc, cc)

pub list_decides : {X : Type 0} (alike : X → X → Bool) → ((x y : X) → Decides (alike x y) (x ≡ y)) → (xs ys : List X) → Decides (same_list alike xs ys) (xs ≡ ys)
list_decides alike d [] [] = (λ e. refl, λ e. refl)
list_decides alike d [] (y ∷ ys) = (λ e. absurd (true≢false (sym e)), λ e. absurd (nil_cons e))
list_decides alike d (x ∷ xs) [] = (λ e. absurd (true≢false (sym e)), λ e. absurd (nil_cons (sym e)))
list_decides alike d (x ∷ xs) (y ∷ ys) = same_decides (λ h. cons_same h.0 h.1) cons_parts (both_decide (alike x y) (same_list alike xs ys) (d x y) (list_decides alike d xs ys))

texts_decide : (xs ys : List Bytes) → Decides (same_texts xs ys) (xs ≡ ys)
texts_decide [] [] = (λ e. refl, λ e. refl)
texts_decide [] (y ∷ ys) = (λ e. absurd (true≢false (sym e)), λ e. absurd (nil_cons e))
texts_decide (x ∷ xs) [] = (λ e. absurd (true≢false (sym e)), λ e. absurd (nil_cons (sym e)))
texts_decide (x ∷ xs) (y ∷ ys) = same_decides (λ h. cons_same h.0 h.1) cons_parts (both_decide (same x y) (same_texts xs ys) (bytes_eq-Decides x y) (texts_decide xs ys))

-- ---- policies

retention_true : (a b : Retention) → same_retention a b ≡ true → a ≡ b
retention_true Limits Limits e = refl
retention_true Interest Interest e = refl
retention_true WorkQueue WorkQueue e = refl
retention_true _ _ e = absurd (true≢false (sym e))

retention_self : (a : Retention) → same_retention a a ≡ true
retention_self Limits = refl
retention_self Interest = refl
retention_self WorkQueue = refl

discard_true : (a b : Discard) → same_discard a b ≡ true → a ≡ b
discard_true Old Old e = refl
discard_true DiscardNew DiscardNew e = refl
discard_true _ _ e = absurd (true≢false (sym e))

discard_self : (a : Discard) → same_discard a a ≡ true
discard_self Old = refl
discard_self DiscardNew = refl

ack_policy_true : (a b : AckPolicy) → same_ack_policy a b ≡ true → a ≡ b
ack_policy_true NoAck NoAck e = refl
ack_policy_true AckAll AckAll e = refl
ack_policy_true Explicit Explicit e = refl
ack_policy_true _ _ e = absurd (true≢false (sym e))

ack_policy_self : (a : AckPolicy) → same_ack_policy a a ≡ true
ack_policy_self NoAck = refl
ack_policy_self AckAll = refl
ack_policy_self Explicit = refl

deliver_policy_true : (a b : DeliverPolicy) → same_deliver_policy a b ≡ true → a ≡ b
deliver_policy_true FromAll FromAll e = refl
deliver_policy_true FromLast FromLast e = refl
deliver_policy_true FromNew FromNew e = refl
deliver_policy_true (ByStartSequence m) (ByStartSequence n) e = ap ByStartSequence (eqb-true m n e)
deliver_policy_true (ByStartTime m) (ByStartTime n) e = ap ByStartTime (eqb-true m n e)
deliver_policy_true LastPerSubject LastPerSubject e = refl
deliver_policy_true _ _ e = absurd (true≢false (sym e))

deliver_policy_self : (a : DeliverPolicy) → same_deliver_policy a a ≡ true
deliver_policy_self FromAll = refl
deliver_policy_self FromLast = refl
deliver_policy_self FromNew = refl
deliver_policy_self (ByStartSequence n) = eq-eqb n n refl
deliver_policy_self (ByStartTime at) = eq-eqb at at refl
deliver_policy_self LastPerSubject = refl

-- ---- records

abbrev theStreamConfig : StreamConfig → StreamConfig
theStreamConfig x = x

stream_config_from : (a b : StreamConfig) → ((((((((((((a.name ≡ b.name) × (a.description ≡ b.description)) × (a.subjects ≡ b.subjects)) × (a.retention ≡ b.retention)) × (a.discard ≡ b.discard)) × (a.max_msgs ≡ b.max_msgs)) × (a.max_bytes ≡ b.max_bytes)) × (a.max_msgs_per_subject ≡ b.max_msgs_per_subject)) × (a.max_msg_size ≡ b.max_msg_size)) × (a.max_consumers ≡ b.max_consumers)) × (a.max_age ≡ b.max_age)) × (a.duplicate_window ≡ b.duplicate_window)) → a ≡ b
stream_config_from a b h =
    let same : theStreamConfig (record { name = a.name; description = a.description; subjects = a.subjects; retention = a.retention; discard = a.discard; max_msgs = a.max_msgs; max_bytes = a.max_bytes; max_msgs_per_subject = a.max_msgs_per_subject; max_msg_size = a.max_msg_size; max_consumers = a.max_consumers; max_age = a.max_age; duplicate_window = a.duplicate_window }) ≡ b = rw (h.0.0.0.0.0.0.0.0.0.0.0, h.0.0.0.0.0.0.0.0.0.0.1, h.0.0.0.0.0.0.0.0.0.1, h.0.0.0.0.0.0.0.0.1, h.0.0.0.0.0.0.0.1, h.0.0.0.0.0.0.1, h.0.0.0.0.0.1, h.0.0.0.0.1, h.0.0.0.1, h.0.0.1, h.0.1, h.1) refl in same

pub stream_config_decides : (a b : StreamConfig) → Decides (same_stream_config a b) (a ≡ b)
stream_config_decides a b = same_decides (stream_config_from a b) (λ e. (((((((((((ap (λ (z : StreamConfig). z.name) e, ap (λ (z : StreamConfig). z.description) e), ap (λ (z : StreamConfig). z.subjects) e), ap (λ (z : StreamConfig). z.retention) e), ap (λ (z : StreamConfig). z.discard) e), ap (λ (z : StreamConfig). z.max_msgs) e), ap (λ (z : StreamConfig). z.max_bytes) e), ap (λ (z : StreamConfig). z.max_msgs_per_subject) e), ap (λ (z : StreamConfig). z.max_msg_size) e), ap (λ (z : StreamConfig). z.max_consumers) e), ap (λ (z : StreamConfig). z.max_age) e), ap (λ (z : StreamConfig). z.duplicate_window) e)) (both_decide _ _ (both_decide _ _ (both_decide _ _ (both_decide _ _ (both_decide _ _ (both_decide _ _ (both_decide _ _ (both_decide _ _ (both_decide _ _ (both_decide _ _ (both_decide _ _ (bytes_eq-Decides a.name b.name) (bytes_eq-Decides a.description b.description)) (texts_decide a.subjects b.subjects)) (decides_from same_retention a.retention b.retention (retention_true a.retention b.retention) (retention_self a.retention))) (decides_from same_discard a.discard b.discard (discard_true a.discard b.discard) (discard_self a.discard))) (option_decides a.max_msgs b.max_msgs)) (option_decides a.max_bytes b.max_bytes)) (option_decides a.max_msgs_per_subject b.max_msgs_per_subject)) (option_decides a.max_msg_size b.max_msg_size)) (option_decides a.max_consumers b.max_consumers)) (number_decides a.max_age b.max_age)) (number_decides a.duplicate_window b.duplicate_window))

abbrev theConsumerConfig : ConsumerConfig → ConsumerConfig
theConsumerConfig x = x

consumer_config_from : (a b : ConsumerConfig) → ((((((((((((a.name ≡ b.name) × (a.description ≡ b.description)) × (a.deliver_policy ≡ b.deliver_policy)) × (a.ack_policy ≡ b.ack_policy)) × (a.ack_wait ≡ b.ack_wait)) × (a.max_deliver ≡ b.max_deliver)) × (a.max_ack_pending ≡ b.max_ack_pending)) × (a.max_waiting ≡ b.max_waiting)) × (a.filter_subject ≡ b.filter_subject)) × (a.deliver_subject ≡ b.deliver_subject)) × (a.deliver_group ≡ b.deliver_group)) × (a.idle_heartbeat ≡ b.idle_heartbeat)) → a ≡ b
consumer_config_from a b h =
    let same : theConsumerConfig (record { name = a.name; description = a.description; deliver_policy = a.deliver_policy; ack_policy = a.ack_policy; ack_wait = a.ack_wait; max_deliver = a.max_deliver; max_ack_pending = a.max_ack_pending; max_waiting = a.max_waiting; filter_subject = a.filter_subject; deliver_subject = a.deliver_subject; deliver_group = a.deliver_group; idle_heartbeat = a.idle_heartbeat }) ≡ b = rw (h.0.0.0.0.0.0.0.0.0.0.0, h.0.0.0.0.0.0.0.0.0.0.1, h.0.0.0.0.0.0.0.0.0.1, h.0.0.0.0.0.0.0.0.1, h.0.0.0.0.0.0.0.1, h.0.0.0.0.0.0.1, h.0.0.0.0.0.1, h.0.0.0.0.1, h.0.0.0.1, h.0.0.1, h.0.1, h.1) refl in same

pub consumer_config_decides : (a b : ConsumerConfig) → Decides (same_consumer_config a b) (a ≡ b)
consumer_config_decides a b = same_decides (consumer_config_from a b) (λ e. (((((((((((ap (λ (z : ConsumerConfig). z.name) e, ap (λ (z : ConsumerConfig). z.description) e), ap (λ (z : ConsumerConfig). z.deliver_policy) e), ap (λ (z : ConsumerConfig). z.ack_policy) e), ap (λ (z : ConsumerConfig). z.ack_wait) e), ap (λ (z : ConsumerConfig). z.max_deliver) e), ap (λ (z : ConsumerConfig). z.max_ack_pending) e), ap (λ (z : ConsumerConfig). z.max_waiting) e), ap (λ (z : ConsumerConfig). z.filter_subject) e), ap (λ (z : ConsumerConfig). z.deliver_subject) e), ap (λ (z : ConsumerConfig). z.deliver_group) e), ap (λ (z : ConsumerConfig). z.idle_heartbeat) e)) (both_decide _ _ (both_decide _ _ (both_decide _ _ (both_decide _ _ (both_decide _ _ (both_decide _ _ (both_decide _ _ (both_decide _ _ (both_decide _ _ (both_decide _ _ (both_decide _ _ (bytes_eq-Decides a.name b.name) (bytes_eq-Decides a.description b.description)) (decides_from same_deliver_policy a.deliver_policy b.deliver_policy (deliver_policy_true a.deliver_policy b.deliver_policy) (deliver_policy_self a.deliver_policy))) (decides_from same_ack_policy a.ack_policy b.ack_policy (ack_policy_true a.ack_policy b.ack_policy) (ack_policy_self a.ack_policy))) (number_decides a.ack_wait b.ack_wait)) (option_decides a.max_deliver b.max_deliver)) (option_decides a.max_ack_pending b.max_ack_pending)) (number_decides a.max_waiting b.max_waiting)) (bytes_eq-Decides a.filter_subject b.filter_subject)) (bytes_eq-Decides a.deliver_subject b.deliver_subject)) (bytes_eq-Decides a.deliver_group b.deliver_group)) (number_decides a.idle_heartbeat b.idle_heartbeat))

abbrev theMessage : Message → Message
theMessage x = x

message_from : (a b : Message) → (((((a.seq ≡ b.seq) × (a.at ≡ b.at)) × (a.subject ≡ b.subject)) × (a.headers ≡ b.headers)) × (a.payload ≡ b.payload)) → a ≡ b
message_from a b h =
    let same : theMessage (record { seq = a.seq; at = a.at; subject = a.subject; headers = a.headers; payload = a.payload }) ≡ b = rw (h.0.0.0.0, h.0.0.0.1, h.0.0.1, h.0.1, h.1) refl in same

pub message_decides : (a b : Message) → Decides (same_message a b) (a ≡ b)
message_decides a b = same_decides (message_from a b) (λ e. ((((ap (λ (z : Message). z.seq) e, ap (λ (z : Message). z.at) e), ap (λ (z : Message). z.subject) e), ap (λ (z : Message). z.headers) e), ap (λ (z : Message). z.payload) e)) (both_decide _ _ (both_decide _ _ (both_decide _ _ (both_decide _ _ (number_decides a.seq b.seq) (number_decides a.at b.at)) (bytes_eq-Decides a.subject b.subject)) (bytes_eq-Decides a.headers b.headers)) (bytes_eq-Decides a.payload b.payload))

abbrev theId : Id → Id
theId x = x

id_from : (a b : Id) → (((a.id ≡ b.id) × (a.seq ≡ b.seq)) × (a.at ≡ b.at)) → a ≡ b
id_from a b h =
    let same : theId (record { id = a.id; seq = a.seq; at = a.at }) ≡ b = rw (h.0.0, h.0.1, h.1) refl in same

pub id_decides : (a b : Id) → Decides (same_id a b) (a ≡ b)
id_decides a b = same_decides (id_from a b) (λ e. ((ap (λ (z : Id). z.id) e, ap (λ (z : Id). z.seq) e), ap (λ (z : Id). z.at) e)) (both_decide _ _ (both_decide _ _ (bytes_eq-Decides a.id b.id) (number_decides a.seq b.seq)) (number_decides a.at b.at))

abbrev thePending : Pending → Pending
thePending x = x

pending_from : (a b : Pending) → (((a.seq ≡ b.seq) × (a.count ≡ b.count)) × (a.due ≡ b.due)) → a ≡ b
pending_from a b h =
    let same : thePending (record { seq = a.seq; count = a.count; due = a.due }) ≡ b = rw (h.0.0, h.0.1, h.1) refl in same

pub pending_decides : (a b : Pending) → Decides (same_pending a b) (a ≡ b)
pending_decides a b = same_decides (pending_from a b) (λ e. ((ap (λ (z : Pending). z.seq) e, ap (λ (z : Pending). z.count) e), ap (λ (z : Pending). z.due) e)) (both_decide _ _ (both_decide _ _ (number_decides a.seq b.seq) (number_decides a.count b.count)) (number_decides a.due b.due))

abbrev theConsumer : Consumer → Consumer
theConsumer c = c

-- what outlives a crash of two consumers is the same
lasting_from : (a b : Consumer) → ((((((((a.name ≡ b.name) × (a.made ≡ b.made)) × (a.config ≡ b.config)) × (a.picks ≡ b.picks)) × (a.cursor ≡ b.cursor)) × (a.dseq ≡ b.dseq)) × (a.pending ≡ b.pending)) × (a.given_up ≡ b.given_up)) → lasting_consumer a ≡ lasting_consumer b
lasting_from a b h =
    let same : theConsumer (record { name = a.name; made = a.made; config = a.config; picks = a.picks; cursor = a.cursor; dseq = a.dseq; pending = a.pending; given_up = a.given_up; waiting = []; mark = a.made }) ≡ lasting_consumer b = rw (h.0.0.0.0.0.0.0, h.0.0.0.0.0.0.1, h.0.0.0.0.0.1, h.0.0.0.0.1, h.0.0.0.1, h.0.0.1, h.0.1, h.1) refl in same

pub lasting_decides : (a b : Consumer) → Decides (same_consumer a b) (lasting_consumer a ≡ lasting_consumer b)
lasting_decides a b = same_decides (lasting_from a b) (λ e. (((((((ap (λ (z : Consumer). z.name) e, ap (λ (z : Consumer). z.made) e), ap (λ (z : Consumer). z.config) e), ap (λ (z : Consumer). z.picks) e), ap (λ (z : Consumer). z.cursor) e), ap (λ (z : Consumer). z.dseq) e), ap (λ (z : Consumer). z.pending) e), ap (λ (z : Consumer). z.given_up) e)) (both_decide _ _ (both_decide _ _ (both_decide _ _ (both_decide _ _ (both_decide _ _ (both_decide _ _ (both_decide _ _ (bytes_eq-Decides a.name b.name) (number_decides a.made b.made)) (consumer_config_decides a.config b.config)) (bytes_eq-Decides a.picks b.picks)) (number_decides a.cursor b.cursor)) (number_decides a.dseq b.dseq)) (list_decides same_pending pending_decides a.pending b.pending)) (bytes_eq-Decides a.given_up b.given_up))

consumers_decide : (xs ys : List Consumer) → Decides (same_list same_consumer xs ys) (map lasting_consumer xs ≡ map lasting_consumer ys)
consumers_decide [] [] = (λ e. refl, λ e. refl)
consumers_decide [] (y ∷ ys) = (λ e. absurd (true≢false (sym e)), λ e. absurd (nil_cons e))
consumers_decide (x ∷ xs) [] = (λ e. absurd (true≢false (sym e)), λ e. absurd (nil_cons (sym e)))
consumers_decide (x ∷ xs) (y ∷ ys) = same_decides (λ h. cons_same h.0 h.1) cons_parts (both_decide (same_consumer x y) (same_list same_consumer xs ys) (lasting_decides x y) (consumers_decide xs ys))

abbrev theStream : Stream → Stream
theStream s = s

abbrev lasting_stream : Stream → Stream
lasting_stream s = record s { consumers = map lasting_consumer s.consumers }

stream_from : (a b : Stream) → (((((((a.incarnation ≡ b.incarnation) × (a.made ≡ b.made)) × (a.config ≡ b.config)) × (a.messages ≡ b.messages)) × (a.last ≡ b.last)) × (a.ids ≡ b.ids)) × (map lasting_consumer a.consumers ≡ map lasting_consumer b.consumers)) → record (lasting_stream a) { moment = b.moment } ≡ lasting_stream b
stream_from a b h =
    let same : theStream (record { incarnation = a.incarnation; made = a.made; config = a.config; messages = a.messages; last = a.last; ids = a.ids; consumers = map lasting_consumer a.consumers; moment = b.moment }) ≡ lasting_stream b = rw (h.0.0.0.0.0.0, h.0.0.0.0.0.1, h.0.0.0.0.1, h.0.0.0.1, h.0.0.1, h.0.1, h.1) refl in same

stream_decides : (a b : Stream) → Decides (same_stream a b) (record (lasting_stream a) { moment = b.moment } ≡ lasting_stream b)
stream_decides a b = same_decides (stream_from a b) (λ e. ((((((ap (λ (z : Stream). z.incarnation) e, ap (λ (z : Stream). z.made) e), ap (λ (z : Stream). z.config) e), ap (λ (z : Stream). z.messages) e), ap (λ (z : Stream). z.last) e), ap (λ (z : Stream). z.ids) e), ap (λ (z : Stream). z.consumers) e)) (both_decide _ _ (both_decide _ _ (both_decide _ _ (both_decide _ _ (both_decide _ _ (both_decide _ _ (number_decides a.incarnation b.incarnation) (number_decides a.made b.made)) (stream_config_decides a.config b.config)) (list_decides same_message message_decides a.messages b.messages)) (number_decides a.last b.last)) (list_decides same_id id_decides a.ids b.ids)) (consumers_decide a.consumers b.consumers))

-- ---- states

unlike : {A B : Type 0} {a : Bool} → Decides a A → (A → B) → (B → A) → Decides (not a) (B → ⊥)
unlike {a = a} d f g = (λ e q. true≢false (sym (d.1 (g q)) ∙ not-true a e), λ h. ap not (false_from_ne_true a (λ q. h (f (d.0 q)))))

vacant_live : {i : ℕ} {s : Stream} → Vacant i ≡ Live s → ⊥
vacant_live e = cc

vacant_is : {i j : ℕ} → Vacant i ≡ Vacant j → i ≡ j
vacant_is e = cc

live_is : {s t : Stream} → Live s ≡ Live t → s ≡ t
live_is e = cc

pub changes_test : (old new : State) → Decides (changes old new) (Changes old new)
changes_test (Vacant i) (Vacant j) = unlike (number_decides i j) (ap Vacant) vacant_is
changes_test (Vacant i) (Live t) = (λ e. vacant_live, λ h. refl)
changes_test (Live s) (Vacant j) = (λ e q. vacant_live (sym q), λ h. refl)
changes_test (Live s) (Live t) = unlike (stream_decides s t) (ap Live) live_is
