-- The computed tests decide whether a state is within its bounds and whether its messages can be written.
use Rattle.std.proofs.Common.{ℕ, ◌+◌, ◌^◌, ◌||◌, length, refl}
use Rattle.std.specs.Prelude.{Decides}
use Rattle.std.proofs.lemmas.Bool.{ltb-true, lt-ltb}
use Rattle.js_base.specs.Bytes.{is_empty}
use Rattle.js_base.specs.Headers.{is_block}
use Rattle.js_base.specs.Subjects.{is_subject_text}
use Rattle.js_model.specs.declared.stream.Message.{Message}
use Rattle.js_model.specs.declared.stream.Id.{Id}
use Rattle.js_model.specs.declared.stream.State.{State}
use Rattle.js_model.specs.declared.stream.State.TheVariants.{Vacant, Live}
use Rattle.js_model.specs.declared.consumer.Pending.{Pending}
use Rattle.js_model.specs.declared.consumer.Consumer.{Consumer}
use Rattle.js_model.specs.Configs.{is_number}
use Rattle.model_laws.specs.Bounds.{IsNumber, IsBoundedMessage, IsBoundedId, IsBoundedEntry, IsBoundedConsumer, IsBounded, IsWritableMessage, IsWritable}
use Rattle.model_laws.specs.BoundTests.{is_bounded_message, is_bounded_id, is_bounded_entry, is_bounded_consumer, is_bounded, is_writable_message, is_writable}
use Rattle.model_laws.proofs.SoundTests.{both_decide, same_decides, true_decides, le_decides, all_decide, not_decides}

number_test : (n : ℕ) → Decides (is_number n) (IsNumber n)
number_test n = (ltb-true n (2 ^ 62), lt-ltb n (2 ^ 62))

message_test : (m : Message) → Decides (is_bounded_message m) (IsBoundedMessage m)
message_test m =
    same_decides (λ h. record { seq = h.0; at = h.1 }) (λ k. (k.seq, k.at))
    (both_decide _ _ (number_test m.seq) (number_test m.at))

id_test : (i : Id) → Decides (is_bounded_id i) (IsBoundedId i)
id_test i =
    same_decides (λ h. record { given = h.0.0.0; bytes = h.0.0.1; seq = h.0.1; at = h.1 }) (λ k. (((k.given, k.bytes), k.seq), k.at))
    (both_decide _ _ (both_decide _ _ (both_decide _ _ (not_decides (is_empty i.id)) (le_decides (length i.id) 256)) (number_test i.seq)) (number_test i.at))

entry_test : (p : Pending) → Decides (is_bounded_entry p) (IsBoundedEntry p)
entry_test p =
    same_decides (λ h. record { count = h.0; due = h.1 }) (λ k. (k.count, k.due))
    (both_decide _ _ (number_test p.count) (number_test p.due))

consumer_test : (c : Consumer) → Decides (is_bounded_consumer c) (IsBoundedConsumer c)
consumer_test c =
    same_decides (λ h. record { made = h.0.0.0.0.0.0; cursor = h.0.0.0.0.0.1; dseq = h.0.0.0.0.1; picks = h.0.0.0.1; pending = h.0.0.1; entries = h.0.1; given_up = h.1 }) (λ k. ((((((k.made, k.cursor), k.dseq), k.picks), k.pending), k.entries), k.given_up))
    (both_decide _ _ (both_decide _ _ (both_decide _ _ (both_decide _ _ (both_decide _ _ (both_decide _ _ (number_test c.made) (le_decides (c.cursor) (2 ^ 62))) (number_test c.dseq)) (le_decides (length c.picks) 65536)) (le_decides (length c.pending) 65536)) (all_decide IsBoundedEntry is_bounded_entry entry_test c.pending)) (le_decides (length c.given_up) 65536))

pub bounded_test : (s : State) → Decides (is_bounded s) (IsBounded s)
bounded_test (Vacant i) = number_test i
bounded_test (Live s) =
    same_decides (λ h. record { incarnation = h.0.0.0.0.0.0.0.0.0; made = h.0.0.0.0.0.0.0.0.1; last = h.0.0.0.0.0.0.0.1; moment = h.0.0.0.0.0.0.1; messages = h.0.0.0.0.0.1; each_message = h.0.0.0.0.1; ids = h.0.0.0.1; each_id = h.0.0.1; consumers = h.0.1; each_consumer = h.1 }) (λ k. (((((((((k.incarnation, k.made), k.last), k.moment), k.messages), k.each_message), k.ids), k.each_id), k.consumers), k.each_consumer))
    (both_decide _ _ (both_decide _ _ (both_decide _ _ (both_decide _ _ (both_decide _ _ (both_decide _ _ (both_decide _ _ (both_decide _ _ (both_decide _ _ (number_test s.incarnation) (number_test s.made)) (number_test s.last)) (number_test s.moment)) (le_decides (length s.messages) (2 ^ 24))) (all_decide IsBoundedMessage is_bounded_message message_test s.messages)) (le_decides (length s.ids) (2 ^ 20))) (all_decide IsBoundedId is_bounded_id id_test s.ids)) (le_decides (length s.consumers) 256)) (all_decide IsBoundedConsumer is_bounded_consumer consumer_test s.consumers))

writable_message_test : (m : Message) → Decides (is_writable_message m) (IsWritableMessage m)
writable_message_test m =
    same_decides (λ h. record { subject = h.0.0; headers = h.0.1; bytes = h.1 }) (λ k. ((k.subject, k.headers), k.bytes))
    (both_decide _ _ (both_decide _ _ (true_decides (is_subject_text m.subject)) (true_decides (is_empty m.headers || is_block m.headers))) (le_decides (length m.headers + length m.payload) 1048576))

pub writable_test : (s : State) → Decides (is_writable s) (IsWritable s)
writable_test (Vacant i) = (λ h. tt, λ h. refl)
writable_test (Live s) = all_decide IsWritableMessage is_writable_message writable_message_test s.messages
