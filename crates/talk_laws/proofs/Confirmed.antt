-- A sequence whose acknowledgement was confirmed is not sent again, whether its entry still stood by then or not.
use Rattle.std.proofs.Common.{◌≡◌, ℕ, Bool, true, false, not, ◌||◌, List, [], ◌∷◌, filter, Option, Some, None, refl, sym, ap, subst, ◌∙◌, if◌then◌else◌, arith}
use Rattle.std.specs.Prelude.{nat_le, ◌==◌}
use Rattle.std.proofs.lemmas.Bool.{true≢false, or_parts, leb-false}
use Rattle.std.proofs.lemmas.Bool.Decides.{nat_tests}
use Rattle.js_base.specs.Bytes.{Bytes, has}
use Rattle.js_base.specs.declared.out.Out.{Out}
use Rattle.js_model.specs.Lists.{Lacks}
use Rattle.js_model.specs.declared.stream.Stream.{Stream}
use Rattle.js_model.specs.declared.stream.State.{State}
use Rattle.js_model.specs.declared.stream.State.TheVariants.{Vacant, Live}
use Rattle.js_model.specs.declared.consumer.Consumer.{Consumer}
use Rattle.js_model.specs.declared.consumer.Pending.{Pending}
use Rattle.js_model.specs.declared.consumer_config.AckPolicy.{AckPolicy}
use Rattle.js_model.specs.declared.consumer_config.AckPolicy.TheVariants.{None as NoAck, All as AckAll, Explicit}
use Rattle.js_model.specs.declared.ack.Ack.{Ack}
use Rattle.js_model.specs.declared.ack.AckKind.{AckKind}
use Rattle.js_model.specs.declared.ack.AckKind.TheVariants.{Ack as Acknowledge, Nak, Wpi, Next, Term}
use Rattle.js_model.specs.declared.event.Event.{Event}
use Rattle.js_model.specs.declared.event.What.{What}
use Rattle.js_model.specs.declared.event.What.TheVariants as whats
use Rattle.js_model.specs.declared.reply.Answer.{Answer}
use Rattle.js_model.specs.declared.reply.Reply.TheVariants.{Confirmed, Silent, Refused}
use Rattle.js_model.specs.Acknowledge.{ends, is_no_delivery}
use Rattle.js_model.specs.Advance.{advance, advance_outs}
use Rattle.js_model.specs.Events.{ack_answer, ack_done, after_ack, answered, completed, quietly, settled_state, stream_answer, vacant_answer, IsEvent}
use Rattle.js_model.specs.Refusals.{no_stream}
use Rattle.js_model.specs.Streams.{by_name, is_unacknowledged, with_consumer}
use Rattle.js_model.proofs.Lacking.{lacks-cons, lacks-nil}
use Rattle.js_model.proofs.Named.{found_named, stands-at}
use Rattle.model_laws.specs.OneConsumer.{drops}
use Rattle.model_laws.proofs.Acked.{never_sent}
use Rattle.model_laws.proofs.ConsumerFacts.{InState, InStream, after_ack-name, in_replaced, in_stream_fact}
use Rattle.model_laws.proofs.Facts.{at_settled}
use Rattle.model_laws.proofs.Settled.{IsPassed, IsSettled, passed_kept, settled_kept}
use Rattle.js_api.specs.Machines.{LawRuns}
use Rattle.talk_laws.specs.Confirming.{is_final, LawTalkConfirmed}
use Rattle.talk_laws.proofs.EachPart.{in_each_talk, step_of}
use Rattle.talk_laws.proofs.TalkLaws.{count_after}

-- ---- what the confirmation tells

-- the consumer is there, the sequence was delivered to it, and this is left
record IsTaken (a : Stream) (to : Option Bytes) (ack : Ack) (new : State) : Type 0 where
  consumer : Consumer
  found : by_name a.consumers ack.consumer ≡ Some consumer
  delivered : is_no_delivery consumer ack.seq ≡ false
  new_is : settled_state (Live (with_consumer a (after_ack a.moment to ack.seq ack.kind consumer))) ≡ new

abbrev told : List Out → State → Answer
told outs new = record { reply = Confirmed; outs = outs; state = new }

from_answer : (a : Stream) (to : Option Bytes) (ack : Ack) (os outs : List Out) (new : State) (found : Option Consumer) → by_name a.consumers ack.consumer ≡ found
    → completed os (ack_answer a to ack.seq ack.kind found) ≡ told outs new → IsTaken a to ack new
from_answer a to ack os outs new None e h = absurd (let no : Silent ≡ Confirmed = ap (λ (x : Answer). x.reply) h in cc)
from_answer a to ack os outs new (Some c) e h = by (is_no_delivery c ack.seq) refl h
  where
    by : (b : Bool) → is_no_delivery c ack.seq ≡ b → completed os (if b then quietly Silent a else ack_done a to ack.seq ack.kind c) ≡ told outs new → IsTaken a to ack new
    by true q h = absurd (let no : Silent ≡ Confirmed = ap (λ (x : Answer). x.reply) h in cc)
    by false q h = record { consumer = c; found = e; delivered = q; new_is = ap (λ (x : Answer). x.state) h }

taken : (s : Stream) (e : Event) (now : ℕ) (outs : List Out) (new : State) (to : Option Bytes) (ack : Ack) → IsEvent (Live s) e now Confirmed outs new → e.what ≡ whats.Ack to ack → IsTaken (advance s now) to ack new
unfolding answered
taken s e now outs new to ack x is =
    from_answer (advance s now) to ack (advance_outs s now) outs new (by_name (advance s now).consumers ack.consumer) refl
    (subst (λ (w : What). completed (advance_outs s now) (stream_answer (advance s now) w x.room) ≡ told outs new) is x.answers)

none_there : (i : ℕ) (e : Event) (now : ℕ) (outs : List Out) (new : State) (to : Option Bytes) (ack : Ack) → IsEvent (Vacant i) e now Confirmed outs new → e.what ≡ whats.Ack to ack → ⊥
unfolding answered
none_there i e now outs new to ack x is =
    let h = subst (λ (w : What). completed [] (vacant_answer i w now x.room) ≡ told outs new) is x.answers in
    let no : Refused no_stream ≡ Confirmed = ap (λ (y : Answer). y.reply) h in cc

-- ---- the consumer that is left

itself : (n : ℕ) → (n == n) ≡ true
itself n = grind (arith, nat_tests)

itself_or_below : (n : ℕ) → nat_le n n ≡ true
itself_or_below n = grind (arith, nat_tests)

ends_itself : (policy : AckPolicy) (n : ℕ) → ends policy n n ≡ true
ends_itself NoAck n = itself n
ends_itself AckAll n = itself_or_below n
ends_itself Explicit n = itself n

other_than : (m n : ℕ) (ended : ℕ → Bool) → ended n ≡ true → ended m ≡ false → (m == n) ≡ false
other_than m n ended its spared = by (m == n) refl
  where
    by : (b : Bool) → (m == n) ≡ b → (m == n) ≡ false
    by true e = let same : m ≡ n = grind (arith, nat_tests, e) in absurd (true≢false (sym its ∙ subst (λ (k : ℕ). ended k ≡ false) same spared))
    by false e = e

-- what ended is not pending
lacks_ended : (ended : ℕ → Bool) (n : ℕ) → ended n ≡ true → (ps : List Pending) → Lacks (λ p. p.seq == n) (filter (λ p. not (ended p.seq)) ps)
lacks_ended ended n its [] = lacks-nil
lacks_ended ended n its (p ∷ ps) = by (ended p.seq) refl (lacks_ended ended n its ps)
  where
    by : (b : Bool) → ended p.seq ≡ b → Lacks (λ p. p.seq == n) (filter (λ p. not (ended p.seq)) ps) → Lacks (λ p. p.seq == n) (if not b then p ∷ filter (λ p. not (ended p.seq)) ps else filter (λ p. not (ended p.seq)) ps)
    by true e rest = rest
    by false e rest = lacks-cons (other_than p.seq n ended its e) rest

passed : (c : Consumer) (n : ℕ) → is_no_delivery c n ≡ false → IsPassed n c
passed c n e =
    let some = or_parts (n == 0) (has c.picks n || (nat_le c.cursor n || is_unacknowledged c)) e in
    let picks = or_parts (has c.picks n) (nat_le c.cursor n || is_unacknowledged c) some.1 in
    let below = or_parts (nat_le c.cursor n) (is_unacknowledged c) picks.1 in
    record { picks = record { none = picks.0 }; below = leb-false c.cursor n below.0 }

settled_now : (now : ℕ) (to : Option Bytes) (n : ℕ) (kind : AckKind) (c : Consumer) → is_final kind ≡ true → IsPassed n c → IsSettled n (after_ack now to n kind c)
settled_now now to n Acknowledge c final p = record { passed = (passed_kept n).acknowledged now n Acknowledge c p; pending = lacks_ended (ends c.config.ack_policy n) n (ends_itself c.config.ack_policy n) c.pending }
settled_now now to n (Nak delay) c final p = absurd (true≢false (sym final))
settled_now now to n Wpi c final p = absurd (true≢false (sym final))
settled_now now to n (Next ask) c final p = absurd (true≢false (sym final))
settled_now now to n Term c final p = record { passed = (passed_kept n).acknowledged now n Term c p; pending = lacks_ended (λ m. m == n) n (itself n) c.pending }

settled_after : (a : Stream) (to : Option Bytes) (ack : Ack) (new : State) → is_final ack.kind ≡ true → IsTaken a to ack new → InState ack.consumer (IsSettled ack.seq) new
settled_after a to ack new final t =
    let c = t.consumer in
    let after = after_ack a.moment to ack.seq ack.kind c in
    let p = passed c ack.seq t.delivered in
    let named : after.name ≡ ack.consumer = after_ack-name a.moment to ack.seq ack.kind c ∙ found_named a.consumers ack.consumer c t.found in
    let there : InStream ack.consumer (IsPassed ack.seq) a = stands-at c t.found p in
    let left : InStream ack.consumer (IsSettled ack.seq) (with_consumer a after) =
    in_replaced ack.consumer (IsPassed ack.seq) (IsSettled ack.seq) a after named (settled_now a.moment to ack.seq ack.kind c final p) there in
    subst (InState ack.consumer (IsSettled ack.seq)) t.new_is
    (at_settled (λ w. drops ack.consumer w ≡ false) ⊥ (InStream ack.consumer (IsSettled ack.seq)) (in_stream_fact ack.consumer (IsSettled ack.seq) (settled_kept ack.seq)) (Live (with_consumer a after)) left)

settled_in : (old new : State) (e : Event) (now : ℕ) (outs : List Out) (to : Option Bytes) (ack : Ack) → IsEvent old e now Confirmed outs new → e.what ≡ whats.Ack to ack → is_final ack.kind ≡ true
    → InState ack.consumer (IsSettled ack.seq) new
settled_in (Vacant i) new e now outs to ack x is final = absurd (none_there i e now outs new to ack x is)
settled_in (Live s) new e now outs to ack x is final = settled_after (advance s now) to ack new final (taken s e now outs new to ack x is)

pub law_talk_confirmed : LawRuns → LawTalkConfirmed
law_talk_confirmed runs = in_each_talk _ runs (λ p first to ack e now outs is what final.
    never_sent ack.consumer ack.seq (count_after p) p.new p.later p.last
    (settled_in p.old p.new e now outs to ack (step_of p e now Confirmed outs is).event what final) p.after)
