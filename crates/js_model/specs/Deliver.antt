-- Which messages may be delivered to a consumer and what a delivery does, by JetStream's pull and push consumers.
use Rattle.std.specs.Prelude.{◌≡◌, ℕ, max, ◌+◌, ◌-◌, ◌^◌, nat_le, nat_lt, Bool, true, false, ◌&&◌, ◌||◌, not, ◌==◌, IsTrue, List, [], ◌∷◌, ◌++◌, length, filter, take, if◌then◌else◌, Option, Some, None, unwrap_or, codes, decimal, find, Contains}
use Rattle.std.specs.List.{list_any}
use Rattle.js_base.specs.Bytes.{Bytes, same}
use Rattle.js_base.specs.Moments.{plus}
use Rattle.js_base.specs.Status.{status}
use Rattle.js_base.specs.declared.out.Out.{Out}
use Rattle.js_model.specs.declared.stream.Message.{Message}
use Rattle.js_model.specs.declared.stream.Stream.{Stream}
use Rattle.js_model.specs.declared.stream.State.{State}
use Rattle.js_model.specs.declared.stream.State.TheVariants.{Vacant, Live}
use Rattle.js_model.specs.declared.consumer.Pending.{Pending}
use Rattle.js_model.specs.declared.consumer.Pull.{Pull}
use Rattle.js_model.specs.declared.consumer.Consumer.{Consumer}
use Rattle.js_model.specs.declared.entry.Delivered.{Delivered}
use Rattle.js_model.specs.declared.entry.Delivered.TheVariants.{Sent, TooSmall, Emptied}
use Rattle.js_model.specs.declared.entry.Delivery.{Delivery}
use Rattle.js_model.specs.Streams.{takes, is_push, is_unacknowledged, below_limit, sent_size, by_name, with_consumer}
use Rattle.js_model.specs.Advance.{advance, advance_outs, status_out, left_fields}
use Rattle.js_model.specs.Retention.{kept}
use Rattle.js_model.specs.Counts.{pending_count}

-- ---- candidates

-- a delivery that is due again
abbrev pub is_due : ℕ → Consumer → Pending → Bool
is_due now c p = nat_le p.due now && below_limit p.count c.config.max_deliver

abbrev pub due_messages : Stream → Consumer → List Message
due_messages a c = filter (λ m. list_any (λ p. p.seq == m.seq && is_due a.moment c p) c.pending) a.messages

-- the message of the first pick, or the least one from the cursor on that the filter matches
abbrev pub next_message : List ℕ → Stream → Consumer → List Message
next_message [] a c = take 1 (filter (λ m. takes c m && nat_le c.cursor m.seq) a.messages)
next_message (pick ∷ _) a c = filter (λ m. m.seq == pick) a.messages

-- there is room for one more delivery that waits
abbrev pub may_wait : Consumer → Bool
may_wait c = is_unacknowledged c || nat_lt (length c.pending) (unwrap_or c.config.max_ack_pending 65536)

abbrev pub or_next : List Message → Stream → Consumer → List Message
or_next [] a c = if may_wait c then next_message c.picks a c else []
or_next (m ∷ ms) a c = m ∷ ms

-- the messages of which any may be sent now
unfoldable pub candidates : Stream → Consumer → List Message
candidates a c = if nat_lt c.dseq (2 ^ 62 - 1) then or_next (due_messages a c) a c else []

-- ---- what a delivery does

-- how often a sequence was delivered, as far as it waits
abbrev pub count_of : Consumer → ℕ → ℕ
count_of c n = count_or_zero (find (λ p. p.seq == n) c.pending)
  where
    count_or_zero : Option Pending → ℕ
    count_or_zero None = 0
    count_or_zero (Some p) = p.count

-- the pending entries with this one in its place
abbrev pub with_pending : List Pending → Pending → List Pending
with_pending [] new = new ∷ []
with_pending (p ∷ ps) new = if nat_lt p.seq new.seq then p ∷ with_pending ps new else (if p.seq == new.seq then new ∷ ps else new ∷ p ∷ ps)

-- a pull after a message of this many bytes
abbrev pub served : ℕ → ℕ → Pull → Pull
served now bytes p = record p { batch = p.batch - 1; bytes = less p.bytes; mark = now }
  where
    less : Option ℕ → Option ℕ
    less None = None
    less (Some limit) = Some (limit - bytes)

-- the first pull is served, and ends when its batch is reached
abbrev pub front_served : ℕ → ℕ → List Pull → List Pull
front_served now bytes [] = []
front_served now bytes (p ∷ ps) = if nat_le p.batch 1 then ps else served now bytes p ∷ ps

-- the entry of a delivery, but for a consumer whose deliveries are not acknowledged
abbrev pub pending_after : ℕ → Message → Consumer → List Pending
pending_after now m c =
    if is_unacknowledged c then c.pending else with_pending c.pending (record { seq = m.seq; count = count_of c m.seq + 1; due = plus now c.config.ack_wait })

-- the consumer after a delivery: the sequence is no pick any more and lies below the cursor
abbrev pub sent_to : ℕ → Message → Consumer → Consumer
sent_to now m c = record c {
  picks = filter (λ n. not (n == m.seq)) c.picks;
  cursor = max c.cursor (m.seq + 1);
  dseq = c.dseq + 1;
  pending = pending_after now m c;
  waiting = front_served now (sent_size m) c.waiting;
  mark = if is_push c then now else c.mark;
}

-- where a delivery goes: to the deliver subject, or to the first pull
abbrev pub address : Consumer → Bytes
address c = if is_push c then c.config.deliver_subject else front c.waiting
  where
    front : List Pull → Bytes
    front [] = []
    front (p ∷ _) = p.reply

-- the subject to which the delivery is acknowledged
abbrev pub ack_subject : Stream → Consumer → Message → ℕ → Bytes
ack_subject a c m count =
    codes "$JS.ACK." ++ a.config.name ++ codes "." ++ c.name ++ codes "." ++ decimal count ++ codes "." ++ decimal m.seq ++ codes "." ++ decimal c.dseq ++ codes "." ++ decimal m.at ++ codes "." ++ decimal (pending_count a c)

-- the output of a delivery to the consumer old, which is new after it
abbrev pub delivery_out : Stream → Consumer → Consumer → Message → ℕ → Out
delivery_out a old new m count = record {
  to = address old;
  subject = m.subject;
  reply = Some (ack_subject a new m count);
  headers = m.headers;
  payload = m.payload;
}

abbrev pub fits : ℕ → Option ℕ → Bool
fits bytes None = true
fits bytes (Some limit) = nat_le bytes limit

-- the first pull allows a message of this many bytes
abbrev pub front_allows : List Pull → ℕ → Bool
front_allows [] bytes = false
front_allows (p ∷ _) bytes = fits bytes p.bytes

abbrev pub is_listened : List Bytes → Consumer → Bool
is_listened listening c = list_any (λ name. same name c.name) listening

-- somebody asks for a message of this many bytes
abbrev pub is_wanted : List Bytes → Consumer → ℕ → Bool
is_wanted listening c bytes = if is_push c then is_listened listening c else front_allows c.waiting bytes

-- the list without its first element that passes
abbrev pub without_first : {X : Type 0} → (X → Bool) → List X → List X
without_first test [] = []
without_first test (x ∷ xs) = if test x then xs else x ∷ without_first test xs

abbrev pub small_block : Pull → Bytes
small_block p = status 409 (codes "Message Size Exceeds MaxBytes") (left_fields p)

abbrev pub empty_block : Bytes
empty_block = status 404 (codes "No Messages") []

-- ---- the three cases

-- some candidate is sent
pub record IsSent (a : Stream) (listening : List Bytes) (c : Consumer) (seq count dseq : ℕ) (outs : List Out) (after : Consumer) : Type 0 where
  pub message : Message
  pub candidate : Contains (candidates a c) message
  pub seq_is : seq ≡ message.seq
  pub wanted : IsTrue (is_wanted listening c (sent_size message))
  pub count_is : count ≡ count_of c message.seq + 1
  pub dseq_is : dseq ≡ c.dseq + 1
  pub after_is : after ≡ sent_to a.moment message c
  pub outs_are : outs ≡ delivery_out a c (sent_to a.moment message c) message count ∷ []

-- the first pull is too small for some candidate, and ends
pub record IsTooSmall (a : Stream) (c : Consumer) (outs : List Out) (after : Consumer) : Type 0 where
  pub message : Message
  pub front : Pull
  pub rest : List Pull
  pub candidate : Contains (candidates a c) message
  pub pull : is_push c ≡ false
  pub waiting_is : c.waiting ≡ front ∷ rest
  pub small : fits (sent_size message) front.bytes ≡ false
  pub after_is : after ≡ record c { waiting = rest }
  pub outs_are : outs ≡ status_out front.reply (small_block front) ∷ []

-- there is nothing for the first pull that does not wait, and it ends
pub record IsEmptied (a : Stream) (c : Consumer) (outs : List Out) (after : Consumer) : Type 0 where
  pub pull : Pull
  pub none : candidates a c ≡ []
  pub first : find (λ p. p.no_wait) c.waiting ≡ Some pull
  pub after_is : after ≡ record c { waiting = without_first (λ p. p.no_wait) c.waiting }
  pub outs_are : outs ≡ status_out pull.reply empty_block ∷ []

abbrev pub Delivers : Stream → List Bytes → Consumer → Delivered → List Out → Consumer → Type 0
Delivers a listening c (Sent seq count dseq) outs after = IsSent a listening c seq count dseq outs after
Delivers a listening c TooSmall outs after = IsTooSmall a c outs after
Delivers a listening c Emptied outs after = IsEmptied a c outs after

-- a delivery to a consumer of the stream, at its moment
pub record IsDelivery (s : Stream) (now : ℕ) (listening : List Bytes) (d : Delivery) (outs : List Out) (new : State) : Type 0 where
  pub consumer : Consumer
  pub after : Consumer
  pub own : List Out
  pub found : by_name (advance s now).consumers d.consumer ≡ Some consumer
  pub delivers : Delivers (advance s now) listening consumer d.what own after
  pub outs_are : outs ≡ advance_outs s now ++ own
  pub new_is : new ≡ Live (kept (with_consumer (advance s now) after))

abbrev pub IsDelivered : State → ℕ → List Bytes → Delivery → List Out → State → Type 0
IsDelivered (Vacant i) now listening d outs new = ⊥
IsDelivered (Live s) now listening d outs new = IsDelivery s now listening d outs new
