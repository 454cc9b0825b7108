-- What a record makes of what a volume held before, by a rule of this server's own.
use Rattle.std.specs.Prelude.{ℕ, ◌+◌, max, nat_le, nat_lt, Bool, not, ◌==◌, ◌&&◌, if◌then◌else◌, List, [], ◌∷◌, ◌++◌, Option, Some, None, map, filter}
use Rattle.std.specs.List.{list_any}
use Rattle.js_base.specs.Bytes.{Bytes, same}
use Rattle.js_base.specs.Moments.{plus}
use Rattle.js_model.specs.declared.stream_config.StreamConfig.{StreamConfig}
use Rattle.js_model.specs.declared.consumer_config.ConsumerConfig.{ConsumerConfig}
use Rattle.js_model.specs.declared.stream.Message.{Message}
use Rattle.js_model.specs.declared.stream.Id.{Id}
use Rattle.js_model.specs.declared.consumer.Pending.{Pending}
use Rattle.js_model.specs.declared.consumer.Consumer.{Consumer}
use Rattle.js_model.specs.Streams.{by_name, in_place_of, is_unacknowledged}
use Rattle.js_model.specs.Advance.{is_spent, all_given_up}
use Rattle.js_model.specs.Acknowledge.{without, with_due}
use Rattle.js_model.specs.Consumers.{with_new}
use Rattle.js_model.specs.Deliver.{with_pending}
use Rattle.effects.specs.Ranges.{is_within}
use Rattle.effects.specs.declared.durable.Body.{Body}
use Rattle.effects.specs.declared.durable.Durable.{Durable}
use Rattle.effects.specs.declared.effect.Effect.{Effect}
use Rattle.effects.specs.declared.effect.Effect.TheVariants.{MakeStream, ChangeStream, DropStream, PutHere, Skip, Remove, MakeConsumer, DropConsumer, Deliver, Acked, Due, GivenUp, Now}

abbrev pub vacant : ℕ → Durable
vacant i = record { incarnation = i; body = None }

abbrev pub live : ℕ → Body → Durable
live i b = record { incarnation = i; body = Some b }

-- the body, if it fits
abbrev pub live_if : ℕ → Option Body → Option Durable
live_if i None = None
live_if i (Some b) = Some (live i b)

-- ---- streams and messages

abbrev pub empty_body : ℕ → StreamConfig → Body
empty_body made config = record {
  made = made;
  moment = made;
  last = 0;
  config = config;
  messages = [];
  ids = [];
  consumers = [];
}

-- the ids with one more, if it is not empty
abbrev pub added_id : List Id → Bytes → ℕ → ℕ → List Id
added_id ids [] seq at = ids
added_id ids (byte ∷ more) seq at = ids ++ record { id = byte ∷ more; seq = seq; at = at } ∷ []

-- the sequence and the id were given
abbrev pub numbered : ℕ → ℕ → Bytes → Body → Body
numbered seq at id b = record b { last = seq; ids = added_id b.ids id seq at }

-- the sequence is the next one, and the moment the last that the stream has seen
abbrev pub is_next : ℕ → ℕ → Body → Bool
is_next seq at b = (seq == b.last + 1) && (at == b.moment)

abbrev pub put : Message → Bytes → Body → Body
put m id b = numbered m.seq m.at id (record b { messages = b.messages ++ m ∷ [] })

-- what a consumer holds of the sequences that pass
abbrev pub holding : (ℕ → Bool) → Consumer → Consumer
holding passes c = record c {
  picks = filter passes c.picks;
  pending = filter (λ p. passes p.seq) c.pending;
  given_up = filter passes c.given_up;
}

-- the messages of the sequences that pass, and what consumers hold of them
abbrev pub keeping : (ℕ → Bool) → Body → Body
keeping passes b = record b {
  messages = filter (λ m. passes m.seq) b.messages;
  consumers = map (holding passes) b.consumers;
}

abbrev pub removed : ℕ → ℕ → Body → Body
removed low high b = keeping (λ n. not (is_within low high n)) b

-- the ids that are still in the window
abbrev pub known_at : ℕ → Body → List Id
known_at moment b = filter (λ i. nat_lt moment (plus i.at b.config.duplicate_window)) b.ids

abbrev pub at_moment : ℕ → Body → Body
at_moment moment b = record b { moment = moment; ids = known_at moment b }

-- ---- consumers

abbrev pub consumer_from : Bytes → ℕ → ConsumerConfig → ℕ → List ℕ → Consumer
consumer_from name made config cursor picks = record {
  name = name;
  made = made;
  config = config;
  picks = picks;
  cursor = cursor;
  dseq = 0;
  pending = [];
  given_up = [];
  waiting = [];
  mark = made;
}

-- a consumer is added if there is none of its name
abbrev pub with_made : Body → Consumer → Option Consumer → Option Body
with_made b new None = Some (record b { consumers = with_new b.consumers new })
with_made b new (Some c) = None

abbrev pub without_consumer : Body → Option Consumer → Option Body
without_consumer b None = None
without_consumer b (Some c) = Some (record b { consumers = filter (λ d. not (same d.name c.name)) b.consumers })

abbrev pub replaced : Body → Option Consumer → Option Body
replaced b None = None
replaced b (Some new) = Some (record b { consumers = map (in_place_of new) b.consumers })

-- the sequence waits no more to be delivered, and its entry waits to be acknowledged; the consumer sequence has to be the next
abbrev pub pending_with : Pending → Consumer → List Pending
pending_with p c = if is_unacknowledged c then c.pending else with_pending c.pending p

abbrev pub delivered_to : Pending → ℕ → Consumer → Consumer
delivered_to p dseq c = record c {
  picks = filter (λ n. not (n == p.seq)) c.picks;
  cursor = max c.cursor (p.seq + 1);
  dseq = dseq;
  pending = pending_with p c;
}

abbrev pub delivered : Pending → ℕ → Option Consumer → Option Consumer
delivered p dseq None = None
delivered p dseq (Some c) = if dseq == c.dseq + 1 then Some (delivered_to p dseq c) else None

abbrev pub acked : ℕ → ℕ → Option Consumer → Option Consumer
acked low high None = None
acked low high (Some c) = Some (without (is_within low high) c)

-- the entry has to be there
abbrev pub due_at : ℕ → ℕ → Option Consumer → Option Consumer
due_at seq due None = None
due_at seq due (Some c) = if list_any (λ p. p.seq == seq) c.pending then Some (with_due seq due c) else None

abbrev pub with_given_up : ℕ → Consumer → Consumer
with_given_up moment c = record c { pending = filter (λ p. not (is_spent moment c p)) c.pending; given_up = all_given_up moment c }

abbrev pub given_up_by : ℕ → Option Consumer → Option Consumer
given_up_by moment None = None
given_up_by moment (Some c) = Some (with_given_up moment c)

-- ---- all of them

-- in a vacant place only the next stream can be made
abbrev pub fold_vacant : ℕ → Effect → Option Durable
fold_vacant i (MakeStream incarnation made config) = if incarnation == i + 1 then Some (live incarnation (empty_body made config)) else None
fold_vacant i (ChangeStream config) = None
fold_vacant i DropStream = None
fold_vacant i (PutHere seq at id subject headers payload) = None
fold_vacant i (Skip seq at id) = None
fold_vacant i (Remove low high) = None
fold_vacant i (MakeConsumer name made config cursor picks) = None
fold_vacant i (DropConsumer name) = None
fold_vacant i (Deliver name seq count due dseq) = None
fold_vacant i (Acked name low high) = None
fold_vacant i (Due name seq due) = None
fold_vacant i (GivenUp name moment) = None
fold_vacant i (Now moment) = None

-- A sequence has to be the next; a message's moment the last that the stream has seen, and a moment that it sees none that has passed; and a consumer has to
-- be there, or not to be there if it is made
abbrev pub fold_live : ℕ → Body → Effect → Option Durable
fold_live i b (MakeStream incarnation made config) = None
fold_live i b (ChangeStream config) = Some (live i (record b { config = config }))
fold_live i b DropStream = Some (vacant i)
fold_live i b (PutHere seq at id subject headers payload) =
    if is_next seq at b then Some (live i (put (record { seq = seq; at = at; subject = subject; headers = headers; payload = payload }) id b)) else None
fold_live i b (Skip seq at id) = if is_next seq at b then Some (live i (numbered seq at id b)) else None
fold_live i b (Remove low high) = Some (live i (removed low high b))
fold_live i b (MakeConsumer name made config cursor picks) = live_if i (with_made b (consumer_from name made config cursor picks) (by_name b.consumers name))
fold_live i b (DropConsumer name) = live_if i (without_consumer b (by_name b.consumers name))
fold_live i b (Deliver name seq count due dseq) = live_if i (replaced b (delivered (record { seq = seq; count = count; due = due }) dseq (by_name b.consumers name)))
fold_live i b (Acked name low high) = live_if i (replaced b (acked low high (by_name b.consumers name)))
fold_live i b (Due name seq due) = live_if i (replaced b (due_at seq due (by_name b.consumers name)))
fold_live i b (GivenUp name moment) = live_if i (replaced b (given_up_by moment (by_name b.consumers name)))
fold_live i b (Now moment) = if nat_le b.moment moment then Some (live i (at_moment moment b)) else None

abbrev pub fold_in : ℕ → Option Body → Effect → Option Durable
fold_in i None e = fold_vacant i e
fold_in i (Some b) e = fold_live i b e

-- what the record makes of it, or None if a number or a name of the record does not fit
abbrev pub fold : Durable → Effect → Option Durable
fold d e = fold_in d.incarnation d.body e

abbrev pub then_fold : Option Durable → Effect → Option Durable
then_fold None e = None
then_fold (Some d) e = fold d e

-- one record after the other
abbrev pub fold_all : List Effect → Option Durable → Option Durable
fold_all [] d = d
fold_all (e ∷ es) d = fold_all es (then_fold d e)
