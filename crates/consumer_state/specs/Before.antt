-- A consumer before time has passed for it, this server's own: what it comes to at the stream's moment, and what is read of that without doing it.
use Rattle.std.specs.Prelude.{◌≡◌, ℕ, nat_lt, Bool, true, ◌&&◌, ◌||◌, not, List, filter, unwrap_or}
use Rattle.std.specs.List.{list_any}
use Rattle.js_base.specs.Bytes.{Bytes, has}
use Rattle.js_model.specs.declared.stream.Stream.{Stream}
use Rattle.js_model.specs.declared.consumer.Consumer.{Consumer}
use Rattle.js_model.specs.declared.consumer.Pending.{Pending}
use Rattle.js_model.specs.Advance.{consumer_at, is_over, is_spent}
use Rattle.js_model.specs.Deliver.{is_due}
use Rattle.js_model.specs.Ready.{is_ready}
use Rattle.js_model.specs.Streams.{confined, is_unacknowledged, seqs}
use Rattle.consumer_need.specs.Stored.{HoldsStored}

-- the consumer at the stream's moment, which holds stored messages alone
abbrev pub current_of : Stream → Consumer → Consumer
current_of a c = consumer_at a.moment (confined (seqs a.messages) c)

-- passing time gives no delivery up and ends no pull
abbrev pub is_at : ℕ → Consumer → Bool
is_at now c = not (list_any (is_spent now c) c.pending) && not (list_any (is_over now) c.waiting)

-- then whether something can be delivered is as it was before
abbrev pub LawAt : Type 0
LawAt = (a : Stream) (c : Consumer) (listening : List Bytes) → HoldsStored a c → is_at a.moment c ≡ true → is_ready a listening (current_of a c) ≡ is_ready a listening c

-- ---- what is read of the consumer

-- the delivery goes on to wait: its message is stored, and it is not given up
abbrev pub stays : Stream → Consumer → Pending → Bool
stays a c p = has (seqs a.messages) p.seq && not (is_spent a.moment c p)

-- the delivery is due again, and its message is stored
abbrev pub is_again : Stream → Consumer → Pending → Bool
is_again a c p = has (seqs a.messages) p.seq && is_due a.moment c p

-- one more delivery may wait beside so many
abbrev pub has_room : Consumer → ℕ → Bool
has_room c count = is_unacknowledged c || nat_lt count (unwrap_or c.config.max_ack_pending 65536)

-- the picks whose messages are stored
abbrev pub stored_picks : Stream → Consumer → List ℕ
stored_picks a c = filter (has (seqs a.messages)) c.picks
