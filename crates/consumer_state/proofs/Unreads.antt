-- A delivery of a message that cannot be read is one of the machine's.
use Rattle.std.proofs.Common.{◌≡◌, ℕ, ◌+◌, ◌-◌, ◌≤◌, Bool, List, [], ◌∷◌, refl, sym, ap, arith}
use Rattle.std.specs.Prelude.{Contains, slice_get}
use Rattle.js_model.specs.declared.stream.Message.{Message}
use Rattle.js_model.specs.declared.stream.Stream.{Stream}
use Rattle.js_model.specs.declared.consumer.Consumer.{Consumer}
use Rattle.js_model.specs.declared.consumer.Pull.{Pull}
use Rattle.js_model.specs.declared.entry.Delivered.{Delivered}
use Rattle.js_model.specs.declared.entry.Delivered.TheVariants.{Sent, TooSmall as EndedSmall}
use Rattle.js_model.specs.Advance.{status_out}
use Rattle.js_model.specs.Counts.{pending_count}
use Rattle.js_model.specs.Deliver.{address, candidates, count_of, sent_to, small_block}
use Rattle.js_model.specs.Streams.{sent_size}
use Rattle.pull_queue.specs.Fronts.{after_front}
use Rattle.stream_view.specs.Heads.{MessageHead, head_of}
use Rattle.consumer_texts.specs.Deliveries.{delivery_of}
use Rattle.consumer_state.specs.declared.delivering.Demand.TheVariants.{Asked, TooSmall}
use Rattle.consumer_state.specs.Delivering.{demand_of, facts_of, front_demand, left_after}
use Rattle.consumer_state.specs.Unread.{EndsUnread, IsMadeUnread}
use Rattle.consumer_state.proofs.Deliveries.{sent_made, small_made}
use Rattle.consumer_state.proofs.Steps.{small_ends, small_has}

-- the bytes that are sent of a message are told by what is seen of it
pub bytes_are : (head : MessageHead) (m : Message) → head ≡ head_of m → head.size - 40 ≡ sent_size m
bytes_are head m e = let k : head.size ≡ sent_size m + 40 = ap (λ h. h.size) e in let bytes : ℕ = sent_size m in omega arith

pub least_size : (head : MessageHead) (m : Message) → head ≡ head_of m → 40 ≤ head.size
least_size head m e = let k : head.size ≡ sent_size m + 40 = ap (λ h. h.size) e in omega arith

pub sent_unread : (a : Stream) (listened : Bool) (m : Message) (head : MessageHead) (old : Consumer) (what : Delivered) (new : Consumer) → head ≡ head_of m → Contains (candidates a old) m
    → demand_of listened old (sent_size m) ≡ Asked → pending_count a (sent_to a.moment m old) ≡ left_after old m (pending_count a old) → what ≡ Sent m.seq (count_of old m.seq + 1) (old.dseq + 1)
    → new ≡ sent_to a.moment m old → IsMadeUnread a listened head old what new
sent_unread a listened m head old what new e candidate asked left what_is after_is = record {
  message = m;
  head_is = e;
  sent = delivery_of (facts_of a.config.name old m (pending_count a old)) (address old) m ∷ [];
  made =
      sent_made a listened m (pending_count a old) old what [] (delivery_of (facts_of a.config.name old m (pending_count a old)) (address old) m ∷ []) new candidate asked left
      (record { what_is = what_is; after_is = after_is; outs_are = refl });
}

pub small_unread : (a : Stream) (listened : Bool) (m : Message) (head : MessageHead) (old : Consumer) (what : Delivered) (new : Consumer) → head ≡ head_of m → Contains (candidates a old) m
    → demand_of listened old (sent_size m) ≡ TooSmall → EndsUnread old what new → IsMadeUnread a listened head old what new
small_unread a listened m head old what new e candidate demand w = record {
  message = m;
  head_is = e;
  sent = w.sent;
  made = small_made a listened m (pending_count a old) old what [] w.sent new candidate demand refl w.ends;
}

pub ends_unread : (v s : Consumer) → v ≡ s → (size now : ℕ) (after : List Pull) → front_demand s.waiting size ≡ TooSmall → after ≡ after_front size now v.waiting → EndsUnread s EndedSmall (record v { waiting = after })
ends_unread v s k size now after small left = go v.waiting refl
  where
    go : (ps : List Pull) → v.waiting ≡ ps → EndsUnread s EndedSmall (record v { waiting = after })
    go [] e = absurd (small_has v s k size small (sym (ap (λ ps. slice_get ps 0) e)))
    go (p ∷ ps) e = record {
      sent = status_out p.reply (small_block p) ∷ [];
      ends = small_ends v s k size now p after [] (status_out p.reply (small_block p) ∷ []) small (sym (ap (λ ps. slice_get ps 0) e)) left refl;
    }
